use Rattle.std.proofs.Common.{◌≡◌, ◌+◌, ◌-◌, ◌<◌, List, [], ◌∷◌, ◌++◌, length, map, reverse, None, sym, ap, subst, ◌∙◌, arith}
use Rattle.std.proofs.Math.Path.{transport}
use Rattle.stack.specs.Items.{capacity, items}
use Rattle.settings.specs.Meant.{tables}
use Rattle.texts.specs.Parts.{text_at}
use Rattle.texts.specs.declared.place.Place.{Place}
use Rattle.lookup.specs.declared.calls.OpenCall.{OpenCall}
use Rattle.lookup.specs.declared.calls.Stage.TheVariants as stage
use Rattle.lookup.specs.Calls.{again, plugged}
use Rattle.lookup.specs.Moves.{rounds_left, weights}
use Rattle.lookup.specs.Opened.{Short, ended, shown}
use Rattle.lookup.specs.Towers.{Tower, piled}
use Rattle.lookup.specs.Turns.{Moved, rows_of}
use Rattle.lookup.proofs.Areas.{text_in_front_stays}
use Rattle.lookup.proofs.Piles.{none_on_top, top_off}
use Rattle.lookup.proofs.Towers.{fewer, same_end, told_short, tower_low, tower_then}
use Rattle.lookup.proofs.calls.run.run.Goals as goal

pub step-next-requires-clause-placed : goal.step-next-requires-clause-placed
step-next-requires-clause-placed g c =
    let popped : piled c.loop-row.table ≡ c.in-Some.row ∷ piled c.pop.new.self = top_off (items c.loop-row.table) c.in-Some.row (items c.pop.new.self) c.in-Some.ensures.top_item c.in-Some.ensures.items_after in
    (subst (Tower c.loop-row.context.rounds) popped c.loop-row.invariant.tower).0

pub step-next-requires-clause-begun : goal.step-next-requires-clause-begun
step-next-requires-clause-begun g c =
    let popped : piled c.loop-row.table ≡ c.in-Some.row ∷ piled c.pop.new.self = top_off (items c.loop-row.table) c.in-Some.row (items c.pop.new.self) c.in-Some.ensures.top_item c.in-Some.ensures.items_after in
    (subst (Tower c.loop-row.context.rounds) popped c.loop-row.invariant.tower).1

pub put_on-back-requires-in-Some : goal.put_on-back-requires-in-Some
put_on-back-requires-in-Some g c =
    let popped : piled c.loop-row.table ≡ c.in-Some.row ∷ piled c.pop.new.self = top_off (items c.loop-row.table) c.in-Some.row (items c.pop.new.self) c.in-Some.ensures.top_item c.in-Some.ensures.items_after in
    let tower = subst (Tower c.loop-row.context.rounds) popped c.loop-row.invariant.tower in
    let moved = c.step-next.ensures.one_move_of_the_call in
    let then = tower_then c.loop-row.context.rounds c.step-next.result.1.rounds c.in-Some.row (piled c.pop.new.self) c.step-next.result.0 tower moved.later moved.kept in
    let many : capacity c.pop.new.self ≡ length c.args.rows.now = c.in-Some.ensures.same_capacity ∙ c.loop-row.invariant.same_rows ∙ c.put_on-back.ensures.same_capacity ∙ c.new-table.ensures.capacity_is_the_slots in
    record { room = omega (arith, tower_low c.step-next.result.1.rounds (rows_of c.step-next.result.0 ++ piled c.pop.new.self) then, moved.sound.few, many, c.requires.rows) }

pub loop-row-smaller : goal.loop-row-smaller
loop-row-smaller g c =
    let m = g.H.FileTree.meaning c.loop-row.host in
    let allowed = g.P.Policy.allowed c.args.policy.now in
    let t = tables c.args.settings.now in
    let w = c.loop-row.work in
    let u = c.step-next.new.work in
    let k = c.loop-row.context in
    let d = c.step-next.result.1 in
    let popped : piled c.loop-row.table ≡ c.in-Some.row ∷ piled c.pop.new.self = top_off (items c.loop-row.table) c.in-Some.row (items c.pop.new.self) c.in-Some.ensures.top_item c.in-Some.ensures.items_after in
    let tower = subst (Tower k.rounds) popped c.loop-row.invariant.tower in
    transport (λ i. weights t (map (shown (sym c.step-next.ensures.same_meaning i) t u) (sym c.put_on-back-in-Some.ensures.calls_on_top i)) + rounds_left t (c.args.limit - d.rounds) < weights t (map (shown m t w) (sym popped i)) + rounds_left t (c.args.limit - k.rounds))
    (fewer m allowed t c.args.limit w u c.in-Some.row (piled c.pop.new.self) c.loop-row.back k d c.step-next.result.0 tower c.step-next.ensures.one_move_of_the_call)

pub loop-row-preserved : goal.loop-row-preserved
loop-row-preserved g c =
    let m = g.H.FileTree.meaning c.args.host.now in
    let allowed = g.P.Policy.allowed c.args.policy.now in
    let t = tables c.args.settings.now in
    let w = c.loop-row.work in
    let u = c.step-next.new.work in
    let k = c.loop-row.context in
    let d = c.step-next.result.1 in
    let row = c.in-Some.row in
    let rest = piled c.pop.new.self in
    let move = c.step-next.result.0 in
    let popped : piled c.loop-row.table ≡ row ∷ rest = top_off (items c.loop-row.table) row (items c.pop.new.self) c.in-Some.ensures.top_item c.in-Some.ensures.items_after in
    let tower = subst (Tower k.rounds) popped c.loop-row.invariant.tower in
    let moved : Moved m allowed t c.args.limit w row c.loop-row.back k move u d = transport (λ i. Moved (c.loop-row.invariant.same_meaning i) allowed t c.args.limit w row c.loop-row.back k move u d) c.step-next.ensures.one_move_of_the_call in
    let then = tower_then k.rounds d.rounds row rest move tower moved.later moved.kept in
    let on = c.put_on-back-in-Some.ensures.calls_on_top in
    record {
      sound = c.step-next.ensures.still_sound;
      same_meaning = c.step-next.ensures.same_meaning ∙ c.loop-row.invariant.same_meaning;
      same_area = moved.long ∙ c.loop-row.invariant.same_area;
      same_rows = c.put_on-back-in-Some.ensures.same_capacity ∙ c.in-Some.ensures.same_capacity ∙ c.loop-row.invariant.same_rows;
      sound_context = moved.sound;
      short_back = subst Short (sym c.put_on-back-in-Some.ensures.told_to_the_top) (told_short move (moved.short c.loop-row.invariant.short_back));
      tower = subst (Tower d.rounds) (sym on) then;
      same_end =
          (λ i. plugged m allowed t c.args.limit (map (shown m t u) (on i)) (ended u t.aliases (c.put_on-back-in-Some.ensures.told_to_the_top i) d))
          ∙ same_end m allowed t c.args.limit w u row rest c.loop-row.back k d move tower moved
          ∙ (λ i. plugged m allowed t c.args.limit (map (shown m t w) (sym popped i)) (ended w t.aliases c.loop-row.back k))
          ∙ c.loop-row.invariant.same_end;
    }

pub returns-clause-ends_as_defined : goal.returns-clause-ends_as_defined
returns-clause-ends_as_defined g c =
    let m = g.H.FileTree.meaning c.args.host.now in
    let allowed = g.P.Policy.allowed c.args.policy.now in
    let t = tables c.args.settings.now in
    let w = c.put-text.new.work in
    let empty : piled c.loop-row.table ≡ [] = none_on_top (items c.loop-row.table) c.in_default.ensures.top_item in
    let first : text_at w c.put-directory.result ≡ c.args.directory.now =
    text_in_front_stays 1 c.put-directory.new.work w c.put-directory.result c.put-text.ensures.only_its_unit_is_written (omega (arith, ap (λ (p : Place). p.start) c.put-directory.ensures.place_in_its_unit, ap (λ (p : Place). p.len) c.put-directory.ensures.place_in_its_unit, c.requires.short_directory))
    ∙ c.put-directory.ensures.text_in_its_place in
    let second : text_at w c.put-text.result ≡ c.args.request.now = c.put-text.ensures.text_in_its_place in
    let call : OpenCall = record { asked = record { round = 0; directory = c.put-directory.result; text = c.put-text.result }; stage = stage.Require } in
    let begun : piled c.put_on-back.new.table ≡ call ∷ [] = c.put_on-back.ensures.calls_on_top ∙ ap (λ (rows : List OpenCall). call ∷ reverse rows) c.new-table.ensures.no_items in
    let fully = c.fully_specified.ensures.flag_as_set in
    (λ i. plugged m allowed t c.args.limit (map (shown m t c.loop-row.work) (sym empty i)) (ended c.loop-row.work t.aliases c.loop-row.back c.loop-row.context))
    ∙ c.loop-row.invariant.same_end
    ∙ (λ i. plugged m allowed t c.args.limit (map (shown m t w) (begun i)) (ended w t.aliases (c.put_on-back.ensures.told_to_the_top i) (c.fresh-context.ensures.no_round_and_no_marks i)))
    ∙ (λ i. again m allowed t c.args.limit (first i) (second i) (record { rounds = 0; fully = fully i; query = None; fragment = None }))
