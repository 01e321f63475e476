use Rattle.std.proofs.Common.{◌≡◌, true, length, None, sym, refl, ap, ◌∙◌, subst}
use Rattle.std.proofs.lemmas.Bool.{le-leb}
use Rattle.texts.specs.Parts.{parts}
use Rattle.texts.specs.Texts.{fits}
use Rattle.tree.specs.Meanings.{Meaning}
use Rattle.cache.specs.Held.{Agrees, held}
use Rattle.cache.specs.Seen.{recalled, remember}
use Rattle.cache.proofs.Agreement.{agrees_recalled, agrees_remember, asked_held, asked_not_held, renewed_none, renewed_some}
use Rattle.cache.proofs.layer.CacheFileTree.kind.Goals as goal

pub returns-in-Some : goal.returns-in-Some
returns-in-Some g c =
    let t = c.args.path.now in
    let p = parts t in
    let es = held c.args.self.now.recent in
    let tree = (g.H.FileTree.meaning c.args.self.now.below).kind in
    let k = c.in-Some.kind in
    let short : fits t ≡ true = le-leb (length t) 255 c.if-path-gt-MAX_LEN.false in
    let known = sym c.in-Some.ensures.kind_if_held in
    let is : k ≡ tree p = agrees_recalled p tree es k c.requires.sound.1 known in
    let new : held c.recall.new.self ≡ remember p k es = c.in-Some.ensures.becomes_the_latest ∙ renewed_some p es k known in
    record {
      answer_by_the_meaning = is;
      same_meaning = refl;
      still_sound = (c.requires.sound.0, subst (Agrees tree) (sym new) (agrees_remember p tree es k is c.requires.sound.1));
      steps_on = asked_held tree t es _ short k is new known refl;
    }

pub returns : goal.returns
returns g c =
    let t = c.args.path.now in
    let p = parts t in
    let es = held c.args.self.now.recent in
    let tree = (g.H.FileTree.meaning c.args.self.now.below).kind in
    let k = c.kind-kind.result in
    let short : fits t ≡ true = le-leb (length t) 255 c.if-path-gt-MAX_LEN.false in
    let none : recalled p es ≡ None = sym c.in_default.ensures.kind_if_held in
    let kept : held c.recall.new.self ≡ es = c.in_default.ensures.becomes_the_latest ∙ renewed_none p es none in
    let is : k ≡ tree p = c.kind-kind.ensures.answer_by_the_meaning in
    let new : held c.remember.new.self ≡ remember p k es =
    c.remember.ensures.becomes_the_latest ∙ ap (remember p k) kept in
    let agrees : Agrees tree (held c.remember.new.self) = subst (Agrees tree) (sym new) (agrees_remember p tree es k is c.requires.sound.1) in
    record {
      answer_by_the_meaning = is;
      same_meaning = c.kind-kind.ensures.same_meaning;
      still_sound = (c.kind-kind.ensures.still_sound, subst (λ (m : Meaning). Agrees m.kind (held c.remember.new.self)) (sym c.kind-kind.ensures.same_meaning) agrees);
      steps_on = asked_not_held tree t es _ short k is new none c.kind-kind.ensures.steps_on;
    }
