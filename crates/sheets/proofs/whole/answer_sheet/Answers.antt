use Rattle.std.proofs.Common.{◌≡◌, [], IfOk, leb, length, map, subst, ap, ◌∙◌}
use Rattle.cache.specs.declared.layer.Cache.{Cache}
use Rattle.listing.specs.declared.listing.Listing.{Listing}
use Rattle.listing.specs.Entries.{rows}
use Rattle.listing.specs.Meanings.{listed}
use Rattle.settings.specs.Meant.{tables}
use Rattle.settings.specs.Tables.{unset}
use Rattle.texts.specs.Parts.{parts}
use Rattle.texts.specs.Texts.{Text}
use Rattle.tree.specs.Acceptances.{Allowed}
use Rattle.tree.specs.declared.part_count.PartCount.{PartCount}
use Rattle.sheets.specs.Reading.{State, after_sheet}
use Rattle.sheets.specs.Tasks.{task_in}
use Rattle.sheets.proofs.Lawful.{closed_stay, forgetting_unseen, later_add, lookup_closes}
use Rattle.sheets.proofs.Wholes.{whole_told}
use Rattle.sheets.proofs.whole.answer_sheet.Goals as goal

pub returns-clause-rows_of_the_sheet : goal.returns-clause-rows_of_the_sheet
returns-clause-rows_of_the_sheet c =
    let sheet = c.args.sheet.now in
    let s : State = after_sheet [] unset sheet in
    let read = c.in_ok-tasks.ensures in
    let made = c.new-resolver.ensures.with_what_was_given in
    let same : after_sheet (rows c.new-listing.result) (tables c.new-settings.result) sheet ≡ s = (λ i. after_sheet (c.new-listing.ensures.no_lines i) (c.new-settings.ensures.nothing_is_set i) sheet) in
    let lines : rows c.new-resolver.result.host.below ≡ s.rows =
    ap (λ (h : Cache Listing). rows h.below) made.1 ∙ ap rows c.new.ensures.below_as_given ∙ read.listing_filled_line_after_line ∙ ap (λ (x : State). x.rows) same in
    let settings : tables c.new-resolver.result.settings ≡ s.tables = ap tables made.0 ∙ read.settings_filled_line_after_line ∙ ap (λ (x : State). x.tables) same in
    let todo : map (task_in sheet) c.as_slice.result.now ≡ s.todo =
    ap (map (task_in sheet)) c.as_slice.ensures.value ∙ read.all_else_left_to_do ∙ ap (λ (x : State). x.todo) same in
    let policy : PartCount → Allowed = λ p path. leb (length (parts path)) p.max in
    let told = whole_told _ _ _ _ s (ap listed lines) (ap policy made.2) settings todo in
    subst (λ (x : Text). IfOk c.answer.result (λ r. r.items ≡ x)) told c.answer.ensures.row_behind_row

pub returns-in_err-tasks-clause-a_lookup_closes_the_tables : goal.returns-in_err-tasks-clause-a_lookup_closes_the_tables
returns-in_err-tasks-clause-a_lookup_closes_the_tables c = λ s line k is kind. lookup_closes s line k is kind

pub returns-in_err-tasks-clause-closed_tables_stay : goal.returns-in_err-tasks-clause-closed_tables_stay
returns-in_err-tasks-clause-closed_tables_stay c = λ s lines h. closed_stay s lines h

pub returns-in_err-tasks-clause-later_lines_only_add : goal.returns-in_err-tasks-clause-later_lines_only_add
returns-in_err-tasks-clause-later_lines_only_add c = λ s lines. later_add s lines

pub returns-in_err-tasks-clause-forgetting_never_shows : goal.returns-in_err-tasks-clause-forgetting_never_shows
returns-in_err-tasks-clause-forgetting_never_shows c = λ m allowed t before behind. forgetting_unseen m allowed t before behind

pub returns-clause-a_lookup_closes_the_tables : goal.returns-clause-a_lookup_closes_the_tables
returns-clause-a_lookup_closes_the_tables c = λ s line k is kind. lookup_closes s line k is kind

pub returns-clause-closed_tables_stay : goal.returns-clause-closed_tables_stay
returns-clause-closed_tables_stay c = λ s lines h. closed_stay s lines h

pub returns-clause-later_lines_only_add : goal.returns-clause-later_lines_only_add
returns-clause-later_lines_only_add c = λ s lines. later_add s lines

pub returns-clause-forgetting_never_shows : goal.returns-clause-forgetting_never_shows
returns-clause-forgetting_never_shows c = λ m allowed t before behind. forgetting_unseen m allowed t before behind
