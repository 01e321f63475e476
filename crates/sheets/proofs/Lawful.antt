-- The laws of sheets. Assumes nothing.
use Rattle.std.proofs.Common.{◌≡◌, Bool, true, false, ◌||◌, cond, eqb, List, [], ◌∷◌, ◌++◌, Some, None, Option, sym, refl, ap, ◌∙◌, append_assoc, eq-eqb}
use Rattle.std.proofs.lemmas.Bool.{cond-true, false≢true}
use Rattle.std.proofs.lemmas.List.{append-nil}
use Rattle.texts.specs.Texts.{Text}
use Rattle.lines.specs.Sheets.{Content, content_of}
use Rattle.tree.specs.Acceptances.{Allowed}
use Rattle.tree.specs.Meanings.{Meaning}
use Rattle.settings.specs.Tables.{Tables}
use Rattle.sheets.specs.Reading.{State, after_asked, after_entry, after_line, after_lines, telling}
use Rattle.sheets.specs.Entries.{closed_refusal, entry_refusal}
use Rattle.sheets.specs.Rows.{row_of, rows_of}
use Rattle.sheets.specs.Tasks.{Todo, asked_by, forget, letting_go, resolve, tell}

any_true : (b : Bool) → (b || true) ≡ true
any_true true = refl
any_true false = refl

pub lookup_closes : (s : State) (line : Text) (c : Content) → content_of line ≡ Some c → c.kind ≡ 40
    → ◌≡◌ {A = State} (after_line s line) (record { rows = s.rows; tables = s.tables; closed = true; todo = s.todo ++ resolve c.first c.second ∷ [] })
lookup_closes s line c is kind =
    let asked : asked_by (content_of line) ≡ Some (resolve c.first c.second) =
    ap asked_by is ∙ cond-true (eqb c.kind 40) (Some (resolve c.first c.second)) (cond (eqb c.kind 41) (Some (letting_go c.first c.second)) None) (eq-eqb c.kind 40 kind) in
    ap (λ (o : Option Todo). after_asked o s line) asked
    ∙ (λ i. record { rows = s.rows; tables = s.tables; closed = any_true s.closed i; todo = s.todo ++ resolve c.first c.second ∷ [] })

-- closed tables after one line
abbrev Stays : State → State → Type 0
Stays s t = (t.closed ≡ true) × (t.rows ≡ s.rows) × (t.tables ≡ s.tables)

entry_stays : (b : Bool) (s : State) (line : Text) → b ≡ true → Stays s (after_entry b s line)
entry_stays true s line h = (refl, refl, refl)
entry_stays false s line h = absurd (false≢true h)

line_stays : (o : Option Todo) (s : State) (line : Text) → s.closed ≡ true → Stays s (after_asked o s line)
line_stays (Some a) s line h = (any_more s.closed _ h, refl, refl)
  where
    any_more : (b c : Bool) → b ≡ true → (b || c) ≡ true
    any_more true c e = refl
    any_more false c e = absurd (false≢true e)
line_stays None s line h = entry_stays s.closed s line h

pub closed_stay : (s : State) (lines : List Text) → s.closed ≡ true → Stays s (after_lines s lines)
closed_stay s [] h = (h, refl, refl)
closed_stay s (line ∷ lines) h =
    let one = line_stays (asked_by (content_of line)) s line h in
    let more = closed_stay (after_line s line) lines one.0 in
    (more.0, more.1 ∙ one.1, more.2 ∙ one.2)

-- what one line adds
abbrev Adds : State → State → Type 0
Adds s t = (more : List Todo) × (t.todo ≡ s.todo ++ more)

entry_adds : (b : Bool) (s : State) (line : Text) → Adds s (after_entry b s line)
entry_adds true s line = (tell (closed_refusal (entry_refusal s.rows s.tables line)) ∷ [], refl)
entry_adds false s line = (telling (entry_refusal s.rows s.tables line), refl)

line_adds : (o : Option Todo) (s : State) (line : Text) → Adds s (after_asked o s line)
line_adds (Some a) s line = (a ∷ [], refl)
line_adds None s line = entry_adds s.closed s line

pub later_add : (s : State) (lines : List Text) → Adds s (after_lines s lines)
later_add s [] = ([], sym (append-nil s.todo))
later_add s (line ∷ lines) =
    let one = line_adds (asked_by (content_of line)) s line in
    let more = later_add (after_line s line) lines in
    (one.0 ++ more.0, more.1 ∙ ap (λ (xs : List Todo). xs ++ more.0) one.1 ∙ append_assoc s.todo one.0 more.0)

pub forgetting_unseen : (m : Meaning) (allowed : Allowed) (t : Tables) (before behind : List Todo) → rows_of m allowed t (before ++ forget ∷ behind) ≡ rows_of m allowed t (before ++ behind)
forgetting_unseen m allowed t [] behind = refl
forgetting_unseen m allowed t (a ∷ before) behind = ap (λ (x : Text). row_of m allowed t a ++ x) (forgetting_unseen m allowed t before behind)
