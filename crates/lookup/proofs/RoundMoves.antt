-- The first moves of a round. Assumes nothing.
use Rattle.std.proofs.Common.{◌≡◌, ℕ, ◌+◌, ◌*◌, ◌<◌, ◌≤◌, List, ◌++◌, length, Some, None, Err, sym, refl, ap, subst, ◌∙◌, arith}
use Rattle.std.proofs.lemmas.Bool.{le-leb, lt-leb}
use Rattle.std.specs.Option.{option_map}
use Rattle.texts.specs.declared.place.Place.{Place}
use Rattle.texts.specs.Texts.{Text}
use Rattle.texts.specs.Parts.{text_at}
use Rattle.tree.specs.Acceptances.{Allowed}
use Rattle.tree.specs.Meanings.{Meaning}
use Rattle.settings.specs.Tables.{Alias, Tables}
use Rattle.alias.specs.declared.attempts.Progress.{Progress}
use Rattle.alias.specs.Attempts.{Attempt, attempts}
use Rattle.alias.specs.Left.{left}
use Rattle.lookup.specs.declared.calls.Fault.TheVariants as told
use Rattle.lookup.specs.declared.calls.ResolveContext.{ResolveContext}
use Rattle.lookup.specs.declared.calls.Asked.{Asked}
use Rattle.lookup.specs.declared.calls.OpenCall.{OpenCall}
use Rattle.lookup.specs.declared.calls.Move.TheVariants.{Open, Return, Stay}
use Rattle.lookup.specs.Areas.{OnlyIn, place_in}
use Rattle.lookup.specs.Calls.{again, labelled, marked, resumed}
use Rattle.lookup.specs.Lookups.{missed, with_fragment, with_marks}
use Rattle.lookup.specs.Marks.{marked_context}
use Rattle.lookup.specs.Moves.{attempts_most}
use Rattle.lookup.specs.Opened.{MarkIn, MarksIn, context_of, first_unit, free_unit}
use Rattle.lookup.specs.Turns.{Begins, Follows, Labelled, height, labels_row, marked_row, marks_end, with_text}
use Rattle.lookup.proofs.Areas.{front_stays, mark_stays, text_in_front_stays}
use Rattle.lookup.proofs.Bounds.{attempts_few}
use Rattle.lookup.proofs.CallSteps.{marks_first, marks_long}
use Rattle.lookup.proofs.Contexts.{context_stays}

-- every attempt of the labels is left before the first
abbrev pub AllLeft : Progress → Type 0
AllLeft q = (m : Meaning) (dir r : Text) (aliases : List Alias) → left m dir r aliases q ≡ attempts m dir r aliases

module _ (a : Asked) (c : ResolveContext) (h : Labelled c a) (its : c.rounds ≡ a.round + 1) (q : Progress) (all : AllLeft q) where
  few_left : (m : Meaning) (t : Tables) (dir r : Text) → length (left m dir r t.aliases q) ≤ attempts_most t.aliases
  few_left m t dir r = omega (arith, ap length (all m dir r t.aliases), attempts_few m dir r t.aliases)

  labels_placed : (x : Place) → x.start + x.len ≤ 256 * (first_unit a.round + 3) → x.len ≤ 255 → (row : OpenCall) (above : ℕ) → free_unit row ≤ first_unit a.round → height row + above ≤ 3 * a.round + 2
      → Follows c.rounds row above (labels_row (with_text a x) q)
  labels_placed x low short row above free high = record {
    placed = record { directory = h.directory; text = low; short = short; stage = tt };
    begun = h.begun;
    free = omega (arith, free);
    room = omega (arith, high);
  }

  -- the path alone
  pub path_begins : (w : List ℕ)
      → ((m : Meaning) (allowed : Allowed) (t : Tables) (limit : ℕ) → with_marks m allowed t (again m allowed t limit) (context_of w c).query (context_of w c).fragment (text_at w a.directory) (text_at w a.text) (context_of w c) ≡ resumed m allowed t limit (labelled (text_at w a.directory) (text_at w a.text) (attempts m (text_at w a.directory) (text_at w a.text) t.aliases)) (missed (context_of w c)))
      → Begins (marks_end w a c) w a c (Stay (labels_row a q)) w c
  path_begins w marks = record {
    means = λ m allowed t limit.
        marks m allowed t limit
        ∙ ap (λ (ts : List Attempt). resumed m allowed t limit (labelled (text_at w a.directory) (text_at w a.text) ts) (missed (context_of w c))) (sym (all m (text_at w a.directory) (text_at w a.text) t.aliases));
    falls = λ m t. omega (arith, few_left m t (text_at w a.directory) (text_at w a.text));
    kept = λ row free high. labels_placed a.text h.text h.short row 0 free (omega (arith, high));
    rounds = refl;
    query = h.query;
    fragment = h.fragment;
    front = refl;
    long = refl;
    short = tt;
  }

  module _ (f : Place) (no_query : c.query ≡ None) (its_fragment : c.fragment ≡ Some f) (w : List ℕ) where
    abbrev dir : Text
    dir = text_at w a.directory

    abbrev r : Text
    r = text_at w a.text

    mark_there : MarkIn c.rounds f
    mark_there = subst (MarksIn c.rounds) its_fragment h.fragment

    marks_are : (m : Meaning) (allowed : Allowed) (t : Tables) (limit : ℕ) → with_marks m allowed t (again m allowed t limit) (context_of w c).query (context_of w c).fragment dir r (context_of w c) ≡ with_marks m allowed t (again m allowed t limit) None (Some (text_at w f)) dir r (context_of w c)
    marks_are m allowed t limit = λ k. with_marks m allowed t (again m allowed t limit) (option_map (text_at w) (no_query k)) (option_map (text_at w) (its_fragment k)) dir r (context_of w c)

    -- path and fragment together are too long
    pub long_begins : 255 < length (r ++ text_at w f) → Begins (marks_end w a c) w a c (Return (Err told.TooLong)) w c
    long_begins l = record {
      means = λ m allowed t limit. marks_are m allowed t limit ∙ marks_long m allowed t limit dir r (context_of w c) (text_at w f) (lt-leb _ _ l);
      falls = λ m t. omega arith;
      kept = λ row free high. tt;
      rounds = refl;
      query = h.query;
      fragment = h.fragment;
      front = refl;
      long = refl;
      short = tt;
    }

    -- path and fragment together are tried first
    module _ (u : List ℕ) (only : OnlyIn (first_unit a.round + 2) w u) (x : Place) (there : x ≡ place_in (first_unit a.round + 2) (length (r ++ text_at w f))) (text : text_at u x ≡ r ++ text_at w f) (short : length (r ++ text_at w f) ≤ 255) (low : a.text.start + a.text.len ≤ 256 * (first_unit a.round + 2)) (low_dir : a.directory.start + a.directory.len ≤ 256 * (first_unit a.round + 2)) where
      directory_stays : text_at u a.directory ≡ dir
      directory_stays = text_in_front_stays (first_unit a.round + 2) w u a.directory only low_dir

      request_stays : text_at u a.text ≡ r
      request_stays = text_in_front_stays (first_unit a.round + 2) w u a.text only low

      fragment_stays : text_at u f ≡ text_at w f
      fragment_stays = mark_stays c.rounds a.round 2 w u f (omega arith) (omega arith) only mark_there

      marks_kept : context_of u (marked_context None c) ≡ with_fragment None (context_of w c)
      marks_kept = context_stays a.round 2 w u (marked_context None c) (omega arith) (omega arith) only h.query tt

      start : x.start ≡ 256 * (first_unit a.round + 2)
      start = ap (λ (p : Place). p.start) there

      size : x.len ≡ length (r ++ text_at w f)
      size = ap (λ (p : Place). p.len) there

      marked_placed : (row : OpenCall) → free_unit row ≤ first_unit a.round → height row ≤ 3 * a.round + 1 → Follows c.rounds row 0 (marked_row a f)
      marked_placed row free high = record {
        placed = record { directory = h.directory; text = h.text; short = h.short; stage = subst (λ (n : ℕ). MarkIn n f) its mark_there };
        begun = h.begun;
        free = omega (arith, free);
        room = omega (arith, high);
      }

      pub both_begin : Begins (marks_end w a c) w a c (Open (marked_row a f) (labels_row (with_text a x) q)) u (marked_context None c)
      both_begin = record {
        means = λ m allowed t limit.
            marks_are m allowed t limit
            ∙ marks_first m allowed t limit dir r (context_of w c) (text_at w f) (le-leb _ _ short)
            ∙ (λ k. resumed m allowed t limit (marked (sym directory_stays k) (sym request_stays k) (sym fragment_stays k)) (resumed m allowed t limit (labelled (sym directory_stays k) (sym text k) (sym (all m (sym directory_stays k) (sym text k) t.aliases) k)) (missed (sym marks_kept k))));
        falls = λ m t. omega (arith, few_left m t (text_at u a.directory) (text_at u x));
        kept = λ row free high. (marked_placed row free high, labels_placed x (omega (arith, start, size, short)) (omega (arith, size, short)) row 1 free (omega (arith, high)), omega arith);
        rounds = refl;
        query = h.query;
        fragment = tt;
        front = front_stays (first_unit a.round + 2) (256 * first_unit a.round) w u only (omega arith);
        long = only.long;
        short = tt;
      }
