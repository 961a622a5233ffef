-- A repetition goes on where its row begins, and ends elsewhere.
use Rattle.std.proofs.Common.{◌≡◌, ◌≤◌, ℕ, Bool, true, false, if◌then◌else◌, ◌&&◌, length, refl, sym, ap, subst, ◌∙◌, arith, Ok, Err, is_ok}
use Rattle.b2_atom.specs.Words.{Text}
use Rattle.b2_atom.specs.Tree.{Outcome, preceded, and_then, under}
use Rattle.b2_atom.specs.Tree.Trees.{Done, In}
use Rattle.b2_atom.specs.Grammar.{reader, many, absent, starts}
use Rattle.b2_atom.specs.Lines.{left_after}
use Rattle.b2_atom.specs.declared.words.Origin.TheVariants.{Atoms}
use Rattle.b2_atom.specs.declared.forms.Start.{Start}
use Rattle.b2_atom.proofs.Booleans.{and_left, and_right, both, false_true}
use Rattle.b2_rows.specs.Rows.{reading_row, reading_list, tree_of, fits_unit, is_phrase, tree_at, after_phrase, is_list, list_at, after_list, Goes, Ends}
use Rattle.b2_rows.specs.Laws.{EachListSteps}
use Rattle.b2_rows.proofs.Levels.{Up, many_up, reading_no_longer, short_fits, short_of}

going : (s : Start) (n : ℕ) (t : Text) (o u w : Outcome) → length t ≤ 256 → reading_row n t ≡ o → many (reader Atoms) s (reading_row n) 255 (left_after o) ≡ u → reading_list s n (left_after o) ≡ w
    → Up u w → reading_list s n t ≡ and_then (under 1 o) (many (reader Atoms) s (reading_row n) 255) → is_ok (reading_list s n t) ≡ true → Goes s n t
unfolding is_phrase is_list tree_at list_at after_phrase after_list
going s n t (Err e) u w short is_o is_u is_w up is ok = absurd (false_true (sym (ap is_ok is) ∙ ok))
going s n t (Ok p) (Err e) w short is_o is_u is_w up is ok = absurd (false_true (sym (ap is_ok (is ∙ ap (preceded (In 1 p.0 Done)) is_u)) ∙ ok))
going s n t (Ok p) (Ok q) w short is_o is_u is_w up is ok =
    let same : reading_list s n p.1 ≡ Ok q = is_w ∙ up q refl in
    let whole : reading_list s n t ≡ Ok (In 1 p.0 q.0, q.1) = is ∙ ap (preceded (In 1 p.0 Done)) is_u in
    let less : length p.1 ≤ 256 = (let e : length (left_after (reading_row n t)) ≤ length t = reading_no_longer n t in let f : length (left_after (reading_row n t)) ≡ length p.1 = ap (λ (x : Outcome). length (left_after x)) is_o in omega (arith, e, f, short)) in
    let at : after_phrase n t ≡ p.1 = ap left_after is_o in
    record {
      part = both _ _ (short_fits t short) (ap is_ok is_o);
      list = subst (λ (x : Text). (fits_unit x && is_ok (reading_list s n x)) ≡ true) (sym at) (both _ _ (short_fits p.1 less) (ap is_ok same));
      tree = ap tree_of whole ∙ sym (ap (λ (x : Outcome). In 1 (tree_of x) (tree_of (reading_list s n (left_after x)))) is_o ∙ ap (λ (x : Outcome). In 1 p.0 (tree_of x)) same);
      rest = ap left_after whole ∙ sym (ap (λ (x : Outcome). left_after (reading_list s n (left_after x))) is_o ∙ ap left_after same);
    }

begun_list : (s : Start) (n : ℕ) (t : Text) (b : Bool) → starts Atoms s t ≡ b → reading_list s n t ≡ (if b then and_then (under 1 (reading_row n t)) (many (reader Atoms) s (reading_row n) 255) else absent t)
unfolding reading_list many
begun_list s n t b is = ap (λ (x : Bool). if x then and_then (under 1 (reading_row n t)) (many (reader Atoms) s (reading_row n) 255) else absent t) is

pub goes : (s : Start) (n : ℕ) (t : Text) → is_list s n t ≡ true → starts Atoms s t ≡ true → Goes s n t
unfolding is_list reading_list
goes s n t ok begins =
    going s n t (reading_row n t) (many (reader Atoms) s (reading_row n) 255 (left_after (reading_row n t))) (reading_list s n (left_after (reading_row n t))) (short_of t (and_left _ _ ok)) refl refl refl
    (many_up s (reading_row n) 255 (left_after (reading_row n t))) (begun_list s n t true begins) (and_right (fits_unit t) _ ok)

pub ended : (s : Start) (n : ℕ) (t : Text) → starts Atoms s t ≡ false → Ends s n t
unfolding list_at after_list
ended s n t none = record { tree = ap tree_of (begun_list s n t false none); rest = ap left_after (begun_list s n t false none) }

pub each_list_steps : EachListSteps
each_list_steps s n t = record { goes = goes s n t; ends = ended s n t }
