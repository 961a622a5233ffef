-- What is left after a part is the end of its text.
use Rattle.std.proofs.Common.{◌≡◌, ℕ, ◌-◌, ◌∙◌, [], ◌∷◌, ◌++◌, length, drop, length-append, length-drop, sym, ap, subst, refl, arith, Ok, Err}
use Rattle.std.proofs.lemmas.List.{drop_at}
use Rattle.b2_atom.specs.Words.{Text}
use Rattle.b2_atom.specs.Tree.{Outcome, atoms}
use Rattle.b2_atom.specs.Lines.{left_after}
use Rattle.b2_atom.proofs.reading.Sound.{Takes}
use Rattle.b2_rows.specs.Rows.{reading_row, after_phrase}
use Rattle.b2_rows.proofs.Levels.{takes_reading}
use Rattle.b2_expr.specs.Reads.{last}

last_of : (a b : Text) → last (length b) (a ++ b) ≡ b
last_of a b = let e : length a ≡ length (a ++ b) - length b = omega (arith, length-append a b) in drop_at a b (length (a ++ b) - length b) e

none_after : (t : Text) → drop (length t) t ≡ []
none_after [] = refl
none_after (b ∷ t) = none_after t

pub no_bytes : (t : Text) → last 0 t ≡ []
no_bytes t = let e : length t - 0 ≡ length t = omega arith in ap (λ (n : ℕ). drop n t) e ∙ none_after t

outcome_tail : (t : Text) (o : Outcome) → Takes t o → last (length (left_after o)) t ≡ left_after o
outcome_tail t (Ok p) h = subst (λ (u : Text). last (length p.1) u ≡ p.1) h (last_of (atoms p.0) p.1)
outcome_tail t (Err e) h = no_bytes t

pub part_tail : (n : ℕ) (t : Text) → last (length (after_phrase n t)) t ≡ after_phrase n t
unfolding after_phrase
part_tail n t = outcome_tail t (reading_row n t) (takes_reading n t)

-- by how many bytes are left
pub tail_by : (n left : ℕ) (t : Text) → left ≡ length (after_phrase n t) → last left t ≡ after_phrase n t
tail_by n left t is = ap (λ (k : ℕ). last k t) is ∙ part_tail n t

-- and one byte less
pub one_less : (t : Text) → length t - 1 ≡ length (drop 1 t)
one_less t = sym (length-drop 1 t)
