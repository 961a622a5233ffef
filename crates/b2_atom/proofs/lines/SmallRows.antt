-- The row of each statement is small enough for the word of a span.
use Rattle.std.proofs.Common.{◌≡◌, ℕ, ◌≤◌, ◌&&◌, nat_le, drop, Bool, true, false, List, [], ◌∷◌, refl, subst, arith, Result, Ok, Err, if◌then◌else◌}
use Rattle.std.proofs.lemmas.Bool.Decides.{nat_tests}
use Rattle.b2_atom.specs.Words.{Text, skipped}
use Rattle.b2_atom.specs.Grammar.{allowed, barred_following, barred_line, barred_position, begins_let, from, row_at, starts, statement_at, statement_row, variable_begins}
use Rattle.b2_atom.specs.Lines.{chosen_row}
use Rattle.b2_atom.specs.Table.{forms}
use Rattle.b2_atom.specs.declared.rows.TheConstants as row
use Rattle.b2_atom.specs.declared.forms.Form.{Form}
use Rattle.b2_atom.specs.declared.forms.Position.{Position}
use Rattle.b2_atom.specs.declared.output.Stop.{Stop}
use Rattle.b2_atom.specs.declared.words.Origin.{Origin}
use Rattle.b2_atom.specs.declared.words.Origin.TheVariants.{Atoms}

-- each form's row is small
abbrev are_small : List Form → Bool
are_small [] = true
are_small (f ∷ fs) = nat_le f.row 4095 && are_small fs

forms_small : are_small forms ≡ true
forms_small = refl

abbrev IsSmall : Result ℕ Stop → Type 0
IsSmall (Ok n) = n ≤ 4095
IsSmall (Err e) = Unit {0}

either_small : (b : Bool) (x y : Result ℕ Stop) → IsSmall x → IsSmall y → IsSmall (if b then x else y)
either_small true x y h g = h
either_small false x y h g = g

allowed_small : (o : Origin) (p : Position) (f : Form) (t : Text) → f.row ≤ 4095 → IsSmall (allowed o p f t)
allowed_small o p f t h =
    either_small (barred_following p f.rule) _ _ tt
    (either_small (barred_line o f.rule) _ _ tt (either_small (barred_position p f.rule) _ _ tt h))

row_small : (fs : List Form) (o : Origin) (p : Position) (t : Text) → are_small fs ≡ true → IsSmall (row_at fs o p t)
row_small [] o p t h = either_small (variable_begins o t) _ _ (omega arith) tt
row_small (f ∷ fs) o p t h =
    let both = split (nat_le f.row 4095) (are_small fs) h in
    either_small (starts o f.start t) _ _ (allowed_small o p f t (small f.row both.0)) (row_small fs o p t both.1) where
      small : (n : ℕ) → nat_le n 4095 ≡ true → n ≤ 4095
      small n h = grind (arith, nat_tests)

      split : (b c : Bool) → (b && c) ≡ true → (b ≡ true) × (c ≡ true)
      split true c h = (refl, h)
      split false c h = cc

chosen_small : (t : Text) (r : Result ℕ Stop) → IsSmall r → chosen_row (from t r) ≤ 4095
chosen_small t (Ok n) h = h
chosen_small t (Err e) h = omega arith

statement_small : (o : Origin) (p : Position) (t : Text) → chosen_row (statement_at o p t) ≤ 4095
statement_small o p t = by_let (begins_let o t) where
  by_let : (b : Bool) → chosen_row (if b then Ok (row.ASSIGNMENT, drop 3 t) else from t (row_at forms o p t)) ≤ 4095
  by_let true = omega arith
  by_let false = chosen_small t (row_at forms o p t) (row_small forms o p t forms_small)

pub row_read : (p : Position) (t : Text) (n : ℕ) (rest : Text) → statement_row Atoms p t ≡ Ok (n, rest) → n ≤ 4095
unfolding statement_row
row_read p t n rest is = subst (λ (r : Result (ℕ × Text) Stop). chosen_row r ≤ 4095) is (statement_small Atoms p (skipped Atoms t))
