-- The test on two variables tells whether they are equal.
use Rattle.std.proofs.Common.{◌≡◌, ◌∙◌, ◌==◌, ℕ, Bool, true, false, ◌&&◌, Option, Some, None, refl, ap}
use Rattle.std.specs.Option.{option_eq}
use Rattle.std.proofs.lemmas.Bool.{eq-eqb}
use Rattle.std.proofs.lemmas.Bool.Decides.{Decides-eqb}
use Rattle.b2_flow.specs.declared.frame.Var2.{Var2}
use Rattle.b2_flow.specs.Frames.{is_same_variable}

both : (a b : Bool) → (a && b) ≡ true → (a ≡ true) × (b ≡ true)
both true b e = (refl, e)
both false b e = cc

equal_digits : (a b : Option ℕ) → option_eq ◌==◌ a b ≡ true → a ≡ b
equal_digits None None e = refl
equal_digits None (Some b) e = cc
equal_digits (Some a) None e = cc
equal_digits (Some a) (Some b) e = ap Some ((Decides-eqb a b).0 e)

same_digit : (a : Option ℕ) → option_eq ◌==◌ a a ≡ true
same_digit None = refl
same_digit (Some a) = eq-eqb a a refl

abbrev variable : ℕ → Option ℕ → Var2
variable letter digit = record { letter = letter; digit = digit }

pub equal_variables : (v w : Var2) → is_same_variable v w ≡ true → v ≡ w
equal_variables v w e =
    let parts = both (v.letter == w.letter) (option_eq ◌==◌ v.digit w.digit) e in
    ap (λ (letter : ℕ). variable letter v.digit) ((Decides-eqb v.letter w.letter).0 parts.0)
    ∙ ap (variable w.letter) (equal_digits v.digit w.digit parts.1)

pub same_variable : (v : Var2) → is_same_variable v v ≡ true
same_variable v = rw (eq-eqb v.letter v.letter refl) (same_digit v.digit)
