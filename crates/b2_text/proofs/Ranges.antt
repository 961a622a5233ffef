-- Lines at a number, and outside of a range.
use Rattle.std.proofs.Common.{◌≡◌, ℕ, ◌<◌, Bool, true, false, not, cond, List, [], ◌∷◌, refl, ap, arith, nat_cmp, is_eq}
use Rattle.std.proofs.lemmas.Bool.Decides.{nat_tests}
use Rattle.b2_text.specs.Program.{Lines, without, is_within}

pub at_it : (n m : ℕ) → is_eq (nat_cmp n m) ≡ true → n ≡ m
at_it n m h = grind (arith, nat_tests)

pub itself : (n m : ℕ) → m ≡ n → is_eq (nat_cmp n m) ≡ true
itself n m h = grind (arith, nat_tests)

nothing_within : (from to n : ℕ) → to < from → is_within from to n ≡ false
nothing_within from to n h = grind (arith, nat_tests)

kept_at : (c : Bool) (e : ℕ × List ℕ) (xs es : Lines) → c ≡ false → xs ≡ es → cond (not c) (e ∷ xs) xs ≡ e ∷ es
kept_at true e xs es c_is h = cc
kept_at false e xs es c_is h = ap (λ (ys : Lines). e ∷ ys) h

-- a range that ends before it begins has no lines
pub without-nothing : (from to : ℕ) (es : Lines) → to < from → without from to es ≡ es
without-nothing from to [] h = refl
without-nothing from to (e ∷ es) h = kept_at (is_within from to e.0) e (without from to es) es (nothing_within from to e.0 h) (without-nothing from to es h)
