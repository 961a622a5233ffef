-- Whether two numbers are the same.
use Rattle.std.specs.Prelude.{◌≡◌, ◌≢◌, ℕ, ◌==◌, true, false}
use Rattle.std.proofs.Common.{arith}
use Rattle.std.proofs.lemmas.Bool.Decides.{nat_tests}

pub same_number : (p q : ℕ) → (p == q) ≡ true → p ≡ q
same_number p q is = grind (arith, nat_tests)

pub same_as_itself : (p : ℕ) → (p == p) ≡ true
same_as_itself p = grind (arith, nat_tests)

pub other_number : (p q : ℕ) → (p == q) ≡ false → p ≢ q
other_number p q is = λ same. grind (arith, nat_tests)
