-- Bytes that are all 00.
use Rattle.std.proofs.Common.{◌≡◌, ℕ, zero, suc, true, List, [], ◌∷◌, length, replicate, refl, ap₂}
use Rattle.std.specs.List.{list_all}
use Rattle.std.proofs.lemmas.Bool.{and_parts, eqb-true}
use Rattle.b2_platter.specs.Layout.{is_zero}

pub zeros-all : (bytes : List ℕ) → list_all is_zero bytes ≡ true → bytes ≡ replicate (length bytes) 0
zeros-all [] h = refl
zeros-all (b ∷ bytes) h =
    let parts = and_parts (is_zero b) (list_all is_zero bytes) h in
    let none : b ≡ 0 = eqb-true b 0 parts.0 in
    ap₂ (λ (u : ℕ) (us : List ℕ). u ∷ us) none (zeros-all bytes parts.1)

pub zeros-none : (n : ℕ) → list_all is_zero (replicate n 0) ≡ true
zeros-none zero = refl
zeros-none (suc n) = zeros-none n
