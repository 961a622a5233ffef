-- The bits of partitions: one of its own for each.
use Rattle.std.proofs.Common.{◌≡◌, ◌≤◌, ◌<◌, ◌-◌, ◌*◌, ◌^◌, ◌%◌, ◌==◌, ◌∙◌, ℕ, Bool, true, false, refl, subst, if◌then◌else◌, arith}
use Rattle.std.specs.Int.{bit_at}
use Rattle.std.proofs.Math.Nat.{mod-eq_of_lt}
use Rattle.std.proofs.Math.Pow.{pow_mono}
use Rattle.std.proofs.lemmas.Bool.Decides.{Decides-eqb}
use Rattle.std.proofs.lemmas.Nat.Bits.{bit_at-pow_same, bit_at-pow_other}

own_bit : (test : Bool) (p h : ℕ) → (test ≡ true → p ≡ h) → (p ≡ h → test ≡ true) → 1 ≤ p → 1 ≤ h → bit_at (2 ^ (p - 1)) (h - 1) ≡ (if test then 1 else 0)
own_bit true p h same back low_p low_h = subst (λ (x : ℕ). bit_at (2 ^ (p - 1)) (x - 1) ≡ 1) (same refl) (bit_at-pow_same (p - 1))
own_bit false p h same back low_p low_h =
    bit_at-pow_other (p - 1) (h - 1) (λ e. let bad : false ≡ true = back (omega (arith, e, low_p, low_h)) in cc)

-- the bit of a partition as the code shifts it
pub shifted : (p : ℕ) → p ≤ 16 → 1 * 2 ^ (p - 1) % 65536 ≡ 2 ^ (p - 1)
shifted p high = mod-eq_of_lt {n = 1 * 2 ^ (p - 1)} {m = 65536} (omega (arith, small)) ∙ omega arith
  where
    small : 2 ^ (p - 1) < 65536
    small = omega (arith, pow_mono {i = p - 1} {j = 15} (omega (arith, high)))

pub mark_bit : (p h : ℕ) → 1 ≤ p → p ≤ 16 → 1 ≤ h → bit_at (1 * 2 ^ (p - 1) % 65536) (h - 1) ≡ (if p == h then 1 else 0)
mark_bit p h low high low_h = rw (shifted p high) (own_bit (p == h) p h (Decides-eqb p h).0 (Decides-eqb p h).1 low low_h)
