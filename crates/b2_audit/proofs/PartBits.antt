-- Sets of partitions by their bits.
use Rattle.std.specs.Prelude.{◌≡◌, ◌≢◌, ◌<◌, ◌-◌, ◌==◌, ℕ, true, false, not, bit_and, min, max, refl}
use Rattle.std.specs.Int.{w16, bit_at, bit_not}
use Rattle.std.specs.Cmp.{unsigned_Decides}
use Rattle.std.proofs.Common.{sym, ap, subst, ◌∙◌, inl, inr, arith}
use Rattle.std.proofs.lemmas.Bool.{cases_eq, false_from_ne_true, not_from_false}
use Rattle.std.proofs.lemmas.Nat.Bits.{bit_at_and, bit_at_or, bit_at-zero, bit_at_ones, bit_at-pow_same, bit_at-pow_other, bit_at_clear_same, bit_at_clear_other, same_from_bits}
use Rattle.b2_base.specs.Places.{bit_of}
use Rattle.b2_base.proofs.PartBits.{shifted}
use Rattle.b2_audit.specs.PartSets.{has, with_part, without_part, has_other}
use Rattle.b2_audit.specs.Steps.{IsPartition}

-- another partition has another bit
apart : (p q : ℕ) → IsPartition p → IsPartition q → q ≢ p → q - 1 ≢ p - 1
apart p q is_p is_q other e = let a = is_p.0 in let b = is_q.0 in other (omega (arith, e, a, b))

place_fits : (p : ℕ) → IsPartition p → p - 1 < 16
place_fits p is = let a = is.0 in let b = is.1 in omega (arith, a, b)

cleared_same : (s p : ℕ) → IsPartition p → bit_at (without_part s p) (p - 1) ≡ 0
cleared_same s p is = subst (λ (b : ℕ). bit_at (bit_and s (bit_not w16 b)) (p - 1) ≡ 0) (shifted p is.1) (bit_at_clear_same w16 s (p - 1) (place_fits p is))

cleared_other : (s p i : ℕ) → IsPartition p → i < 16 → i ≢ p - 1 → bit_at (without_part s p) i ≡ bit_at s i
cleared_other s p i is fits other = subst (λ (b : ℕ). bit_at (bit_and s (bit_not w16 b)) i ≡ bit_at s i) (shifted p is.1) (bit_at_clear_other w16 s (p - 1) (place_fits p is) i fits other)

-- without a partition
pub without_same : (s p : ℕ) → IsPartition p → has (without_part s p) p ≡ false
without_same s p is = ap (λ (n : ℕ). n == 1) (cleared_same s p is)

pub without_other : (s p q : ℕ) → IsPartition p → IsPartition q → q ≢ p → has (without_part s p) q ≡ has s q
without_other s p q is_p is_q other = ap (λ (n : ℕ). n == 1) (cleared_other s p (q - 1) is_p (place_fits q is_q) (apart p q is_p is_q other))

-- a partition isn't another
pub other_with_same : (s p : ℕ) → IsPartition p → has_other (with_part s p) p ≡ has_other s p
other_with_same s p is = ap (λ (n : ℕ). not (n == 0)) (same_from_bits _ _ each)
  where
    mask : ℕ
    mask = bit_not w16 (bit_of p)

    spread : (n i : ℕ) → bit_at (bit_and n mask) i ≡ min (bit_at n i) (bit_at mask i)
    spread n i = bit_at_and n mask i

    each : (i : ℕ) → bit_at (without_part (with_part s p) p) i ≡ bit_at (without_part s p) i
    each i = elim (cases_eq i (p - 1)) [
      | inl e ↦ subst (λ (j : ℕ). bit_at (without_part (with_part s p) p) j ≡ bit_at (without_part s p) j) (sym e) (cleared_same (with_part s p) p is ∙ sym (cleared_same s p is))
      | inr other ↦
          spread (with_part s p) i
          ∙ ap (λ (b : ℕ). min b (bit_at mask i)) (bit_at_or s (bit_of p) i ∙ ap (λ (b : ℕ). max (bit_at s i) b) (bit_at-pow_other (p - 1) i other) ∙ omega arith)
          ∙ sym (spread s i)
    ]

not_empty : (n i : ℕ) → bit_at n i ≡ 1 → not (n == 0) ≡ true
not_empty n i is = not_from_false (n == 0) (false_from_ne_true (n == 0) (λ zero_is. cc (sym is ∙ ap (λ (m : ℕ). bit_at m i) ((unsigned_Decides n 0).0 zero_is) ∙ bit_at-zero i)))

-- another one that was added is another
pub other_with_other : (s p q : ℕ) → IsPartition p → IsPartition q → q ≢ p → has_other (with_part s q) p ≡ true
other_with_other s p q is_p is_q other =
    not_empty (without_part (with_part s q) p) (q - 1)
    (cleared_other (with_part s q) p (q - 1) is_p (place_fits q is_q) (apart p q is_p is_q other)
    ∙ bit_at_or s (bit_of q) (q - 1) ∙ ap (λ (b : ℕ). max (bit_at s (q - 1)) b) (bit_at-pow_same (q - 1)) ∙ one_at_most (bit_at s (q - 1)) (omega arith))
  where
    one_at_most : (b : ℕ) → b < 2 → max b 1 ≡ 1
    one_at_most b small = omega (arith, small)

-- nobody, and all
pub none_other : (p : ℕ) → has_other 0 p ≡ false
none_other p = refl

pub all_have : (p : ℕ) → IsPartition p → has 65535 p ≡ true
all_have p is = ap (λ (n : ℕ). n == 1) (bit_at_ones 16 (p - 1) (place_fits p is))
