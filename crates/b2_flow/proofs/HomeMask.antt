-- Marks of partitions: those of two tests together.
use Rattle.std.proofs.Common.{◌≡◌, ◌-◌, ℕ, Bool, true, false, ◌||◌, bit_or, refl, if◌then◌else◌}
use Rattle.std.specs.Int.{bit_at}
use Rattle.std.proofs.lemmas.Nat.Bits.{bit_at_or}

pub either_bit : (a b : Bool) (m n i : ℕ) → bit_at m i ≡ (if a then 1 else 0) → bit_at n i ≡ (if b then 1 else 0) → bit_at (bit_or m n) i ≡ (if a || b then 1 else 0)
either_bit true true m n i p q = rw (bit_at_or m n i) (rw p (rw q refl))
either_bit true false m n i p q = rw (bit_at_or m n i) (rw p (rw q refl))
either_bit false true m n i p q = rw (bit_at_or m n i) (rw p (rw q refl))
either_bit false false m n i p q = rw (bit_at_or m n i) (rw p (rw q refl))
