-- Sets of partitions as numbers: the bit of a partition is that of its number less 1.
use Rattle.std.specs.Prelude.{ℕ, ◌-◌, ◌==◌, Bool, not, bit_and, bit_or}
use Rattle.std.specs.Int.{w16, bit_at, bit_not}
use Rattle.b2_base.specs.Places.{bit_of}

-- whether a partition is in a set
abbrev pub has : ℕ → ℕ → Bool
has set p = bit_at set (p - 1) == 1

-- a set with a partition, and without it
abbrev pub with_part : ℕ → ℕ → ℕ
with_part set p = bit_or set (bit_of p)

abbrev pub without_part : ℕ → ℕ → ℕ
without_part set p = bit_and set (bit_not w16 (bit_of p))

-- whether another partition is in a set: without this one it isn't empty
abbrev pub has_other : ℕ → ℕ → Bool
has_other set p = not (without_part set p == 0)
