-- The numbers that partitions and terminals may have.
use Rattle.std.specs.Prelude.{ℕ, ◌-◌, ◌^◌, ◌&&◌, nat_le, Option, Some, None, if◌then◌else◌}

-- a partition is a number from 1 to 16
abbrev pub part_of : ℕ → Option ℕ
part_of n = if nat_le 1 n && nat_le n 16 then Some n else None

-- the bit of a partition in a mask: that of its number less 1
abbrev pub bit_of : ℕ → ℕ
bit_of p = 2 ^ (p - 1)

-- a terminal is a number from 1 to 12
abbrev pub term_of : ℕ → Option ℕ
term_of n = if nat_le 1 n && nat_le n 12 then Some n else None
