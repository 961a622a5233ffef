-- Bits of bytes: how a digit joins two, and how bits turn.
use Rattle.std.specs.Prelude.{ℕ, suc, ◌+◌, ◌-◌, ◌*◌, ◌/◌, ◌%◌, ◌^◌, ℤ, pos, negsuc, Bool, true, false, List, length, map}
use Rattle.std.specs.Int.{bit_at}
use Rattle.std.specs.List.{sum_by, range_with_len}
use Rattle.b2_alpha.specs.Places.{number_in_base, digits_in_base}
use Rattle.b2_alpha.specs.Values.{each_pair}

-- The digit is a table of four bits: for a bit r of the receiver and a bit o of the operand it has the answer at the
-- place 2r + o, counted from the low bit.
abbrev pub bit_by : ℕ → ℕ → ℕ → ℕ
bit_by digit r o = bit_at digit (2 * r + o)

-- a byte of the receiver and one of the operand joined bit by bit
abbrev pub byte_by : ℕ → ℕ → ℕ → ℕ
byte_by digit r o =
    sum_by (λ i. bit_by digit (bit_at r i) (bit_at o i) * 2 ^ i) (range_with_len 0 8)

-- receiver and operand joined from the left; the receiver's bytes past the operand stay
abbrev pub joined_by : ℕ → List ℕ → List ℕ → List ℕ
joined_by digit rs os = each_pair (byte_by digit) rs os

-- a number of `width` bits turned left by k: the k high bits come in below the others
abbrev pub turned : ℕ → ℕ → ℕ → ℕ
turned width k x = x % 2 ^ (width - k) * 2 ^ k + x / 2 ^ (width - k)

-- a string turned as one number
abbrev pub turned_whole : ℕ → List ℕ → List ℕ
turned_whole k xs = digits_in_base 256 (length xs) (turned (8 * length xs) k (number_in_base 256 xs))

-- by how much to turn left: turning right by k is turning left by all bits but k
abbrev pub left_by : ℕ → ℤ → ℕ
left_by width (pos k) = k
left_by width (negsuc k) = width - suc k

-- each byte turned, or the whole string
abbrev pub rotated : Bool → ℤ → List ℕ → List ℕ
rotated false n xs = map (turned 8 (left_by 8 n)) xs
rotated true n xs = turned_whole (left_by (8 * length xs) n) xs
