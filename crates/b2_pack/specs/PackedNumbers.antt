-- The number that is packed in eight bytes, if one is.
use Rattle.std.specs.Prelude.{ℕ, ◌+◌, ◌-◌, ◌/◌, ◌%◌, ◌==◌, ◌&&◌, ◌||◌, nat_le, nat_lt, not, Bool, if◌then◌else◌, List, Option, Some, None}
use Rattle.std.specs.Str.{bytes_eq}
use Rattle.b2_base.specs.Lexical.{first}
use Rattle.b2_dec.specs.Number.{Number}
use Rattle.b2_dec.specs.Packing.{packed, pairs_value}

-- whether a sign, digits and a place are those of a number
abbrev pub is_number : Number → Bool
is_number x =
    nat_lt x.coef 10000000000000 && nat_le x.place 198
    && (nat_le 1000000000000 x.coef || ((x.coef == 0) && (x.place == 99) && not x.neg))

-- The number with the signs, the exponent's size and the digits in these nibbles, whether or not it is one.
abbrev pub number_of_nibbles : ℕ → ℕ → Number
number_of_nibbles signs digits =
    record {
      neg = signs % 2 == 1;
      coef = digits % 10000000000000;
      place = if nat_le 8 signs then 99 - digits / 10000000000000 else 99 + digits / 10000000000000;
    }

abbrev pub unpacked_as : Number → List ℕ → Option Number
unpacked_as x bytes = if is_number x && bytes_eq (packed x) bytes then Some x else None

-- Bytes hold the number that is packed in just this way, and none where there is no such number.
unfoldable pub unpacked : List ℕ → Option Number
unpacked bytes = unpacked_as (number_of_nibbles (first bytes / 16) (pairs_value 0 bytes % 1000000000000000)) bytes
