-- The record at a place, read: loosely at first, as first bytes say, and then spelled again and compared.
use Rattle.std.specs.Prelude.{ℕ, suc, zero, ◌+◌, ◌-◌, ◌/◌, ◌%◌, min, Bool, not, ◌&&◌, ◌||◌, ◌==◌, nat_le, nat_lt, List, [], ◌∷◌, ◌++◌, length, take, drop, slice_index, Option, Some, None, if◌then◌else◌}
use Rattle.std.specs.Cmp.Lexicographic.{pointwise}
use Rattle.std.specs.List.{list_all}
use Rattle.std.specs.Str.{bytes_eq}
use Rattle.b2_dec.specs.Number.{Number}
use Rattle.b2_dec.specs.Packing.{pairs_value}
use Rattle.b2_dec.specs.declared.values.Value.{Value}
use Rattle.b2_dec.specs.declared.values.Value.TheVariants as value
use Rattle.b2_platter.specs.Image.{sectors_at}
use Rattle.b2_record.specs.declared.items.TheConstants.{NUMBER, ALPHA, END_OF_VALUES}
use Rattle.b2_record.specs.declared.sectors.TheConstants.{ONLY, LAST}
use Rattle.b2_record.specs.Items.{is_short}
use Rattle.b2_record.specs.Writing.{record_of}

-- the number with these sixteen digits: the signs, two digits of the exponent's size, and thirteen digits
abbrev pub number_of : ℕ → Number
number_of n =
    record {
      neg = n / 1000000000000000 % 2 == 1;
      coef = n % 10000000000000;
      place = if nat_le 8 (n / 1000000000000000) then 99 - n / 10000000000000 % 100 else 99 + n / 10000000000000 % 100;
    }

-- the values that bytes begin with, at most so many, as their first bytes say
abbrev pub values_in : ℕ → List ℕ → List Value
values_in zero bytes = []
values_in (suc n) [] = []
values_in (suc n) (b ∷ bytes) =
    if b == END_OF_VALUES then []
    else (if b == NUMBER then value.Number (number_of (pairs_value 0 (take 8 bytes))) ∷ values_in n (drop 8 bytes)
    else value.Alpha (take (b - ALPHA) bytes) ∷ values_in n (drop (b - ALPHA) bytes))

-- the values of some sectors, after the kind and the number of each
abbrev pub values_read : List (List ℕ) → List Value
values_read [] = []
values_read (s ∷ sectors) = values_in (length s) (drop 2 s) ++ values_read sectors

-- zero, or thirteen digits of which the first isn't 0, and an exponent from -99 to 99
abbrev pub is_number : Number → Bool
is_number x =
    nat_lt x.coef 10000000000000 && nat_le x.place 198
    && (nat_le 1000000000000 x.coef || (not x.neg && (x.coef == 0) && (x.place == 99)))

-- what a record may hold
abbrev pub is_storable : Value → Bool
is_storable (value.Number x) = is_number x
is_storable (value.Alpha bytes) = is_short (value.Alpha bytes)

-- these values, where the sectors are their record
abbrev pub read_as : List Value → List (List ℕ) → Option (List Value × ℕ)
read_as values sectors =
    if list_all is_storable values && pointwise bytes_eq (record_of values) sectors then Some (values, length sectors) else None

-- a sector says that it is the last of its record
abbrev pub is_last : List ℕ → Bool
is_last s = (slice_index s 0 == ONLY) || (slice_index s 0 == LAST)

-- how many sectors come up to and with the first that is the last of its record, all where none is
abbrev pub count_to_last : List (List ℕ) → ℕ
count_to_last [] = 0
count_to_last (s ∷ sectors) = if is_last s then 1 else suc (count_to_last sectors)

-- the values of the record that these sectors are, and how many sectors they are
abbrev pub record_in : List (List ℕ) → Option (List Value × ℕ)
record_in sectors = read_as (values_read sectors) sectors

-- THE RECORD that begins at a sector and ends at a last one or before, and how many sectors it has; none where none does
unfoldable pub record_at : List ℕ → ℕ → ℕ → Option (List Value × ℕ)
record_at image at last = record_in (sectors_at image at (count_to_last (sectors_at image at (min 255 (last + 1 - at)))))
