-- Sums and differences of byte strings that end at the same place.
use Rattle.std.specs.Prelude.{ℕ, ◌+◌, ◌-◌, ◌%◌, ◌^◌, Bool, ◌&&◌, List, ◌++◌, length, map, drop, replicate}
use Rattle.std.specs.List.{list_all}
use Rattle.b2_base.specs.Lexical.{is_decimal, decimal_of, decimal_byte}
use Rattle.b2_alpha.specs.Places.{number_in_base, digits_in_base}
use Rattle.b2_alpha.specs.Values.{each_pair}

-- an operand under a receiver of n bytes: zeros left of a shorter one, a longer one cut at the left
abbrev pub aligned : ℕ → List ℕ → List ℕ
aligned n xs = replicate (n - length xs) 0 ++ drop (length xs - n) xs

-- byte by byte, without carries
abbrev pub bytewise_sum : List ℕ → List ℕ → List ℕ
bytewise_sum xs ys = each_pair (λ x y. (x + y) % 256) xs (aligned (length xs) ys)

abbrev pub bytewise_difference : List ℕ → List ℕ → List ℕ
bytewise_difference xs ys = each_pair (λ x y. (256 + x - y) % 256) xs (aligned (length xs) ys)

-- Sum and difference of two numbers in as many places as the first has. Above them a carry is lost, and a difference
-- below zero borrows from there.
abbrev pub sum_in : ℕ → List ℕ → List ℕ → List ℕ
sum_in base xs ys = digits_in_base base (length xs) (number_in_base base xs + number_in_base base ys)

abbrev pub difference_in : ℕ → List ℕ → List ℕ → List ℕ
difference_in base xs ys =
    digits_in_base base (length xs) (base ^ length xs + number_in_base base xs - number_in_base base ys)

abbrev pub binary_sum : List ℕ → List ℕ → List ℕ
binary_sum xs ys = sum_in 256 xs (aligned (length xs) ys)

abbrev pub binary_difference : List ℕ → List ℕ → List ℕ
binary_difference xs ys = difference_in 256 xs (aligned (length xs) ys)

-- the number that a string's decimal nibbles spell
abbrev pub decimal_value : List ℕ → ℕ
decimal_value xs = number_in_base 100 (map decimal_of xs)

-- all nibbles that a decimal sum or difference uses are decimal digits
abbrev pub are_decimal : List ℕ → List ℕ → Bool
are_decimal xs ys = list_all is_decimal xs && list_all is_decimal (aligned (length xs) ys)

-- each byte is one place of base 100
abbrev pub decimal_sum : List ℕ → List ℕ → List ℕ
decimal_sum xs ys =
    map decimal_byte (sum_in 100 (map decimal_of xs) (map decimal_of (aligned (length xs) ys)))

abbrev pub decimal_difference : List ℕ → List ℕ → List ℕ
decimal_difference xs ys =
    map decimal_byte (difference_in 100 (map decimal_of xs) (map decimal_of (aligned (length xs) ys)))
