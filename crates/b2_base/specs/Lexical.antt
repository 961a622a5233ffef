-- What kinds of bytes there are, digits and the numbers that they spell, and the fronts of texts.
use Rattle.std.specs.Prelude.{ℕ, suc, ◌+◌, ◌-◌, ◌*◌, ◌/◌, ◌%◌, ◌&&◌, ◌||◌, ◌==◌, nat_le, nat_lt, min, Bool, List, [], ◌∷◌, if◌then◌else◌}
use Rattle.std.specs.List.{list_all}
use Rattle.b2_base.specs.Byte as byte

-- `0` to `9`
abbrev pub is_digit : ℕ → Bool
is_digit b = nat_le byte.digit_0 b && nat_le b byte.digit_9

-- `A` to `Z`
abbrev pub is_letter : ℕ → Bool
is_letter b = nat_le byte.upper_a b && nat_le b byte.upper_z

-- `a` to `z`
abbrev pub is_small_letter : ℕ → Bool
is_small_letter b = nat_le byte.lower_a b && nat_le b byte.lower_z

-- `0` to `9` and `A` to `F`
abbrev pub is_hex_digit : ℕ → Bool
is_hex_digit b = is_digit b || (nat_le byte.upper_a b && nat_le b byte.upper_f)

-- a byte that can be shown: a blank, a sign, a digit or a letter
abbrev pub is_printable : ℕ → Bool
is_printable b = nat_le byte.blank b && nat_le b byte.tilde

abbrev pub all_printable : List ℕ → Bool
all_printable text = list_all is_printable text

-- a small letter as the large one, and every other byte as it is
abbrev pub upper : ℕ → ℕ
upper b = if is_small_letter b then b - 32 else b

-- the number below 16 that a hexadecimal digit spells
abbrev pub hex_value : ℕ → ℕ
hex_value b = if is_digit b then b - byte.digit_0 else b - byte.upper_a + 10

-- the hexadecimal digit of a number below 16
abbrev pub hex_digit : ℕ → ℕ
hex_digit n = if nat_lt n 10 then byte.digit_0 + n else byte.upper_a + (n - 10)

-- the two hexadecimal digits of a byte
abbrev pub hex_pair : ℕ → List ℕ
hex_pair b = hex_digit (b / 16) ∷ hex_digit (b % 16) ∷ []

-- a byte of two decimal digits, one in each half
abbrev pub is_decimal : ℕ → Bool
is_decimal b = nat_le (b / 16) 9 && nat_le (b % 16) 9

-- the number below 100 that these two digits spell
abbrev pub decimal_of : ℕ → ℕ
decimal_of b = b / 16 * 10 + b % 16

-- the byte of the two decimal digits of a number below 100
abbrev pub decimal_byte : ℕ → ℕ
decimal_byte n = n / 10 * 16 + n % 10

-- the first byte of a text, and 0 where there is none
abbrev pub first : List ℕ → ℕ
first [] = 0
first (b ∷ bs) = b

-- a text without the blanks at its front
abbrev pub skip_blanks : List ℕ → List ℕ
skip_blanks [] = []
skip_blanks (b ∷ bs) = if b == byte.blank then skip_blanks bs else b ∷ bs

-- how many digits a text begins with
abbrev pub digits_width : List ℕ → ℕ
digits_width [] = 0
digits_width (b ∷ bs) = if is_digit b then suc (digits_width bs) else 0

-- the number that the digits at the front of a text spell when they follow those of n, counted up to a cap
abbrev pub capped_value : ℕ → ℕ → List ℕ → ℕ
capped_value cap n [] = n
capped_value cap n (b ∷ bs) = if is_digit b then capped_value cap (min (n * 10 + (b - byte.digit_0)) cap) bs else n

-- digits without the zeros at their front, but the last digit
abbrev pub without_zeros : List ℕ → List ℕ
without_zeros [] = []
without_zeros (d ∷ []) = d ∷ []
without_zeros (d ∷ e ∷ ds) = if d == byte.digit_0 then without_zeros (e ∷ ds) else d ∷ e ∷ ds
