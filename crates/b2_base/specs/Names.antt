-- The names of files outside, of files on disks, and the addresses of devices.
use Rattle.std.specs.Prelude.{ℕ, ◌-◌, Bool, false, ◌&&◌, ◌||◌, ◌==◌, not, nat_le, nat_eq, List, [], ◌∷◌, ◌++◌, length, replicate, Option, Some, None, if◌then◌else◌}
use Rattle.std.specs.List.{list_all}
use Rattle.b2_base.specs.Byte as byte
use Rattle.b2_base.specs.Lexical.{is_digit, is_letter, is_small_letter, is_hex_digit, all_printable}

-- a letter, a digit, `.`, `_`, `-` or `/`
abbrev pub is_name_byte : ℕ → Bool
is_name_byte b =
    is_letter b || is_small_letter b || is_digit b
    || (b == byte.point) || (b == byte.underscore) || (b == byte.minus) || (b == byte.slash)

-- the name of a file outside: 1 to 190 such bytes
abbrev pub is_file_name : List ℕ → Bool
is_file_name name = nat_le 1 (length name) && nat_le (length name) 190 && list_all is_name_byte name

abbrev pub file_name_of : List ℕ → Option (List ℕ)
file_name_of name = if is_file_name name then Some name else None

-- a name on a disk: 1 to 8 bytes that can be shown, the first no blank
abbrev pub is_name8 : List ℕ → Bool
is_name8 [] = false
is_name8 (b ∷ bs) = not (b == byte.blank) && nat_le (length (b ∷ bs)) 8 && all_printable (b ∷ bs)

-- with blanks up to eight bytes
abbrev pub padded8 : List ℕ → List ℕ
padded8 name = name ++ replicate (8 - length name) byte.blank

abbrev pub name8_of : List ℕ → Option (List ℕ)
name8_of name = if is_name8 name then Some (padded8 name) else None

-- an address: three upper hexadecimal digits
abbrev pub is_address : List ℕ → Bool
is_address address = nat_eq (length address) 3 && list_all is_hex_digit address

abbrev pub address_of : List ℕ → Option (List ℕ)
address_of bytes = if is_address bytes then Some bytes else None
