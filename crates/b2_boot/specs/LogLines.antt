-- A line of a log: its words, and what they ask before any number is looked at.
use Rattle.std.specs.Prelude.{ℕ, ◌+◌, ◌-◌, ◌*◌, ◌&&◌, ◌==◌, not, nat_lt, List, [], ◌∷◌, ◌++◌, length, take, get_or, codes, Option, Some, None, option_map, option_and_then, unwrap_or, if◌then◌else◌}
use Rattle.b2_base.specs.Byte as byte
use Rattle.b2_base.specs.Lexical.{all_printable, is_hex_digit, hex_value, digits_width, capped_value}
use Rattle.b2_base.specs.Pieces.{pieces, before, after}
use Rattle.b2_boot.specs.Rows.{spells}
use Rattle.b2_boot.specs.declared.log_lines.Asked.{Asked}
use Rattle.b2_boot.specs.declared.log_lines.Asked.TheVariants as asked
use Rattle.b2_boot.specs.declared.log_lines.LineRead.{LineRead}
use Rattle.b2_boot.specs.declared.log_lines.LineRead.TheVariants.{Nothing, Asks, Fails}

-- a line without the carriage return at its end
abbrev pub without_return : List ℕ → List ℕ
without_return line = if get_or line (length line - 1) 0 == byte.carriage_return then take (length line - 1) line else line

-- a carriage return before a newline doesn't belong to the line
abbrev pub without_returns : List (List ℕ) → List (List ℕ)
without_returns [] = []
without_returns (l ∷ []) = l ∷ []
without_returns (l ∷ m ∷ ls) = without_return l ∷ without_returns (m ∷ ls)

-- the lines of a text; after the last newline there is one more, which may be empty
abbrev pub text_lines : List ℕ → List (List ℕ)
text_lines text = without_returns (pieces byte.newline text)

-- the lines of what follows a newline, where there is one
abbrev pub lines_beyond : Option (List ℕ) → List (List ℕ)
lines_beyond None = []
lines_beyond (Some rest) = text_lines rest

-- digits alone as their number, or as a million where it is above, which is out of each range
abbrev pub digits_alone : List ℕ → Option ℕ
digits_alone word = if nat_lt (digits_width word) (length word) then None else Some (capped_value 1000000 0 word)

-- a number without leading zeros
abbrev pub plain_number : List ℕ → Option ℕ
plain_number [] = None
plain_number (b ∷ bs) = if (b == byte.digit_0) && not (length bs == 0) then None else digits_alone (b ∷ bs)

abbrev pub only_number : Option (List ℕ) → Option ℕ
only_number args = option_and_then plain_number args

-- two numbers, parted by a blank
abbrev pub number_pair : Option ℕ → Option ℕ → Option (ℕ × ℕ)
number_pair (Some m) (Some n) = Some (m, n)
number_pair m n = None

abbrev pub pair_by : List ℕ → Option (ℕ × ℕ)
pair_by args = number_pair (plain_number (before byte.blank args)) (only_number (after byte.blank args))

abbrev pub pair_in : Option (List ℕ) → Option (ℕ × ℕ)
pair_in args = option_and_then pair_by args

-- a byte as two upper hexadecimal digits
abbrev pub byte_in : Option (List ℕ) → Option ℕ
byte_in (Some (h ∷ l ∷ [])) = if is_hex_digit h && is_hex_digit l then Some (hex_value h * 16 + hex_value l) else None
byte_in word = None

-- keys at a terminal, where both are spelled
abbrev pub keys_at : Option ℕ → Option (List ℕ) → Option Asked
keys_at (Some t) (Some keys) = Some (asked.Keys t keys)
keys_at t keys = None

-- a terminal and a text, which may be left out, with what is typed after it
abbrev pub text_asked_by : List ℕ → List ℕ → Option Asked
text_asked_by end args = keys_at (plain_number (before byte.blank args)) (Some (unwrap_or (after byte.blank args) [] ++ end))

abbrev pub text_asked : List ℕ → Option (List ℕ) → Option Asked
text_asked end args = option_and_then (text_asked_by end) args

-- a terminal and a byte
abbrev pub key_asked_by : List ℕ → Option Asked
key_asked_by args = keys_at (plain_number (before byte.blank args)) (option_map (λ b. b ∷ []) (byte_in (after byte.blank args)))

abbrev pub key_asked : Option (List ℕ) → Option Asked
key_asked args = option_and_then key_asked_by args

-- what is asked of two numbers
abbrev pub asked_by_pair : (ℕ → ℕ → Asked) → Option (List ℕ) → Option Asked
asked_by_pair ask args = option_map (λ ns. ask ns.0 ns.1) (pair_in args)

abbrev pub asked_by_number : (ℕ → Asked) → Option (List ℕ) → Option Asked
asked_by_number ask args = option_map ask (only_number args)

-- 3: what is asked, unless arguments are missing, surplus or misspelled
abbrev pub unless_misspelled : Option Asked → LineRead
unless_misspelled None = Fails 3
unless_misspelled (Some a) = Asks a

-- 2 and 3: what a word and its numbers ask
abbrev pub asked_by_numbers : List ℕ → Option (List ℕ) → LineRead
asked_by_numbers word args =
    if spells (codes "sf") word then unless_misspelled (asked_by_pair asked.Special args)
    else (if spells (codes "front") word then unless_misspelled (asked_by_pair asked.Front args)
    else (if spells (codes "halt") word then unless_misspelled (asked_by_number asked.Halt args)
    else (if spells (codes "reset") word then unless_misspelled (asked_by_number asked.Reset args)
    else (if spells (codes "turn") word then unless_misspelled (asked_by_pair asked.Turn args)
    else (if spells (codes "rounds") word then unless_misspelled (asked_by_number asked.Rounds args)
    else Fails 2)))))

-- 2 and 3: what a word and its arguments ask; `type` types a text and RETURN
abbrev pub asked_by_words : List ℕ → Option (List ℕ) → LineRead
asked_by_words word args =
    if spells (codes "type") word then unless_misspelled (text_asked (byte.carriage_return ∷ []) args)
    else (if spells (codes "keys") word then unless_misspelled (text_asked [] args)
    else (if spells (codes "key") word then unless_misspelled (key_asked args)
    else asked_by_numbers word args))

-- an empty line and one that begins with `#` say nothing
abbrev pub line_by : List ℕ → LineRead
line_by [] = Nothing
line_by (b ∷ bs) = if b == byte.number_sign then Nothing else asked_by_words (before byte.blank (b ∷ bs)) (after byte.blank (b ∷ bs))

-- 1 to 3: what a line asks
abbrev pub asked_by_line : List ℕ → LineRead
asked_by_line line = if all_printable line then line_by line else Fails 1
