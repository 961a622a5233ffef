-- What a typed line means: nothing, a deletion, a line of a program or an immediate line, or what is missing where.
use Rattle.std.specs.Prelude.{◌≤◌, ℕ, suc, ◌+◌, ◌-◌, nat_lt, [], ◌∷◌, length, drop, if◌then◌else◌, Result, Ok, Err}
use Rattle.b2_base.specs.declared.codes.TheConstants.{A04_TOO_DEEP, A05_LINE_TOO_LONG, A07_LINE_NUMBER, S29_BYTE}
use Rattle.b2_base.specs.Lexical.{is_digit, is_printable, digits_width, capped_value, skip_blanks}
use Rattle.b2_atom.specs.Words.{Text}
use Rattle.b2_atom.specs.Lines.{line_atoms}
use Rattle.b2_atom.specs.declared.words.Origin.{Origin}
use Rattle.b2_atom.specs.declared.words.Origin.TheVariants as origin
use Rattle.b2_atom.specs.declared.output.Stop.{Stop}
use Rattle.b2_atom.specs.declared.output.Stop.TheVariants as stop
use Rattle.b2_syntax.specs.declared.Entered.{Entered}
use Rattle.b2_syntax.specs.declared.Entered.TheVariants.{Empty, Delete, Numbered, Immediate}
use Rattle.b2_syntax.specs.declared.LineErr.{LineErr}
use Rattle.b2_syntax.specs.declared.LineErr.TheVariants.{At, NoMemory}

-- how many bytes stand before the first that can't stand in a line
abbrev pub printable_width : Text → ℕ
printable_width [] = 0
printable_width (b ∷ bs) = if is_printable b then suc (printable_width bs) else 0

-- what follows the digits at the front
abbrev pub after_digits : Text → Text
after_digits t = drop (digits_width t) t

-- a refusal of the table, as one of a line of n bytes: the column is one more than the bytes before the place
abbrev pub refusal : Stop → ℕ → LineErr
refusal (stop.At code left) n = At code (n - left + 1)
refusal stop.Deep n = At A04_TOO_DEEP 0
refusal stop.NoMemory n = NoMemory

-- more than 255 bytes of atoms are too long
abbrev pub not_too_long : Result Text Stop → ℕ → Result Text LineErr
not_too_long (Err e) n = Err (refusal e n)
not_too_long (Ok a) n = if nat_lt 255 (length a) then Err (At A05_LINE_TOO_LONG 0) else Ok a

abbrev pub read_atoms : Origin → Text → ℕ → Result Text LineErr
read_atoms o rest n = not_too_long (line_atoms o rest) n

-- the number of a line is at most 9999
abbrev pub IsNumbered : Entered → Type 0
IsNumbered Empty = Unit {0}
IsNumbered (Delete n) = n ≤ 9999
IsNumbered (Numbered n a) = n ≤ 9999
IsNumbered (Immediate a) = Unit {0}

abbrev pub with_atoms : (Text → Entered) → Result Text LineErr → Result Entered LineErr
with_atoms f (Ok a) = Ok (f a)
with_atoms f (Err e) = Err e

abbrev pub after_number : ℕ → ℕ → Text → Result Entered LineErr
after_number n number [] = Ok (Delete number)
after_number n number (b ∷ bs) = with_atoms (Numbered number) (read_atoms origin.Program (b ∷ bs) n)

-- a line with a number of its own, which is at most 9999
abbrev pub numbered : ℕ → Text → Result Entered LineErr
numbered n own = if nat_lt 9999 (capped_value 10000 0 own) then Err (At A07_LINE_NUMBER 0) else after_number n (capped_value 10000 0 own) (skip_blanks (after_digits own))

abbrev pub immediate : ℕ → Text → Result Entered LineErr
immediate n rest = with_atoms Immediate (read_atoms origin.Immediate rest n)

abbrev pub by_first : ℕ → Text → Result Entered LineErr
by_first n [] = Ok Empty
by_first n (b ∷ bs) = if is_digit b then numbered n (b ∷ bs) else immediate n (b ∷ bs)

-- every byte is tested first, then the line's number, and then the items from the left
abbrev pub reads : Text → Result Entered LineErr
reads line = if nat_lt (printable_width line) (length line) then Err (At S29_BYTE (printable_width line + 1)) else by_first (length line) (skip_blanks line)
