-- The program that sectors spell, read: loosely at first, as lengths say, and then spelled again and compared.
use Rattle.std.specs.Prelude.{ℕ, zero, suc, ◌+◌, ◌-◌, ◌*◌, Bool, true, ◌&&◌, ◌==◌, nat_le, nat_lt, List, [], ◌∷◌, ◌++◌, length, take, drop, replicate, Option, Some, None, if◌then◌else◌}
use Rattle.std.specs.List.{list_all}
use Rattle.std.specs.Str.{bytes_eq}
use Rattle.b2_base.specs.Lexical.{first}
use Rattle.b2_atom.specs.Lines.{is_line}
use Rattle.b2_text.specs.Program.{Lines}
use Rattle.b2_progfile.specs.declared.spelling.TheConstants.{PIECE, PROGRAM_END}
use Rattle.b2_progfile.specs.Programs.{held_bytes, program_bytes}

-- the lines that bytes begin with, at most so many, as their numbers and lengths say
abbrev pub lines_in : ℕ → List ℕ → Lines
lines_in zero bytes = []
lines_in (suc n) [] = []
lines_in (suc n) (high ∷ []) = []
lines_in (suc n) (high ∷ low ∷ []) = []
lines_in (suc n) (high ∷ low ∷ count ∷ after) =
    if high == PROGRAM_END then [] else (high * 256 + low, take count after) ∷ lines_in n (drop count after)

-- the numbers ascend from some number on and are at most 9999, and the atoms spell lines
abbrev pub is_ascending : ℕ → Lines → Bool
is_ascending least [] = true
is_ascending least (l ∷ lines) = nat_le least l.0 && nat_le l.0 9999 && is_line l.1 && is_ascending (l.0 + 1) lines

-- bytes are some text and fewer than 255 bytes 00
abbrev pub is_filled_up : List ℕ → List ℕ → Bool
is_filled_up text bytes =
    nat_lt (length bytes - length text) 255 && bytes_eq bytes (text ++ replicate (length bytes - length text) 0)

-- the sectors spell a program of these lines
abbrev pub spells_program : Lines → List (List ℕ) → Bool
spells_program lines sectors =
    list_all (λ s. first s == PIECE) sectors && is_ascending 0 lines && is_filled_up (program_bytes lines) (held_bytes sectors)

abbrev pub program_as : Lines → List (List ℕ) → Option Lines
program_as lines sectors = if spells_program lines sectors then Some lines else None

-- THE PROGRAM that sectors spell, none where they spell none
unfoldable pub program_in : List (List ℕ) → Option Lines
program_in sectors = program_as (lines_in (length (held_bytes sectors)) (held_bytes sectors)) sectors
