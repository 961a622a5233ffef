-- A program as it is saved: its lines, what ends them, and the sectors that hold these bytes.
use Rattle.std.specs.Prelude.{◌≡◌, ℕ, ◌+◌, ◌/◌, ◌%◌, ◌<◌, ◌≤◌, true, List, [], ◌∷◌, ◌++◌, length, drop, replicate}
use Rattle.b2_base.specs.Lexical.{first}
use Rattle.b2_atom.specs.Lines.{is_line}
use Rattle.b2_platter.specs.Image.{sectors_at}
use Rattle.b2_catalog.specs.declared.entry.Entry.{Entry}
use Rattle.b2_text.specs.Program.{Lines}
use Rattle.b2_progfile.specs.declared.spelling.TheConstants.{PIECE, PROGRAM_END}

-- a line: its number in two bytes, the higher first, the length of its atoms, and the atoms
abbrev pub line_bytes : ℕ × List ℕ → List ℕ
line_bytes l = l.0 / 256 ∷ l.0 % 256 ∷ length l.1 ∷ l.1

-- lines one after the other
abbrev pub all_line_bytes : Lines → List ℕ
all_line_bytes [] = []
all_line_bytes (l ∷ lines) = line_bytes l ++ all_line_bytes lines

-- a program: its lines, and what ends them
abbrev pub program_bytes : Lines → List ℕ
program_bytes lines = all_line_bytes lines ++ PROGRAM_END ∷ PROGRAM_END ∷ []

-- lines that a program may have: the numbers ascend from some number on and are at most 9999, and the atoms spell a line
abbrev pub Ascending : ℕ → Lines → Type 0
Ascending least [] = Unit {0}
Ascending least (l ∷ lines) = (least ≤ l.0) × (l.0 ≤ 9999) × (is_line l.1 ≡ true) × Ascending (l.0 + 1) lines

-- a program, and fewer than 255 bytes 00 after it
pub record IsProgramText (lines : Lines) (bytes : List ℕ) : Type 0 where
  pub ascending : Ascending 0 lines
  pub zeros : ℕ
  pub few : zeros < 255
  pub same : bytes ≡ program_bytes lines ++ replicate zeros 0

-- each sector begins as a piece of a program
abbrev pub AllPieces : List (List ℕ) → Type 0
AllPieces [] = Unit {0}
AllPieces (s ∷ sectors) = (first s ≡ PIECE) × AllPieces sectors

-- what sectors hold after their first bytes
abbrev pub held_bytes : List (List ℕ) → List ℕ
held_bytes [] = []
held_bytes (s ∷ sectors) = drop 1 s ++ held_bytes sectors

-- sectors spell a program: each is a piece, and what they hold is the program, with 00 in the last piece alone
pub record SpellsProgram (lines : Lines) (sectors : List (List ℕ)) : Type 0 where
  pub pieces : AllPieces sectors
  pub text : IsProgramText lines (held_bytes sectors)

-- a live program file with these lines
pub record IsProgramFile (image : List ℕ) (e : Entry) (lines : Lines) : Type 0 where
  pub live : e.live ≡ true
  pub kind : e.program ≡ true
  pub spelled : SpellsProgram lines (sectors_at image e.start e.used)
