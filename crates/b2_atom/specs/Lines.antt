-- Lines as atoms: which lists of bytes spell a line, and its units.
use Rattle.std.specs.Prelude.{◌≡◌, ℕ, zero, suc, ◌-◌, ◌/◌, ◌%◌, ◌≤◌, ◌&&◌, ◌==◌, nat_le, nat_lt, map, Bool, true, false, List, [], ◌∷◌, length, take, drop, if◌then◌else◌, Result, Ok, Err, is_ok, Option, Some, None}
use Rattle.std.specs.List.{All}
use Rattle.b2_base.specs.Byte as byte
use Rattle.b2_base.specs.Lexical.{first}
use Rattle.b2_atom.specs.Words.{Text}
use Rattle.b2_atom.specs.Tokens.{listed}
use Rattle.b2_atom.specs.Tree.{Trees, Outcome, atoms, tokens, uses_in}
use Rattle.b2_atom.specs.Grammar.{reader, part, statement, statement_row, parse_line}
use Rattle.b2_atom.specs.declared.rows.TheConstants as row
use Rattle.b2_atom.specs.declared.words.Origin.{Origin}
use Rattle.b2_atom.specs.declared.words.Origin.TheVariants as origin
use Rattle.b2_atom.specs.declared.output.Stop.{Stop}
use Rattle.b2_atom.specs.declared.output.Stop.TheVariants.{At, Deep, NoMemory}
use Rattle.b2_atom.specs.declared.output.Uses.{Uses}
use Rattle.b2_atom.specs.declared.forms.Position.{Position}
use Rattle.b2_atom.specs.declared.spans.Span.{Span}
use Rattle.b2_atom.specs.declared.forms.Position.TheVariants.{First, Further, Following}

-- a list of at most 255 bytes that the table reads as a line of atoms
unfoldable pub is_line : Text → Bool
is_line t = nat_le (length t) 255 && is_ok (parse_line origin.Atoms t)

-- the atom bytes of what was read
abbrev pub atoms_of : Outcome → Result Text Stop
atoms_of (Ok p) = Ok (atoms p.0)
atoms_of (Err e) = Err e

-- the atom bytes of a line, or why it isn't read
unfoldable pub line_atoms : Origin → Text → Result Text Stop
line_atoms o t = atoms_of (parse_line o t)

-- the atom bytes of a line of at most 255, and nothing of a longer one
abbrev pub short_line : Result Text Stop → Result (Option Text) Stop
short_line (Ok a) = Ok (if nat_lt 255 (length a) then None else Some a)
short_line (Err e) = Err e

-- a refusal's code is a number from 1 to 99
abbrev pub good_code : ℕ → Bool
good_code c = nat_le 1 c && nat_le c 99

abbrev pub IsKnown : Stop → Type 0
IsKnown (At code left) = good_code code ≡ true
IsKnown Deep = Unit {0}
IsKnown NoMemory = Unit {0}

-- the canonical source of what was read
abbrev pub source_of : Outcome → Result Text Stop
source_of (Ok p) = Ok (listed false false (tokens p.0))
source_of (Err e) = Err e

-- the canonical source of a line of atoms
unfoldable pub line_source : Text → Result Text Stop
line_source t = source_of (parse_line origin.Atoms t)

-- what is left after a reading
abbrev pub left_after : Outcome → Text
left_after (Ok p) = p.1
left_after (Err e) = []

-- what stands after the first unit of a text: a statement without the one that follows its THEN, ELSE or ERROR
unfoldable pub after_unit : Position → Text → Text
after_unit p t = left_after (statement (reader origin.Atoms) 1 p t)

-- a unit: where it stands, and its bytes
pub record LineUnit : Type 0 where
  pub position : Position
  pub bytes : Text

abbrev pub leading_unit : Position → Text → LineUnit
leading_unit p t = record { position = p; bytes = take (length t - length (after_unit p t)) t }

-- the row of a statement that begins somewhere, and the line's own, which is no statement's, where none begins
abbrev pub chosen_row : Result (ℕ × Text) Stop → ℕ
chosen_row (Ok p) = p.0
chosen_row (Err e) = row.LINE

-- the row of a unit: the one that the table chooses for its own bytes at its place
unfoldable pub unit_row : LineUnit → ℕ
unit_row u = chosen_row (statement_row origin.Atoms u.position u.bytes)

-- what is used in what was read
abbrev pub uses_of : Outcome → Uses
uses_of (Ok p) = uses_in p.0
uses_of (Err e) = record { globals = false; functions = false }

-- what a unit uses: an `@` name, a function
unfoldable pub unit_uses : LineUnit → Uses
unit_uses u = uses_of (statement (reader origin.Atoms) 1 u.position u.bytes)

-- bytes that a row reads from the first to the last, with no statement in it
pub record IsReadBy (number : ℕ) (bytes : Text) : Type 0 where
  pub tree : Trees
  pub read : part origin.Atoms 0 32 40 number bytes ≡ Ok (tree, [])

-- the units in what stands after one: a `:` parts them, or nothing where a statement follows
abbrev pub next_position : Text → Position
next_position rest = if first rest == byte.colon then Further else Following

abbrev pub next_text : Text → Text
next_text rest = if first rest == byte.colon then drop 1 rest else rest

abbrev pub units_after : (Position → Text → List LineUnit) → Text → List LineUnit
units_after more [] = []
units_after more (b ∷ bs) = more (next_position (b ∷ bs)) (next_text (b ∷ bs))

-- the first units of a text from a place on, at most n
abbrev pub units_from : ℕ → Position → Text → List LineUnit
units_from zero p t = []
units_from (suc n) p t = leading_unit p t ∷ units_after (units_from n) (after_unit p t)

-- the units of a line, which are no more than its bytes
unfoldable pub units_of : Text → List LineUnit
units_of t = units_from (length t) First t

-- the number of a place in a line, and the place of a number
abbrev pub position_number : Position → ℕ
position_number First = 0
position_number Further = 1
position_number Following = 2

abbrev pub numbered_position : ℕ → Position
numbered_position n = if n == 0 then First else (if n == 1 then Further else Following)

-- what a word says of a unit: the row of its statement, where it stands, and what it uses
abbrev pub row_of : ℕ → ℕ
row_of word = word / 16

abbrev pub position_of : ℕ → Position
position_of word = numbered_position (word / 4 % 4)

abbrev pub uses_of_word : ℕ → Uses
uses_of_word word = record { globals = word / 2 % 2 == 1; functions = word % 2 == 1 }

abbrev pub span_row : Span → ℕ
span_row s = row_of s.word

abbrev pub span_position : Span → Position
span_position s = position_of s.word

abbrev pub span_uses : Span → Uses
span_uses s = uses_of_word s.word

-- a unit by its span: its place, and which of the line's bytes are its own
abbrev pub spanned : Text → Span → LineUnit
spanned line s = record { position = span_position s; bytes = take s.width (drop s.from line) }

-- a span keeps the row of its unit
abbrev pub KeepsRow : Text → Span → Type 0
KeepsRow line s = span_row s ≡ unit_row (spanned line s)

-- and what the unit uses
abbrev pub KeepsUses : Text → Span → Type 0
KeepsUses line s = span_uses s ≡ unit_uses (spanned line s)

-- the spans of all units of a line, each with its unit's row and with what the unit uses
pub record KeepsUnits (line : Text) (spans : List Span) : Type 0 where
  pub line_is : is_line line ≡ true
  pub units : map (spanned line) spans ≡ units_of line
  pub rows : All (KeepsRow line) spans
  pub uses : All (KeepsUses line) spans

-- a text at the end of another
pub record IsEndOf (line left : Text) : Type 0 where
  pub short : length left ≤ length line
  pub is : drop (length line - length left) line ≡ left

abbrev pub is_further : Position → Bool
is_further First = false
is_further Further = true
is_further Following = false

-- the first unit after the k-th that follows a `:`, or the number of units; i units were counted before
abbrev pub further_unit : ℕ → ℕ → List LineUnit → ℕ
further_unit k i [] = i
further_unit k i (u ∷ us) = if nat_lt k i && is_further u.position then i else further_unit k (suc i) us
