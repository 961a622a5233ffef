-- DATA: its literals, and the literals of a text one after another.
use Rattle.std.specs.Prelude.{ℕ, ◌+◌, ◌==◌, min, List, [], ◌∷◌, Option, None, Some, Result, Ok, Err, slice_get, if◌then◌else◌}
use Rattle.std.specs.Option.{option_map, option_and_then}
use Rattle.b2_base.specs.declared.codes.TheConstants.{S16_NUMBER_LITERAL}
use Rattle.b2_dec.specs.declared.values.Value.{Value}
use Rattle.b2_dec.specs.declared.values.Value.TheVariants as value
use Rattle.b2_atom.specs.Words.{Text}
use Rattle.b2_atom.specs.Tokens.Token.{Plain}
use Rattle.b2_atom.specs.Tree.{Trees, also}
use Rattle.b2_atom.specs.Tree.Trees.{Done, Put, In}
use Rattle.b2_atom.specs.declared.rows.TheConstants as row
use Rattle.b2_atom.specs.declared.forms.Leaf.TheVariants as leaf
use Rattle.b2_rows.specs.Leaves.{leaf_bytes}
use Rattle.b2_rows.specs.Rows.{after_phrase, list_at, tree_at}
use Rattle.b2_rows.specs.Values.{literal_of}
use Rattle.b2_text.specs.Program.{Lines, line_at}
use Rattle.b2_text.specs.Spots.{data_from, or_else}
use Rattle.b2_text.specs.declared.spots.Spot.{Spot}
use Rattle.b2_expr.specs.Answers.{◌>>=◌}
use Rattle.b2_expr.specs.Value.{literal_value}
use Rattle.b2_access.specs.Placed.{Statement, statement_on}
use Rattle.b2_rows.specs.CommaLists.{all_listed, further_listed, commas}
use Rattle.b2_stmt_var.specs.declared.data.Literal.{Literal}

-- the value of a literal: bytes in quotes, or a number, which may have a sign and is C60 or C61 where it is out of range
abbrev pub spelled_value : ℕ → Text → Result Value ℕ
spelled_value n w = if n == 1 then Ok (value.Alpha (literal_of w)) else literal_value w >>= (λ x. Ok (value.Number x))

abbrev pub datum_value : Trees → Result Value ℕ
datum_value (In n (Put (Plain k w) end) more) = spelled_value n w
datum_value t = Err S16_NUMBER_LITERAL

-- the bytes of a literal in quotes at a text
abbrev pub literal_bytes_at : Text → List ℕ
literal_bytes_at t = literal_of (leaf_bytes leaf.Literal t)

-- the literals at a text, with commas between them
abbrev pub data_at : Text → List Trees
data_at t = tree_at row.DATUM t ∷ further_listed (also (list_at commas row.COMMA_DATUM (after_phrase row.DATUM t)) Done)

-- the literals of a unit; none where it is no DATA
abbrev pub literals_listed : Trees → List Trees
literals_listed (Put word literals) = all_listed literals
literals_listed t = []

abbrev pub literals_of : ℕ → Trees → List Trees
literals_of r t = if r == row.DATA then literals_listed t else []

abbrev pub literals_in : Option Statement → List Trees
literals_in None = []
literals_in (Some u) = literals_of u.row u.tree

-- those of the unit at a spot of a text
abbrev pub literals_at : Lines → Spot → List Trees
literals_at lines spot = literals_in (statement_on (line_at spot.line lines) spot.unit)

-- one of them, counted from 0, and where READ goes on after it; counts stop at 255
abbrev pub read_at : Spot → ℕ → Trees → Literal
read_at spot k t = record { value = datum_value t; after = (spot, min (k + 1) 255) }

abbrev pub literal_at : Lines → Spot → ℕ → Option Literal
literal_at lines spot k = option_map (read_at spot k) (slice_get (literals_at lines spot) k)

-- the first literal of the first DATA at or after a spot
abbrev pub first_literal : Lines → Spot → Option Literal
first_literal lines from = option_and_then (λ (spot : Spot). literal_at lines spot 0) (data_from from lines)

-- the literal after those that were read of a unit: the next one in it, and else the first of the next DATA
abbrev pub unit_after : Spot → Spot
unit_after spot = record spot { unit = min (spot.unit + 1) 255 }

abbrev pub next_literal : Lines → Option (Spot × ℕ) → Option Literal
next_literal lines None = first_literal lines (record { line = 0; unit = 0 })
next_literal lines (Some p) = or_else (literal_at lines p.0 p.1) (first_literal lines (unit_after p.0))
