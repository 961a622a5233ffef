-- What a special function key types: the literal of the DEFFN' of its number.
use Rattle.std.specs.Prelude.{ℕ, ◌==◌, List, Option, Some, None, if◌then◌else◌}
use Rattle.std.specs.Option.{option_and_then}
use Rattle.b2_atom.specs.Tokens.Token.{Plain}
use Rattle.b2_atom.specs.Tree.{Trees}
use Rattle.b2_atom.specs.Tree.Trees.{Put, In}
use Rattle.b2_atom.specs.declared.rows.TheConstants as row
use Rattle.b2_rows.specs.Values.{literal_of}
use Rattle.b2_text.specs.Program.{Lines, line_at}
use Rattle.b2_text.specs.Spots.{first_opening, is_mark}
use Rattle.b2_text.specs.declared.spots.Spot.{Spot}
use Rattle.b2_access.specs.Placed.{Statement, statement_on}

-- the bytes of a literal
abbrev pub bytes_quoted : Trees → Option (List ℕ)
bytes_quoted (Put (Plain k text) end) = Some (literal_of text)
bytes_quoted t = None

-- the literal of a DEFFN' that has one
abbrev pub tail_bytes : Trees → Option (List ℕ)
tail_bytes (In n (In m literal end) more) = if m == 1 then bytes_quoted literal else None
tail_bytes t = None

abbrev pub mark_bytes : Trees → Option (List ℕ)
mark_bytes (Put word (Put number tail)) = tail_bytes tail
mark_bytes t = None

abbrev pub bytes_of_mark : Statement → Option (List ℕ)
bytes_of_mark u = if u.row == row.DEFFN_MARKED then mark_bytes u.tree else None

-- at the spot of a DEFFN' in a text
abbrev pub literal_at_spot : Lines → Spot → Option (List ℕ)
literal_at_spot lines spot = option_and_then bytes_of_mark (statement_on (line_at spot.line lines) spot.unit)

abbrev pub typed_by_mark : ℕ → Lines → Option (List ℕ)
typed_by_mark n lines = option_and_then (literal_at_spot lines) (first_opening (is_mark n) lines)
