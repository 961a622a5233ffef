-- What follows a unit of a line: the next one, the one after the next `:`, the ELSE after a false IF, the ERROR that takes a fault.
use Rattle.std.specs.Prelude.{ℕ, suc, ◌+◌, ◌==◌, ◌&&◌, nat_lt, List, [], ◌∷◌, length, if◌then◌else◌, Option, Some, None, slice_get}
use Rattle.b2_atom.specs.Words.{Text}
use Rattle.b2_atom.specs.Tokens.Token.{Lined}
use Rattle.b2_atom.specs.Tree.{Trees}
use Rattle.b2_atom.specs.Tree.Trees.{Put, In}
use Rattle.b2_atom.specs.Grammar.{parse_line}
use Rattle.b2_atom.specs.Lines.{is_further}
use Rattle.b2_atom.specs.Units.{TreeUnit, units_on}
use Rattle.b2_atom.specs.declared.rows.TheConstants as row
use Rattle.b2_atom.specs.declared.words.Origin.TheVariants.{Atoms}
use Rattle.b2_rows.specs.Rows.{tree_of}
use Rattle.b2_rows.specs.Values.{line_of}
use Rattle.b2_rows.specs.declared.following.Goal.{Goal}
use Rattle.b2_rows.specs.declared.following.Goal.TheVariants as goal

-- the tree that the bytes of a line are read as, and the units on it
unfoldable pub line_tree : Text → Trees
line_tree line = tree_of (parse_line Atoms line)

abbrev pub tree_units : Text → List TreeUnit
tree_units line = units_on (line_tree line)

-- the first unit after the k-th that follows a `:`, or the number of units; i units were counted before
abbrev pub further_on : ℕ → ℕ → List TreeUnit → ℕ
further_on k i [] = i
further_on k i (u ∷ us) = if nat_lt k i && is_further u.position then i else further_on k (suc i) us

-- a unit of the line, or the next line where the line has no such unit
abbrev pub unit_or_next : ℕ → List TreeUnit → Goal
unit_or_next k us = if nat_lt k (length us) then goal.Unit k else goal.NextLine

-- past the next `:` after the k-th unit
abbrev pub past_colon : ℕ → List TreeUnit → Goal
past_colon k us = unit_or_next (further_on k 0 us) us

-- after THEN, ELSE or ERROR in the k-th unit: the line that is named, or the statement, which is the next unit
abbrev pub named_goal : ℕ → ℕ → Trees → Goal
named_goal k n (Put (Lined high low) end) = if n == 1 then goal.Line (line_of high low) else goal.Unit (k + 1)
named_goal k n t = goal.Unit (k + 1)

abbrev pub else_goal : ℕ → Trees → Goal
else_goal k (Put word (In n named end)) = named_goal k n named
else_goal k t = goal.Unit (k + 1)

-- after a false IF: past the next `:`, and where an ELSE stands there, where it leads
abbrev pub false_goal : ℕ → Option TreeUnit → Goal
false_goal j None = goal.NextLine
false_goal j (Some u) = if u.row == row.ELSE then else_goal j u.tree else goal.Unit j

abbrev pub after_false : ℕ → List TreeUnit → Goal
after_false k us = false_goal (further_on k 0 us) (slice_get us (further_on k 0 us))

-- an ERROR after the next `:` takes a fault of the k-th unit: on to the unit after ERROR
abbrev pub error_goal : ℕ → Option TreeUnit → Option ℕ
error_goal j None = None
error_goal j (Some u) = if u.row == row.ERROR then Some (j + 1) else None

abbrev pub taken_fault : ℕ → List TreeUnit → Option ℕ
taken_fault k us = error_goal (further_on k 0 us) (slice_get us (further_on k 0 us))
