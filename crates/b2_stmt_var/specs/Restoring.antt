-- RESTORE, and CLEAR V and CLEAR N.
use Rattle.std.specs.Prelude.{ℕ, ◌==◌, Bool, List, Option, None, Some, if◌then◌else◌}
use Rattle.std.specs.FinMap as map
use Rattle.b2_base.specs.declared.codes.TheConstants.{P36_NO_LINE}
use Rattle.b2_atom.specs.Tree.{Trees}
use Rattle.b2_atom.specs.Tree.Trees.{Put, In}
use Rattle.b2_rows.specs.LineNumbers.{line_in}
use Rattle.b2_text.specs.Program.{Lines, line_at}
use Rattle.b2_text.specs.declared.spots.Spot.{Spot}
use Rattle.b2_vars.specs.Calls.{common_only}
use Rattle.b2_vars.specs.Tables.{VarsState}
use Rattle.b2_expr.specs.Workspace.{WorkState}
use Rattle.b2_stmt_var.specs.Left.{Left, nothing_left}

-- RESTORE: READ goes on at the first DATA, or at a line of the own text
abbrev pub restores_where : Option (List ℕ) → ℕ → WorkState → Option (Spot × ℕ) → Left
restores_where None n w next = nothing_left P36_NO_LINE w next
restores_where (Some line) n w next = record { work = w; next = Some (record { line = n; unit = 0 }, 0); code = None }

abbrev pub restores : Option ℕ → Lines → WorkState → Option (Spot × ℕ) → Left
restores None own w next = record { work = w; next = None; code = None }
restores (Some n) own w next = restores_where (line_at n own) n w next

abbrev pub line_to_restore : Trees → Option ℕ
line_to_restore (Put word (In n (Put line_word line) end)) = if n == 1 then Some (line_in line) else None
line_to_restore t = None

-- CLEAR V, which takes the common variables too, and CLEAR N
abbrev pub without_variables : Bool → VarsState → VarsState
without_variables common vars = record vars { table = if common then map.empty else common_only vars.table }

abbrev pub clears_variables : Bool → WorkState → Option (Spot × ℕ) → Left
clears_variables common w next = record { work = record w { own = without_variables common w.own }; next = next; code = None }
