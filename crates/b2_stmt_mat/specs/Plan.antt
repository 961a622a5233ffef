-- What a statement plans, by the unit at the place of a partition, and how it finishes.
use Rattle.std.specs.Prelude.{ℕ, Bool, false, List, [], ◌∷◌}
use Rattle.b2_base.specs.declared.codes.TheConstants.{S27_LEFT_OUT}
use Rattle.b2_atom.specs.Tree.{Trees}
use Rattle.b2_atom.specs.declared.rows.TheConstants as row
use Rattle.b2_expr.specs.Workspace.{WorkState, WorkLeft, changed_by, refused, work_in}
use Rattle.b2_access.specs.Dispatch.{Here, dispatch}
use Rattle.b2_access.specs.Lending.{SeenLent}
use Rattle.b2_access.specs.Partition.{setting_of}
use Rattle.b2_access.specs.Placed.{Statement}
use Rattle.b2_access.specs.Rows.{at_row, has_row}
use Rattle.b2_access.specs.Planning.{Finishing, Planning}
use Rattle.b2_access.specs.Working.{Ends, Worked, Working, finishes_by, leaves, plans_by, stops, with_variables, work_of}
use Rattle.b2_access.specs.declared.accesses.Access.{Access}
use Rattle.b2_access.specs.declared.accesses.Answer.{Answer}
use Rattle.b2_access.specs.declared.planned.Outcome.TheVariants as outcome
use Rattle.b2_access.specs.declared.private.Private.{Private}
use Rattle.b2_stmt_mat.specs.ByteArrays.{copies, moves, sorts}
use Rattle.b2_stmt_mat.specs.Matrices.{assigns}
use Rattle.b2_stmt_mat.specs.Redimensioning.{redimensions}
use Rattle.b2_stmt_mat.specs.Searching.{searches}

-- what a statement leaves, a line a row
abbrev pub Changes : Type 0
Changes = Trees → WorkState → WorkLeft

abbrev pub changing_rows : List (ℕ × Changes)
changing_rows =
    (row.MAT, λ t w. assigns t w)
    ∷ (row.MAT_REDIM, λ t w. redimensions t w)
    ∷ (row.MAT_SEARCH, λ t w. searches t w)
    ∷ (row.MAT_MOVE, λ t w. moves t w)
    ∷ (row.MAT_SORT, λ t w. sorts t w)
    ∷ (row.MAT_COPY, λ t w. copies t w)
    ∷ []

-- what isn't built is left out
abbrev pub left_out : Changes
left_out t w = refused S27_LEFT_OUT w

abbrev pub changes : ℕ → Changes
changes r = at_row changing_rows left_out r

-- a statement ends at once, and what it changed is put back
abbrev pub ended_of : Statement → Private → SeenLent → Worked
ended_of u me s = with_variables (changed_by (changes u.row u.tree (work_in (setting_of me) s.home me.vars s.globals))) outcome.Next (work_of me)

abbrev pub does : Private → SeenLent → Statement → Here → Working
does me s u h = Ends (ended_of u me s)

-- each may stand in a line of the program, and in an immediate line
abbrev pub is_refused : ℕ → Bool → Bool
is_refused r program = false

-- what the statement at a partition's place plans
abbrev pub works : Private → SeenLent → Working
works me s = dispatch is_refused stops (does me s) me.place me s

abbrev pub plan : Private → SeenLent → Planning
plan me s = plans_by works me s

-- it asks for no access, so nothing is finished
abbrev pub ends : Access → Answer → Private → SeenLent → Worked
ends x a me s = leaves me outcome.Repeat

abbrev pub finish : Access → Answer → Private → SeenLent → Finishing
finish x a me s = finishes_by ends x a me s

-- the rows that this crate builds
abbrev pub is_built : ℕ → Bool
is_built r = has_row changing_rows r
