-- What a statement plans, by the unit at the place of a partition.
use Rattle.std.specs.Prelude.{ℕ, ◌==◌, ◌||◌, Bool, Option, None, Some, if◌then◌else◌}
use Rattle.b2_atom.specs.declared.rows.TheConstants as row
use Rattle.b2_access.specs.declared.accesses.Access.{Access}
use Rattle.b2_access.specs.declared.accesses.Answer.{Answer}
use Rattle.b2_access.specs.declared.planned.Outcome.{Outcome}
use Rattle.b2_access.specs.declared.private.Private.{Private}
use Rattle.b2_access.specs.Lending.{SeenLent}
use Rattle.b2_expr.specs.Scope.{Context}
use Rattle.b2_expr.specs.Value.{context_of}
use Rattle.b2_expr.specs.Workspace.{work_in}
use Rattle.b2_access.specs.Partition.{setting_of}
use Rattle.b2_access.specs.Dispatch.{Here, dispatch}
use Rattle.b2_access.specs.Placed.{Statement}
use Rattle.b2_access.specs.Rows.{has_row}
use Rattle.b2_access.specs.Borrowers.{homes_entered}
use Rattle.b2_flow.specs.declared.frame.Place.{Place}
use Rattle.b2_stmt.specs.Asked.{asked_of, asking_rows, carried, is_still, still}
use Rattle.b2_stmt.specs.Borrowing.{asks_of_others, lent_came, lent_ends}
use Rattle.b2_stmt.specs.declared.asked.Asked.{Asked}
use Rattle.b2_stmt.specs.declared.asked.Asked.TheVariants as asked
use Rattle.b2_stmt.specs.Clearing.{asked_access, asks_access, edit_finishes}
use Rattle.b2_stmt.specs.Marked.{ends_with_args, takes_args}
use Rattle.b2_access.specs.Planning.{Finishing, Planning, asks, done, finished, stays}
use Rattle.b2_access.specs.Steering.{Steered, steered}

-- statements for programs alone, and those for immediate lines alone
abbrev pub is_for_programs : ℕ → Bool
is_for_programs r =
    r == row.GOSUB || r == row.GOSUB_MARKED || r == row.RETURN || r == row.RETURN_CLEAR || r == row.DATA || r == row.DEFFN || r == row.DEFFN_MARKED

abbrev pub is_for_immediate_lines : ℕ → Bool
is_for_immediate_lines r = r == row.RUN || r == row.CONTINUE

-- whether a statement may not stand in a line of the program, or in an immediate line
abbrev pub is_refused : ℕ → Bool → Bool
is_refused r program = if program then is_for_immediate_lines r else is_for_programs r

-- what its expressions look at
abbrev pub around : Private → SeenLent → Context
around me s = context_of (work_in (setting_of me) s.home me.vars s.globals)

-- what a statement asks of the private state
abbrev pub asked_by : Statement → Here → Private → SeenLent → Asked
asked_by u h me s = asked_of u.row u.tree h (around me s) s.home.lines

-- an access is asked for, and nothing changes yet; or what it changed is put back
abbrev pub by_access : Option Access → SeenLent → Private → Steered → Planning
by_access None s me e = done s (steered me e)
by_access (Some a) s me e = asks s me a

-- what is asked of the private state is carried out, or it asks for the text of another
abbrev pub plans_asked : Asked → Place → Private → SeenLent → Planning
plans_asked x p me s = by_access (asks_of_others x p me s.own.lines s.home.lines) s me (carried x p me s.own.lines s.home.lines)

-- a statement that asks for no access by its row: most change nothing, DEFFN' takes what a call passes, and the others ask something of
-- the private state
abbrev pub acts : Statement → Here → Private → SeenLent → Planning
acts u h me s =
    if is_still u.row then done s (stays me (still u.row u.tree h (around me s) s.home.lines))
    else (if u.row == row.DEFFN_MARKED then ends_with_args (takes_args u.tree me s) me s
    else plans_asked (asked_by u h me s) h.place me s)

abbrev pub acts_unless : Option Access → Statement → Here → Private → SeenLent → Planning
acts_unless None u h me s = acts u h me s
acts_unless (Some a) u h me s = asks s me a

abbrev pub does : Private → SeenLent → Statement → Here → Planning
does me s u h = acts_unless (asked_access u.row u.tree me.declared (homes_entered me.stack)) u h me s

-- it stops there, and nothing changes
abbrev pub stops : Private → SeenLent → Outcome → Planning
stops me s o = done s (stays me o)

-- what the statement at a partition's place plans
abbrev pub plan : Private → SeenLent → Planning
plan me s = dispatch is_refused (stops me s) (does me s) me.place me s

-- what the statement at its place asks of the private state, as it finishes
abbrev pub asked_at : Private → SeenLent → Asked
asked_at me s = dispatch is_refused asked.Nothing (λ u h. asked_by u h me s) me.place me s

-- how it finishes, by the access that it asked for and its answer
abbrev pub ends_at : Option Place → Access → Answer → Private → SeenLent → Steered
ends_at None x a me s = edit_finishes x a me
ends_at (Some p) x a me s = lent_ends (lent_came x a) (asked_at me s) p me s.own.lines s.home.lines (edit_finishes x a me)

abbrev pub finish : Access → Answer → Private → SeenLent → Finishing
finish x a me s = finished s (steered me (ends_at me.place x a me s))

-- the rows that this crate builds
abbrev pub is_built : ℕ → Bool
is_built r = is_still r || has_row asking_rows r || r == row.DEFFN_MARKED || asks_access r
