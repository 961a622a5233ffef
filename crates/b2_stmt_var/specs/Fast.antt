-- An assignment that is done fast, among a partition's own variables.
use Rattle.std.specs.Prelude.{ℕ, List, [], None, Some}
use Rattle.b2_text.specs.Program.{TextState}
use Rattle.b2_vars.specs.Globals.{unreached}
use Rattle.b2_vars.specs.Tables.{VarsState}
use Rattle.b2_expr.specs.Workspace.{WorkState, WorkLeft, work_in}
use Rattle.b2_receiver.specs.RightSide.{Side}
use Rattle.b2_access.specs.Partition.{setting_of}
use Rattle.b2_access.specs.declared.private.Private.{Private}

-- what a statement of a partition works in where no `@` variables are lent
abbrev pub own_work : Private → TextState → WorkState
own_work me home = work_in (setting_of me) home me.vars (unreached None)

-- it ends without a code, and leaves these own variables
abbrev pub assigned : WorkState → VarsState → WorkLeft
assigned w vars = record { work = record w { own = vars }; code = None }

-- the right side that is one value, without operations
abbrev pub one_value : List ℕ → Side
one_value bytes = record { first = Some bytes; operations = [] }
