-- What the expressions and the receivers of a statement look at, and what they change.
use Rattle.std.specs.Prelude.{◌≡◌, ℕ, ◌==◌, ◌||◌, Bool, true, false, Option, Some, None, if◌then◌else◌}
use Rattle.b2_base.specs.declared.codes.TheConstants.{X75_NOT_DECIMAL, X76_LOCATOR_OR_FIELD, X77_NO_PARTITION}
use Rattle.b2_text.specs.Program.{TextState}
use Rattle.b2_vars.specs.Assigned.{Assigned, Changed}
use Rattle.b2_vars.specs.Globals.{Globals, MayBecome}
use Rattle.b2_vars.specs.Tables.{VarsState}
use Rattle.b2_vars.specs.declared.setting.Setting.{Setting}
use Rattle.b2_expr.specs.Scope.{Surroundings}
use Rattle.b2_expr.specs.declared.workspace.Workspace.{Workspace}

-- a partition's own variables and the `@` variables, which alone change, what expressions look at beside variables and a text, and the
-- text whose functions are called
pub record WorkState : Type 0 where
  pub own : VarsState
  pub globals : Globals
  pub setting : Setting
  pub home : TextState

abbrev pub work_in : Setting → TextState → VarsState → Globals → WorkState
work_in a home vars globals = record { own = vars; globals = globals; setting = a; home = home }

-- what the code lends as a workspace
abbrev pub workspace : Workspace → WorkState
workspace w = record { own = w.own.now; globals = record { vars = if w.found then Some w.globals.now else None; reached = w.reached }; setting = w.setting; home = w.home.now }

-- it refers to the same variables
abbrev pub SameReferences : Workspace → Workspace → Type 0
SameReferences old new = (new.own.ghost_name ≡ old.own.ghost_name) × (new.globals.ghost_name ≡ old.globals.ghost_name) × (new.found ≡ old.found)

-- what expressions look at in it
abbrev pub surroundings_of : WorkState → Surroundings
surroundings_of w = record { own = w.own; globals = w.globals.vars; home = w.home; mode = w.setting.mode; err = w.setting.last; part = w.setting.part; term = w.setting.term }

-- what a statement leaves of it, and the code where it ends with one
pub record WorkLeft : Type 0 where
  pub work : WorkState
  pub code : Option ℕ

-- nothing is changed, with a code or without one
abbrev pub refused : ℕ → WorkState → WorkLeft
refused code w = record { work = w; code = Some code }

abbrev pub unchanged : WorkState → WorkLeft
unchanged w = record { work = w; code = None }

-- what an assignment among the partition's own variables leaves of it
abbrev pub on_own : Assigned → WorkState → WorkLeft
on_own a w = record { work = record w { own = a.vars }; code = a.code }

-- Whether a receiver counts as reached by how an assignment to it ended: without a code, or with one that leaves what was made before it.
abbrev pub counts_as_reached : Option ℕ → Bool
counts_as_reached None = true
counts_as_reached (Some code) = code == X75_NOT_DECIMAL || code == X76_LOCATOR_OR_FIELD

-- what an assignment among the `@` variables leaves of it; X77 where there are none
abbrev pub on_globals : Assigned → WorkState → WorkLeft
on_globals a w = record { work = record w { globals = record { vars = Some a.vars; reached = w.globals.reached || counts_as_reached a.code } }; code = a.code }

abbrev pub on_lent : (VarsState → Assigned) → Option VarsState → WorkState → WorkLeft
on_lent does None w = refused X77_NO_PARTITION w
on_lent does (Some vars) w = on_globals (does vars) w

-- an assignment among the `@` variables, or among the own
abbrev pub among : Bool → (VarsState → Assigned) → WorkState → WorkLeft
among true does w = on_lent does w.globals.vars w
among false does w = on_own (does w.own) w

-- what a statement leaves of the variables
abbrev pub changed_by : WorkLeft → Changed
changed_by r = record { own = r.work.own; globals = r.work.globals; code = r.code }

-- what comes after it, where it had no code
abbrev pub unless_coded : Option ℕ → WorkState → (WorkState → WorkLeft) → WorkLeft
unless_coded None w next = next w
unless_coded (Some code) w next = refused code w

abbrev pub then_works : WorkLeft → (WorkState → WorkLeft) → WorkLeft
then_works r next = unless_coded r.code r.work next

-- an assignment changes nothing where its receiver doesn't count as reached
abbrev pub ChangesWhereReached : (VarsState → Assigned) → Type 0
ChangesWhereReached does = (vars : VarsState) → counts_as_reached (does vars).code ≡ false → (does vars).vars ≡ vars

-- of the `@` variables a statement leaves what it may
abbrev pub Reaches : (WorkState → WorkLeft) → Type 0
Reaches works = (w : WorkState) → MayBecome w.globals (works w).work.globals
