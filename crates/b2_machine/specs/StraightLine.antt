-- Statements of a partition one after another over one loan of texts: each is planned at once, has ended, and the turn goes on.
use Rattle.std.specs.Prelude.{◌≡◌, ◌≤◌, ◌<◌, ◌==◌, ◌&&◌, ℕ, suc, zero, Bool, true, not, Option, Some, None, is_some, if◌then◌else◌}
use Rattle.b2_flow.specs.declared.frame.Place.{Place}
use Rattle.b2_access.specs.Lending.{SeenLent}
use Rattle.b2_access.specs.declared.accesses.Access.{Access}
use Rattle.b2_access.specs.declared.lending.At.TheVariants as at
use Rattle.b2_access.specs.declared.private.Private.{Private}
use Rattle.b2_language.specs.Languages.{Ways}
use Rattle.b2_language.specs.Wanted.{wanted_at}
use Rattle.b2_machine.specs.Endings.{counts}
use Rattle.b2_machine.specs.Statements.{Begun, Opens, begins}
use Rattle.b2_machine.specs.declared.straight_line.Opened.{Opened}
use Rattle.b2_machine.specs.declared.straight_line.Ran.{Ran}
use Rattle.b2_machine.specs.declared.statements.Progress.TheVariants as progress

-- nothing comes before the statement at its place: no reset, no halt, and nothing waits to be shown, to be typed or to be put
abbrev pub is_undisturbed : Private → Bool
is_undisturbed me = not me.reset && (not me.halt && (not (is_some me.pending) && (not (is_some me.literal) && not (is_some me.numbered))))

-- a place in the program of a home
abbrev pub placed_in : ℕ → Option Place → Option Place
placed_in home None = None
placed_in home (Some p) = if p.home == home && is_some p.line then Some p else None

-- the place of a partition there, whose statement comes next
abbrev pub place_in : ℕ → Private → Option Place
place_in home me = if is_undisturbed me then placed_in home me.place else None

-- where no statement is next there, any place will do
abbrev pub no_place : Place
no_place = record { home = 0; line = None; unit = 0 }

abbrev pub place_or_none : Option Place → Place
place_or_none None = no_place
place_or_none (Some p) = p

-- of so many steps that are left, one is left for the statement after some, if one was opened
abbrev pub leaves_room : Option Opened → ℕ → ℕ → Type 0
leaves_room None steps left = steps ≤ left
leaves_room (Some o) steps left = steps < left

module _ (ways : Ways) (home : ℕ) (s : SeenLent) where
  -- the next statement there begins
  abbrev pub begins_next : Private → Begun
  begins_next me = begins ways (place_or_none (place_in home me)) me s

  -- it wants no `@` variables, has ended, and the turn goes on
  pub record Leads (me : Private) : Type 0 where
    pub there : is_some (place_in home me) ≡ true
    pub local : wanted_at (place_or_none (place_in home me)) me s.home.lines ≡ at.None
    pub ended : (begins_next me).progress ≡ progress.Ended counts

  -- so many led on, one after another
  unfoldable pub led : ℕ → Private → Private
  led zero me = me
  led (suc n) me = (begins_next (led n me)).me

  unfoldable pub AllLead : ℕ → Private → Type 0
  AllLead zero me = Unit {0}
  AllLead (suc n) me = AllLead n me × Leads (led n me)

  -- the statement after them was opened, if one was
  abbrev pub EndsRun : Option Opened → Private → Private → Option Access → Type 0
  EndsRun None mid after a = after ≡ mid
  EndsRun (Some o) mid after a = (place_in home mid ≡ Some o.place) × Opens ways o.place mid after s a o.opening

  -- a run of at most so many, and what it leaves; where no further one was opened, none may be executed
  pub record RunsOn (left : ℕ) (me after : Private) (a : Option Access) (r : Ran) : Type 0 where
    pub lead : AllLead r.steps me
    pub few : leaves_room r.last r.steps left
    pub last : EndsRun r.last (led r.steps me) after a
    pub whole : r.last ≡ None → r.steps < left → place_in home (led r.steps me) ≡ None
