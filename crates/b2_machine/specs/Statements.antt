-- What a statement plans and how it finishes, by who executes it.
use Rattle.std.specs.Prelude.{◌≡◌, ◌==◌, ℕ, Bool, true, false, Option, Some, None, is_some, option_map, if◌then◌else◌}
use Rattle.b2_base.specs.declared.codes.TheConstants.{S27_LEFT_OUT}
use Rattle.b2_atom.specs.declared.rows.TheConstants as row
use Rattle.b2_flow.specs.declared.frame.Place.{Place}
use Rattle.b2_text.specs.Program.{Lines, TextState}
use Rattle.b2_vars.specs.Globals.{Globals, unreached}
use Rattle.b2_vars.specs.Tables.{VarsState}
use Rattle.b2_access.specs.Lending.{SeenLent}
use Rattle.b2_access.specs.Fast.{place_led}
use Rattle.b2_access.specs.Placed.{Statement, statement_placed}
use Rattle.b2_access.specs.Planning.{Finishing, Planning, done, finished, stays}
use Rattle.b2_access.specs.declared.accesses.Access.{Access}
use Rattle.b2_access.specs.declared.accesses.Answer.{Answer}
use Rattle.b2_access.specs.declared.lending.At.{At}
use Rattle.b2_access.specs.declared.lending.At.TheVariants as at
use Rattle.b2_access.specs.declared.planned.Outcome.TheVariants as outcome
use Rattle.b2_access.specs.declared.planned.Planned.{Planned}
use Rattle.b2_access.specs.declared.planned.Planned.TheVariants as planned
use Rattle.b2_access.specs.declared.private.Private.{Private}
use Rattle.b2_language.specs.Languages.{Ways}
use Rattle.b2_language.specs.Wanted.{wanted_at}
use Rattle.b2_access.specs.Showing.{shown}
use Rattle.b2_access.specs.Working.{ended}
use Rattle.b2_machine.specs.Endings.{Ending, counts, repeats}
use Rattle.b2_machine.specs.Listed.{lists, named_range}
use Rattle.b2_machine.specs.Moving.{ends_by, ends_onward, onward_from}
use Rattle.b2_machine.specs.Readiness.{rests}
use Rattle.b2_machine.specs.declared.moving.Onward.{Onward}
use Rattle.b2_machine.specs.declared.statements.Builder.{Builder}
use Rattle.b2_machine.specs.declared.statements.Builder.TheVariants as builder
use Rattle.b2_machine.specs.declared.statements.Opening.{Opening}
use Rattle.b2_machine.specs.declared.statements.Opening.TheVariants as opening
use Rattle.b2_machine.specs.declared.statements.Progress.{Progress}
use Rattle.b2_machine.specs.declared.statements.Progress.TheVariants as progress

-- what is seen of texts and of the `@` variables that were lent, where there are such, of which none was reached yet
abbrev pub seen_there : TextState → TextState → Bool → VarsState → SeenLent
seen_there own home found globals = record { own = own; home = home; globals = unreached (if found then Some globals else None) }

-- and where none are lent
abbrev pub texts_seen : TextState → TextState → SeenLent
texts_seen own home = record { own = own; home = home; globals = unreached None }

-- who executes a statement; nobody does yet where its row isn't built
abbrev pub builder_of : Ways → Statement → Builder
builder_of ways u =
    if u.row == row.LIST then builder.Listing (named_range u.tree).0 (named_range u.tree).1
    else (if ways.built u.row then builder.Language u.row
    else builder.Nobody)

-- what the statement at a place plans
abbrev pub plan_by : Ways → Builder → Place → Private → SeenLent → Planning
plan_by ways (builder.Listing from to) p me s = lists (is_some p.line) (from, to) me s
plan_by ways (builder.Language r) p me s = ways.plan r me s
plan_by ways builder.Nobody p me s = done s (stays me (outcome.Failed S27_LEFT_OUT))

-- how it finishes, by the answer to its access
abbrev pub finish_by : Ways → Builder → Access → Answer → Private → SeenLent → Finishing
finish_by ways (builder.Listing from to) x a me s = finished s (ended me (shown x a me))
finish_by ways (builder.Language r) x a me s = ways.finish r x a me s
finish_by ways builder.Nobody x a me s = finished s (stays me outcome.Repeat)

-- what became of a statement that began: the step has ended, or an access is asked for; where its line goes on is then known
pub record Begun : Type 0 where
  pub me : Private
  pub progress : Progress

abbrev pub has_ended : Ending → Begun
has_ended e = record { me = e.me; progress = progress.Ended e.end }

abbrev pub begun_by : Planned → Builder → Place → Private → Lines → Begun
begun_by (planned.Done o) b p me home = has_ended (ends_by counts o p me home)
begun_by (planned.Ask a) b p me home = record { me = me; progress = progress.Asks a b (onward_from p me home) }

abbrev pub begun : Planning → Builder → Place → Lines → Begun
begun x b p home = begun_by x.planned b p x.me home

-- a statement that isn't there ends the text or the immediate line
abbrev pub begins_where : Ways → Option Statement → Place → Private → SeenLent → Begun
begins_where ways None p me s = has_ended (rests me)
begins_where ways (Some u) p me s = begun (plan_by ways (builder_of ways u) p me s) (builder_of ways u) p s.home.lines

-- what the statement at a place leaves of the `@` variables as it plans
abbrev pub left_where : Ways → Option Statement → Place → Private → SeenLent → Globals
left_where ways None p me s = s.globals
left_where ways (Some u) p me s = (plan_by ways (builder_of ways u) p me s).globals

abbrev pub leaves : Ways → Place → Private → SeenLent → Globals
leaves ways p me s = left_where ways (statement_placed p me.immediate s.home.lines) p me s

-- whether some `@` variables are wanted
abbrev pub wants : At → Bool
wants at.None = false
wants whose = true

-- the statement at a place begins
abbrev pub begins : Ways → Place → Private → SeenLent → Begun
begins ways p me s = begins_where ways (statement_placed p me.immediate s.home.lines) p me s

-- what is asked for beside it, by who executes it, after which its line goes on there
abbrev pub asked_beside : Builder → Onward → Private → Access → Begun
asked_beside b w after a = record { me = after; progress = progress.Asks a b w }

-- Where texts alone are lent, it begins if it wants no `@` variables; what it asks for is beside. If it wants some, nothing has changed.
abbrev pub Opens : Ways → Place → Private → Private → SeenLent → Option Access → Opening → Type 0
Opens ways p me after s a opening.Leads = (wanted_at p me s.home.lines ≡ at.None) × (◌≡◌ {A = Begun} (record { me = after; progress = progress.Ended counts }) (begins ways p me s)) × (a ≡ None)
Opens ways p me after s a (opening.Ends e) = (wanted_at p me s.home.lines ≡ at.None) × (◌≡◌ {A = Begun} (record { me = after; progress = progress.Ended e }) (begins ways p me s)) × (a ≡ None)
Opens ways p me after s a (opening.Asks b w) = (wanted_at p me s.home.lines ≡ at.None) × (option_map (asked_beside b w after) a ≡ Some (begins ways p me s))
Opens ways p me after s a (opening.Wants whose) = (wanted_at p me s.home.lines ≡ whose) × (wants whose ≡ true) × (after ≡ me)

-- it was done fast and stands where it leads, or nothing has changed
abbrev pub WentFast : Option (ℕ × ℕ) → Ways → Place → Private → Private → SeenLent → Type 0
WentFast (Some l) ways p me after s = Opens ways p me after s None opening.Leads × (after.place ≡ Some (place_led p.home l))
WentFast None ways p me after s = after ≡ me

-- how it was opened by what became of it as it began, and what it asks for
abbrev pub opening_of : Progress → Opening
opening_of (progress.Ended e) = opening.Ends e
opening_of (progress.Asks a b w) = opening.Asks b w

abbrev pub asked_in : Progress → Option Access
asked_in (progress.Ended e) = None
asked_in (progress.Asks a b w) = Some a

-- and ends by the answer to its access
abbrev pub ends_with : Finishing → Answer → Onward → Place → Lines → Ending
ends_with f a w p home = ends_onward (repeats a) f.outcome w p f.me home

abbrev pub finishes : Ways → Builder → Access → Answer → Onward → Place → Private → SeenLent → Ending
finishes ways b x a w p me s = ends_with (finish_by ways b x a me s) a w p s.home.lines
