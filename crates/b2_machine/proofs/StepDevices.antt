-- A step asks for devices that the table lists for its partition, and for no others.
use Rattle.std.specs.Prelude.{unwrap_or}
use Rattle.std.proofs.Common.{ℕ, Bool, true, false, List, [], Option, Some, None, is_some, inl, inr, subst, sym}
use Rattle.std.specs.Str.{bytes_eq}
use Rattle.b2_flow.specs.declared.frame.Place.{Place}
use Rattle.b2_text.specs.Program.{Lines}
use Rattle.b2_access.specs.Lending.{SeenLent}
use Rattle.b2_access.specs.OwnDevices.{PlannedListed, ReachesListed}
use Rattle.b2_access.specs.Partition.{terminal_address}
use Rattle.b2_access.specs.Pending.{IsForListed}
use Rattle.b2_access.specs.Placed.{Statement, statement_placed}
use Rattle.b2_access.specs.Store.{StoreState}
use Rattle.b2_access.specs.declared.accesses.Access.{Access}
use Rattle.b2_access.specs.declared.devices.Device.{Device}
use Rattle.b2_access.specs.declared.planned.Planned.{Planned}
use Rattle.b2_access.specs.declared.planned.Planned.TheVariants as planned
use Rattle.b2_access.specs.declared.private.Private.{Private}
use Rattle.b2_access.proofs.Choice.{either}
use Rattle.b2_language.specs.Languages.{AskForListed, Ways}
use Rattle.b2_machine.specs.Listed.{lists}
use Rattle.b2_machine.specs.Messages.{prints_text, shows_text}
use Rattle.b2_machine.specs.Statements.{begins_where, begun_by, builder_of, plan_by}
use Rattle.b2_machine.specs.Step.{seen_at}
use Rattle.b2_machine.specs.Touched.{AskedListed, StepsAskForListed, access_asked, asks_by}
use Rattle.b2_machine.specs.Typing.{on_own_line, shows_pending}
use Rattle.b2_machine.specs.declared.statements.Builder.{Builder}
use Rattle.b2_machine.specs.declared.statements.Builder.TheVariants as builder
use Rattle.b2_machine.specs.Due.{due}
use Rattle.b2_machine.specs.declared.rules.Rule.{Rule}
use Rattle.b2_machine.specs.declared.rules.Rule.TheVariants as rule
use Rattle.b2_machine.specs.Readiness.{without_halt}

-- LIST shows lines at the terminal
listing_listed : (devices : List Device) (b : Bool) (range : ℕ × ℕ) (me : Private) (s : SeenLent) → PlannedListed devices me.part (lists b range me s).planned
listing_listed devices true range me s = tt
listing_listed devices false range me s = tt

begun_listed : (devices : List Device) (who : ℕ) (x : Planned) (b : Builder) (p : Place) (me : Private) (home : Lines) → PlannedListed devices who x → AskedListed devices who (access_asked (begun_by x b p me home).progress)
begun_listed devices who (planned.Done o) b p me home h = tt
begun_listed devices who (planned.Ask a) b p me home h = h

module _ (ways : List Device → Ways) (listed : AskForListed ways) (devices : List Device) where
  -- statements
  pub planned_listed : (b : Builder) (p : Place) (me : Private) (s : SeenLent) → PlannedListed devices me.part (plan_by (ways devices) b p me s).planned
  planned_listed (builder.Listing from to) p me s = listing_listed devices (is_some p.line) (from, to) me s
  planned_listed (builder.Language r) p me s = listed r devices me s
  planned_listed builder.Nobody p me s = tt

  begins_listed : (u : Option Statement) (p : Place) (me : Private) (s : SeenLent) → AskedListed devices me.part (access_asked (begins_where (ways devices) u p me s).progress)
  begins_listed None p me s = tt
  begins_listed (Some u) p me s =
      let b = builder_of (ways devices) u in
      let x = plan_by (ways devices) b p me s in
      begun_listed devices me.part x.planned b p x.me s.home.lines (planned_listed b p me s)

  -- the rules of a step: all but a statement and what waits to be shown ask at the terminal, or for an edit of the own text
  abbrev Listed : ℕ → Option Access → Type 0
  Listed who x = AskedListed devices who x

  -- what waits is shown at the terminal, or at a printer that is listed
  pending_listed : (device text : List ℕ) (me : Private) → IsForListed devices me.part (Some (device, text)) → ReachesListed devices me.part (shows_pending device text me)
  pending_listed device text me (inl is) = subst (λ (d : List ℕ). ReachesListed devices me.part (shows_pending d text me)) (sym is) tt
  pending_listed device text me (inr is) =
      either (ReachesListed devices me.part) (bytes_eq device terminal_address) (shows_text (on_own_line me.term_column text) me) (prints_text device text me) tt (is, tt)

  output_listed : (x : Option (List ℕ × List ℕ)) (me : Private) → IsForListed devices me.part x → let shown = unwrap_or x (terminal_address, []) in ReachesListed devices me.part (shows_pending shown.0 shown.1 me)
  output_listed (Some waiting) me h = pending_listed waiting.0 waiting.1 me h
  output_listed None me h = tt

  by_rule : (r : Rule) (me : Private) (s : StoreState) → IsForListed devices me.part me.pending → Listed me.part (asks_by (ways devices) r me s)
  by_rule rule.Show me s h = output_listed me.pending me h
  by_rule (rule.Execute p) me s h = let seen = seen_at p me s in begins_listed (statement_placed p me.immediate seen.home.lines) p me seen
  by_rule r me s h = tt

pub steps_ask_for_listed : (ways : List Device → Ways) (listed : AskForListed ways) → StepsAskForListed ways
steps_ask_for_listed ways listed devices me s h = by_rule ways listed devices (due me) (without_halt me) s h
