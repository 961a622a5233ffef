-- What a step asks for marks none as homes but partitions that it names: its own, and those that were named before.
use Rattle.std.proofs.Common.{ℕ, Bool, true, false, if◌then◌else◌, Option, Some, None, is_some, refl}
use Rattle.std.specs.Str.{bytes_eq}
use Rattle.b2_flow.specs.declared.frame.Place.{Place}
use Rattle.b2_text.specs.Program.{Lines}
use Rattle.b2_access.specs.Homes.{HomesIn, IsWithin, PlannedIn, at_homes}
use Rattle.b2_access.specs.Lending.{SeenLent}
use Rattle.b2_access.specs.Partition.{terminal_address}
use Rattle.b2_access.specs.Placed.{Statement, statement_placed}
use Rattle.b2_access.specs.Store.{StoreState}
use Rattle.b2_access.specs.declared.accesses.Access.{Access}
use Rattle.b2_access.specs.declared.accesses.Access.TheVariants as access
use Rattle.b2_access.specs.declared.planned.Planned.{Planned}
use Rattle.b2_access.specs.declared.planned.Planned.TheVariants as planned
use Rattle.b2_access.specs.declared.private.Private.{Private}
use Rattle.b2_access.proofs.Choice.{either}
use Rattle.b2_access.proofs.EnteredHomes.{entered_within}
use Rattle.b2_access.proofs.Homes.{marks_none}
use Rattle.b2_language.specs.Languages.{AreLawful, Ways}
use Rattle.b2_machine.specs.Listed.{lists, range_listed}
use Rattle.b2_machine.specs.Messages.{prints_text, shows_text}
use Rattle.b2_machine.specs.Statements.{begins_where, begun_by, builder_of, plan_by}
use Rattle.b2_machine.specs.Step.{seen_at}
use Rattle.b2_machine.specs.Touched.{access_asked, asking, asks_by}
use Rattle.b2_machine.specs.Typing.{inserts_literal, on_own_line, output_pending}
use Rattle.b2_machine.specs.declared.statements.Builder.{Builder}
use Rattle.b2_machine.specs.declared.statements.Builder.TheVariants as builder
use Rattle.b2_machine.specs.Due.{due}
use Rattle.b2_machine.specs.declared.rules.Rule.{Rule}
use Rattle.b2_machine.specs.declared.rules.Rule.TheVariants as rule
use Rattle.b2_machine.specs.Readiness.{without_halt}

abbrev pub HomesIfAny : (ℕ → Bool) → Option Access → Type 0
HomesIfAny among None = Unit {0}
HomesIfAny among (Some a) = HomesIn among a

module _ (ways : Ways) (lawful : AreLawful ways) (among : ℕ → Bool) where
  abbrev Asks : Option Access → Type 0
  Asks x = HomesIfAny among x

  -- a statement
  listed : (b : Bool) (range : ℕ × ℕ) (me : Private) (s : SeenLent) → PlannedIn among (lists b range me s).planned
  listed true range me s = tt
  listed false range me s = marks_none among (shows_text (range_listed range s.own.lines) me) refl

  planned_by : (b : Builder) (p : Place) (me : Private) (s : SeenLent) → IsWithin among me → PlannedIn among (plan_by ways b p me s).planned
  planned_by (builder.Listing from to) p me s w = listed (is_some p.line) (from, to) me s
  planned_by (builder.Language r) p me s w = ((lawful.leave_the_rest r).plans_within (at_homes among) me s w).1
  planned_by builder.Nobody p me s w = tt

  begun_asks : (x : Planned) (b : Builder) (p : Place) (me : Private) (home : Lines) → PlannedIn among x → Asks (access_asked (begun_by x b p me home).progress)
  begun_asks (planned.Done o) b p me home h = tt
  begun_asks (planned.Ask a) b p me home h = h

  begins_asks : (u : Option Statement) (p : Place) (me : Private) (s : SeenLent) → IsWithin among me → Asks (access_asked (begins_where ways u p me s).progress)
  begins_asks None p me s w = tt
  begins_asks (Some u) p me s w =
      let b = builder_of ways u in
      let x = plan_by ways b p me s in
      begun_asks x.planned b p x.me s.home.lines (planned_by b p me s w)

  -- the rules of a step
  by_rule : (r : Rule) (me : Private) (s : StoreState) → IsWithin among me → Asks (asks_by ways r me s)
  by_rule rule.Reset me s w = entered_within (at_homes among) me.stack w.frames
  by_rule rule.Halt me s w = tt
  by_rule rule.Show me s w =
      let shown = output_pending me in
      let at_terminal = shows_text (on_own_line me.term_column shown.1) me in
      let at_printer = prints_text shown.0 shown.1 me in
      either (HomesIn among) (bytes_eq shown.0 terminal_address) at_terminal at_printer (marks_none among at_terminal refl) (marks_none among at_printer refl)
  by_rule rule.Insert me s w = marks_none among (inserts_literal me) refl
  by_rule rule.Read me s w = marks_none among (access.ReadLine me.term) refl
  by_rule rule.Put me s w = entered_within (at_homes among) me.stack w.frames
  by_rule (rule.Execute p) me s w = let seen = seen_at p me s in begins_asks (statement_placed p me.immediate seen.home.lines) p me seen w

  pub asks_within : (me : Private) (s : StoreState) → IsWithin among me → HomesIfAny among (asking ways me s)
  asks_within me s w = by_rule (due me) (without_halt me) s (record { part = w.part; place = w.place; kept = w.kept; frames = w.frames })
