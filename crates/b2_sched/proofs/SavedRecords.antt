-- What steps ask to be saved is such as a record may hold, where variables hold numbers; so a record that is saved follows.
use Rattle.std.specs.Prelude.{◌≡◌, ℕ, nat_le, Bool, true, false, List, [], ◌∷◌, length, All, Option, Some, None, IfSome, is_some, refl, if◌then◌else◌}
use Rattle.std.specs.List.{list_all}
use Rattle.std.specs.Str.{bytes_eq}
use Rattle.std.proofs.Common.{subst}
use Rattle.std.proofs.lemmas.Bool.{and_parts, leb-true}
use Rattle.std.proofs.lemmas.List.Elements.{All-head, All-tail}
use Rattle.b2_dec.specs.declared.values.Value.{Value}
use Rattle.b2_dec.specs.declared.values.Value.TheVariants as value_kind
use Rattle.b2_flow.specs.declared.frame.Place.{Place}
use Rattle.b2_text.specs.Program.{Lines}
use Rattle.b2_vars.specs.Tables.{VarsState}
use Rattle.b2_record.specs.Items.{AllStorable, IsStorable}
use Rattle.b2_access.specs.Lending.{SeenLent}
use Rattle.b2_access.specs.Loans.{globals_of, lender_at}
use Rattle.b2_access.specs.Partition.{terminal_address}
use Rattle.b2_access.specs.Placed.{Statement, statement_placed}
use Rattle.b2_access.specs.Store.{StoreState, content}
use Rattle.b2_access.specs.Touching.{is_short}
use Rattle.b2_access.specs.declared.accesses.Access.{Access}
use Rattle.b2_access.specs.declared.accesses.Access.TheVariants as access
use Rattle.b2_access.specs.declared.devices.Device.{Device}
use Rattle.b2_access.specs.declared.objects.Object.TheVariants as object
use Rattle.b2_access.specs.declared.planned.Planned.{Planned}
use Rattle.b2_access.specs.declared.planned.Planned.TheVariants as planned
use Rattle.b2_access.specs.declared.private.Private.{Private}
use Rattle.b2_access.proofs.Choice.{either}
use Rattle.b2_machine.specs.Listed.{lists}
use Rattle.b2_machine.specs.Messages.{prints_text, shows_text}
use Rattle.b2_machine.specs.Statements.{begins_where, begun_by, builder_of, plan_by}
use Rattle.b2_machine.specs.Step.{seen_at, whose_by}
use Rattle.b2_machine.specs.Touched.{access_asked, asking, asks_by}
use Rattle.b2_machine.specs.Typing.{on_own_line, output_pending}
use Rattle.b2_machine.specs.declared.statements.Builder.{Builder}
use Rattle.b2_machine.specs.declared.statements.Builder.TheVariants as builder
use Rattle.b2_stmt_file.specs.SavedNumbers.{HoldsNumbers, IsAnyNumber, SavesNumbers}
use Rattle.b2_stmt_file.proofs.SavedNumbers.{saved_numbers_are_numbers}
use Rattle.b2_store.proofs.Records.{saved-follow}
use Rattle.b2_sched.proofs.LegalSteps.{IsLegalIfAny, steps_ask_legally}
use Rattle.b2_sched.proofs.NoneSaved.{SavesNone, arrays_save_none, control_saves_none, devices_save_none, disks_save_none, packed_save_none, programs_save_none, terminal_saves_none, variables_save_none}
use Rattle.b2_sched.specs.Choice.{basic, family_of}
use Rattle.b2_sched.specs.Choice as choice
use Rattle.b2_sched.specs.Lawful.{basic_is_lawful}
use Rattle.b2_sched.specs.Saving.{HoldNumbers, SavesStorable, StepsSaveRecords, StepsSaveStorable}
use Rattle.b2_sched.specs.declared.choice.Family.{Family}
use Rattle.b2_sched.specs.declared.choice.Family.TheVariants as family
use Rattle.b2_machine.specs.Due.{due}
use Rattle.b2_machine.specs.declared.rules.Rule.{Rule}
use Rattle.b2_machine.specs.declared.rules.Rule.TheVariants as rule
use Rattle.b2_machine.specs.Readiness.{without_halt}

-- what saves none saves numbers alone
none_saves : (x : Planned) → SavesNone x → SavesNumbers x
none_saves (planned.Done o) h = tt
none_saves (planned.Ask (access.DataSave slot values)) h = absurd h
none_saves (planned.Ask a) h = tt

-- statements of each family
family_saves : (devices : List Device) (f : Family) (me : Private) (s : SeenLent) → HoldsNumbers me.vars → IfSome s.globals.vars HoldsNumbers → SavesNumbers (choice.plan_by devices f me s).planned
family_saves devices family.Variables me s own globals = none_saves (choice.plan_by devices family.Variables me s).planned (variables_save_none me s)
family_saves devices family.Control me s own globals = none_saves (choice.plan_by devices family.Control me s).planned (control_saves_none me s)
family_saves devices family.Printing me s own globals = none_saves (choice.plan_by devices family.Printing me s).planned (terminal_saves_none devices me s)
family_saves devices family.Terminal me s own globals = none_saves (choice.plan_by devices family.Terminal me s).planned (terminal_saves_none devices me s)
family_saves devices family.Arrays me s own globals = none_saves (choice.plan_by devices family.Arrays me s).planned (arrays_save_none me s)
family_saves devices family.Packed me s own globals = none_saves (choice.plan_by devices family.Packed me s).planned (packed_save_none me s)
family_saves devices family.Files me s own globals = saved_numbers_are_numbers devices me s own globals
family_saves devices family.Programs me s own globals = none_saves (choice.plan_by devices family.Programs me s).planned (programs_save_none devices me s)
family_saves devices family.Devices me s own globals = none_saves (choice.plan_by devices family.Devices me s).planned (devices_save_none devices me s)
family_saves devices family.Disks me s own globals = none_saves (choice.plan_by devices family.Disks me s).planned (disks_save_none devices me s)

-- the `@` variables that a statement sees
lent_hold : (s : StoreState) → ((p : ℕ) (vars : VarsState) → content s (object.Globals p) ≡ Some vars → HoldsNumbers vars) → (o : Option VarsState) (p : ℕ) → content s (object.Globals p) ≡ o → IfSome o HoldsNumbers
lent_hold s h None p is = tt
lent_hold s h (Some vars) p is = h p vars is

by_lender : (s : StoreState) → ((p : ℕ) (vars : VarsState) → content s (object.Globals p) ≡ Some vars → HoldsNumbers vars) → (o : Option ℕ) → IfSome (globals_of o s) HoldsNumbers
by_lender s h None = tt
by_lender s h (Some p) = lent_hold s h (content s (object.Globals p)) p refl

-- numbers that are asked to be saved
abbrev SavesNumbersIfAny : Option Access → Type 0
SavesNumbersIfAny None = Unit {0}
SavesNumbersIfAny (Some a) = SavesNumbers (planned.Ask a)

begun_saves : (x : Planned) (b : Builder) (p : Place) (me : Private) (home : Lines) → SavesNumbers x → SavesNumbersIfAny (access_asked (begun_by x b p me home).progress)
begun_saves (planned.Done o) b p me home h = tt
begun_saves (planned.Ask a) b p me home h = h

listed_saves : (b : Bool) (range : ℕ × ℕ) (me : Private) (s : SeenLent) → SavesNumbers (lists b range me s).planned
listed_saves true range me s = tt
listed_saves false range me s = tt

module _ (devices : List Device) where
  planned_saves : (b : Builder) (p : Place) (me : Private) (s : SeenLent) → HoldsNumbers me.vars → IfSome s.globals.vars HoldsNumbers → SavesNumbers (plan_by (basic devices) b p me s).planned
  planned_saves (builder.Listing from to) p me s own globals = listed_saves (is_some p.line) (from, to) me s
  planned_saves (builder.Language r) p me s own globals = family_saves devices (family_of r) me s own globals
  planned_saves builder.Nobody p me s own globals = tt

  begins_saving : (u : Option Statement) (p : Place) (me : Private) (s : SeenLent) → HoldsNumbers me.vars → IfSome s.globals.vars HoldsNumbers → SavesNumbersIfAny (access_asked (begins_where (basic devices) u p me s).progress)
  begins_saving None p me s own globals = tt
  begins_saving (Some u) p me s own globals =
      let b = builder_of (basic devices) u in
      let x = plan_by (basic devices) b p me s in
      begun_saves x.planned b p x.me s.home.lines (planned_saves b p me s own globals)

  abbrev Saves : Option Access → Type 0
  Saves x = SavesNumbersIfAny x

  by_rule : (r : Rule) (me : Private) (s : StoreState) → HoldNumbers me s → Saves (asks_by (basic devices) r me s)
  by_rule rule.Show me s h =
      let shown = output_pending me in
      either (λ (a : Access). SavesNumbers (planned.Ask a)) (bytes_eq shown.0 terminal_address) (shows_text (on_own_line me.term_column shown.1) me) (prints_text shown.0 shown.1 me) tt tt
  by_rule (rule.Execute p) me s h =
      let seen = seen_at p me s in
      begins_saving (statement_placed p me.immediate seen.home.lines) p me seen h.own (by_lender s h.globals (lender_at p.home (whose_by p me s) s))
  by_rule r me s h = tt

  asking_saves : (me : Private) (s : StoreState) → HoldNumbers me s → Saves (asking (basic devices) me s)
  asking_saves me s h = by_rule (due me) (without_halt me) s (record { own = h.own; globals = h.globals })

-- numbers, and alpha values that are short, are such as a record may hold
one_storable : (x : Value) → IsAnyNumber x → is_short x ≡ true → IsStorable x
one_storable (value_kind.Number x) is short = is
one_storable (value_kind.Alpha bytes) is short =
    let (some, few) = and_parts (nat_le 1 (length bytes)) (nat_le (length bytes) 124) short in
    (leb-true 1 (length bytes) some, leb-true (length bytes) 124 few)

all_storable : (xs : List Value) → All IsAnyNumber xs → list_all is_short xs ≡ true → AllStorable xs
all_storable [] are short = tt
all_storable (x ∷ xs) are short =
    let (here, more) = and_parts (is_short x) (list_all is_short xs) short in
    (one_storable x (All-head IsAnyNumber x xs are) here, all_storable xs (All-tail IsAnyNumber x xs are) more)

any_storable : (o : Option Access) → IsLegalIfAny o → SavesNumbersIfAny o → SavesStorable o
any_storable (Some (access.DataSave slot values)) legal saves = all_storable values saves legal.0
any_storable (Some a) legal saves = tt
any_storable None legal saves = tt

pub steps_save_storable : StepsSaveStorable
steps_save_storable devices me s h = any_storable (asking (basic devices) me s) (steps_ask_legally (basic devices) (basic_is_lawful devices) me s) (asking_saves devices me s h)

pub steps_save_records : StepsSaveRecords
steps_save_records devices me s slot values h is t e records to opens front told =
    let legal = subst IsLegalIfAny is (steps_ask_legally (basic devices) (basic_is_lawful devices) me s) in
    let storable = subst SavesStorable is (steps_save_storable devices me s h) in
    saved-follow me.part slot values to t e records legal storable opens front told
