-- Where a statement at the terminal leads is at the home of its place, and what it asks for marks no home.
use Rattle.std.proofs.Common.{◌≡◌, ℕ, ◌==◌, refl, subst, Bool, true, false, if◌then◌else◌, List, Option, Some, None}
use Rattle.b2_atom.specs.Tree.{Trees}
use Rattle.b2_atom.specs.Tree.Trees.{Done, Put, In}
use Rattle.b2_flow.specs.declared.frame.Place.{Place}
use Rattle.b2_text.specs.Program.{Lines, line_at}
use Rattle.b2_vars.specs.Tables.{VarsState}
use Rattle.b2_vars.specs.Assigned.{Changed}
use Rattle.b2_access.specs.Homes.{Naming, OutcomeNamed, PlaceNamed, PlannedNamed}
use Rattle.b2_access.specs.Lending.{SeenLent}
use Rattle.b2_access.specs.KeyLiterals.{typed_by_mark}
use Rattle.b2_access.specs.Placed.{Statement}
use Rattle.b2_access.specs.Places.{line_start}
use Rattle.b2_access.specs.Views.{KeyCame, ByteTyped, KeyPressed, NoKey, KeyLater, LineCame, PromptShown, LineEntered, LineLeft, LineLater, column_printed, column_shown, key_came, line_came}
use Rattle.b2_access.specs.Working.{LeadsWithin, PlansEachWithin, Worked}
use Rattle.b2_access.specs.declared.accesses.Access.{Access}
use Rattle.b2_access.specs.declared.accesses.Access.TheVariants as access
use Rattle.b2_access.specs.declared.accesses.Answer.{Answer}
use Rattle.b2_access.specs.declared.devices.Device.{Device}
use Rattle.b2_access.specs.declared.planned.Outcome.{Outcome}
use Rattle.b2_access.specs.declared.private.Private.{Private}
use Rattle.b2_access.proofs.Choice.{either}
use Rattle.b2_access.proofs.Dispatch.{each_dispatch}
use Rattle.b2_access.proofs.Homes.{goes_or_in, lined, marks_none, next_or_fails}
use Rattle.b2_access.proofs.OwnTerminal.{at_terminal_marks_none}
use Rattle.b2_access.proofs.Shown.{shown_or_printed_leads}
use Rattle.b2_stmt_io.specs.Keys.{first_named, key_byte, key_goes, key_leads, key_taken_by, lines_of, other_named, waits, with_key}
use Rattle.b2_stmt_io.specs.LineReading.{line_answered_by, types}
use Rattle.b2_stmt_io.specs.Plan.{ended_of, ends, finishes, is_refused, repeats, works}
use Rattle.b2_stmt_io.proofs.Planned.{each_ended, each_planned}

module _ (among : Naming) where
  Leads : Worked → Type 0
  Leads w = OutcomeNamed among w.outcome

  -- KEYIN
  leads_in : (special : Bool) (lines : Lines) (p : Place) (t : Trees) → among.place p ≡ true → OutcomeNamed among (key_leads special lines p t)
  leads_in special lines p Done k = tt
  leads_in special lines p (Put w t) k = tt
  leads_in special lines p (In n named end) k =
      let line = if special then other_named named else first_named named in
      either (OutcomeNamed among) (n == 1) _ _ (lined among (line_at line lines) (line_start p line) (among.lines p line k)) tt

  waits_in : (t : Trees) → OutcomeNamed among (waits t)
  waits_in Done = tt
  waits_in (Put w t) = tt
  waits_in (In n named end) = either (OutcomeNamed among) (n == 1) _ _ tt tt

  goes_in : (k : KeyCame) (lines : Lines) (p : Place) (t : Trees) → among.place p ≡ true → OutcomeNamed among (key_goes k lines p t)
  goes_in (ByteTyped key) lines p t k = leads_in false lines p (lines_of t) k
  goes_in (KeyPressed n) lines p t k = leads_in true lines p (lines_of t) k
  goes_in NoKey lines p t k = waits_in (lines_of t)
  goes_in KeyLater lines p t k = tt

  with_key_in : (key : Option ℕ) (goes : Outcome) (t : Trees) (me : Private) (s : SeenLent) → OutcomeNamed among goes → Leads (with_key key goes t me s)
  unfolding Leads
  with_key_in None goes t me s k = k
  with_key_in (Some key) goes t me s k = goes_or_in among goes _ k

  keyed_in : (k : KeyCame) (p : Place) (t : Trees) (me : Private) (s : SeenLent) → among.place p ≡ true → Leads (key_taken_by k p t me s)
  keyed_in c p t me s k = with_key_in (key_byte c) (key_goes c s.home.lines p t) t me s (goes_in c s.home.lines p t k)

  -- INPUT and LINPUT
  types_in : (o : Option (List ℕ)) (me : Private) → Leads (types o me)
  unfolding Leads
  types_in None me = tt
  types_in (Some text) me = tt

  line_in : (takes : List ℕ → VarsState → Changed) (l : LineCame) (own : Lines) (me : Private) → Leads (line_answered_by takes l own me)
  unfolding Leads
  line_in takes (PromptShown column) own me = tt
  line_in takes (LineEntered line) own me = next_or_fails among _
  line_in takes (LineLeft n) own me = types_in (typed_by_mark n own) me
  line_in takes LineLater own me = tt

  -- how a statement finishes
  statement_in : (u : Statement) (p : Place) (x : Access) (a : Answer) (me : Private) (s : SeenLent) → among.place p ≡ true → Leads (ended_of u p x a me s)
  unfolding Leads
  statement_in u p x a me s k =
      each_ended Leads x a me s (shown_or_printed_leads among (column_shown x a) (column_printed x a) me) tt tt u p (keyed_in (key_came x a) p u.tree me s k)
      (λ r. line_in _ (line_came x a) s.own.lines me)

  place_in : (x : Access) (a : Answer) (me : Private) (s : SeenLent) → PlaceNamed among me.place → Leads (ends x a me s)
  unfolding Leads
  place_in x a me s k =
      each_dispatch is_refused (repeats me) (finishes x a me s) me s Leads tt tt (λ p is u. statement_in u p x a me s (subst (λ (o : Option Place). PlaceNamed among o) is k))

pub plans_within : (devices : List Device) → PlansEachWithin (works devices)
plans_within devices among me s k =
    each_planned devices me s (PlannedNamed among) tt tt (λ code. tt)
    (λ a is. at_terminal_marks_none among.part me.term a is) (λ addr bytes after is. marks_none among.part (access.PrintTo addr bytes after) refl)

pub leads_within : LeadsWithin ends
unfolding Leads
leads_within among x a me s k = place_in among x a me s k
