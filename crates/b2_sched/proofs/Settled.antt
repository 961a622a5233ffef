-- Each partition has its number and its terminal, after whatever happened, and names none but such numbers; so its steps touch and write
-- only what is marked, and no text but its own.
use Rattle.std.specs.Prelude.{◌≡◌, ◌≤◌, ℕ, zero, suc, ◌-◌, ◌==◌, ◌&&◌, nat_le, Bool, true, false, cond, List, [], ◌∷◌, map, Option, Some, None, is_some, refl}
use Rattle.std.proofs.Common.{sym, ap, subst, ◌∙◌, arith}
use Rattle.std.proofs.lemmas.Bool.{and_parts}
use Rattle.std.proofs.lemmas.Bool.Decides.{nat_tests}
use Rattle.b2_access.specs.Homes.{HomesIn}
use Rattle.b2_access.specs.Leading.{NamesIn}
use Rattle.b2_access.specs.Loans.{lends}
use Rattle.b2_access.specs.OwnTerminal.{AskedAt, NamesAlone}
use Rattle.b2_access.specs.Rows.{row_of}
use Rattle.b2_access.specs.Serving.{itself}
use Rattle.b2_store.specs.DiskWork.{serves}
use Rattle.b2_access.specs.Store.{StoreState, IsIn}
use Rattle.b2_access.specs.declared.devices.Device.{Device}
use Rattle.b2_access.specs.declared.accesses.Access.{Access}
use Rattle.b2_access.specs.declared.objects.Object.TheVariants as object
use Rattle.b2_access.specs.declared.private.Private.{Private}
use Rattle.b2_access.proofs.Choice.{either}
use Rattle.b2_audit.proofs.Accesses.{accesses_are_marked}
use Rattle.b2_audit.specs.Steps.{AreMarked, AreSteps, IsMarked, IsPartition, IsTerminal, Step, WriteOwnTexts}
use Rattle.b2_boot.specs.declared.boot.BootPartition.{BootPartition}
use Rattle.b2_machine.proofs.StepTerminal.{steps_ask_at_terminal}
use Rattle.b2_machine.specs.Touched.{asking, step_touched, step_written}
use Rattle.b2_machine.specs.Turn.{TurnEnd, counted_on, ended_turn, passes_none, passes_turn, turn_from, unless_ended}
use Rattle.b2_machine.specs.declared.ends.Why.{Why}
use Rattle.b2_machine.proofs.PassedTurns.{each_turn}
use Rattle.b2_sched.specs.Choice.{basic}
use Rattle.b2_sched.specs.Lawful.{basic_is_lawful}
use Rattle.b2_sched.proofs.AloneBoots.{starts_within}
use Rattle.b2_sched.proofs.EachRow.{EachIs}
use Rattle.b2_sched.proofs.GroupRows.{is_it}
use Rattle.b2_sched.proofs.GroupTurns.{local}
use Rattle.b2_sched.proofs.Numbers.{same_number}
use Rattle.b2_sched.proofs.OwnObjects.{pass_within, starts_itself, step_part, step_within}
use Rattle.b2_sched.proofs.AskedHomes.{HomesIfAny, asks_within}
use Rattle.b2_sched.proofs.Reaching.{Covers, MayIfAny, holder_led, stepped}
use Rattle.b2_sched.proofs.TextsWritten.{writes_own_text}
use Rattle.b2_sched.specs.Presence.{IsSettled, is_number}
use Rattle.b2_sched.specs.Start.{AreNumbered, private_row}
use Rattle.b2_sched.specs.Turns.{step_of, steps_from, steps_in_turn, turn_of}

-- numbers of partitions
pub numbered : (p : ℕ) → is_number p ≡ true → IsPartition p
numbered p is =
    let (low, high) = and_parts (nat_le 1 p) (nat_le p 16) is in
    let least : 1 ≤ p = grind (arith, nat_tests) in
    let most : p ≤ 16 = grind (arith, nat_tests) in
    (least, most)

pub is_numbered : (p : ℕ) → IsPartition p → is_number p ≡ true
is_numbered p h =
    let low : nat_le 1 p ≡ true = let least = h.0 in grind (arith, nat_tests) in
    let high : nat_le p 16 ≡ true = let most = h.1 in grind (arith, nat_tests) in
    ap (λ (b : Bool). b && nat_le p 16) low ∙ high

-- what is asked at the terminal of a partition, and marks such numbers as homes, touches what is marked
abbrev MayAsk : ℕ → ℕ → Access → Type 0
MayAsk term who a = NamesAlone term a × HomesIn is_number a

asked_there : (term who : ℕ) (x : Option Access) → AskedAt term x → HomesIfAny is_number x → MayIfAny (MayAsk term) who x
asked_there term who None h k = tt
asked_there term who (Some a) h k = (h, k)

marks_cover : (term : ℕ) → IsTerminal term → Covers is_number (MayAsk term) IsMarked
marks_cover term is = record {
  texts = numbered;
  variables = numbered;
  names = λ n. tt;
  accesses = λ who a s member h led.
      (accesses_are_marked s who a (numbered who member) (λ t at. subst (λ (k : ℕ). IsTerminal k) (sym (h.0 t at)) is) (λ k there. numbered k (h.1 k there))).0
      (λ q holds. numbered q (holder_led is_number who a s led q holds));
}

module _ (devices : List Device) where
  module _ (p : ℕ) (me : Private) (s : StoreState) (is : IsSettled p me) (names : NamesIn is_number s) where
    touched_marked : AreMarked (step_touched (basic devices) itself serves lends me s)
    touched_marked =
        let asked = (steps_ask_at_terminal (basic devices) (basic_is_lawful devices) itself serves lends me s).1 in
        stepped is_number (MayAsk me.term) IsMarked (marks_cover me.term is.terminal) (basic devices) me s is.homes (λ n q i leads. names n q leads)
        (asked_there me.term me.part (asking (basic devices) me s) asked (asks_within (basic devices) (basic_is_lawful devices) is_number me s is.homes))

    written_marked : AreMarked (step_written (basic devices) itself serves lends me s)
    written_marked o i = touched_marked o ((local devices me).within s o i)

    step_writes_own : (q : ℕ) → IsIn (object.Text q) (step_written (basic devices) itself serves lends me s) → q ≡ p
    step_writes_own q i = writes_own_text (basic devices) me s q i ∙ is.part

    next_settled : IsSettled p (step_of devices me s).me
    next_settled = record {
      number = is.number;
      terminal = subst (λ (t : ℕ). IsTerminal t) (sym (steps_ask_at_terminal (basic devices) (basic_is_lawful devices) itself serves lends me s).0) is.terminal;
      part = step_part devices me s ∙ is.part;
      homes = (step_within devices is_number me s is.homes names).0;
    }

    next_names : NamesIn is_number (step_of devices me s).after
    next_names = (step_within devices is_number me s is.homes names).1

  -- along a turn
  abbrev turn_on : ℕ → Private → StoreState → ℕ → TurnEnd StoreState
  turn_on n me s steps = turn_from (basic devices) itself serves lends n me s steps

  settled_on : (p n : ℕ) (me : Private) (s : StoreState) (steps : ℕ) → IsSettled p me → NamesIn is_number s → IsSettled p (turn_on n me s steps).me
  unfolding turn_from
  settled_on p zero me s steps is names = is
  settled_on p (suc n) me s steps is names =
      by (step_of devices me s).end.why (settled_on p n (step_of devices me s).me (step_of devices me s).after (counted_on steps (step_of devices me s).end) (next_settled p me s is names) (next_names p me s is names))
    where
      by : (why : Option Why) → IsSettled p (turn_on n (step_of devices me s).me (step_of devices me s).after (counted_on steps (step_of devices me s).end)).me
          → IsSettled p (unless_ended why (λ w. ended_turn (counted_on steps (step_of devices me s).end) w (step_of devices me s).me (step_of devices me s).after) (turn_on n (step_of devices me s).me (step_of devices me s).after (counted_on steps (step_of devices me s).end))).me
      by None later = later
      by (Some why) later = next_settled p me s is names

  steps_on : (p n : ℕ) (me : Private) (s : StoreState) → IsSettled p me → NamesIn is_number s → AreSteps (steps_from devices p n me s) × WriteOwnTexts (steps_from devices p n me s)
  unfolding steps_from
  steps_on p zero me s is names = (tt, tt)
  steps_on p (suc n) me s is names =
      let rest = by (step_of devices me s).end.why (steps_on p n (step_of devices me s).me (step_of devices me s).after (next_settled p me s is names) (next_names p me s is names)) in
      ((is.number, touched_marked p me s is names, written_marked p me s is names, rest.0), (step_writes_own p me s is names, rest.1))
    where
      by : (why : Option Why) → AreSteps (steps_from devices p n (step_of devices me s).me (step_of devices me s).after) × WriteOwnTexts (steps_from devices p n (step_of devices me s).me (step_of devices me s).after)
          → AreSteps (unless_ended why (λ w. []) (steps_from devices p n (step_of devices me s).me (step_of devices me s).after)) × WriteOwnTexts (unless_ended why (λ w. []) (steps_from devices p n (step_of devices me s).me (step_of devices me s).after))
      by None later = later
      by (Some why) later = (tt, tt)

  -- whichever turns it is to pass
  pass_settled : (p : ℕ) (me : Private) (k : ℕ) → IsSettled p me → IsSettled p (record me { pass = k })
  pass_settled p me k is = record { number = is.number; terminal = is.terminal; part = is.part; homes = pass_within devices is_number me k is.homes }

  pub turn_settled : (p n : ℕ) (me : Private) (s : StoreState) → IsSettled p me → NamesIn is_number s → IsSettled p (turn_of devices n me s).me
  turn_settled p n me s is names =
      each_turn (basic devices) itself serves lends (λ (t : TurnEnd StoreState). IsSettled p t.me) n me s (pass_settled p me (me.pass - 1) is) (settled_on p n (passes_none me) s 0 (pass_settled p me 0 is) names)

  pub turn_steps : (p n : ℕ) (me : Private) (s : StoreState) → IsSettled p me → NamesIn is_number s → AreSteps (steps_in_turn devices p n me s) × WriteOwnTexts (steps_in_turn devices p n me s)
  turn_steps p n me s is names =
      either (λ (xs : List Step). AreSteps xs × WriteOwnTexts xs) (passes_turn me) [] (steps_from devices p n (passes_none me) s) (tt, tt) (steps_on p n (passes_none me) s (pass_settled p me 0 is) names)

pub halt_settled : (p : ℕ) (me : Private) → IsSettled p me → IsSettled p (record me { halt = true })
halt_settled p me is = record { number = is.number; terminal = is.terminal; part = is.part; homes = record { part = is.homes.part; place = is.homes.place; kept = is.homes.kept; frames = is.homes.frames } }

pub reset_settled : (p : ℕ) (me : Private) → IsSettled p me → IsSettled p (record me { reset = true })
reset_settled p me is = record { number = is.number; terminal = is.terminal; part = is.part; homes = record { part = is.homes.part; place = is.homes.place; kept = is.homes.kept; frames = is.homes.frames } }

-- at the start of a boot
placed : (ps : List BootPartition) (p : ℕ) (me : Private) → AreNumbered ps → row_of p (map private_row ps) ≡ Some me → IsPartition p × IsTerminal me.term
placed [] p me are is = let clash : false ≡ true = ap (λ (o : Option Private). is_some o) is in cc
placed (x ∷ xs) p me are is = by (x.number == p) refl (placed xs p me are.2) is
  where
    by : (b : Bool) → (x.number == p) ≡ b → (row_of p (map private_row xs) ≡ Some me → IsPartition p × IsTerminal me.term) → cond b (Some (private_row x).1) (row_of p (map private_row xs)) ≡ Some me → IsPartition p × IsTerminal me.term
    by true e later found = (subst (λ (k : ℕ). IsPartition k) (same_number x.number p e) are.0, subst (λ (you : Private). IsTerminal you.term) (is_it (private_row x).1 me found) are.1)
    by false e later found = later found

pub starts_settled : (ps : List BootPartition) → AreNumbered ps → EachIs (λ p me. IsSettled p me) (map private_row ps)
starts_settled ps are p me is =
    let here = placed ps p me are is in
    record { number = here.0; terminal = here.1; part = starts_itself ps p me is; homes = starts_within is_number p ps me (is_numbered p here.0) is }
