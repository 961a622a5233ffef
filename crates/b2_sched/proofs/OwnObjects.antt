-- Along a turn: which partition it is stays so; it names only partitions that it named before, or to whom names lead; and it changes no text
-- but its own.
use Rattle.std.specs.Prelude.{◌≡◌, ◌≢◌, ◌⊎◌, ℕ, zero, suc, ◌-◌, ◌==◌, Bool, true, false, cond, List, [], ◌∷◌, map, Option, Some, None, is_some, refl}
use Rattle.std.proofs.Common.{sym, ap, ◌∙◌, inl, inr}
use Rattle.b2_access.specs.Homes.{IsWithin}
use Rattle.b2_access.specs.Leading.{LeadsTo, NamesIn}
use Rattle.b2_access.specs.Loans.{lends}
use Rattle.b2_access.specs.Rows.{row_of}
use Rattle.b2_access.specs.Serving.{itself}
use Rattle.b2_access.specs.Store.{StoreState, content}
use Rattle.b2_access.specs.declared.devices.Device.{Device}
use Rattle.b2_access.specs.declared.objects.Object.TheVariants as object
use Rattle.b2_access.specs.declared.private.Private.{Private}
use Rattle.b2_access.proofs.Leading.{answers_lead_to_holders, names_lead_to_who_asks}
use Rattle.b2_boot.specs.declared.boot.BootPartition.{BootPartition}
use Rattle.b2_machine.proofs.NamesKept.{steps_lead_names}
use Rattle.b2_machine.proofs.StepHomes.{steps_stay_within}
use Rattle.b2_machine.proofs.StepPart.{steps_keep_part}
use Rattle.b2_machine.specs.Turn.{TurnEnd, counted_on, ended_turn, passed_one, passes_none, turn_from, unless_ended}
use Rattle.b2_machine.specs.declared.ends.Why.{Why}
use Rattle.b2_machine.proofs.PassedTurns.{each_turn}
use Rattle.b2_store.specs.DiskWork.{disks, serves}
use Rattle.b2_sched.proofs.EachRow.{EachIs, IsKept, each_ran}
use Rattle.b2_sched.proofs.GroupRows.{is_it}
use Rattle.b2_sched.proofs.GroupTurns.{local}
use Rattle.b2_sched.proofs.Numbers.{same_number}
use Rattle.b2_sched.proofs.TextsWritten.{writes_own_text}
use Rattle.b2_sched.specs.Choice.{basic}
use Rattle.b2_sched.specs.Groups.{TurnsChangeTheirOwn}
use Rattle.b2_sched.specs.Lawful.{basic_is_lawful}
use Rattle.b2_sched.specs.Start.{booted, private_row}
use Rattle.b2_sched.specs.Turns.{step_of, turn_of}
use Rattle.b2_sched.specs.World.{WorldState, private_of, ran, with_turn}

-- what holds however a turn goes on
pub by_end : {A : Type 0} (P : A → Type 0) (why : Option Why) (ends : Why → A) (on : A) → ((w : Why) → P (ends w)) → P on → P (unless_ended why ends on)
by_end P None ends on h k = k
by_end P (Some w) ends on h k = h w

module _ (devices : List Device) where
  abbrev turn_on : ℕ → Private → StoreState → ℕ → TurnEnd StoreState
  turn_on n me s steps = turn_from (basic devices) itself serves lends n me s steps

  -- which partition it is
  pub step_part : (me : Private) (s : StoreState) → (step_of devices me s).me.part ≡ me.part
  step_part me s = steps_keep_part (basic devices) (basic_is_lawful devices) itself serves lends me s

  pub part_on : (n : ℕ) (me : Private) (s : StoreState) (steps : ℕ) → (turn_on n me s steps).me.part ≡ me.part
  unfolding turn_from
  part_on zero me s steps = refl
  part_on (suc n) me s steps =
      let x = step_of devices me s in
      by_end (λ (t : TurnEnd StoreState). t.me.part ≡ me.part) x.end.why (λ w. ended_turn (counted_on steps x.end) w x.me x.after) (turn_on n x.me x.after (counted_on steps x.end)) (λ w. step_part me s)
      (part_on n x.me x.after (counted_on steps x.end) ∙ step_part me s)

  pub turn_part : (n : ℕ) (me : Private) (s : StoreState) → (turn_of devices n me s).me.part ≡ me.part
  turn_part n me s = each_turn (basic devices) itself serves lends (λ (t : TurnEnd StoreState). t.me.part ≡ me.part) n me s refl (part_on n (passes_none me) s 0)

  -- whom it names, and to whom names lead
  abbrev BothIn : (ℕ → Bool) → Private → StoreState → Type 0
  BothIn among me s = IsWithin among me × NamesIn among s

  pub step_within : (among : ℕ → Bool) (me : Private) (s : StoreState) → IsWithin among me → NamesIn among s → BothIn among (step_of devices me s).me (step_of devices me s).after
  step_within among me s w names = (
    steps_stay_within (basic devices) (basic_is_lawful devices) itself serves lends (λ who home whose m left. refl) (answers_lead_to_holders disks) among me s (λ n q i leads. names n q leads) w,
    λ n q leads. by n q (steps_lead_names (basic devices) itself serves lends (λ who home whose m left. refl) (names_lead_to_who_asks disks) me s n q leads),
  )
    where
      by : (n : List ℕ) (q : ℕ) → LeadsTo s n q ⊎ (q ≡ me.part) → among q ≡ true
      by n q (inl before) = names n q before
      by n q (inr own) = ap among own ∙ w.part

  pub within_on : (among : ℕ → Bool) (n : ℕ) (me : Private) (s : StoreState) (steps : ℕ) → IsWithin among me → NamesIn among s → BothIn among (turn_on n me s steps).me (turn_on n me s steps).after
  unfolding turn_from
  within_on among zero me s steps w names = (w, names)
  within_on among (suc n) me s steps w names =
      let x = step_of devices me s in
      let next = step_within among me s w names in
      by_end (λ (t : TurnEnd StoreState). BothIn among t.me t.after) x.end.why (λ w. ended_turn (counted_on steps x.end) w x.me x.after) (turn_on n x.me x.after (counted_on steps x.end)) (λ w. next)
      (within_on among n x.me x.after (counted_on steps x.end) next.0 next.1)

  -- how many turns it is to pass names nobody
  pub pass_within : (among : ℕ → Bool) (me : Private) (k : ℕ) → IsWithin among me → IsWithin among (record me { pass = k })
  pass_within among me k w = record { part = w.part; place = w.place; kept = w.kept; frames = w.frames }

  pub turn_within : (among : ℕ → Bool) (n : ℕ) (me : Private) (s : StoreState) → IsWithin among me → NamesIn among s → BothIn among (turn_of devices n me s).me (turn_of devices n me s).after
  turn_within among n me s w names =
      each_turn (basic devices) itself serves lends (λ (t : TurnEnd StoreState). BothIn among t.me t.after) n me s (pass_within among me (me.pass - 1) w, names)
      (within_on among n (passes_none me) s 0 (pass_within among me 0 w) names)

  -- texts of others
  text_stays : (q : ℕ) (me : Private) (s : StoreState) → q ≢ me.part → content (step_of devices me s).after (object.Text q) ≡ content s (object.Text q)
  text_stays q me s apart = (local devices me).others s (object.Text q) (λ i. apart (writes_own_text (basic devices) me s q i))

  texts_stay_on : (q n : ℕ) (me : Private) (s : StoreState) (steps : ℕ) → q ≢ me.part → content (turn_on n me s steps).after (object.Text q) ≡ content s (object.Text q)
  unfolding turn_from
  texts_stay_on q zero me s steps apart = refl
  texts_stay_on q (suc n) me s steps apart =
      let x = step_of devices me s in
      let here = text_stays q me s apart in
      by_end (λ (t : TurnEnd StoreState). content t.after (object.Text q) ≡ content s (object.Text q)) x.end.why (λ w. ended_turn (counted_on steps x.end) w x.me x.after) (turn_on n x.me x.after (counted_on steps x.end)) (λ w. here)
      (texts_stay_on q n x.me x.after (counted_on steps x.end) (λ e. apart (e ∙ step_part me s)) ∙ here)

  texts_stay : (q n : ℕ) (me : Private) (s : StoreState) → q ≢ me.part → content (turn_of devices n me s).after (object.Text q) ≡ content s (object.Text q)
  texts_stay q n me s apart =
      each_turn (basic devices) itself serves lends (λ (t : TurnEnd StoreState). content t.after (object.Text q) ≡ content s (object.Text q)) n me s refl (texts_stay_on q n (passes_none me) s 0 apart)

-- each partition is the one of its number
abbrev pub IsItself : ℕ → Private → Type 0
IsItself p me = me.part ≡ p

pub keeps_itself : IsKept IsItself
keeps_itself = record {
  halt = λ p me h. h;
  reset = λ p me h. h;
  turn = λ devices p n me s h. turn_part devices n me s ∙ h;
}

pub starts_itself : (ps : List BootPartition) → EachIs IsItself (map private_row ps)
starts_itself [] p me is = let clash : false ≡ true = ap (λ (o : Option Private). is_some o) is in cc
starts_itself (x ∷ xs) p me is = by (x.number == p) refl (starts_itself xs p me) is
  where
    by : (b : Bool) → (x.number == p) ≡ b → (row_of p (map private_row xs) ≡ Some me → IsItself p me) → cond b (Some (private_row x).1) (row_of p (map private_row xs)) ≡ Some me → IsItself p me
    by true e later found = sym (ap (λ (you : Private). you.part) (is_it (private_row x).1 me found)) ∙ same_number x.number p e
    by false e later found = later found

turned_own : (p n : ℕ) (m : Option Private) (w : WorldState) → private_of p w ≡ m → EachIs IsItself w.privates → (q : ℕ) → q ≢ p → content (with_turn p m n w).store (object.Text q) ≡ content w.store (object.Text q)
turned_own p n None w is own q apart = refl
turned_own p n (Some me) w is own q apart = texts_stay w.devices q n me w.store (λ e. apart (e ∙ own p me is))

pub change_their_own : TurnsChangeTheirOwn
change_their_own b images log p n q apart =
    let w = ran log (booted b images) in
    turned_own p n (private_of p w) w refl (each_ran IsItself keeps_itself log (booted b images) (starts_itself b.partitions)) q apart
