-- In every world that a boot leads to the list of devices of each partition is what it holds.
use Rattle.std.specs.Prelude.{◌≡◌, ◌≢◌, ◌≤◌, ℕ, zero, suc, ◌==◌, Bool, true, false, cond, List, [], ◌∷◌, ◌++◌, length, map, Option, Some, None, IsSome, is_some, refl}
use Rattle.std.specs.Str.{bytes_eq}
use Rattle.std.proofs.Common.{sym, ap, subst, ◌∙◌, inl, inr}
use Rattle.std.proofs.lemmas.Bool.{true≢false}
use Rattle.std.proofs.lemmas.Slice.Eq.{bytes_eq-Decides}
use Rattle.b2_term.specs.Terminal.{TerminalState, keyed}
use Rattle.b2_access.specs.Holding.{IsAddressIn}
use Rattle.b2_access.specs.Loans.{lends}
use Rattle.b2_access.specs.Rows.{device_row, row_of, with_row}
use Rattle.b2_access.specs.Serving.{itself}
use Rattle.b2_access.specs.Store.{StoreState, content}
use Rattle.b2_access.specs.declared.accesses.Access.{Access}
use Rattle.b2_access.specs.declared.devices.Device.{Device}
use Rattle.b2_access.specs.declared.objects.Object.TheVariants as object
use Rattle.b2_access.specs.declared.private.Private.{Private}
use Rattle.b2_access.proofs.Locality.{serves_keeps_listed}
use Rattle.b2_boot.specs.Boots.{BootState}
use Rattle.b2_boot.specs.Quotas.{quotas_of}
use Rattle.b2_boot.specs.declared.boot.BootPartition.{BootPartition}
use Rattle.b2_boot.specs.declared.boot.BootPlatter.{BootPlatter}
use Rattle.b2_boot.specs.declared.boot.BootPrinter.{BootPrinter}
use Rattle.b2_machine.proofs.StepDevices.{steps_ask_for_listed}
use Rattle.b2_machine.specs.Touched.{AskedListed, asking}
use Rattle.b2_machine.specs.Turn.{TurnEnd, counted_on, ended_turn, passes_none, turn_from}
use Rattle.b2_machine.proofs.PassedTurns.{each_turn}
use Rattle.b2_store.specs.Changes.{with_terminal}
use Rattle.b2_store.specs.DiskWork.{disks, serves}
use Rattle.b2_store.specs.Start.{free_row}
use Rattle.b2_sched.proofs.EachRow.{EachIs, each_changed}
use Rattle.b2_sched.proofs.Folds.{all_keep_devices}
use Rattle.b2_sched.proofs.GroupRows.{is_it, row_comes}
use Rattle.b2_sched.proofs.HeldAccesses.{Agree, KnowsAll, addresses_of, at_most_twelve, none_else, own_agrees, still_agree}
use Rattle.b2_sched.proofs.HeldList.{lent_same, list_after}
use Rattle.b2_sched.proofs.HeldSteps.{step_held}
use Rattle.b2_sched.proofs.HeldTurns.{terminal_leaves}
use Rattle.b2_sched.proofs.Lasting.{by_actions}
use Rattle.b2_sched.proofs.OwnObjects.{by_end, starts_itself}
use Rattle.b2_sched.proofs.ShownAtTerminals.{booted_shows, for_listed}
use Rattle.b2_sched.proofs.StepEnds.{left_where, step_left}
use Rattle.b2_sched.proofs.TouchedDevices.{IsFit, always_fit, fit_after}
use Rattle.b2_sched.specs.Choice.{basic}
use Rattle.b2_sched.specs.Holding.{IsHeld, KeepTheList, ListsAreWhatIsHeld, ListsWhatItHolds, held_where}
use Rattle.b2_sched.specs.Laws.{all_actions}
use Rattle.b2_sched.specs.Lawful.{basic_asks_for_listed}
use Rattle.b2_sched.specs.Start.{CanStart, Images, booted, devices_of, platter_addresses, printer_addresses, private_row, store_booted}
use Rattle.b2_sched.specs.Turns.{step_of, turn_of}
use Rattle.b2_sched.specs.World.{WorldState, Action, Key, Front, Halt, Reset, Turn, asked_to_halt, asked_to_reset, does, does_all, private_of, with_turn}

-- ---- a step, and a turn

-- what an access leaves knows what was known
left_knows : (devices : List Device) (x : Option Access) (who : ℕ) (s : StoreState) → KnowsAll devices s → KnowsAll devices (left_where x who s)
left_knows devices None who s knows = knows
left_knows devices (Some x) who s knows = λ a i. serves_keeps_listed disks who x s (object.Hog a) (knows a i)

-- where the holders are the same, what was known is so, and what agreed
same_known : (devices : List Device) (s t : StoreState) → ((a : List ℕ) → content t (object.Hog a) ≡ content s (object.Hog a)) → KnowsAll devices s → KnowsAll devices t
same_known devices s t same knows a i = subst (λ (o : Option (Option ℕ)). IsSome o) (sym (same a)) (knows a i)

same_agreed : (devices : List Device) (p : ℕ) (held : List (List ℕ)) (s t : StoreState) → ((a : List ℕ) → content t (object.Hog a) ≡ content s (object.Hog a)) → Agree devices p held s → Agree devices p held t
same_agreed devices p held s t same agree = still_agree devices p held s t (λ a is. sym (same a) ∙ is) (λ a is. same a ∙ is) agree

module _ (devices : List Device) (few : length devices ≤ 12) (keep : KeepTheList (basic devices)) where
  abbrev turn_on : ℕ → Private → StoreState → ℕ → TurnEnd StoreState
  turn_on n me s steps = turn_from (basic devices) itself serves lends n me s steps

  step_knows : (me : Private) (s : StoreState) → KnowsAll devices s → KnowsAll devices (step_of devices me s).after
  step_knows me s knows =
      let l = step_left (basic devices) me s in
      let x = asking (basic devices) me s in
      same_known devices (left_where x me.part l.before) (step_of devices me s).after (λ a. l.left (object.Hog a) refl)
      (left_knows devices x me.part l.before (same_known devices s l.before (λ a. l.lent (object.Hog a) refl) knows))

  -- of the partition that takes it
  module _ (p : ℕ) where
    own_left : (x : Option Access) (held : List (List ℕ)) (s : StoreState) → KnowsAll devices s → AskedListed devices p x → Agree devices p held s → Agree devices p (held_where x p held s) (left_where x p s)
    own_left None held s knows listed agree = agree
    own_left (Some x) held s knows listed agree = own_agrees devices p s few held agree x knows listed

    own_step : (me : Private) (s : StoreState) → IsFit p me → KnowsAll devices s → Agree devices p me.held s → Agree devices p (step_of devices me s).me.held (step_of devices me s).after
    own_step me s fit knows agree =
        let x = asking (basic devices) me s in
        let l = step_left (basic devices) me s in
        let asked = steps_ask_for_listed basic basic_asks_for_listed devices me s (for_listed devices me.part me.pending fit.0) in
        let listed = subst (λ (k : ℕ). AskedListed devices k x) fit.1 asked in
        let lent : (a : List ℕ) → content l.before (object.Hog a) ≡ content s (object.Hog a) = λ a. l.lent (object.Hog a) refl in
        let there = own_left x me.held l.before (same_known devices s l.before lent knows) listed (same_agreed devices p me.held s l.before lent agree) in
        let list : held_where x p me.held l.before ≡ (step_of devices me s).me.held =
        lent_same (basic devices) keep x p me.held s l.before l.lent ∙ ap (λ (k : ℕ). held_where x k me.held s) (sym fit.1) ∙ sym (list_after (basic devices) keep me s) in
        same_agreed devices p (step_of devices me s).me.held (left_where x me.part l.before) (step_of devices me s).after (λ a. l.left (object.Hog a) refl)
        (subst (λ (k : ℕ). Agree devices p (step_of devices me s).me.held (left_where x k l.before)) (sym fit.1) (subst (λ (held : List (List ℕ)). Agree devices p held (left_where x p l.before)) list there))

    own_on : (n : ℕ) (me : Private) (s : StoreState) (steps : ℕ) → IsFit p me → KnowsAll devices s → Agree devices p me.held s → Agree devices p (turn_on n me s steps).me.held (turn_on n me s steps).after
    unfolding turn_from
    own_on zero me s steps fit knows agree = agree
    own_on (suc n) me s steps fit knows agree =
        let x = step_of devices me s in
        let here = own_step me s fit knows agree in
        by_end (λ (t : TurnEnd StoreState). Agree devices p t.me.held t.after) x.end.why (λ w. ended_turn (counted_on steps x.end) w x.me x.after) (turn_on n x.me x.after (counted_on steps x.end)) (λ w. here)
        (own_on n x.me x.after (counted_on steps x.end) (fit_after devices p me s fit) (step_knows me s knows) here)

    own_turn : (n : ℕ) (me : Private) (s : StoreState) → IsFit p me → KnowsAll devices s → Agree devices p me.held s → Agree devices p (turn_of devices n me s).me.held (turn_of devices n me s).after
    own_turn n me s fit knows agree =
        each_turn (basic devices) itself serves lends (λ (t : TurnEnd StoreState). Agree devices p t.me.held t.after) n me s agree (own_on n (passes_none me) s 0 fit knows agree)

  -- of all others
  module _ (p q : ℕ) (apart : q ≢ p) where
    none_left : (x : Option Access) (a : List ℕ) (s : StoreState) → IsHeld a p (left_where x q s) → IsHeld a p s
    none_left None a s is = is
    none_left (Some x) a s is = none_else a p q apart s x is

    other_step : (held : List (List ℕ)) (me : Private) (s : StoreState) → IsFit q me → Agree devices p held s → Agree devices p held (step_of devices me s).after
    other_step held me s fit agree =
        let x = asking (basic devices) me s in
        let l = step_left (basic devices) me s in
        still_agree devices p held s (step_of devices me s).after
        (λ a is. sym (l.lent (object.Hog a) refl) ∙ none_left x a l.before (subst (λ (k : ℕ). IsHeld a p (left_where x k l.before)) fit.1 (sym (l.left (object.Hog a) refl) ∙ is)))
        (λ a is. step_held devices a p q me s fit.1 is apart) agree

    other_on : (held : List (List ℕ)) (n : ℕ) (me : Private) (s : StoreState) (steps : ℕ) → IsFit q me → Agree devices p held s → Agree devices p held (turn_on n me s steps).after
    unfolding turn_from
    other_on held zero me s steps fit agree = agree
    other_on held (suc n) me s steps fit agree =
        let x = step_of devices me s in
        let here = other_step held me s fit agree in
        by_end (λ (t : TurnEnd StoreState). Agree devices p held t.after) x.end.why (λ w. ended_turn (counted_on steps x.end) w x.me x.after) (turn_on n x.me x.after (counted_on steps x.end)) (λ w. here)
        (other_on held n x.me x.after (counted_on steps x.end) (fit_after devices q me s fit) here)

    other_turn : (held : List (List ℕ)) (n : ℕ) (me : Private) (s : StoreState) → IsFit q me → Agree devices p held s → Agree devices p held (turn_of devices n me s).after
    other_turn held n me s fit agree = each_turn (basic devices) itself serves lends (λ (t : TurnEnd StoreState). Agree devices p held t.after) n me s agree (other_on held n (passes_none me) s 0 fit agree)

  knows_on : (n : ℕ) (me : Private) (s : StoreState) (steps : ℕ) → KnowsAll devices s → KnowsAll devices (turn_on n me s steps).after
  unfolding turn_from
  knows_on zero me s steps knows = knows
  knows_on (suc n) me s steps knows =
      let x = step_of devices me s in
      let here = step_knows me s knows in
      by_end (λ (t : TurnEnd StoreState). KnowsAll devices t.after) x.end.why (λ w. ended_turn (counted_on steps x.end) w x.me x.after) (turn_on n x.me x.after (counted_on steps x.end)) (λ w. here)
      (knows_on n x.me x.after (counted_on steps x.end) here)

  turn_knows : (n : ℕ) (me : Private) (s : StoreState) → KnowsAll devices s → KnowsAll devices (turn_of devices n me s).after
  turn_knows n me s knows = each_turn (basic devices) itself serves lends (λ (t : TurnEnd StoreState). KnowsAll devices t.after) n me s knows (knows_on n (passes_none me) s 0 knows)

-- ---- what happens at once

abbrev IsGood : List Device → StoreState → ℕ → Private → Type 0
IsGood devices s p me = IsFit p me × Agree devices p me.held s

record AreGood (w : WorldState) : Type 0 where
  pub few : length w.devices ≤ 12
  pub knows : KnowsAll w.devices w.store
  pub each : EachIs (IsGood w.devices w.store) w.privates

-- a terminal changes, and the holders stay
abbrev at_terminal : ℕ → (TerminalState → TerminalState) → StoreState → StoreState
at_terminal t f s = with_terminal (content s (object.Terminal t)) t f s

holders_stay : (t : ℕ) (f : TerminalState → TerminalState) (s : StoreState) (a : List ℕ) → content (at_terminal t f s) (object.Hog a) ≡ content s (object.Hog a)
holders_stay t f s a = terminal_leaves (object.Hog a) a refl (content s (object.Terminal t)) t f s

knows_there : (devices : List Device) (t : ℕ) (f : TerminalState → TerminalState) (s : StoreState) → KnowsAll devices s → KnowsAll devices (at_terminal t f s)
knows_there devices t f s knows a i = subst (λ (o : Option (Option ℕ)). IsSome o) (sym (holders_stay t f s a)) (knows a i)

each_there : (devices : List Device) (t : ℕ) (f : TerminalState → TerminalState) (s : StoreState) (rows : List (ℕ × Private)) → EachIs (IsGood devices s) rows → EachIs (IsGood devices (at_terminal t f s)) rows
each_there devices t f s rows each p me is =
    let good = each p me is in
    (good.0, still_agree devices p me.held s (at_terminal t f s) (λ a held. sym (holders_stay t f s a) ∙ held) (λ a held. holders_stay t f s a ∙ held) good.1)

module _ (keep : (devices : List Device) → KeepTheList (basic devices)) where
  turned_good : (q n : ℕ) (m : Option Private) (w : WorldState) → private_of q w ≡ m → AreGood w → AreGood (with_turn q m n w)
  turned_good q n None w is good = good
  turned_good q n (Some me) w is good = record { few = good.few; knows = turn_knows w.devices good.few (keep w.devices) n me w.store good.knows; each = each }
    where
      own : IsGood w.devices w.store q me
      own = good.each q me is

      its_own : IsGood w.devices (turn_of w.devices n me w.store).after q (turn_of w.devices n me w.store).me
      its_own = (always_fit.turn w.devices q n me w.store own.0, own_turn w.devices good.few (keep w.devices) q n me w.store own.0 good.knows own.1)

      each : EachIs (IsGood w.devices (turn_of w.devices n me w.store).after) (with_row q w.privates (turn_of w.devices n me w.store).me)
      each p you there =
          row_comes (λ (z : Private). IsGood w.devices (turn_of w.devices n me w.store).after p z) p q (turn_of w.devices n me w.store).me w.privates
          (λ e. subst (λ (k : ℕ). IsGood w.devices (turn_of w.devices n me w.store).after k (turn_of w.devices n me w.store).me) (sym e) its_own)
          (λ apart z stood. (let old = good.each p z stood in (old.0, other_turn w.devices good.few (keep w.devices) p q (λ e. apart (sym e)) z.held n me w.store own.0 old.1)))
          you there

  action_good : (x : Action) (w : WorldState) → AreGood w → AreGood (does x w)
  action_good (Key t k) w good = record { few = good.few; knows = knows_there w.devices t (keyed k) w.store good.knows; each = each_there w.devices t (keyed k) w.store w.privates good.each }
  action_good (Front t q) w good =
      let f : TerminalState → TerminalState = λ x. record x { front = q } in
      record { few = good.few; knows = knows_there w.devices t f w.store good.knows; each = each_there w.devices t f w.store w.privates good.each }
  action_good (Halt q) w good =
      record { few = good.few; knows = good.knows; each = each_changed (IsGood w.devices w.store) asked_to_halt (λ p me h. (always_fit.halt p me h.0, h.1)) q (private_of q w) w.privates refl good.each }
  action_good (Reset q) w good =
      record { few = good.few; knows = good.knows; each = each_changed (IsGood w.devices w.store) asked_to_reset (λ p me h. (always_fit.reset p me h.0, h.1)) q (private_of q w) w.privates refl good.each }
  action_good (Turn q n) w good = turned_good q n (private_of q w) w refl good

  all_good : (acts : List Action) (w : WorldState) → AreGood w → AreGood (does_all acts w)
  all_good [] w good = good
  all_good (x ∷ xs) w good = all_good xs (does x w) (action_good x w good)

-- ---- in the world of a boot nobody holds a device, and the store knows all of them

found : (d a : List ℕ) (rest : List (List ℕ)) (o : Option (Option ℕ)) → IsAddressIn a (d ∷ rest) → (IsAddressIn a rest → IsSome o) → IsSome (cond (bytes_eq d a) (Some None) o)
found d a rest o i later = by (bytes_eq d a) refl
  where
    by : (b : Bool) → bytes_eq d a ≡ b → IsSome (cond b (Some None) o)
    by true e = refl
    by false e = elim i [ inl same ↦ absurd (true≢false (sym ((bytes_eq-Decides d a).1 (sym same)) ∙ e)) | inr j ↦ later j ]

booted_knows : (printers : List BootPrinter) (platters : List BootPlatter) (a : List ℕ) → IsAddressIn a (addresses_of (devices_of printers platters))
    → IsSome (device_row a (map free_row (printer_addresses printers) ++ map free_row (platter_addresses platters)))
booted_knows [] [] a i = absurd i
booted_knows [] (y ∷ ys) a i = found y.address a (addresses_of (devices_of [] ys)) (device_row a (map free_row (platter_addresses ys))) i (λ j. booted_knows [] ys a j)
booted_knows (x ∷ xs) ys a i =
    found x.address a (addresses_of (devices_of xs ys)) (device_row a (map free_row (printer_addresses xs) ++ map free_row (platter_addresses ys))) i (λ j. booted_knows xs ys a j)

unheld : (d a : List ℕ) (p : ℕ) (o : Option (Option ℕ)) → (o ≡ Some (Some p) → ⊥) → cond (bytes_eq d a) (Some None) o ≡ Some (Some p) → ⊥
unheld d a p o later = by (bytes_eq d a)
  where
    by : (b : Bool) → cond b (Some None) o ≡ Some (Some p) → ⊥
    by true is = cc
    by false is = later is

booted_free : (xs ys : List (List ℕ)) (a : List ℕ) (p : ℕ) → device_row a (map free_row xs ++ map free_row ys) ≡ Some (Some p) → ⊥
booted_free [] [] a p is = cc
booted_free [] (y ∷ ys) a p is = unheld y a p (device_row a (map free_row ys)) (booted_free [] ys a p) is
booted_free (x ∷ xs) ys a p is = unheld x a p (device_row a (map free_row xs ++ map free_row ys)) (booted_free xs ys a p) is

booted_empty : (ps : List BootPartition) → EachIs (λ p me. me.held ≡ []) (map private_row ps)
booted_empty [] p me is = let clash : false ≡ true = ap (λ (o : Option Private). is_some o) is in cc
booted_empty (x ∷ xs) p me is = by (x.number == p) (booted_empty xs p me) is
  where
    by : (b : Bool) → (row_of p (map private_row xs) ≡ Some me → me.held ≡ []) → cond b (Some (private_row x).1) (row_of p (map private_row xs)) ≡ Some me → me.held ≡ []
    by true later e = sym (ap (λ (you : Private). you.held) (is_it (private_row x).1 me e))
    by false later e = later e

booted_agrees : (b : BootState) (images : Images) (p : ℕ) → Agree (devices_of b.printers b.platters) p [] (store_booted b images)
booted_agrees b images p =
    record { stands = λ a is. absurd (booted_free (printer_addresses b.printers) (platter_addresses b.platters) a p is); holds = λ a i. absurd i; once = refl; usable = λ a i. absurd i }

booted_good : (b : BootState) (images : Images) → CanStart b → AreGood (booted b images)
booted_good b images can = record {
  few = can.few;
  knows = booted_knows b.printers b.platters;
  each = λ p me is. (
    (booted_shows b.partitions p me is, starts_itself b.partitions p me is),
    subst (λ (held : List (List ℕ)). Agree (devices_of b.printers b.platters) p held (store_booted b images)) (sym (booted_empty b.partitions p me is)) (booted_agrees b images p),
  );
}

-- ---- so in every world that a boot leads to

lists_hold : (devices : List Device) (p : ℕ) (me : Private) (s : StoreState) → length devices ≤ 12 → Agree devices p me.held s → ListsWhatItHolds devices p me s
lists_hold devices p me s few agree =
    record { stands = agree.stands; holds = agree.holds; once = agree.once; few = at_most_twelve devices p s few me.held agree; usable = agree.usable }

pub lists_are_what_is_held : ((devices : List Device) → KeepTheList (basic devices)) → ListsAreWhatIsHeld
lists_are_what_is_held keep b images log p me can is =
    let acts = all_actions (quotas_of b) log in
    let w = booted b images in
    let same = by_actions log w in
    let good = all_good keep acts w (booted_good b images can) in
    let there = good.each p me (ap (private_of p) (sym same) ∙ is) in
    subst (λ (v : WorldState). ListsWhatItHolds (devices_of b.printers b.platters) p me v.store) (sym same)
    (subst (λ (devices : List Device). ListsWhatItHolds devices p me (does_all acts w).store) (all_keep_devices acts w) (lists_hold (does_all acts w).devices p me (does_all acts w).store good.few there.1))
