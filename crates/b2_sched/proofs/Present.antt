-- That each partition that is present has its number and its terminal, names none but those that are there, and has a text that nobody else
-- wrote, in the world of a boot and after what happens.
use Rattle.std.specs.Prelude.{◌≡◌, ℕ, ◌==◌, ◌&&◌, Bool, true, false, cond, List, [], ◌∷◌, map, Option, Some, None, is_some, IsSome, refl}
use Rattle.std.proofs.Common.{sym, ap, subst, ◌∙◌}
use Rattle.std.proofs.lemmas.Bool.{and_parts}
use Rattle.b2_access.specs.Homes.{IsWithin}
use Rattle.b2_access.specs.Leading.{LeadsTo, NamesIn, is_present}
use Rattle.b2_access.specs.Rows.{NameRows, name_row, row_of, with_row}
use Rattle.b2_access.specs.Store.{StoreState}
use Rattle.b2_access.specs.declared.devices.Device.{Device}
use Rattle.b2_access.specs.declared.private.Private.{Private}
use Rattle.b2_audit.specs.Marks.{Marks, unmarked}
use Rattle.b2_audit.specs.Steps.{marks_after}
use Rattle.b2_boot.specs.declared.boot.BootPartition.{BootPartition}
use Rattle.b2_machine.proofs.Presence.{among_more, both_within, still_present as present_on}
use Rattle.b2_machine.specs.Stays.{KeepsAll}
use Rattle.b2_store.specs.Changes.{with_terminal}
use Rattle.b2_store.specs.Start.{text_row}
use Rattle.b2_term.specs.Terminal.{TerminalState}
use Rattle.b2_sched.proofs.AloneBoots.{starts_within}
use Rattle.b2_sched.proofs.GroupRows.{row_holds}
use Rattle.b2_sched.proofs.OwnObjects.{turn_within}
use Rattle.b2_sched.proofs.OwnTexts.{after_steps, starts_own, starts_whole}
use Rattle.b2_sched.proofs.Settled.{starts_settled, turn_settled, turn_steps}
use Rattle.b2_sched.specs.Presence.{ArePresent, IsPresent, IsSettled, is_number, is_there}
use Rattle.b2_sched.specs.Start.{AreNumbered, areas_of, private_row}
use Rattle.b2_sched.specs.Turns.{steps_in_turn, turn_of}

-- another own state of a partition, and another store and other marks for all
pub still_present : (q : ℕ) (x : Private) (rows : List (ℕ × Private)) (s t : StoreState) (m k : Marks) → IsPresent q x t k
    → ((p : ℕ) (me : Private) → IsPresent p me s m → IsPresent p me t k) → ArePresent rows s m → ArePresent (with_row q rows x) t k
still_present q x rows s t m k new keeps present p me is =
    row_holds (λ you. IsPresent p you t k) p q x rows (λ e. subst (λ j. IsPresent j x t k) (sym e) new) (λ you there. keeps p you (present p you there)) me is

-- a flag of a partition alone
pub flagged : (p : ℕ) (me x : Private) (s : StoreState) (m : Marks) → IsSettled p x → IsWithin (is_present s) x → IsPresent p me s m → IsPresent p x s m
flagged p me x s m settled homes is = record { settled = settled; homes = homes; names = is.names; own = is.own; whole = is.whole }

-- and where a terminal changes
pub present_at : (rows : List (ℕ × Private)) (s : StoreState) (m : Marks) (o : Option TerminalState) (t : ℕ) (f : TerminalState → TerminalState) → ArePresent rows s m → ArePresent rows (with_terminal o t f s) m
present_at rows s m None t f present p me is = present p me is
present_at rows s m (Some x) t f present p me is =
    let was = present p me is in
    record { settled = was.settled; homes = was.homes; names = was.names; own = was.own; whole = was.whole }

-- who is there is so still where what is listed is
pub there_number : (s : StoreState) (p : ℕ) → is_there s p ≡ true → is_number p ≡ true
there_number s p is = (and_parts (is_present s p) (is_number p) is).1

pub there_present : (s : StoreState) (p : ℕ) → is_there s p ≡ true → is_present s p ≡ true
there_present s p is = (and_parts (is_present s p) (is_number p) is).0

still_there : (s t : StoreState) → KeepsAll s t → (p : ℕ) → is_there s p ≡ true → is_there t p ≡ true
still_there s t keeps p is = ap (λ (b : Bool). b && is_number p) (present_on s t keeps p (there_present s p is)) ∙ there_number s p is

-- after a turn
pub turn_present : (devices : List Device) (q n : ℕ) (you : Private) (rows : List (ℕ × Private)) (s t : StoreState) (m : Marks) → t ≡ (turn_of devices n you s).after → KeepsAll s t → IsPresent q you s m → ArePresent rows s m
    → ArePresent (with_row q rows (turn_of devices n you s).me) t (marks_after (steps_in_turn devices q n you s) m)
turn_present devices q n you rows s t m ends keeps it present = still_present q (turn_of devices n you s).me rows s t m after itself_then others present
  where
    after : Marks
    after = marks_after (steps_in_turn devices q n you s) m

    numbers : NamesIn is_number s
    numbers n p leads = there_number s p (it.names n p leads)

    there_homes : IsWithin (is_there s) you
    there_homes = both_within (is_present s) is_number you it.homes it.settled.homes

    led : NamesIn (is_there t) t
    led = λ k p leads. still_there s t keeps p ((turn_within devices (is_there s) n you s there_homes it.names).1 k p (subst (λ (u : StoreState). LeadsTo u k p) ends leads))

    others : (p : ℕ) (me : Private) → IsPresent p me s m → IsPresent p me t (marks_after (steps_in_turn devices q n you s) m)
    others p me is =
        let steps = turn_steps devices q n you s it.settled numbers in
        let both = after_steps p (steps_in_turn devices q n you s) m is.settled.number steps.0 steps.1 is.whole is.own in
        record { settled = is.settled; homes = among_more (is_present s) (is_present t) (present_on s t keeps) me is.homes; names = led; own = both.1; whole = both.0 }

    itself_then : IsPresent q (turn_of devices n you s).me t (marks_after (steps_in_turn devices q n you s) m)
    itself_then =
        let rest = others q you it in
        let homes = (turn_within devices (is_present s) n you s it.homes (λ k p leads. there_present s p (it.names k p leads))).0 in
        record {
          settled = turn_settled devices q n you s it.settled numbers;
          homes = among_more (is_present s) (is_present t) (present_on s t keeps) (turn_of devices n you s).me homes;
          names = led;
          own = rest.own;
          whole = rest.whole;
        }

-- no name leads to anyone
nobody_led : (n : List ℕ) (q : ℕ) → ◌≡◌ {A = Option (Option ℕ)} (Some (name_row n [])) (Some (Some q)) → ⊥
nobody_led n q e = cc

-- each partition of a boot has a text
booted_text : (ps : List BootPartition) (p : ℕ) (me : Private) → row_of p (map private_row ps) ≡ Some me → IsSome (row_of p (map text_row (map areas_of ps)))
booted_text [] p me is = let clash : false ≡ true = ap (λ (o : Option Private). is_some o) is in cc
booted_text (x ∷ xs) p me is = by (x.number == p) (booted_text xs p me) is
  where
    by : (b : Bool) → (row_of p (map private_row xs) ≡ Some me → IsSome (row_of p (map text_row (map areas_of xs))))
        → cond b (Some (private_row x).1) (row_of p (map private_row xs)) ≡ Some me → IsSome (cond b (Some (text_row (areas_of x)).1) (row_of p (map text_row (map areas_of xs))))
    by true later found = refl
    by false later found = later found

pub booted_present : (ps : List BootPartition) (s : StoreState) → AreNumbered ps → map text_row (map areas_of ps) ≡ s.texts → s.names ≡ [] → ArePresent (map private_row ps) s unmarked
booted_present ps s are texts names p me is =
    let settled = starts_settled ps are p me is in
    let there : is_present s p ≡ true = subst (λ rows. IsSome (row_of p rows)) texts (booted_text ps p me is) in
    record {
      settled = settled;
      homes = starts_within (is_present s) p ps me there is;
      names = λ n q leads. absurd (nobody_led n q (subst (λ (rows : NameRows). Some (name_row n rows) ≡ Some (Some q)) names leads));
      own = starts_own p settled.number;
      whole = starts_whole;
    }
