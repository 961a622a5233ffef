-- The marks of a world are those of its steps, so they say who is clean.
use Rattle.std.specs.Prelude.{◌≡◌, ◌↔◌, ℕ, true, List, [], ◌∷◌, ◌++◌, Option, Some, None, refl}
use Rattle.std.proofs.Common.{sym, ap, subst, ◌∙◌}
use Rattle.b2_access.specs.Leading.{NamesIn}
use Rattle.b2_access.specs.Store.{StoreState, content}
use Rattle.b2_access.specs.declared.objects.Object.TheVariants as object
use Rattle.b2_access.specs.declared.private.Private.{Private}
use Rattle.b2_audit.proofs.Said.{marks_say_clean}
use Rattle.b2_audit.specs.Marks.{Marks, is_clean, marked}
use Rattle.b2_audit.specs.Steps.{AreSteps, IsClean, Step, just, marks_after}
use Rattle.b2_boot.specs.Boots.{BootState}
use Rattle.b2_boot.specs.Quotas.{quotas_of}
use Rattle.b2_store.specs.Changes.{with_terminal}
use Rattle.b2_term.specs.Terminal.{TerminalState, keyed}
use Rattle.b2_sched.proofs.AloneBoots.{as_alone, held_by_nobody}
use Rattle.b2_sched.proofs.EachRow.{EachIs, each_changed, each_row}
use Rattle.b2_sched.proofs.Lasting.{by_actions}
use Rattle.b2_sched.proofs.Numbers.{same_as_itself}
use Rattle.b2_sched.proofs.OwnObjects.{turn_within}
use Rattle.b2_sched.proofs.Settled.{halt_settled, reset_settled, starts_settled, turn_settled, turn_steps}
use Rattle.b2_sched.specs.Clean.{CleanOnesAreAsAlone, MarksSayWhoIsClean, RunsMarkTheirSteps}
use Rattle.b2_sched.specs.Groups.{steps_along, steps_at, steps_of}
use Rattle.b2_sched.specs.Laws.{all_actions}
use Rattle.b2_sched.specs.Presence.{IsSettled, is_number}
use Rattle.b2_sched.specs.Start.{AreNumbered, Images, booted}
use Rattle.b2_sched.specs.Turns.{noted_by, turn_of}
use Rattle.b2_sched.specs.World.{WorldState, Action, Key, Front, Halt, Reset, Turn, asked_to_halt, asked_to_reset, does, does_all, private_of, with_turn}

-- along the actions of a run
marks_append : (xs ys : List Step) (m : Marks) → marks_after (xs ++ ys) m ≡ marks_after ys (marks_after xs m)
marks_append [] ys m = refl
marks_append (x ∷ xs) ys m = marks_append xs ys (marked x.who x.touched x.written m)

turn_marks : (p n : ℕ) (o : Option Private) (w : WorldState) → (with_turn p o n w).marks ≡ marks_after (noted_by w.devices p n o w.store) w.marks
turn_marks p n None w = refl
turn_marks p n (Some me) w = refl

action_marks : (a : Action) (w : WorldState) → (does a w).marks ≡ marks_after (steps_at a w) w.marks
action_marks (Key t k) w = refl
action_marks (Front t p) w = refl
action_marks (Halt p) w = refl
action_marks (Reset p) w = refl
action_marks (Turn p n) w = turn_marks p n (private_of p w) w

all_mark : (acts : List Action) (w : WorldState) → (does_all acts w).marks ≡ marks_after (steps_along acts w) w.marks
all_mark [] w = refl
all_mark (a ∷ rest) w =
    let later = steps_along rest (does a w) in
    all_mark rest (does a w) ∙ ap (λ (m : Marks). marks_after later m) (action_marks a w) ∙ sym (marks_append (steps_at a w) later w.marks)

pub runs_mark : RunsMarkTheirSteps
runs_mark log w = ap (λ (v : WorldState). v.marks) (by_actions log w) ∙ all_mark (all_actions w.quotas log) w

-- the steps touch and write what is marked
both_are : (xs ys : List Step) → AreSteps xs → AreSteps ys → AreSteps (xs ++ ys)
both_are [] ys h k = k
both_are (x ∷ xs) ys h k = (h.0, h.1, h.2, both_are xs ys h.3 k)

-- each partition is settled, and names lead to numbers of partitions
record AreSettled (w : WorldState) : Type 0 where
  pub each : EachIs (λ p me. IsSettled p me) w.privates
  pub names : NamesIn is_number w.store

turned_settled : (p n : ℕ) (o : Option Private) (w : WorldState) → private_of p w ≡ o → AreSettled w → AreSettled (with_turn p o n w)
turned_settled p n None w is h = h
turned_settled p n (Some me) w is h =
    let own = h.each p me is in
    record {
      each = each_row (λ p me. IsSettled p me) p (turn_of w.devices n me w.store).me w.privates (turn_settled w.devices p n me w.store own h.names) h.each;
      names = (turn_within w.devices is_number n me w.store own.homes h.names).1;
    }

names_at : (c : Option TerminalState) (t : ℕ) (f : TerminalState → TerminalState) (s : StoreState) → NamesIn is_number s → NamesIn is_number (with_terminal c t f s)
names_at None t f s names = names
names_at (Some x) t f s names = names

action_settled : (a : Action) (w : WorldState) → AreSettled w → AreSettled (does a w)
action_settled (Key t k) w h = record { each = h.each; names = names_at (content w.store (object.Terminal t)) t (keyed k) w.store h.names }
action_settled (Front t p) w h = record { each = h.each; names = names_at (content w.store (object.Terminal t)) t (λ x. record x { front = p }) w.store h.names }
action_settled (Halt p) w h = record { each = each_changed (λ p me. IsSettled p me) asked_to_halt halt_settled p (private_of p w) w.privates refl h.each; names = h.names }
action_settled (Reset p) w h = record { each = each_changed (λ p me. IsSettled p me) asked_to_reset reset_settled p (private_of p w) w.privates refl h.each; names = h.names }
action_settled (Turn p n) w h = turned_settled p n (private_of p w) w refl h

noted_are : (p n : ℕ) (o : Option Private) (w : WorldState) → private_of p w ≡ o → AreSettled w → AreSteps (noted_by w.devices p n o w.store)
noted_are p n None w is h = tt
noted_are p n (Some me) w is h = (turn_steps w.devices p n me w.store (h.each p me is) h.names).0

action_steps : (a : Action) (w : WorldState) → AreSettled w → AreSteps (steps_at a w)
action_steps (Key t k) w h = tt
action_steps (Front t p) w h = tt
action_steps (Halt p) w h = tt
action_steps (Reset p) w h = tt
action_steps (Turn p n) w h = noted_are p n (private_of p w) w refl h

all_steps : (acts : List Action) (w : WorldState) → AreSettled w → AreSteps (steps_along acts w)
all_steps [] w h = tt
all_steps (a ∷ rest) w h = both_are (steps_at a w) (steps_along rest (does a w)) (action_steps a w h) (all_steps rest (does a w) (action_settled a w h))

-- in the world of a boot no name leads to anyone
booted_settled : (b : BootState) (images : Images) → AreNumbered b.partitions → AreSettled (booted b images)
booted_settled b images are = record { each = starts_settled b.partitions are; names = λ n p leads. absurd (held_by_nobody p leads) }

pub who_is_clean : MarksSayWhoIsClean
who_is_clean b images log p are is_p =
    let w = booted b images in
    let steps = steps_of log w in
    let said = marks_say_clean steps p (all_steps (all_actions (quotas_of b) log) w (booted_settled b images are)) is_p in
    subst (λ (m : Marks). (is_clean p m ≡ true) ↔ IsClean (just p) steps) (sym (runs_mark log w)) said

pub clean_as_alone : CleanOnesAreAsAlone
clean_as_alone b images log p are is_p clean = (as_alone (just p) b images log ((who_is_clean b images log p are is_p).0 clean)).0 p (same_as_itself p)
