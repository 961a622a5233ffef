-- Actions one after the other, along the numbers of a round, along rounds, and along the events of a log.
use Rattle.std.specs.Prelude.{◌≡◌, ℕ, zero, suc, ◌+◌, ◌-◌, ◌<◌, ◌≤◌, List, [], ◌∷◌, ◌++◌, drop, length, get_or, refl}
use Rattle.std.proofs.Common.{sym, ap, ◌∙◌, arith, add-one, drop-cons}
use Rattle.b2_boot.specs.Quotas.{quota_at}
use Rattle.b2_boot.specs.declared.log.Event.{Event}
use Rattle.b2_sched.specs.World.{WorldState, Action, Turn, Key, Front, Halt, Reset, does, does_all, with_turn, private_of, turns_from, rounds, happens, ran}
use Rattle.b2_access.specs.declared.private.Private.{Private}
use Rattle.std.specs.Prelude.{Option, Some, None}

pub does_append : (xs ys : List Action) (w : WorldState) → does_all (xs ++ ys) w ≡ does_all ys (does_all xs w)
does_append [] ys w = refl
does_append (x ∷ xs) ys w = does_append xs ys (does x w)

-- the quotas of a round stay
turned_quotas : (p n : ℕ) (m : Option Private) (w : WorldState) → (with_turn p m n w).quotas ≡ w.quotas
turned_quotas p n None w = refl
turned_quotas p n (Some me) w = refl

pub keeps_quotas : (a : Action) (w : WorldState) → (does a w).quotas ≡ w.quotas
keeps_quotas (Key t k) w = refl
keeps_quotas (Front t p) w = refl
keeps_quotas (Halt p) w = refl
keeps_quotas (Reset p) w = refl
keeps_quotas (Turn p n) w = turned_quotas p n (private_of p w) w

pub all_keep_quotas : (xs : List Action) (w : WorldState) → (does_all xs w).quotas ≡ w.quotas
all_keep_quotas [] w = refl
all_keep_quotas (x ∷ xs) w = all_keep_quotas xs (does x w) ∙ keeps_quotas x w

-- and so do the devices that there are
turned_devices : (p n : ℕ) (m : Option Private) (w : WorldState) → (with_turn p m n w).devices ≡ w.devices
turned_devices p n None w = refl
turned_devices p n (Some me) w = refl

pub keeps_devices : (a : Action) (w : WorldState) → (does a w).devices ≡ w.devices
keeps_devices (Key t k) w = refl
keeps_devices (Front t p) w = refl
keeps_devices (Halt p) w = refl
keeps_devices (Reset p) w = refl
keeps_devices (Turn p n) w = turned_devices p n (private_of p w) w

pub all_keep_devices : (xs : List Action) (w : WorldState) → (does_all xs w).devices ≡ w.devices
all_keep_devices [] w = refl
all_keep_devices (x ∷ xs) w = all_keep_devices xs (does x w) ∙ keeps_devices x w

-- along a round
pub turn_first : (quotas : List (ℕ × ℕ)) (p : ℕ) (w : WorldState) → p < 17 → does_all (turns_from quotas (p + 1) (17 - (p + 1))) (does (Turn p (quota_at p quotas)) w) ≡ does_all (turns_from quotas p (17 - p)) w
turn_first quotas p w below = let left : suc (17 - (p + 1)) ≡ 17 - p = omega arith in ap (λ n. does_all (turns_from quotas p n) w) left

pub no_turns : (quotas : List (ℕ × ℕ)) (p : ℕ) (w : WorldState) → 17 ≤ p → w ≡ does_all (turns_from quotas p (17 - p)) w
no_turns quotas p w past = let left : zero ≡ 17 - p = omega arith in ap (λ n. does_all (turns_from quotas p n) w) left

-- along rounds
pub round_first : (quotas : List (ℕ × ℕ)) (n i : ℕ) (w : WorldState) → i < n → does_all (rounds quotas (n - (i + 1))) (does_all (turns_from quotas 1 16) w) ≡ does_all (rounds quotas (n - i)) w
round_first quotas n i w below =
    let left : suc (n - (i + 1)) ≡ n - i = omega arith in
    sym (does_append (turns_from quotas 1 16) (rounds quotas (n - (i + 1))) w) ∙ ap (λ k. does_all (rounds quotas k) w) left

pub no_rounds : (quotas : List (ℕ × ℕ)) (n i : ℕ) (w : WorldState) → n ≤ i → w ≡ does_all (rounds quotas (n - i)) w
no_rounds quotas n i w past = let left : zero ≡ n - i = omega arith in ap (λ k. does_all (rounds quotas k) w) left

-- along events
pub event_first : (i : ℕ) (events : List Event) (d : Event) (w : WorldState) → i < length events → ran (drop (i + 1) events) (happens (get_or events i d) w) ≡ ran (drop i events) w
event_first i events d w below =
    let split : drop i events ≡ get_or events i d ∷ drop (i + 1) events = rw (add-one, drop-cons events i d) in
    ap (λ es. ran es w) (sym split)
