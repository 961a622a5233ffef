-- The laws of a world.
use Rattle.std.specs.Prelude.{◌≡◌, ◌≢◌, ℕ, zero, suc, ◌+◌, ◌*◌, ◌^◌, ◌<◌, ◌==◌, Bool, true, false, List, [], ◌∷◌, Option, Some, None, is_some, option_map, refl, if◌then◌else◌}
use Rattle.std.proofs.Common.{sym, ap, subst, ◌∙◌, arith}
use Rattle.b2_boot.specs.Quotas.{quota_at}
use Rattle.b2_sched.proofs.Numbered.{numbered_same, numbered_other}
use Rattle.b2_access.specs.Rows.{row_of, with_row}
use Rattle.b2_access.specs.declared.private.Private.{Private}
use Rattle.b2_sched.proofs.Folds.{does_append, all_keep_quotas}
use Rattle.b2_sched.proofs.Numbers.{same_number, other_number}
use Rattle.b2_sched.specs.Laws.{all_actions, RunsByActions, LeavesOthers, KeepsPresent, present_from, present, CountsTurns, QuotasStay}
use Rattle.b2_sched.specs.Start.{booted}
use Rattle.b2_sched.specs.Turns.{turn_of}
use Rattle.b2_sched.specs.World.{WorldState, Action, Key, Front, Halt, Reset, Turn, private_of, tallied, row_changed, asked_to_halt, asked_to_reset, with_turn, actions, does, does_all, turns_from, rounds, happens}

-- a run is its actions
pub by_actions : RunsByActions
by_actions [] w = refl
by_actions (e ∷ es) w =
    by_actions es (happens e w)
    ∙ ap (λ k. does_all (all_actions k es) (happens e w)) (all_keep_quotas (actions w.quotas e) w)
    ∙ sym (does_append (actions w.quotas e) (all_actions w.quotas es) w)

-- the quotas of a boot stay through every run
pub quotas_stay : QuotasStay
quotas_stay b images log =
    let w = booted b images in
    ap (λ (v : WorldState). v.quotas) (by_actions log w) ∙ all_keep_quotas (all_actions w.quotas log) w

-- the others after a turn
turned_others : (p q n : ℕ) (m : Option Private) (w : WorldState) → q ≢ p → private_of q (with_turn p m n w) ≡ private_of q w
turned_others p q n None w apart = refl
turned_others p q n (Some me) w apart = numbered_other q p (turn_of w.devices n me w.store).me apart w.privates

pub leaves_others : LeavesOthers
leaves_others p q n w apart = turned_others p q n (private_of p w) w apart

-- who is present after another own state
some_there : (x : Private) (o : Option Private) → is_some (option_map (λ _. x) o) ≡ is_some o
some_there x None = refl
some_there x (Some y) = refl

row_there : (q p : ℕ) (x : Private) (rows : List (ℕ × Private)) → is_some (row_of q (with_row p rows x)) ≡ is_some (row_of q rows)
row_there q p x rows = by (q == p) refl
  where
    by : (b : Bool) → (q == p) ≡ b → is_some (row_of q (with_row p rows x)) ≡ is_some (row_of q rows)
    by true e =
        let same : p ≡ q = sym (same_number q p e) in
        subst (λ k. is_some (row_of k (with_row p rows x)) ≡ is_some (row_of k rows)) same (ap (λ (o : Option Private). is_some o) (numbered_same p x rows) ∙ some_there x (row_of p rows))
    by false e = ap (λ (o : Option Private). is_some o) (numbered_other q p x (other_number q p e) rows)

changed_there : (q p : ℕ) (f : Private → Private) (m : Option Private) (rows : List (ℕ × Private)) → is_some (row_of q (row_changed p m f rows)) ≡ is_some (row_of q rows)
changed_there q p f None rows = refl
changed_there q p f (Some me) rows = row_there q p (f me) rows

turned_there : (q p n : ℕ) (m : Option Private) (w : WorldState) → is_some (private_of q (with_turn p m n w)) ≡ is_some (private_of q w)
turned_there q p n None w = refl
turned_there q p n (Some me) w = row_there q p (turn_of w.devices n me w.store).me w.privates

pub does_there : (q : ℕ) (a : Action) (w : WorldState) → is_some (private_of q (does a w)) ≡ is_some (private_of q w)
does_there q (Key t k) w = refl
does_there q (Front t p) w = refl
does_there q (Halt p) w = changed_there q p asked_to_halt (private_of p w) w.privates
does_there q (Reset p) w = changed_there q p asked_to_reset (private_of p w) w.privates
does_there q (Turn p n) w = turned_there q p n (private_of p w) w

pub all_there : (q : ℕ) (xs : List Action) (w : WorldState) → is_some (private_of q (does_all xs w)) ≡ is_some (private_of q w)
all_there q [] w = refl
all_there q (x ∷ xs) w = all_there q xs (does x w) ∙ does_there q x w

pub same_present : KeepsPresent
same_present e w p = all_there p (actions w.quotas e) w

-- how many are present after a turn, and after a round
pub there_from : (p n : ℕ) (v w : WorldState) → ((q : ℕ) → is_some (private_of q v) ≡ is_some (private_of q w)) → present_from p n v ≡ present_from p n w
there_from p zero v w same = refl
there_from p (suc n) v w same = rw (same p, there_from (p + 1) n v w same) refl

-- counts of turns: of a turn, of a round from a number on, and of rounds
counted_twice : (a b c : ℕ) → tallied (tallied a b) c ≡ tallied a (b + c)
counted_twice a b c = omega arith

counted_fits : (a b : ℕ) → tallied a b < 2 ^ 64
counted_fits a b = omega arith

turn_counts : (p n : ℕ) (m : Option Private) (w : WorldState) → w.turns < 2 ^ 64 → (with_turn p m n w).turns ≡ tallied w.turns (if is_some m then 1 else 0)
turn_counts p n None w fits = omega arith
turn_counts p n (Some me) w fits = refl

from_counts : (quotas : List (ℕ × ℕ)) (p k : ℕ) (w : WorldState) → w.turns < 2 ^ 64 → (does_all (turns_from quotas p k) w).turns ≡ tallied w.turns (present_from p k w)
from_counts quotas p zero w fits = omega arith
from_counts quotas p (suc k) w fits =
    let quota = quota_at p quotas in
    let here = if is_some (private_of p w) then 1 else 0 in
    let one : (does (Turn p quota) w).turns ≡ tallied w.turns here = turn_counts p quota (private_of p w) w fits in
    let small : (does (Turn p quota) w).turns < 2 ^ 64 = subst (λ n. n < 2 ^ 64) (sym one) (counted_fits w.turns here) in
    from_counts quotas (p + 1) k (does (Turn p quota) w) small
    ∙ ap (λ n. tallied n (present_from (p + 1) k (does (Turn p quota) w))) one
    ∙ ap (tallied (tallied w.turns here)) (there_from (p + 1) k (does (Turn p quota) w) w (λ q. does_there q (Turn p quota) w))
    ∙ counted_twice w.turns here (present_from (p + 1) k w)

rounds_count : (quotas : List (ℕ × ℕ)) (n : ℕ) (w : WorldState) → w.turns < 2 ^ 64 → (does_all (rounds quotas n) w).turns ≡ tallied w.turns (n * present w)
rounds_count quotas zero w fits = omega arith
rounds_count quotas (suc n) w fits =
    let round = turns_from quotas 1 16 in
    let after = does_all round w in
    let one : after.turns ≡ tallied w.turns (present w) = from_counts quotas 1 16 w fits in
    let small : after.turns < 2 ^ 64 = subst (λ n. n < 2 ^ 64) (sym one) (counted_fits w.turns (present w)) in
    ap (λ (v : WorldState). v.turns) (does_append round (rounds quotas n) w)
    ∙ rounds_count quotas n after small
    ∙ ap (λ m. tallied m (n * present after)) one
    ∙ ap (λ k. tallied (tallied w.turns (present w)) (n * k)) (there_from 1 16 after w (λ q. all_there q round w))
    ∙ counted_twice w.turns (present w) (n * present w)
    ∙ ap (tallied w.turns) (omega arith)

pub counts_turns : CountsTurns
counts_turns n w fits = rounds_count w.quotas n w fits
