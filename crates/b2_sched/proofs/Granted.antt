-- A turn counts at most its quota of steps, and all of its steps or all but its last; a run counts no more than its log grants.
use Rattle.std.specs.Prelude.{◌≡◌, ℕ, zero, suc, ◌+◌, ◌*◌, ◌<◌, ◌≤◌, ◌==◌, Bool, true, false, List, [], ◌∷◌, length, map, Option, Some, None, is_some, unwrap_or, refl, if◌then◌else◌}
use Rattle.std.proofs.Common.{sym, ap, subst, ◌∙◌, arith}
use Rattle.std.proofs.Math.Nat.{mul-le-mul_left}
use Rattle.b2_boot.specs.Boots.{BootState}
use Rattle.b2_boot.specs.Logs.{grants, granted_by}
use Rattle.b2_boot.specs.Quotas.{quota_at, quota_row, quotas_of, steps_of_round}
use Rattle.b2_boot.specs.declared.boot.BootPartition.{BootPartition}
use Rattle.b2_boot.specs.declared.log.Event.{Event}
use Rattle.b2_boot.specs.declared.log.Event.TheVariants as event
use Rattle.b2_access.specs.Loans.{lends}
use Rattle.b2_access.specs.Rows.{row_of}
use Rattle.b2_access.specs.Serving.{itself}
use Rattle.b2_store.specs.DiskWork.{serves}
use Rattle.b2_access.specs.Store.{StoreState}
use Rattle.b2_access.specs.declared.devices.Device.{Device}
use Rattle.b2_access.specs.declared.private.Private.{Private}
use Rattle.b2_audit.specs.Steps.{Step}
use Rattle.b2_machine.specs.Turn.{TurnEnd, counted_on, ended_turn, passed_one, passes_none, passes_turn, turn_from, unless_ended}
use Rattle.b2_machine.specs.declared.ends.Why.{Why}
use Rattle.b2_machine.proofs.Counted.{steps_count_or_end}
use Rattle.b2_machine.specs.declared.ends.Why.TheVariants as reason
use Rattle.b2_machine.proofs.PassedTurns.{each_turn}
use Rattle.b2_sched.specs.Choice.{basic}
use Rattle.b2_sched.proofs.Folds.{does_append, all_keep_quotas}
use Rattle.b2_sched.proofs.Lasting.{all_there, does_there}
use Rattle.b2_sched.proofs.Numbers.{same_number}
use Rattle.b2_sched.specs.Laws.{RunsKeepToTheirGrant, TurnsCountAllButOne}
use Rattle.b2_sched.specs.Start.{Images, booted, private_row}
use Rattle.b2_sched.specs.Turns.{step_of, step_noted, steps_from, steps_in_turn, turn_of}
use Rattle.b2_sched.specs.World.{WorldState, Turn, private_of, with_turn, actions, does, does_all, happens, ran, rounds, turns_from}

-- a turn by its next step
counted_few : (b : Bool) (k : ℕ) → (if b then k + 1 else k) ≤ k + 1
counted_few true k = omega arith
counted_few false k = omega arith

few_by : (o : Option Why) (c n k : ℕ) (me : Private) (s : StoreState) (t : TurnEnd StoreState) → c ≤ k + 1 → t.turned.steps ≤ c + n
    → (unless_ended {A = TurnEnd StoreState} o (λ w. ended_turn c w me s) t).turned.steps ≤ k + suc n
few_by None c n k me s t h few = omega arith
few_by (Some w) c n k me s t h few = omega arith

none_few : (n : ℕ) → 0 ≤ n
none_few n = omega arith

none_before : (n k : ℕ) → k ≤ 0 + n → k ≤ n
none_before n k h = omega arith

module _ (devices : List Device) where
  few_from : (n : ℕ) (me : Private) (s : StoreState) (k : ℕ) → (turn_from (basic devices) itself serves lends n me s k).turned.steps ≤ k + n
  unfolding turn_from
  few_from zero me s k = omega arith
  few_from (suc n) me s k =
      let x = step_of devices me s in
      let c = counted_on k x.end in
      few_by x.end.why c n k x.me x.after (turn_from (basic devices) itself serves lends n x.me x.after c) (counted_few x.end.counted k) (few_from n x.me x.after c)

  turn_few : (quota : ℕ) (me : Private) (s : StoreState) → (turn_of devices quota me s).turned.steps ≤ quota
  turn_few quota me s =
      let few = few_from quota (passes_none me) s 0 in
      each_turn (basic devices) itself serves lends (λ (t : TurnEnd StoreState). t.turned.steps ≤ quota) quota me s (none_few quota) (none_before quota (turn_from (basic devices) itself serves lends quota (passes_none me) s 0).turned.steps few)

-- all of its steps, or all but the last
more_by : (o : Option Why) (b : Bool) (told : Step) (rest : List Step) (k : ℕ) (me : Private) (s : StoreState) (t : TurnEnd StoreState)
    → (b ≡ false → is_some o ≡ true) → length rest + (if b then k + 1 else k) ≤ t.turned.steps + 1
    → length (told ∷ unless_ended o (λ w. []) rest) + k ≤ (unless_ended {A = TurnEnd StoreState} o (λ w. ended_turn (if b then k + 1 else k) w me s) t).turned.steps + 1
more_by None true told rest k me s t ends h = omega arith
more_by None false told rest k me s t ends h = let never : false ≡ true = ends refl in cc
more_by (Some w) true told rest k me s t ends h = omega arith
more_by (Some w) false told rest k me s t ends h = omega arith

module _ (devices : List Device) where
  more_from : (who n : ℕ) (me : Private) (s : StoreState) (k : ℕ) → length (steps_from devices who n me s) + k ≤ (turn_from (basic devices) itself serves lends n me s k).turned.steps + 1
  unfolding steps_from turn_from
  more_from who zero me s k = omega arith
  more_from who (suc n) me s k =
      let x = step_of devices me s in
      let c = counted_on k x.end in
      more_by x.end.why x.end.counted (step_noted devices who me s) (steps_from devices who n x.me x.after) k x.me x.after (turn_from (basic devices) itself serves lends n x.me x.after c)
      (steps_count_or_end (basic devices) itself serves lends me s) (more_from who n x.me x.after c)

no_more : (n : ℕ) → n + 0 ≡ n
no_more n = omega arith

pub turns_count_all_but_one : TurnsCountAllButOne
turns_count_all_but_one devices who quota me s = by (passes_turn me)
  where
    by : (b : Bool) → length (if b then [] else steps_from devices who quota (passes_none me) s)
        ≤ (if b then ended_turn 0 reason.Break (passed_one me) s else turn_from (basic devices) itself serves lends quota (passes_none me) s 0).turned.steps + 1
    by true = none_few 1
    by false =
        subst (λ n. n ≤ (turn_from (basic devices) itself serves lends quota (passes_none me) s 0).turned.steps + 1) (no_more (length (steps_from devices who quota (passes_none me) s)))
        (more_from devices who quota (passes_none me) s 0)

-- turns, rounds and events of a world
turned_few : (p n : ℕ) (m : Option Private) (w : WorldState) → (with_turn p m n w).steps ≤ w.steps + (if is_some m then 1 else 0) * n
turned_few p n None w = omega arith
turned_few p n (Some me) w = let few = turn_few w.devices n me w.store in omega arith

rounds_and_more : (n grant before between after all : ℕ) → between ≤ before + grant → after ≤ between + n * grant → all ≡ after → all ≤ before + suc n * grant
rounds_and_more n grant before between after all one more whole = omega arith

both_few : (a b c d : ℕ) → a ≤ b → c ≤ d → a + c ≤ b + d
both_few a b c d f g = omega arith

-- what a round grants those that are present among some numbers
granted_from : List (ℕ × ℕ) → ℕ → ℕ → WorldState → ℕ
granted_from quotas p zero w = 0
granted_from quotas p (suc k) w = (if is_some (private_of p w) then 1 else 0) * quota_at p quotas + granted_from quotas (p + 1) k w

-- whoever is present stays so
granted_there : (quotas : List (ℕ × ℕ)) (p k : ℕ) (v w : WorldState) → ((q : ℕ) → is_some (private_of q v) ≡ is_some (private_of q w)) → granted_from quotas p k v ≡ granted_from quotas p k w
unfolding granted_from
granted_there quotas p zero v w same = refl
granted_there quotas p (suc k) v w same = rw (same p, granted_there quotas (p + 1) k v w same) refl

one_and_more : (one x y z rest : ℕ) → x ≤ y + one → z ≤ x + rest → z ≤ y + (one + rest)
one_and_more one x y z rest f g = omega arith

from_few : (quotas : List (ℕ × ℕ)) (p k : ℕ) (w : WorldState) → (does_all (turns_from quotas p k) w).steps ≤ w.steps + granted_from quotas p k w
unfolding granted_from
from_few quotas p zero w = omega arith
from_few quotas p (suc k) w =
    let quota = quota_at p quotas in
    let after = does (Turn p quota) w in
    let one = turned_few p quota (private_of p w) w in
    let same : granted_from quotas (p + 1) k after ≡ granted_from quotas (p + 1) k w = granted_there quotas (p + 1) k after w (λ q. does_there q (Turn p quota) w) in
    let more : (does_all (turns_from quotas (p + 1) k) after).steps ≤ after.steps + granted_from quotas (p + 1) k w =
    subst (λ n. (does_all (turns_from quotas (p + 1) k) after).steps ≤ after.steps + n) same (from_few quotas (p + 1) k after) in
    one_and_more ((if is_some (private_of p w) then 1 else 0) * quota) after.steps w.steps (does_all (turns_from quotas (p + 1) k) after).steps (granted_from quotas (p + 1) k w) one more

rounds_few : (quotas : List (ℕ × ℕ)) (n : ℕ) (w : WorldState) → (does_all (rounds quotas n) w).steps ≤ w.steps + n * granted_from quotas 1 16 w
rounds_few quotas zero w = omega arith
rounds_few quotas (suc n) w =
    let round = turns_from quotas 1 16 in
    let after = does_all round w in
    let one : after.steps ≤ w.steps + granted_from quotas 1 16 w = from_few quotas 1 16 w in
    let same : granted_from quotas 1 16 after ≡ granted_from quotas 1 16 w = granted_there quotas 1 16 after w (λ q. all_there q round w) in
    let more : (does_all (rounds quotas n) after).steps ≤ after.steps + n * granted_from quotas 1 16 w =
    subst (λ k. (does_all (rounds quotas n) after).steps ≤ after.steps + n * k) same (rounds_few quotas n after) in
    let whole : (does_all (rounds quotas (suc n)) w).steps ≡ (does_all (rounds quotas n) after).steps = ap (λ (v : WorldState). v.steps) (does_append round (rounds quotas n) w) in
    rounds_and_more n (granted_from quotas 1 16 w) w.steps after.steps (does_all (rounds quotas n) after).steps (does_all (rounds quotas (suc n)) w).steps one more whole

-- no more is listed for some numbers than for all
or_none : Option ℕ → ℕ
or_none None = 0
or_none (Some q) = q

one_of : (k q p n : ℕ) → ℕ
one_of k q p zero = 0
one_of k q p (suc n) = (if k == p then q else 0) + one_of k q (p + 1) n

listed : List (ℕ × ℕ) → ℕ → ℕ → ℕ
listed quotas p zero = 0
listed quotas p (suc n) = or_none (row_of p quotas) + listed quotas (p + 1) n

none_here : (k q p rest : ℕ) (b : Bool) → (k == p) ≡ b → k < p → rest ≡ 0 → (if b then q else 0) + rest ≡ 0
none_here k q p rest true e h none = let same : k ≡ p = same_number k p e in omega arith
none_here k q p rest false e h none = omega arith

none_below : (k q p n : ℕ) → k < p → one_of k q p n ≡ 0
unfolding one_of
none_below k q p zero h = refl
none_below k q p (suc n) h = none_here k q p (one_of k q (p + 1) n) (k == p) refl h (none_below k q (p + 1) n (omega arith))

one_here : (k q p rest : ℕ) (b : Bool) → (k == p) ≡ b → (k < p + 1 → rest ≡ 0) → rest ≤ q → (if b then q else 0) + rest ≤ q
one_here k q p rest true e none few = let same : k ≡ p = same_number k p e in let nothing : rest ≡ 0 = none (omega arith) in omega arith
one_here k q p rest false e none few = omega arith

one_at_most : (k q p n : ℕ) → one_of k q p n ≤ q
unfolding one_of
one_at_most k q p zero = omega arith
one_at_most k q p (suc n) = one_here k q p (one_of k q (p + 1) n) (k == p) refl (λ h. none_below k q (p + 1) n h) (one_at_most k q (p + 1) n)

first_or_rest : (b : Bool) (q : ℕ) (o : Option ℕ) → or_none (if b then Some q else o) ≤ (if b then q else 0) + or_none o
unfolding or_none
first_or_rest true q None = omega arith
first_or_rest true q (Some r) = omega arith
first_or_rest false q None = omega arith
first_or_rest false q (Some r) = omega arith

listed_more : (k q : ℕ) (quotas : List (ℕ × ℕ)) (p n : ℕ) → listed ((k, q) ∷ quotas) p n ≤ one_of k q p n + listed quotas p n
unfolding listed one_of
listed_more k q quotas p zero = omega arith
listed_more k q quotas p (suc n) =
    let here = first_or_rest (k == p) q (row_of p quotas) in
    let there = listed_more k q quotas (p + 1) n in
    omega arith

listed_none : (p n : ℕ) → listed [] p n ≡ 0
unfolding listed or_none
listed_none p zero = refl
listed_none p (suc n) = let rest = listed_none (p + 1) n in omega arith

listed_few : (quotas : List (ℕ × ℕ)) (p n : ℕ) → listed quotas p n ≤ steps_of_round quotas
listed_few [] p n = let none = listed_none p n in omega arith
listed_few ((k, q) ∷ quotas) p n =
    let more = listed_more k q quotas p n in
    let one = one_at_most k q p n in
    let rest = listed_few quotas p n in
    omega arith

-- in the world of a boot each partition that is present has its quota listed
one_quota : (b : Bool) (o : Option ℕ) → b ≡ is_some o → (if b then 1 else 0) * unwrap_or o 1 ≤ or_none o
unfolding or_none
one_quota true (Some q) is = omega arith
one_quota false (Some q) is = omega arith
one_quota false None is = omega arith
one_quota true None is = cc

both_listed : (quota p : ℕ) (ps : List BootPartition) → is_some (row_of p (map private_row ps)) ≡ is_some (row_of p (map (quota_row quota) ps))
both_listed quota p [] = refl
both_listed quota p (x ∷ xs) = by (x.number == p) (both_listed quota p xs)
  where
    by : (b : Bool) → is_some (row_of p (map private_row xs)) ≡ is_some (row_of p (map (quota_row quota) xs))
        → is_some (if b then Some (private_row x).1 else row_of p (map private_row xs)) ≡ is_some (if b then Some (quota_row quota x).1 else row_of p (map (quota_row quota) xs))
    by true later = refl
    by false later = later

booted_granted : (b : BootState) (images : Images) (p n : ℕ) → granted_from (quotas_of b) p n (booted b images) ≤ listed (quotas_of b) p n
unfolding granted_from listed
booted_granted b images p zero = omega arith
booted_granted b images p (suc n) =
    let here = one_quota (is_some (private_of p (booted b images))) (row_of p (quotas_of b)) (both_listed b.quota p b.partitions) in
    both_few _ _ _ _ here (booted_granted b images (p + 1) n)

-- an event, and a run
stays_few : (n : ℕ) → n ≤ n + 0
stays_few n = omega arith

then_few : (x y a b : ℕ) → x ≤ y + a → a ≤ b → x ≤ y + b
then_few x y a b f g = omega arith

both_at_most : (a b c : ℕ) → a ≤ b → b ≤ c → a ≤ c
both_at_most a b c f g = omega arith

once_few : (c : Bool) (n x y : ℕ) → x ≤ y + (if c then 1 else 0) * n → x ≤ y + n
once_few true n x y h = omega arith
once_few false n x y h = omega arith

event_few : (b : BootState) (e : Event) (w : WorldState) → w.quotas ≡ quotas_of b → granted_from (quotas_of b) 1 16 w ≤ steps_of_round (quotas_of b) → (happens e w).steps ≤ w.steps + grants b e
event_few b (event.Key t k) w is few = stays_few w.steps
event_few b (event.Front t p) w is few = stays_few w.steps
event_few b (event.Halt p) w is few = stays_few w.steps
event_few b (event.Reset p) w is few = stays_few w.steps
event_few b (event.Turn p n) w is few = once_few (is_some (private_of p w)) n _ w.steps (turned_few p n (private_of p w) w)
event_few b (event.Rounds n) w is few =
    let all = subst (λ (quotas : List (ℕ × ℕ)). (does_all (rounds w.quotas n) w).steps ≤ w.steps + n * granted_from quotas 1 16 w) is (rounds_few w.quotas n w) in
    let whole : n * granted_from (quotas_of b) 1 16 w ≤ n * steps_of_round (quotas_of b) = mul-le-mul_left n few in
    then_few (does_all (rounds w.quotas n) w).steps w.steps (n * granted_from (quotas_of b) 1 16 w) (n * steps_of_round (quotas_of b)) all whole

run_few : (b : BootState) (es : List Event) (w : WorldState) → w.quotas ≡ quotas_of b → granted_from (quotas_of b) 1 16 w ≤ steps_of_round (quotas_of b) → (ran es w).steps ≤ w.steps + granted_by b es
run_few b [] w is few = stays_few w.steps
run_few b (e ∷ es) w is few =
    let after = happens e w in
    let one = event_few b e w is few in
    let still : after.quotas ≡ quotas_of b = all_keep_quotas (actions w.quotas e) w ∙ is in
    let same : granted_from (quotas_of b) 1 16 after ≡ granted_from (quotas_of b) 1 16 w = granted_there (quotas_of b) 1 16 after w (λ q. all_there q (actions w.quotas e) w) in
    let more = run_few b es after still (subst (λ n. n ≤ steps_of_round (quotas_of b)) (sym same) few) in
    one_and_more (grants b e) after.steps w.steps (ran es after).steps (granted_by b es) one more

pub runs_keep_to_their_grant : RunsKeepToTheirGrant
runs_keep_to_their_grant b images log =
    let some = booted_granted b images 1 16 in
    let most = listed_few (quotas_of b) 1 16 in
    let all = run_few b log (booted b images) refl (both_at_most (granted_from (quotas_of b) 1 16 (booted b images)) (listed (quotas_of b) 1 16) (steps_of_round (quotas_of b)) some most) in
    none_before (granted_by b log) (ran log (booted b images)).steps all
