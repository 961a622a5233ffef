use Rattle.std.proofs.Common.{◌≡◌, ℕ, ◌+◌, ◌-◌, ◌^◌, ◌<◌, ◌≤◌, List, ◌∷◌, length, map, min, drop, get_or, unwrap_or, sym, ap, ◌∙◌, drop-cons, add-one, arith}
use Rattle.std.proofs.lemmas.List.{drop_all}
use Rattle.b2_boot.specs.Quotas.{quota_row, steps_of_round}
use Rattle.b2_boot.specs.declared.boot.BootPartition.{BootPartition}
use Rattle.b2_boot.proofs.log.steps_granted.Goals as goal

-- with the quota of one more
granted_more : (quota : ℕ) (ps : List BootPartition) (i : ℕ) (p : BootPartition) (steps grown all : ℕ) → i < length ps → p ≡ get_or ps i p → grown ≡ min (steps + unwrap_or p.quota quota) (2 ^ 64 - 1)
    → min (steps + steps_of_round (map (quota_row quota) (drop i ps))) (2 ^ 64 - 1) ≡ all → min (grown + steps_of_round (map (quota_row quota) (drop (i + 1) ps))) (2 ^ 64 - 1) ≡ all
granted_more quota ps i p steps grown all within here more before =
    let next : drop i ps ≡ p ∷ drop (i + 1) ps = rw (add-one i) (drop-cons ps i p within) ∙ ap (λ z. z ∷ drop (i + 1) ps) (sym here) in
    let split = ap (λ qs. min (steps + steps_of_round (map (quota_row quota) qs)) (2 ^ 64 - 1)) next in
    omega (arith, more, before, split)

-- where none is left that is all
granted_all : (quota : ℕ) (ps : List BootPartition) (i : ℕ) (steps all : ℕ) → length ps ≤ i → steps ≤ 2 ^ 64 - 1
    → min (steps + steps_of_round (map (quota_row quota) (drop i ps))) (2 ^ 64 - 1) ≡ all → steps ≡ all
granted_all quota ps i steps all none few before =
    let split = ap (λ qs. min (steps + steps_of_round (map (quota_row quota) qs)) (2 ^ 64 - 1)) (drop_all i ps none) in
    omega (arith, few, before, split)

within : (n grown : ℕ) → grown ≡ min n (2 ^ 64 - 1) → grown ≤ 2 ^ 64 - 1
within n grown is = omega (arith, is)

pub loop-partition-init : goal.loop-partition-init
loop-partition-init c = record { rest = omega arith; few = omega arith }

pub loop-partition-preserved : goal.loop-partition-preserved
loop-partition-preserved c =
    let grown = c.saturating_add-steps.ensures ∙ ap (λ (n : ℕ). min (c.loop-partition.steps + n) (2 ^ 64 - 1)) (c.from.ensures ∙ c.quota_or.ensures.value) in
    record {
      rest = granted_more c.args.quota c.args.partitions.now c.loop-partition.partition-index c.partition-item.result c.loop-partition.steps _ _ c.loop-partition-test.true c.partition-item.is grown c.loop-partition.invariant.rest;
      few = within _ _ grown;
    }

pub returns : goal.returns
returns c = granted_all c.args.quota c.args.partitions.now c.loop-partition.partition-index c.loop-partition.steps _ c.loop-partition-test.false c.loop-partition.invariant.few c.loop-partition.invariant.rest
