use Rattle.std.proofs.Common.{ltb, ltb-true, ltb-false, ◌≤◌, ℕ, List, length, sym, subst, nat_cmp, arith, rules}
use Rattle.std.specs.List.Sorted.{IsStrictlySortedBy}
use Rattle.std.proofs.lemmas.List.Sorted.{IsPartitionPoint-from_clause, IsPartitionedBy-ltb}
use Rattle.std.proofs.lemmas.Map.Keys.{non_decreasing_from_sorted}
use Rattle.b2_text.specs.Members.{IsRankOf}
use Rattle.b2_text.proofs.members.rank.Goals as goal

pub returns : goal.returns
returns c =
    let ns = c.deref.result.now in
    let same = c.deref.ensures.value in
    let ordered = subst (IsStrictlySortedBy nat_cmp) (sym same) c.requires in
    let parted = IsPartitionedBy-ltb (λ (m : ℕ). m) ns c.args.n (non_decreasing_from_sorted ns ordered) in
    let point = IsPartitionPoint-from_clause (λ (m : ℕ). ltb m c.args.n) ns c.partition_point.result c.partition_point.ensures.partitioned parted (λ a r q k. search rules) in
    let bound : c.partition_point.result ≤ length ns = c.partition_point.ensures.bound in
    subst (λ (ms : List ℕ). IsRankOf c.args.n ms c.partition_point.result) same (record {
      within = bound;
      less = λ k h. ltb-true _ _ (point.0 k 0 (omega arith) h);
      rest = λ k h w. ltb-false _ _ (point.1 k 0 h w);
    })
