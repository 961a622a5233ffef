-- In place of a round each partition that is there has one turn, with its quota.
use Rattle.std.proofs.Common.{◌≡◌, ℕ, zero, suc, ◌+◌, ◌≤◌, ◌<◌, ◌==◌, ◌&&◌, Bool, true, false, List, [], ◌∷◌, ◌++◌, refl, sym, ap, subst, ◌∙◌, arith}
use Rattle.std.proofs.lemmas.Bool.Decides.{nat_tests}
use Rattle.b2_boot.specs.Alone.{has_number, kept_if, own_rounds, own_turns}
use Rattle.b2_boot.specs.Boots.{BootState}
use Rattle.b2_boot.specs.Laws.{PartsHaveEachRound, one_where, turns_among}
use Rattle.b2_boot.specs.Quotas.{quota_at, quotas_of}
use Rattle.b2_boot.specs.declared.log.Event.{Event}
use Rattle.b2_boot.specs.declared.log.Event.TheVariants as event

itself : (n : ℕ) → (n == n) ≡ true
itself n = grind (arith, nat_tests)

among_both : (p steps : ℕ) (xs ys : List Event) → turns_among p steps (xs ++ ys) ≡ turns_among p steps xs + turns_among p steps ys
among_both p steps [] ys = omega arith
among_both p steps (x ∷ xs) ys = let rest = among_both p steps xs ys in omega arith

module _ (b : BootState) (p : ℕ) where
  abbrev count : List Event → ℕ
  count es = turns_among p (quota_at p (quotas_of b)) es

  abbrev turn_of : ℕ → Event
  turn_of q = event.Turn q (quota_at q (quotas_of b))

  abbrev turn_kept : ℕ → List Event
  turn_kept q = kept_if (has_number b.partitions q) (turn_of q)

  of_another : (q : ℕ) (there : Bool) → (q == p) ≡ false → count (kept_if there (turn_of q)) ≡ 0
  of_another q true differs = ap (λ (same : Bool). one_where (same && (quota_at q (quotas_of b) == quota_at p (quotas_of b))) + 0) differs
  of_another q false differs = refl

  of_itself : has_number b.partitions p ≡ true → count (turn_kept p) ≡ 1
  of_itself there =
      ap (λ (here : Bool). count (kept_if here (turn_of p))) there
      ∙ ap (λ (same : Bool). one_where (same && (quota_at p (quotas_of b) == quota_at p (quotas_of b))) + 0) (itself p)
      ∙ ap (λ (same : Bool). one_where same + 0) (itself (quota_at p (quotas_of b)))

  none_after : (n a : ℕ) → p < a → count (own_turns b a n) ≡ 0
  none_after zero a above = refl
  none_after (suc n) a above =
      let differs : (a == p) ≡ false = grind (arith, nat_tests) in
      let here = of_another a (has_number b.partitions a) differs in
      let later = none_after n (a + 1) (omega arith) in
      among_both p (quota_at p (quotas_of b)) (turn_kept a) (own_turns b (a + 1) n) ∙ (λ i. here i + later i)

  one_among : (n a : ℕ) → a ≤ p → p < a + n → has_number b.partitions p ≡ true → count (own_turns b a n) ≡ 1
  one_among zero a low high there = absurd (omega arith)
  one_among (suc n) a low high there = by (a == p) refl (λ further. one_among n (a + 1) further (omega arith) there)
    where
      by : (same : Bool) → (a == p) ≡ same → (a + 1 ≤ p → count (own_turns b (a + 1) n) ≡ 1) → count (own_turns b a (suc n)) ≡ 1
      by true is after =
          let same : a ≡ p = grind (arith, nat_tests) in
          let here : count (turn_kept a) ≡ 1 = subst (λ (q : ℕ). count (turn_kept q) ≡ 1) (sym same) (of_itself there) in
          let later = none_after n (a + 1) (omega arith) in
          among_both p (quota_at p (quotas_of b)) (turn_kept a) (own_turns b (a + 1) n) ∙ (λ i. here i + later i)
      by false is after =
          let further : a + 1 ≤ p = grind (arith, nat_tests) in
          let here = of_another a (has_number b.partitions a) is in
          let later = after further in
          among_both p (quota_at p (quotas_of b)) (turn_kept a) (own_turns b (a + 1) n) ∙ (λ i. here i + later i)

  each_round : (n : ℕ) → 1 ≤ p → p ≤ 16 → has_number b.partitions p ≡ true → count (own_rounds b n) ≡ n
  each_round zero low high there = refl
  each_round (suc n) low high there =
      let first = one_among 16 1 low (omega arith) there in
      let later = each_round n low high there in
      among_both p (quota_at p (quotas_of b)) (own_turns b 1 16) (own_rounds b n) ∙ (λ i. first i + later i) ∙ omega arith

pub parts_have_each_round : PartsHaveEachRound
parts_have_each_round b p n low high there = each_round b p n low high there
