use Rattle.std.proofs.Common.{◌≡◌, ◌+◌, ◌-◌, ◌%◌, ◌++◌, ℕ, List, length, min, take, drop, ap, sym, ◌∙◌, arith}
use Rattle.b2_matalpha.specs.Locators.{received}
use Rattle.b2_matalpha.proofs.Receiving.{goes_on}
use Rattle.b2_matalpha.proofs.SearchPlaces.{found_from, found_if, none_if, next_at}
use Rattle.b2_matalpha.proofs.searching.search.Goals.{then-stands_at, else-stands_at}
use Rattle.b2_matalpha.proofs.searching.search.Goals as goal

pub loop-index-preserved : goal.loop-index-preserved
loop-index-preserved c =
    let index = c.loop-index.index in
    let next = index + c.min-index.result in
    let low = c.loop-index-test.true in
    let at : index % c.args.step ≡ 0 = c.loop-index.invariant.at low in
    let is : next ≡ index + min c.args.step (length c.args.of.now - index) = ap (λ (n : ℕ). index + n) c.min-index.ensures in
    elim c.if-stands_at.branch [
      | then-stands_at w ↦
          rw (w.used-is, w.into-is) (record {
            within = let len = w.put_locator-used.auto.into in omega (arith, w.put_locator-used.ensures.within);
            inside = omega (arith, is, low);
            at = next_at c.args.of.now c.args.step index next at is;
            whole = goes_on (index + 1) (found_from c.args.of.now c.args.rel c.args.want.now c.args.step next) c.loop-index.into w.put_locator-used.new.into c.loop-index.used w.put_locator-used.result
                c.loop-index.invariant.within w.put_locator-used.ensures.after w.put_locator-used.ensures.next
                ∙ ap (λ (l : List ℕ). take c.loop-index.used c.loop-index.into ++ received l (drop c.loop-index.used c.loop-index.into))
                (sym (found_if c.args.of.now c.args.rel c.args.want.now c.args.step index next c.requires.step at low is (sym c.stands_at.ensures ∙ w.if-stands_at.true)))
                ∙ c.loop-index.invariant.whole;
          })
      | else-stands_at w ↦
          rw (w.used-is, w.into-is) (record {
            within = c.loop-index.invariant.within;
            inside = omega (arith, is, low);
            at = next_at c.args.of.now c.args.step index next at is;
            whole = ap (λ (l : List ℕ). take c.loop-index.used c.loop-index.into ++ received l (drop c.loop-index.used c.loop-index.into))
                (sym (none_if c.args.of.now c.args.rel c.args.want.now c.args.step index next c.requires.step at low is (sym c.stands_at.ensures ∙ w.if-stands_at.false)))
                ∙ c.loop-index.invariant.whole;
          })
    ]
