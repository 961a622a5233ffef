use Rattle.std.proofs.Common.{◌≡◌, ℕ, ◌+◌, ◌<◌, ◌≤◌, ◌∷◌, ◌∙◌, length, drop, refl, sym, ap, arith, length-drop}
use Rattle.b2_platter.specs.Own.{end_of, sectors_of}
use Rattle.b2_platter.specs.Edits.{put_from}
use Rattle.b2_record.specs.Writing.{record_of, sectors_left}
use Rattle.b2_record.proofs.Groups.{left-some}
use Rattle.b2_record.proofs.Placing.{put-next, drop-next, drop-all}
use Rattle.b2_raw.proofs.Spare.{own-end, own-good, own-total}
use Rattle.b2_raw.proofs.writing.put_record.Goals as goal

pub loop-k-init : goal.loop-k-init
loop-k-init c =
    let place : c.args.at + 0 ≡ c.args.at = omega arith in
    record {
      rest = ap (λ (n : ℕ). put_from c.args.p.now n (record_of c.args.values.now)) place;
      good = c.image-image.ensures.good;
      next = λ _. refl;
      short = c.requires.short;
      low = c.requires.low;
      high = c.requires.high;
    }

pub loop-k-preserved : goal.loop-k-preserved
loop-k-preserved c =
    let low : end_of c.loop-k.p ≤ c.args.at + c.loop-k.k = omega (arith, c.loop-k.invariant.low) in
    let high : c.args.at + c.loop-k.k < sectors_of c.loop-k.p = omega (arith, c.loop-k.invariant.high, c.loop-k-test.true) in
    let all = record_of c.args.values.now in
    let left = sectors_left (c.loop-k.k + 1 + 1) c.put_next-rest.result.now in
    let here : drop c.loop-k.k all ≡ c.put_next-rest.new.into ∷ left = sym (c.loop-k.invariant.next c.loop-k-test.true) ∙ c.put_next-rest.ensures.sectors in
    let after : drop (c.loop-k.k + 1) all ≡ left = drop-next c.loop-k.k all left c.put_next-rest.new.into here in
    let end = own-end c.loop-k.p c.loop-k.invariant.good (c.args.at + c.loop-k.k) low high c.put_next-rest.new.into c.put_next-rest.array_long in
    let total = own-total c.loop-k.p c.loop-k.invariant.good (c.args.at + c.loop-k.k) low high c.put_next-rest.new.into c.put_next-rest.array_long in
    record {
      rest = rw c.put_spare.ensures (put-next c.loop-k.p c.args.at c.loop-k.k all left c.put_next-rest.new.into here ∙ c.loop-k.invariant.rest);
      next = λ more. (
          let some : 1 ≤ length left = omega (arith, more, c.requires.count, ap length after, length-drop (c.loop-k.k + 1) all) in
          left-some (c.loop-k.k + 1 + 1) c.put_next-rest.result.now some ∙ sym after
          );
      short = c.put_next-rest.ensures.short;
      good = rw c.put_spare.ensures (own-good c.loop-k.p c.loop-k.invariant.good (c.args.at + c.loop-k.k) low high c.put_next-rest.new.into c.put_next-rest.array_long);
      low = rw c.put_spare.ensures (omega (arith, end, c.loop-k.invariant.low));
      high = rw c.put_spare.ensures (omega (arith, total, c.loop-k.invariant.high));
    }

pub returns : goal.returns
returns c =
    let none = drop-all (record_of c.args.values.now) c.loop-k.k (omega (arith, c.loop-k-test.false, c.requires.count)) in
    sym (ap (put_from c.loop-k.p (c.args.at + c.loop-k.k)) none) ∙ c.loop-k.invariant.rest
