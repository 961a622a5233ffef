use Rattle.std.proofs.Common.{◌≡◌, ℕ, ◌+◌, ◌≤◌, ◌∷◌, ◌∙◌, length, drop, refl, sym, ap, arith, length-drop}
use Rattle.b2_record.specs.Writing.{record_of, sectors_left}
use Rattle.b2_record.proofs.Groups.{left-some}
use Rattle.b2_platter.specs.Edits.{put_from}
use Rattle.b2_record.proofs.Placing.{put-next, drop-next, drop-all}
use Rattle.b2_platter.proofs.OwnSectors.{own-data, own-good}
use Rattle.b2_datafile.proofs.saving.put_record.Goals as goal

pub loop-k-init : goal.loop-k-init
loop-k-init c =
    let place : c.args.at + 0 ≡ c.args.at = omega arith in
    record {
      rest = ap (λ (n : ℕ). put_from c.args.p.now n (record_of c.args.values.now)) place;
      good = c.image-image.ensures.good;
      next = λ _. refl;
      short = c.requires.short;
      own = c.requires.sectors;
    }

pub put_file-requires : goal.put_file-requires
put_file-requires c = c.loop-k.invariant.own (c.args.at + c.loop-k.k) (omega arith) (omega (arith, c.loop-k-test.true))

pub loop-k-preserved : goal.loop-k-preserved
loop-k-preserved c =
    let first = c.loop-k.invariant.own (c.args.at + c.loop-k.k) (omega arith) (omega (arith, c.loop-k-test.true)) in
    let all = record_of c.args.values.now in
    let left = sectors_left (c.loop-k.k + 1 + 1) c.put_next-rest.result.now in
    let here : drop c.loop-k.k all ≡ c.put_next-rest.new.into ∷ left = sym (c.loop-k.invariant.next c.loop-k-test.true) ∙ c.put_next-rest.ensures.sectors in
    let after : drop (c.loop-k.k + 1) all ≡ left = drop-next c.loop-k.k all left c.put_next-rest.new.into here in
    record {
      rest = rw c.put_file.ensures (put-next c.loop-k.p c.args.at c.loop-k.k all left c.put_next-rest.new.into here ∙ c.loop-k.invariant.rest);
      next = λ low. (
          let some : 1 ≤ length left = omega (arith, low, c.requires.count, ap length after, length-drop (c.loop-k.k + 1) all) in
          left-some (c.loop-k.k + 1 + 1) c.put_next-rest.result.now some ∙ sym after
          );
      short = c.put_next-rest.ensures.short;
      good = rw c.put_file.ensures (own-good c.loop-k.p c.loop-k.invariant.good (c.args.at + c.loop-k.k) first c.put_next-rest.new.into c.put_next-rest.array_long);
      own = λ n low high. rw c.put_file.ensures (own-data c.loop-k.p c.loop-k.invariant.good (c.args.at + c.loop-k.k) first c.put_next-rest.new.into c.put_next-rest.array_long n ∙ c.loop-k.invariant.own n low high);
    }

pub returns : goal.returns
returns c =
    let none = drop-all (record_of c.args.values.now) c.loop-k.k (omega (arith, c.loop-k-test.false, c.requires.count)) in
    sym (ap (put_from c.loop-k.p (c.args.at + c.loop-k.k)) none) ∙ c.loop-k.invariant.rest
