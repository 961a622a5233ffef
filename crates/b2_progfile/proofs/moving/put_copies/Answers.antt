use Rattle.std.proofs.Common.{◌≡◌, ℕ, ◌+◌, ◌-◌, ◌<◌, ◌∙◌, length, sym, ap, ap₂, arith}
use Rattle.b2_platter.specs.Image.{sectors_at}
use Rattle.b2_platter.proofs.Layouts.{few_sectors}
use Rattle.b2_platter.specs.Edits.{put_from}
use Rattle.b2_platter.proofs.OwnSectors.{own-data, own-good}
use Rattle.b2_progfile.proofs.Copies.{sectors-next, sector-long}
use Rattle.b2_progfile.proofs.moving.put_copies.Goals as goal

pub loop-k-init : goal.loop-k-init
loop-k-init c =
    let place : c.args.at + 0 ≡ c.args.at = omega arith in
    let first : c.args.start + 0 ≡ c.args.start = omega arith in
    let all : c.args.count - 0 ≡ c.args.count = omega arith in
    record {
      rest = ap₂ (put_from c.args.p.now) place (ap₂ (sectors_at c.args.from.now) first all);
      good = c.requires.good;
      own = c.requires.sectors;
    }

pub overflow_add-start : goal.overflow_add-start
overflow_add-start c =
    let most = few_sectors c.args.from.now c.image-source.ensures.good in
    omega (arith, most, c.requires.within, c.loop-k-test.true)

pub put_file-requires : goal.put_file-requires
put_file-requires c = c.loop-k.invariant.own (c.args.at + c.loop-k.k) (omega arith) (omega (arith, c.loop-k-test.true))

pub loop-k-preserved : goal.loop-k-preserved
loop-k-preserved c =
    let h : c.loop-k.k < c.args.count = c.loop-k-test.true in
    let first = c.loop-k.invariant.own (c.args.at + c.loop-k.k) (omega arith) (omega (arith, h)) in
    let place : c.args.at + (c.loop-k.k + 1) ≡ c.args.at + c.loop-k.k + 1 = omega arith in
    let there : c.args.start + (c.loop-k.k + 1) ≡ c.args.start + c.loop-k.k + 1 = omega arith in
    let long = ap length c.sector.ensures.value ∙ sector-long c.args.from.now (c.args.start + c.loop-k.k) c.image-source.ensures.good (omega (arith, h, c.requires.within)) in
    record {
      rest = rw (c.put_file.ensures, c.sector.ensures.value, place, there)
          (sym (ap (put_from c.loop-k.p (c.args.at + c.loop-k.k)) (sectors-next c.args.from.now (c.args.start + c.loop-k.k) c.loop-k.k c.args.count h)) ∙ c.loop-k.invariant.rest);
      good = rw c.put_file.ensures (own-good c.loop-k.p c.loop-k.invariant.good (c.args.at + c.loop-k.k) first c.sector.result.now long);
      own = λ n low high. rw c.put_file.ensures (own-data c.loop-k.p c.loop-k.invariant.good (c.args.at + c.loop-k.k) first c.sector.result.now long n ∙ c.loop-k.invariant.own n low high);
    }

pub returns : goal.returns
returns c =
    let none : c.args.count - c.loop-k.k ≡ 0 = omega (arith, c.loop-k-test.false) in
    sym (ap (λ (m : ℕ). put_from c.loop-k.p (c.args.at + c.loop-k.k) (sectors_at c.args.from.now (c.args.start + c.loop-k.k) m)) none) ∙ c.loop-k.invariant.rest
