use Rattle.std.proofs.Common.{◌≡◌, ℕ, ◌+◌, ◌-◌, ◌<◌, ◌∙◌, map, length, sym, ap, ap₂, arith}
use Rattle.std.specs.List.{range_with_len}
use Rattle.b2_platter.specs.Edits.{put_from}
use Rattle.b2_progfile.specs.Saving.{piece_at}
use Rattle.b2_platter.proofs.OwnSectors.{own-data, own-good}
use Rattle.b2_progfile.proofs.Pieces.{pieces-next, piece-long}
use Rattle.b2_progfile.proofs.saving.put_pieces.Goals as goal

pub loop-k-init : goal.loop-k-init
loop-k-init c =
    let place : c.args.at + 0 ≡ c.args.at = omega arith in
    let all : c.args.count - 0 ≡ c.args.count = omega arith in
    record {
      rest = ap₂ (λ (n m : ℕ). put_from c.args.p.now n (map (piece_at c.args.bytes.now) (range_with_len 0 m))) place (all ∙ c.requires.count);
      good = c.requires.good;
      own = c.requires.sectors;
    }

pub piece_at-requires : goal.piece_at-requires
piece_at-requires c = let h : c.loop-k.k < c.args.count = c.loop-k-test.true in omega (arith, h, c.requires.count)

pub put_file-requires : goal.put_file-requires
put_file-requires c = c.loop-k.invariant.own (c.args.at + c.loop-k.k) (omega arith) (omega (arith, c.loop-k-test.true))

pub loop-k-preserved : goal.loop-k-preserved
loop-k-preserved c =
    let h : c.loop-k.k < c.args.count = c.loop-k-test.true in
    let first = c.loop-k.invariant.own (c.args.at + c.loop-k.k) (omega arith) (omega (arith, h)) in
    let place : c.args.at + (c.loop-k.k + 1) ≡ c.args.at + c.loop-k.k + 1 = omega arith in
    record {
      rest = rw (c.put_file.ensures, c.piece_at.ensures, place)
          (sym (ap (put_from c.loop-k.p (c.args.at + c.loop-k.k)) (pieces-next c.args.bytes.now c.loop-k.k c.args.count h)) ∙ c.loop-k.invariant.rest);
      good = rw c.put_file.ensures (own-good c.loop-k.p c.loop-k.invariant.good (c.args.at + c.loop-k.k) first c.piece_at.result (ap length c.piece_at.ensures ∙ piece-long c.args.bytes.now c.loop-k.k));
      own = λ n low high. rw c.put_file.ensures (own-data c.loop-k.p c.loop-k.invariant.good (c.args.at + c.loop-k.k) first c.piece_at.result (ap length c.piece_at.ensures ∙ piece-long c.args.bytes.now c.loop-k.k) n ∙ c.loop-k.invariant.own n low high);
    }

pub returns : goal.returns
returns c =
    let none : c.args.count - c.loop-k.k ≡ 0 = omega (arith, c.loop-k-test.false) in
    sym (ap (λ (m : ℕ). put_from c.loop-k.p (c.args.at + c.loop-k.k) (map (piece_at c.args.bytes.now) (range_with_len c.loop-k.k m))) none) ∙ c.loop-k.invariant.rest
