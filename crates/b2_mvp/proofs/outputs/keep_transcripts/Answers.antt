use Rattle.std.proofs.Common.{ℕ, ◌≡◌, subst, arith}
use Rattle.b2_base.specs.Seen.{shelf_seen}
use Rattle.b2_mvp.specs.Outputs.{transcripts_to, with_files}
use Rattle.b2_mvp.proofs.Keeps.{kept_more, terminal_fails}
use Rattle.b2_mvp.proofs.outputs.keep_transcripts.Goals as goal

pub loop-before-preserved : goal.loop-before-preserved
loop-before-preserved g c =
    record {
      kept =
          subst (λ (n : ℕ). g.F.Shelf.files c.keep_transcript.new.shelf ≡ with_files (transcripts_to c.args.out.now (g.S.Shared.store (g.S.Shared.meaning c.args.stores.now)) n) (g.F.Shelf.files c.args.shelf.now)) c.known.ensures
          (kept_more c.args.out.now (g.S.Shared.store (g.S.Shared.meaning c.args.stores.now)) c.loop-before.before c.known.result _ _ _ (omega (arith, c.known.ensures)) c.loop-before.invariant.kept c.in-Ok.ensures.ok);
      faults = let more = c.keep_transcript.ensures.faults in let far = c.loop-before.invariant.faults in omega arith;
    }

pub returns-in-Err-clause-err : goal.returns-in-Err-clause-err
returns-in-Err-clause-err g c =
    let seen = shelf_seen g.F.Shelf.files g.F.Shelf.faults g.F.Shelf.misses g.F.Shelf.longs in
    terminal_fails c.args.out.now (g.S.Shared.store (g.S.Shared.meaning c.args.stores.now)) c.loop-before.before c.known.result 12
    (seen c.args.shelf.now) (seen c.loop-before.shelf) (seen c.keep_transcript.new.shelf) c.in-Err.status
    (omega (arith, c.known.ensures)) (omega (arith, c.known.ensures, c.loop-before-test.true))
    c.loop-before.invariant.kept c.loop-before.invariant.faults c.in-Err.ensures.err
