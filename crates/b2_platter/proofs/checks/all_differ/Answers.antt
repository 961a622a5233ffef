use Rattle.std.proofs.Common.{arith, ℕ}
use Rattle.b2_platter.specs.Image.{row}
use Rattle.b2_platter.specs.Checks.{differ_in_name}
use Rattle.b2_platter.proofs.Walks.{two_more, two_over}
use Rattle.b2_platter.proofs.checks.all_differ.Goals as goal

pub returns-then-not-differs_from_later : goal.returns-then-not-differs_from_later
returns-then-not-differs_from_later c =
    two_over (λ (j k : ℕ). differ_in_name (row c.args.bytes.now j) (row c.args.bytes.now k)) c.loop-j.j _ _ (omega arith) c.loop-j.invariant (cc)

pub loop-j-preserved : goal.loop-j-preserved
loop-j-preserved c =
    two_more (λ (j k : ℕ). differ_in_name (row c.args.bytes.now j) (row c.args.bytes.now k)) c.loop-j.j _ _ (omega arith) c.loop-j.invariant (cc)
