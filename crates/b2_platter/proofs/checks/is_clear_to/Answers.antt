use Rattle.std.proofs.Common.{arith}
use Rattle.std.proofs.lemmas.Bool.{ne_eqb}
use Rattle.b2_platter.specs.Image.{has_free}
use Rattle.b2_platter.proofs.Walks.{clear_more}
use Rattle.b2_platter.proofs.checks.is_clear_to.Goals as goal

pub loop-j-preserved : goal.loop-j-preserved
loop-j-preserved c =
    clear_more (has_free c.args.bytes.now) c.args.own c.args.first c.index-index.result c.loop-j.j _ (omega arith) c.loop-j.invariant (ne_eqb _ _ c.if-s-own.false) (cc)
