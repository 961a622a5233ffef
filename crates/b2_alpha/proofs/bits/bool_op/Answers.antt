use Rattle.std.proofs.Common.{length, refl, sym, ◌∙◌, arith, ⊎_elim}
use Rattle.std.proofs.lemmas.Bool.{cases_lt}
use Rattle.b2_alpha.specs.Bits.{byte_by}
use Rattle.b2_alpha.proofs.Pairing.{each_pair_more, each_pair_all, each_pair_short}
use Rattle.b2_alpha.proofs.bits.bool_op.Goals as goal

pub loop-i-init : goal.loop-i-init
loop-i-init c = refl

pub loop-i-preserved : goal.loop-i-preserved
loop-i-preserved c =
    each_pair_more (byte_by c.args.digit) c.loop-i.to c.args.from.now _ c.loop-i.i _ (omega arith) (omega arith) c.join.ensures c.loop-i.invariant

pub returns : goal.returns
returns c =
    ⊎_elim
    (λ inside. sym (each_pair_short (byte_by c.args.digit) c.loop-i.to c.args.from.now c.loop-i.i (omega arith)) ∙ c.loop-i.invariant)
    (λ past. sym (each_pair_all (byte_by c.args.digit) c.loop-i.to c.args.from.now c.loop-i.i (omega arith)) ∙ c.loop-i.invariant)
    (cases_lt c.loop-i.i (length c.loop-i.to))
