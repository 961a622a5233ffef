use Rattle.std.proofs.Common.{◌<◌, length, drop, Some, sym, ap, ◌∙◌, length-drop, arith}
use Rattle.b2_pack.specs.Specification.{specified_pairs}
use Rattle.b2_pack.specs.Packing.{placed_from}
use Rattle.b2_pack.proofs.PackingLemmas.{code-lacks_any}
use Rattle.b2_pack.proofs.packing.check_values.Goals as goal

pub returns-in_default : goal.returns-in_default
returns-in_default c =
    let some : 0 < length (drop c.loop-i.i c.args.values.now) = omega (arith, length-drop c.loop-i.i c.args.values.now) in
    ap Some c.known.ensures
    ∙ sym (code-lacks_any (placed_from c.loop-i.at (specified_pairs c.loop-i.rest.now)) (drop c.loop-i.i c.args.values.now) c.args.room c.in_default.ensures some)
    ∙ c.loop-i.invariant.code
