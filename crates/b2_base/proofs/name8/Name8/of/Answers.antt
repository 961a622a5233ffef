use Rattle.std.proofs.Common.{sym, ap, ◌∙◌}
use Rattle.b2_base.specs.Names.{is_name8}
use Rattle.b2_base.proofs.Padding.{padded-is_name8}
use Rattle.b2_base.proofs.name8.Name8.of.Goals as goal

pub invariant_of-result : goal.invariant_of-result
invariant_of-result c = ap is_name8 c.pad.ensures ∙ padded-is_name8 c.args.bytes.now (sym c.is_name.ensures.value ∙ c.if-not-is_name.false)
