use Rattle.b2_vars.proofs.Laying.{shows-laid, shows-state}
use Rattle.b2_vars.proofs.Changes.{common-step}
use Rattle.b2_vars.proofs.block.Block.retain_common.Goals as goal

pub keep_common-left-requires : goal.keep_common-left-requires
keep_common-left-requires c = (_, c.self.invariant)

pub invariant_of-self : goal.invariant_of-self
invariant_of-self c = shows-laid _ _ _ _ (common-step c.self.inside.bytes.items c.self.inside.used c.self.inside.places.items c.self.invariant c.args.self.now c.self.view_is c.keep_common-left.new.bytes.items c.keep_common-left.result c.keep_common-left.new.places.items c.keep_common-left.ensures.size (c.keep_common-left.ensures.laid _ c.self.invariant))

pub returns : goal.returns
returns c = shows-state _ _ _ _ (common-step c.self.inside.bytes.items c.self.inside.used c.self.inside.places.items c.self.invariant c.args.self.now c.self.view_is c.keep_common-left.new.bytes.items c.keep_common-left.result c.keep_common-left.new.places.items c.keep_common-left.ensures.size (c.keep_common-left.ensures.laid _ c.self.invariant))
