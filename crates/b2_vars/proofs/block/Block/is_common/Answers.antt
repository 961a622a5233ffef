use Rattle.std.proofs.Common.{◌-◌, ◌∙◌, ap, ℕ, List, length, drop, arith}
use Rattle.b2_vars.specs.Block.{read_common}
use Rattle.b2_vars.proofs.Heads.{overhead-some}
use Rattle.b2_vars.proofs.Steps.{common-is, head-room}
use Rattle.b2_vars.proofs.block.Block.is_common.Goals as goal

pub common_at-requires : goal.common_at-requires
common_at-requires c = omega (arith, c.deref.ensures.len, ap (λ (b : List ℕ). length b) c.deref.ensures.value, head-room c.self.inside.bytes.items c.self.inside.used c.self.inside.places.items c.self.invariant c.args.self.now c.self.view_is c.args.v c.args.place c.requires, overhead-some c.args.v)

pub returns : goal.returns
returns c =
    c.common_at.ensures ∙ ap (λ (b : List ℕ). read_common (drop (c.args.place - 1) b)) c.deref.ensures.value
    ∙ common-is c.self.inside.bytes.items c.self.inside.used c.self.inside.places.items c.self.invariant c.args.self.now c.self.view_is c.args.v c.args.place c.requires
