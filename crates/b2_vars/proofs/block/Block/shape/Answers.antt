use Rattle.std.proofs.Common.{◌-◌, ◌∙◌, ap, ℕ, List, length, drop, arith}
use Rattle.b2_vars.specs.Block.{read_shape}
use Rattle.b2_vars.proofs.Steps.{shape-is, stored-there, head-room}
use Rattle.b2_vars.proofs.block.Block.shape.Goals as goal

pub shape_at-requires : goal.shape_at-requires
shape_at-requires c = omega (arith, c.deref.ensures.len, ap (λ (b : List ℕ). length b) c.deref.ensures.value, head-room c.self.inside.bytes.items c.self.inside.used c.self.inside.places.items c.self.invariant c.args.self.now c.self.view_is c.args.v c.args.place c.requires)

pub returns-clause-shape : goal.returns-clause-shape
returns-clause-shape c =
    c.shape_at.ensures ∙ ap (λ (b : List ℕ). read_shape c.args.v (drop (c.args.place - 1) b)) c.deref.ensures.value
    ∙ shape-is c.self.inside.bytes.items c.self.inside.used c.self.inside.places.items c.self.invariant c.args.self.now c.self.view_is c.args.v c.args.place c.requires

pub returns-clause-sound : goal.returns-clause-sound
returns-clause-sound c =
    let h = stored-there c.self.inside.bytes.items c.self.inside.used c.self.inside.places.items c.self.invariant c.args.self.now c.self.view_is c.args.v c.args.place c.requires in
    h.variable
