use Rattle.std.proofs.Common.{◌+◌, ◌∙◌, ap, ℕ, List, length, arith}
use Rattle.b2_vars.proofs.Heads.{overhead-some}
use Rattle.b2_vars.proofs.Laying.{shows-laid, shows-state}
use Rattle.b2_vars.proofs.Steps.{head-room, start-is, bytes-room, used-room, bytes-set}
use Rattle.b2_vars.proofs.block.Block.write.Goals as goal

pub shape_at-shape-requires : goal.shape_at-shape-requires
shape_at-shape-requires c = omega (arith, ap (λ (b : List ℕ). length b) c.deref.ensures.value, head-room c.self.inside.bytes.items c.self.inside.used c.self.inside.places.items c.self.invariant c.args.self.now c.self.view_is c.args.v c.args.place c.requires.at)

pub bytes_start-start-requires-clause-low : goal.bytes_start-start-requires-clause-low
bytes_start-start-requires-clause-low c = omega (arith, head-room c.self.inside.bytes.items c.self.inside.used c.self.inside.places.items c.self.invariant c.args.self.now c.self.view_is c.args.v c.args.place c.requires.at, overhead-some c.args.v, c.self.inside.bytes.small, c.self.inside.bytes.ok.0, c.self.inside.bytes.ok.1)

pub overflow_add-start : goal.overflow_add-start
overflow_add-start c =
    let start = start-is c.self.inside.bytes.items c.self.inside.used c.self.inside.places.items c.self.invariant c.args.self.now c.self.view_is c.args.v c.args.place c.requires.at c.shape_at-shape.result c.deref.result.now c.deref.ensures.value c.shape_at-shape.ensures in
    omega (arith, c.bytes_start-start.ensures.start, start, c.requires.room, bytes-room c.self.inside.bytes.items c.self.inside.used c.self.inside.places.items c.self.invariant c.args.self.now c.self.view_is c.args.v c.args.place c.requires.at, used-room c.self.inside.bytes.items c.self.inside.used c.self.inside.places.items c.self.invariant c.args.self.now c.self.view_is, c.self.inside.bytes.small, c.self.inside.bytes.ok.0, c.self.inside.bytes.ok.1)

pub write-requires : goal.write-requires
write-requires c =
    let start = start-is c.self.inside.bytes.items c.self.inside.used c.self.inside.places.items c.self.invariant c.args.self.now c.self.view_is c.args.v c.args.place c.requires.at c.shape_at-shape.result c.deref.result.now c.deref.ensures.value c.shape_at-shape.ensures in
    omega (arith, c.bytes_start-start.ensures.start, start, c.requires.room, bytes-room c.self.inside.bytes.items c.self.inside.used c.self.inside.places.items c.self.invariant c.args.self.now c.self.view_is c.args.v c.args.place c.requires.at, used-room c.self.inside.bytes.items c.self.inside.used c.self.inside.places.items c.self.invariant c.args.self.now c.self.view_is)

pub invariant_of-self : goal.invariant_of-self
invariant_of-self c =
    let start = c.bytes_start-start.ensures.start ∙ start-is c.self.inside.bytes.items c.self.inside.used c.self.inside.places.items c.self.invariant c.args.self.now c.self.view_is c.args.v c.args.place c.requires.at c.shape_at-shape.result c.deref.result.now c.deref.ensures.value c.shape_at-shape.ensures in
    let shows = bytes-set c.self.inside.bytes.items c.self.inside.used c.self.inside.places.items c.self.invariant c.args.self.now c.self.view_is c.args.v c.args.place c.requires.at c.args.from c.args.bytes.now (c.bytes_start-start.result + c.args.from) (ap (λ (n : ℕ). n + c.args.from) start) c.requires.room in
    rw c.write.ensures (shows-laid _ _ _ _ shows)

pub returns : goal.returns
returns c =
    let start = c.bytes_start-start.ensures.start ∙ start-is c.self.inside.bytes.items c.self.inside.used c.self.inside.places.items c.self.invariant c.args.self.now c.self.view_is c.args.v c.args.place c.requires.at c.shape_at-shape.result c.deref.result.now c.deref.ensures.value c.shape_at-shape.ensures in
    let shows = bytes-set c.self.inside.bytes.items c.self.inside.used c.self.inside.places.items c.self.invariant c.args.self.now c.self.view_is c.args.v c.args.place c.requires.at c.args.from c.args.bytes.now (c.bytes_start-start.result + c.args.from) (ap (λ (n : ℕ). n + c.args.from) start) c.requires.room in
    rw c.write.ensures (shows-state _ _ _ _ shows)
