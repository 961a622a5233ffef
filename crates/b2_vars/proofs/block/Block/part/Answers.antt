use Rattle.std.proofs.Common.{◌+◌, ◌∙◌, ap, ap₂, ℕ, List, length, take, drop, arith}
use Rattle.b2_vars.proofs.Heads.{overhead-some}
use Rattle.b2_vars.proofs.Steps.{head-room, start-is, bytes-room, used-room, part-bytes}
use Rattle.b2_vars.proofs.block.Block.part.Goals as goal

pub shape_at-shape-requires : goal.shape_at-shape-requires
shape_at-shape-requires c = omega (arith, ap (λ (b : List ℕ). length b) c.deref.ensures.value, head-room c.self.inside.bytes.items c.self.inside.used c.self.inside.places.items c.self.invariant c.args.self.now c.self.view_is c.args.v c.args.place c.requires.at)

pub bytes_start-start-requires-clause-low : goal.bytes_start-start-requires-clause-low
bytes_start-start-requires-clause-low c = omega (arith, head-room c.self.inside.bytes.items c.self.inside.used c.self.inside.places.items c.self.invariant c.args.self.now c.self.view_is c.args.v c.args.place c.requires.at, overhead-some c.args.v, c.self.inside.bytes.small, c.self.inside.bytes.ok.0, c.self.inside.bytes.ok.1)

pub overflow_add-start : goal.overflow_add-start
overflow_add-start c =
    let start = start-is c.self.inside.bytes.items c.self.inside.used c.self.inside.places.items c.self.invariant c.args.self.now c.self.view_is c.args.v c.args.place c.requires.at c.shape_at-shape.result c.deref.result.now c.deref.ensures.value c.shape_at-shape.ensures in
    omega (arith, c.bytes_start-start.ensures.start, start, c.requires.room, bytes-room c.self.inside.bytes.items c.self.inside.used c.self.inside.places.items c.self.invariant c.args.self.now c.self.view_is c.args.v c.args.place c.requires.at, used-room c.self.inside.bytes.items c.self.inside.used c.self.inside.places.items c.self.invariant c.args.self.now c.self.view_is, c.self.inside.bytes.small, c.self.inside.bytes.ok.0, c.self.inside.bytes.ok.1)

pub part_at-requires-clause-room : goal.part_at-requires-clause-room
part_at-requires-clause-room c =
    let start = start-is c.self.inside.bytes.items c.self.inside.used c.self.inside.places.items c.self.invariant c.args.self.now c.self.view_is c.args.v c.args.place c.requires.at c.shape_at-shape.result c.deref.result.now c.deref.ensures.value c.shape_at-shape.ensures in
    omega (arith, c.bytes_start-start.ensures.start, start, c.requires.room, bytes-room c.self.inside.bytes.items c.self.inside.used c.self.inside.places.items c.self.invariant c.args.self.now c.self.view_is c.args.v c.args.place c.requires.at, used-room c.self.inside.bytes.items c.self.inside.used c.self.inside.places.items c.self.invariant c.args.self.now c.self.view_is, ap (λ (b : List ℕ). length b) c.deref-2.ensures.value)

pub part_at-requires-clause-fits : goal.part_at-requires-clause-fits
part_at-requires-clause-fits c =
    let start = start-is c.self.inside.bytes.items c.self.inside.used c.self.inside.places.items c.self.invariant c.args.self.now c.self.view_is c.args.v c.args.place c.requires.at c.shape_at-shape.result c.deref.result.now c.deref.ensures.value c.shape_at-shape.ensures in
    omega (arith, c.bytes_start-start.ensures.start, start, c.requires.room, bytes-room c.self.inside.bytes.items c.self.inside.used c.self.inside.places.items c.self.invariant c.args.self.now c.self.view_is c.args.v c.args.place c.requires.at, used-room c.self.inside.bytes.items c.self.inside.used c.self.inside.places.items c.self.invariant c.args.self.now c.self.view_is, c.self.inside.bytes.small, c.self.inside.bytes.ok.0, c.self.inside.bytes.ok.1)

pub returns : goal.returns
returns c =
    let start = c.bytes_start-start.ensures.start ∙ start-is c.self.inside.bytes.items c.self.inside.used c.self.inside.places.items c.self.invariant c.args.self.now c.self.view_is c.args.v c.args.place c.requires.at c.shape_at-shape.result c.deref.result.now c.deref.ensures.value c.shape_at-shape.ensures in
    c.part_at.ensures ∙ ap₂ (λ (k : ℕ) (b : List ℕ). take c.args.n (drop (k + c.args.from) b)) start c.deref-2.ensures.value ∙ part-bytes c.self.inside.bytes.items c.self.inside.used c.self.inside.places.items c.self.invariant c.args.self.now c.self.view_is c.args.v c.args.place c.requires.at c.args.from c.args.n c.requires.room
