use Rattle.std.proofs.Common.{◌∙◌, ap, ap₂, ℕ, List, length, take, drop, arith}
use Rattle.b2_vars.specs.Shapes.{alpha_bytes}
use Rattle.b2_vars.specs.Tables.{table_of, shape_at}
use Rattle.b2_vars.proofs.Heads.{overhead-some}
use Rattle.b2_vars.proofs.Steps.{head-room, start-is, shape-read, stored-there, bytes-room, used-room, all-bytes}
use Rattle.b2_vars.proofs.block.Block.bytes.Goals as goal

pub shape_at-shape-requires : goal.shape_at-shape-requires
shape_at-shape-requires c = omega (arith, ap (λ (b : List ℕ). length b) c.deref.ensures.value, head-room c.self.inside.bytes.items c.self.inside.used c.self.inside.places.items c.self.invariant c.args.self.now c.self.view_is c.args.v c.args.place c.requires)

pub bytes_start-start-requires-clause-low : goal.bytes_start-start-requires-clause-low
bytes_start-start-requires-clause-low c = omega (arith, head-room c.self.inside.bytes.items c.self.inside.used c.self.inside.places.items c.self.invariant c.args.self.now c.self.view_is c.args.v c.args.place c.requires, overhead-some c.args.v, c.self.inside.bytes.small, c.self.inside.bytes.ok.0, c.self.inside.bytes.ok.1)

pub part_at-requires-clause-room : goal.part_at-requires-clause-room
part_at-requires-clause-room c =
    let start = start-is c.self.inside.bytes.items c.self.inside.used c.self.inside.places.items c.self.invariant c.args.self.now c.self.view_is c.args.v c.args.place c.requires c.shape_at-shape.result c.deref.result.now c.deref.ensures.value c.shape_at-shape.ensures in
    let h = stored-there c.self.inside.bytes.items c.self.inside.used c.self.inside.places.items c.self.invariant c.args.self.now c.self.view_is c.args.v c.args.place c.requires in
    omega (arith, c.bytes_start-start.ensures.start, c.alpha_bytes.ensures.count, start, h.variable.bytes, ap alpha_bytes (shape-read c.self.inside.bytes.items c.self.inside.used c.self.inside.places.items c.self.invariant c.args.self.now c.self.view_is c.args.v c.args.place c.requires c.shape_at-shape.result c.deref.result.now c.deref.ensures.value c.shape_at-shape.ensures), bytes-room c.self.inside.bytes.items c.self.inside.used c.self.inside.places.items c.self.invariant c.args.self.now c.self.view_is c.args.v c.args.place c.requires, used-room c.self.inside.bytes.items c.self.inside.used c.self.inside.places.items c.self.invariant c.args.self.now c.self.view_is, ap (λ (b : List ℕ). length b) c.deref-2.ensures.value)

pub returns : goal.returns
returns c =
    let shape = shape-read c.self.inside.bytes.items c.self.inside.used c.self.inside.places.items c.self.invariant c.args.self.now c.self.view_is c.args.v c.args.place c.requires c.shape_at-shape.result c.deref.result.now c.deref.ensures.value c.shape_at-shape.ensures in
    let start = start-is c.self.inside.bytes.items c.self.inside.used c.self.inside.places.items c.self.invariant c.args.self.now c.self.view_is c.args.v c.args.place c.requires c.shape_at-shape.result c.deref.result.now c.deref.ensures.value c.shape_at-shape.ensures in
    c.part_at.ensures
    ∙ ap₂ (λ (n : ℕ) (b : List ℕ). take n (drop c.bytes_start-start.result b)) (c.alpha_bytes.ensures.count ∙ ap alpha_bytes shape) c.deref-2.ensures.value
    ∙ ap (λ (n : ℕ). take (alpha_bytes (shape_at c.args.v (table_of c.args.self.now.entries))) (drop n c.self.inside.bytes.items)) (c.bytes_start-start.ensures.start ∙ start)
    ∙ all-bytes c.self.inside.bytes.items c.self.inside.used c.self.inside.places.items c.self.invariant c.args.self.now c.self.view_is c.args.v c.args.place c.requires
