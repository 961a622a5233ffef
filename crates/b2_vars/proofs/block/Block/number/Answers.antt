use Rattle.std.proofs.Common.{◌-◌, ◌+◌, ◌*◌, ◌∙◌, ap, ap₂, ℕ, List, length, take, drop, arith}
use Rattle.b2_vars.proofs.Steps.{number-room, used-room, number-legal, number-is}
use Rattle.b2_vars.proofs.block.Block.number.Goals as goal

pub overflow_add-place : goal.overflow_add-place
overflow_add-place c = omega (arith, c.overhead.ensures.overhead, number-room c.self.inside.bytes.items c.self.inside.used c.self.inside.places.items c.self.invariant c.args.self.now c.self.view_is c.args.v c.args.place c.requires.at c.args.cell c.requires.room, used-room c.self.inside.bytes.items c.self.inside.used c.self.inside.places.items c.self.invariant c.args.self.now c.self.view_is, c.self.inside.bytes.small, c.self.inside.bytes.ok.0, c.self.inside.bytes.ok.1)

pub overflow_mul-cell : goal.overflow_mul-cell
overflow_mul-cell c = omega (arith, number-room c.self.inside.bytes.items c.self.inside.used c.self.inside.places.items c.self.invariant c.args.self.now c.self.view_is c.args.v c.args.place c.requires.at c.args.cell c.requires.room, used-room c.self.inside.bytes.items c.self.inside.used c.self.inside.places.items c.self.invariant c.args.self.now c.self.view_is, c.self.inside.bytes.small, c.self.inside.bytes.ok.0, c.self.inside.bytes.ok.1)

pub overflow_add-place-2 : goal.overflow_add-place-2
overflow_add-place-2 c = omega (arith, c.overhead.ensures.overhead, number-room c.self.inside.bytes.items c.self.inside.used c.self.inside.places.items c.self.invariant c.args.self.now c.self.view_is c.args.v c.args.place c.requires.at c.args.cell c.requires.room, used-room c.self.inside.bytes.items c.self.inside.used c.self.inside.places.items c.self.invariant c.args.self.now c.self.view_is, c.self.inside.bytes.small, c.self.inside.bytes.ok.0, c.self.inside.bytes.ok.1)

pub read_number-requires : goal.read_number-requires
read_number-requires c = record {
  room = omega (arith, c.overhead.ensures.overhead, number-room c.self.inside.bytes.items c.self.inside.used c.self.inside.places.items c.self.invariant c.args.self.now c.self.view_is c.args.v c.args.place c.requires.at c.args.cell c.requires.room, used-room c.self.inside.bytes.items c.self.inside.used c.self.inside.places.items c.self.invariant c.args.self.now c.self.view_is, ap (λ (b : List ℕ). length b) c.deref.ensures.value);
  packed = record {
    number = _;
    is_number = number-legal c.self.inside.bytes.items c.self.inside.used c.self.inside.places.items c.self.invariant c.args.self.now c.self.view_is c.args.v c.args.place c.requires.at c.args.cell c.requires.room;
    spelled = ap₂ (λ (k : ℕ) (b : List ℕ). take 8 (drop (c.args.place - 1 + k + c.args.cell * 8) b)) c.overhead.ensures.overhead c.deref.ensures.value
        ∙ number-is c.self.inside.bytes.items c.self.inside.used c.self.inside.places.items c.self.invariant c.args.self.now c.self.view_is c.args.v c.args.place c.requires.at c.args.cell c.requires.room;
  };
}

pub returns : goal.returns
returns c =
    c.read_number.ensures _ (number-legal c.self.inside.bytes.items c.self.inside.used c.self.inside.places.items c.self.invariant c.args.self.now c.self.view_is c.args.v c.args.place c.requires.at c.args.cell c.requires.room)
    (ap₂ (λ (k : ℕ) (b : List ℕ). take 8 (drop (c.args.place - 1 + k + c.args.cell * 8) b)) c.overhead.ensures.overhead c.deref.ensures.value
    ∙ number-is c.self.inside.bytes.items c.self.inside.used c.self.inside.places.items c.self.invariant c.args.self.now c.self.view_is c.args.v c.args.place c.requires.at c.args.cell c.requires.room)
