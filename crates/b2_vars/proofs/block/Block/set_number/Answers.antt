use Rattle.std.proofs.Common.{◌-◌, ◌+◌, ◌*◌, ap, ℕ, arith}
use Rattle.b2_vars.proofs.Laying.{shows-laid, shows-state}
use Rattle.b2_vars.proofs.Steps.{number-room, used-room, number-set}
use Rattle.b2_vars.proofs.block.Block.set_number.Goals as goal

pub overflow_add-place : goal.overflow_add-place
overflow_add-place c = omega (arith, c.overhead.ensures.overhead, number-room c.self.inside.bytes.items c.self.inside.used c.self.inside.places.items c.self.invariant c.args.self.now c.self.view_is c.args.v c.args.place c.requires.at c.args.cell c.requires.room, used-room c.self.inside.bytes.items c.self.inside.used c.self.inside.places.items c.self.invariant c.args.self.now c.self.view_is, c.self.inside.bytes.small, c.self.inside.bytes.ok.0, c.self.inside.bytes.ok.1)

pub overflow_mul-cell : goal.overflow_mul-cell
overflow_mul-cell c = omega (arith, number-room c.self.inside.bytes.items c.self.inside.used c.self.inside.places.items c.self.invariant c.args.self.now c.self.view_is c.args.v c.args.place c.requires.at c.args.cell c.requires.room, used-room c.self.inside.bytes.items c.self.inside.used c.self.inside.places.items c.self.invariant c.args.self.now c.self.view_is, c.self.inside.bytes.small, c.self.inside.bytes.ok.0, c.self.inside.bytes.ok.1)

pub overflow_add-place-2 : goal.overflow_add-place-2
overflow_add-place-2 c = omega (arith, c.overhead.ensures.overhead, number-room c.self.inside.bytes.items c.self.inside.used c.self.inside.places.items c.self.invariant c.args.self.now c.self.view_is c.args.v c.args.place c.requires.at c.args.cell c.requires.room, used-room c.self.inside.bytes.items c.self.inside.used c.self.inside.places.items c.self.invariant c.args.self.now c.self.view_is, c.self.inside.bytes.small, c.self.inside.bytes.ok.0, c.self.inside.bytes.ok.1)

pub write_number-requires : goal.write_number-requires
write_number-requires c = omega (arith, c.overhead.ensures.overhead, number-room c.self.inside.bytes.items c.self.inside.used c.self.inside.places.items c.self.invariant c.args.self.now c.self.view_is c.args.v c.args.place c.requires.at c.args.cell c.requires.room, used-room c.self.inside.bytes.items c.self.inside.used c.self.inside.places.items c.self.invariant c.args.self.now c.self.view_is)

pub invariant_of-self : goal.invariant_of-self
invariant_of-self c =
    let at = ap (λ (k : ℕ). c.args.place - 1 + k + c.args.cell * 8) c.overhead.ensures.overhead in
    let shows = number-set c.self.inside.bytes.items c.self.inside.used c.self.inside.places.items c.self.invariant c.args.self.now c.self.view_is c.args.v c.args.place c.requires.at c.args.cell c.args.n (c.args.place - 1 + c.overhead.result + c.args.cell * 8) at c.requires.room c.is_zero-legal.ensures.spelling in
    rw c.write_number.ensures (shows-laid _ _ _ _ shows)

pub returns : goal.returns
returns c =
    let at = ap (λ (k : ℕ). c.args.place - 1 + k + c.args.cell * 8) c.overhead.ensures.overhead in
    let shows = number-set c.self.inside.bytes.items c.self.inside.used c.self.inside.places.items c.self.invariant c.args.self.now c.self.view_is c.args.v c.args.place c.requires.at c.args.cell c.args.n (c.args.place - 1 + c.overhead.result + c.args.cell * 8) at c.requires.room c.is_zero-legal.ensures.spelling in
    rw c.write_number.ensures (shows-state _ _ _ _ shows)
