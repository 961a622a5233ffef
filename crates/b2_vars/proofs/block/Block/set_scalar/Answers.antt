use Rattle.std.proofs.Common.{◌≡◌, ◌-◌, ◌+◌, ◌*◌, arith}
use Rattle.b2_vars.specs.Names.{scalar_named}
use Rattle.b2_vars.proofs.Laying.{shows-laid, shows-state}
use Rattle.b2_vars.proofs.Steps.{number-room, used-room, number-set}
use Rattle.b2_vars.proofs.block.Block.set_scalar.Goals as goal

pub overflow_add-place : goal.overflow_add-place
overflow_add-place c = omega (arith, number-room c.self.inside.bytes.items c.self.inside.used c.self.inside.places.items c.self.invariant c.args.self.now c.self.view_is (scalar_named c.args.letter c.args.digit) c.args.place c.requires.at 0 c.requires.room, used-room c.self.inside.bytes.items c.self.inside.used c.self.inside.places.items c.self.invariant c.args.self.now c.self.view_is, c.self.inside.bytes.small, c.self.inside.bytes.ok.0, c.self.inside.bytes.ok.1)

pub write_number-requires : goal.write_number-requires
write_number-requires c = omega (arith, number-room c.self.inside.bytes.items c.self.inside.used c.self.inside.places.items c.self.invariant c.args.self.now c.self.view_is (scalar_named c.args.letter c.args.digit) c.args.place c.requires.at 0 c.requires.room, used-room c.self.inside.bytes.items c.self.inside.used c.self.inside.places.items c.self.invariant c.args.self.now c.self.view_is)

pub invariant_of-self : goal.invariant_of-self
invariant_of-self c =
    let at : c.args.place + 3 ≡ c.args.place - 1 + 4 + 0 * 8 = omega (arith, c.requires.at.some) in
    let shows = number-set c.self.inside.bytes.items c.self.inside.used c.self.inside.places.items c.self.invariant c.args.self.now c.self.view_is (scalar_named c.args.letter c.args.digit) c.args.place c.requires.at 0 c.args.n (c.args.place + 3) at c.requires.room c.is_zero-legal.ensures.spelling in
    rw c.write_number.ensures (shows-laid _ _ _ _ shows)

pub returns : goal.returns
returns c =
    let at : c.args.place + 3 ≡ c.args.place - 1 + 4 + 0 * 8 = omega (arith, c.requires.at.some) in
    let shows = number-set c.self.inside.bytes.items c.self.inside.used c.self.inside.places.items c.self.invariant c.args.self.now c.self.view_is (scalar_named c.args.letter c.args.digit) c.args.place c.requires.at 0 c.args.n (c.args.place + 3) at c.requires.room c.is_zero-legal.ensures.spelling in
    rw c.write_number.ensures (shows-state _ _ _ _ shows)
