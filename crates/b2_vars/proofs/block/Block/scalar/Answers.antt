use Rattle.std.proofs.Common.{◌≡◌, ◌-◌, ◌+◌, ◌*◌, ◌∙◌, ap, ℕ, List, length, take, drop, arith}
use Rattle.b2_vars.specs.Names.{scalar_named}
use Rattle.b2_vars.proofs.Steps.{number-room, used-room, number-legal, number-is}
use Rattle.b2_vars.proofs.block.Block.scalar.Goals as goal

pub overflow_add-place : goal.overflow_add-place
overflow_add-place c = omega (arith, number-room c.self.inside.bytes.items c.self.inside.used c.self.inside.places.items c.self.invariant c.args.self.now c.self.view_is (scalar_named c.args.letter c.args.digit) c.args.place c.requires.at 0 c.requires.room, used-room c.self.inside.bytes.items c.self.inside.used c.self.inside.places.items c.self.invariant c.args.self.now c.self.view_is, c.self.inside.bytes.small, c.self.inside.bytes.ok.0, c.self.inside.bytes.ok.1)

pub read_number-requires : goal.read_number-requires
read_number-requires c =
    let at : c.args.place + 3 ≡ c.args.place - 1 + 4 + 0 * 8 = omega (arith, c.requires.at.some) in
    record {
      room = omega (arith, number-room c.self.inside.bytes.items c.self.inside.used c.self.inside.places.items c.self.invariant c.args.self.now c.self.view_is (scalar_named c.args.letter c.args.digit) c.args.place c.requires.at 0 c.requires.room, used-room c.self.inside.bytes.items c.self.inside.used c.self.inside.places.items c.self.invariant c.args.self.now c.self.view_is, ap (λ (b : List ℕ). length b) c.deref.ensures.value);
      packed = record {
        number = _;
        is_number = number-legal c.self.inside.bytes.items c.self.inside.used c.self.inside.places.items c.self.invariant c.args.self.now c.self.view_is (scalar_named c.args.letter c.args.digit) c.args.place c.requires.at 0 c.requires.room;
        spelled = ap (λ (k : ℕ). take 8 (drop k c.deref.result.now)) at ∙ ap (λ (b : List ℕ). take 8 (drop (c.args.place - 1 + 4 + 0 * 8) b)) c.deref.ensures.value ∙ number-is c.self.inside.bytes.items c.self.inside.used c.self.inside.places.items c.self.invariant c.args.self.now c.self.view_is (scalar_named c.args.letter c.args.digit) c.args.place c.requires.at 0 c.requires.room;
      };
    }

pub returns : goal.returns
returns c =
    let at : c.args.place + 3 ≡ c.args.place - 1 + 4 + 0 * 8 = omega (arith, c.requires.at.some) in
    c.read_number.ensures _ (number-legal c.self.inside.bytes.items c.self.inside.used c.self.inside.places.items c.self.invariant c.args.self.now c.self.view_is (scalar_named c.args.letter c.args.digit) c.args.place c.requires.at 0 c.requires.room)
    (ap (λ (k : ℕ). take 8 (drop k c.deref.result.now)) at ∙ ap (λ (b : List ℕ). take 8 (drop (c.args.place - 1 + 4 + 0 * 8) b)) c.deref.ensures.value ∙ number-is c.self.inside.bytes.items c.self.inside.used c.self.inside.places.items c.self.invariant c.args.self.now c.self.view_is (scalar_named c.args.letter c.args.digit) c.args.place c.requires.at 0 c.requires.room)
