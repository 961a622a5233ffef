use Rattle.std.proofs.Common.{◌≡◌, ◌+◌, ℕ, length, subst, arith}
use Rattle.b2_text.specs.Blocks.{IsPlaceOf}
use Rattle.b2_text.proofs.AtNumbers.{ascending, last_place}
use Rattle.b2_text.proofs.numbers.place_after.Goals as goal

pub returns-then-n-ge-MOST_NUMBER : goal.returns-then-n-ge-MOST_NUMBER
returns-then-n-ge-MOST_NUMBER c =
    let places = c.args.places.now.items in
    let len = c.len.ensures in
    let end : length places ≡ c.len.result = omega (arith, len) in
    subst (λ (i : ℕ). IsPlaceOf (c.args.n + 1) places i) end (last_place c.args.block.now.items c.args.n places c.requires.numbers c.if-n-ge-MOST_NUMBER.true)

pub find-requires : goal.find-requires
find-requires c = ascending c.args.block.now.items c.args.places.now.items c.requires.ordered
