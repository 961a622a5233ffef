use Rattle.std.proofs.Common.{◌+◌, ◌<◌, ◌∙◌, ap, sym, subst, length, Some, arith}
use Rattle.b2_text.specs.declared.block.LinePlace.{LinePlace}
use Rattle.b2_text.specs.Blocks.{IsPlaceOf}
use Rattle.b2_text.proofs.Finding.{place_read}
use Rattle.b2_text.proofs.AtNumbers.{next_there, next_none}
use Rattle.b2_text.proofs.numbers.number_above.Goals as goal

pub returns-then-i-len : goal.returns-then-i-len
returns-then-i-len c =
    let places = c.args.places.now.items in
    let end = c.if-i-len.true in
    sym (next_none c.args.block.now.items c.args.n places (subst (IsPlaceOf (c.args.n + 1) places) (omega (arith, end)) c.place_above-i.ensures))

pub returns : goal.returns
returns c =
    let places = c.args.places.now.items in
    let i = c.place_above-i.result in
    let inside : i < length places = omega (arith, c.if-i-len.false, c.place_above-i.ensures.within) in
    ap (λ (s : LinePlace). Some s.number) (place_read places i c.index.result.now inside c.index.ensures)
    ∙ sym (next_there c.args.block.now.items c.args.n places i c.place_above-i.ensures inside)
