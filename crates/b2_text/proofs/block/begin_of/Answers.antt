use Rattle.std.proofs.Common.{◌<◌, ap, length, arith}
use Rattle.b2_text.specs.declared.block.LinePlace.{LinePlace}
use Rattle.b2_text.proofs.Blocks.{begins_at, end_of, units_end}
use Rattle.b2_text.proofs.Finding.{place_read}
use Rattle.b2_text.proofs.block.begin_of.Goals as goal

pub returns-then-i-len-clause-start : goal.returns-then-i-len-clause-start
returns-then-i-len-clause-start g c =
    let places = c.args.places.now.items in
    let inside : c.args.i < length places = omega arith in
    let begins = begins_at c.args.block.now.items places c.args.i c.requires.laid inside in
    let read = ap (λ (s : LinePlace). s.start) (place_read places c.args.i c.index-place.result.now inside c.index-place.ensures) in
    omega (arith, read, begins.start, c.from.ensures)

pub returns-then-i-len-clause-first : goal.returns-then-i-len-clause-first
returns-then-i-len-clause-first g c =
    let places = c.args.places.now.items in
    let inside : c.args.i < length places = omega arith in
    let begins = begins_at c.args.block.now.items places c.args.i c.requires.laid inside in
    let read = ap (λ (s : LinePlace). s.first) (place_read places c.args.i c.index-place.result.now inside c.index-place.ensures) in
    omega (arith, read, begins.first, c.from-then-i-len.ensures)

pub returns-else-i-len-clause-start : goal.returns-else-i-len-clause-start
returns-else-i-len-clause-start g c =
    let ends = end_of c.args.block.now.items c.args.places.now.items c.args.i c.requires.laid (omega arith) in
    omega (arith, ends)

pub returns-else-i-len-clause-first : goal.returns-else-i-len-clause-first
returns-else-i-len-clause-first g c =
    let ends = units_end c.args.block.now.items c.args.places.now.items c.args.i (omega arith) in
    omega (arith, ends, c.requires.units)
