use Rattle.std.proofs.Common.{◌<◌, ◌∙◌, ap, sym, length, Some, arith}
use Rattle.b2_text.specs.declared.block.LinePlace.{LinePlace}
use Rattle.b2_text.specs.Blocks.{line_placed}
use Rattle.b2_text.proofs.Finding.{place_read}
use Rattle.b2_text.proofs.Laid.{bytes_within}
use Rattle.b2_text.proofs.AtNumbers.{ascending, line_there, line_none_at}
use Rattle.b2_text.proofs.numbers.atoms_of.Goals as goal

pub find-i-requires : goal.find-i-requires
find-i-requires c = ascending c.args.block.now.items c.args.places.now.items c.requires.ordered

pub returns-then-i-len : goal.returns-then-i-len
returns-then-i-len c =
    let block = c.args.block.now.items in
    let places = c.args.places.now.items in
    let end = c.if-i-len.true in
    sym (line_none_at block c.args.n places c.find-i.result c.find-i.ensures (ascending block places c.requires.ordered) (λ l. absurd (omega (arith, l, end))))

pub returns-then-place-n : goal.returns-then-place-n
returns-then-place-n c =
    let block = c.args.block.now.items in
    let places = c.args.places.now.items in
    sym (line_none_at block c.args.n places c.find-i.result c.find-i.ensures (ascending block places c.requires.ordered)
    (λ l e. c.if-place-n.true (ap (λ (s : LinePlace). s.number) (place_read places c.find-i.result c.index-place.result.now l c.index-place.ensures) ∙ e)))

pub atoms_at-requires : goal.atoms_at-requires
atoms_at-requires c =
    let places = c.args.places.now.items in
    let i = c.find-i.result in
    let inside : i < length places = omega (arith, c.if-i-len.false, c.find-i.ensures.within) in
    let read = place_read places i c.index-place.result.now inside c.index-place.ensures in
    let start = ap (λ (s : LinePlace). s.start) read in
    let width = ap (λ (s : LinePlace). s.width) read in
    let within = bytes_within c.args.block.now.items places i c.requires.laid inside in
    omega (arith, start, width, within)

pub returns : goal.returns
returns c =
    let block = c.args.block.now.items in
    let places = c.args.places.now.items in
    let i = c.find-i.result in
    let inside : i < length places = omega (arith, c.if-i-len.false, c.find-i.ensures.within) in
    let read = place_read places i c.index-place.result.now inside c.index-place.ensures in
    ap Some (c.atoms_at.ensures ∙ ap (λ (s : LinePlace). (line_placed block s).1) read)
    ∙ sym (line_there block c.args.n places i c.find-i.ensures inside (ap (λ (s : LinePlace). s.number) (sym read) ∙ c.if-place-n.false))
