use Rattle.std.proofs.Common.{◌<◌, List, ℕ, ap, sym, subst, length, take, drop, arith}
use Rattle.b2_atom.specs.Lines.{KeepsUnits}
use Rattle.b2_atom.specs.declared.spans.Span.{Span}
use Rattle.b2_text.specs.Blocks.{line_placed}
use Rattle.b2_text.specs.declared.block.LinePlace.{LinePlace}
use Rattle.b2_text.proofs.Finding.{place_read}
use Rattle.b2_text.proofs.Laid.{bytes_within, kept_at, units_within}
use Rattle.b2_text.proofs.line.line_placed.Goals as goal

pub atoms_at-requires : goal.atoms_at-requires
atoms_at-requires c =
    let places = c.args.places.now.items in
    let inside : c.args.i < length places = omega (arith, c.requires.there) in
    let read = place_read places c.args.i c.index-place.result.now inside c.index-place.ensures in
    let start = ap (λ (s : LinePlace). s.start) read in
    let width = ap (λ (s : LinePlace). s.width) read in
    let within = bytes_within c.args.block.now.items places c.args.i c.requires.laid inside in
    omega (arith, start, width, within)

pub units_at-requires : goal.units_at-requires
units_at-requires c =
    let places = c.args.places.now.items in
    let inside : c.args.i < length places = omega (arith, c.requires.there) in
    let read = place_read places c.args.i c.index-place.result.now inside c.index-place.ensures in
    let first = ap (λ (s : LinePlace). s.first) read in
    let count = ap (λ (s : LinePlace). s.units) read in
    let within = units_within c.args.block.now.items places c.args.units.now.items c.args.i c.requires.laid c.requires.kept inside in
    omega (arith, first, count, within)

pub returns-clause-kept : goal.returns-clause-kept
returns-clause-kept c =
    let block = c.args.block.now.items in
    let places = c.args.places.now.items in
    let units = c.args.units.now.items in
    let inside : c.args.i < length places = omega (arith, c.requires.there) in
    let read = place_read places c.args.i c.index-place.result.now inside c.index-place.ensures in
    let P : LinePlace → Type 0 = λ s. KeepsUnits (line_placed block s).1 (take s.units (drop s.first units)) in
    let here : P c.index-place.result.now = subst P (sym read) (kept_at block places units c.args.i c.requires.laid c.requires.kept inside) in
    subst (λ (a : List ℕ). KeepsUnits a c.units_at.result.now) (sym c.atoms_at.ensures)
    (subst (λ (us : List Span). KeepsUnits (line_placed block c.index-place.result.now).1 us) (sym c.units_at.ensures) here)
