use Rattle.std.proofs.Common.{◌≤◌, ◌∙◌, Some, ap, sym, length, drop, slice_get, arith}
use Rattle.b2_text.specs.Program.{Lines}
use Rattle.b2_text.proofs.Along.{within_more}
use Rattle.b2_text.proofs.within.LinesWithin.next.Goals as goal

pub returns-then-self-clause-line : goal.returns-then-self-clause-line
returns-then-self-clause-line c =
    let places = c.self.inside.places.now.items in
    let end = c.self.invariant.2 in
    let inside : c.self.inside.end ≤ length places = omega (arith, end) in
    (λ x. Some (c.line_placed-line.ensures.number x, c.line_placed-line.ensures.atoms x))
    ∙ sym (ap (λ (ls : Lines). slice_get ls 0) (within_more c.self.inside.block.now.items places c.self.inside.at c.self.inside.end c.if-self.true inside))
    ∙ ap (λ (ls : Lines). slice_get ls 0) c.self.view_is

pub returns-then-self-clause-rest : goal.returns-then-self-clause-rest
returns-then-self-clause-rest c =
    let places = c.self.inside.places.now.items in
    let end = c.self.invariant.2 in
    let inside : c.self.inside.end ≤ length places = omega (arith, end) in
    sym (ap (drop 1) (within_more c.self.inside.block.now.items places c.self.inside.at c.self.inside.end c.if-self.true inside))
    ∙ ap (drop 1) c.self.view_is
