use Rattle.std.proofs.Common.{◌≡◌, Some, slice_get}
use Rattle.b2_atom.specs.Lines.{spanned}
use Rattle.b2_atom.proofs.lines.UnitRows.{found_read}
use Rattle.b2_atom.proofs.line.LentAtoms.find_unit.Goals as goal

pub returns-in-Some-clause-read : goal.returns-in-Some-clause-read
returns-in-Some-clause-read c =
    let found : slice_get c.self.inside.units.now c.args.k ≡ Some c.in-Some.span = cc in
    let bytes : c.over.result ≡ (spanned c.self.inside.bytes.now c.in-Some.span).bytes = cc in
    found_read c.self.inside.bytes.now c.self.inside.units.now c.args.k c.in-Some.span c.unit_row.result c.over.result c.self.invariant found c.unit_row.ensures bytes
