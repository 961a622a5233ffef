use Rattle.b2_atom.proofs.lines.SmallRows.{row_read}
use Rattle.b2_atom.proofs.spans.unit_row.Goals as goal

pub returns-in-Ok-clause-small : goal.returns-in-Ok-clause-small
returns-in-Ok-clause-small c = row_read c.args.position c.args.bytes.now c.in-Ok.row c.in-Ok.field-0-1.now c.in-Ok.ensures.row
