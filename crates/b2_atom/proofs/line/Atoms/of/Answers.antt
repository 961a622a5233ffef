use Rattle.std.proofs.Common.{◌∙◌, ap, sym}
use Rattle.b2_atom.specs.Lines.{is_line}
use Rattle.b2_atom.proofs.lines.Units.{short_line}
use Rattle.b2_atom.proofs.line.Atoms.of.Goals as goal

pub spans_of-requires : goal.spans_of-requires
spans_of-requires c = short_line c.deref.result.now (ap is_line (c.deref.ensures.value ∙ c.in_ok-bytes.ensures.items) ∙ sym c.spells_line.ensures ∙ c.if-not-spells_line.false)
