use Rattle.std.proofs.Common.{sym, ap, not, ◌∙◌}
use Rattle.b2_print.proofs.LineLemmas.{lacks_field-none, lacks_field-some}
use Rattle.b2_print.proofs.imaging.lacks_field.Goals as goal

pub returns-in-Some : goal.returns-in-Some
returns-in-Some c = sym (lacks_field-some c.args.image.now c.in-Some.field-0.0 c.in-Some.field-0.1 c.args.values.now c.in-Some.ensures)

pub returns-in-None : goal.returns-in-None
returns-in-None c = ap not c.is_empty.ensures ∙ sym (lacks_field-none c.args.image.now c.args.values.now c.in-None.ensures)
