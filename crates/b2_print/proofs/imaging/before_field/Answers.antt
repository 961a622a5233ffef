use Rattle.std.proofs.Common.{sym, ap, ◌∙◌, []}
use Rattle.b2_print.specs.Imaged as spec
use Rattle.b2_print.proofs.LineLemmas.{first-line_empty, line-all_literals}
use Rattle.b2_print.proofs.imaging.before_field.Goals as goal

pub returns-in-Some-clause-text : goal.returns-in-Some-clause-text
returns-in-Some-clause-text c = sym (first-line_empty c.args.image.now c.in-Some.at c.in-Some.field-0-1 c.in-Some.ensures)

pub returns-in-None-clause-text : goal.returns-in-None-clause-text
returns-in-None-clause-text c = sym (ap (λ ps. spec.line ps []) c.in-None.ensures ∙ line-all_literals c.args.image.now [])
