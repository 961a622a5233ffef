use Rattle.std.proofs.Common.{sym, ap, ◌∙◌}
use Rattle.b2_base.specs.Lexical.{capped_value}
use Rattle.b2_rows.proofs.Digits.{slot_value}
use Rattle.b2_rows.proofs.leaves.slot_at.Goals as goal

pub returns-clause-value : goal.returns-clause-value
returns-clause-value c = c.capped_value.ensures.value ∙ ap (capped_value 999 0) c.rest_after.ensures ∙ sym (slot_value c.args.text.now c.requires)
