use Rattle.std.proofs.Common.{sym, ◌∙◌}
use Rattle.b2_rows.proofs.Digits.{small_value}
use Rattle.b2_rows.proofs.leaves.small_at.Goals as goal

pub returns : goal.returns
returns c = record { value = c.capped_value.ensures.value ∙ sym (small_value c.args.text.now c.requires) }
