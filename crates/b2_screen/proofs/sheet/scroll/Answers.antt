use Rattle.std.proofs.Common.{ap, set, ◌∙◌}
use Rattle.b2_screen.proofs.Places.{last_set}
use Rattle.b2_screen.specs.Sheet.{blank_row}
use Rattle.b2_screen.proofs.sheet.scroll.Goals as goal

pub returns : goal.returns
returns c = ap (λ rows. set rows 23 blank_row) c.rotate_left.ensures.after ∙ last_set _ blank_row c.told-rows
