use Rattle.b2_print.proofs.ReadingLemmas.{layout-within}
use Rattle.b2_print.proofs.laws.law_screen_stays_within.Goals as goal

pub returns : goal.returns
returns c = layout-within
