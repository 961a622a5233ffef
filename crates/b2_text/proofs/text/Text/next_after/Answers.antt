use Rattle.std.proofs.Common.{sym}
use Rattle.b2_text.specs.Blocks.{lines_laid}
use Rattle.b2_text.proofs.Keeping.{none_after}
use Rattle.b2_text.proofs.text.Text.next_after.Goals as goal

pub returns-then-n-ge-MOST_NUMBER-clause-least : goal.returns-then-n-ge-MOST_NUMBER-clause-least
returns-then-n-ge-MOST_NUMBER-clause-least c =
    rw (c.in-Some.is, ← c.self.view_is)
    (sym (none_after c.in-Some.n (lines_laid c.self.inside.block.items c.self.inside.places.items) c.self.invariant.0.small c.if-n-ge-MOST_NUMBER.true))
