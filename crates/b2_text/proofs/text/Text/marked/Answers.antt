use Rattle.b2_text.specs.Blocks.{lines_laid}
use Rattle.b2_text.specs.Spots.{is_mark}
use Rattle.b2_text.proofs.FoundInLines.{opening_there}
use Rattle.b2_text.proofs.text.Text.marked.Goals as goal

pub returns-clause-there : goal.returns-clause-there
returns-clause-there c =
    rw (c.first_mark.ensures, ← c.self.view_is) (opening_there (is_mark c.args.n) (lines_laid c.self.inside.block.items c.self.inside.places.items) c.self.invariant.0.ordered)
