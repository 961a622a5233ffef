use Rattle.b2_text.specs.Blocks.{lines_laid}
use Rattle.b2_text.proofs.FoundInLines.{data_there}
use Rattle.b2_text.proofs.text.Text.data_at.Goals as goal

pub returns-clause-there : goal.returns-clause-there
returns-clause-there c =
    rw (c.first_data.ensures, ← c.self.view_is) (data_there c.args.from (lines_laid c.self.inside.block.items c.self.inside.places.items) c.self.invariant.0.ordered)
