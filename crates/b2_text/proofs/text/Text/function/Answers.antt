use Rattle.b2_text.specs.Blocks.{lines_laid}
use Rattle.b2_text.specs.Spots.{is_function}
use Rattle.b2_text.proofs.FoundInLines.{opening_there}
use Rattle.b2_text.proofs.text.Text.function.Goals as goal

pub returns-clause-there : goal.returns-clause-there
returns-clause-there c =
    rw (c.first_function.ensures, ← c.self.view_is) (opening_there (is_function c.args.name) (lines_laid c.self.inside.block.items c.self.inside.places.items) c.self.invariant.0.ordered)
