use Rattle.std.proofs.Common.{arith}
use Rattle.b2_text.proofs.Blocks.{length_laid}
use Rattle.b2_text.proofs.text.Text.size.Goals as goal

pub returns-clause-size : goal.returns-clause-size
returns-clause-size c =
    let whole = length_laid c.self.inside.block.items c.self.inside.places.items c.self.invariant.0.laid in
    let len = c.len.ensures in
    rw (← c.self.view_is) (omega (arith, whole, len))
