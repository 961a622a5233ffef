use Rattle.std.proofs.Common.{rules}
use Rattle.b2_screen.proofs.Cutting.{shown_on}
use Rattle.b2_screen.proofs.Screen.feed.Goals as goal

pub returns-clause-after : goal.returns-clause-after
returns-clause-after c = search rules

pub returns-clause-however_cut : goal.returns-clause-however_cut
returns-clause-however_cut c = λ before e. shown_on before c.args.bytes.now c.args.self.now _ (returns-clause-after c) e
