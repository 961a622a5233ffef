use Rattle.b2_mvp.proofs.PartLists.{listed_alone}
use Rattle.b2_mvp.proofs.parts.Parts.of.Goals as goal

pub returns-clause-lists : goal.returns-clause-lists
returns-clause-lists c = λ parts. listed_alone c.args.word.now parts c.read_parts.result c.read_parts.ensures
