use Rattle.b2_store.proofs.Answered.{answers-fit}
use Rattle.b2_store.proofs.laws.law_answers_fit.Goals as goal

pub returns : goal.returns
returns c = answers-fit
