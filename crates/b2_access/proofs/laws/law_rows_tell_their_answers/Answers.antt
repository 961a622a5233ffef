use Rattle.b2_access.proofs.RowAnswers.{rows_tell_their_answers}
use Rattle.b2_access.proofs.laws.law_rows_tell_their_answers.Goals as goal

pub returns : goal.returns
returns c = rows_tell_their_answers
