use Rattle.b2_access.proofs.Locality.{serves_by_row}
use Rattle.b2_access.proofs.laws.law_answers_are_of_their_rows.Goals as goal

pub returns : goal.returns
returns c = serves_by_row
