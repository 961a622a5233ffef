use Rattle.b2_matrix.specs.Arrays.{entry}
use Rattle.b2_matrix.proofs.laws.sums_commute.Goals as goal

pub returns : goal.returns
returns c = λ mode xss yss i j. c.law_sums_commute.ensures mode (entry xss i j) (entry yss i j)
