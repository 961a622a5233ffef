use Rattle.b2_mvp.proofs.Keeps.{one_fails}
use Rattle.b2_mvp.proofs.outputs.keep_output.Goals as goal

pub returns-in-Failed-clause-err : goal.returns-in-Failed-clause-err
returns-in-Failed-clause-err g c = (one_fails _ _ _ _ _ c.bytes.ensures.value c.keep.ensures.others, c.keep.ensures.failed c.in-Failed.is)

pub returns-in-NoMemory-clause-err : goal.returns-in-NoMemory-clause-err
returns-in-NoMemory-clause-err g c = one_fails _ _ _ _ _ c.bytes.ensures.value c.keep.ensures.others
