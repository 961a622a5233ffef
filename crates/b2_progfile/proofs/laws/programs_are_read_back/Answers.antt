use Rattle.b2_progfile.proofs.ReadBack.{program-read, program-spelled-there}
use Rattle.b2_progfile.proofs.laws.programs_are_read_back.Goals as goal

pub returns : goal.returns
returns c = record { spelled = program-spelled-there; read = program-read }
