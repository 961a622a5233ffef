use Rattle.b2_record.proofs.ReadBack.{read-at, at-read, read-none}
use Rattle.b2_record.proofs.laws.records_are_read_back.Goals as goal

pub returns : goal.returns
returns c = record { spelled = at-read; read = read-at; none = read-none }
