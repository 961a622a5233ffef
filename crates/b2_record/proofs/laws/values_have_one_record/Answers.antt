use Rattle.b2_record.proofs.Unique.{record-unique}
use Rattle.b2_record.proofs.laws.values_have_one_record.Goals as goal

pub returns : goal.returns
returns c = record-unique
