use Rattle.b2_record.proofs.Unique.{reading-unique}
use Rattle.b2_record.proofs.laws.sectors_have_one_reading.Goals as goal

pub returns : goal.returns
returns c = reading-unique
