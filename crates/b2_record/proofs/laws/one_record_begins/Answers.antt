use Rattle.b2_record.proofs.Unique.{length-unique, values-unique}
use Rattle.b2_record.proofs.laws.one_record_begins.Goals as goal

pub returns : goal.returns
returns c = record { sectors = length-unique; values = values-unique }
