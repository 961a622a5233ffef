use Rattle.b2_raw.proofs.Called.{block-writes, mark-writes, record-writes}
use Rattle.b2_raw.proofs.laws.calls_write_sectors.Goals as goal

pub returns : goal.returns
returns c = record {
  record_saved = record-writes;
  mark = mark-writes;
  block = block-writes;
}
