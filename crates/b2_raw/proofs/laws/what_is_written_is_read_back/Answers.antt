use Rattle.b2_raw.proofs.Called.{block-read, mark-loaded, record-loaded}
use Rattle.b2_raw.proofs.laws.what_is_written_is_read_back.Goals as goal

pub returns : goal.returns
returns c = record {
  record_saved = record-loaded;
  mark = mark-loaded;
  block = block-read;
}
