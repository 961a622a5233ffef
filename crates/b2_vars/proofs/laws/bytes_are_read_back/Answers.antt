use Rattle.b2_vars.proofs.Overwriting.{part-overwritten, take-overwritten, drop-overwritten, length-overwritten}
use Rattle.b2_vars.proofs.laws.bytes_are_read_back.Goals as goal

pub returns : goal.returns
returns c = record {
  read = λ x from bytes fits. part-overwritten from bytes x.bytes fits;
  before = λ x from bytes fits. take-overwritten from bytes x.bytes fits;
  after = λ x from bytes fits. drop-overwritten from bytes x.bytes fits;
  count = λ x from bytes. length-overwritten from bytes x.bytes;
}
