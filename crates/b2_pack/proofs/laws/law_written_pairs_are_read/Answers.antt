use Rattle.b2_pack.proofs.WrittenPairs.{written-read, only-written}
use Rattle.b2_pack.proofs.laws.law_written_pairs_are_read.Goals as goal

pub returns : goal.returns
returns c = record { read = written-read; only = only-written }
