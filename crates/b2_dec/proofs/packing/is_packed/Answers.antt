use Rattle.std.proofs.Common.{eqb-true, eq-eqb, rules}
use Rattle.b2_dec.specs.Packing.{packed}
use Rattle.b2_dec.proofs.PackedWords.{word-bytes, bytes-word}
use Rattle.b2_dec.proofs.packing.is_packed.Goals as goal

pub returns : goal.returns
returns c = (
  λ e. word-bytes c.args.b.now (packed c.args.a) c.packed_word.result c.from_be_bytes.result (search rules) (search rules) c.from_be_bytes.ensures
      c.packed_word.ensures (eqb-true c.packed_word.result c.from_be_bytes.result e),
  λ e. eq-eqb c.packed_word.result c.from_be_bytes.result (bytes-word c.args.b.now (packed c.args.a) c.packed_word.result c.from_be_bytes.result
      c.packed_word.type_inv c.from_be_bytes.ensures c.packed_word.ensures e),
)
