use Rattle.b2_pack.proofs.NibbleLemmas.{nibble-even, nibble-odd}
use Rattle.b2_pack.proofs.nibbles.nibble_at.Goals as goal

pub returns-then-place-eq0-clause-nibble : goal.returns-then-place-eq0-clause-nibble
returns-then-place-eq0-clause-nibble c = nibble-even c.args.bytes.now c.args.place c.if-place-eq0.true

pub returns-else-place-eq0-clause-nibble : goal.returns-else-place-eq0-clause-nibble
returns-else-place-eq0-clause-nibble c = nibble-odd c.args.bytes.now c.args.place c.if-place-eq0.false
