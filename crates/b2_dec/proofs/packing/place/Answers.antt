use Rattle.b2_dec.proofs.PackedWords.{place-low, place-high}
use Rattle.b2_dec.proofs.packing.place.Goals as goal

pub returns-then-head-ge8-clause-value : goal.returns-then-head-ge8-clause-value
returns-then-head-ge8-clause-value c x h e same = place-low x c.args.head c.args.size h e same c.if-head-ge8.true

pub returns-else-head-ge8-clause-value : goal.returns-else-head-ge8-clause-value
returns-else-head-ge8-clause-value c x h e same = place-high x c.args.head c.args.size h e same c.if-head-ge8.false
