use Rattle.b2_atom.proofs.lines.Units.{shorter}
use Rattle.b2_atom.proofs.spans.span_between.Goals as goal

pub overflow_sub-width : goal.overflow_sub-width
overflow_sub-width c = shorter c.args.left.now c.args.rest.now c.args.position c.requires.rest
