use Rattle.b2_dectext.proofs.Scales.{leading-kept, leading-left}
use Rattle.b2_dectext.proofs.leading.with_digit.Goals as goal

pub returns-then-leading-lt-COEFFICIENT_LIMIT-clause-value : goal.returns-then-leading-lt-COEFFICIENT_LIMIT-clause-value
returns-then-leading-lt-COEFFICIENT_LIMIT-clause-value c n h = leading-kept n _ _ c.args.digit c.requires.decimal c.if-leading-lt-COEFFICIENT_LIMIT.true h

pub returns-else-leading-lt-COEFFICIENT_LIMIT-clause-value : goal.returns-else-leading-lt-COEFFICIENT_LIMIT-clause-value
returns-else-leading-lt-COEFFICIENT_LIMIT-clause-value c n h = leading-left n _ _ c.args.digit c.requires.decimal c.if-leading-lt-COEFFICIENT_LIMIT.false h
