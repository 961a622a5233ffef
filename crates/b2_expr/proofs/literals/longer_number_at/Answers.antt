use Rattle.std.proofs.Common.{sym, ◌∙◌}
use Rattle.b2_expr.proofs.WrittenNumbers.{whole_taken, pointed_taken}
use Rattle.b2_expr.proofs.literals.longer_number_at.Goals as goal

pub ended-requires-clause-value : goal.ended-requires-clause-value
ended-requires-clause-value c stop end =
    (whole_taken c.args.text.now _ _ c.requires.phrase c.take_digits-whole.ensures.value c.take_digits-whole.ensures.rest (λ e. c.if-first-ne46.true (c.first.ensures ∙ e)) stop end).0

pub ended-requires-clause-rest : goal.ended-requires-clause-rest
ended-requires-clause-rest c stop end =
    (whole_taken c.args.text.now _ _ c.requires.phrase c.take_digits-whole.ensures.value c.take_digits-whole.ensures.rest (λ e. c.if-first-ne46.true (c.first.ensures ∙ e)) stop end).1

pub ended-requires-2-clause-value : goal.ended-requires-2-clause-value
ended-requires-2-clause-value c stop end =
    (pointed_taken c.args.text.now _ _ _ _ _ c.requires.phrase c.take_digits-whole.ensures.value c.take_digits-whole.ensures.rest (sym c.first.ensures ∙ c.if-first-ne46.false) c.rest_after-fraction.ensures
    c.take_digits-digits.ensures.value c.take_digits-digits.ensures.rest stop end).0

pub ended-requires-2-clause-rest : goal.ended-requires-2-clause-rest
ended-requires-2-clause-rest c stop end =
    (pointed_taken c.args.text.now _ _ _ _ _ c.requires.phrase c.take_digits-whole.ensures.value c.take_digits-whole.ensures.rest (sym c.first.ensures ∙ c.if-first-ne46.false) c.rest_after-fraction.ensures
    c.take_digits-digits.ensures.value c.take_digits-digits.ensures.rest stop end).1
