use Rattle.std.proofs.Common.{◌-◌, false, sym, ap, ◌∙◌}
use Rattle.b2_dec.specs.declared.number.Mode.TheVariants.{Round}
use Rattle.b2_dec.specs.Rounding.{rnd}
use Rattle.b2_expr.proofs.WrittenNumbers.{digit_finds}
use Rattle.b2_expr.proofs.literals.written_number_at.Goals as goal

pub returns : goal.returns
returns c =
    digit_finds c.args.text.now c.number_of_digit.result c.with.result c.requires.phrase (sym c.if-not-is_one_digit.ensures)
    (ap (λ b. rnd Round false (b - 48) 1) (sym c.first.ensures) ∙ c.number_of_digit.ensures) c.with.ensures
