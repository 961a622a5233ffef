use Rattle.std.proofs.Common.{◌≡◌, true, sym, ◌∙◌}
use Rattle.b2_pack.specs.Nibbles.{nibbles}
use Rattle.b2_pack.specs.Rows.{are_digits}
use Rattle.b2_pack.proofs.RowLemmas.{decimal-digits}
use Rattle.b2_pack.proofs.rows.number_of_row.Goals as goal

pub digits_number-requires-clause-decimal : goal.digits_number-requires-clause-decimal
digits_number-requires-clause-decimal c =
    let all : are_digits c.args.row.sign c.args.row.digits (nibbles c.args.bytes.now) ≡ true = sym c.are_digits.ensures ∙ c.if-not-are_digits.false in
    rw c.digits_start-start.ensures.start (decimal-digits c.args.row.sign c.args.row.digits (nibbles c.args.bytes.now) all)
