use Rattle.std.proofs.Common.{◌∷◌, [], ap, ◌∙◌, sym, if◌then◌else◌}
use Rattle.b2_pack.proofs.RowLemmas.{sign-at, digit-beside}
use Rattle.b2_pack.proofs.rows.row_nibble.Goals as goal

pub returns-then-is_negative-clause-nibble : goal.returns-then-is_negative-clause-nibble
returns-then-is_negative-clause-nibble c =
    sign-at c.args.row c.args.x c.args.place 13 c.in-After.is c.if-place-row.true (ap (λ neg. (if neg then 13 else 12) ∷ []) (sym c.is_negative-then-place-row.ensures.value ∙ c.if-is_negative.true))

pub returns-else-is_negative-clause-nibble : goal.returns-else-is_negative-clause-nibble
returns-else-is_negative-clause-nibble c =
    sign-at c.args.row c.args.x c.args.place 12 c.in-After.is c.if-place-row.true (ap (λ neg. (if neg then 13 else 12) ∷ []) (sym c.is_negative-then-place-row.ensures.value ∙ c.if-is_negative.false))

pub returns-else-place-row-clause-nibble : goal.returns-else-place-row-clause-nibble
returns-else-place-row-clause-nibble c =
    c.digit_at-else-place-row.ensures.digit ∙ digit-beside c.args.row c.args.x c.args.place c.in-After.is c.if-place-row.false
