use Rattle.std.proofs.Common.{◌*◌, ◌∙◌, ℕ, ap, sym, arith}
use Rattle.b2_dec.specs.Number.{zero_number}
use Rattle.b2_matrix.specs.Arrays.{filling, along_rows}
use Rattle.b2_matrix.proofs.Making.{made_is}
use Rattle.b2_matrix.proofs.filling.fill.Goals as goal

pub returns-clause-elements : goal.returns-clause-elements
returns-clause-elements c =
    made_is (filling c.args.k) zero_number c.args.rows c.columns_of-width.result c.loop-place.into (c.loop-place.auto.into ∙ c.requires ∙ ap (λ (w : ℕ). c.args.rows * w) (sym c.columns_of-width.ensures.value)) (λ p inside. c.loop-place.invariant p (omega arith))
    ∙ ap (λ (w : ℕ). along_rows c.args.rows w (filling c.args.k)) c.columns_of-width.ensures.value
