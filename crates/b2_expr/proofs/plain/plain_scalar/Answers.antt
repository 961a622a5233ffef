use Rattle.std.proofs.Common.{◌≡◌, ℕ, ◌-◌, ◌==◌, Ok, length, get_or, sym, ap, ap₂, subst, ◌∙◌, ne_eqb}
use Rattle.b2_base.specs.Byte as byte
use Rattle.b2_base.specs.Lexical.{first}
use Rattle.b2_vars.specs.declared.name.Var.{Var}
use Rattle.b2_vars.specs.Names.{scalar_named}
use Rattle.b2_expr.specs.Named.{counted_digit}
use Rattle.b2_expr.proofs.PlainSums.{HasScalar, scalar_plain}
use Rattle.b2_expr.proofs.plain.plain_scalar.Goals as goal

pub returns : goal.returns
returns c =
    let name : scalar_named c.first.result c.counted_digit.result ≡ scalar_named (first c.args.text.now) (counted_digit (get_or c.args.text.now 1 0)) =
    ap₂ scalar_named c.first.ensures (c.counted_digit.ensures.digit ∙ ap counted_digit c.at-2.ensures) in
    scalar_plain c.args.own.now c.args.text.now c.scalar-number.result c.with.result c.requires.phrase c.requires.letter
    (ap (λ (n : ℕ). get_or c.args.text.now n 0 == byte.opening) (sym c.plain_width-width.ensures) ∙ ap (λ b. b == byte.opening) (sym c.at.ensures) ∙ ne_eqb _ _ c.if-at-eq40.false)
    (subst (λ (v : Var). HasScalar c.args.own.now v c.scalar-number.result) name (c.scalar-number.ensures.value, c.scalar-number.ensures.there))
    (c.with.ensures ∙ ap (λ (n : ℕ). record { number = Ok c.scalar-number.result; left = n }) (c.saturating_sub.ensures ∙ ap (λ (n : ℕ). length c.args.text.now - n) c.plain_width-width.ensures))
