-- What factors come to: a power, with a sign before it or none.
use Rattle.std.proofs.Common.{◌≡◌, true, false, drop, refl, ap, ◌∙◌, Ok, Err}
use Rattle.b2_base.specs.Lexical.{first}
use Rattle.b2_atom.specs.Words.{Text}
use Rattle.b2_atom.specs.declared.rows.TheConstants as row
use Rattle.b2_rows.specs.Rows.{is_phrase, tree_at}
use Rattle.b2_rows.specs.Chains.{is_sign}
use Rattle.b2_rows.proofs.EachChain as each
use Rattle.b2_expr.specs.Answers.{Answer, ◌>>=◌}
use Rattle.b2_expr.specs.Operators.{under_sign}
use Rattle.b2_expr.specs.Scope.{Context}
use Rattle.b2_expr.specs.Value.{value}
use Rattle.b2_expr.specs.declared.operators.Level.TheVariants as level

pub signed_value : (e : Context) (t : Text) → is_phrase row.FACTOR t ≡ true → is_sign (first t) ≡ true
    → value e level.Factor (tree_at row.FACTOR t) ≡ (value e level.Power (tree_at row.POWER (drop 1 t)) >>= under_sign e.around.mode (first t))
unfolding value
signed_value e t ok is =
    ap (value e level.Factor) (each.signed_tree t ok is)
    ∙ ap (λ c. value e level.Power (tree_at row.POWER (drop 1 t)) >>= under_sign e.around.mode c) (each.signed_code t ok is)

-- a number whose sign isn't written
plainly : (x : Answer) → (x >>= (λ v. Ok v)) ≡ x
plainly (Ok v) = refl
plainly (Err code) = refl

pub plain_value : (e : Context) (t : Text) → is_phrase row.FACTOR t ≡ true → is_sign (first t) ≡ false
    → value e level.Factor (tree_at row.FACTOR t) ≡ value e level.Power (tree_at row.POWER t)
unfolding value
plain_value e t ok is = ap (value e level.Factor) (each.plain_tree t ok is) ∙ plainly (value e level.Power (tree_at row.POWER t))
