use Rattle.std.proofs.Common.{◌≡◌, ◌∙◌, ℕ, ◌==◌, true, [], ◌∷◌, drop, get_or, not, is_some, Some, IfOk, Result, refl, sym, ap, subst}
use Rattle.b2_base.specs.Byte as byte
use Rattle.b2_base.specs.Lexical.{first, is_letter}
use Rattle.b2_dec.specs.Number.{Number}
use Rattle.b2_dec.specs.declared.values.Value.TheVariants as value
use Rattle.b2_atom.specs.Words.{Text}
use Rattle.b2_vars.specs.Calls.{set_code, with_change, with_scalar}
use Rattle.b2_vars.specs.Names.{scalar_named}
use Rattle.b2_vars.specs.Shapes.{cell_at}
use Rattle.b2_vars.specs.Tables.{shape_at}
use Rattle.b2_vars.specs.Variables.{with_number}
use Rattle.b2_vars.specs.declared.name.Var.{Var}
use Rattle.b2_expr.specs.Named.{counted_digit, plain_width}
use Rattle.b2_stmt.specs.Arguments.{past_number}
use Rattle.b2_stmt.proofs.FastCalls.{number_taken}
use Rattle.b2_stmt.proofs.fast.take_number.Goals as goal

pub returns-clause-takes : goal.returns-clause-takes
returns-clause-takes c =
    let f = c.args.found.now in
    let me = c.args.me.now in
    let t = f.unit.now.bytes.now in
    let u = drop 1 (past_number t) in
    let text : c.past_number-text.result.now ≡ past_number t = c.past_number-text.ensures in
    let name : c.rest_after-name.result.now ≡ u = c.rest_after-name.ensures ∙ ap (λ (w : Text). drop 1 w) text in
    let letter : c.first-letter.result ≡ first u = c.first-letter.ensures ∙ ap first name in
    let opening : (first (past_number t) == byte.opening) ≡ true = sym (c.is_at.ensures ∙ ap (λ (w : Text). first w == byte.opening) text) ∙ c.if-not-is_at.false in
    let lettered : is_letter (first u) ≡ true = ap is_letter (sym letter) ∙ sym c.is_letter.ensures ∙ c.if-not-is_letter.false in
    let closing : get_or u (plain_width u) 0 ≡ byte.closing =
    ap (λ (w : Text). get_or w (plain_width w) 0) (sym name) ∙ ap (λ (n : ℕ). get_or c.rest_after-name.result.now n 0) (sym c.plain_width.ensures) ∙ sym c.at.ensures ∙ c.if-at-ne41.false in
    let digit : c.counted_digit.result ≡ counted_digit (get_or u 1 0) = c.counted_digit.ensures.digit ∙ ap counted_digit (c.at-2.ensures ∙ ap (λ (w : Text). get_or w 1 0) name) in
    let v : scalar_named c.first-letter.result c.counted_digit.result ≡ scalar_named (first u) (counted_digit (get_or u 1 0)) =
    ap (λ (l : ℕ). scalar_named l c.counted_digit.result) letter ∙ ap (scalar_named (first u)) digit in
    let args : me.args ≡ Some (value.Number c.get.result ∷ []) = subst (λ (r : Result Number ℕ). IfOk r (λ x. me.args ≡ Some (value.Number x ∷ []))) c.get.ensures c.number_alone-x.ensures in
    number_taken f me _ c.get.result c.set_scalar.new.self c.set_scalar.result c.requires.phrase opening lettered closing args c.if-not-set_scalar.false
    (c.set_scalar.ensures.room ∙ ap (λ (w : Var). not (is_some (set_code w 0 0 me.vars))) v)
    (c.set_scalar.ensures.set c.if-not-set_scalar.false ∙ ap (λ (w : Var). with_change w (with_number (cell_at (shape_at w me.vars.table) 0 0) c.get.result) (with_scalar w me.vars)) v)
    refl
