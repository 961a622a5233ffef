use Rattle.std.proofs.Common.{ℕ, ◌==◌, ◌∙◌, ap, sym, drop}
use Rattle.b2_base.specs.Byte as byte
use Rattle.b2_base.specs.Lexical.{first}
use Rattle.b2_atom.specs.Words.{Text}
use Rattle.b2_rows.specs.declared.leaves.Name.{Name}
use Rattle.b2_expr.specs.Scope.{hidden_by}
use Rattle.b2_expr.specs.Value.{context}
use Rattle.b2_expr.proofs.Names.{hidden_some}
use Rattle.b2_expr.proofs.evaluate.hidden_at.Goals as goal

pub returns-clause-some : goal.returns-clause-some
returns-clause-some c =
    hidden_some (context c.args.s.now) c.args.text.now c.hidden_by.result c.requires.phrase
    (ap (λ (t : Text). first t == byte.opening) (ap (λ (n : ℕ). drop n c.args.text.now) (sym c.numeric_name-width.ensures.width) ∙ sym c.rest_after.ensures) ∙ sym c.is_at.ensures ∙ c.if-is_at.false)
    (c.hidden_by.ensures ∙ ap (λ (name : Name). hidden_by c.args.s.now.parameter name) c.numeric_name-width.ensures.value)
