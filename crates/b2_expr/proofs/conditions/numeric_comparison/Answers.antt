use Rattle.std.proofs.Common.{ℕ, sym, ap, ap₂, ◌∙◌, drop, take}
use Rattle.b2_alpha.specs.Relations.{holds}
use Rattle.b2_atom.specs.Words.{Text}
use Rattle.b2_atom.specs.Leaves.{leaf_width}
use Rattle.b2_atom.specs.declared.words.Origin.TheVariants.{Atoms}
use Rattle.b2_atom.specs.declared.forms.Leaf.TheVariants as leaf
use Rattle.b2_rows.specs.Values.{relation_of}
use Rattle.b2_expr.specs.Scope.{surroundings}
use Rattle.b2_expr.specs.Value.{in_statement}
use Rattle.b2_expr.proofs.Judging.{first_coded, second_coded, numbers_judged}
use Rattle.b2_expr.proofs.conditions.numeric_comparison.Goals as goal

pub returns-then-is_code : goal.returns-then-is_code
returns-then-is_code c =
    first_coded (in_statement (surroundings c.args.e.now)) c.args.text.now c.sum_here-left.result c.get_code.result c.coded.result c.requires.phrase c.sum_here-left.ensures c.get_code.ensures
    c.coded.ensures.value c.coded.ensures.least c.coded.ensures.most

pub returns-then-is_code-2 : goal.returns-then-is_code-2
returns-then-is_code-2 c =
    second_coded (in_statement (surroundings c.args.e.now)) c.args.text.now c.sum_here-left.result c.rest_after-other.result.now c.sum_here-right.result c.get_code-then-is_code-2.result c.coded-then-is_code-2.result
    c.requires.phrase c.sum_here-left.ensures (sym c.is_code.ensures ∙ c.if-is_code.false)
    (c.rest_after-other.ensures ∙ ap (λ (n : ℕ). drop n c.after_sum-sign.result.now) c.relation_width.ensures ∙ ap (λ (w : Text). drop (leaf_width Atoms leaf.Relation w) w) c.after_sum-sign.ensures)
    c.sum_here-right.ensures c.get_code-then-is_code-2.ensures c.coded-then-is_code-2.ensures.value c.coded-then-is_code-2.ensures.least c.coded-then-is_code-2.ensures.most

pub returns : goal.returns
returns c =
    numbers_judged (in_statement (surroundings c.args.e.now)) c.args.text.now c.sum_here-left.result c.get.result c.rest_after-other.result.now c.sum_here-right.result c.get-2.result c.holds.result c.with.result
    c.requires.phrase c.sum_here-left.ensures c.get.ensures
    (c.rest_after-other.ensures ∙ ap (λ (n : ℕ). drop n c.after_sum-sign.result.now) c.relation_width.ensures ∙ ap (λ (w : Text). drop (leaf_width Atoms leaf.Relation w) w) c.after_sum-sign.ensures)
    c.sum_here-right.ensures (sym c.is_code-2.ensures ∙ c.if-is_code-2.false) c.get-2.ensures
    (c.holds.ensures ∙ ap₂ holds (c.relation_at.ensures.value ∙ ap (λ (w : Text). relation_of (take (leaf_width Atoms leaf.Relation w) w)) c.after_sum-sign.ensures) c.cmp-order.ensures)
    c.with.ensures
