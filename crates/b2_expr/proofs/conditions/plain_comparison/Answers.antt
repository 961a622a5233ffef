use Rattle.std.proofs.Common.{ℕ, refl, ap, ap₂, ◌∙◌, drop, take}
use Rattle.b2_alpha.specs.Relations.{holds}
use Rattle.b2_atom.specs.Words.{Text}
use Rattle.b2_atom.specs.Leaves.{leaf_width}
use Rattle.b2_atom.specs.declared.words.Origin.TheVariants.{Atoms}
use Rattle.b2_atom.specs.declared.forms.Leaf.TheVariants as leaf
use Rattle.b2_rows.specs.Values.{relation_of}
use Rattle.b2_expr.specs.Scope.{surroundings}
use Rattle.b2_expr.specs.Value.{in_statement}
use Rattle.b2_expr.proofs.PlainTexts.{plain_judged}
use Rattle.b2_expr.proofs.conditions.plain_comparison.Goals as goal

pub returns : goal.returns
returns c low =
    plain_judged (in_statement (surroundings c.args.e.now)) c.args.e.now.own.now c.args.text.now c.in-Some.sign.now c.rest_after.result.now c.in-Some.left.now c.in-Some-plain_text.right.now c.in-Some-plain_text.rest.now
    c.holds.result c.with.result c.requires.phrase refl refl c.in-Some.ensures
    (c.rest_after.ensures ∙ ap (λ (n : ℕ). drop n c.in-Some.sign.now) c.relation_width.ensures ∙ ap (λ (w : Text). drop (leaf_width Atoms leaf.Relation w) w) c.in-Some.ensures.1)
    c.in-Some-plain_text.ensures
    (c.holds.ensures ∙ ap₂ holds (c.relation_at.ensures.value ∙ ap (λ (w : Text). relation_of (take (leaf_width Atoms leaf.Relation w) w)) c.in-Some.ensures.1) c.compare-order.ensures)
    c.with.ensures
