use Rattle.std.proofs.Common.{◌∙◌, ℕ, List, get_or, sym, ap, subst}
use Rattle.b2_atom.specs.Grammar.{starts}
use Rattle.b2_atom.specs.declared.words.Origin.TheVariants.{Atoms}
use Rattle.b2_atom.specs.declared.forms.Start.TheVariants as start
use Rattle.b2_expr.specs.Answers.{TextAnswer}
use Rattle.b2_receiver.specs.Assigning.{LendsOr}
use Rattle.b2_rows.specs.Values.{line_of}
use Rattle.b2_text.specs.Program.{line_at}
use Rattle.b2_stmt_io.specs.Imaging.{line_image}
use Rattle.b2_stmt_io.proofs.UsingRows.{line_is}
use Rattle.b2_stmt_io.proofs.imaging.image_of.Goals as goal

pub returns-then-is_line_at : goal.returns-then-is_line_at
returns-then-is_line_at c =
    let lines = c.args.home.now.lines in
    let named = sym (c.if-is_line_at.ensures ∙ ap (λ (u : List ℕ). starts Atoms start.Line u) c.rest_after-text.ensures) in
    let number = c.line_at.ensures.value ∙ ap (λ (u : List ℕ). line_of (get_or u 1 0) (get_or u 2 0)) c.rest_after-text.ensures in
    subst (λ (r : TextAnswer). LendsOr r c.line_image.result)
    (ap (λ (n : ℕ). line_image (line_at n lines)) number ∙ sym (line_is lines c.args.unit.now c.requires.phrase named)) c.line_image.ensures
