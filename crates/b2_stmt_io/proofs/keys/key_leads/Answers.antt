use Rattle.std.proofs.Common.{◌∙◌, sym, ap, List, ℕ}
use Rattle.b2_atom.specs.declared.forms.Leaf.TheVariants as leaf
use Rattle.b2_rows.specs.Leaves.{is_leaf}
use Rattle.b2_access.specs.Jumps.{to_line}
use Rattle.b2_stmt_io.proofs.KeyRows.{line_at, second_here, to_first, to_second}
use Rattle.b2_stmt_io.proofs.keys.key_leads.Goals as goal

pub line_at-requires : goal.line_at-requires
line_at-requires c =
    ap (λ (u : List ℕ). is_leaf leaf.LineNumber u) c.other_named.ensures ∙ second_here c.args.text.now c.requires.phrase (sym c.if-not-is_at.ensures)

pub returns-then-special : goal.returns-then-special
returns-then-special c =
    let lines = c.args.home.now.lines in
    c.to_line.ensures ∙ ap (to_line lines c.args.place) (c.line_at.ensures.value ∙ ap line_at c.other_named.ensures)
    ∙ sym (to_second c.args.special lines c.args.place c.args.text.now c.requires.phrase (sym c.if-not-is_at.ensures) c.if-special.true)

pub returns-else-special : goal.returns-else-special
returns-else-special c =
    let lines = c.args.home.now.lines in
    c.to_line-else-special.ensures ∙ ap (to_line lines c.args.place) (c.line_at-else-special.ensures.value ∙ ap line_at c.rest_after.ensures)
    ∙ sym (to_first c.args.special lines c.args.place c.args.text.now c.requires.phrase (sym c.if-not-is_at.ensures) c.if-special.false)
