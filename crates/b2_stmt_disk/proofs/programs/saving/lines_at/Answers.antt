use Rattle.std.proofs.Common.{◌≡◌, ◌∙◌, ◌==◌, List, ℕ, true, drop, ap, sym, subst}
use Rattle.b2_base.specs.Byte as byte
use Rattle.b2_base.specs.Lexical.{first}
use Rattle.b2_atom.specs.declared.forms.Leaf.TheVariants as leaf
use Rattle.b2_rows.specs.Leaves.{is_leaf}
use Rattle.b2_stmt_disk.proofs.of_programs.SaveRows.{second_here, second_text}
use Rattle.b2_stmt_disk.proofs.programs.saving.lines_at.Goals as goal

-- the second line stands after the first one and its comma
pub line_at-requires : goal.line_at-requires
line_at-requires c =
    let t = c.args.text.now in
    let at : c.rest_after-after.result.now ≡ second_text t = c.rest_after-after.ensures ∙ ap (drop 3) c.rest_after-line.ensures in
    let begins : (first t == byte.comma) ≡ true = sym c.if-not-is_at.ensures in
    let follows : (first (second_text t) == byte.comma) ≡ true = ap (λ (u : List ℕ). first u == byte.comma) (sym at) ∙ sym c.if-is_at.ensures in
    subst (λ (u : List ℕ). is_leaf leaf.LineNumber u ≡ true) (sym (c.rest_after.ensures ∙ ap (drop 1) at)) (second_here t c.requires.phrase begins follows)
