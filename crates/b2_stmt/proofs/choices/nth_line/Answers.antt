use Rattle.std.proofs.Common.{rules, ◌≡◌, ◌==◌, ◌-◌, ◌+◌, true, false, drop, slice_get, sym, subst, ◌∙◌}
use Rattle.b2_base.specs.Byte as byte
use Rattle.b2_base.specs.Lexical.{first}
use Rattle.b2_atom.specs.Words.{Text}
use Rattle.b2_atom.specs.declared.forms.Leaf.TheVariants as leaf
use Rattle.b2_atom.specs.declared.rows.TheConstants as row
use Rattle.b2_rows.specs.Leaves.{is_leaf}
use Rattle.b2_rows.specs.Rows.{is_list}
use Rattle.b2_stmt.specs.Lines.{lines_at}
use Rattle.b2_rows.specs.CommaLists.{commas}
use Rattle.b2_stmt.proofs.ChoiceRows.{none_line, on_line, other_here, other_list}
use Rattle.b2_stmt.proofs.choices.nth_line.Goals as goal

pub returns-then-not-is_at : goal.returns-then-not-is_at
returns-then-not-is_at c =
    let none : (first (drop 3 c.loop.left.now) == byte.comma) ≡ false = search rules in
    sym (none_line c.loop.left.now c.args.k c.loop.counter none c.loop-test.true) ∙ c.loop.invariant.line

pub loop-preserved : goal.loop-preserved
loop-preserved c =
    let i = c.loop.invariant in
    let is : (first (drop 3 c.loop.left.now) == byte.comma) ≡ true = search rules in
    let same : drop 1 (drop 3 c.loop.left.now) ≡ c.rest_after-left.result.now = search rules in
    record {
      first = subst (λ (u : Text). is_leaf leaf.LineNumber u ≡ true) same (other_here (drop 3 c.loop.left.now) i.list is);
      list = subst (λ (u : Text). is_list commas row.COMMA_LINE (drop 3 u) ≡ true) same (other_list (drop 3 c.loop.left.now) i.list is);
      line = subst (λ (u : Text). slice_get (lines_at u) (c.args.k - (c.loop.counter + 1)) ≡ slice_get (lines_at c.args.text.now) c.args.k) same
          (on_line c.loop.left.now c.args.k c.loop.counter i.list is c.loop-test.true ∙ i.line);
    }
