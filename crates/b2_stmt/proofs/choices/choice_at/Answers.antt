use Rattle.std.proofs.Common.{rules, ◌≡◌, true, drop, subst}
use Rattle.b2_atom.specs.Words.{Text}
use Rattle.b2_atom.specs.declared.rows.TheConstants as row
use Rattle.b2_rows.specs.Rows.{after_phrase, is_list}
use Rattle.b2_rows.specs.CommaLists.{commas}
use Rattle.b2_stmt.proofs.ChoiceRows.{on_list}
use Rattle.b2_stmt.proofs.choices.choice_at.Goals as goal

pub line_after_word-requires-clause-list : goal.line_after_word-requires-clause-list
line_after_word-requires-clause-list c =
    let same : after_phrase row.SUM (drop 1 c.args.unit.now) ≡ c.rest-listed.result.now = search rules in
    subst (λ (u : Text). is_list commas row.COMMA_LINE (drop 3 (drop 1 u)) ≡ true) same (on_list c.args.unit.now c.requires.phrase)
