use Rattle.std.proofs.Common.{rules, ◌≡◌, true, sym, subst}
use Rattle.b2_atom.specs.Words.{Text}
use Rattle.b2_atom.specs.declared.rows.TheConstants as row
use Rattle.b2_rows.specs.Rows.{is_phrase}
use Rattle.b2_stmt_var.specs.Fast.{own_work}
use Rattle.b2_stmt_var.proofs.OneReceiver.{side_part, text_assigned}
use Rattle.b2_stmt_var.proofs.fast.assign_text.Goals as goal

pub text_here-requires-clause-phrase : goal.text_here-requires-clause-phrase
text_here-requires-clause-phrase c =
    subst (λ (u : Text). is_phrase row.ALPHA u ≡ true) (sym c.rest_after-side.ensures)
    (side_part c.args.text.now c.in-Ok.found.1.now c.requires.phrase c.requires.kind c.in-Ok.ensures.place.1 (search rules) (search rules))

pub returns-clause-done : goal.returns-clause-done
returns-clause-done c done =
    text_assigned (own_work c.args.me.now c.args.home.now) c.args.text.now c.in-Ok.found.1.now c.in-Ok-text_here.left.now c.in-Ok.found.0 c.bytes.result.now _ c.requires.phrase c.requires.kind
    c.in-Ok.ensures.place.0 c.in-Ok.ensures.place.1 (search rules) (search rules) (search rules) (search rules) (search rules) (search rules) (c.set_text.ensures.uncoded done) (c.set_text.ensures.set done)
