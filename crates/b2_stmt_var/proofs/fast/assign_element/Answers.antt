use Rattle.std.proofs.Common.{rules, ◌≡◌, true, sym, subst}
use Rattle.b2_atom.specs.Words.{Text}
use Rattle.b2_atom.specs.declared.rows.TheConstants as row
use Rattle.b2_rows.specs.Rows.{is_phrase}
use Rattle.b2_stmt_var.specs.Fast.{own_work}
use Rattle.b2_stmt_var.proofs.OneReceiver.{number_assigned, sum_part}
use Rattle.b2_stmt_var.proofs.fast.assign_element.Goals as goal

pub number_here-x-requires : goal.number_here-x-requires
number_here-x-requires c =
    record {
      phrase = subst (λ (u : Text). is_phrase row.SUM u ≡ true) (sym c.rest_after.ensures)
          (sum_part c.args.text.now c.in-Ok.found.1.now c.requires.phrase c.requires.kind c.in-Ok.ensures.place.1 (search rules));
    }

pub returns-clause-done : goal.returns-clause-done
returns-clause-done c done =
    number_assigned (own_work c.args.me.now c.args.home.now) c.args.text.now c.in-Ok.found.1.now c.in-Ok.found.0 c.number_here-x.result c.get.result _ c.requires.phrase c.requires.kind
    c.in-Ok.ensures.place.0 c.in-Ok.ensures.place.1 (search rules) (search rules) (search rules) c.get.ensures (c.assign_number_to.ensures.uncoded done) (c.assign_number_to.ensures.set done)
