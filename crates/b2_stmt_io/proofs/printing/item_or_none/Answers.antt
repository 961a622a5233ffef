use Rattle.std.proofs.Common.{◌≡◌, ◌∙◌, sym, ap, true, Ok}
use Rattle.b2_atom.specs.Grammar.{starts}
use Rattle.b2_atom.specs.declared.words.Origin.TheVariants.{Atoms}
use Rattle.b2_atom.specs.declared.forms.Start.TheVariants as start
use Rattle.b2_expr.specs.Scope.{surroundings}
use Rattle.b2_expr.specs.Value.{in_statement}
use Rattle.b2_stmt_io.specs.Outlets.{width_of}
use Rattle.b2_stmt_io.specs.Printing.{Page}
use Rattle.b2_stmt_io.proofs.Printed.{one_fault, one_past, one_rest, one_shown, one_some}
use Rattle.b2_stmt_io.proofs.printing.item_or_none.Goals as goal

pub returns : goal.returns
returns c =
    let s : Page = record { context = in_statement (surroundings c.args.e.now); outlet = c.args.outlet.now } in
    let t = c.args.c.now in
    let after = c.item_shown.result.column in
    let begun : starts Atoms start.PrintItem t ≡ true = cc in
    record {
      text = λ ok. one_shown (width_of c.args.outlet.now) s t c.args.out.now.items c.item_shown.new.out.items c.args.column after begun (c.item_shown.ensures.text ok);
      at = λ ok. one_past (width_of c.args.outlet.now) s t c.args.column after begun (c.item_shown.ensures.at ok);
      is = λ ok. one_some (width_of c.args.outlet.now) s t c.args.column after begun (c.item_shown.ensures.at ok) ∙ ap Ok (sym (c.item_shown.ensures.is ok));
      past = λ ok. c.item_shown.ensures.past ok ∙ sym (one_rest t begun);
      code = λ bad. one_fault s t c.item_shown.new.fault begun (c.item_shown.ensures.code bad);
    }
