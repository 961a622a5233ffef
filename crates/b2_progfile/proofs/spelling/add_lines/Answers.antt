use Rattle.std.proofs.Common.{rules, ◌∙◌, ◌++◌, sym, ap, append-nil}
use Rattle.b2_text.specs.Program.{Lines}
use Rattle.b2_progfile.specs.Programs.{all_line_bytes}
use Rattle.b2_progfile.proofs.Numbers.{AllLines, between-nothing, ascending-between}
use Rattle.b2_progfile.proofs.spelling.add_lines.Goals as goal

pub returns-then-from-to-clause-bytes : goal.returns-then-from-to-clause-bytes
returns-then-from-to-clause-bytes c =
    sym (ap (λ (lines : Lines). c.args.out.now.items ++ all_line_bytes lines) (between-nothing c.args.from c.args.to c.args.t.now.lines c.if-from-to.true) ∙ append-nil c.args.out.now.items)

pub returns-then-from-to-clause-ascending : goal.returns-then-from-to-clause-ascending
returns-then-from-to-clause-ascending c = rw (between-nothing c.args.from c.args.to c.args.t.now.lines c.if-from-to.true) tt

pub returns-clause-ascending : goal.returns-clause-ascending
returns-clause-ascending c =
    let none : AllLines c.loop-line.left = search rules in
    ascending-between c.args.from c.args.to c.args.t.now.lines c.requires c.next_after-first.ensures.ascending (c.loop-line.invariant.lines none)
