use Rattle.std.proofs.Common.{List, ℕ, ap, length, arith}
use Rattle.b2_atom.proofs.lines.Units.{short_line}
use Rattle.b2_text.proofs.spots.heading.Goals as goal

pub overflow_cast-result-3 : goal.overflow_cast-result-3
overflow_cast-result-3 c =
    let short = short_line c.args.line.now c.bytes.ensures.line in
    let same = ap (λ (b : List ℕ). length b) c.bytes.ensures.value in
    omega (arith, short, same)
