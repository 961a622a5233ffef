use Rattle.std.proofs.Common.{rules, ◌≡◌, ◌∙◌, ◌≤◌, ◌++◌, ◌∷◌, sym, ap, subst, arith}
use Rattle.b2_text.specs.Program.{Lines, TextState, size_of}
use Rattle.b2_progfile.proofs.Merging.{AllSmall, small-lines}
use Rattle.b2_progfile.proofs.Gathering.{fits-next, rest-next}
use Rattle.b2_progfile.proofs.gathered.refill.Goals as goal

pub loop-number-init : goal.loop-number-init
loop-number-init c =
    let same : c.into_iter-number-iterator.result ≡ c.args.lines.now.entries = cc in
    let none = ap (λ (t : TextState). t.lines) c.clear.ensures in
    record {
      all = (λ x. none x ++ same x);
      area = ap (λ (t : TextState). t.area) c.clear.ensures;
      small = subst AllSmall (sym same) (small-lines c.args.lines.now.entries c.requires.numbers);
    }

pub put_fitting-requires-clause-fits : goal.put_fitting-requires-clause-fits
put_fitting-requires-clause-fits c =
    let there = c.loop-number.t.lines in
    let step : c.loop-number.number-iterator ≡ (c.in-Some.number.now, c.in-Some.atoms.now) ∷ c.next.new.self = search rules in
    let is = ap (λ (ls : Lines). there ++ ls) (sym step) ∙ c.loop-number.invariant.all in
    let same = c.loop-number.invariant.area in
    let fits = c.requires.fits in
    fits-next (c.in-Some.number.now, c.in-Some.atoms.now) there c.next.new.self c.args.lines.now.entries c.loop-number.t.area is c.requires.sorted (omega (arith, same, fits))

pub loop-number-preserved : goal.loop-number-preserved
loop-number-preserved c =
    let there = c.loop-number.t.lines in
    let step : c.loop-number.number-iterator ≡ (c.in-Some.number.now, c.in-Some.atoms.now) ∷ c.next.new.self = search rules in
    let is = ap (λ (ls : Lines). there ++ ls) (sym step) ∙ c.loop-number.invariant.all in
    record {
      all = rest-next (c.in-Some.number.now, c.in-Some.atoms.now) there c.put_fitting.new.t.lines c.next.new.self c.args.lines.now.entries is c.requires.sorted
          (ap (λ (t : TextState). t.lines) c.put_fitting.ensures);
      area = ap (λ (t : TextState). t.area) c.put_fitting.ensures ∙ c.loop-number.invariant.area;
      small = (subst AllSmall step c.loop-number.invariant.small).1;
    }
