use Rattle.std.proofs.Common.{◌≡◌, drop, sym, ap, ◌∙◌, None}
use Rattle.std.proofs.lemmas.List.{take_rest}
use Rattle.b2_print.specs.Images.{field_at}
use Rattle.b2_print.proofs.LineLemmas.{literals_more, literals_all}
use Rattle.b2_print.proofs.imaging.first_field.Goals as goal

pub loop-at-preserved : goal.loop-at-preserved
loop-at-preserved c =
    let image = c.args.image.now in
    let here : field_at (drop c.loop-at.at image) ≡ None = ap field_at (sym (take_rest image c.loop-at.at)) ∙ sym c.in_default.ensures.field in
    c.loop-at.invariant ∙ literals_more image c.loop-at.at c.loop-at-test.true here

pub returns : goal.returns
returns c = c.loop-at.invariant ∙ literals_all c.args.image.now c.loop-at.at c.loop-at-test.false
