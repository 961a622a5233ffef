use Rattle.std.proofs.Common.{ℕ, List, ◌<◌, ◌∙◌, ap, length, get_or, arith}
use Rattle.std.proofs.lemmas.List.{get_or_default, length-set}
use Rattle.b2_text.specs.Blocks.{no_place}
use Rattle.b2_text.proofs.Numbering.{forget_step}
use Rattle.b2_text.proofs.table.forget_lines.Goals as goal

pub loop-i-preserved : goal.loop-i-preserved
loop-i-preserved c =
    let places = c.args.gone.now in
    let inside : c.loop-i.i < length places = c.loop-i-test.true in
    let table = c.loop-i.table.items in
    let s = get_or places c.loop-i.i no_place in
    let few = c.requires.small c.loop-i.i inside in
    let same = c.loop-i.invariant.long in
    let small : s.number < length table = omega (arith, few, same) in
    record {
      long = ap (λ (t : List ℕ). length t) c.put_place_under.ensures ∙ length-set table s.number 0 ∙ c.loop-i.invariant.long;
      rest = λ n block.
          forget_step block places c.loop-i.i n table c.put_place_under.new.table.items s inside (get_or_default places c.loop-i.i no_place s inside) small c.put_place_under.ensures
          ∙ c.loop-i.invariant.rest n block;
    }
