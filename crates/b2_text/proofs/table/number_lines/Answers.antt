use Rattle.std.proofs.Common.{ℕ, List, ◌<◌, ◌+◌, ◌∙◌, ap, length, arith}
use Rattle.std.proofs.lemmas.List.{length-set}
use Rattle.b2_text.specs.declared.block.LinePlace.{LinePlace}
use Rattle.b2_text.proofs.Finding.{place_read}
use Rattle.b2_text.proofs.Numbering.{number_step}
use Rattle.b2_text.proofs.table.number_lines.Goals as goal

pub loop-i-preserved : goal.loop-i-preserved
loop-i-preserved c =
    let places = c.args.places.now.items in
    let inside : c.loop-i.i < length places = omega (arith, c.loop-i-test.true, c.len-i-end.ensures) in
    let table = c.loop-i.table.items in
    let s = c.index-place.result.now in
    let read = ap (λ (p : LinePlace). p.number) (place_read places c.loop-i.i s inside c.index-place.ensures) in
    let few = c.requires.small c.loop-i.i inside in
    let same = c.loop-i.invariant.long in
    let small : s.number < length table = omega (arith, read, few, same) in
    record {
      long = ap (λ (t : List ℕ). length t) c.put_place_under.ensures ∙ length-set table s.number (c.loop-i.i + 1) ∙ c.loop-i.invariant.long;
      rest = λ n block.
          number_step block places c.loop-i.i n table c.put_place_under.new.table.items s inside c.index-place.ensures small c.put_place_under.ensures
          ∙ c.loop-i.invariant.rest n block;
    }
