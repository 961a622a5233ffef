use Rattle.std.proofs.Common.{◌≡◌, get_or, set, refl, ap, ◌∙◌, arith}
use Rattle.std.specs.Int.{w8, rotate_left}
use Rattle.std.proofs.lemmas.List.{get_or_default}
use Rattle.std.proofs.lemmas.List.Edits.{map_over_more}
use Rattle.b2_alpha.specs.Bits.{turned}
use Rattle.b2_alpha.proofs.Turning.{byte_turned}
use Rattle.b2_alpha.proofs.Carrying.{below_set}
use Rattle.b2_alpha.proofs.bits.turn_each.Goals as goal

pub loop-b-init : goal.loop-b-init
loop-b-init c = (refl, λ k. let fits = c.type_inv.to k in omega arith)

pub loop-b-preserved : goal.loop-b-preserved
loop-b-preserved c =
    let made : c.rotate_left.result ≡ turned 8 c.args.left (get_or c.loop-b.to c.loop-b.b-index 0) =
    c.rotate_left.ensures ∙ ap (rotate_left w8 (get_or c.loop-b.to c.loop-b.b-index 0)) c.from.ensures
    ∙ byte_turned (get_or c.loop-b.to c.loop-b.b-index 0) c.args.left (c.loop-b.invariant.1 c.loop-b.b-index) c.requires in (
      ap (set c.loop-b.to c.loop-b.b-index) made
          ∙ map_over_more (turned 8 c.args.left) c.args.to.now c.loop-b.to c.loop-b.b-index (get_or c.loop-b.to c.loop-b.b-index 0) c.loop-b-test.true c.loop-b.invariant.0
          (get_or_default c.loop-b.to c.loop-b.b-index 0 (get_or c.loop-b.to c.loop-b.b-index 0) (omega arith)),
      below_set 256 c.loop-b.to c.loop-b.b-index c.rotate_left.result (omega arith) (omega arith) c.loop-b.invariant.1,
    )
