use Rattle.std.proofs.Common.{◌≡◌, ℕ, ◌+◌, ◌*◌, ◌/◌, ◌%◌, ◌^◌, ◌<◌, List, length, get_or, set, arith}
use Rattle.b2_alpha.proofs.PlaceValues.{AllBelow}
use Rattle.b2_alpha.proofs.Carrying.{below_set}
use Rattle.b2_alpha.proofs.Turning.{Divided, Divided-more, Divided-all, quotient_byte, unit_is}
use Rattle.b2_alpha.proofs.bits.shift_right.Goals as goal

-- one byte more, divided by the unit
one_more : (right top : ℕ) (old now : List ℕ) (i rest x unit : ℕ) → unit ≡ 2 ^ right → i < length now → length now ≡ length old → x ≡ get_or now i 0 → Divided right top old now i rest × AllBelow 256 now → Divided right top old (set now i ((rest * 256 + x) / unit)) (i + 1) ((rest * 256 + x) % unit) × AllBelow 256 (set now i ((rest * 256 + x) / unit))
one_more right top old now i rest x unit is_unit inside same is_x so_far =
    let here : x < 256 = rw is_x (so_far.1 i) in
    let small : (rest * 256 + x) / unit < 256 = rw is_unit (quotient_byte right rest x so_far.0.small here) in (
      rw is_unit (Divided-more right top old now i rest x inside same is_x so_far.0),
      below_set 256 now i ((rest * 256 + x) / unit) inside small so_far.1,
    )

pub loop-i-preserved : goal.loop-i-preserved
loop-i-preserved c =
    one_more c.args.right c.args.incoming c.args.to.now c.loop-i.to c.loop-i.i c.loop-i.carry c.from.result (1 * 2 ^ c.args.right % 4294967296)
    (unit_is c.args.right c.requires.within) (omega arith) (omega arith) c.from.ensures c.loop-i.invariant

pub returns : goal.returns
returns c =
    let at_end : c.loop-i.i ≡ length c.args.to.now = omega arith in
    Divided-all c.args.right c.args.incoming c.args.to.now c.loop-i.to c.loop-i.carry (omega arith) c.loop-i.invariant.1 (rw at_end at c.loop-i.invariant.0)
