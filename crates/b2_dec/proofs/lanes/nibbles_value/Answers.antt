use Rattle.std.proofs.Common.{◌≡◌, ◌-◌, ◌*◌, ◌/◌, bit_and, arith}
use Rattle.b2_dec.proofs.Slots.{slots}
use Rattle.b2_dec.proofs.JoinedDigits.{two, read-pairs, fours-left, eights-left, all-left}
use Rattle.b2_dec.proofs.lanes.nibbles_value.Goals as goal

pub overflow_sub-pairs : goal.overflow_sub-pairs
overflow_sub-pairs c = omega (arith, read-pairs c.args.word c.ranges.word.fits)

pub returns : goal.returns
returns c =
    let pairs : c.args.word - 6 * bit_and (c.args.word / 16) 1085102592571150095 ≡ slots 256 256 two 8 c.args.word =
    omega (arith, read-pairs c.args.word c.ranges.word.fits) in
    rw (pairs, fours-left c.args.word, eights-left c.args.word) (all-left c.args.word)
