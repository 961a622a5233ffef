use Rattle.std.proofs.Common.{◌≡◌, ◌-◌, ◌/◌, ◌^◌, length, drop}
use Rattle.b2_alpha.specs.Places.{digits_in_base}
use Rattle.b2_alpha.proofs.number.bin.Given as goal

abbrev pub invariant-loop-i : goal.invariant-loop-i
invariant-loop-i l = (l.rest ≡ l.v / 256 ^ l.i) × (drop (length l.to - l.i) l.to ≡ digits_in_base 256 l.i l.v)
