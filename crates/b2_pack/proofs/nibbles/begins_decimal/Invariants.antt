use Rattle.std.proofs.Common.{◌≡◌, take, true}
use Rattle.std.specs.List.{list_all}
use Rattle.b2_pack.specs.Nibbles.{nibbles, is_decimal_nibble}
use Rattle.b2_pack.proofs.nibbles.begins_decimal.Given as goal

abbrev pub invariant-loop-place : goal.invariant-loop-place
invariant-loop-place l = list_all is_decimal_nibble (take l.place (nibbles l.bytes)) ≡ true
