use Rattle.std.proofs.Common.{◌≡◌, take}
use Rattle.std.specs.List.{flat_map}
use Rattle.b2_base.specs.Lexical.{hex_pair}
use Rattle.b2_print.proofs.layout.hex.Given as goal

abbrev pub invariant-loop-byte : goal.invariant-loop-byte
invariant-loop-byte l = l.text.items ≡ flat_map hex_pair (take l.byte-index l.bytes)
