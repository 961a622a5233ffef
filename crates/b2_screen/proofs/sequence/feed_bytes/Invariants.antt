use Rattle.std.proofs.Common.{◌≡◌, drop}
use Rattle.b2_screen.specs.Shown.{fed, sequence_bytes}
use Rattle.b2_screen.proofs.sequence.feed_bytes.Given as goal

-- the bytes from here on leave what all of them leave
abbrev pub invariant-loop-byte : goal.invariant-loop-byte
invariant-loop-byte l =
    fed (drop l.byte-index l.bytes) (record { sheet = l.sheet; rest = sequence_bytes l.sequence })
    ≡ fed l.fn.bytes (record { sheet = l.fn.sheet; rest = sequence_bytes l.fn.sequence })
