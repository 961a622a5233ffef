use Rattle.std.proofs.Common.{◌≡◌, ◌≤◌, length, drop}
use Rattle.b2_term.specs.Terminal.{type_bytes}
use Rattle.b2_term.proofs.type_bytes.Given as goal

-- what is left, typed from here, ends as the whole
abbrev pub invariant-loop-b : goal.invariant-loop-b
invariant-loop-b l = record {
  same : type_bytes (drop l.b-index l.bytes) (record { line = l.line.items; transcript = l.transcript.items })
      ≡ type_bytes l.fn.bytes (record { line = l.fn.line.items; transcript = l.fn.transcript.items });
  short : length l.line.items ≤ 256;
}
