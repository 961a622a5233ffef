use Rattle.std.proofs.Common.{◌≡◌, ◌≤◌, length}
use Rattle.std.specs.VecDeque.{deque_capacity}
use Rattle.b2_term.specs.Terminal.{reading}
use Rattle.b2_term.proofs.read_keys.Given as goal

-- the reading from here ends as the whole reading
abbrev pub invariant-loop-key : goal.invariant-loop-key
invariant-loop-key l = record {
  same : reading l.queue.items (record { line = l.line.items; transcript = l.transcript.items }) ≡ reading l.fn.queue.items (record { line = l.fn.line.items; transcript = l.fn.transcript.items });
  capacity : deque_capacity l.queue ≡ deque_capacity l.fn.queue;
  short : length l.line.items ≤ 256;
  shorter : length l.queue.items ≤ length l.fn.queue.items;
}

abbrev pub decreases-loop-key : goal.decreases-loop-key
decreases-loop-key l = length l.queue.items
