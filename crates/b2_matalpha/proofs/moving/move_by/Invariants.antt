use Rattle.std.proofs.Common.{◌≡◌, ◌*◌, ◌/◌, ◌++◌, length, take, drop}
use Rattle.b2_matalpha.specs.Moves.{wanted_places, after_move, move_answer}
use Rattle.b2_matalpha.proofs.MovingOn.{left_from, with_more}
use Rattle.b2_matalpha.proofs.moving.move_by.Given as goal

-- what is left leads to the whole move
abbrev pub invariant-loop-moved : goal.invariant-loop-moved
invariant-loop-moved l = record {
  whole : take (l.moved * l.to_len) l.to ++ after_move l.of l.len (left_from l.locators (length l.fn.to / l.to_len) l.moved) l.to_len (drop (l.moved * l.to_len) l.to)
      ≡ after_move l.of l.len (wanted_places l.locators l.to_len l.fn.to) l.to_len l.fn.to;
  answer : with_more l.moved (move_answer l.of l.len (left_from l.locators (length l.fn.to / l.to_len) l.moved)) ≡ move_answer l.of l.len (wanted_places l.locators l.to_len l.fn.to);
}
