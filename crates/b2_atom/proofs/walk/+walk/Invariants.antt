use Rattle.std.proofs.Common.{◌≡◌, length, ◌+◌, ◌-◌, ◌*◌}
use Rattle.b2_atom.specs.Tree.{seen_output, holds_bytes, emitted}
use Rattle.b2_atom.specs.Grammar.{reader, deep, statement, items, many, part}
use Rattle.b2_atom.proofs.walk.+walk.Given as goal

abbrev pub decreases-statement : goal.decreases-statement
decreases-statement l = l.fuel * 6000

abbrev pub decreases-part : goal.decreases-part
decreases-part l = l.fuel * 6000 + (l.room * 41 + l.level) * 4 + 1

abbrev pub decreases-many : goal.decreases-many
decreases-many l = l.fuel * 6000 + (l.room * 41 + l.level) * 4 + 2

abbrev pub decreases-take_item : goal.decreases-take_item
decreases-take_item l = l.fuel * 6000 + (l.room * 41 + l.level) * 4 + 3

abbrev pub invariant-many-loop : goal.invariant-many-loop
invariant-many-loop l = record {
  read : emitted (seen_output l.out) (many (reader l.origin) l.start (part l.origin l.fuel l.room l.level l.row) (length l.text - l.counter) l.left)
      ≡ emitted (seen_output l.fn.out) (many (reader l.origin) l.start (part l.origin l.fuel l.room l.level l.row) (length l.text) l.text);
  bytes : holds_bytes (seen_output l.out) ≡ holds_bytes (seen_output l.fn.out);
}

abbrev pub invariant-part-loop-wanted : goal.invariant-part-loop-wanted
invariant-part-loop-wanted l = record {
  read : emitted (seen_output l.out) (items (statement (reader l.origin) l.fuel) (deep (reader l.origin) (statement (reader l.origin) l.fuel) l.room) (part l.origin l.fuel l.room (l.level - 1)) (reader l.origin) l.wanted l.left)
      ≡ emitted (seen_output l.fn.out) (part l.origin l.fuel l.room l.level l.row l.text);
  bytes : holds_bytes (seen_output l.out) ≡ holds_bytes (seen_output l.fn.out);
}

abbrev pub decreases-part-loop-wanted : goal.decreases-part-loop-wanted
decreases-part-loop-wanted l = length l.wanted
