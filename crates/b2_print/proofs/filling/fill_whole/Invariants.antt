use Rattle.std.proofs.Common.{◌≡◌, ◌+◌, ◌-◌, ◌≤◌, ◌++◌, length, drop}
use Rattle.b2_print.specs.Filling.{hash_count, whole_text}
use Rattle.b2_print.proofs.filling.fill_whole.Given as goal

abbrev pub invariant-loop-done : goal.invariant-loop-done
invariant-loop-done l = record {
  power : l.k ≡ hash_count (drop (length l.places - l.done) l.places);
  few : l.k ≤ l.done;
  start : l.start + length (whole_text l.x (drop (length l.places - l.done) l.places)) ≡ l.end;
  near : l.end ≤ l.start + l.done;
  text : drop l.start l.into ≡ whole_text l.x (drop (length l.places - l.done) l.places) ++ drop l.end l.fn.into;
}
