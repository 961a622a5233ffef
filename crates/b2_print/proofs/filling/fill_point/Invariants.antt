use Rattle.std.proofs.Common.{◌≡◌, ◌+◌, ◌-◌, length, drop}
use Rattle.b2_print.specs.Filling.{digits_from}
use Rattle.b2_print.proofs.filling.fill_point.Given as goal

abbrev pub invariant-loop-done : goal.invariant-loop-done
invariant-loop-done l = record {
  start : l.start + l.done ≡ length l.into;
  text : drop l.start l.into ≡ digits_from l.x (l.decimals - l.done + 1) l.done;
}
