use Rattle.std.proofs.Common.{◌≡◌, ◌≤◌, ◌-◌, ℕ, take, if◌then◌else◌}
use Rattle.std.specs.Int.{bit_at}
use Rattle.std.specs.List.{list_any}
use Rattle.b2_flow.specs.Frames.{enters}
use Rattle.b2_flow.proofs.search.homes.Given as goal

-- the marks of the frames so far
abbrev pub invariant-loop-frame : goal.invariant-loop-frame
invariant-loop-frame l = (h : ℕ) → 1 ≤ h → bit_at l.marks (h - 1) ≡ (if list_any (enters h) (take l.frame-index l.frames) then 1 else 0)
