-- After the last unit that a byte counts there is none.
use Rattle.std.proofs.Common.{◌≡◌, ◌+◌, ◌≤◌, true, length, ap, arith}
use Rattle.std.proofs.lemmas.Bool.Decides.{nat_tests}
use Rattle.b2_atom.specs.Words.{Text}
use Rattle.b2_atom.specs.Lines.{is_line, units_of}
use Rattle.b2_rows.specs.Following.{tree_units, unit_or_next}
use Rattle.b2_rows.specs.declared.following.Goal.TheVariants as goal
use Rattle.b2_rows.proofs.WhatFollows.{beyond_line}
use Rattle.b2_text.specs.Program.{Lines}
use Rattle.b2_flow.specs.declared.frame.Place.{Place}
use Rattle.b2_access.specs.Places.{goal_place}

pub none_after : (home : Lines) (line : Text) (p : Place) → is_line line ≡ true → length (units_of line) ≤ 255 → p.unit ≡ 255
    → goal_place home p (unit_or_next (p.unit + 1) (tree_units line)) ≡ goal_place home p goal.NextLine
none_after home line p h few is =
    ap (goal_place home p) (beyond_line line (p.unit + 1) h (grind (arith, nat_tests)))
