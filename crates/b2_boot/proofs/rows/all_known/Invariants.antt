use Rattle.std.proofs.Common.{◌≡◌}
use Rattle.toml.specs.View.{members_view}
use Rattle.b2_boot.specs.Rows.{all_known}
use Rattle.b2_boot.proofs.rows.all_known.Given as goal

abbrev pub invariant-loop-key : goal.invariant-loop-key
invariant-loop-key l =
    (goal.iterator-loop-key).can_next l.key-iterator × (goal.iterator-loop-key).is_finite l.key-iterator
    × (all_known l.section (members_view l.key-iterator) ≡ all_known l.section (members_view l.table.entries))
