use Rattle.std.proofs.Common.{◌≡◌, ◌++◌, drop, option_map}
use Rattle.toml.specs.View.{items_view}
use Rattle.b2_boot.specs.Rows.{numbers_in}
use Rattle.b2_boot.proofs.rows.numbers_in.Given as goal

-- the numbers so far, and those of the items that are left
abbrev pub invariant-loop-item : goal.invariant-loop-item
invariant-loop-item l = option_map (λ more. l.numbers.items ++ more) (numbers_in (items_view (drop l.item-index l.items))) ≡ numbers_in (items_view l.items)
