-- The six relations of a comparison, and the search for a byte that stands in one.
use Rattle.std.specs.Prelude.{ℕ, suc, max, List, length, Bool, true, false, Option, Some, None, position}
use Rattle.std.specs.declared.cmp.Ordering.{Ordering}
use Rattle.std.specs.declared.cmp.Ordering.TheVariants.{Less, Equal, Greater}
use Rattle.std.specs.Ordering.{nat_cmp}
use Rattle.std.specs.Cmp.Lexicographic.{slice_cmp}
use Rattle.b2_alpha.specs.Values.{padded}
use Rattle.b2_alpha.specs.declared.relation.Rel.{Rel}
use Rattle.b2_alpha.specs.declared.relation.Rel.TheVariants as rel

-- whether a relation holds of what compares so
abbrev pub holds : Rel → Ordering → Bool
holds rel.Eq Equal = true
holds rel.Eq _ = false
holds rel.Ne Equal = false
holds rel.Ne _ = true
holds rel.Lt Less = true
holds rel.Lt _ = false
holds rel.Le Greater = false
holds rel.Le _ = true
holds rel.Gt Greater = true
holds rel.Gt _ = false
holds rel.Ge Less = false
holds rel.Ge _ = true

-- a place counted from 1, and 0 for none
abbrev pub counted_from_1 : Option ℕ → ℕ
counted_from_1 None = 0
counted_from_1 (Some i) = suc i

-- the place of the first byte that stands in the relation to b
abbrev pub found_place : List ℕ → Rel → ℕ → ℕ
found_place xs rel b = counted_from_1 (position (λ x. holds rel (nat_cmp x b)) xs)

-- the order of two values by their bytes, the shorter one padded to the length of the other
abbrev pub order_of : List ℕ → List ℕ → Ordering
order_of xs ys =
    let n = max (length xs) (length ys) in
    slice_cmp nat_cmp (padded n xs) (padded n ys)
