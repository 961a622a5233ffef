-- The places of a search.
use Rattle.std.specs.Prelude.{ℕ, ◌+◌, ◌%◌, ◌==◌, ◌&&◌, nat_le, Bool, List, length, take, drop, map}
use Rattle.std.specs.List.{filter, range_with_len}
use Rattle.b2_alpha.specs.declared.relation.Rel.{Rel}
use Rattle.b2_alpha.specs.Relations.{holds, order_of}

-- Whether as many bytes as are wanted fit from an index on and stand in the relation to them.
abbrev pub stands_at : List ℕ → Rel → List ℕ → ℕ → Bool
stands_at of rel want index =
    nat_le (index + length want) (length of) && holds rel (order_of (take (length want) (drop index of)) want)

-- The indices of a search are the first one and each that is a step after another.
abbrev pub is_found : List ℕ → Rel → List ℕ → ℕ → ℕ → Bool
is_found of rel want step index = index % step == 0 && stands_at of rel want index

-- the places that are found, ascending and counted from 1
abbrev pub found_places : List ℕ → Rel → List ℕ → ℕ → List ℕ
found_places of rel want step = map (λ index. index + 1) (filter (is_found of rel want step) (range_with_len 0 (length of)))
