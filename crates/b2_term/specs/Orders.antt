-- The order in which a terminal goes round, and the partition that comes next in it.
use Rattle.std.specs.Prelude.{◌≡◌, ℕ, Bool, true, false, not, ◌&&◌, ◌==◌, List, [], ◌∷◌, ◌++◌, if◌then◌else◌}
use Rattle.std.specs.List.{list_any}

-- no number stands twice
abbrev pub none_twice : List ℕ → Bool
none_twice [] = true
none_twice (p ∷ ps) = not (list_any (λ q. p == q) ps) && none_twice ps

-- an order has a partition, and none twice
abbrev pub is_order : List ℕ → Bool
is_order [] = false
is_order (p ∷ ps) = none_twice (p ∷ ps)

-- the first of a list, and a number where it is empty
abbrev pub first_or : ℕ → List ℕ → ℕ
first_or p [] = p
first_or p (q ∷ qs) = q

-- those after a number in a list, none where it isn't in it
abbrev pub after_in : ℕ → List ℕ → List ℕ
after_in p [] = []
after_in p (q ∷ qs) = if q == p then qs else after_in p qs

-- the partition after one in an order, and the order's first where none comes after it
abbrev pub next_in : List ℕ → ℕ → ℕ
next_in order p = first_or (first_or p order) (after_in p order)

-- Who stands right after a partition comes next.
abbrev pub NextFollows : Type 0
NextFollows = (before after : List ℕ) (p q : ℕ) → is_order (before ++ p ∷ q ∷ after) ≡ true → next_in (before ++ p ∷ q ∷ after) p ≡ q

-- After the last comes the first.
abbrev pub FirstFollowsLast : Type 0
FirstFollowsLast = (before : List ℕ) (p : ℕ) → is_order (before ++ p ∷ []) ≡ true → next_in (before ++ p ∷ []) p ≡ first_or p (before ++ p ∷ [])

-- After one that isn't in the order comes the first.
abbrev pub FirstFollowsOthers : Type 0
FirstFollowsOthers = (first p : ℕ) (rest : List ℕ) → list_any (λ q. p == q) (first ∷ rest) ≡ false → next_in (first ∷ rest) p ≡ first
