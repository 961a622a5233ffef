-- A front of what remains that is shorter than it may be is all that remains.
use Rattle.std.proofs.Common.{◌≡◌, ℕ, ◌+◌, ◌≤◌, List, length, take, min, Option, None, Some, IfSome, ◌∙◌, subst, arith}
use Rattle.std.proofs.lemmas.List.{length-take, take_all}

within : (n m : ℕ) → min (n + 1) m ≤ n → m ≤ n + 1
within n m h = grind arith

whole_if_short : (n : ℕ) (xs : List ℕ) → length (take (n + 1) xs) ≤ n → take (n + 1) xs ≡ xs
whole_if_short n xs short = take_all (n + 1) xs (within n (length xs) (subst (λ l. l ≤ n) (length-take (n + 1) xs) short))

pub whole_front : (known : Option (List ℕ)) (n : ℕ) (ys : List ℕ) → IfSome known (λ xs. ys ≡ take (n + 1) xs) → length ys ≤ n → IfSome known (λ xs. ys ≡ xs)
whole_front None n ys front short = tt
whole_front (Some xs) n ys front short = front ∙ whole_if_short n xs (subst (λ l. length l ≤ n) front short)
