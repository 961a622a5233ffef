-- What the first chunk of a slice's end is.
use Rattle.std.proofs.Common.{◌≡◌, ℕ, ◌-◌, List, length, take, drop, Option, Some, MatchOption, Bor, ap, ◌∙◌, subst}
use Rattle.std.specs.Array.{IsFirstChunk}
use Rattle.std.proofs.lemmas.List.{take_rest}

pub first_chunk_is : (xs : List ℕ) (i n : ℕ) (r : Option (Bor (List ℕ))) (x : Bor (List ℕ)) (P : Type 0) → MatchOption r P (λ y. IsFirstChunk (take (length xs - i) (drop i xs)) y.now n) → r ≡ Some x → x.now ≡ take n (drop i xs)
first_chunk_is xs i n r x P h e =
    let at = subst (λ (o : Option (Bor (List ℕ))). MatchOption o P (λ y. IsFirstChunk (take (length xs - i) (drop i xs)) y.now n)) e h in
    at.same ∙ ap (take n) (take_rest xs i)
