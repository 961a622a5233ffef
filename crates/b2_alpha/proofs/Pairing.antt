-- A loop that goes along two strings from the left and joins each two bytes into the first.
use Rattle.std.proofs.Common.{◌≡◌, ℕ, ◌+◌, ◌<◌, ◌≤◌, List, [], ◌∷◌, ◌++◌, length, get_or, set, take, drop, refl, sym, ap, ◌∙◌, arith}
use Rattle.std.proofs.lemmas.List.{append_assoc, append-nil, take_more_set, take_all, take-append-drop, drop_all, drop_more, drop-set-lt}
use Rattle.b2_alpha.specs.Values.{each_pair}

pub each_pair-nil : (f : ℕ → ℕ → ℕ) (xs : List ℕ) → each_pair f xs [] ≡ xs
each_pair-nil f [] = refl
each_pair-nil f (x ∷ xs) = refl

-- one pair more
pub each_pair_more : (f : ℕ → ℕ → ℕ) (xs ys whole : List ℕ) (i y : ℕ) → i < length xs → i < length ys → y ≡ f (get_or xs i 0) (get_or ys i 0) → take i xs ++ each_pair f (drop i xs) (drop i ys) ≡ whole → take (i + 1) (set xs i y) ++ each_pair f (drop (i + 1) (set xs i y)) (drop (i + 1) ys) ≡ whole
each_pair_more f xs ys whole i y in_xs in_ys is_y so_far =
    let front : take (i + 1) (set xs i y) ≡ take i xs ++ y ∷ [] = take_more_set xs i y in_xs in
    let back : drop (i + 1) (set xs i y) ≡ drop (i + 1) xs = drop-set-lt (i + 1) xs i y (omega arith) in
    let step : each_pair f (drop i xs) (drop i ys) ≡ f (get_or xs i 0) (get_or ys i 0) ∷ each_pair f (drop (i + 1) xs) (drop (i + 1) ys) =
    ap (λ l. each_pair f l (drop i ys)) (drop_more xs i 0 in_xs) ∙ ap (λ l. each_pair f (get_or xs i 0 ∷ drop (i + 1) xs) l) (drop_more ys i 0 in_ys) in
    let before : take i xs ++ (f (get_or xs i 0) (get_or ys i 0) ∷ each_pair f (drop (i + 1) xs) (drop (i + 1) ys)) ≡ whole = sym (ap (λ l. take i xs ++ l) step) ∙ so_far in
    ap (λ l. l ++ each_pair f (drop (i + 1) (set xs i y)) (drop (i + 1) ys)) front
    ∙ ap (λ l. (take i xs ++ y ∷ []) ++ each_pair f l (drop (i + 1) ys)) back
    ∙ append_assoc (take i xs) (y ∷ []) (each_pair f (drop (i + 1) xs) (drop (i + 1) ys))
    ∙ ap (λ v. take i xs ++ (v ∷ each_pair f (drop (i + 1) xs) (drop (i + 1) ys))) is_y
    ∙ before

-- the receiver ends
pub each_pair_all : (f : ℕ → ℕ → ℕ) (xs ys : List ℕ) (i : ℕ) → length xs ≤ i → take i xs ++ each_pair f (drop i xs) (drop i ys) ≡ xs
each_pair_all f xs ys i past =
    ap (λ l. take i xs ++ each_pair f l (drop i ys)) (drop_all i xs past) ∙ append-nil (take i xs) ∙ take_all i xs past

-- the operand ends
pub each_pair_short : (f : ℕ → ℕ → ℕ) (xs ys : List ℕ) (i : ℕ) → length ys ≤ i → take i xs ++ each_pair f (drop i xs) (drop i ys) ≡ xs
each_pair_short f xs ys i past =
    ap (λ l. take i xs ++ each_pair f (drop i xs) l) (drop_all i ys past) ∙ ap (λ l. take i xs ++ l) (each_pair-nil f (drop i xs)) ∙ take-append-drop i xs
