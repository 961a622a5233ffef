-- An entry that is taken out of a list at its last place.
use Rattle.std.specs.Prelude.{◌≡◌, ◌<◌, ◌≤◌, ℕ, zero, suc, ◌-◌, ◌==◌, ◌||◌, Bool, true, false, List, [], ◌∷◌, length, drop, get_or, if◌then◌else◌}
use Rattle.std.specs.List.{remove}
use Rattle.std.proofs.Common.{arith, sym, ap, subst, refl, ◌∙◌}
use Rattle.std.proofs.lemmas.Bool.{false≢true}
use Rattle.b2_access.specs.Borrowers.{is_inside, without_last}

-- one that isn't inside is taken out of nothing
none_taken : (p : ℕ) (xs : List ℕ) → is_inside p xs ≡ false → without_last p xs ≡ xs
none_taken p [] none = refl
none_taken p (x ∷ xs) none = by (is_inside p xs) (x == p) none
  where
    by : (later here : Bool) → (here || later) ≡ false → (if later then x ∷ without_last p xs else (if here then xs else x ∷ xs)) ≡ x ∷ xs
    by false false none = refl
    by false true none = absurd (false≢true (sym none))
    by true false none = absurd (false≢true (sym none))
    by true true none = absurd (false≢true (sym none))

pub left_alone : (p j : ℕ) (xs ys : List ℕ) → xs ≡ ys → j ≤ 0 → is_inside p (drop j xs) ≡ false → xs ≡ without_last p ys
left_alone p zero xs ys same least none = sym (none_taken p xs none) ∙ ap (without_last p) same
left_alone p (suc j) xs ys same least none = absurd (omega (arith, least))

-- one that is at a place is inside
there : (p i d : ℕ) (xs : List ℕ) → i < length xs → (get_or xs i d == p) ≡ true → is_inside p xs ≡ true
there p i d [] less is = absurd (omega (arith, less))
there p zero d (x ∷ xs) less is = ap (λ (b : Bool). b || is_inside p xs) is
there p (suc i) d (x ∷ xs) less is = by (x == p) (there p i d xs (omega (arith, less)) is)
  where
    by : (here : Bool) → is_inside p xs ≡ true → (here || is_inside p xs) ≡ true
    by true later = refl
    by false later = later

-- the last is at the place after which there is none
taken_out : (p i d : ℕ) (xs : List ℕ) → i < length xs → (get_or xs i d == p) ≡ true → is_inside p (drop (suc i) xs) ≡ false → remove xs i ≡ without_last p xs
taken_out p i d [] less is none = absurd (omega (arith, less))
taken_out p zero d (x ∷ xs) less is none =
    sym (ap (λ (b : Bool). if b then x ∷ without_last p xs else (if x == p then xs else x ∷ xs)) none ∙ ap (λ (b : Bool). if b then xs else x ∷ xs) is)
taken_out p (suc i) d (x ∷ xs) less is none =
    let inside = there p i d xs (omega (arith, less)) is in
    ap (λ (ys : List ℕ). x ∷ ys) (taken_out p i d xs (omega (arith, less)) is none)
    ∙ sym (ap (λ (b : Bool). if b then x ∷ without_last p xs else (if x == p then xs else x ∷ xs)) inside)

pub taken_before : (p j d : ℕ) (xs ys : List ℕ) → xs ≡ ys → 0 < j → j ≤ length xs → d ≡ get_or xs (j - 1) d → (d == p) ≡ true → is_inside p (drop j xs) ≡ false → remove xs (j - 1) ≡ without_last p ys
taken_before p zero d xs ys same some most at is none = absurd (omega (arith, some))
taken_before p (suc i) d xs ys same some most at is none =
    let before : suc i - 1 ≡ i = omega arith in
    let found = ap (λ (k : ℕ). k == p) (sym at) ∙ is in
    subst (λ (k : ℕ). (get_or xs k d == p) ≡ true → remove xs k ≡ without_last p ys) (sym before) (λ here. taken_out p i d xs (omega (arith, most)) here none ∙ ap (without_last p) same) found
