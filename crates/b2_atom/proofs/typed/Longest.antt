-- A word is read where it is spelled and nothing lengthens it; and where no word begins.
use Rattle.std.proofs.Common.{◌≡◌, ℕ, zero, suc, ◌+◌, ◌<◌, Bool, true, false, not, if◌then◌else◌, ◌==◌, ◌||◌, ◌&&◌, List, [], ◌∷◌, ◌++◌, length, drop, take, get_or, refl, sym, ap, subst, ◌∙◌, arith, nat_le, nat_lt, add-zero, zero-add, inl, inr, ◌⊎◌}
use Rattle.std.proofs.lemmas.Bool.Decides.{nat_tests}
use Rattle.b2_base.specs.Lexical.{first, upper}
use Rattle.b2_atom.specs.Words.{Text, begins_with, longest, better}
use Rattle.b2_atom.proofs.Booleans.{and_left, and_right, equal, or_cases, false_true}

-- no text that begins with w, and goes on with no byte of a kind, begins with v
abbrev pub apart : (ℕ → Bool) → Text → Text → Bool
apart more [] w = false
apart more (c ∷ v) [] = more c
apart more (c ∷ v) (d ∷ w) = not (c == upper d) || apart more v w

abbrev pub every : {A : Type 0} → (A → Bool) → List A → Bool
every p [] = true
every p (w ∷ ws) = p w && every p ws

split_here : (same a b : Bool) → (not same || a) ≡ true → (a ≡ true → b ≡ false) → (same && b) ≡ false
split_here false a b h more = refl
split_here true a b h more = more h

pub stopped : (more : ℕ → Bool) (c b : ℕ) (same y : Bool) → (c == b) ≡ same → more b ≡ false → more c ≡ true → (same && y) ≡ false
stopped more c b false y is h k = refl
stopped more c b true y is h k = let one : c ≡ b = equal c b is in absurd (false_true (sym h ∙ ap more (sym one) ∙ k))

pub lost : (more : ℕ → Bool) (v w r : Text) → more (upper (first r)) ≡ false → apart more v w ≡ true → begins_with v (w ++ r) ≡ false
lost more [] w r stop h = cc
lost more (c ∷ v) [] [] stop h = refl
lost more (c ∷ v) [] (b ∷ r) stop h = stopped more c (upper b) (c == upper b) (begins_with v r) refl stop h
lost more (c ∷ v) (d ∷ w) r stop h = split_here (c == upper d) (apart more v w) (begins_with v (w ++ r)) h (lost more v w r stop)

pub and_none : (a : Bool) → (a && false) ≡ false
and_none true = refl
and_none false = refl

keeps : (best : ℕ × ℕ) (v t : Text) (at : ℕ) → begins_with v t ≡ false → better best v t at ≡ best
keeps best v t at h = rw h (rw (and_none (nat_lt best.0 (length v))) refl)

keeps_short : (best : ℕ × ℕ) (v t : Text) (at : ℕ) → nat_lt best.0 (length v) ≡ false → better best v t at ≡ best
keeps_short best v t at h = rw h refl

gets : (best : ℕ × ℕ) (v t : Text) (at : ℕ) → nat_lt best.0 (length v) ≡ true → begins_with v t ≡ true → better best v t at ≡ (length v, at)
gets best v t at h k = rw h (rw k refl)

no_longer : (m n : ℕ) → nat_le m n ≡ true → nat_lt n m ≡ false
no_longer m n h = grind (arith, nat_tests)

shorter : (m n : ℕ) → m < n → nat_lt m n ≡ true
shorter m n h = grind (arith, nat_tests)

pub is_less : (m n : ℕ) → nat_lt m n ≡ true → m < n
is_less m n h = grind (arith, nat_tests)

pick : (b : Bool) (x y : ℕ × ℕ) (n : ℕ) → x.0 < n → y.0 < n → (if b then x else y).0 < n
pick true x y n h k = h
pick false x y n h k = k

stays_here : (more : ℕ → Bool) (v w r : Text) (i at : ℕ) → more (upper (first r)) ≡ false → (nat_le (length v) (length w) || apart more v w) ≡ true
    → better (length w, i) v (w ++ r) at ≡ (length w, i)
stays_here more v w r i at stop h = elim (or_cases (nat_le (length v) (length w)) (apart more v w) h) [
  | inl k ↦ keeps_short (length w, i) v (w ++ r) at (no_longer (length v) (length w) k)
  | inr k ↦ keeps (length w, i) v (w ++ r) at (lost more v w r stop k)
]

still_less : (more : ℕ → Bool) (best : ℕ × ℕ) (v w r : Text) (at : ℕ) → more (upper (first r)) ≡ false → best.0 < length w
    → (nat_lt (length v) (length w) || apart more v w) ≡ true → (better best v (w ++ r) at).0 < length w
still_less more best v w r at stop less h = elim (or_cases (nat_lt (length v) (length w)) (apart more v w) h) [
  | inl k ↦ pick (nat_lt best.0 (length v) && begins_with v (w ++ r)) (length v, at) best (length w) (is_less (length v) (length w) k) less
  | inr k ↦ (let P : ℕ × ℕ → Type 0 = λ b. b.0 < length w in subst P (sym (keeps best v (w ++ r) at (lost more v w r stop k))) less)
]

-- words that are no longer than w, or don't begin there
abbrev pub AllBehind : (ℕ → Bool) → Text → List Text → Bool
AllBehind more w ws = every (λ v. nat_le (length v) (length w) || apart more v w) ws

-- words that are shorter than w, or don't begin there
abbrev pub AllBefore : (ℕ → Bool) → Text → List Text → Bool
AllBefore more w ws = every (λ v. nat_lt (length v) (length w) || apart more v w) ws

stays : (more : ℕ → Bool) (ws : List Text) (w r : Text) (i at : ℕ) → more (upper (first r)) ≡ false → AllBehind more w ws ≡ true
    → longest ws (w ++ r) (length w, i) at ≡ (length w, i)
stays more [] w r i at stop h = refl
stays more (v ∷ ws) w r i at stop h =
    ap (λ (b : ℕ × ℕ). longest ws (w ++ r) b (suc at)) (stays_here more v w r i at stop (and_left _ (AllBehind more w ws) h))
    ∙ stays more ws w r i (suc at) stop (and_right (nat_le (length v) (length w) || apart more v w) _ h)

comes : (more : ℕ → Bool) (front back : List Text) (w r : Text) (best : ℕ × ℕ) (at : ℕ) → more (upper (first r)) ≡ false → best.0 < length w
    → begins_with w (w ++ r) ≡ true → AllBefore more w front ≡ true → AllBehind more w back ≡ true
    → longest (front ++ w ∷ back) (w ++ r) best at ≡ (length w, at + length front)
comes more [] back w r best at stop less is f b =
    ap (λ (x : ℕ × ℕ). longest back (w ++ r) x (suc at)) (gets best w (w ++ r) at (shorter best.0 (length w) less) is)
    ∙ stays more back w r at (suc at) stop b
    ∙ ap (λ (n : ℕ). (length w, n)) (sym (add-zero at))
comes more (v ∷ front) back w r best at stop less is f b =
    let moved : suc at + length front ≡ at + suc (length front) = omega arith in
    comes more front back w r (better best v (w ++ r) at) (suc at) stop
    (still_less more best v w r at stop less (and_left _ (AllBefore more w front) f)) is
    (and_right (nat_lt (length v) (length w) || apart more v w) _ f) b
    ∙ ap (λ (n : ℕ). (length w, n)) moved

abbrev pub every_upper : Text → Bool
every_upper w = every (λ b. b == upper b) w

-- a list, cut at a place
cut_at : (ws : List Text) (i : ℕ) → i < length ws → ws ≡ take i ws ++ (get_or ws i [] ∷ drop (suc i) ws)
cut_at [] i h = absurd (omega arith)
cut_at (w ∷ ws) zero h = refl
cut_at (w ∷ ws) (suc i) h = let less : i < length ws = omega arith in ap (λ (l : List Text). w ∷ l) (cut_at ws i less)

taken : (ws : List Text) (i : ℕ) → i < length ws → length (take i ws) ≡ i
taken [] i h = absurd (omega arith)
taken (w ∷ ws) zero h = refl
taken (w ∷ ws) (suc i) h = let less : i < length ws = omega arith in ap suc (taken ws i less)

pub itself : (w r : Text) → every_upper w ≡ true → begins_with w (w ++ r) ≡ true
itself [] r h = refl
itself (c ∷ w) r h = rw (and_left (c == upper c) (every_upper w) h) (itself w r (and_right (c == upper c) _ h))

-- the i-th word is found where it is spelled, and what follows is no byte of a kind
abbrev pub Found : (ℕ → Bool) → List Text → ℕ → Bool
Found more ws i =
    nat_lt i (length ws) && (nat_lt 0 (length (get_or ws i [])) && (every_upper (get_or ws i [])
    && (AllBefore more (get_or ws i []) (take i ws) && AllBehind more (get_or ws i []) (drop (suc i) ws))))

pub found : (more : ℕ → Bool) (ws : List Text) (i : ℕ) (r : Text) → more (upper (first r)) ≡ false → Found more ws i ≡ true
    → longest ws (get_or ws i [] ++ r) (0, 0) 0 ≡ (length (get_or ws i []), i)
found more ws i r stop h =
    let less : i < length ws = is_less i (length ws) (and_left (nat_lt i (length ws)) _ h) in
    let h1 = and_right (nat_lt i (length ws)) _ h in
    let some : 0 < length (get_or ws i []) = is_less 0 (length (get_or ws i [])) (and_left (nat_lt 0 (length (get_or ws i []))) _ h1) in
    let h2 = and_right (nat_lt 0 (length (get_or ws i []))) _ h1 in
    let h3 = and_right (every_upper (get_or ws i [])) _ h2 in
    ap (λ (l : List Text). longest l (get_or ws i [] ++ r) (0, 0) 0) (cut_at ws i less)
    ∙ comes more (take i ws) (drop (suc i) ws) (get_or ws i []) r (0, 0) 0 stop some (itself (get_or ws i []) r (and_left (every_upper (get_or ws i [])) _ h2))
    (and_left (AllBefore more (get_or ws i []) (take i ws)) _ h3) (and_right (AllBefore more (get_or ws i []) (take i ws)) _ h3)
    ∙ ap (λ (n : ℕ). (length (get_or ws i []), n)) (zero-add (length (take i ws)) ∙ taken ws i less)

-- no word
pub none : (more : ℕ → Bool) (ws : List Text) (w r : Text) (best : ℕ × ℕ) (at : ℕ) → more (upper (first r)) ≡ false → every (λ v. apart more v w) ws ≡ true
    → longest ws (w ++ r) best at ≡ best
none more [] w r best at stop h = refl
none more (v ∷ ws) w r best at stop h =
    ap (λ (b : ℕ × ℕ). longest ws (w ++ r) b (suc at)) (keeps best v (w ++ r) at (lost more v w r stop (and_left (apart more v w) _ h)))
    ∙ none more ws w r best (suc at) stop (and_right (apart more v w) _ h)

-- a fact of each number below another
abbrev pub below : (ℕ → Bool) → ℕ → Bool
below p zero = true
below p (suc n) = p n && below p n

last_or_less : (n i : ℕ) → i < suc n → (i ≡ n) ⊎ (i < n)
last_or_less n i h = grind arith

pub at_below : (p : ℕ → Bool) (n i : ℕ) → below p n ≡ true → i < n → p i ≡ true
at_below p zero i h less = absurd (omega arith)
at_below p (suc n) i h less = elim (last_or_less n i less) [
  | inl same ↦ ap p same ∙ and_left (p n) (below p n) h
  | inr fewer ↦ at_below p n i (and_right (p n) _ h) fewer
]
