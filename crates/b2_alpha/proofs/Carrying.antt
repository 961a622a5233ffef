-- A loop that makes the places of a sum from the right, carrying to the left.
use Rattle.std.proofs.Common.{◌≡◌, ℕ, ◌+◌, ◌-◌, ◌*◌, ◌/◌, ◌%◌, ◌^◌, ◌<◌, ◌≤◌, ◌≢◌, Bool, true, false, cond, List, [], length, get_or, set, drop, map, refl, sym, ap, ◌∙◌, arith, ⊎_elim}
use Rattle.std.proofs.lemmas.List.{length-map, get_or-map, get_or-set_same, get_or-set_other, drop_all}
use Rattle.std.proofs.lemmas.Nat.{div_below}
use Rattle.std.proofs.Math.Nat.{pow-zero}
use Rattle.std.proofs.lemmas.Bool.{cases_eq}
use mir.Val.{bool_byte}
use Rattle.b2_alpha.specs.Places.{number_in_base, digits_in_base}
use Rattle.b2_alpha.specs.Sums.{sum_in, difference_in}
use Rattle.b2_alpha.proofs.PlaceValues.{AllBelow, number_at, place_more, digits_in_base-number, number_in_base-complement}

-- i places of the sum of two lists are made, and a carry stands before them; the places before that are as they were
pub record Carried (base : ℕ) (old others now : List ℕ) (start i carry : ℕ) : Type 0 where
  pub small : carry ≤ 1
  pub kept : (k : ℕ) → k < length old - i → get_or now k 0 ≡ get_or old k 0
  pub sum : number_in_base base (drop (length old - i) now) + carry * base ^ i ≡ number_in_base base (drop (length old - i) old) + number_in_base base (drop (length old - i) others) + start

pub Carried-none : (base : ℕ) (old others : List ℕ) (start : ℕ) → start ≤ 1 → length others ≡ length old → Carried base old others old start 0 start
Carried-none base old others start small same =
    let none : drop (length old - 0) old ≡ [] = drop_all (length old - 0) old (omega arith) in
    let none_of_others : drop (length old - 0) others ≡ [] = drop_all (length old - 0) others (omega arith) in
    record {
      small = small;
      kept = λ k before. refl;
      sum = rw (none, none_of_others, pow-zero) (omega arith);
    }

carry_small : (base a o carry : ℕ) → a < base → o < base → carry ≤ 1 → (a + o + carry) / base ≤ 1
carry_small base a o carry below_a below_o small =
    let below : (a + o + carry) / base < 2 = div_below (a + o + carry) base 2 (omega arith) (omega arith) in
    omega arith

pub Carried-more : (base : ℕ) (old others now : List ℕ) (start i p carry a o : ℕ) → length old ≡ p + 1 + i → length now ≡ length old → length others ≡ length old → a ≡ get_or old p 0 → o ≡ get_or others p 0 → a < base → o < base → Carried base old others now start i carry → Carried base old others (set now p ((a + o + carry) % base)) start (i + 1) ((a + o + carry) / base)
Carried-more base old others now start i p carry a o len same_now same_others is_a is_o below_a below_o so_far =
    let at_i : length old - i ≡ p + 1 = omega arith in
    let at_p : length old - (i + 1) ≡ p = omega arith in
    let sum_i : number_in_base base (drop (p + 1) now) + carry * base ^ i ≡ number_in_base base (drop (p + 1) old) + number_in_base base (drop (p + 1) others) + start = rw at_i at so_far.sum in
    let made = place_more base now p i (a + o) carry (number_in_base base (drop (p + 1) old) + number_in_base base (drop (p + 1) others) + start) (omega arith) sum_i in
    let olds : number_in_base base (drop p old) ≡ a * base ^ i + number_in_base base (drop (p + 1) old) = number_at base old p i len ∙ ap (λ x. x * base ^ i + number_in_base base (drop (p + 1) old)) (sym is_a) in
    let those : number_in_base base (drop p others) ≡ o * base ^ i + number_in_base base (drop (p + 1) others) = number_at base others p i (omega arith) ∙ ap (λ x. x * base ^ i + number_in_base base (drop (p + 1) others)) (sym is_o) in
    record {
      small = carry_small base a o carry below_a below_o so_far.small;
      kept = λ k before. let ne : k ≢ p = omega arith in get_or-set_other now p k ((a + o + carry) % base) 0 ne ∙ so_far.kept k (omega arith);
      sum = rw at_p (made ∙ omega arith);
    }

-- the digits of the whole sum; the last carry is lost
pub Carried-all : (base : ℕ) (old others now : List ℕ) (start carry : ℕ) → length now ≡ length old → AllBelow base now → Carried base old others now start (length old) carry → now ≡ digits_in_base base (length old) (number_in_base base old + number_in_base base others + start)
Carried-all base old others now start carry same below done =
    let at_start : length old - length old ≡ 0 = omega arith in
    let sum : number_in_base base now + carry * base ^ length old ≡ number_in_base base old + number_in_base base others + start = rw at_start at done.sum in
    let whole : carry * base ^ length now + number_in_base base now ≡ number_in_base base old + number_in_base base others + start = ap (λ n. carry * base ^ n + number_in_base base now) same ∙ omega arith in
    sym (digits_in_base-number base now carry below) ∙ ap (λ n. digits_in_base base n (carry * base ^ length now + number_in_base base now)) same ∙ ap (digits_in_base base (length old)) whole

-- what is added place by place: the operand, or its complement
abbrev pub addends : Bool → ℕ → List ℕ → List ℕ
addends false base ys = ys
addends true base ys = map (λ y. base - 1 - y) ys

pub length-addends : (subtract : Bool) (base : ℕ) (ys : List ℕ) → length (addends subtract base ys) ≡ length ys
length-addends false base ys = refl
length-addends true base ys = length-map ys (λ y. base - 1 - y)

pub addends_at : (subtract : Bool) (base : ℕ) (ys : List ℕ) (p : ℕ) → p < length ys → get_or (addends subtract base ys) p 0 ≡ cond subtract (base - 1 - get_or ys p 0) (get_or ys p 0)
addends_at false base ys p inside = refl
addends_at true base ys p inside = get_or-map (λ y. base - 1 - y) ys p 0 0 inside

-- the sum with the complement and 1 is the difference
pub sum_or_difference : (base : ℕ) (xs ys : List ℕ) (subtract : Bool) (start : ℕ) → AllBelow base ys → length ys ≡ length xs → start ≡ cond subtract 1 0 → digits_in_base base (length xs) (number_in_base base xs + number_in_base base (addends subtract base ys) + start) ≡ cond subtract (difference_in base xs ys) (sum_in base xs ys)
sum_or_difference base xs ys false start below same is_start = ap (digits_in_base base (length xs)) (omega arith)
sum_or_difference base xs ys true start below same is_start =
    let whole : number_in_base base (map (λ y. base - 1 - y) ys) + number_in_base base ys + 1 ≡ base ^ length xs = number_in_base-complement base ys below ∙ ap (λ n. base ^ n) same in
    ap (digits_in_base base (length xs)) (omega arith)

pub is_start : (subtract : Bool) (start : ℕ) → start ≡ bool_byte subtract → start ≡ cond subtract 1 0
is_start false start e = e
is_start true start e = e

pub start_small : (subtract : Bool) (start : ℕ) → start ≡ cond subtract 1 0 → start ≤ 1
start_small false start is_start = omega arith
start_small true start is_start = omega arith

pub addend_below : (base : ℕ) (subtract : Bool) (y addend : ℕ) → addend ≡ cond subtract (base - 1 - y) y → y < base → addend < base
addend_below base false y addend is_addend below = omega arith
addend_below base true y addend is_addend below = omega arith

pub below_set : (base : ℕ) (xs : List ℕ) (i x : ℕ) → i < length xs → x < base → AllBelow base xs → AllBelow base (set xs i x)
below_set base xs i x inside small below = λ k.
    ⊎_elim
    (λ same. let e : get_or (set xs i x) k 0 ≡ x = ap (λ j. get_or (set xs i x) j 0) same ∙ get_or-set_same xs i x 0 inside in omega arith)
    (λ other. let e : get_or (set xs i x) k 0 ≡ get_or xs k 0 = get_or-set_other xs i k x 0 other in let b = below k in omega arith)
    (cases_eq k i)
