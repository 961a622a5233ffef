-- The partitions whose texts calls entered, as a mask: it is the one with their bits, and it marks none but those that frames name.
use Rattle.std.proofs.Common.{◌≡◌, ◌<◌, ◌≤◌, ◌-◌, ◌==◌, ◌&&◌, ◌||◌, ℕ, zero, suc, Bool, true, false, List, [], ◌∷◌, Some, None, arith, refl, sym, ap, subst, ◌∙◌, if◌then◌else◌}
use Rattle.std.specs.Prelude.{◌+◌, ◌*◌, ◌/◌, ◌%◌, ◌^◌}
use Rattle.std.specs.Cmp.{unsigned_Decides}
use Rattle.std.specs.Int.{bit_at}
use Rattle.std.specs.List.{list_any}
use Rattle.std.proofs.Math.Nat.{add-mul-div_left, add-mul-mod_self_left}
use Rattle.std.proofs.lemmas.Bool.Decides.{nat_tests}
use Rattle.std.proofs.lemmas.Nat.Bits.{bit_at-suc, bit_at_lowest, same_from_bits_below}
use Rattle.b2_flow.specs.Frames.{enters}
use Rattle.b2_flow.specs.declared.frame.Frame.{Frame}
use Rattle.b2_flow.specs.declared.frame.Frame.TheVariants.{For, Call}
use Rattle.b2_access.specs.Borrowers.{all_partitions, homes_entered, homes_marked, is_inside, is_marked, mask_among}
use Rattle.b2_access.specs.Homes.{FramesNamed, Naming}
use Rattle.b2_access.proofs.Borrowers.{inside_marked}

-- one bit
abbrev bit : Bool → ℕ
bit b = if b then 1 else 0

bit_left : (b : Bool) → bit b % 2 ≡ bit b
bit_left true = refl
bit_left false = refl

low_bit : (b : Bool) (m : ℕ) → bit_at (bit b + 2 * m) 0 ≡ bit b
low_bit b m = bit_at_lowest (bit b + 2 * m) ∙ add-mul-mod_self_left (bit b) 2 m ∙ bit_left b

some_two : zero < 2
some_two = grind (arith)

bit_halved : (b : Bool) → bit b / 2 ≡ 0
bit_halved true = refl
bit_halved false = refl

none_more : (m : ℕ) → 0 + m ≡ m
none_more m = grind (arith)

half : (b : Bool) (m : ℕ) → (bit b + 2 * m) / 2 ≡ m
half b m = add-mul-div_left (bit b) m some_two ∙ ap (λ (k : ℕ). k + m) (bit_halved b) ∙ none_more m

next_bit : (b : Bool) (m i : ℕ) → bit_at (bit b + 2 * m) (suc i) ≡ bit_at m i
next_bit b m i = bit_at-suc (bit b + 2 * m) i ∙ ap (λ (n : ℕ). bit_at n i) (half b m)

-- partitions one after another
abbrev from : ℕ → ℕ → List ℕ
from zero h = []
from (suc n) h = h ∷ from n (suc h)

doubled : (b : Bool) (m k : ℕ) → m < k → bit b + 2 * m < 2 * k
doubled true m k h = grind (arith)
doubled false m k h = grind (arith)

none_below : (i : ℕ) → i < 0 → ⊥
none_below i h = grind (arith)

less : (i n : ℕ) → suc i < suc n → i < n
less i n h = grind (arith)

next_place : (h i : ℕ) → suc h + i ≡ h + suc i
next_place h i = grind (arith)

no_place : (h : ℕ) → h ≡ h + 0
no_place h = grind (arith)

two_powers : (n : ℕ) → 2 * 2 ^ n ≡ 2 ^ suc n
two_powers n = grind (arith)

module _ (passes : ℕ → Bool) where
  bits_of : (n h i : ℕ) → i < n → bit_at (mask_among passes (from n h)) i ≡ bit (passes (h + i))
  bits_of zero h i below = absurd (none_below i below)
  bits_of (suc n) h zero below = low_bit (passes h) (mask_among passes (from n (suc h))) ∙ ap (λ (k : ℕ). bit (passes k)) (no_place h)
  bits_of (suc n) h (suc i) below =
      next_bit (passes h) (mask_among passes (from n (suc h))) i ∙ bits_of n (suc h) i (less i n below) ∙ ap (λ (k : ℕ). bit (passes k)) (next_place h i)

  small : (n h : ℕ) → mask_among passes (from n h) < 2 ^ n
  small zero h = grind (arith)
  small (suc n) h = subst (λ (k : ℕ). mask_among passes (from (suc n) h) < k) (two_powers n) (doubled (passes h) (mask_among passes (from n (suc h))) (2 ^ n) (small n (suc h)))

-- the number with these bits is the mask
pub mask_of_marks : (n : ℕ) (frames : List Frame) → n < 65536 → ((h : ℕ) → 1 ≤ h → bit_at n (h - 1) ≡ (if list_any (enters h) frames then 1 else 0)) → n ≡ homes_entered frames
mask_of_marks n frames below marks =
    let entered : ℕ → Bool = λ h. list_any (enters h) frames in
    same_from_bits_below 16 n (homes_entered frames) below (small entered 16 1) (λ i less. sym (ap (bit_at n) (back i)) ∙ marks (1 + i) (one i) ∙ sym (bits_of entered 16 1 i less))
  where
    one : (i : ℕ) → 1 ≤ 1 + i
    one i = grind (arith)

    back : (i : ℕ) → 1 + i - 1 ≡ i
    back i = grind (arith)

-- whoever is marked was entered
both : (a b : Bool) → (a && b) ≡ true → (a ≡ true) × (b ≡ true)
both true b is = (refl, is)
both false b is = cc

bit_is : (b : Bool) → (bit b == 1) ≡ true → b ≡ true
bit_is true is = refl
bit_is false is = cc

some_partition : (h : ℕ) → is_inside h all_partitions ≡ true → 1 ≤ h
some_partition h is = grind (arith, nat_tests)

few_partitions : (h : ℕ) → is_inside h all_partitions ≡ true → h - 1 < 16
few_partitions h is = grind (arith, nat_tests)

again : (h : ℕ) → 1 ≤ h → 1 + (h - 1) ≡ h
again h low = grind (arith)

marked_entered : (frames : List Frame) (h : ℕ) → is_inside h (homes_marked (homes_entered frames)) ≡ true → list_any (enters h) frames ≡ true
marked_entered frames h is =
    let entered : ℕ → Bool = λ g. list_any (enters g) frames in
    let here = both (is_inside h all_partitions) (is_marked h (homes_entered frames)) (sym (inside_marked (homes_entered frames) h all_partitions) ∙ is) in
    sym (ap entered (again h (some_partition h here.0))) ∙ bit_is (entered (1 + (h - 1))) (sym (ap (λ (b : ℕ). b == 1) (bits_of entered 16 1 (h - 1) (few_partitions h here.0))) ∙ here.1)

-- one of the sixteen is marked exactly where it was entered
bit_as : (b : Bool) → (bit b == 1) ≡ b
bit_as true = refl
bit_as false = refl

few_places : (g : ℕ) → 1 ≤ g → g ≤ 16 → g - 1 < 16
few_places g low high = grind (arith)

pub marked_is : (frames : List Frame) (g : ℕ) → 1 ≤ g → g ≤ 16 → is_marked g (homes_entered frames) ≡ list_any (enters g) frames
marked_is frames g low high =
    let entered : ℕ → Bool = λ h. list_any (enters h) frames in
    ap (λ (b : ℕ). b == 1) (bits_of entered 16 1 (g - 1) (few_places g low high)) ∙ bit_as (entered (1 + (g - 1))) ∙ ap entered (again g low)

module _ (among : Naming) where
  named_by : (b : Bool) (g h : ℕ) (frames : List Frame) → (g == h) ≡ b → (b || list_any (enters h) frames) ≡ true → among.part g ≡ true → (list_any (enters h) frames ≡ true → among.part h ≡ true) → among.part h ≡ true
  named_by true g h frames same is here rest = ap (λ (n : ℕ). among.part n) (sym ((unsigned_Decides g h).0 same)) ∙ here
  named_by false g h frames same is here rest = rest is

  named : (h : ℕ) (frames : List Frame) → FramesNamed among frames → list_any (enters h) frames ≡ true → among.part h ≡ true
  named h [] w is = cc
  named h (For v limit step body ∷ frames) w is = named h frames w.1 is
  named h (Call back None ∷ frames) w is = named h frames w.1 is
  named h (Call back (Some g) ∷ frames) w is = named_by (g == h) g h frames refl is w.0.1 (λ rest. named h frames w.1 rest)

  -- so where all that frames name may be named, the partitions that were entered may be
  pub entered_within : (frames : List Frame) → FramesNamed among frames → (h : ℕ) → is_inside h (homes_marked (homes_entered frames)) ≡ true → among.part h ≡ true
  entered_within frames w h is = named h frames w (marked_entered frames h is)
