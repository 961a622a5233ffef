-- What is left after a row that takes a byte is shorter than the text.
use Rattle.std.proofs.Common.{◌≡◌, ◌≤◌, ◌<◌, ℕ, zero, suc, ◌-◌, Bool, true, false, if◌then◌else◌, ◌&&◌, ◌||◌, nat_le, nat_lt, List, [], ◌∷◌, length, drop, length-drop, refl, sym, subst, arith, inl, inr}
use Rattle.std.proofs.lemmas.Bool.Decides.{nat_tests}
use Rattle.b2_base.specs.Byte as byte
use Rattle.b2_base.specs.Lexical.{first}
use Rattle.b2_atom.specs.Words.{Text}
use Rattle.b2_atom.specs.Grammar.{is_among, row_items, starts}
use Rattle.b2_atom.specs.declared.words.Origin.TheVariants.{Atoms}
use Rattle.b2_atom.specs.declared.rows.TheConstants as row
use Rattle.b2_atom.specs.declared.forms.Start.{Start}
use Rattle.b2_atom.specs.declared.forms.Leaf.{Leaf}
use Rattle.b2_atom.specs.declared.forms.Leaf.TheVariants as leaf
use Rattle.b2_atom.specs.declared.forms.Item.{Item}
use Rattle.b2_atom.specs.declared.forms.Item.TheVariants.{Word, Sign, Among, ProgramWord, Ignored, ShortWord, Comma, LeftOut, End, Typed, Part, Maybe, Either, Many, Nest, Statement}
use Rattle.b2_atom.proofs.Booleans.{and_left, and_right, or_cases}
use Rattle.b2_rows.specs.Leaves.{is_leaf, leaf_size, after_leaf}
use Rattle.b2_rows.specs.Rows.{fits_unit, is_phrase, after_phrase, is_list, after_list, When, Stands, rest_by}
use Rattle.b2_rows.specs.Takes.{leaf_takes, items_take, row_takes, takes_byte}
use Rattle.b2_rows.specs.Laws.{NothingIsAdded, EachTakerShortens}
use Rattle.b2_rows.proofs.Levels.{part_no_longer, list_no_longer, short_of}
use Rattle.b2_rows.proofs.Standing.{row_stands}

pub nothing_is_added : NothingIsAdded
nothing_is_added = (part_no_longer, list_no_longer)

dropped_no_longer : (k : ℕ) (t : Text) → length (drop k t) ≤ length t
dropped_no_longer k t = omega (arith, length-drop k t)

leaf_no_longer : (k : Leaf) (t : Text) → length (after_leaf k t) ≤ length t
leaf_no_longer leaf.Text t = omega arith
leaf_no_longer leaf.LineNumber t = dropped_no_longer 3 t
leaf_no_longer k t = dropped_no_longer (leaf_size k t) t

over : (a b c : Text) → length a ≤ length b → length b ≤ length c → length a ≤ length c
over a b c h k = omega (arith, h, k)

under_it : (a b c : Text) → length a < length b → length b ≤ length c → length a < length c
under_it a b c h k = omega (arith, h, k)

below : (a b c : Text) → length a ≤ length b → length b < length c → length a < length c
below a b c h k = omega (arith, h, k)

rest_if : (b : Bool) (x y t : Text) → length x ≤ length t → length y ≤ length t → length (if b then x else y) ≤ length t
rest_if true x y t h k = h
rest_if false x y t h k = k

-- the items leave no more than there was
rest_no_longer : (is : List Item) (t : Text) → length (rest_by is t) ≤ length t
rest_no_longer [] t = omega arith
rest_no_longer (Word c ∷ is) t = over _ (drop 1 t) t (rest_no_longer is (drop 1 t)) (dropped_no_longer 1 t)
rest_no_longer (Sign c code ∷ is) t = over _ (drop 1 t) t (rest_no_longer is (drop 1 t)) (dropped_no_longer 1 t)
rest_no_longer (Among low high code ∷ is) t = over _ (drop 1 t) t (rest_no_longer is (drop 1 t)) (dropped_no_longer 1 t)
rest_no_longer (ProgramWord c ∷ is) t = over _ (drop 1 t) t (rest_no_longer is (drop 1 t)) (dropped_no_longer 1 t)
rest_no_longer (ShortWord c ∷ is) t = over _ (drop 1 t) t (rest_no_longer is (drop 1 t)) (dropped_no_longer 1 t)
rest_no_longer (Ignored c ∷ is) t = rest_no_longer is t
rest_no_longer (Comma ∷ is) t = over _ (drop 1 t) t (rest_no_longer is (drop 1 t)) (dropped_no_longer 1 t)
rest_no_longer (LeftOut ∷ is) t = omega arith
rest_no_longer (End ∷ is) t = rest_no_longer is t
rest_no_longer (Typed k code ∷ is) t = over _ (after_leaf k t) t (rest_no_longer is (after_leaf k t)) (leaf_no_longer k t)
rest_no_longer (Part n ∷ is) t = over _ (after_phrase n t) t (rest_no_longer is (after_phrase n t)) (part_no_longer n t)
rest_no_longer (Nest n ∷ is) t = over _ (after_phrase n t) t (rest_no_longer is (after_phrase n t)) (part_no_longer n t)
rest_no_longer (Maybe s n ∷ is) t = rest_if (starts Atoms s t) _ _ t (over _ (after_phrase n t) t (rest_no_longer is (after_phrase n t)) (part_no_longer n t)) (rest_no_longer is t)
rest_no_longer (Either s n m ∷ is) t =
    rest_if (starts Atoms s t) _ _ t (over _ (after_phrase n t) t (rest_no_longer is (after_phrase n t)) (part_no_longer n t)) (over _ (after_phrase m t) t (rest_no_longer is (after_phrase m t)) (part_no_longer m t))
rest_no_longer (Many s n ∷ is) t = over _ _ t (rest_no_longer is _) (list_no_longer s n t)
rest_no_longer (Statement p ∷ is) t = rest_no_longer is t

-- a byte that isn't 0 stands in a text that isn't empty
pub byte_shorter : (c : ℕ) (t : Text) → nat_lt 0 c ≡ true → first t ≡ c → length (drop 1 t) < length t
byte_shorter c [] h is = absurd (none c h is)
  where
    none : (d : ℕ) → nat_lt 0 d ≡ true → 0 ≡ d → ⊥
    none d h is = grind (arith, nat_tests)
byte_shorter c (b ∷ t) h is = omega arith

pub among_shorter : (low high : ℕ) (t : Text) → nat_lt 0 low ≡ true → is_among low high (first t) ≡ true → length (drop 1 t) < length t
among_shorter low high [] h is = absurd (none low high h is)
  where
    none : (l m : ℕ) → nat_lt 0 l ≡ true → (nat_le l 0 && nat_le 0 m) ≡ true → ⊥
    none l m h is = grind (arith, nat_tests)
among_shorter low high (b ∷ t) h is = omega arith

-- a leaf but free text takes a byte of a text that isn't empty
dropped_shorter : (w : ℕ) (t : Text) → nat_lt 0 w ≡ true → nat_lt 0 (length t) ≡ true → length (drop w t) < length t
dropped_shorter w t h k =
    let e : length (drop w t) ≡ length t - w = length-drop w t in
    let a : 0 < w = above w h in
    let b : 0 < length t = above (length t) k in
    omega (arith, e, a, b)
  where
    above : (n : ℕ) → nat_lt 0 n ≡ true → 0 < n
    above n g = grind (arith, nat_tests)

some_byte : (b : ℕ) (t : Text) → nat_lt 0 (length (b ∷ t)) ≡ true
some_byte b t = grind (arith, nat_tests)

leaf_shorter : (k : Leaf) (t : Text) → leaf_takes k ≡ true → is_leaf k t ≡ true → length (after_leaf k t) < length t
leaf_shorter leaf.Text t h is = cc
leaf_shorter leaf.LineNumber [] h is = cc
leaf_shorter leaf.Number [] h is = cc
leaf_shorter leaf.SignedNumber [] h is = cc
leaf_shorter leaf.Name [] h is = cc
leaf_shorter leaf.AlphaName [] h is = cc
leaf_shorter leaf.LocalName [] h is = cc
leaf_shorter leaf.FunctionName [] h is = cc
leaf_shorter leaf.Literal [] h is = cc
leaf_shorter leaf.HexPair [] h is = cc
leaf_shorter leaf.HexDigit [] h is = cc
leaf_shorter leaf.Address [] h is = cc
leaf_shorter leaf.Slot [] h is = cc
leaf_shorter leaf.Small [] h is = cc
leaf_shorter leaf.Image [] h is = cc
leaf_shorter leaf.Relation [] h is = cc
leaf_shorter leaf.LineNumber (b ∷ t) h is = dropped_shorter 3 (b ∷ t) refl (some_byte b t)
leaf_shorter k (b ∷ t) h is = dropped_shorter (leaf_size k (b ∷ t)) (b ∷ t) is (some_byte b t)

shorter_if : (b : Bool) (x y t : Text) → (b ≡ true → length x < length t) → (b ≡ false → length y < length t) → length (if b then x else y) < length t
shorter_if true x y t h k = h refl
shorter_if false x y t h k = k refl

taken : (b : Bool) (x y : Type 0) → b ≡ true → When b x y → x
taken true x y h k = k
taken false x y h k = cc

passed : (b : Bool) (x y : Type 0) → b ≡ false → When b x y → y
passed false x y h k = k
passed true x y h k = cc

abbrev Shortens : (ℕ → Bool) → Type 0
Shortens row = (n : ℕ) (t : Text) → row n ≡ true → is_phrase n t ≡ true → length (after_phrase n t) < length t

-- the first item that takes a byte, or one after it
first_or_later : (a b : Bool) (x y t : Text) → (a || b) ≡ true → length x ≤ length y → length y ≤ length t → (a ≡ true → length y < length t) → (b ≡ true → length x < length y) → length x < length t
first_or_later a b x y t h no_more most here later = elim (or_cases a b h) [
  | inl is ↦ below x y t no_more (here is)
  | inr is ↦ under_it x y t (later is) most
]

rest_shorter : (row : ℕ → Bool) → Shortens row → (is : List Item) (t : Text) → items_take row is ≡ true → Stands is t → length (rest_by is t) < length t
rest_shorter row ih [] t h s = cc
rest_shorter row ih (Word c ∷ is) t h s = first_or_later (nat_lt 0 c) _ _ (drop 1 t) t h (rest_no_longer is (drop 1 t)) (dropped_no_longer 1 t) (λ some. byte_shorter c t some s.0) (λ later. rest_shorter row ih is (drop 1 t) later s.1)
rest_shorter row ih (Sign c code ∷ is) t h s = first_or_later (nat_lt 0 c) _ _ (drop 1 t) t h (rest_no_longer is (drop 1 t)) (dropped_no_longer 1 t) (λ some. byte_shorter c t some s.0) (λ later. rest_shorter row ih is (drop 1 t) later s.1)
rest_shorter row ih (Among low high code ∷ is) t h s = first_or_later (nat_lt 0 low) _ _ (drop 1 t) t h (rest_no_longer is (drop 1 t)) (dropped_no_longer 1 t) (λ some. among_shorter low high t some s.0) (λ later. rest_shorter row ih is (drop 1 t) later s.1)
rest_shorter row ih (ProgramWord c ∷ is) t h s = first_or_later (nat_lt 0 c) _ _ (drop 1 t) t h (rest_no_longer is (drop 1 t)) (dropped_no_longer 1 t) (λ some. byte_shorter c t some s.0) (λ later. rest_shorter row ih is (drop 1 t) later s.1)
rest_shorter row ih (ShortWord c ∷ is) t h s = first_or_later (nat_lt 0 c) _ _ (drop 1 t) t h (rest_no_longer is (drop 1 t)) (dropped_no_longer 1 t) (λ some. byte_shorter c t some s.0) (λ later. rest_shorter row ih is (drop 1 t) later s.1)
rest_shorter row ih (Ignored c ∷ is) t h s = rest_shorter row ih is t h s
rest_shorter row ih (Comma ∷ is) t h s = below _ (drop 1 t) t (rest_no_longer is (drop 1 t)) (byte_shorter byte.comma t refl s.0)
rest_shorter row ih (LeftOut ∷ is) t h s = absurd s
rest_shorter row ih (End ∷ is) t h s = rest_shorter row ih is t h s.1
rest_shorter row ih (Typed k code ∷ is) t h s = first_or_later (leaf_takes k) _ _ (after_leaf k t) t h (rest_no_longer is (after_leaf k t)) (leaf_no_longer k t) (λ some. leaf_shorter k t some s.0) (λ later. rest_shorter row ih is (after_leaf k t) later s.1)
rest_shorter row ih (Part n ∷ is) t h s = first_or_later (row n) _ _ (after_phrase n t) t h (rest_no_longer is (after_phrase n t)) (part_no_longer n t) (λ some. ih n t some s.0) (λ later. rest_shorter row ih is (after_phrase n t) later s.1)
rest_shorter row ih (Nest n ∷ is) t h s = first_or_later (row n) _ _ (after_phrase n t) t h (rest_no_longer is (after_phrase n t)) (part_no_longer n t) (λ some. ih n t some s.0) (λ later. rest_shorter row ih is (after_phrase n t) later s.1)
rest_shorter row ih (Maybe st n ∷ is) t h s =
    shorter_if (starts Atoms st t) _ _ t
    (λ b. under_it _ (after_phrase n t) t (rest_shorter row ih is (after_phrase n t) h (taken (starts Atoms st t) _ _ b s).1) (part_no_longer n t))
    (λ b. rest_shorter row ih is t h (passed (starts Atoms st t) _ _ b s))
rest_shorter row ih (Either st n m ∷ is) t h s =
    shorter_if (starts Atoms st t) _ _ t
    (λ b. first_or_later (row n && row m) _ _ (after_phrase n t) t h (rest_no_longer is (after_phrase n t)) (part_no_longer n t) (λ some. ih n t (and_left _ _ some) (taken (starts Atoms st t) _ _ b s).0) (λ later. rest_shorter row ih is (after_phrase n t) later (taken (starts Atoms st t) _ _ b s).1))
    (λ b. first_or_later (row n && row m) _ _ (after_phrase m t) t h (rest_no_longer is (after_phrase m t)) (part_no_longer m t) (λ some. ih m t (and_right _ _ some) (passed (starts Atoms st t) _ _ b s).0) (λ later. rest_shorter row ih is (after_phrase m t) later (passed (starts Atoms st t) _ _ b s).1))
rest_shorter row ih (Many st n ∷ is) t h s = under_it _ (after_list st n t) t (rest_shorter row ih is (after_list st n t) h s.1) (list_no_longer st n t)
rest_shorter row ih (Statement p ∷ is) t h s = rest_shorter row ih is t h s

shortens : (k : ℕ) → Shortens (row_takes k)
shortens zero n t h ok = cc
shortens (suc k) n t h ok =
    let r = row_stands n (row_items n) t refl ok in
    subst (λ (u : Text). length u < length t) (sym r.rest) (rest_shorter (row_takes k) (shortens k) (row_items n) t h r.stands)

-- a row that takes a byte leaves less than the text
pub part_shorter : (n : ℕ) (t : Text) → takes_byte n ≡ true → is_phrase n t ≡ true → length (after_phrase n t) < length t
unfolding takes_byte
part_shorter n t h ok = shortens 40 n t h ok

-- so a text at which it is read isn't empty
pub part_some : (n : ℕ) (t : Text) → takes_byte n ≡ true → is_phrase n t ≡ true → 0 < length t
part_some n t h ok = let e = part_shorter n t h ok in omega (arith, e)

pub each_taker_shortens : EachTakerShortens
each_taker_shortens n t h ok = part_shorter n t h ok

-- a text at which a row or a repetition is read has at most 256 bytes
pub part_fits : (n : ℕ) (t : Text) → is_phrase n t ≡ true → length t ≤ 256
unfolding is_phrase
part_fits n t ok = short_of t (and_left (fits_unit t) _ ok)

pub list_fits : (s : Start) (n : ℕ) (t : Text) → is_list s n t ≡ true → length t ≤ 256
unfolding is_list
list_fits s n t ok = short_of t (and_left (fits_unit t) _ ok)

-- the rows of expressions, receivers and conditions take a byte
pub sum_takes : takes_byte row.SUM ≡ true
unfolding takes_byte row_items
sum_takes = refl

pub operand_takes : takes_byte row.OPERAND ≡ true
unfolding takes_byte row_items
operand_takes = refl

pub alpha_takes : takes_byte row.ALPHA ≡ true
unfolding takes_byte row_items
alpha_takes = refl

pub condition_takes : takes_byte row.CONDITION ≡ true
unfolding takes_byte row_items
condition_takes = refl

pub receiver_takes : takes_byte row.RECEIVER ≡ true
unfolding takes_byte row_items
receiver_takes = refl

pub operand_of_any_kind_takes : takes_byte row.OPERAND_OF_ANY_KIND ≡ true
unfolding takes_byte row_items
operand_of_any_kind_takes = refl

pub sum_shorter : (t : Text) → is_phrase row.SUM t ≡ true → length (after_phrase row.SUM t) < length t
sum_shorter t ok = part_shorter row.SUM t sum_takes ok

pub operand_shorter : (t : Text) → is_phrase row.OPERAND t ≡ true → length (after_phrase row.OPERAND t) < length t
operand_shorter t ok = part_shorter row.OPERAND t operand_takes ok

pub alpha_shorter : (t : Text) → is_phrase row.ALPHA t ≡ true → length (after_phrase row.ALPHA t) < length t
alpha_shorter t ok = part_shorter row.ALPHA t alpha_takes ok

pub condition_shorter : (t : Text) → is_phrase row.CONDITION t ≡ true → length (after_phrase row.CONDITION t) < length t
condition_shorter t ok = part_shorter row.CONDITION t condition_takes ok
