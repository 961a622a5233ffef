-- A tree of items without statements has no units in it, and is all its own.
use Rattle.std.proofs.Common.{◌≡◌, ℕ, zero, suc, ◌&&◌, nat_le, Bool, true, false, List, [], ◌∷◌, ◌++◌, drop, refl, ap, ◌∙◌, inl, inr}
use Rattle.b2_atom.specs.Tree.{Trees}
use Rattle.b2_atom.specs.Tree.Trees.{Done, Put, In}
use Rattle.b2_atom.specs.Grammar.{row_items}
use Rattle.b2_atom.specs.Fitting.{giving}
use Rattle.b2_atom.specs.Units.{items_in, items_after, own_branch, own, units_of_branch, units_in}
use Rattle.b2_atom.specs.declared.forms.Leaf.TheVariants as leaf
use Rattle.b2_atom.specs.declared.forms.Item.{Item}
use Rattle.b2_atom.specs.declared.forms.Item.TheVariants.{Word, Sign, Among, ProgramWord, Ignored, ShortWord, Comma, LeftOut, End, Typed, Part, Maybe, Either, Many, Nest, Statement}
use Rattle.b2_atom.proofs.Booleans.{and_left, and_right, both, or_cases}
use Rattle.b2_atom.proofs.settled.Lookaheads.{Known, of_item, of_items, of, of_row, settled, settled_item, is_free_row, is_text, is_bound, refuse}
use Rattle.b2_atom.proofs.settled.Computed.{row_settled}
use Rattle.b2_atom.proofs.settled.Heads.{known}

-- items in which no statement stands, at any depth
abbrev pub whole_item : Item → Bool
whole_item (Part n) = (of n).plain
whole_item (Maybe s n) = (of n).plain
whole_item (Either s n k) = (of n).plain && (of k).plain
whole_item (Many s n) = (of n).plain
whole_item (Nest n) = (of n).plain
whole_item (Statement p) = false
whole_item i = true

abbrev pub whole : List Item → Bool
whole [] = true
whole (i ∷ is) = whole_item i && whole is

plain_item : (i : Item) (is : List Item) → settled_item of i is ≡ true → (of_item of i).plain ≡ true → whole_item i ≡ true
plain_item (Part n) is h plain = plain
plain_item (Maybe s n) is h plain = plain
plain_item (Either s n k) is h plain = plain
plain_item (Many s n) is h plain = plain
plain_item (Nest n) is h plain = and_left (of n).plain _ (and_right (is_bound n) _ h)
plain_item (Statement p) is h plain = plain
plain_item i is h plain = refl

settled_whole : (is : List Item) → settled of is ≡ true → (of_items of is).plain ≡ true → whole is ≡ true
settled_whole [] h plain = refl
settled_whole (i ∷ is) h plain =
    both (whole_item i) (whole is)
    (plain_item i is (and_left (settled_item of i is) _ h) (and_left (of_item of i).plain _ plain))
    (settled_whole is (and_right (refuse (of_item of i).tails (of_items of is).heads) _ (and_right (settled_item of i is) _ h)) (and_right (of_item of i).plain _ plain))

text_whole : (is : List Item) → is_text is ≡ true → whole is ≡ true
text_whole [] h = refl
text_whole (Typed leaf.Text code ∷ []) h = refl
text_whole (Typed leaf.Text code ∷ i ∷ is) h = cc
text_whole (Typed k code ∷ is) h = cc
text_whole (Word c ∷ is) h = cc
text_whole (Sign c code ∷ is) h = cc
text_whole (Among a b code ∷ is) h = cc
text_whole (ProgramWord c ∷ is) h = cc
text_whole (Ignored c ∷ is) h = cc
text_whole (ShortWord c ∷ is) h = cc
text_whole (Comma ∷ is) h = cc
text_whole (LeftOut ∷ is) h = cc
text_whole (End ∷ is) h = cc
text_whole (Part n ∷ is) h = cc
text_whole (Maybe s n ∷ is) h = cc
text_whole (Either s n k ∷ is) h = cc
text_whole (Many s n ∷ is) h = cc
text_whole (Nest n ∷ is) h = cc
text_whole (Statement p ∷ is) h = cc

free_whole : (is : List Item) → is_free_row is ≡ true → whole is ≡ true
free_whole [] h = refl
free_whole (Word c ∷ is) h = text_whole is (and_right _ (is_text is) h)
free_whole (Sign c code ∷ is) h = text_whole is (and_right _ (is_text is) h)
free_whole (Among a b code ∷ is) h = cc
free_whole (ProgramWord c ∷ is) h = cc
free_whole (Ignored c ∷ is) h = cc
free_whole (ShortWord c ∷ is) h = cc
free_whole (Comma ∷ is) h = cc
free_whole (LeftOut ∷ is) h = cc
free_whole (End ∷ is) h = cc
free_whole (Typed k code ∷ is) h = cc
free_whole (Part n ∷ is) h = cc
free_whole (Maybe s n ∷ is) h = cc
free_whole (Either s n k ∷ is) h = cc
free_whole (Many s n ∷ is) h = cc
free_whole (Nest n ∷ is) h = cc
free_whole (Statement p ∷ is) h = cc

-- a row without statements
pub whole_row : (n : ℕ) → (of n).plain ≡ true → whole (row_items n) ≡ true
whole_row n plain =
    elim (or_cases (is_free_row (row_items n)) (settled of (row_items n)) (and_right (nat_le (of_items (of_row 39) (row_items n)).rank 39) _ (row_settled n))) [
      | inl g ↦ free_whole (row_items n) g
      | inr g ↦ settled_whole (row_items n) g (ap (λ (k : Known). k.plain) (known n) ∙ plain)
    ]

whole_rest : (i : Item) (is : List Item) → whole (i ∷ is) ≡ true → whole is ≡ true
whole_rest i is h = and_right (whole_item i) (whole is) h

whole_giving : (is : List Item) → whole is ≡ true → whole (giving is) ≡ true
whole_giving [] h = refl
whole_giving (Ignored c ∷ is) h = whole_giving is h
whole_giving (End ∷ is) h = whole_giving is h
whole_giving (i ∷ is) h = h

whole_drop : (is : List Item) → whole is ≡ true → whole (drop 1 is) ≡ true
whole_drop [] h = refl
whole_drop (i ∷ is) h = whole_rest i is h

whole_in : (i : Item) (is : List Item) (m : ℕ) → whole (i ∷ is) ≡ true → whole (items_in i m) ≡ true
whole_in (Part n) is m h = whole_row n (and_left (of n).plain _ h)
whole_in (Maybe s n) is zero h = refl
whole_in (Maybe s n) is (suc m) h = whole_row n (and_left (of n).plain _ h)
whole_in (Either s n k) is zero h = whole_row k (and_right (of n).plain _ (and_left ((of n).plain && (of k).plain) _ h))
whole_in (Either s n k) is (suc m) h = whole_row n (and_left (of n).plain _ (and_left ((of n).plain && (of k).plain) _ h))
whole_in (Many s n) is zero h = refl
whole_in (Many s n) is (suc m) h = whole_row n (and_left (of n).plain _ h)
whole_in (Nest n) is m h = whole_row n (and_left (of n).plain _ h)
whole_in (Statement p) is m h = cc
whole_in i is m h = refl

whole_after : (i : Item) (is : List Item) (m : ℕ) → whole (i ∷ is) ≡ true → whole (items_after i is m) ≡ true
whole_after (Many s n) is (suc m) h = h
whole_after (Many s n) is zero h = whole_rest (Many s n) is h
whole_after i is m h = whole_rest i is h

-- all is the tree's own
pub record AllOwn (is : List Item) (t : Trees) : Type 0 where
  pub tree : own is t ≡ t
  pub units : units_in is t ≡ []

branch_own : (is : List Item) (m : ℕ) (inner ts : Trees) → whole is ≡ true → ((js : List Item) → whole js ≡ true → AllOwn js inner) → ((js : List Item) → whole js ≡ true → AllOwn js ts)
    → (own_branch is m (λ (js : List Item). own js inner) (λ (js : List Item). own js ts) ≡ In m inner ts)
    × (units_of_branch is m (λ (js : List Item). own js inner) (λ (js : List Item). units_in js inner) (λ (js : List Item). units_in js ts) ≡ [])
branch_own [] m inner ts h a b = ((λ x. In m ((a [] refl).tree x) ((b [] refl).tree x)), refl)
branch_own (Statement p ∷ is) m inner ts h a b = cc
branch_own (i ∷ is) m inner ts h a b =
    let q = a (items_in i m) (whole_in i is m h) in
    let r = b (items_after i is m) (whole_after i is m h) in
    ((λ x. In m (q.tree x) (r.tree x)), (λ x. q.units x ++ r.units x))

pub all_own : (t : Trees) (is : List Item) → whole is ≡ true → AllOwn is t
all_own Done is h = record { tree = refl; units = refl }
all_own (Put t ts) is h =
    let r = all_own ts (drop 1 (giving is)) (whole_drop (giving is) (whole_giving is h)) in
    record { tree = ap (Put t) r.tree; units = r.units }
all_own (In m inner ts) is h =
    let r = branch_own (giving is) m inner ts (whole_giving is h) (all_own inner) (all_own ts) in
    record { tree = r.0; units = r.1 }
