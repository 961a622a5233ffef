-- The slot that a row may begin with: how wide it is, and how the rest of the row stands after it.
use Rattle.std.proofs.Common.{◌≡◌, ℕ, ◌+◌, ◌==◌, ◌&&◌, nat_le, nat_lt, Bool, true, false, if◌then◌else◌, List, [], ◌∷◌, drop, refl, sym, ap, ◌∙◌, arith, drop-drop}
use Rattle.b2_base.specs.Byte as byte
use Rattle.b2_base.specs.Lexical.{capped_value, digits_width, first}
use Rattle.b2_base.specs.declared.codes.TheConstants.{S13_SEPARATOR, S24_SMALL_NUMBER}
use Rattle.b2_atom.specs.Words.{Text}
use Rattle.b2_atom.specs.Leaves.{leaf_width}
use Rattle.b2_atom.specs.Tree.{Trees}
use Rattle.b2_atom.specs.Tree.Trees.{Done, In}
use Rattle.b2_atom.specs.Grammar.{row_items, starts}
use Rattle.b2_atom.specs.declared.words.Origin.TheVariants.{Atoms}
use Rattle.b2_atom.specs.declared.rows.TheConstants as row
use Rattle.b2_atom.specs.declared.forms.Leaf.TheVariants as leaf
use Rattle.b2_atom.specs.declared.forms.Item.{Item}
use Rattle.b2_atom.specs.declared.forms.Item.TheVariants.{Sign, Typed, Maybe}
use Rattle.b2_rows.specs.Leaves.{is_leaf, leaf_bytes}
use Rattle.b2_rows.specs.Optional.{after_maybe, maybe_phrase}
use Rattle.b2_rows.specs.Rows.{is_phrase, tree_at, after_phrase, Stands, When, tree_by}
use Rattle.b2_rows.specs.Values.{slot_number}
use Rattle.b2_rows.proofs.Optional.{begun_part, begun_rest, left_out_rest}
use Rattle.b2_rows.proofs.RowsRead.{stands_of}
use Rattle.b2_stmt_file.specs.Slots.{number_sign, slot_in, slot_tree}

abbrev slot_items : List Item
slot_items = Typed leaf.Slot S24_SMALL_NUMBER ∷ Sign byte.comma S13_SEPARATOR ∷ []

slot_row : row_items row.SLOT ≡ slot_items
unfolding row_items
slot_row = refl

sign_starts : (t : Text) (b : Bool) → (first t == byte.number_sign) ≡ b → starts Atoms number_sign t ≡ b
unfolding starts
sign_starts t b is = is

-- a slot takes its number sign and its digits
width_by : (b : Bool) (n : ℕ) → nat_lt 0 (if b then n else 0) ≡ true → (if b then n else 0) ≡ n
width_by true n h = refl
width_by false n h = cc

slot_width_is : (t : Text) → is_leaf leaf.Slot t ≡ true → leaf_width Atoms leaf.Slot t ≡ digits_width (drop 1 t) + 1
slot_width_is t ok = width_by (first t == byte.number_sign && (nat_lt 0 (digits_width (drop 1 t)) && nat_le (capped_value 999 0 (drop 1 t)) 15)) (digits_width (drop 1 t) + 1) ok

slot_here : (t : Text) → maybe_phrase number_sign row.SLOT t ≡ true → (first t == byte.number_sign) ≡ true → is_phrase row.SLOT t ≡ true
slot_here t ok is = begun_part number_sign row.SLOT t ok (sign_starts t true is)

pub written_here : (t : Text) → maybe_phrase number_sign row.SLOT t ≡ true → (first t == byte.number_sign) ≡ true → is_leaf leaf.Slot t ≡ true
written_here t ok is = (stands_of row.SLOT slot_items t slot_row (slot_here t ok is)).0.0

slot_tree_by : (t : Text) (b : Bool) → starts Atoms number_sign t ≡ b → slot_tree t ≡ (if b then tree_at row.SLOT t else Done)
slot_tree_by t b is = ap (λ (x : Bool). if x then tree_at row.SLOT t else Done) is

pub written_is : (t : Text) → maybe_phrase number_sign row.SLOT t ≡ true → (first t == byte.number_sign) ≡ true → slot_in (slot_tree t) ≡ slot_number (leaf_bytes leaf.Slot t)
written_is t ok is =
    ap slot_in (slot_tree_by t true (sign_starts t true is)) ∙ ap slot_in (stands_of row.SLOT slot_items t slot_row (slot_here t ok is)).1

pub none_is : (t : Text) → (first t == byte.number_sign) ≡ false → slot_in (slot_tree t) ≡ 0
none_is t is = ap slot_in (slot_tree_by t false (sign_starts t false is))

drop_after : (n : ℕ) (t : Text) → drop n (drop 1 t) ≡ drop (n + 1) t
drop_after n t = let same : 1 + n ≡ n + 1 = omega arith in drop-drop n 1 t ∙ ap (λ (m : ℕ). drop m t) same

pub written_rest : (t : Text) → maybe_phrase number_sign row.SLOT t ≡ true → (first t == byte.number_sign) ≡ true
    → after_maybe number_sign row.SLOT t ≡ drop 1 (drop (digits_width (drop 1 t)) (drop 1 t))
written_rest t ok is =
    begun_rest number_sign row.SLOT t (sign_starts t true is)
    ∙ (stands_of row.SLOT slot_items t slot_row (slot_here t ok is)).2
    ∙ ap (λ (n : ℕ). drop 1 (drop n t)) (slot_width_is t (written_here t ok is))
    ∙ ap (drop 1) (sym (drop_after (digits_width (drop 1 t)) t))

pub none_rest : (t : Text) → (first t == byte.number_sign) ≡ false → after_maybe number_sign row.SLOT t ≡ t
none_rest t is = left_out_rest number_sign row.SLOT t (sign_starts t false is)

-- the items after it
part_by : (b : Bool) (p : Bool) (X Y : Type 0) → When b ((p ≡ true) × X) Y → (if b then p else true) ≡ true
part_by true p X Y h = h.0
part_by false p X Y h = refl

pub slot_stands : (is : List Item) (t : Text) → Stands (Maybe number_sign row.SLOT ∷ is) t → maybe_phrase number_sign row.SLOT t ≡ true
unfolding maybe_phrase
slot_stands is t h = part_by (starts Atoms number_sign t) (is_phrase row.SLOT t) _ _ h

stands_by : (b : Bool) (p : Bool) (is : List Item) (u t : Text) → When b ((p ≡ true) × Stands is u) (Stands is t) → Stands is (if b then u else t)
stands_by true p is u t h = h.1
stands_by false p is u t h = h

pub stands_after : (is : List Item) (t : Text) → Stands (Maybe number_sign row.SLOT ∷ is) t → Stands is (after_maybe number_sign row.SLOT t)
unfolding after_maybe
stands_after is t h = stands_by (starts Atoms number_sign t) (is_phrase row.SLOT t) is (after_phrase row.SLOT t) t h

module _ {A : Type 0} (f : Trees → A) (g : Trees → Trees → A) (same : (n : ℕ) (s r : Trees) → f (In n s r) ≡ g s r) where
  tree_of : (b : Bool) (s : Trees) (next : Text → Trees) (u t : Text) → f (if b then In 1 s (next u) else In 0 Done (next t)) ≡ g (if b then s else Done) (next (if b then u else t))
  tree_of true s next u t = same 1 s (next u)
  tree_of false s next u t = same 0 Done (next t)

  pub with_slot : (is : List Item) (t : Text) → f (tree_by (Maybe number_sign row.SLOT ∷ is) t) ≡ g (slot_tree t) (tree_by is (after_maybe number_sign row.SLOT t))
  unfolding after_maybe
  with_slot is t = tree_of (starts Atoms number_sign t) (tree_at row.SLOT t) (tree_by is) (after_phrase row.SLOT t) t
