-- Objects by their places, and the sets there.
use Rattle.std.specs.Prelude.{◌≡◌, ◌≢◌, ◌⊎◌, ◌<◌, ◌≤◌, ◌+◌, ◌*◌, ◌-◌, ◌==◌, ℕ, zero, suc, Bool, true, false, List, [], ◌∷◌, length, get_or, set, Option, Some, None, refl, if◌then◌else◌}
use Rattle.std.proofs.Common.{sym, ap, subst, ◌∙◌, arith, inl, inr}
use Rattle.std.proofs.lemmas.Bool.{false≢true, false_from_ne_true}
use Rattle.std.proofs.lemmas.Slice.Eq.{bytes_eq-Decides}
use Rattle.std.proofs.lemmas.List.{get_or-set_same, get_or-set_other, length-set}
use Rattle.b2_access.specs.declared.objects.Object.{Object}
use Rattle.b2_access.specs.declared.objects.Object.TheVariants as object
use Rattle.b2_audit.specs.PartSets.{with_part, has_other}
use Rattle.b2_audit.specs.Marks.{Marks, Writers, object_index, is_same, set_among, set_at, with_one_among, with_one_at, writers_of, write}
use Rattle.b2_audit.specs.Steps.{IsPartition, IsTerminal, IsMarked}
use Rattle.b2_audit.proofs.PartBits.{other_with_same}

-- an object that has a place, by its kind and its number
abbrev pub IsIndexed : Object → Type 0
IsIndexed (object.Text p) = IsPartition p
IsIndexed (object.Borrow p) = IsPartition p
IsIndexed (object.Globals p) = IsPartition p
IsIndexed (object.Terminal t) = IsTerminal t
IsIndexed o = ⊥

abbrev kind : Object → ℕ
kind (object.Text p) = 0
kind (object.Borrow p) = 1
kind (object.Globals p) = 2
kind (object.Terminal t) = 3
kind o = 4

abbrev number : Object → ℕ
number (object.Text p) = p
number (object.Borrow p) = p
number (object.Globals p) = p
number (object.Terminal t) = t
number o = 0

-- its place among all: there are at most sixteen of each kind
abbrev pub index : Object → ℕ
index o = 16 * kind o + (number o - 1)

pub record StandsAt (o : Object) : Type 0 where
  pub place : object_index o ≡ Some (index o)
  pub below : index o < 60
  pub from_one : 1 ≤ number o
  pub at_most : number o ≤ 16

pub indexed : (o : Object) → IsIndexed o → StandsAt o
indexed (object.Text p) is = let a = is.0 in let b = is.1 in record { place = ap Some (omega arith); below = omega (arith, a, b); from_one = a; at_most = b }
indexed (object.Borrow p) is = let a = is.0 in let b = is.1 in record { place = ap Some (omega arith); below = omega (arith, a, b); from_one = a; at_most = b }
indexed (object.Globals p) is = let a = is.0 in let b = is.1 in record { place = ap Some (omega arith); below = omega (arith, a, b); from_one = a; at_most = b }
indexed (object.Terminal t) is = let a = is.0 in let b = is.1 in record { place = ap Some (omega arith); below = omega (arith, a, b); from_one = a; at_most = omega (arith, b) }
indexed (object.Name n) is = absurd is
indexed (object.Printer a) is = absurd is
indexed (object.Platter a) is = absurd is
indexed (object.Hog a) is = absurd is

-- the object of a kind with a number
abbrev of_kind : ℕ → ℕ → Object
of_kind k n = if k == 0 then object.Text n else (if k == 1 then object.Borrow n else (if k == 2 then object.Globals n else object.Terminal n))

read_back : (o : Object) → IsIndexed o → of_kind (kind o) (number o) ≡ o
read_back (object.Text p) is = refl
read_back (object.Borrow p) is = refl
read_back (object.Globals p) is = refl
read_back (object.Terminal t) is = refl
read_back (object.Name n) is = absurd is
read_back (object.Printer a) is = absurd is
read_back (object.Platter a) is = absurd is
read_back (object.Hog a) is = absurd is

-- numbers of at most sixteen of each kind tell the kind and the number
same_kind : (j k n m : ℕ) → 1 ≤ n → n ≤ 16 → 1 ≤ m → m ≤ 16 → 16 * j + (n - 1) ≡ 16 * k + (m - 1) → j ≡ k
same_kind j k n m a b c d e = omega (arith, a, b, c, d, e)

same_number : (j k n m : ℕ) → 1 ≤ n → n ≤ 16 → 1 ≤ m → m ≤ 16 → 16 * j + (n - 1) ≡ 16 * k + (m - 1) → n ≡ m
same_number j k n m a b c d e = omega (arith, a, b, c, d, e)

-- the place tells the object
one_place : (o x : Object) → IsIndexed o → IsIndexed x → index o ≡ index x → o ≡ x
one_place o x is_o is_x e =
    let a = indexed o is_o in
    let b = indexed x is_x in
    let k = same_kind (kind o) (kind x) (number o) (number x) a.from_one a.at_most b.from_one b.at_most e in
    let n = same_number (kind o) (kind x) (number o) (number x) a.from_one a.at_most b.from_one b.at_most e in
    sym (read_back o is_o) ∙ ap (λ (j : ℕ). of_kind j (number o)) k ∙ ap (of_kind (kind x)) n ∙ read_back x is_x

-- or it has none: it is the same as itself
pub record IsUnindexed (o : Object) : Type 0 where
  pub none : object_index o ≡ None
  pub itself : is_same o o ≡ true

pub indexed_or : (o : Object) → IsMarked o → IsIndexed o ⊎ IsUnindexed o
indexed_or (object.Text p) is = inl is
indexed_or (object.Borrow p) is = inl is
indexed_or (object.Globals p) is = inl is
indexed_or (object.Terminal t) is = inl is
indexed_or (object.Name n) is = inr (record { none = refl; itself = (bytes_eq-Decides n n).1 refl })
indexed_or (object.Printer a) is = inr (record { none = refl; itself = (bytes_eq-Decides a a).1 refl })
indexed_or (object.Platter a) is = inr (record { none = refl; itself = (bytes_eq-Decides a a).1 refl })
indexed_or (object.Hog a) is = inr (record { none = refl; itself = (bytes_eq-Decides a a).1 refl })

-- those that are the same are one
same_is_one : (x o : Object) → is_same x o ≡ true → x ≡ o
same_is_one (object.Name n) (object.Name m) e = ap object.Name ((bytes_eq-Decides n m).0 e)
same_is_one (object.Printer a) (object.Printer b) e = ap object.Printer ((bytes_eq-Decides a b).0 e)
same_is_one (object.Platter a) (object.Platter b) e = ap object.Platter ((bytes_eq-Decides a b).0 e)
same_is_one (object.Hog a) (object.Hog b) e = ap object.Hog ((bytes_eq-Decides a b).0 e)
same_is_one x o e = absurd (false≢true e)

-- sets, by the place of an object
set_indexed : (o : Object) (w : Writers) → IsIndexed o → set_at (object_index o) o w ≡ get_or w.indexed (index o) 0
set_indexed o w is = ap (λ (p : Option ℕ). set_at p o w) (indexed o is).place

set_unindexed : (o : Object) (w : Writers) → IsUnindexed o → set_at (object_index o) o w ≡ set_among o w.others
set_unindexed o w is = ap (λ (p : Option ℕ). set_at p o w) is.none

abbrev with_one_indexed : ℕ → Object → Writers → Writers
with_one_indexed who o w = record w { indexed = set w.indexed (index o) (with_part (get_or w.indexed (index o) 0) who) }

abbrev with_one_unindexed : ℕ → Object → Writers → Writers
with_one_unindexed who o w = record w { others = with_one_among who o w.others }

write_indexed : (who : ℕ) (o : Object) (w : Writers) → IsIndexed o → with_one_at (object_index o) who o w ≡ with_one_indexed who o w
write_indexed who o w is = ap (λ (p : Option ℕ). with_one_at p who o w) (indexed o is).place

write_unindexed : (who : ℕ) (o : Object) (w : Writers) → IsUnindexed o → with_one_at (object_index o) who o w ≡ with_one_unindexed who o w
write_unindexed who o w is = ap (λ (p : Option ℕ). with_one_at p who o w) is.none

-- nobody wrote anything at the start
pub nobody_at : (o : Object) (w : Writers) → IsMarked o → ((i : ℕ) → i < 60 → get_or w.indexed i 0 ≡ 0) → w.others ≡ [] → set_at (object_index o) o w ≡ 0
nobody_at o w is empty none = elim (indexed_or o is) [
  | inl at ↦ set_indexed o w at ∙ empty (index o) (indexed o at).below
  | inr off ↦ set_unindexed o w off ∙ ap (set_among o) none
]

-- there are as many places after an object was written
pub as_many : (who : ℕ) (o : Object) (m : Marks) → IsMarked o → length (write who o m).writers.indexed ≡ length m.writers.indexed
as_many who o m is = elim (indexed_or o is) [
  | inl at ↦ ap (λ (w : Writers). length w.indexed) (write_indexed who o m.writers at) ∙ length-set m.writers.indexed (index o) _
  | inr off ↦ ap (λ (w : Writers). length w.indexed) (write_unindexed who o m.writers off)
]

-- one of the others that was written has one more
set_written : (who : ℕ) (o : Object) → is_same o o ≡ true → (es : List (Object × ℕ)) → set_among o (with_one_among who o es) ≡ with_part (set_among o es) who
set_written who o itself [] = ap (λ (b : Bool). if b then with_part 0 who else 0) itself
set_written who o itself (e ∷ es) = by (is_same e.0 o) refl (set_written who o itself es)
  where
    by : (b : Bool) → is_same e.0 o ≡ b → set_among o (with_one_among who o es) ≡ with_part (set_among o es) who
        → set_among o (if b then (e.0, with_part e.1 who) ∷ es else e ∷ with_one_among who o es) ≡ with_part (if b then e.1 else set_among o es) who
    by true is later = ap (λ (b : Bool). if b then with_part e.1 who else set_among o es) is
    by false is later = ap (λ (b : Bool). if b then e.1 else set_among o (with_one_among who o es)) is ∙ later

-- and each but that one has what it had
set_kept : (who : ℕ) (o x : Object) → x ≢ o → (es : List (Object × ℕ)) → set_among x (with_one_among who o es) ≡ set_among x es
set_kept who o x apart [] = ap (λ (b : Bool). if b then with_part 0 who else 0) (false_from_ne_true (is_same o x) (λ e. apart (sym (same_is_one o x e))))
set_kept who o x apart (e ∷ es) = by (is_same e.0 o) refl (set_kept who o x apart es)
  where
    by : (b : Bool) → is_same e.0 o ≡ b → set_among x (with_one_among who o es) ≡ set_among x es
        → set_among x (if b then (e.0, with_part e.1 who) ∷ es else e ∷ with_one_among who o es) ≡ (if is_same e.0 x then e.1 else set_among x es)
    by true is later =
        let far = false_from_ne_true (is_same e.0 x) (λ same. apart (sym (same_is_one e.0 x same) ∙ same_is_one e.0 o is)) in
        ap (λ (b : Bool). if b then with_part e.1 who else set_among x es) far ∙ sym (ap (λ (b : Bool). if b then e.1 else set_among x es) far)
    by false is later = ap (λ (n : ℕ). if is_same e.0 x then e.1 else n) later

-- who wrote it has one more
pub writes_here : (who : ℕ) (o : Object) (m : Marks) → IsMarked o → length m.writers.indexed ≡ 60 → writers_of o (write who o m) ≡ with_part (writers_of o m) who
writes_here who o m is whole = elim (indexed_or o is) [
  | inl at ↦
      ap (set_at (object_index o) o) (write_indexed who o m.writers at) ∙ set_indexed o (with_one_indexed who o m.writers) at
      ∙ get_or-set_same m.writers.indexed (index o) _ 0 (subst (λ (n : ℕ). index o < n) (sym whole) (indexed o at).below)
      ∙ ap (λ (n : ℕ). with_part n who) (sym (set_indexed o m.writers at))
  | inr off ↦
      ap (set_at (object_index o) o) (write_unindexed who o m.writers off) ∙ set_unindexed o (with_one_unindexed who o m.writers) off
      ∙ set_written who o off.itself m.writers.others
      ∙ ap (λ (n : ℕ). with_part n who) (sym (set_unindexed o m.writers off))
]

-- to whom it isn't foul, it isn't so after that one wrote it
own_set : (sets : List ℕ) (i who : ℕ) → IsPartition who → has_other (get_or (set sets i (with_part (get_or sets i 0) who)) i 0) who ≡ has_other (get_or sets i 0) who
own_set [] i who is = refl
own_set (x ∷ xs) zero who is = other_with_same x who is
own_set (x ∷ xs) (suc i) who is = own_set xs i who is

pub own_write : (who : ℕ) (o : Object) (m : Marks) → IsPartition who → IsMarked o → has_other (writers_of o (write who o m)) who ≡ has_other (writers_of o m) who
own_write who o m is_who is =
    let other : ℕ → Bool = λ n. has_other n who in
    elim (indexed_or o is) [
      | inl at ↦
          ap other (ap (set_at (object_index o) o) (write_indexed who o m.writers at) ∙ set_indexed o (with_one_indexed who o m.writers) at)
          ∙ own_set m.writers.indexed (index o) who is_who ∙ ap other (sym (set_indexed o m.writers at))
      | inr off ↦
          ap other (ap (set_at (object_index o) o) (write_unindexed who o m.writers off) ∙ set_unindexed o (with_one_unindexed who o m.writers) off ∙ set_written who o off.itself m.writers.others)
          ∙ other_with_same (set_among o m.writers.others) who is_who ∙ ap other (sym (set_unindexed o m.writers off))
    ]

-- another object's stay
pub writes_elsewhere : (who : ℕ) (o x : Object) (m : Marks) → IsMarked o → IsMarked x → x ≢ o → writers_of x (write who o m) ≡ writers_of x m
writes_elsewhere who o x m is_o is_x other = elim (indexed_or o is_o) [
  | inl at ↦ ap (set_at (object_index x) x) (write_indexed who o m.writers at) ∙ elim (indexed_or x is_x) [
    | inl there ↦
        set_indexed x (with_one_indexed who o m.writers) there
        ∙ get_or-set_other m.writers.indexed (index o) (index x) _ 0 (λ e. other (one_place x o there at e)) ∙ sym (set_indexed x m.writers there)
    | inr off ↦ set_unindexed x (with_one_indexed who o m.writers) off ∙ sym (set_unindexed x m.writers off)
  ]
  | inr gone ↦ ap (set_at (object_index x) x) (write_unindexed who o m.writers gone) ∙ elim (indexed_or x is_x) [
    | inl there ↦ set_indexed x (with_one_unindexed who o m.writers) there ∙ sym (set_indexed x m.writers there)
    | inr off ↦ set_unindexed x (with_one_unindexed who o m.writers) off ∙ set_kept who o x other m.writers.others ∙ sym (set_unindexed x m.writers off)
  ]
]
