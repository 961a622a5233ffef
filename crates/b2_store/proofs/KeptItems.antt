-- Items of a list by a test: the first that passes it, by its index, changed, and beside one that was taken out and put back.
use Rattle.std.specs.Prelude.{◌≡◌, ℕ, suc, zero, ◌<◌, ◌≤◌, Bool, true, false, cond, List, [], ◌∷◌, length, set, get_or, Option, Some, None, is_some, IsSome, Result, Ok, Err, OnOk, IfErr, refl}
use Rattle.std.specs.List.{insert, position, position_or_len, remove}
use Rattle.std.proofs.Common.{sym, ap, subst, ◌∙◌, arith}
use Rattle.std.proofs.lemmas.Bool.Decides.{nat_tests}
use Rattle.std.proofs.lemmas.List.Quantifiers.{position-Some}
use Rattle.b2_base.specs.declared.codes.Fault.{Fault}
use Rattle.b2_base.specs.declared.codes.Fault.TheVariants as fault
use Rattle.b2_text.specs.Program.{TextState}
use Rattle.b2_access.specs.declared.objects.Object.{Object}
use Rattle.b2_access.specs.declared.objects.Object.TheVariants as object
use Rattle.b2_store.specs.Kept.{first_changed, first_kept, is_kept, kept_content, platter_in, text_in, with_first, with_first_content, with_holder, with_platter, with_text}
use Rattle.b2_store.specs.Work.{IsOther, WorkFails, items_worked, put_first, worked, worked_on}
use Rattle.b2_store.specs.declared.kept_item.Kept.{Kept}
use Rattle.b2_store.specs.declared.kept_item.Kept.TheVariants as kept
use Rattle.b2_store.specs.declared.work.Work.{Work}
use Rattle.b2_store.specs.declared.work.Work.TheVariants as work

same : (y x : Kept) → Some y ≡ Some x → y ≡ x
same y x e = cc

module _ (test : Kept → Bool) where
  pub record IsAt (xs : List Kept) (index : ℕ) : Type 0 where
    pub below : index < length xs
    pub passes : (d : Kept) → test (get_or xs index d) ≡ true
    pub first : (j : ℕ) (d : Kept) → j < index → test (get_or xs j d) ≡ false

  tail_at : (e : Kept) (xs : List Kept) (index : ℕ) → IsAt (e ∷ xs) (suc index) → IsAt xs index
  tail_at e xs index h = record { below = let b = h.below in omega arith; passes = λ d. h.passes d; first = λ j d lt. h.first (suc j) d (omega arith) }

  found_at : (xs : List Kept) (index : ℕ) (d : Kept) → IsAt xs index → first_kept test xs ≡ Some (get_or xs index d)
  found_at [] index d h = let b = h.below in absurd (omega arith)
  found_at (e ∷ xs) zero d h = ap (λ b. cond b (Some e) (first_kept test xs)) (h.passes d)
  found_at (e ∷ xs) (suc index) d h = ap (λ b. cond b (Some e) (first_kept test xs)) (h.first zero d (omega arith)) ∙ found_at xs index d (tail_at e xs index h)

  set_at : (xs : List Kept) (index : ℕ) (d w : Kept) → IsAt xs index → set xs index w ≡ with_first test xs w
  set_at [] index d w h = let b = h.below in absurd (omega arith)
  set_at (e ∷ xs) zero d w h = ap (λ b. cond b (w ∷ xs) (e ∷ with_first test xs w)) (sym (h.passes d))
  set_at (e ∷ xs) (suc index) d w h = ap (λ ys. e ∷ ys) (set_at xs index d w (tail_at e xs index h)) ∙ ap (λ b. cond b (w ∷ xs) (e ∷ with_first test xs w)) (sym (h.first zero d (omega arith)))

  pub is_at : (xs : List Kept) (index : ℕ) (d : Kept) → position test xs ≡ Some index → IsAt xs index
  is_at xs index d is = record { below = (position-Some test xs index d is).0; passes = λ e. (position-Some test xs index e is).1; first = λ j e lt. (position-Some test xs index e is).2 j lt }

  past_all : (xs : List Kept) → length xs ≤ position_or_len test xs → first_kept test xs ≡ None
  past_all [] h = refl
  past_all (e ∷ xs) h = grind (arith, nat_tests, past_all xs)

  pub not_found : (xs : List Kept) → position test xs ≡ None → first_kept test xs ≡ None
  not_found xs is = past_all xs (grind (arith, nat_tests))

  pub here : (xs : List Kept) (index : ℕ) (d : Kept) → position test xs ≡ Some index → d ≡ get_or xs index d → first_kept test xs ≡ Some d
  here xs index d is row = found_at xs index d (is_at xs index d is) ∙ ap Some (sym row)

  pub first_set : (xs : List Kept) (index : ℕ) (d w : Kept) → position test xs ≡ Some index → set xs index w ≡ with_first test xs w
  first_set xs index d w is = set_at xs index d w (is_at xs index d is)

  first_passes : (xs : List Kept) (x : Kept) → first_kept test xs ≡ Some x → test x ≡ true
  first_passes [] x e = let clash : false ≡ true = ap is_some e in cc
  first_passes (y ∷ ys) x e = by (test y) refl (first_passes ys x) e
    where
      by : (b : Bool) → test y ≡ b → (first_kept test ys ≡ Some x → test x ≡ true) → cond b (Some y) (first_kept test ys) ≡ Some x → test x ≡ true
      by true is later f = ap test (sym (same y x f)) ∙ is
      by false is later f = later f

  -- the first changed in its place, or none
  pub changed_here : (change : Kept → Kept) (xs : List Kept) (k : Kept) → first_kept test xs ≡ Some k → with_first test xs (change k) ≡ first_changed test change xs
  changed_here change [] k is = refl
  changed_here change (x ∷ xs) k is = by (test x) (changed_here change xs k) is
    where
      by : (b : Bool) → (first_kept test xs ≡ Some k → with_first test xs (change k) ≡ first_changed test change xs) → cond b (Some x) (first_kept test xs) ≡ Some k
          → cond b (change k ∷ xs) (x ∷ with_first test xs (change k)) ≡ cond b (change x ∷ xs) (x ∷ first_changed test change xs)
      by true later f = ap (λ (y : Kept). change y ∷ xs) (sym (same x k f))
      by false later f = ap (λ (ys : List Kept). x ∷ ys) (later f)

  pub unchanged : (change : Kept → Kept) (xs : List Kept) → first_kept test xs ≡ None → first_changed test change xs ≡ xs
  unchanged change [] is = refl
  unchanged change (x ∷ xs) is = by (test x) (unchanged change xs) is
    where
      by : (b : Bool) → (first_kept test xs ≡ None → first_changed test change xs ≡ xs) → cond b (Some x) (first_kept test xs) ≡ None → cond b (change x ∷ xs) (x ∷ first_changed test change xs) ≡ x ∷ xs
      by true later f = let clash : true ≡ false = ap is_some f in cc
      by false later f = ap (λ (ys : List Kept). x ∷ ys) (later f)

  pub put_again : (xs : List Kept) (k : Kept) → first_kept test xs ≡ Some k → with_first test xs k ≡ xs
  put_again [] k is = refl
  put_again (x ∷ xs) k is = by (test x) (put_again xs k) is
    where
      by : (b : Bool) → (first_kept test xs ≡ Some k → with_first test xs k ≡ xs) → cond b (Some x) (first_kept test xs) ≡ Some k → cond b (k ∷ xs) (x ∷ with_first test xs k) ≡ x ∷ xs
      by true later f = ap (λ (y : Kept). y ∷ xs) (sym (same x k f))
      by false later f = ap (λ (ys : List Kept). x ∷ ys) (later f)

  -- what is found has an index
  none_is_some : (o : Option Kept) → o ≡ None → IsSome o → ⊥
  none_is_some o none there = let clash = there in cc

  pub has_index : (xs : List Kept) (o : Option ℕ) → IsSome (first_kept test xs) → position test xs ≡ o → IsSome o
  has_index xs None there is = absurd (none_is_some (first_kept test xs) (not_found xs is) there)
  has_index xs (Some i) there is = refl

  -- ONE OF ANOTHER OBJECT is taken out and put back
  removed_other : (xs : List Kept) (i : ℕ) (d : Kept) → i < length xs → test (get_or xs i d) ≡ false → first_kept test (remove xs i) ≡ first_kept test xs
  removed_other [] i d low other = absurd (omega (arith, low))
  removed_other (e ∷ xs) zero d low other = sym (ap (λ b. cond b (Some e) (first_kept test xs)) other)
  removed_other (e ∷ xs) (suc i) d low other = ap (cond (test e) (Some e)) (removed_other xs i d (omega (arith, low)) other)

  put_back : (xs : List Kept) (i : ℕ) (d : Kept) → i < length xs → insert (remove xs i) i (get_or xs i d) ≡ xs
  put_back [] i d low = absurd (omega (arith, low))
  put_back (e ∷ xs) zero d low = refl
  put_back (e ∷ xs) (suc i) d low = ap (λ es. e ∷ es) (put_back xs i d (omega (arith, low)))

  changed_between : (xs : List Kept) (i : ℕ) (d w : Kept) → i < length xs → test (get_or xs i d) ≡ false → insert (with_first test (remove xs i) w) i (get_or xs i d) ≡ with_first test xs w
  changed_between [] i d w low other = absurd (omega (arith, low))
  changed_between (e ∷ xs) zero d w low other = sym (ap (λ b. cond b (w ∷ xs) (e ∷ with_first test xs w)) other)
  changed_between (e ∷ xs) (suc i) d w low other = by (test e) (changed_between xs i d w (omega (arith, low)) other) (put_back xs i d (omega (arith, low)))
    where
      by : (b : Bool) → insert (with_first test (remove xs i) w) i (get_or xs i d) ≡ with_first test xs w → insert (remove xs i) i (get_or xs i d) ≡ xs
          → insert (cond b (w ∷ remove xs i) (e ∷ with_first test (remove xs i) w)) (suc i) (get_or xs i d) ≡ cond b (w ∷ xs) (e ∷ with_first test xs w)
      by true there back = ap (λ es. w ∷ es) back
      by false there back = ap (λ es. e ∷ es) there

-- what is found as an object has what such an object has
none_has : (o : Object) (k : Kept) → is_kept o k ≡ true → None ≡ kept_content o k → ⊥
none_has (object.Text p) (kept.Text q x) is e = let clash : false ≡ true = ap is_some e in cc
none_has (object.Borrow p) (kept.Borrow q x) is e = let clash : false ≡ true = ap is_some e in cc
none_has (object.Globals p) (kept.Text q x) is e = let clash : false ≡ true = is in cc
none_has (object.Terminal t) (kept.Terminal u x) is e = let clash : false ≡ true = ap is_some e in cc
none_has (object.Printer a) (kept.Printer b x) is e = let clash : false ≡ true = ap is_some e in cc
none_has (object.Platter a) (kept.Platter b x) is e = let clash : false ≡ true = ap is_some e in cc
none_has (object.Hog a) (kept.Hog b x) is e = let clash : false ≡ true = ap is_some e in cc
none_has (object.Name n) (kept.Name m x) is e = let clash : false ≡ true = ap is_some e in cc
none_has o k is e = let clash : false ≡ true = is in cc

pub has_content : (o : Object) (xs : List Kept) (k : Kept) → first_kept (is_kept o) xs ≡ Some k → None ≡ kept_content o k → ⊥
has_content o xs k is none = none_has o k (first_passes (is_kept o) xs k is) none

-- an item that gets what it has is as it was
pub text_same : (k : Kept) (t : TextState) → text_in k ≡ Some t → with_text k t ≡ k
text_same (kept.Text p x) t is = ap (kept.Text p) (let e : Some x ≡ Some t = is in cc)
text_same k t is = refl

pub platter_same : (k : Kept) (image : List ℕ) → platter_in k ≡ Some image → with_platter k image ≡ k
platter_same (kept.Platter a x) image is = ap (kept.Platter a) (let e : Some x ≡ Some image = is in cc)
platter_same k image is = refl

-- HOLDERS
pub hog_changed : (a : List ℕ) (holder : Option ℕ) (xs : List Kept) (k : Kept) → first_kept (is_kept (object.Hog a)) xs ≡ Some k → with_first (is_kept (object.Hog a)) xs (with_holder k holder) ≡ with_first_content (object.Hog a) xs holder
hog_changed a holder xs k is = changed_here (is_kept (object.Hog a)) (λ (x : Kept). with_holder x holder) xs k is

pub hog_unlisted : (a : List ℕ) (holder : Option ℕ) (xs : List Kept) → first_kept (is_kept (object.Hog a)) xs ≡ None → with_first_content (object.Hog a) xs holder ≡ xs
hog_unlisted a holder xs is = unchanged (is_kept (object.Hog a)) (λ (x : Kept). with_holder x holder) xs is

pub name_changed : (n : List ℕ) (holder : Option ℕ) (xs : List Kept) (k : Kept) → first_kept (is_kept (object.Name n)) xs ≡ Some k → with_first (is_kept (object.Name n)) xs (with_holder k holder) ≡ with_first_content (object.Name n) xs holder
name_changed n holder xs k is = changed_here (is_kept (object.Name n)) (λ (x : Kept). with_holder x holder) xs k is

pub name_unlisted : (n : List ℕ) (holder : Option ℕ) (xs : List Kept) → first_kept (is_kept (object.Name n)) xs ≡ None → with_first_content (object.Name n) xs holder ≡ xs
name_unlisted n holder xs is = unchanged (is_kept (object.Name n)) (λ (x : Kept). with_holder x holder) xs is

-- A WORK between two items
module _ (w : Work) (read changed : Object) (apart : IsOther read changed) (xs items : List Kept) (i : ℕ) (taken : Kept) (is_i : position (is_kept read) xs ≡ Some i) (taken_is : taken ≡ get_or xs i taken) (are : items ≡ remove xs i) where
  at_i : IsAt (is_kept read) xs i
  at_i = is_at (is_kept read) xs i taken is_i

  other : is_kept changed (get_or xs i taken) ≡ false
  other = apart (get_or xs i taken) (at_i.passes taken)

  pub other_there : first_kept (is_kept changed) items ≡ first_kept (is_kept changed) xs
  other_there = ap (first_kept (is_kept changed)) are ∙ removed_other (is_kept changed) xs i taken at_i.below other

  -- the other has changed, and the first is where it was
  pub both_there : (j : ℕ) (k v : Kept) → position (is_kept changed) items ≡ Some j → insert (set items j v) i taken ≡ with_first (is_kept changed) xs v
  both_there j k v is_j =
      ap (λ (es : List Kept). insert es i taken) (first_set (is_kept changed) items j k v is_j ∙ ap (λ (es : List Kept). with_first (is_kept changed) es v) are)
      ∙ ap (λ (r : Kept). insert (with_first (is_kept changed) (remove xs i) v) i r) taken_is
      ∙ changed_between (is_kept changed) xs i taken v at_i.below other

  worked_as : (k : Kept) → first_kept (is_kept changed) xs ≡ Some k → items_worked w read changed xs ≡ put_first changed xs (worked w taken k)
  worked_as k second =
      ap (λ (o : Option Kept). worked_on w changed xs o (first_kept (is_kept changed) xs)) (here (is_kept read) xs i taken is_i taken_is) ∙ ap (worked_on w changed xs (Some taken)) second

  pub done_with : {T E : Type 0} (k v : Kept) (end : List Kept) (r : Result T E) → first_kept (is_kept changed) xs ≡ Some k → OnOk r (worked w taken k ≡ Ok v) → end ≡ with_first (is_kept changed) xs v
      → OnOk r (items_worked w read changed xs ≡ Ok end)
  done_with k v end (Ok x) second is same_end = worked_as k second ∙ ap (put_first changed xs) is ∙ ap Ok (sym same_end)
  done_with k v end (Err e) second is same_end = is

  fault_with : (v : Work) (f : Fault) (said : Result Kept ℕ) → WorkFails v said f → WorkFails v (put_first changed xs said) f
  fault_with (work.Move name) (fault.Code code) said is = ap (put_first changed xs) is
  fault_with (work.Move name) fault.NoMemory said is = is
  fault_with v (fault.Code code) said is = ap (put_first changed xs) is
  fault_with v fault.NoMemory said is = is

  pub fails_with : {T : Type 0} (k : Kept) (r : Result T Fault) → first_kept (is_kept changed) xs ≡ Some k → IfErr r (WorkFails w (worked w taken k)) → IfErr r (WorkFails w (items_worked w read changed xs))
  fails_with k (Ok x) second is = is
  fails_with k (Err f) second is = subst (λ (said : Result (List Kept) ℕ). WorkFails w said f) (sym (worked_as k second)) (fault_with w f (worked w taken k) is)
