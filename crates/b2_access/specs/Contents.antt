-- What objects have after one of them got another content.
use Rattle.std.specs.Prelude.{◌≡◌, ◌≢◌, ℕ, ◌==◌, Bool, true, false, cond, List, [], ◌∷◌, ◌++◌, Option, Some, None, option_map, IsSome, refl}
use Rattle.std.specs.Map.{lookup, set_value}
use Rattle.std.specs.Cmp.{unsigned_Decides}
use Rattle.std.specs.Str.{bytes_eq}
use Rattle.std.proofs.Common.{sym, ap, subst, ◌∙◌, inl, inr}
use Rattle.std.proofs.lemmas.Bool.{false_from_ne_true}
use Rattle.std.proofs.lemmas.Slice.Eq.{bytes_eq-Decides}
use Rattle.b2_access.specs.declared.objects.Object.{Object}
use Rattle.b2_access.specs.declared.objects.Object.TheVariants as object
use Rattle.b2_access.specs.Objects.{same_object}
use Rattle.b2_access.specs.Rows.{NameRows, device_row, holder_in, name_row, with_name_row, with_or_added}
use Rattle.b2_access.specs.Store.{StoreState, ContentOf, content, put}

-- rows by any test of their keys: the first that passes it has the new content
pub row_same : {K X : Type 0} (test : K → Bool) (w : X) (es : List (K × X)) → lookup test (set_value test es w) ≡ option_map (λ _. w) (lookup test es)
row_same test w [] = refl
row_same {K} {X} test w (e ∷ es) =
    let P : Bool → Type 0 = λ b. b ≡ test e.0 → lookup test (cond b ((e.0, w) ∷ es) (e ∷ set_value test es w)) ≡ option_map (λ _. w) (cond b (Some e.1) (lookup test es)) in
    let both : (b : Bool) → P b = elim [
      | true ↦ λ is. ap (λ b. cond b (Some w) (lookup test es)) (sym is)
      | false ↦ λ is. ap (λ b. cond b (Some e.1) (lookup test (set_value test es w))) (sym is) ∙ row_same test w es
    ] in
    both (test e.0) refl

-- and by a test that no key passes with it all is as before
abbrev pub NeverBoth : {K : Type 0} → (K → Bool) → (K → Bool) → Type 0
NeverBoth {K} test other = (k : K) → test k ≡ true → other k ≡ true → ⊥

pub row_other : {K X : Type 0} (test other : K → Bool) (w : X) → NeverBoth test other → (es : List (K × X)) → lookup other (set_value test es w) ≡ lookup other es
row_other test other w never [] = refl
row_other {K} {X} test other w never (e ∷ es) =
    let P : Bool → Type 0 = λ b. b ≡ test e.0 → lookup other (cond b ((e.0, w) ∷ es) (e ∷ set_value test es w)) ≡ cond (other e.0) (Some e.1) (lookup other es) in
    let both : (b : Bool) → P b = elim [
      | true ↦ λ is.
          let fails = false_from_ne_true (other e.0) (never e.0 (sym is)) in
          ap (λ b. cond b (Some w) (lookup other es)) fails ∙ sym (ap (λ b. cond b (Some e.1) (lookup other es)) fails)
      | false ↦ λ is. ap (cond (other e.0) (Some e.1)) (row_other test other w never es)
    ] in
    both (test e.0) refl

other_number : (n m : ℕ) → n ≢ m → NeverBoth (λ k. k == n) (λ k. k == m)
other_number n m apart k is_n is_m = apart (sym ((unsigned_Decides k n).0 is_n) ∙ (unsigned_Decides k m).0 is_m)

other_device : (a b : List ℕ) → a ≢ b → NeverBoth (λ k. bytes_eq k a) (λ k. bytes_eq k b)
other_device a b apart k is_a is_b = apart (sym ((bytes_eq-Decides k a).0 is_a) ∙ (bytes_eq-Decides k b).0 is_b)

-- a row that is added is found where no other has its key, and no other is lost
row_added : {K X : Type 0} (test : K → Bool) (k : K) (w : X) → test k ≡ true → (es : List (K × X)) → lookup test es ≡ None → lookup test (es ++ (k, w) ∷ []) ≡ Some w
row_added test k w is [] none = ap (λ b. cond b (Some w) None) is
row_added {K} {X} test k w is (e ∷ es) none = by (test e.0) none (row_added test k w is es)
  where
    by : (b : Bool) → cond b (Some e.1) (lookup test es) ≡ None → (lookup test es ≡ None → lookup test (es ++ (k, w) ∷ []) ≡ Some w)
        → cond b (Some e.1) (lookup test (es ++ (k, w) ∷ [])) ≡ Some w
    by true h rest = absurd (cc)
    by false h rest = rest h

row_added_other : {K X : Type 0} (test : K → Bool) (k : K) (w : X) → test k ≡ false → (es : List (K × X)) → lookup test (es ++ (k, w) ∷ []) ≡ lookup test es
row_added_other test k w fails [] = ap (λ b. cond b (Some w) None) fails
row_added_other test k w fails (e ∷ es) = ap (cond (test e.0) (Some e.1)) (row_added_other test k w fails es)

-- a name has the holder that it got, and no other changes
name_same : (n : List ℕ) (rows : NameRows) (c : Option ℕ) → name_row n (with_name_row n rows c) ≡ c
name_same n rows c = by (device_row n rows) refl
  where
    by : (o : Option (Option ℕ)) → device_row n rows ≡ o → name_row n (with_or_added o n rows c) ≡ c
    by None is = ap holder_in (row_added (λ k. bytes_eq k n) n c ((bytes_eq-Decides n n).1 refl) rows is)
    by (Some old) is = ap holder_in (row_same (λ k. bytes_eq k n) c rows ∙ ap (option_map (λ _. c)) is)

name_other : (n m : List ℕ) (rows : NameRows) (c : Option ℕ) → n ≢ m → name_row m (with_name_row n rows c) ≡ name_row m rows
name_other n m rows c apart = by (device_row n rows)
  where
    by : (o : Option (Option ℕ)) → name_row m (with_or_added o n rows c) ≡ name_row m rows
    by None = ap holder_in (row_added_other (λ k. bytes_eq k m) n c (false_from_ne_true (bytes_eq n m) (λ is. apart ((bytes_eq-Decides n m).0 is))) rows)
    by (Some old) = ap holder_in (row_other _ _ c (other_device n m apart) rows)

-- the object has it, where it was listed
pub content_same : (o : Object) (c : ContentOf o) (s : StoreState) → content (put o c s) o ≡ option_map (λ _. c) (content s o)
content_same (object.Text p) c s = row_same (λ k. k == p) c s.texts
content_same (object.Borrow p) c s = row_same (λ k. k == p) c s.borrows
content_same (object.Globals p) c s = row_same (λ k. k == p) c s.globals
content_same (object.Terminal t) c s = row_same (λ k. k == t) c s.terminals
content_same (object.Printer a) c s = row_same (λ k. bytes_eq k a) c s.printers
content_same (object.Platter a) c s = row_same (λ k. bytes_eq k a) c s.platters
content_same (object.Hog a) c s = row_same (λ k. bytes_eq k a) c s.hogs
content_same (object.Name n) c s = ap Some (name_same n s.names c)

-- all else stays
pub content_other : (o x : Object) (c : ContentOf o) (s : StoreState) → x ≢ o → content (put o c s) x ≡ content s x
content_other (object.Text p) (object.Text q) c s apart = row_other _ _ c (other_number p q (λ e. apart (ap object.Text (sym e)))) s.texts
content_other (object.Borrow p) (object.Borrow q) c s apart = row_other _ _ c (other_number p q (λ e. apart (ap object.Borrow (sym e)))) s.borrows
content_other (object.Globals p) (object.Globals q) c s apart = row_other _ _ c (other_number p q (λ e. apart (ap object.Globals (sym e)))) s.globals
content_other (object.Terminal t) (object.Terminal u) c s apart = row_other _ _ c (other_number t u (λ e. apart (ap object.Terminal (sym e)))) s.terminals
content_other (object.Printer a) (object.Printer b) c s apart = row_other _ _ c (other_device a b (λ e. apart (ap object.Printer (sym e)))) s.printers
content_other (object.Platter a) (object.Platter b) c s apart = row_other _ _ c (other_device a b (λ e. apart (ap object.Platter (sym e)))) s.platters
content_other (object.Hog a) (object.Hog b) c s apart = row_other _ _ c (other_device a b (λ e. apart (ap object.Hog (sym e)))) s.hogs
content_other (object.Name n) (object.Name m) c s apart = ap Some (name_other n m s.names c (λ e. apart (ap object.Name (sym e))))
content_other o x c s apart = refl

-- an object that is the same in two stores is so after a content was put into both
pub put_alike : (p o : Object) (c : ContentOf p) (s t : StoreState) → content s o ≡ content t o → content (put p c s) o ≡ content (put p c t) o
put_alike p o c s t same = elim (same_object o p) [
  | inl e ↦
      let P : Object → Type 0 = λ x. content s x ≡ content t x → content (put p c s) x ≡ content (put p c t) x in
      let at_p : P p = λ h. content_same p c s ∙ ap (option_map (λ _. c)) h ∙ sym (content_same p c t) in
      subst P (sym e) at_p same
  | inr apart ↦ content_other p o c s apart ∙ same ∙ sym (content_other p o c t apart)
]

changed_listed : {X : Type 0} (w : X) (x : Option X) → IsSome x → IsSome (option_map (λ _. w) x)
changed_listed w None h = h
changed_listed w (Some x) h = refl

-- an object that is listed stays so
pub put_listed : (p o : Object) (c : ContentOf p) (s : StoreState) → IsSome (content s o) → IsSome (content (put p c s) o)
put_listed p o c s listed = elim (same_object o p) [
  | inl e ↦
      let P : Object → Type 0 = λ x. IsSome (content s x) → IsSome (content (put p c s) x) in
      let at_p : P p = λ h. subst (λ (x : Option (ContentOf p)). IsSome x) (sym (content_same p c s)) (changed_listed c (content s p) h) in
      subst P (sym e) at_p listed
  | inr apart ↦ subst (λ (x : Option (ContentOf o)). IsSome x) (sym (content_other p o c s apart)) listed
]
