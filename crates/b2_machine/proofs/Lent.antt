-- What a loan leaves: what is lent is the same from two stores that agree on what it touches, and what is alike in both is so after it.
use Rattle.std.specs.Prelude.{◌≡◌, ℕ, Bool, true, false, List, ◌∷◌, ◌++◌, Option, Some, None, option_map, unwrap_or, refl}
use Rattle.std.proofs.Common.{sym, ap, subst, ◌∙◌, inl, inr}
use Rattle.b2_text.specs.Program.{TextState}
use Rattle.b2_vars.specs.Globals.{Globals, unreached}
use Rattle.b2_vars.specs.Tables.{VarsState}
use Rattle.b2_access.specs.Contents.{content_other, content_same, put_alike}
use Rattle.b2_access.specs.Loans.{Loan, LoansGlobals, globals_at, globals_objects, globals_of, holder_of, lender_at, loan_touched, name_objects, with_globals_at, with_globals_of}
use Rattle.b2_access.specs.Objects.{Decided, same_object}
use Rattle.b2_access.specs.Sharing.{ServingOf}
use Rattle.b2_access.specs.Store.{StoreState, AgreeOn, IsIn, content, put}
use Rattle.b2_access.specs.declared.lending.At.{At}
use Rattle.b2_access.specs.declared.lending.At.TheVariants as at
use Rattle.b2_access.specs.declared.objects.Object.{Object}
use Rattle.b2_access.specs.declared.objects.Object.TheVariants as object
use Rattle.b2_access.specs.Task.{in_right}
use Rattle.b2_machine.specs.Step.{lent_to_begin, no_text, seen_by, text_in}
use Rattle.b2_machine.specs.Touched.{begin_touched, reached_objects}

pub same_text : (p : ℕ) (s t : StoreState) → content s (object.Text p) ≡ content t (object.Text p) → text_in s p ≡ text_in t p
same_text p s t e = ap (λ x. unwrap_or x no_text) e

-- ---- stores that agree on what a loan touches

module _ (who home : ℕ) (s t : StoreState) where
  same_holder : (n : List ℕ) → content s (object.Name n) ≡ content t (object.Name n) → holder_of s n ≡ holder_of t n
  same_holder n e = cc

  pub lender_same : (whose : At) → AgreeOn (loan_touched who home whose s) s t → lender_at home whose s ≡ lender_at home whose t
  lender_same at.None agree = refl
  lender_same at.Home agree = refl
  lender_same (at.Named n) agree = same_holder n (agree (object.Name n) (inr (inr (inl refl))))

  globals_same : (x : Option ℕ) → AgreeOn (globals_objects x) s t → globals_of x s ≡ globals_of x t
  globals_same None agree = refl
  globals_same (Some p) agree = agree (object.Globals p) (inl refl)

  in_globals : (whose : At) (o : Object) → IsIn o (globals_objects (lender_at home whose s)) → IsIn o (loan_touched who home whose s)
  in_globals whose o i = inr (inr (in_right o (name_objects whose) (globals_objects (lender_at home whose s)) i))

  pub lent_same : (whose : At) → AgreeOn (loan_touched who home whose s) s t → globals_at home whose s ≡ globals_at home whose t
  lent_same whose agree =
      globals_same (lender_at home whose s) (λ o i. agree o (in_globals whose o i)) ∙ ap (λ (x : Option ℕ). globals_of x t) (lender_same whose agree)

  pub touches_same : (whose : At) → AgreeOn (loan_touched who home whose s) s t → loan_touched who home whose s ≡ loan_touched who home whose t
  touches_same whose agree = ap (λ (x : Option ℕ). object.Text who ∷ object.Text home ∷ (name_objects whose ++ globals_objects x)) (lender_same whose agree)

pub reached_same : (b c : Bool) (home : ℕ) (whose : At) (s t : StoreState) → b ≡ c → lender_at home whose s ≡ lender_at home whose t → reached_objects b home whose s ≡ reached_objects c home whose t
reached_same b c home whose s t is same = of_same b ∙ ap (λ (d : Bool). reached_objects d home whose t) is
  where
    of_same : (b : Bool) → reached_objects b home whose s ≡ reached_objects b home whose t
    of_same false = refl
    of_same true = ap globals_objects same

pub seen_same : (who home : ℕ) (whose : At) (s t : StoreState) → AgreeOn (loan_touched who home whose s) s t → seen_by who home whose s ≡ seen_by who home whose t
seen_same who home whose s t agree =
    ap (λ (u : TextState). record { own = u; home = text_in s home; globals = unreached (globals_at home whose s) }) (same_text who s t (agree (object.Text who) (inl refl)))
    ∙ ap (λ (u : TextState). record { own = text_in t who; home = u; globals = unreached (globals_at home whose s) }) (same_text home s t (agree (object.Text home) (inr (inl refl))))
    ∙ ap (λ (g : Option VarsState). record { own = text_in t who; home = text_in t home; globals = unreached g }) (lent_same who home s t whose agree)

-- ---- what is touched where a statement begins

pub in_begin : (who home : ℕ) (whose : At) (s : StoreState) (o : Object) → IsIn o (loan_touched who home whose s) → IsIn o (begin_touched who home whose s)
in_begin who home at.None s o i = i
in_begin who home at.Home s o i = in_right o (loan_touched who home at.None s) (loan_touched who home at.Home s) i
in_begin who home (at.Named n) s o i = in_right o (loan_touched who home at.None s) (loan_touched who home (at.Named n) s) i

pub home_in : (who home : ℕ) (whose : At) (s : StoreState) → IsIn (object.Text home) (begin_touched who home whose s)
home_in who home at.None s = inr (inl refl)
home_in who home at.Home s = inr (inl refl)
home_in who home (at.Named n) s = inr (inl refl)

pub begin_same : (who home : ℕ) (whose : At) (s t : StoreState) → AgreeOn (loan_touched who home whose s) s t → begin_touched who home whose s ≡ begin_touched who home whose t
begin_same who home at.None s t agree = refl
begin_same who home at.Home s t agree = refl
begin_same who home (at.Named n) s t agree = ap (λ (os : List Object). loan_touched who home at.None s ++ os) (touches_same who home s t (at.Named n) agree)

pub reached_touched : (b : Bool) (who home : ℕ) (whose : At) (s : StoreState) (o : Object) → IsIn o (reached_objects b home whose s) → IsIn o (loan_touched who home whose s)
reached_touched false who home whose s o i = absurd i
reached_touched true who home whose s o i = inr (inr (in_right o (name_objects whose) (globals_objects (lender_at home whose s)) i))

-- ---- after a loan

with_same : (x : Option ℕ) (left : Option VarsState) (s t : StoreState) (o : Object) → content s o ≡ content t o → content (with_globals_of x left s) o ≡ content (with_globals_of x left t) o
with_same None left s t o e = e
with_same (Some p) None s t o e = e
with_same (Some p) (Some w) s t o e = put_alike (object.Globals p) o w s t e

pub loan_follows : (home : ℕ) (whose : At) (left more : Option VarsState) (s t : StoreState) → lender_at home whose s ≡ lender_at home whose t → left ≡ more → (o : Object) → content s o ≡ content t o
    → content (with_globals_at home whose s left) o ≡ content (with_globals_at home whose t more) o
loan_follows home whose left more s t same is o e =
    with_same (lender_at home whose s) left s t o e ∙ ap (λ (x : Option ℕ). content (with_globals_of x left t) o) same ∙ ap (λ (l : Option VarsState). content (with_globals_at home whose t l) o) is

left_others : (x : Option ℕ) (left : Option VarsState) (s : StoreState) (o : Object) → (IsIn o (globals_objects x) → ⊥) → content (with_globals_of x left s) o ≡ content s o
left_others None left s o out = refl
left_others (Some p) None s o out = refl
left_others (Some p) (Some w) s o out = content_other (object.Globals p) o w s (λ e. out (inl e))

-- what is put back as it was changes no object
put_same : (p : ℕ) (w : VarsState) (s : StoreState) (o : Object) → content s (object.Globals p) ≡ Some w → content (put (object.Globals p) w s) o ≡ content s o
put_same p w s o is = by (same_object o (object.Globals p))
  where
    here : content (put (object.Globals p) w s) (object.Globals p) ≡ content s (object.Globals p)
    here = content_same (object.Globals p) w s ∙ ap (option_map (λ _. w)) is ∙ sym is

    by : Decided (o ≡ object.Globals p) → content (put (object.Globals p) w s) o ≡ content s o
    by (inl e) = subst (λ (x : Object). content (put (object.Globals p) w s) x ≡ content s x) (sym e) here
    by (inr apart) = content_other (object.Globals p) o w s apart

same_left : (x : Option ℕ) (s : StoreState) (o : Object) → content (with_globals_of x (globals_of x s) s) o ≡ content s o
same_left None s o = refl
same_left (Some p) s o = by (content s (object.Globals p)) refl
  where
    by : (c : Option VarsState) → content s (object.Globals p) ≡ c → content (with_globals_of (Some p) c s) o ≡ content s o
    by None is = refl
    by (Some w) is = put_same p w s o is

pub loan_leaves : (reached : Bool) (home : ℕ) (whose : At) (left : Option VarsState) (s : StoreState) (o : Object) → (reached ≡ false → left ≡ globals_at home whose s) → (IsIn o (reached_objects reached home whose s) → ⊥)
    → content (with_globals_at home whose s left) o ≡ content s o
loan_leaves true home whose left s o same out = left_others (lender_at home whose s) left s o out
loan_leaves false home whose left s o same out =
    ap (λ (l : Option VarsState). content (with_globals_at home whose s l) o) (same refl) ∙ same_left (lender_at home whose s) s o

-- names stay
pub names_left : (home : ℕ) (whose : At) (left : Option VarsState) (s : StoreState) (n : List ℕ) → content (with_globals_at home whose s left) (object.Name n) ≡ content s (object.Name n)
names_left home whose left s n = by (lender_at home whose s) left
  where
    by : (x : Option ℕ) (l : Option VarsState) → content (with_globals_of x l s) (object.Name n) ≡ content s (object.Name n)
    by None l = refl
    by (Some p) None = refl
    by (Some p) (Some w) = refl

module _ {M : Type 0} (store : M → StoreState) (serving : ServingOf M) (lending : Loan M) (loans : LoansGlobals store lending) where
  -- texts alone are lent, which changes nothing
  pub texts_same : (who home : ℕ) (m : M) → store (lending who home at.None m (unreached None)) ≡ store m
  texts_same who home m = loans who home at.None m (unreached None)

  -- to a statement
  pub begun_store : (who home : ℕ) (whose : At) (m : M) (left : Globals) → store (lent_to_begin store serving lending who home whose m left) ≡ with_globals_at home whose (store m) left.vars
  begun_store who home at.None m left = texts_same who home m
  begun_store who home at.Home m left =
      loans who home at.Home (lending who home at.None m (unreached None)) left ∙ ap (λ (s : StoreState). with_globals_at home at.Home s left.vars) (texts_same who home m)
  begun_store who home (at.Named n) m left =
      loans who home (at.Named n) (lending who home at.None m (unreached None)) left ∙ ap (λ (s : StoreState). with_globals_at home (at.Named n) s left.vars) (texts_same who home m)
