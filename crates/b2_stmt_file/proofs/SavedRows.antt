-- The values of a record, one after another: elements of arrays, and items with commas between them.
use Rattle.std.proofs.Common.{◌≡◌, ℕ, zero, suc, ◌+◌, ◌-◌, nat_lt, Bool, true, false, if◌then◌else◌, List, [], ◌∷◌, ◌++◌, Result, Ok, Err, refl, sym, ap, subst, ◌∙◌, arith}
use Rattle.std.proofs.lemmas.List.{append_assoc, append-nil}
use Rattle.std.proofs.lemmas.Bool.Decides.{nat_tests}
use Rattle.b2_base.specs.declared.codes.TheConstants.{X72_TOO_LONG}
use Rattle.b2_base.specs.Refusals.{IsRefused}
use Rattle.b2_base.specs.declared.codes.Fault.{Fault}
use Rattle.b2_base.specs.declared.codes.Fault.TheVariants as fault
use Rattle.b2_dec.specs.declared.values.Value.{Value}
use Rattle.b2_vars.specs.Tables.{VarsState}
use Rattle.b2_access.specs.Touching.{is_short}
use Rattle.b2_receiver.specs.declared.receiver.Array.{Array}
use Rattle.b2_stmt_file.specs.Elements.{array_values, element_recorded, recorded, then_values, values_from}
use Rattle.b2_stmt_file.specs.SavedValues.{values_before}

-- a value that a record may have, or not
recorded_by : (x : Value) (b : Bool) → is_short x ≡ b → recorded x ≡ (if b then Ok (x ∷ []) else Err X72_TOO_LONG)
recorded_by x b is = ap (λ (y : Bool). if y then Ok (x ∷ []) else Err X72_TOO_LONG) is

pub recorded_short : (x : Value) → is_short x ≡ true → recorded x ≡ Ok (x ∷ [])
recorded_short x is = recorded_by x true is

pub recorded_long : (x : Value) → is_short x ≡ false → recorded x ≡ Err X72_TOO_LONG
recorded_long x is = recorded_by x false is

-- values that were put after others, and those that are left
ok_is : {A : Type 0} (xs ys : List A) → ◌≡◌ {A = Result (List A) ℕ} (Ok xs) (Ok ys) → xs ≡ ys
ok_is xs ys is = cc

put_value : {A : Type 0} (old xs new ys : List A) → old ++ xs ≡ new → new ++ ys ≡ old ++ (xs ++ ys)
put_value {A} old xs new ys is = sym (ap (λ (l : List A). l ++ ys) is) ∙ append_assoc old xs ys

pub put_then : {A : Type 0} (a b : Result (List A) ℕ) (old new : List A) → values_before old a ≡ Ok new → values_before new b ≡ values_before old (then_values a b)
put_then (Err c) b old new is = cc
put_then (Ok xs) (Err c) old new is = refl
put_then (Ok xs) (Ok ys) old new is = ap Ok (put_value old xs new ys (ok_is (old ++ xs) new is))

pub refused_then : {A : Type 0} (a b : Result (List A) ℕ) (old : List A) (c : ℕ) → a ≡ Err c → values_before old (then_values a b) ≡ Err c
refused_then (Ok xs) b old c is = cc
refused_then (Err d) b old c is = cc

-- the elements of an array
pub element_put : (vars : VarsState) (a : Array) (k left : ℕ) (old new : List Value) → nat_lt 0 left ≡ true → values_before old (element_recorded vars a k) ≡ Ok new
    → values_before new (values_from vars a (k + 1) (left - 1)) ≡ values_before old (values_from vars a k left)
element_put vars a k zero old new some is = cc
element_put vars a k (suc n) old new some is =
    let one_less : n ≡ suc n - 1 = omega arith in
    subst (λ (m : ℕ). values_before new (values_from vars a (k + 1) m) ≡ values_before old (values_from vars a k (suc n))) one_less
    (put_then (element_recorded vars a k) (values_from vars a (k + 1) n) old new is)

pub element_refused : (vars : VarsState) (a : Array) (k left : ℕ) (old : List Value) (c : ℕ) → nat_lt 0 left ≡ true → element_recorded vars a k ≡ Err c → values_before old (values_from vars a k left) ≡ Err c
element_refused vars a k zero old c some is = cc
element_refused vars a k (suc n) old c some is = refused_then (element_recorded vars a k) (values_from vars a (k + 1) n) old c is

none_left : (n : ℕ) → nat_lt 0 n ≡ false → 0 ≡ n
none_left n none = grind (arith, nat_tests)

pub none_put : (vars : VarsState) (a : Array) (k left : ℕ) (old : List Value) → nat_lt 0 left ≡ false → values_before old (values_from vars a k left) ≡ Ok old
none_put vars a k left old none = subst (λ (m : ℕ). values_before old (values_from vars a k m) ≡ Ok old) (none_left left none) (ap Ok (append-nil old))

-- a refusal of one is that of all
pub refused_so : {A B : Type 0} (one : Result A ℕ) (all : Result B ℕ) (f : Fault) → ((c : ℕ) → one ≡ Err c → all ≡ Err c) → IsRefused one f → IsRefused all f
refused_so one all (fault.Code c) h is = h c is
refused_so one all fault.NoMemory h is = tt

before_refused : (answer : Result (List Value) ℕ) (old : List Value) (c : ℕ) → values_before old answer ≡ Err c → answer ≡ Err c
before_refused (Ok xs) old c is = cc
before_refused (Err d) old c is = is

pub element_failed : (vars : VarsState) (a : Array) (k left : ℕ) (so_far old : List Value) (f : Fault) → nat_lt 0 left ≡ true → values_before so_far (values_from vars a k left) ≡ values_before old (array_values vars a)
    → IsRefused (element_recorded vars a k) f → IsRefused (array_values vars a) f
element_failed vars a k left so_far old f some same is =
    refused_so (element_recorded vars a k) (array_values vars a) f (λ c refused. before_refused (array_values vars a) old c (sym same ∙ element_refused vars a k left so_far c some refused)) is
