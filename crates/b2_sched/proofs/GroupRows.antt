-- The own states of two worlds, of which the second has a group alone, after one of them changed.
use Rattle.std.specs.Prelude.{◌≡◌, ◌≢◌, ℕ, ◌==◌, Bool, true, false, List, [], Option, Some, None, is_some, option_map, refl}
use Rattle.std.proofs.Common.{sym, ap, subst, ◌∙◌}
use Rattle.std.proofs.lemmas.Bool.{true≢false}
use Rattle.b2_sched.proofs.Numbered.{numbered_same, numbered_other}
use Rattle.b2_access.specs.Homes.{IsWithin}
use Rattle.b2_access.specs.Rows.{row_of, with_row}
use Rattle.b2_access.specs.declared.private.Private.{Private}
use Rattle.b2_audit.specs.Steps.{Group}
use Rattle.b2_sched.proofs.Numbers.{same_number, other_number}
use Rattle.b2_sched.specs.Groups.{MembersAlike}
use Rattle.b2_sched.specs.World.{changed, row_changed}

-- two lists of rows that have the same at a number have so after the same change
row_alike : (q p : ℕ) (x : Private) (xs ys : List (ℕ × Private)) → row_of q xs ≡ row_of q ys → row_of q (with_row p xs x) ≡ row_of q (with_row p ys x)
row_alike q p x xs ys same = by (q == p) refl
  where
    by : (b : Bool) → (q == p) ≡ b → row_of q (with_row p xs x) ≡ row_of q (with_row p ys x)
    by true e =
        let at_p : row_of p xs ≡ row_of p ys → row_of p (with_row p xs x) ≡ row_of p (with_row p ys x) = λ h. numbered_same p x xs ∙ ap (option_map (λ _. x)) h ∙ sym (numbered_same p x ys) in
        subst (λ k. row_of k xs ≡ row_of k ys → row_of k (with_row p xs x) ≡ row_of k (with_row p ys x)) (sym (same_number q p e)) at_p same
    by false e = numbered_other q p x (other_number q p e) xs ∙ same ∙ sym (numbered_other q p x (other_number q p e) ys)

pub is_it : (x me : Private) → Some x ≡ Some me → x ≡ me
is_it x me e = cc

-- a row that got another content has that
put_there : (x me : Private) (o : Option Private) → option_map (λ _. x) o ≡ Some me → x ≡ me
put_there x me None e = let clash : false ≡ true = ap (λ (o : Option Private). is_some o) e in cc
put_there x me (Some y) e = is_it x me e

-- what holds of an own state that was got, and of those that others have
pub row_comes : (P : Private → Type 0) (q p : ℕ) (x : Private) (xs : List (ℕ × Private)) → (q ≡ p → P x) → (q ≢ p → (me : Private) → row_of q xs ≡ Some me → P me) → (me : Private) → row_of q (with_row p xs x) ≡ Some me → P me
row_comes P q p x xs holds held me is = by (q == p) refl
  where
    by : (b : Bool) → (q == p) ≡ b → P me
    by true e =
        let at_p : row_of p (with_row p xs x) ≡ Some me = subst (λ k. row_of k (with_row p xs x) ≡ Some me) (same_number q p e) is in
        subst P (put_there x me (row_of p xs) (sym (numbered_same p x xs) ∙ at_p)) (holds (same_number q p e))
    by false e = held (other_number q p e) me (sym (numbered_other q p x (other_number q p e) xs) ∙ is)

-- and of all, also of the one that got it
pub row_holds : (P : Private → Type 0) (q p : ℕ) (x : Private) (xs : List (ℕ × Private)) → (q ≡ p → P x) → ((me : Private) → row_of q xs ≡ Some me → P me) → (me : Private) → row_of q (with_row p xs x) ≡ Some me → P me
row_holds P q p x xs holds held me is = row_comes P q p x xs holds (λ apart. held) me is

module _ (g : Group) where
  pub is_another : (p q : ℕ) → g p ≡ false → g q ≡ true → q ≢ p
  is_another p q out member is = true≢false (sym member ∙ ap g is ∙ out)

  -- one in both worlds
  pub both_rows : (p : ℕ) (x : Private) (xs ys : List (ℕ × Private)) → IsWithin g x → MembersAlike g xs ys → MembersAlike g (with_row p xs x) (with_row p ys x)
  both_rows p x xs ys w alike = record {
    members = λ q member. row_alike q p x xs ys (alike.members q member);
    absent = λ q out. row_alike q p x ys [] (alike.absent q out);
    homes = λ q me member is. row_holds (IsWithin g) q p x xs (λ e. w) (λ you there. alike.homes q you member there) me is;
  }

  -- one of an outsider in the first alone
  pub first_rows : (p : ℕ) (x : Private) (xs ys : List (ℕ × Private)) → g p ≡ false → MembersAlike g xs ys → MembersAlike g (with_row p xs x) ys
  first_rows p x xs ys out alike = record {
    members = λ q member. numbered_other q p x (is_another p q out member) xs ∙ alike.members q member;
    absent = alike.absent;
    homes = λ q me member is. alike.homes q me member (sym (numbered_other q p x (is_another p q out member) xs) ∙ is);
  }

  -- whoever it is that changes, where it is present
  module _ (f : Private → Private) (keeps : (me : Private) → IsWithin g me → IsWithin g (f me)) (p : ℕ) (xs ys : List (ℕ × Private)) (alike : MembersAlike g xs ys) where
    both_changed : (o : Option Private) → g p ≡ true → row_of p xs ≡ o → MembersAlike g (row_changed p o f xs) (row_changed p o f ys)
    both_changed None member is = alike
    both_changed (Some me) member is = both_rows p (f me) xs ys (keeps me (alike.homes p me member is)) alike

    first_changed : (o : Option Private) → g p ≡ false → MembersAlike g (row_changed p o f xs) ys
    first_changed None out = alike
    first_changed (Some me) out = first_rows p (f me) xs ys out alike

    pub rows_changed : MembersAlike g (changed p f xs) (changed p f ys)
    rows_changed = by (g p) refl
      where
        by : (b : Bool) → g p ≡ b → MembersAlike g (row_changed p (row_of p xs) f xs) (row_changed p (row_of p ys) f ys)
        by true member = subst (λ (o : Option Private). MembersAlike g (row_changed p (row_of p xs) f xs) (row_changed p o f ys)) (alike.members p member) (both_changed (row_of p xs) member refl)
        by false out = subst (λ (o : Option Private). MembersAlike g (row_changed p (row_of p xs) f xs) (row_changed p o f ys)) (sym (alike.absent p out)) (first_changed (row_of p xs) out)
