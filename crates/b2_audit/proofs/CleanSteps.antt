-- Whether a group is clean, step by step along the list, and by cutting the list before a step.
use Rattle.std.specs.Prelude.{◌≡◌, ◌↔◌, ◌⊎◌, true, List, [], ◌∷◌, ◌++◌, refl}
use Rattle.std.proofs.Common.{ap, subst, inl, inr}
use Rattle.b2_access.specs.declared.objects.Object.{Object}
use Rattle.b2_access.specs.Store.{IsIn}
use Rattle.b2_audit.specs.Steps.{Step, Group, by_other, foul, IsClean}

-- nothing of a list is of another
abbrev pub AreApart : List Object → List Object → Type 0
AreApart xs os = (o : Object) → IsIn o xs → IsIn o os → ⊥

-- no member touches what is foul so far
abbrev pub CleanFrom : Group → List Object → List Step → Type 0
CleanFrom inside os [] = Unit {0}
CleanFrom inside os (x ∷ xs) = (inside x.who ≡ true → AreApart x.touched os) × CleanFrom inside (by_other inside x ++ os) xs

-- what is foul after some steps
abbrev foul_after : Group → List Step → List Object → List Object
foul_after inside [] os = os
foul_after inside (x ∷ xs) os = foul_after inside xs (by_other inside x ++ os)

pub in_both : (o : Object) (xs ys : List Object) → IsIn o (xs ++ ys) ↔ (IsIn o xs ⊎ IsIn o ys)
in_both o [] ys = (λ h. inr h, λ h. elim h [ inl i ↦ absurd i | inr i ↦ i ])
in_both o (x ∷ xs) ys =
    let rest = in_both o xs ys in (
      λ h. elim h [ inl e ↦ inl (inl e) | inr i ↦ elim (rest.0 i) [ inl j ↦ inl (inr j) | inr j ↦ inr j ] ],
      λ h. elim h [ inl i ↦ elim i [ inl e ↦ inl e | inr j ↦ inr (rest.1 (inl j)) ] | inr j ↦ inr (rest.1 (inr j)) ],
    )

-- that is what was foul before, and what others wrote in them
foul_so_far : (inside : Group) (xs : List Step) (o : Object) (os : List Object) → IsIn o (foul_after inside xs os) ↔ (IsIn o (foul inside xs) ⊎ IsIn o os)
foul_so_far inside [] o os = (λ h. inr h, λ h. elim h [ inl i ↦ absurd i | inr i ↦ i ])
foul_so_far inside (x ∷ xs) o os =
    let rest = foul_so_far inside xs o (by_other inside x ++ os) in
    let here = in_both o (by_other inside x) os in
    let more = in_both o (by_other inside x) (foul inside xs) in (
      λ h. elim (rest.0 h) [ inl i ↦ inl (more.1 (inr i)) | inr i ↦ elim (here.0 i) [ inl j ↦ inl (more.1 (inl j)) | inr j ↦ inr j ] ],
      λ h. rest.1 (elim h [ inl i ↦ elim (more.0 i) [ inl j ↦ inr (here.1 (inl j)) | inr j ↦ inl j ] | inr j ↦ inr (here.1 (inr j)) ]),
    )

clean_at : (inside : Group) (before after : List Step) (x : Step) (os : List Object) → CleanFrom inside os (before ++ x ∷ after) → inside x.who ≡ true → AreApart x.touched (foul_after inside before os)
clean_at inside [] after x os h member = h.0 member
clean_at inside (y ∷ ys) after x os h member = clean_at inside ys after x (by_other inside y ++ os) h.1 member

clean_if : (inside : Group) (steps : List Step) (os : List Object)
    → ((before after : List Step) (x : Step) → steps ≡ before ++ x ∷ after → inside x.who ≡ true → AreApart x.touched (foul_after inside before os)) → CleanFrom inside os steps
clean_if inside [] os h = tt
clean_if inside (x ∷ xs) os h =
    (λ member. h [] xs x refl member, clean_if inside xs (by_other inside x ++ os) (λ before after y is member. h (x ∷ before) after y (ap (λ (ys : List Step). x ∷ ys) is) member))

-- the two say the same
pub clean_steps : (inside : Group) (steps : List Step) → CleanFrom inside [] steps ↔ IsClean inside steps
clean_steps inside steps = (
  λ h before after x is member o touched dirty.
      clean_at inside before after x [] (subst (λ (xs : List Step). CleanFrom inside [] xs) is h) member o touched ((foul_so_far inside before o []).1 (inl dirty)),
  λ h. clean_if inside steps [] (λ before after x is member o touched dirty.
      h before after x is member o touched (elim ((foul_so_far inside before o []).0 dirty) [ inl i ↦ i | inr i ↦ absurd i ])),
)
