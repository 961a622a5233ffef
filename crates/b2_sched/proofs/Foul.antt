-- What is foul after some steps, and clean groups along two lists of steps.
use Rattle.std.specs.Prelude.{◌≡◌, ◌⊎◌, Bool, true, false, List, [], ◌∷◌, ◌++◌, refl, if◌then◌else◌}
use Rattle.std.proofs.Common.{sym, ap, subst, inl, inr}
use Rattle.b2_access.specs.declared.objects.Object.{Object}
use Rattle.b2_access.specs.Store.{IsIn}
use Rattle.b2_access.specs.Task.{in_left, in_right}
use Rattle.b2_audit.specs.Steps.{Step, Group, by_other, foul}
use Rattle.b2_audit.proofs.CleanSteps.{CleanFrom, in_both}

-- with what a step of another wrote, and with what those of others wrote
abbrev pub fouled : Group → Step → List Object → List Object
fouled g x os = by_other g x ++ os

abbrev pub foul_after : Group → List Step → List Object → List Object
foul_after g [] os = os
foul_after g (x ∷ xs) os = foul_after g xs (fouled g x os)

-- a step of a member makes nothing foul, and that of another what it wrote
pub own_fouls_nothing : (g : Group) (x : Step) (os : List Object) → g x.who ≡ true → fouled g x os ≡ os
own_fouls_nothing g x os member = ap (λ (b : Bool). (if b then [] else x.written) ++ os) member

pub other_fouls : (g : Group) (x : Step) (os : List Object) (o : Object) → g x.who ≡ false → IsIn o x.written → IsIn o (fouled g x os)
other_fouls g x os o other i = in_left o (by_other g x) os (subst (λ (ws : List Object). IsIn o ws) (ap (λ (b : Bool). if b then [] else x.written) (sym other)) i)

-- what is foul stays so
pub stays_foul : (g : Group) (xs : List Step) (os : List Object) (o : Object) → IsIn o os → IsIn o (foul_after g xs os)
stays_foul g [] os o h = h
stays_foul g (x ∷ xs) os o h = stays_foul g xs (fouled g x os) o (in_right o (by_other g x) os h)

-- it is what was foul before, or what others wrote in these steps
pub foul_so_far : (g : Group) (xs : List Step) (os : List Object) (o : Object) → IsIn o (foul_after g xs os) → IsIn o (foul g xs) ⊎ IsIn o os
foul_so_far g [] os o h = inr h
foul_so_far g (x ∷ xs) os o h = elim (foul_so_far g xs (fouled g x os) o h) [
  | inl i ↦ inl (in_right o (by_other g x) (foul g xs) i)
  | inr i ↦ elim ((in_both o (by_other g x) os).0 i) [ inl j ↦ inl (in_left o (by_other g x) (foul g xs) j) | inr j ↦ inr j ]
]

-- along two lists of steps
pub foul_append : (g : Group) (xs ys : List Step) (os : List Object) → foul_after g (xs ++ ys) os ≡ foul_after g ys (foul_after g xs os)
foul_append g [] ys os = refl
foul_append g (x ∷ xs) ys os = foul_append g xs ys (fouled g x os)

pub clean_first : (g : Group) (xs ys : List Step) (os : List Object) → CleanFrom g os (xs ++ ys) → CleanFrom g os xs
clean_first g [] ys os h = tt
clean_first g (x ∷ xs) ys os h = (h.0, clean_first g xs ys (fouled g x os) h.1)

pub clean_rest : (g : Group) (xs ys : List Step) (os : List Object) → CleanFrom g os (xs ++ ys) → CleanFrom g (foul_after g xs os) ys
clean_rest g [] ys os h = h
clean_rest g (x ∷ xs) ys os h = clean_rest g xs ys (fouled g x os) h.1
