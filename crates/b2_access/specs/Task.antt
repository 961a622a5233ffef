-- What an access does once nothing stops it, as a task: it looks at objects one after another, and then tells new contents and an
-- answer, or it is refused with a code, or it finds that nobody is there whom it looks for. By its type it looks at what is reached alone, and tells new contents of what is written alone.
use Rattle.std.specs.Prelude.{ℕ, List, [], ◌∷◌, ◌++◌, map, Option}
use Rattle.std.proofs.Common.{inl, inr}
use Rattle.b2_access.specs.declared.objects.Object.{Object}
use Rattle.b2_access.specs.declared.accesses.Answer.{Answer}
use Rattle.b2_access.specs.Store.{ContentOf, IsIn}

-- all of some objects are among others
abbrev pub AreIn : List Object → List Object → Type 0
AreIn xs os = (o : Object) → IsIn o xs → IsIn o os

pub in_left : (o : Object) (xs ys : List Object) → IsIn o xs → IsIn o (xs ++ ys)
in_left o [] ys i = absurd i
in_left o (x ∷ xs) ys i = elim i [ inl e ↦ inl e | inr j ↦ inr (in_left o xs ys j) ]

pub in_right : (o : Object) (xs ys : List Object) → IsIn o ys → IsIn o (xs ++ ys)
in_right o [] ys i = i
in_right o (x ∷ xs) ys i = inr (in_right o xs ys i)

-- a new content of an object that is written
pub record Put (written : List Object) : Type 0 where
  pub target : Object
  pub there : IsIn target written
  pub value : ContentOf target

pub data Task (reached written : List Object) : Type 0 where
  Look : (o : Object) → IsIn o reached → (Option (ContentOf o) → Task reached written) → Task reached written
  Tell : List (Put written) → Answer → Task reached written
  Refuse : ℕ → Task reached written
  Missing : Task reached written

-- nothing changes
abbrev pub answers : {reached written : List Object} → Answer → Task reached written
answers x = Tell [] x

-- one object has another content
abbrev pub puts : {reached written : List Object} (o : Object) → IsIn o written → ContentOf o → Answer → Task reached written
puts o there c x = Tell (record { target = o; there = there; value = c } ∷ []) x

-- a put where one more object is written, and a task where one more is reached and written
abbrev pub put_wider : {written : List Object} (o : Object) → Put written → Put (o ∷ written)
put_wider o p = record { target = p.target; there = inr p.there; value = p.value }

abbrev pub wider : {reached written : List Object} (o : Object) → Task reached written → Task (o ∷ reached) (o ∷ written)
wider o (Look x there next) = Look x (inr there) (λ c. wider o (next c))
wider o (Tell puts x) = Tell (map (put_wider o) puts) x
wider o (Refuse c) = Refuse c
wider o Missing = Missing

-- a task that puts one more content, before the others
abbrev pub also_puts : {reached written : List Object} (o : Object) → IsIn o written → ContentOf o → Task reached written → Task reached written
also_puts o there c (Look x at next) = Look x at (λ seen. also_puts o there c (next seen))
also_puts o there c (Tell puts x) = Tell (record { target = o; there = there; value = c } ∷ puts) x
also_puts o there c (Refuse code) = Refuse code
also_puts o there c Missing = Missing
