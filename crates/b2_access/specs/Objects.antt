-- Whether two objects are the same.
use Rattle.std.specs.Prelude.{◌≡◌, ◌==◌, ℕ, Bool, true, false, List, [], ◌∷◌, ◌⊎◌, refl, if◌then◌else◌}
use Rattle.std.specs.Str.{bytes_eq}
use Rattle.std.proofs.Common.{sym, ap, ◌∙◌, inl, inr}
use Rattle.std.proofs.lemmas.Bool.{true≢false}
use Rattle.std.proofs.lemmas.Slice.Eq.{bytes_eq-Decides}
use Rattle.b2_base.specs.Lexical.{first}
use Rattle.b2_access.specs.declared.objects.Object.{Object}
use Rattle.b2_access.specs.declared.objects.Object.TheVariants as object

abbrev pub Decided : Type 0 → Type 0
Decided P = P ⊎ (P → ⊥)

-- an object as numbers: its kind, and which one of the kind it is
abbrev object_numbers : Object → List ℕ
object_numbers (object.Text p) = 0 ∷ p ∷ []
object_numbers (object.Borrow p) = 1 ∷ p ∷ []
object_numbers (object.Name n) = 2 ∷ n
object_numbers (object.Globals p) = 3 ∷ p ∷ []
object_numbers (object.Terminal t) = 4 ∷ t ∷ []
object_numbers (object.Printer a) = 5 ∷ a
object_numbers (object.Platter a) = 6 ∷ a
object_numbers (object.Hog a) = 7 ∷ a

abbrev of_kind : ℕ → List ℕ → Object
of_kind k which =
    if k == 0 then object.Text (first which)
    else (if k == 1 then object.Borrow (first which)
    else (if k == 2 then object.Name which
    else (if k == 3 then object.Globals (first which)
    else (if k == 4 then object.Terminal (first which)
    else (if k == 5 then object.Printer which
    else (if k == 6 then object.Platter which
    else object.Hog which))))))

-- the object that has these numbers
abbrev read_back : List ℕ → Object
read_back [] = object.Text 0
read_back (k ∷ which) = of_kind k which

read_numbers : (o : Object) → read_back (object_numbers o) ≡ o
read_numbers (object.Text p) = refl
read_numbers (object.Borrow p) = refl
read_numbers (object.Name n) = refl
read_numbers (object.Globals p) = refl
read_numbers (object.Terminal t) = refl
read_numbers (object.Printer a) = refl
read_numbers (object.Platter a) = refl
read_numbers (object.Hog a) = refl

same_numbers : (xs ys : List ℕ) → Decided (xs ≡ ys)
same_numbers xs ys = by (bytes_eq xs ys) refl
  where
    by : (b : Bool) → bytes_eq xs ys ≡ b → Decided (xs ≡ ys)
    by true e = inl ((bytes_eq-Decides xs ys).0 e)
    by false e = inr (λ same. true≢false (sym ((bytes_eq-Decides xs ys).1 same) ∙ e))

pub same_object : (x o : Object) → Decided (x ≡ o)
same_object x o = by (same_numbers (object_numbers x) (object_numbers o))
  where
    by : Decided (object_numbers x ≡ object_numbers o) → Decided (x ≡ o)
    by (inl e) = inl (sym (read_numbers x) ∙ ap read_back e ∙ read_numbers o)
    by (inr apart) = inr (λ e. apart (ap object_numbers e))
