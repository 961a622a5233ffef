-- Writers of objects without places, by the place among them.
use Rattle.std.specs.Prelude.{◌≡◌, ℕ, suc, zero, ◌<◌, ◌≤◌, Bool, true, false, cond, List, [], ◌∷◌, ◌++◌, length, set, get_or, Some, None, refl, if◌then◌else◌}
use Rattle.std.proofs.Common.{sym, ap, ◌∙◌, arith}
use Rattle.std.proofs.lemmas.Bool.Decides.{nat_tests}
use Rattle.std.proofs.lemmas.List.Quantifiers.{position-Some}
use Rattle.std.specs.List.{position, position_or_len}
use Rattle.std.specs.Map.{lookup}
use Rattle.b2_access.specs.declared.objects.Object.{Object}
use Rattle.b2_audit.specs.PartSets.{with_part}
use Rattle.b2_audit.specs.Marks.{is_same, with_one_among}

-- the first that is the same is at a place
pub record IsAt (rows : List (Object × ℕ)) (o : Object) (place : ℕ) : Type 0 where
  pub below : place < length rows
  pub passes : (d : Object × ℕ) → is_same (get_or rows place d).0 o ≡ true
  pub first : (j : ℕ) (d : Object × ℕ) → j < place → is_same (get_or rows j d).0 o ≡ false

tail_at : (e : Object × ℕ) (rows : List (Object × ℕ)) (o : Object) (place : ℕ) → IsAt (e ∷ rows) o (suc place) → IsAt rows o place
tail_at e rows o place h = record { below = let b = h.below in omega arith; passes = λ d. h.passes d; first = λ j d lt. h.first (suc j) d (omega arith) }

with_at : (who : ℕ) (rows : List (Object × ℕ)) (o : Object) (place : ℕ) (d : Object × ℕ) → IsAt rows o place → set rows place ((get_or rows place d).0, with_part (get_or rows place d).1 who) ≡ with_one_among who o rows
with_at who [] o place d h = let b = h.below in absurd (omega arith)
with_at who (e ∷ rows) o zero d h = ap (λ b. if b then (e.0, with_part e.1 who) ∷ rows else e ∷ with_one_among who o rows) (sym (h.passes d))
with_at who (e ∷ rows) o (suc place) d h =
    ap (λ rs. e ∷ rs) (with_at who rows o place d (tail_at e rows o place h))
    ∙ ap (λ b. if b then (e.0, with_part e.1 who) ∷ rows else e ∷ with_one_among who o rows) (sym (h.first zero d (omega arith)))

-- a set at its place has one more
pub at_place : (who : ℕ) (rows : List (Object × ℕ)) (o : Object) (place : ℕ) (d : Object × ℕ) → position (λ e. is_same e.0 o) rows ≡ Some place → d ≡ get_or rows place d
    → set rows place (d.0, with_part d.1 who) ≡ with_one_among who o rows
at_place who rows o place d is row =
    ap (λ (e : Object × ℕ). set rows place (e.0, with_part e.1 who)) row
    ∙ with_at who rows o place d (record {
      below = (position-Some (λ e. is_same e.0 o) rows place d is).0;
      passes = λ e. (position-Some (λ e. is_same e.0 o) rows place e is).1;
      first = λ j e lt. (position-Some (λ e. is_same e.0 o) rows place e is).2 j lt;
    })

from_place : (rows : List (Object × ℕ)) (o : Object) → length rows ≤ position_or_len (λ e. is_same e.0 o) rows → lookup (λ k. is_same k o) rows ≡ None
from_place [] o h = refl
from_place (e ∷ rows) o h = grind (arith, nat_tests, from_place rows o)

after_all : (who : ℕ) (rows : List (Object × ℕ)) (o : Object) → lookup (λ k. is_same k o) rows ≡ None → rows ++ (o, with_part 0 who) ∷ [] ≡ with_one_among who o rows
after_all who [] o none = refl
after_all who (e ∷ rows) o none = by (is_same e.0 o) none (after_all who rows o)
  where
    by : (b : Bool) → cond b (Some e.1) (lookup (λ k. is_same k o) rows) ≡ None → (lookup (λ k. is_same k o) rows ≡ None → rows ++ (o, with_part 0 who) ∷ [] ≡ with_one_among who o rows)
        → e ∷ (rows ++ (o, with_part 0 who) ∷ []) ≡ (if b then (e.0, with_part e.1 who) ∷ rows else e ∷ with_one_among who o rows)
    by true there later = cc
    by false there later = ap (λ rs. e ∷ rs) (later there)

-- a new one stands after the others
pub added : (who : ℕ) (rows : List (Object × ℕ)) (o : Object) → position (λ e. is_same e.0 o) rows ≡ None → rows ++ (o, with_part 0 who) ∷ [] ≡ with_one_among who o rows
added who rows o is = after_all who rows o (from_place rows o (grind (arith, nat_tests)))
