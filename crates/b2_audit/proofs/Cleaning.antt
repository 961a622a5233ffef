-- Which partitions stay clean when one touches objects.
use Rattle.std.specs.Prelude.{◌≡◌, ◌≢◌, ◌↔◌, ℕ, Bool, true, false, List, [], ◌∷◌, refl, if◌then◌else◌}
use Rattle.std.proofs.Common.{sym, ap, ◌∙◌, inl, inr}
use Rattle.std.proofs.lemmas.Bool.{true≢false, false≢true}
use Rattle.b2_access.specs.declared.objects.Object.{Object}
use Rattle.b2_access.specs.Store.{IsIn}
use Rattle.b2_audit.specs.PartSets.{without_part}
use Rattle.b2_audit.specs.Marks.{Marks, is_clean, touch, write, touch_all, write_all}
use Rattle.b2_audit.specs.Steps.{IsPartition}
use Rattle.b2_audit.proofs.PartBits.{without_same, without_other}
use Rattle.b2_audit.proofs.Fouling.{is_foul, touch_leaves_foul}

-- writing changes nobody
pub writing_leaves : (p who : ℕ) (ws : List Object) (m : Marks) → is_clean p (write_all who ws m) ≡ is_clean p m
writing_leaves p who [] m = refl
writing_leaves p who (w ∷ ws) m = writing_leaves p who ws (write who w m)

-- touching changes the one who touches alone
touch_of_other : (p who : ℕ) (o : Object) (m : Marks) → IsPartition p → IsPartition who → p ≢ who → is_clean p (touch who o m) ≡ is_clean p m
touch_of_other p who o m is_p is_who other = by (is_foul who o m)
  where
    by : (b : Bool) → is_clean p (if b then record m { clean = without_part m.clean who } else m) ≡ is_clean p m
    by true = without_other m.clean who p is_who is_p other
    by false = refl

pub touches_of_other : (p who : ℕ) (os : List Object) (m : Marks) → IsPartition p → IsPartition who → p ≢ who → is_clean p (touch_all who os m) ≡ is_clean p m
touches_of_other p who [] m is_p is_who other = refl
touches_of_other p who (o ∷ os) m is_p is_who other = touches_of_other p who os (touch who o m) is_p is_who other ∙ touch_of_other p who o m is_p is_who other

-- it stays clean where the object isn't foul
own_touch : (p : ℕ) (o : Object) (m : Marks) → IsPartition p → (is_clean p (touch p o m) ≡ true) ↔ ((is_clean p m ≡ true) × (is_foul p o m ≡ false))
own_touch p o m is = by (is_foul p o m)
  where
    by : (b : Bool) → (is_clean p (if b then record m { clean = without_part m.clean p } else m) ≡ true) ↔ ((is_clean p m ≡ true) × (b ≡ false))
    by true = (λ h. absurd (false≢true (sym (without_same m.clean p is) ∙ h)), λ h. absurd (true≢false h.1))
    by false = (λ h. (h, refl), λ h. h.0)

pub own_touches : (p : ℕ) (os : List Object) (m : Marks) → IsPartition p → (is_clean p (touch_all p os m) ≡ true) ↔ ((is_clean p m ≡ true) × ((o : Object) → IsIn o os → is_foul p o m ≡ false))
own_touches p [] m is = (λ h. (h, λ o i. absurd i), λ h. h.0)
own_touches p (x ∷ xs) m is =
    let one = own_touch p x m is in
    let rest = own_touches p xs (touch p x m) is in (
      λ h.
          let all = rest.0 h in
          let here = one.0 all.0 in
          (here.0, λ o i. elim i [ inl e ↦ ap (λ (y : Object). is_foul p y m) e ∙ here.1 | inr i ↦ sym (touch_leaves_foul p p o x m) ∙ all.1 o i ]),
      λ h. rest.1 (one.1 (h.0, h.1 x (inl refl)), λ o i. touch_leaves_foul p p o x m ∙ h.1 o (inr i)),
    )
