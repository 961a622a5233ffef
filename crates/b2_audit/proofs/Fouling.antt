-- What is foul to a partition by the marks: what another one wrote.
use Rattle.std.specs.Prelude.{◌≡◌, ◌≢◌, ◌↔◌, ◌⊎◌, ℕ, Bool, true, false, List, [], ◌∷◌, length, refl, if◌then◌else◌}
use Rattle.std.proofs.Common.{sym, ap, subst, ◌∙◌, inl, inr}
use Rattle.std.proofs.lemmas.Bool.{cases_eq}
use Rattle.b2_access.specs.declared.objects.Object.{Object}
use Rattle.b2_access.specs.Objects.{same_object}
use Rattle.b2_access.specs.Store.{IsIn}
use Rattle.b2_audit.specs.PartSets.{with_part, without_part, has_other}
use Rattle.b2_audit.specs.Marks.{Marks, Writers, object_index, set_at, writers_of, touch, write, touch_all, write_all}
use Rattle.b2_audit.specs.Steps.{IsPartition, IsMarked, AreMarked}
use Rattle.b2_audit.proofs.PartBits.{other_with_same, other_with_other}
use Rattle.b2_audit.proofs.Places.{as_many, writes_here, writes_elsewhere}

abbrev pub is_foul : ℕ → Object → Marks → Bool
is_foul p o m = has_other (writers_of o m) p

-- touching an object leaves who wrote what
touch_keeps : (who : ℕ) (o : Object) (m : Marks) → (touch who o m).writers ≡ m.writers
touch_keeps who o m = by (is_foul who o m)
  where
    by : (b : Bool) → (if b then record m { clean = without_part m.clean who } else m).writers ≡ m.writers
    by true = refl
    by false = refl

pub touching_keeps : (who : ℕ) (os : List Object) (m : Marks) → (touch_all who os m).writers ≡ m.writers
touching_keeps who [] m = refl
touching_keeps who (o ∷ os) m = touching_keeps who os (touch who o m) ∙ touch_keeps who o m

pub foul_by_writers : (p : ℕ) (o : Object) (m n : Marks) → m.writers ≡ n.writers → is_foul p o m ≡ is_foul p o n
foul_by_writers p o m n same = ap (λ (w : Writers). has_other (set_at (object_index o) o w) p) same

pub touch_leaves_foul : (p who : ℕ) (o x : Object) (m : Marks) → is_foul p o (touch who x m) ≡ is_foul p o m
touch_leaves_foul p who o x m = foul_by_writers p o (touch who x m) m (touch_keeps who x m)

-- what is foul after an object was written
abbrev FoulOr : ℕ → Object → Marks → Type 0 → Type 0
FoulOr p o m P = (is_foul p o m ≡ true) ⊎ P

foul_here : (p who : ℕ) (w : Object) (m : Marks) → IsPartition p → IsPartition who → IsMarked w → length m.writers.indexed ≡ 60
    → (is_foul p w (write who w m) ≡ true) ↔ FoulOr p w m (who ≢ p)
foul_here p who w m is_p is_who is_w whole =
    let by = ap (λ (n : ℕ). has_other n p) (writes_here who w m is_w whole) in
    elim (cases_eq who p) [
      | inl e ↦
          let same = by ∙ subst (λ (q : ℕ). has_other (with_part (writers_of w m) q) p ≡ is_foul p w m) (sym e) (other_with_same (writers_of w m) p is_p) in
          (λ h. inl (sym same ∙ h), λ h. elim h [ inl f ↦ same ∙ f | inr other ↦ absurd (other e) ])
      | inr other ↦ (λ h. inr other, λ h. by ∙ other_with_other (writers_of w m) p who is_p is_who other)
    ]

foul_written : (p who : ℕ) (w o : Object) (m : Marks) → IsPartition p → IsPartition who → IsMarked w → IsMarked o → length m.writers.indexed ≡ 60
    → (is_foul p o (write who w m) ≡ true) ↔ FoulOr p o m ((o ≡ w) × (who ≢ p))
foul_written p who w o m is_p is_who is_w is_o whole = elim (same_object o w) [
  | inl e ↦
      let P : Object → Type 0 = λ x. (is_foul p x (write who w m) ≡ true) ↔ FoulOr p x m ((x ≡ w) × (who ≢ p)) in
      let here = foul_here p who w m is_p is_who is_w whole in
      let at_w : P w = (λ h. elim (here.0 h) [ inl f ↦ inl f | inr other ↦ inr (refl, other) ], λ h. here.1 (elim h [ inl f ↦ inl f | inr both ↦ inr both.1 ])) in
      subst P (sym e) at_w
  | inr apart ↦
      let same = ap (λ (n : ℕ). has_other n p) (writes_elsewhere who w o m is_w is_o apart) in
      (λ h. inl (sym same ∙ h), λ h. elim h [ inl f ↦ same ∙ f | inr both ↦ absurd (apart both.0) ])
]

pub still_whole : (who : ℕ) (ws : List Object) (m : Marks) → AreMarked ws → length (write_all who ws m).writers.indexed ≡ length m.writers.indexed
still_whole who [] m are = refl
still_whole who (w ∷ ws) m are = still_whole who ws (write who w m) (λ o i. are o (inr i)) ∙ as_many who w m (are w (inl refl))

-- what is foul after some objects were written
pub all_written : (p who : ℕ) (ws : List Object) (o : Object) (m : Marks) → IsPartition p → IsPartition who → AreMarked ws → IsMarked o → length m.writers.indexed ≡ 60
    → (is_foul p o (write_all who ws m) ≡ true) ↔ FoulOr p o m (IsIn o ws × (who ≢ p))
all_written p who [] o m is_p is_who are is_o whole = (λ h. inl h, λ h. elim h [ inl f ↦ f | inr both ↦ absurd both.0 ])
all_written p who (w ∷ ws) o m is_p is_who are is_o whole =
    let is_w = are w (inl refl) in
    let one = foul_written p who w o m is_p is_who is_w is_o whole in
    let rest = all_written p who ws o (write who w m) is_p is_who (λ x i. are x (inr i)) is_o (as_many who w m is_w ∙ whole) in (
      λ h. elim (rest.0 h) [
        | inl f ↦ elim (one.0 f) [ inl g ↦ inl g | inr both ↦ inr (inl both.0, both.1) ]
        | inr both ↦ inr (inr both.0, both.1)
      ],
      λ h. rest.1 (elim h [
        | inl f ↦ inl (one.1 (inl f))
        | inr both ↦ elim both.0 [ inl e ↦ inl (one.1 (inr (e, both.1))) | inr i ↦ inr (i, both.1) ]
      ]),
    )
