-- Where no step writes the text of another, a text isn't foul to its own partition.
use Rattle.std.specs.Prelude.{◌≡◌, ◌⊎◌, ℕ, Bool, true, false, List, [], ◌∷◌, ◌++◌, if◌then◌else◌}
use Rattle.std.proofs.Common.{sym, ap, inl, inr}
use Rattle.std.proofs.lemmas.Bool.{false_from_ne_true}
use Rattle.b2_access.specs.declared.objects.Object.{Object}
use Rattle.b2_access.specs.declared.objects.Object.TheVariants as object
use Rattle.b2_access.specs.Store.{IsIn}
use Rattle.b2_audit.specs.PartSets.{without_part}
use Rattle.b2_audit.specs.Marks.{Marks, unmarked}
use Rattle.b2_audit.specs.Steps.{Step, marks_after, just, by_other, foul, IsPartition, IsMarked, AreSteps, WriteOwnTexts, OwnTextsAreIdle}
use Rattle.b2_audit.proofs.Fouling.{is_foul}
use Rattle.b2_audit.proofs.CleanSteps.{in_both}
use Rattle.b2_audit.proofs.Said.{Stands, from_start, of_other, after_step, step_stands}

not_foul : (p : ℕ) (xs : List Step) → WriteOwnTexts xs → IsIn (object.Text p) (foul (just p) xs) → ⊥
not_foul p [] own i = i
not_foul p (x ∷ xs) own i = elim ((in_both (object.Text p) (by_other (just p) x) (foul (just p) xs)).0 i) [
  | inl wrote ↦ let other = (of_other p x (object.Text p)).0 wrote in other.1 (sym (own.0 p other.0))
  | inr rest ↦ not_foul p xs own.1 rest
]

-- what is foul after some steps was so before, or a step of another wrote it
foul_after_steps : (p : ℕ) (xs : List Step) (m : Marks) (os : List Object) → IsPartition p → AreSteps xs → Stands p m os
    → (o : Object) → IsMarked o → is_foul p o (marks_after xs m) ≡ true → IsIn o (foul (just p) xs) ⊎ IsIn o os
foul_after_steps p [] m os is_p are h o is f = inr ((h.dirty o is).0 f)
foul_after_steps p (x ∷ xs) m os is_p are h o is f =
    let more = in_both o (by_other (just p) x) (foul (just p) xs) in
    elim (foul_after_steps p xs (after_step x m) (by_other (just p) x ++ os) is_p are.3 (step_stands p x m os is_p are.0 are.2 h) o is f) [
      | inl i ↦ inl (more.1 (inr i))
      | inr i ↦ elim ((in_both o (by_other (just p) x) os).0 i) [ inl j ↦ inl (more.1 (inl j)) | inr j ↦ inr j ]
    ]

pub own_texts_are_idle : OwnTextsAreIdle
own_texts_are_idle steps p are own is =
    let after = marks_after steps unmarked in
    let clear : is_foul p (object.Text p) after ≡ false =
    false_from_ne_true (is_foul p (object.Text p) after)
    (λ f. elim (foul_after_steps p steps unmarked [] is are (from_start p) (object.Text p) is f) [ inl i ↦ not_foul p steps own i | inr none ↦ none ]) in
    ap (λ (b : Bool). if b then record after { clean = without_part after.clean p } else after) clear
