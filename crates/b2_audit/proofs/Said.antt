-- The marks of a list of steps say which partitions are clean.
use Rattle.std.specs.Prelude.{◌≡◌, ◌≢◌, ◌↔◌, ◌==◌, ℕ, Bool, true, false, List, [], ◌∷◌, ◌++◌, length, refl, if◌then◌else◌}
use Rattle.std.specs.Cmp.{unsigned_Decides}
use Rattle.std.proofs.Common.{sym, ap, subst, ◌∙◌, inl, inr}
use Rattle.std.proofs.lemmas.Bool.{false≢true, false_from_ne_true}
use Rattle.std.proofs.lemmas.List.{get_or-replicate, length-replicate}
use Rattle.b2_access.specs.declared.objects.Object.{Object}
use Rattle.b2_access.specs.Store.{IsIn}
use Rattle.b2_audit.specs.PartSets.{has_other}
use Rattle.b2_audit.specs.Marks.{Marks, Writers, is_clean, marked, touch_all, unmarked}
use Rattle.b2_audit.specs.Steps.{Step, marks_after, just, by_other, IsPartition, IsMarked, AreMarked, AreSteps, MarksSayClean}
use Rattle.b2_audit.proofs.PartBits.{none_other, all_have}
use Rattle.b2_audit.proofs.Places.{nobody_at}
use Rattle.b2_audit.proofs.Fouling.{is_foul, touching_keeps, foul_by_writers, still_whole, all_written}
use Rattle.b2_audit.proofs.Cleaning.{writing_leaves, touches_of_other, own_touches}
use Rattle.b2_audit.proofs.CleanSteps.{AreApart, CleanFrom, in_both, clean_steps}

-- the marks have these objects as foul to a partition
pub record Stands (p : ℕ) (m : Marks) (os : List Object) : Type 0 where
  pub whole : length m.writers.indexed ≡ 60
  pub dirty : (o : Object) → IsMarked o → (is_foul p o m ≡ true) ↔ IsIn o os

-- at the start there are none
pub from_start : (p : ℕ) → Stands p unmarked []
from_start p = record {
  whole = length-replicate {A = ℕ} 60 0;
  dirty = λ o is.
      let none = ap (λ (n : ℕ). has_other n p) (nobody_at o unmarked.writers is (λ i below. get_or-replicate {A = ℕ} 60 i 0 0 below) refl) ∙ none_other p in
      (λ h. absurd (false≢true (sym none ∙ h)), λ i. absurd i);
}

same_one : (p who : ℕ) → (who == p) ≡ true → who ≡ p
same_one p who is = (unsigned_Decides who p).0 is

not_one : (p who : ℕ) → (who == p) ≡ false → who ≢ p
not_one p who isnt e = false≢true (sym isnt ∙ (unsigned_Decides who p).1 e)

-- what a step of another wrote
pub of_other : (p : ℕ) (x : Step) (o : Object) → IsIn o (by_other (just p) x) ↔ (IsIn o x.written × (x.who ≢ p))
of_other p x o = by (x.who == p) refl
  where
    by : (b : Bool) → (x.who == p) ≡ b → IsIn o (if b then [] else x.written) ↔ (IsIn o x.written × (x.who ≢ p))
    by true e = (λ i. absurd i, λ h. absurd (h.1 (same_one p x.who e)))
    by false e = (λ i. (i, not_one p x.who e), λ h. h.0)

abbrev pub after_step : Step → Marks → Marks
after_step x m = marked x.who x.touched x.written m

-- a step adds what it wrote
pub step_stands : (p : ℕ) (x : Step) (m : Marks) (os : List Object) → IsPartition p → IsPartition x.who → AreMarked x.written → Stands p m os → Stands p (after_step x m) (by_other (just p) x ++ os)
step_stands p x m os is_p is_who are h =
    let keeps = touching_keeps x.who x.touched m in
    let touched = touch_all x.who x.touched m in
    let whole = ap (λ (w : Writers). length w.indexed) keeps ∙ h.whole in
    record {
      whole = still_whole x.who x.written touched are ∙ whole;
      dirty = λ o is.
          let wrote = all_written p x.who x.written o touched is_p is_who are is whole in
          let same = foul_by_writers p o touched m keeps in
          let other = of_other p x o in
          let both = in_both o (by_other (just p) x) os in (
            λ f. both.1 (elim (wrote.0 f) [ inl f ↦ inr ((h.dirty o is).0 (sym same ∙ f)) | inr w ↦ inl (other.1 w) ]),
            λ i. wrote.1 (elim (both.0 i) [ inl w ↦ inr (other.0 w) | inr i ↦ inl (same ∙ (h.dirty o is).1 i) ]),
          );
    }

-- a partition stays clean over a step that touches nothing foul, or is another's
step_clean : (p : ℕ) (x : Step) (m : Marks) (os : List Object) → IsPartition p → IsPartition x.who → AreMarked x.touched → Stands p m os
    → (is_clean p (after_step x m) ≡ true) ↔ ((is_clean p m ≡ true) × (just p x.who ≡ true → AreApart x.touched os))
step_clean p x m os is_p is_who are h = by (x.who == p) refl
  where
    wrote : is_clean p (after_step x m) ≡ is_clean p (touch_all x.who x.touched m)
    wrote = writing_leaves p x.who x.written (touch_all x.who x.touched m)

    apart_if : ((o : Object) → IsIn o x.touched → is_foul p o m ≡ false) → AreApart x.touched os
    apart_if clear o i dirty = false≢true (sym (clear o i) ∙ (h.dirty o (are o i)).1 dirty)

    clear_if : AreApart x.touched os → (o : Object) → IsIn o x.touched → is_foul p o m ≡ false
    clear_if apart o i = false_from_ne_true (is_foul p o m) (λ f. apart o i ((h.dirty o (are o i)).0 f))

    own : (who : ℕ) → who ≡ p → (is_clean p (touch_all who x.touched m) ≡ true) ↔ ((is_clean p m ≡ true) × AreApart x.touched os)
    own who e =
        let all = own_touches p x.touched m is_p in
        subst (λ (q : ℕ). (is_clean p (touch_all q x.touched m) ≡ true) ↔ ((is_clean p m ≡ true) × AreApart x.touched os)) (sym e)
        (λ c. ((all.0 c).0, apart_if (all.0 c).1), λ c. all.1 (c.0, clear_if c.1))

    by : (b : Bool) → (x.who == p) ≡ b → (is_clean p (after_step x m) ≡ true) ↔ ((is_clean p m ≡ true) × ((x.who == p) ≡ true → AreApart x.touched os))
    by true e =
        let mine = own x.who (same_one p x.who e) in
        (λ c. let all = mine.0 (sym wrote ∙ c) in (all.0, λ member. all.1), λ c. wrote ∙ mine.1 (c.0, c.1 e))
    by false e =
        let same = wrote ∙ touches_of_other p x.who x.touched m is_p is_who (λ s. not_one p x.who e (sym s)) in
        (λ c. (sym same ∙ c, λ member. absurd (false≢true (sym e ∙ member))), λ c. same ∙ c.0)

steps_clean : (p : ℕ) (xs : List Step) (m : Marks) (os : List Object) → IsPartition p → AreSteps xs → Stands p m os
    → (is_clean p (marks_after xs m) ≡ true) ↔ ((is_clean p m ≡ true) × CleanFrom (just p) os xs)
steps_clean p [] m os is_p are h = (λ c. (c, tt), λ c. c.0)
steps_clean p (x ∷ xs) m os is_p are h =
    let one = step_clean p x m os is_p are.0 are.1 h in
    let rest = steps_clean p xs (after_step x m) (by_other (just p) x ++ os) is_p are.3 (step_stands p x m os is_p are.0 are.2 h) in
    (λ c. let all = rest.0 c in let here = one.0 all.0 in (here.0, (here.1, all.1)), λ c. rest.1 (one.1 (c.0, c.1.0), c.1.1))

pub marks_say_clean : MarksSayClean
marks_say_clean steps p are is_p =
    let all = steps_clean p steps unmarked [] is_p are (from_start p) in
    let forms = clean_steps (just p) steps in
    (λ c. forms.0 (all.0 c).1, λ c. all.1 (all_have p is_p, forms.1 c))
