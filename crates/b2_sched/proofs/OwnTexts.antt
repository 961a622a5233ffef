-- The text of a partition that nobody else writes, and the places of marks, over steps.
use Rattle.std.specs.Prelude.{◌≡◌, ◌≢◌, ℕ, Bool, true, false, List, [], ◌∷◌, length, refl}
use Rattle.std.proofs.Common.{sym, ap, ◌∙◌, inl, inr}
use Rattle.std.proofs.lemmas.Bool.{true≢false, false_from_ne_true}
use Rattle.b2_access.specs.Store.{IsIn}
use Rattle.b2_access.specs.declared.objects.Object.{Object}
use Rattle.b2_access.specs.declared.objects.Object.TheVariants as object
use Rattle.b2_audit.proofs.Fouling.{all_written, foul_by_writers, is_foul, still_whole, touching_keeps}
use Rattle.b2_audit.proofs.Said.{from_start}
use Rattle.b2_audit.specs.Marks.{Marks, Writers, marked, touch_all, unmarked}
use Rattle.b2_audit.specs.Steps.{AreMarked, AreSteps, IsPartition, Step, WriteOwnTexts, marks_after}
use Rattle.b2_sched.specs.Marking.{AreWhole, IsOwnText}

-- at the start
pub starts_own : (p : ℕ) → IsPartition p → IsOwnText p unmarked
starts_own p is = false_from_ne_true (is_foul p (object.Text p) unmarked) (λ f. ((from_start p).dirty (object.Text p) is).0 f)

pub starts_whole : AreWhole unmarked
starts_whole = (from_start 1).whole

-- after a step, where others than its partition don't write it
pub still_own : (p who : ℕ) (ts ws : List Object) (m : Marks) → IsPartition p → IsPartition who → AreMarked ws → AreWhole m
    → (IsIn (object.Text p) ws → who ≢ p → ⊥) → IsOwnText p m → IsOwnText p (marked who ts ws m)
still_own p who ts ws m is_p is_who are whole never own = by (is_foul p (object.Text p) (marked who ts ws m)) refl
  where
    keeps : (touch_all who ts m).writers ≡ m.writers
    keeps = touching_keeps who ts m

    by : (b : Bool) → is_foul p (object.Text p) (marked who ts ws m) ≡ b → b ≡ false
    by false e = refl
    by true e = elim ((all_written p who ws (object.Text p) (touch_all who ts m) is_p is_who are is_p (ap (λ (w : Writers). length w.indexed) keeps ∙ whole)).0 e) [
      | inl f ↦ absurd (true≢false (sym f ∙ foul_by_writers p (object.Text p) (touch_all who ts m) m keeps ∙ own))
      | inr h ↦ absurd (never h.0 h.1)
    ]

pub whole_on : (who : ℕ) (ts ws : List Object) (m : Marks) → AreMarked ws → AreWhole m → AreWhole (marked who ts ws m)
whole_on who ts ws m are whole = still_whole who ws (touch_all who ts m) are ∙ ap (λ (w : Writers). length w.indexed) (touching_keeps who ts m) ∙ whole

-- after steps that write no text of another
pub after_steps : (p : ℕ) (xs : List Step) (m : Marks) → IsPartition p → AreSteps xs → WriteOwnTexts xs → AreWhole m → IsOwnText p m → AreWhole (marks_after xs m) × IsOwnText p (marks_after xs m)
after_steps p [] m is are writes whole own = (whole, own)
after_steps p (x ∷ xs) m is are writes whole own =
    after_steps p xs (marked x.who x.touched x.written m) is are.3 writes.1 (whole_on x.who x.touched x.written m are.2 whole)
    (still_own p x.who x.touched x.written m is are.0 are.2 whole (λ i apart. apart (sym (writes.0 p i))) own)
