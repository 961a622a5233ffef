-- Texts that are lent twice leave the marks that they leave when they are lent once.
use Rattle.std.specs.Prelude.{◌≡◌, ℕ, Bool, true, false, None, bit_and, min, refl, if◌then◌else◌}
use Rattle.std.specs.Int.{w16, bit_at, bit_not}
use Rattle.std.proofs.Common.{sym, ap, ◌∙◌, arith}
use Rattle.std.proofs.lemmas.Nat.Bits.{bit_at_and, same_from_bits}
use Rattle.b2_base.specs.Places.{bit_of}
use Rattle.b2_vars.specs.Globals.{unreached}
use Rattle.b2_access.specs.Loans.{LendsTextsAgain, Loan}
use Rattle.b2_access.specs.Store.{StoreState}
use Rattle.b2_access.specs.declared.lending.At.TheVariants as at
use Rattle.b2_access.specs.declared.objects.Object.{Object}
use Rattle.b2_access.specs.declared.objects.Object.TheVariants as object
use Rattle.b2_audit.specs.Marks.{Marks, Writers, object_index, set_at, touch}
use Rattle.b2_audit.specs.PartSets.{has_other, without_part}
use Rattle.b2_audit.specs.Watching.{watched_loan}

-- a set without a partition is without it already
without_twice : (set p : ℕ) → without_part (without_part set p) p ≡ without_part set p
without_twice set p = same_from_bits _ _ each
  where
    mask : ℕ
    mask = bit_not w16 (bit_of p)

    each : (i : ℕ) → bit_at (bit_and (bit_and set mask) mask) i ≡ bit_at (bit_and set mask) i
    each i =
        bit_at_and (bit_and set mask) mask i
        ∙ ap (λ (b : ℕ). min b (bit_at mask i)) (bit_at_and set mask i)
        ∙ once (bit_at set i) (bit_at mask i)
        ∙ sym (bit_at_and set mask i)
      where
        once : (a b : ℕ) → min (min a b) b ≡ min a b
        once a b = omega arith

-- a partition that isn't clean any more, or stays what it is
abbrev without_if : Bool → ℕ → Marks → Marks
without_if b who m = if b then record m { clean = without_part m.clean who } else m

same_writers : (b : Bool) (who : ℕ) (m : Marks) → (without_if b who m).writers ≡ m.writers
same_writers true who m = refl
same_writers false who m = refl

-- whether another wrote an object
abbrev foreign : ℕ → Object → Writers → Bool
foreign who o w = has_other (set_at (object_index o) o w) who

marked_twice : (a b : Bool) (who : ℕ) (m : Marks) → without_if b who (without_if a who (without_if b who (without_if a who m))) ≡ without_if b who (without_if a who m)
marked_twice false false who m = refl
marked_twice true false who m = ap (λ (c : ℕ). record m { clean = c }) (without_twice m.clean who)
marked_twice false true who m = ap (λ (c : ℕ). record m { clean = c }) (without_twice m.clean who)
marked_twice true true who m =
    ap (λ (c : ℕ). record m { clean = c }) (without_twice (without_part (without_part m.clean who) who) who ∙ without_twice (without_part m.clean who) who)

-- two objects that are touched, one after the other, by who wrote them before
touched_by : (who : ℕ) (x y : Object) (m : Marks) → touch who y (touch who x m) ≡ without_if (foreign who y m.writers) who (without_if (foreign who x m.writers) who m)
touched_by who x y m =
    ap (λ (w : Writers). without_if (foreign who y w) who (without_if (foreign who x m.writers) who m)) (same_writers (foreign who x m.writers) who m)

touched_twice : (who : ℕ) (x y : Object) (m : Marks) → touch who y (touch who x (touch who y (touch who x m))) ≡ touch who y (touch who x m)
touched_twice who x y m =
    let a = foreign who x m.writers in
    let b = foreign who y m.writers in
    let once = without_if b who (without_if a who m) in
    let same : once.writers ≡ m.writers = same_writers b who (without_if a who m) ∙ same_writers a who m in
    ap (λ (n : Marks). touch who y (touch who x n)) (touched_by who x y m)
    ∙ touched_by who x y once
    ∙ ap (λ (w : Writers). without_if (foreign who y w) who (without_if (foreign who x w) who once)) same
    ∙ marked_twice a b who m
    ∙ sym (touched_by who x y m)

pub watched_lends_again : {M : Type 0} (store : M → StoreState) (lending : Loan M) → LendsTextsAgain lending → LendsTextsAgain (watched_loan store lending)
watched_lends_again {M} store lending again who home m =
    ap (λ (n : M). (n, touch who (object.Text home) (touch who (object.Text who) (touch who (object.Text home) (touch who (object.Text who) m.1))))) (again who home m.0)
    ∙ ap (λ (k : Marks). (lending who home at.None m.0 (unreached None), k)) (touched_twice who (object.Text who) (object.Text home) m.1)
