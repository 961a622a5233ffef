-- The rule that is due: what it goes by is there, and its step is the partition's.
use Rattle.std.proofs.Common.{◌≡◌, ap, refl, ℕ, ◌&&◌, not, Bool, true, false, if◌then◌else◌, List, Option, Some, None, is_some}
use Rattle.b2_flow.specs.declared.frame.Place.{Place}
use Rattle.b2_access.specs.Loans.{Loan}
use Rattle.b2_access.specs.Sharing.{ServingOf}
use Rattle.b2_access.specs.Store.{StoreState}
use Rattle.b2_access.specs.declared.private.Private.{Private}
use Rattle.b2_language.specs.Languages.{Ways}
use Rattle.b2_machine.specs.Due.{HasDue, due, due_at}
use Rattle.b2_machine.specs.Readiness.{without_halt}
use Rattle.b2_machine.specs.Step.{step, steps_by}
use Rattle.b2_machine.specs.declared.rules.Rule.{Rule}
use Rattle.b2_machine.specs.declared.rules.Rule.TheVariants as rule

pub has_due : (me : Private) → HasDue (due me) (without_halt me)
has_due me = by me.reset (me.halt && not (not (is_some me.place))) me.pending me.literal me.numbered me.place
  where
    by : (a b : Bool) (c : Option (List ℕ × List ℕ)) (d : Option (List ℕ)) (e : Option (ℕ × Option (List ℕ))) (o : Option Place)
        → HasDue (if a then rule.Reset else (if b then rule.Halt else (if is_some c then rule.Show else (if is_some d then rule.Insert else (if is_some e then rule.Put else due_at o)))))
        (record me { halt = false; pending = c; literal = d; numbered = e; place = o })
    by true b c d e o = tt
    by false true c d e o = tt
    by false false (Some x) d e o = refl
    by false false None (Some x) e o = refl
    by false false None None (Some x) o = refl
    by false false None None None (Some p) = refl
    by false false None None None None = tt

-- a line is read, and a statement executed, only where no line waits to be put into the text
abbrev pub PutsFirst : Rule → Private → Type 0
PutsFirst rule.Read me = (me.numbered ≡ None) × (me.place ≡ None)
PutsFirst (rule.Execute p) me = me.numbered ≡ None
PutsFirst r me = Unit {0}

pub puts_first : (me : Private) → PutsFirst (due me) (without_halt me)
puts_first me = by me.reset (me.halt && not (not (is_some me.place))) (is_some me.pending) (is_some me.literal) me.numbered me.place
  where
    by : (a b c d : Bool) (e : Option (ℕ × Option (List ℕ))) (o : Option Place)
        → PutsFirst (if a then rule.Reset else (if b then rule.Halt else (if c then rule.Show else (if d then rule.Insert else (if is_some e then rule.Put else due_at o)))))
        (record me { halt = false; numbered = e; place = o })
    by true b c d e o = tt
    by false true c d e o = tt
    by false false true d e o = tt
    by false false false true e o = tt
    by false false false false (Some x) o = tt
    by false false false false None None = (refl, refl)
    by false false false false None (Some p) = refl

-- for the code: a step by a rule that is the one that is due
module _ (ways : Ways) {M : Type 0} (store : M → StoreState) (serving : ServingOf M) (lending : Loan M) where
  pub stepped_by : (r : Rule) (me : Private) (m : M) → r ≡ due me → steps_by ways store serving lending r (without_halt me) m ≡ step ways store serving lending me m
  stepped_by r me m is = ap (λ (x : Rule). steps_by ways store serving lending x (without_halt me) m) is
