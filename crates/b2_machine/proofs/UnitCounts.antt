-- Lines have at most 255 units, so units are counted by bytes.
use Rattle.std.proofs.Common.{◌≡◌, ℕ, suc, ◌+◌, ◌<◌, ◌≤◌, ◌==◌, nat_lt, Bool, true, false, List, [], ◌∷◌, length, refl, sym, ap, arith, Option, Some, None, if◌then◌else◌}
use Rattle.std.specs.Prelude.{slice_get}
use Rattle.std.proofs.lemmas.Bool.Decides.{nat_tests}
use Rattle.b2_atom.specs.Words.{Text}
use Rattle.b2_atom.specs.Lines.{is_line, units_of}
use Rattle.b2_atom.specs.Units.{TreeUnit}
use Rattle.b2_atom.specs.declared.rows.TheConstants as row
use Rattle.b2_rows.specs.Following.{tree_units, taken_fault, error_goal, further_on}
use Rattle.b2_rows.specs.declared.following.Goal.{Goal}
use Rattle.b2_rows.specs.declared.following.Goal.TheVariants as goal
use Rattle.b2_rows.proofs.WhatFollows.{beyond_line}
use Rattle.b2_machine.specs.Moving.{goes_onward, onward_of}
use Rattle.b2_machine.specs.declared.moving.Onward.{Onward}
use Rattle.b2_machine.specs.declared.moving.Onward.TheVariants as onward

some_is : {A : Type 0} (x y : A) → Some x ≡ Some y → x ≡ y
some_is x y h = cc

-- an ERROR that takes a fault is one of the units
here : (us : List TreeUnit) (j : ℕ) (d : TreeUnit) → slice_get us j ≡ Some d → j < length us
here [] j d h = cc
here (u ∷ us) ℕ.zero d h = omega arith
here (u ∷ us) (suc j) d h = let below = here us j d h in omega arith

within : (us : List TreeUnit) (j k : ℕ) (o : Option TreeUnit) → slice_get us j ≡ o → error_goal j o ≡ Some k → k ≤ length us
within us j k None is h = cc
within us j k (Some u) is h =
    let by : (b : Bool) → (if b then Some (j + 1) else None) ≡ Some k → k ≤ length us = elim [
      | true ↦ λ e. let below = here us j u is in let same : j + 1 ≡ k = some_is _ _ e in omega arith
      | false ↦ λ e. cc
    ] in
    by (u.row == row.ERROR) h

few_units : (line : Text) → is_line line ≡ true → length (units_of line) ≤ 255 → length (tree_units line) ≤ 255
few_units line h few =
    let beyond = beyond_line line 255 h (grind (arith, nat_tests)) in
    let by : (b : Bool) → nat_lt 255 (length (tree_units line)) ≡ b → ◌≡◌ {A = Goal} (if b then goal.Unit 255 else goal.NextLine) goal.NextLine → length (tree_units line) ≤ 255 = elim [
      | true ↦ λ is e. cc
      | false ↦ λ is e. grind (arith, nat_tests)
    ] in
    by (nat_lt 255 (length (tree_units line))) refl beyond

pub few_taken : (line : Text) (n k : ℕ) → is_line line ≡ true → length (units_of line) ≤ 255 → Some k ≡ taken_fault n (tree_units line) → k ≤ 255
few_taken line n k h few is =
    let most = within (tree_units line) (further_on n 0 (tree_units line)) k (slice_get (tree_units line) (further_on n 0 (tree_units line))) refl (sym is) in
    let all = few_units line h few in
    omega arith

-- after the last unit that a byte counts there is none
pub last_onward : (line : Text) (unit : ℕ) → is_line line ≡ true → length (units_of line) ≤ 255 → unit ≡ 255 → ◌≡◌ {A = Onward} onward.NextLine (goes_onward unit (tree_units line))
last_onward line unit h few is = sym (ap onward_of (beyond_line line (unit + 1) h (grind (arith, nat_tests))))
