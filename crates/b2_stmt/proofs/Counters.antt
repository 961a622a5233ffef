-- The variable of a loop, by its letter and its digit counted from 1.
use Rattle.std.proofs.Common.{◌≡◌, ◌∙◌, ℕ, ◌+◌, ◌-◌, ◌≤◌, ◌==◌, ◌&&◌, not, is_some, Bool, true, false, if◌then◌else◌, Option, Some, None, refl, sym, ap, arith}
use Rattle.std.proofs.lemmas.Bool.Decides.{nat_tests}
use Rattle.std.specs.FinMap as map
use Rattle.std.specs.Option.{option_map_or}
use Rattle.b2_base.specs.Lexical.{is_digit, is_letter}
use Rattle.b2_dec.specs.Arithmetic.{sum_of}
use Rattle.b2_dec.specs.Number.{Number}
use Rattle.b2_dec.specs.declared.number.Mode.{Mode}
use Rattle.b2_flow.specs.declared.frame.Var2.{Var2}
use Rattle.b2_vars.specs.Assigned.{Assigned}
use Rattle.b2_vars.specs.Calls.{get_code, set_code, with_change, with_scalar}
use Rattle.b2_vars.specs.Names.{is_legal_name, scalar_named}
use Rattle.b2_vars.specs.Shapes.{cell_at}
use Rattle.b2_vars.specs.Tables.{VarsState, shape_at}
use Rattle.b2_vars.specs.Variables.{number_at, with_number}
use Rattle.b2_vars.specs.declared.name.Var.{Var}
use Rattle.b2_expr.specs.Answers.{Answer, ◌>>=◌, unless}
use Rattle.b2_expr.specs.Named.{number_there}
use Rattle.b2_stmt.specs.Loops.{loop_element, next_value, scalar_of}
use Rattle.b2_receiver.specs.Assigning.{assigned_number, unless_refused}
use Rattle.b2_stmt.specs.Fast.{MadeOrNot, digit_counted}

both : (a b : Bool) → (a && b) ≡ true → (a ≡ true) × (b ≡ true)
both true b h = (refl, h)
both false b h = cc

pub lettered : (v : Var2) → is_legal_name (scalar_of v) ≡ true → is_letter v.letter ≡ true
lettered v h = (both (is_letter v.letter) (option_map_or is_digit v.digit true) h).0

digits : (v : Var2) → is_legal_name (scalar_of v) ≡ true → option_map_or is_digit v.digit true ≡ true
digits v h = (both (is_letter v.letter) (option_map_or is_digit v.digit true) h).1

low : (d : ℕ) → is_digit d ≡ true → 47 ≤ d
low d h = grind (arith, nat_tests)

low_by : (o : Option ℕ) (d : ℕ) → o ≡ Some d → option_map_or is_digit o true ≡ true → 47 ≤ d
low_by None d is h = cc
low_by (Some e) d is h = low d (sym (ap (λ (o : Option ℕ). option_map_or is_digit o true) is) ∙ h)

pub digit_low : (v : Var2) (d : ℕ) → v.digit ≡ Some d → is_legal_name (scalar_of v) ≡ true → 47 ≤ d
digit_low v d is h = low_by v.digit d is (digits v h)

few_by : (o : Option ℕ) → option_map_or is_digit o true ≡ true → digit_counted o ≤ 10
few_by None h = omega arith
few_by (Some d) h = few d h
  where
    few : (d : ℕ) → is_digit d ≡ true → d - 47 ≤ 10
    few d h = grind (arith, nat_tests)

pub few_digits : (v : Var2) → is_legal_name (scalar_of v) ≡ true → digit_counted v.digit ≤ 10
few_digits v h = few_by v.digit (digits v h)

-- its name
digit_back : (o : Option ℕ) → option_map_or is_digit o true ≡ true → (if digit_counted o == 0 then None else Some (digit_counted o + 47)) ≡ o
digit_back None h = refl
digit_back (Some d) h =
    ap (λ (b : Bool). if b then None else Some (d - 47 + 47)) (some_digit d h) ∙ ap Some (back d h)
  where
    some_digit : (d : ℕ) → is_digit d ≡ true → (d - 47 == 0) ≡ false
    some_digit d h = grind (arith, nat_tests)

    back : (d : ℕ) → is_digit d ≡ true → d - 47 + 47 ≡ d
    back d h = grind (arith, nat_tests)

pub counter_named : (v : Var2) → is_legal_name (scalar_of v) ≡ true → scalar_named v.letter (digit_counted v.digit) ≡ scalar_of v
counter_named v h = ap (λ (o : Option ℕ). record { letter = v.letter; digit = o; alpha = false; array = false }) (digit_back v.digit (digits v h))

-- its value
abbrev summed : Mode → VarsState → Number → Var → Option ℕ → Answer
summed mode vars step w code = unless code (number_at (cell_at (shape_at w vars.table) 0 0) (map.get vars.table w)) >>= (λ n. sum_of mode n step)

pub counted_is : (mode : Mode) (vars : VarsState) (v : Var2) (step x : Number) (d : ℕ) → is_legal_name (scalar_of v) ≡ true → d ≡ digit_counted v.digit
    → x ≡ number_at (cell_at (shape_at (scalar_named v.letter d) vars.table) 0 0) (map.get vars.table (scalar_named v.letter d)) → get_code (scalar_named v.letter d) 0 0 vars.table ≡ None
    → sum_of mode x step ≡ next_value mode (number_there (record { vars = vars; element = loop_element v })) step
counted_is mode vars v step x d h digit is none =
    let w = scalar_named v.letter d in
    let name : w ≡ scalar_of v = ap (scalar_named v.letter) digit ∙ counter_named v h in
    ap (λ (y : Number). sum_of mode y step) is
    ∙ sym (ap (summed mode vars step w) none)
    ∙ ap (λ (u : Var). summed mode vars step u (get_code u 0 0 vars.table)) name

-- a value that it is given
abbrev set_to : VarsState → Number → Var → Assigned
set_to vars x w = record { vars = with_change w (with_number (cell_at (shape_at w vars.table) 0 0) x) (with_scalar w vars); code = None }

none_of : (o : Option ℕ) → true ≡ not (is_some o) → o ≡ None
none_of None h = refl
none_of (Some c) h = cc

pub counter_set : (vars after : VarsState) (v : Var2) (x : Number) (d : ℕ) (b : Bool) → is_legal_name (scalar_of v) ≡ true → d ≡ digit_counted v.digit
    → (b ≡ true → after ≡ with_change (scalar_named v.letter d) (with_number (cell_at (shape_at (scalar_named v.letter d) vars.table) 0 0) x) (with_scalar (scalar_named v.letter d) vars))
    → b ≡ not (is_some (set_code (scalar_named v.letter d) 0 0 vars)) → (b ≡ false → after ≡ vars) → MadeOrNot (assigned_number (loop_element v) x vars) vars after b
counter_set vars after v x d false h digit set room unchanged = unchanged refl
counter_set vars after v x d true h digit set room unchanged =
    let w = scalar_named v.letter d in
    let name : w ≡ scalar_of v = ap (scalar_named v.letter) digit ∙ counter_named v h in
    let made : assigned_number (loop_element v) x vars ≡ set_to vars x w =
    ap (λ (u : Var). unless_refused (set_code u 0 0 vars) vars (set_to vars x u)) (sym name)
    ∙ ap (λ (c : Option ℕ). unless_refused c vars (set_to vars x w)) (none_of (set_code w 0 0 vars) room) in
    (ap (λ (a : Assigned). a.code) made, set refl ∙ sym (ap (λ (a : Assigned). a.vars) made))
