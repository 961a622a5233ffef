-- The names of variables, and their order.
use Rattle.std.specs.Prelude.{ℕ, ◌+◌, ◌==◌, Bool, true, false, ◌&&◌, Option, None, Some, if◌then◌else◌, refl}
use Rattle.std.specs.Coded.{Coded, code_by, coded×, coded_ℕ, coded_bool, coded_option}
use Rattle.std.specs.Option.{option_cmp, option_map_or}
use Rattle.std.specs.Ordering.{nat_cmp, bool_cmp, ordering_then}
use Rattle.std.specs.declared.cmp.Ordering.{Ordering}
use Rattle.b2_base.specs.Lexical.{is_digit, is_letter}
use Rattle.b2_vars.specs.declared.name.Var.{Var}

-- a letter, and a digit where there is one
abbrev pub is_legal_name : Var → Bool
is_legal_name v = is_letter v.letter && option_map_or is_digit v.digit true

-- the numeric scalar of a letter and of a digit counted from 1, 0 where there is none
abbrev pub scalar_named : ℕ → ℕ → Var
scalar_named letter digit = record { letter = letter; digit = if digit == 0 then None else Some (digit + 47); alpha = false; array = false }

-- by letter, then by digit with none first, then numbers before alpha, then scalars before arrays
abbrev pub var_cmp : Var → Var → Ordering
var_cmp a b = ordering_then (nat_cmp a.letter b.letter) (ordering_then (option_cmp nat_cmp a.digit b.digit) (ordering_then (bool_cmp a.alpha b.alpha) (bool_cmp a.array b.array)))

-- as nested pairs
abbrev pub coded_var : Coded Var
coded_var = code_by (ℕ × (Option ℕ × (Bool × Bool))) (coded× coded_ℕ (coded× (coded_option coded_ℕ) (coded× coded_bool coded_bool)))
    (λ v. (v.letter, (v.digit, (v.alpha, v.array)))) (λ p. record { letter = p.0; digit = p.1.0; alpha = p.1.1.0; array = p.1.1.1 }) (λ _. refl)
