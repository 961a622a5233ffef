-- The rows of `@` variables after a loan.
use Rattle.std.specs.Prelude.{◌≡◌, ℕ, ◌==◌, Bool, true, false, Option, Some, None, option_map, is_some, IsSome, if◌then◌else◌, refl}
use Rattle.std.proofs.Common.{sym}
use Rattle.b2_vars.specs.Tables.{VarsState}
use Rattle.b2_access.specs.Loans.{globals_of, with_globals_of}
use Rattle.b2_access.specs.Rows.{row_of}
use Rattle.b2_access.specs.Store.{StoreState}
use Rattle.b2_store.specs.Spares.{row_held, rows_left}
use Rattle.b2_store.proofs.Same.{with_none}

-- they are those that a plain store has then
pub rows_are_left : (x : Option ℕ) (s : StoreState) (w : VarsState) → rows_left x s.globals w ≡ (with_globals_of x (option_map (λ _. w) (globals_of x s)) s).globals
rows_are_left None s w = refl
rows_are_left (Some p) s w = by (row_of p s.globals) refl
  where
    by : (c : Option VarsState) → row_of p s.globals ≡ c → rows_left (Some p) s.globals w ≡ (with_globals_of (Some p) (option_map (λ _. w) c) s).globals
    by None is = with_none (λ k. k == p) s.globals w is
    by (Some v) is = refl

-- what is lent is what is found
pub lent_is_found : (x : Option ℕ) (s : StoreState) (found : Bool) (v : VarsState) → found ≡ is_some (row_held x s.globals) → (IsSome (row_held x s.globals) → Some v ≡ row_held x s.globals) → (if found then Some v else None) ≡ globals_of x s
lent_is_found None s true v is there = absurd (cc)
lent_is_found None s false v is there = refl
lent_is_found (Some p) s true v is there = there (sym is)
lent_is_found (Some p) s false v is there = by (row_of p s.globals) is
  where
    by : (c : Option VarsState) → false ≡ is_some c → None ≡ c
    by None is = refl
    by (Some u) is = absurd (cc)
