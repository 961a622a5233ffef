-- What a finite map takes after one variable is put.
use Rattle.std.proofs.Common.{◌≡◌, ℕ, ◌+◌, Bool, true, false, cond, [], ◌∷◌, length, refl, ap, sym, ◌∙◌, arith, Option, Some, None, Ordering, Less, Equal, Greater}
use Rattle.std.specs.Prelude.{T, ◌&&◌}
use Rattle.std.specs.Option.{option_map_or}
use Rattle.std.specs.Ordering.{is_eq, is_lt}
use Rattle.std.specs.FinMap.{find, put, is_sorted, get, insert, empty, entries, entries_sorted, entries-insert, get-entries, len-entries, len-empty}
use Rattle.std.specs.FinMap.Entries.{by_order, below_all}
use Rattle.b2_vars.specs.declared.name.Var.{Var}
use Rattle.b2_vars.specs.Names.{var_cmp}
use Rattle.b2_vars.specs.Shapes.{cost}
use Rattle.b2_vars.specs.Variables.{VariableState}
use Rattle.b2_vars.specs.Tables.{Entries, Table, costs, count_of}
use Rattle.b2_vars.proofs.NamesAsKeys.{names_total, names_exact}

first : (a b : Bool) → T (a && b) → T a
first true b p = tt
first false b p = p

second : (a b : Bool) → T (a && b) → T b
second true b p = p
second false b p = absurd p

less : (o : Ordering) → T (is_lt o) → o ≡ Less
less Less p = refl
less Equal p = absurd p
less Greater p = absurd p

-- what a variable takes, 0 where there is none
abbrev pub cost_of : Var → Option VariableState → ℕ
cost_of v x = option_map_or (λ (x : VariableState). cost v x.shape) x 0

none_above : (k m : Var) (es : Entries) → var_cmp k m ≡ Less → T (below_all var_cmp m es) → find var_cmp k es ≡ None
none_above k m [] below above = refl
none_above k m (e ∷ es) below above =
    ap (λ r. cond (is_eq r) (Some e.1) (find var_cmp k es)) (names_total.trans k m e.0 below (less _ (first _ _ above))) ∙ none_above k m es below (second _ _ above)

-- an entry that is put gives back what one of its name took
costs-put : (k : Var) (a : VariableState) (es : Entries) → T (is_sorted var_cmp es) → costs (put var_cmp k a es) + cost_of k (find var_cmp k es) ≡ costs es + cost k a.shape
costs-put k a [] ordered = omega arith
costs-put k a (e ∷ es) ordered =
    elim (var_cmp k e.0) as (λ r. var_cmp k e.0 ≡ r → costs (by_order r ((k, a) ∷ e ∷ es) ((e.0, a) ∷ es) (e ∷ put var_cmp k a es)) + cost_of k (cond (is_eq r) (Some e.1) (find var_cmp k es)) ≡ cost e.0 e.1.shape + costs es + cost k a.shape) [
      | Less ↦ λ p. omega (arith, ap (cost_of k) (none_above k e.0 es p (first _ _ ordered)))
      | Equal ↦ λ p. omega (arith, ap (λ x. cost x e.1.shape) (names_exact k e.0 p), ap (λ x. cost x a.shape) (names_exact k e.0 p))
      | Greater ↦ λ p. omega (arith, costs-put k a es (second _ _ ordered))
    ] refl

-- what is put under a name gives back what the name took
pub count-insert : (t : Table) (v : Var) (x : VariableState) → count_of (insert t v x) + cost_of v (get t v) ≡ count_of t + cost v x.shape
count-insert t v x =
    (λ i. costs (entries-insert names_total t v x i) + cost_of v (get-entries t v i))
    ∙ costs-put v x (entries t) (entries_sorted t)

no_entries : (es : Entries) → length es ≡ 0 → costs es ≡ 0
no_entries [] e = refl
no_entries (x ∷ es) e = absurd (omega arith)

pub count-empty : count_of empty ≡ 0
count-empty = no_entries (entries empty) (sym (len-entries empty) ∙ len-empty var_cmp VariableState)
