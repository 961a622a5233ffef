-- Entries that stand in a block, as a finite map: each name has a variable of its own, and they take what is counted.
use Rattle.std.proofs.Common.{◌≡◌, ℕ, ◌≤◌, Bool, true, false, cond, [], ◌∷◌, IfSome, Option, Some, None, refl, ap, sym, subst, ◌∙◌, arith}
use Rattle.std.specs.Ordering.{eq_by_cmp}
use Rattle.std.specs.FinMap.{find, get}
use Rattle.b2_vars.specs.declared.name.Var.{Var}
use Rattle.b2_vars.specs.Names.{var_cmp}
use Rattle.b2_vars.specs.Variables.{VariableState}
use Rattle.b2_vars.specs.Tables.{Entries, costs, count_of, table_of, IsVariable, IsSound}
use Rattle.b2_vars.specs.Block.{stands_in, AllStored}
use Rattle.b2_vars.proofs.Counts.{cost_of, count-insert, count-empty}
use Rattle.b2_vars.proofs.EntriesAsMap.{get_table, tie}
use Rattle.b2_vars.proofs.Standing.{not_in}

pub find-nowhere : (q : Var) (es : Entries) → stands_in q es ≡ false → find var_cmp q es ≡ None
find-nowhere q [] none = refl
find-nowhere q (e ∷ es) none =
    let n = not_in q e es none in
    ap (λ c. cond c (Some e.1) (find var_cmp q es)) n.0 ∙ find-nowhere q es n.1

-- they take what their map takes
pub costs-stored : (es : Entries) → AllStored es → costs es ≡ count_of (table_of es)
costs-stored [] all = sym count-empty
costs-stored (e ∷ es) all =
    let t = table_of es in
    let free : cost_of e.0 (get t e.0) ≡ 0 = ap (cost_of e.0) (get_table es e.0 ∙ find-nowhere e.0 es all.1) in
    omega (arith, costs-stored es all.2, free, count-insert t e.0 e.1)

pub each-stored : (es : Entries) → AllStored es → (q : Var) → IfSome (find var_cmp q es) (IsVariable q)
each-stored [] all q = tt
each-stored (e ∷ es) all q = by (eq_by_cmp var_cmp q e.0) refl (each-stored es all.2 q)
  where
    by : (b : Bool) → eq_by_cmp var_cmp q e.0 ≡ b → IfSome (find var_cmp q es) (IsVariable q) → IfSome (cond b (Some e.1) (find var_cmp q es)) (IsVariable q)
    by true t h = subst (λ (w : Var). IsVariable w e.1) (sym (tie q e.0 t)) all.0.variable
    by false t h = h

pub each-variable : (es : Entries) → AllStored es → (q : Var) → IfSome (get (table_of es) q) (IsVariable q)
each-variable es all q = subst (λ (o : Option VariableState). IfSome o (IsVariable q)) (sym (get_table es q)) (each-stored es all q)

pub sound-stored : (area : ℕ) (es : Entries) → AllStored es → costs es ≤ area → IsSound area (count_of (table_of es)) (table_of es)
sound-stored area es all fits = record { counted = refl; fits = omega (arith, fits, costs-stored es all); each = each-variable es all }
