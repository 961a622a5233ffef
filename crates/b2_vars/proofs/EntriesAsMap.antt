-- What entries stand for as a finite map, and what stands there after a name is put.
use Rattle.std.proofs.Common.{◌≡◌, ◌≢◌, Bool, true, false, true≢false, cond, Some, Ordering, Less, Equal, Greater, is_eq, refl, ap, sym, ◌∙◌}
use Rattle.std.specs.FinMap.{find, get, insert, get-from_entries, get-insert, same_map}
use Rattle.std.specs.Cmp.{eq_by_cmp_equiv}
use Rattle.std.specs.Ordering.{eq_by_cmp}
use Rattle.b2_vars.specs.declared.name.Var.{Var}
use Rattle.b2_vars.specs.Names.{var_cmp}
use Rattle.b2_vars.specs.Variables.{VariableState}
use Rattle.b2_vars.specs.Tables.{Entries, table_of, Table}
use Rattle.b2_vars.proofs.NamesAsKeys.{names_total, names_exact}

-- the finite map has what is found first
pub get_table : (es : Entries) (q : Var) → get (table_of es) q ≡ find var_cmp q es
get_table es q = get-from_entries names_total es q

equal : (r : Ordering) → is_eq r ≡ true → r ≡ Equal
equal Less p = absurd (true≢false (sym p))
equal Equal p = refl
equal Greater p = absurd (true≢false (sym p))

-- names that tie are one
pub tie : (q v : Var) → eq_by_cmp var_cmp q v ≡ true → q ≡ v
tie q v e = names_exact q v (equal _ e)

pub itself : (v : Var) → eq_by_cmp var_cmp v v ≡ true
itself v = (eq_by_cmp_equiv names_total).refl v

pub turned : (q v : Var) → eq_by_cmp var_cmp q v ≡ eq_by_cmp var_cmp v q
turned q v = (eq_by_cmp_equiv names_total).symm q v

-- what is put under a name stands there
pub get_put : (t : Table) (v : Var) (h : VariableState) → get (insert t v h) v ≡ Some h
get_put t v h = get-insert names_total t v h v ∙ ap (λ b. cond b (Some h) (get t v)) (itself v)

-- another name keeps what it has
pub get_other : (t : Table) (v q : Var) (h : VariableState) → q ≢ v → get (insert t v h) q ≡ get t q
get_other t v q h apart = get-insert names_total t v h q ∙ by (eq_by_cmp var_cmp q v) refl
  where
    by : (b : Bool) → eq_by_cmp var_cmp q v ≡ b → cond b (Some h) (get t q) ≡ get t q
    by true e = absurd (apart (tie q v e))
    by false e = refl

-- a map that has this under one name, and under each other what the first has
pub put_one : (t new : Table) (v : Var) (h : VariableState) → ((q : Var) → get new q ≡ cond (eq_by_cmp var_cmp q v) (Some h) (get t q)) → new ≡ insert t v h
put_one t new v h is = same_map names_total names_exact _ _ (λ q. is q ∙ sym (get-insert names_total t v h q))
