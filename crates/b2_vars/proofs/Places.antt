-- Where names stand after an entry is added, gets shorter or goes.
use Rattle.std.proofs.Common.{◌≡◌, ℕ, ◌+◌, ◌-◌, ◌<◌, ◌≤◌, Bool, true, false, cond, [], ◌∷◌, ◌++◌, Some, refl, ap, ap₂, sym, ◌∙◌, arith}
use Rattle.std.specs.Ordering.{eq_by_cmp}
use Rattle.std.specs.FinMap.{find, insert}
use Rattle.std.proofs.lemmas.Bool.{lt-ltb, le-ltb}
use Rattle.b2_vars.specs.declared.name.Var.{Var}
use Rattle.b2_vars.specs.Names.{var_cmp}
use Rattle.b2_vars.specs.Shapes.{cost}
use Rattle.b2_vars.specs.Variables.{VariableState}
use Rattle.b2_vars.specs.Tables.{Entries, costs, table_of}
use Rattle.b2_vars.specs.Block.{place_from, lowered, stands_in, IsStored, AllStored}
use Rattle.b2_vars.proofs.EntriesAsMap.{get_table, tie, itself, turned, put_one}
use Rattle.b2_vars.proofs.Standing.{not_in, under, nowhere}

-- AN ENTRY AFTER ALL OTHERS
either : (here there last : Bool) (at later then more less : ℕ) → later ≡ cond there then (cond last more 0) → more ≡ less
    → cond here at later ≡ cond (cond here true there) (cond here at then) (cond last less 0)
either true there last at later then more less h e = refl
either false there last at later then more less h e = h ∙ ap (λ (n : ℕ). cond there then (cond last n 0)) e

pub place-last : (q v : Var) (x : VariableState) (at : ℕ) (es : Entries)
    → place_from at q (es ++ (v, x) ∷ []) ≡ cond (stands_in q es) (place_from at q es) (cond (eq_by_cmp var_cmp q v) (at + costs es) 0)
place-last q v x at [] = ap (λ (n : ℕ). cond (eq_by_cmp var_cmp q v) n 0) (omega arith)
place-last q v x at (y ∷ es) =
    either (eq_by_cmp var_cmp q y.0) (stands_in q es) (eq_by_cmp var_cmp q v) at (place_from (at + cost y.0 y.1.shape) q (es ++ (v, x) ∷ [])) (place_from (at + cost y.0 y.1.shape) q es) (at + cost y.0 y.1.shape + costs es) (at + costs (y ∷ es))
    (place-last q v x (at + cost y.0 y.1.shape) es) (omega arith)

where_it_stands : (b : Bool) (n : ℕ) → (b ≡ false → n ≡ 0) → cond b n 0 ≡ n
where_it_stands true n h = refl
where_it_stands false n h = sym (h refl)

-- another name keeps its place
pub place-before-last : (q v : Var) (x : VariableState) (at : ℕ) (es : Entries) → eq_by_cmp var_cmp q v ≡ false → place_from at q (es ++ (v, x) ∷ []) ≡ place_from at q es
place-before-last q v x at es other =
    place-last q v x at es ∙ ap (λ b. cond (stands_in q es) (place_from at q es) (cond b (at + costs es) 0)) other
    ∙ where_it_stands (stands_in q es) (place_from at q es) (nowhere q at es)

-- the name itself stands after all others
pub place-of-last : (v : Var) (x : VariableState) (at : ℕ) (es : Entries) → stands_in v es ≡ false → place_from at v (es ++ (v, x) ∷ []) ≡ at + costs es
place-of-last v x at es none =
    place-last v v x at es ∙ ap (λ b. cond b (place_from at v es) (cond (eq_by_cmp var_cmp v v) (at + costs es) 0)) none
    ∙ ap (λ b. cond b (at + costs es) 0) (itself v)

find-last : (v : Var) (x : VariableState) (es : Entries) (q : Var) → stands_in v es ≡ false
    → find var_cmp q (es ++ (v, x) ∷ []) ≡ cond (eq_by_cmp var_cmp q v) (Some x) (find var_cmp q es)
find-last v x [] q none = refl
find-last v x (e ∷ es) q none =
    let n = not_in v e es none in
    under (find var_cmp q (es ++ (v, x) ∷ [])) (find var_cmp q es) (eq_by_cmp var_cmp q v) (eq_by_cmp var_cmp q e.0) (Some x) (Some e.1)
    (λ t. ap (λ (w : Var). eq_by_cmp var_cmp w e.0) (tie q v t) ∙ n.0) (find-last v x es q n.1)

pub table-last : (v : Var) (x : VariableState) (es : Entries) → stands_in v es ≡ false → table_of (es ++ (v, x) ∷ []) ≡ insert (table_of es) v x
table-last v x es none =
    put_one (table_of es) _ v x (λ q. get_table (es ++ (v, x) ∷ []) q ∙ find-last v x es q none ∙ ap (cond (eq_by_cmp var_cmp q v) (Some x)) (sym (get_table es q)))

stands-last : (q v : Var) (x : VariableState) (es : Entries) → stands_in q es ≡ false → eq_by_cmp var_cmp q v ≡ false → stands_in q (es ++ (v, x) ∷ []) ≡ false
stands-last q v x [] none other = ap (λ b. cond b true false) other
stands-last q v x (e ∷ es) none other =
    let n = not_in q e es none in
    ap (λ b. cond b true (stands_in q (es ++ (v, x) ∷ []))) n.0 ∙ stands-last q v x es n.1 other

pub stored-last : (v : Var) (x : VariableState) (es : Entries) → AllStored es → stands_in v es ≡ false → IsStored v x → AllStored (es ++ (v, x) ∷ [])
stored-last v x [] all none is = (is, refl, tt)
stored-last v x (e ∷ es) all none is =
    let n = not_in v e es none in
    (all.0, stands-last e.0 v x es all.1 (turned e.0 v ∙ n.0), stored-last v x es all.2 n.1 is)

-- AN ENTRY THAT GETS SHORTER, OR GOES
lowered-cond : (b : Bool) (past by m n : ℕ) → lowered past by (cond b m n) ≡ cond b (lowered past by m) (lowered past by n)
lowered-cond true past by m n = refl
lowered-cond false past by m n = refl

stays : (past by n : ℕ) → n ≤ past → lowered past by n ≡ n
stays past by n h = ap (λ b. cond b (n - by) n) (le-ltb past n h)

falls : (past by n : ℕ) → past < n → lowered past by n ≡ n - by
falls past by n h = ap (λ b. cond b (n - by) n) (lt-ltb past n h)

-- all that stand after it
pub shifted : (q : Var) (past a by : ℕ) (rest : Entries) → past < a + by → lowered past by (place_from (a + by) q rest) ≡ place_from a q rest
shifted q past a by [] more = stays past by 0 (omega arith)
shifted q past a by (y ∷ rest) more =
    let c = cost y.0 y.1.shape in
    let turn : a + by + c ≡ a + c + by = omega arith in
    lowered-cond (eq_by_cmp var_cmp q y.0) past by (a + by) (place_from (a + by + c) q rest)
    ∙ ap₂ (λ (m n : ℕ). cond (eq_by_cmp var_cmp q y.0) m n) (falls past by (a + by) more ∙ omega arith)
    (ap (λ (n : ℕ). lowered past by (place_from n q rest)) turn ∙ shifted q past (a + c) by rest (omega (arith, more)))

pub place-shorter : (q v : Var) (x y : VariableState) (front rest : Entries) (at by : ℕ) → cost v x.shape ≡ cost v y.shape + by → 1 ≤ cost v y.shape
    → place_from at q (front ++ (v, y) ∷ rest) ≡ lowered (at + costs front) by (place_from at q (front ++ (v, x) ∷ rest))
place-shorter q v x y [] rest at by less some =
    sym (lowered-cond (eq_by_cmp var_cmp q v) (at + 0) by at (place_from (at + cost v x.shape) q rest)
    ∙ ap₂ (λ (m n : ℕ). cond (eq_by_cmp var_cmp q v) m n) (stays (at + 0) by at (omega arith))
    (ap (λ (n : ℕ). lowered (at + 0) by (place_from n q rest)) longer ∙ shifted q (at + 0) (at + cost v y.shape) by rest (omega (arith, some))))
  where
    longer : at + cost v x.shape ≡ at + cost v y.shape + by
    longer = omega (arith, less)
place-shorter q v x y (e ∷ front) rest at by less some =
    let c = cost e.0 e.1.shape in
    let sum : at + c + costs front ≡ at + costs (e ∷ front) = omega arith in
    sym (lowered-cond (eq_by_cmp var_cmp q e.0) (at + costs (e ∷ front)) by at (place_from (at + c) q (front ++ (v, x) ∷ rest))
    ∙ ap₂ (λ (m n : ℕ). cond (eq_by_cmp var_cmp q e.0) m n) (stays (at + costs (e ∷ front)) by at (omega arith))
    (ap (λ (n : ℕ). lowered n by (place_from (at + c) q (front ++ (v, x) ∷ rest))) (sym sum) ∙ sym (place-shorter q v x y front rest (at + c) by less some)))

pub place-gone : (q v : Var) (x : VariableState) (front rest : Entries) (at : ℕ) → eq_by_cmp var_cmp q v ≡ false → 1 ≤ cost v x.shape
    → place_from at q (front ++ rest) ≡ lowered (at + costs front) (cost v x.shape) (place_from at q (front ++ (v, x) ∷ rest))
place-gone q v x [] rest at other some =
    sym (ap (λ b. lowered (at + 0) (cost v x.shape) (cond b at (place_from (at + cost v x.shape) q rest))) other ∙ shifted q (at + 0) at (cost v x.shape) rest (omega (arith, some)))
place-gone q v x (e ∷ front) rest at other some =
    let c = cost e.0 e.1.shape in
    let sum : at + c + costs front ≡ at + costs (e ∷ front) = omega arith in
    sym (lowered-cond (eq_by_cmp var_cmp q e.0) (at + costs (e ∷ front)) (cost v x.shape) at (place_from (at + c) q (front ++ (v, x) ∷ rest))
    ∙ ap₂ (λ (m n : ℕ). cond (eq_by_cmp var_cmp q e.0) m n) (stays (at + costs (e ∷ front)) (cost v x.shape) at (omega arith))
    (ap (λ (n : ℕ). lowered n (cost v x.shape) (place_from (at + c) q (front ++ (v, x) ∷ rest))) (sym sum) ∙ sym (place-gone q v x front rest (at + c) other some)))
