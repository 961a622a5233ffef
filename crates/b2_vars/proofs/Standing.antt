-- Where a name stands among entries: those before it, what stands under it, and the entries with something else there.
use Rattle.std.proofs.Common.{◌≡◌, ℕ, ◌+◌, ◌≤◌, Bool, true, false, cond, nat_lt, is_some, List, [], ◌∷◌, ◌++◌, length, Option, Some, refl, ap, sym, ◌∙◌, arith, true≢false, append_assoc, length-append}
use Rattle.std.specs.Ordering.{eq_by_cmp}
use Rattle.std.specs.FinMap.{find, get, insert, contains_key}
use Rattle.std.proofs.lemmas.Bool.{lt-ltb}
use Rattle.b2_vars.specs.declared.name.Var.{Var}
use Rattle.b2_vars.specs.Names.{var_cmp}
use Rattle.b2_vars.specs.Shapes.{cost}
use Rattle.b2_vars.specs.Variables.{VariableState}
use Rattle.b2_vars.specs.Tables.{Entries, costs, table_of}
use Rattle.b2_vars.specs.Block.{entry_bytes, spelled, place_from, stands_in, IsStored, AllStored}
use Rattle.b2_vars.proofs.EntriesAsMap.{get_table, tie, itself, put_one}
use Rattle.b2_vars.proofs.ReadEntries.{length-entry}

pub spelled-append : (es fs : Entries) → spelled (es ++ fs) ≡ spelled es ++ spelled fs
spelled-append [] fs = refl
spelled-append (e ∷ es) fs = ap (λ (b : List ℕ). entry_bytes e ++ b) (spelled-append es fs) ∙ sym (append_assoc (entry_bytes e) (spelled es) (spelled fs))

pub length-spelled : (es : Entries) → AllStored es → length (spelled es) ≡ costs es
length-spelled [] all = refl
length-spelled (e ∷ es) all = omega (arith, length-append (entry_bytes e) (spelled es), length-entry e.0 e.1 all.0.variable, length-spelled es all.2)

pub costs-append : (es fs : Entries) → costs (es ++ fs) ≡ costs es + costs fs
costs-append [] fs = omega arith
costs-append (e ∷ es) fs = omega (arith, costs-append es fs)

-- the entries before a name, what stands under it, and those after it
pub record IsAmong (v : Var) (at place : ℕ) (es : Entries) : Type 0 where
  pub front : Entries
  pub variable : VariableState
  pub rest : Entries
  pub is : es ≡ front ++ (v, variable) ∷ rest
  pub place_is : place ≡ at + costs front
  pub absent : stands_in v front ≡ false

pub among : (v : Var) (at place : ℕ) (es : Entries) → 1 ≤ at → place_from at v es ≡ place → 1 ≤ place → IsAmong v at place es
among v at place [] some e there = absurd (omega (arith, e, there))
among v at place (y ∷ es) some e there = by (eq_by_cmp var_cmp v y.0) refl (λ f. among v (at + cost y.0 y.1.shape) place es (omega (arith, some)) f there)
  where
    by : (b : Bool) → eq_by_cmp var_cmp v y.0 ≡ b → (place_from (at + cost y.0 y.1.shape) v es ≡ place → IsAmong v (at + cost y.0 y.1.shape) place es) → IsAmong v at place (y ∷ es)
    by true t later = record {
      front = [];
      variable = y.1;
      rest = es;
      is = ap (λ (w : Var). (w, y.1) ∷ es) (sym (tie v y.0 t));
      place_is = sym e ∙ ap (λ b. cond b at (place_from (at + cost y.0 y.1.shape) v es)) t ∙ omega arith;
      absent = refl;
    }
    by false t later =
        let r = later (sym (ap (λ b. cond b at (place_from (at + cost y.0 y.1.shape) v es)) t) ∙ e) in
        record {
          front = y ∷ r.front;
          variable = r.variable;
          rest = r.rest;
          is = ap (λ (zs : Entries). y ∷ zs) r.is;
          place_is = omega (arith, r.place_is);
          absent = ap (λ b. cond b true (stands_in v r.front)) t ∙ r.absent;
        }

pub not_in : (v : Var) (y : Var × VariableState) (front : Entries) → stands_in v (y ∷ front) ≡ false → (eq_by_cmp var_cmp v y.0 ≡ false) × (stands_in v front ≡ false)
not_in v y front none = by (eq_by_cmp var_cmp v y.0) refl
  where
    by : (b : Bool) → eq_by_cmp var_cmp v y.0 ≡ b → (eq_by_cmp var_cmp v y.0 ≡ false) × (stands_in v front ≡ false)
    by true t = absurd (true≢false (sym (ap (λ b. cond b true (stands_in v front)) t) ∙ none))
    by false t = (t, sym (ap (λ b. cond b true (stands_in v front)) t) ∙ none)

pub find-among : (v : Var) (x : VariableState) (front rest : Entries) → stands_in v front ≡ false → find var_cmp v (front ++ (v, x) ∷ rest) ≡ Some x
find-among v x [] rest none = ap (λ b. cond b (Some x) (find var_cmp v rest)) (itself v)
find-among v x (y ∷ front) rest none =
    let n = not_in v y front none in
    ap (λ b. cond b (Some y.1) (find var_cmp v (front ++ (v, x) ∷ rest))) n.0 ∙ find-among v x front rest n.1

pub get-among : (v : Var) (x : VariableState) (front rest : Entries) → stands_in v front ≡ false → get (table_of (front ++ (v, x) ∷ rest)) v ≡ Some x
get-among v x front rest none = get_table (front ++ (v, x) ∷ rest) v ∙ find-among v x front rest none

some-cond : (b : Bool) (x : VariableState) (o : Option VariableState) → is_some (cond b (Some x) o) ≡ cond b true (is_some o)
some-cond true x o = refl
some-cond false x o = refl

pub found-stands : (q : Var) (es : Entries) → is_some (find var_cmp q es) ≡ stands_in q es
found-stands q [] = refl
found-stands q (y ∷ es) = some-cond (eq_by_cmp var_cmp q y.0) y.1 (find var_cmp q es) ∙ ap (cond (eq_by_cmp var_cmp q y.0) true) (found-stands q es)

pub key-stands : (q : Var) (es : Entries) → contains_key (table_of es) q ≡ stands_in q es
key-stands q es = ap is_some (get_table es q) ∙ found-stands q es

-- a name has a place exactly where it stands
pub place-stands : (q : Var) (at : ℕ) (es : Entries) → 1 ≤ at → nat_lt 0 (place_from at q es) ≡ stands_in q es
place-stands q at [] some = refl
place-stands q at (y ∷ es) some = by (eq_by_cmp var_cmp q y.0) refl (place-stands q (at + cost y.0 y.1.shape) es (omega (arith, some)))
  where
    by : (b : Bool) → eq_by_cmp var_cmp q y.0 ≡ b → nat_lt 0 (place_from (at + cost y.0 y.1.shape) q es) ≡ stands_in q es → nat_lt 0 (place_from at q (y ∷ es)) ≡ stands_in q (y ∷ es)
    by true t later = ap (λ b. nat_lt 0 (cond b at (place_from (at + cost y.0 y.1.shape) q es))) t ∙ lt-ltb 0 at some ∙ sym (ap (λ b. cond b true (stands_in q es)) t)
    by false t later = ap (λ b. nat_lt 0 (cond b at (place_from (at + cost y.0 y.1.shape) q es))) t ∙ later ∙ sym (ap (λ b. cond b true (stands_in q es)) t)

pub nowhere : (q : Var) (at : ℕ) (es : Entries) → stands_in q es ≡ false → place_from at q es ≡ 0
nowhere q at [] none = refl
nowhere q at (y ∷ es) none =
    let n = not_in q y es none in
    ap (λ b. cond b at (place_from (at + cost y.0 y.1.shape) q es)) n.0 ∙ nowhere q (at + cost y.0 y.1.shape) es n.1

-- SOMETHING ELSE UNDER A NAME
twice : (b : Bool) (a c d : Option VariableState) → cond b a d ≡ cond b a (cond b c d)
twice true a c d = refl
twice false a c d = refl

pub under : (new old : Option VariableState) (here there : Bool) (a b : Option VariableState) → (here ≡ true → there ≡ false) → new ≡ cond here a old → cond there b new ≡ cond here a (cond there b old)
under new old true true a b apart e = absurd (true≢false (apart refl))
under new old true false a b apart e = e
under new old false there a b apart e = ap (cond there b) e

find-other : (v : Var) (x y : VariableState) (front rest : Entries) (q : Var) → stands_in v front ≡ false
    → find var_cmp q (front ++ (v, y) ∷ rest) ≡ cond (eq_by_cmp var_cmp q v) (Some y) (find var_cmp q (front ++ (v, x) ∷ rest))
find-other v x y [] rest q none = twice (eq_by_cmp var_cmp q v) (Some y) (Some x) (find var_cmp q rest)
find-other v x y (e ∷ front) rest q none =
    let n = not_in v e front none in
    under (find var_cmp q (front ++ (v, y) ∷ rest)) (find var_cmp q (front ++ (v, x) ∷ rest)) (eq_by_cmp var_cmp q v) (eq_by_cmp var_cmp q e.0) (Some y) (Some e.1)
    (λ t. ap (λ (w : Var). eq_by_cmp var_cmp w e.0) (tie q v t) ∙ n.0) (find-other v x y front rest q n.1)

pub table-other : (v : Var) (x y : VariableState) (front rest : Entries) → stands_in v front ≡ false
    → table_of (front ++ (v, y) ∷ rest) ≡ insert (table_of (front ++ (v, x) ∷ rest)) v y
table-other v x y front rest none =
    put_one (table_of (front ++ (v, x) ∷ rest)) _ v y (λ q.
    get_table (front ++ (v, y) ∷ rest) q ∙ find-other v x y front rest q none
    ∙ ap (cond (eq_by_cmp var_cmp q v) (Some y)) (sym (get_table (front ++ (v, x) ∷ rest) q)))

stands-other : (v : Var) (x y : VariableState) (front rest : Entries) (q : Var) → stands_in q (front ++ (v, y) ∷ rest) ≡ stands_in q (front ++ (v, x) ∷ rest)
stands-other v x y [] rest q = refl
stands-other v x y (e ∷ front) rest q = ap (cond (eq_by_cmp var_cmp q e.0) true) (stands-other v x y front rest q)

pub stored-other : (v : Var) (x y : VariableState) (front rest : Entries) → AllStored (front ++ (v, x) ∷ rest) → IsStored v y → AllStored (front ++ (v, y) ∷ rest)
stored-other v x y [] rest all is = (is, all.1, all.2)
stored-other v x y (e ∷ front) rest all is = (all.0, stands-other v x y front rest e.0 ∙ all.1, stored-other v x y front rest all.2 is)

pub stored-here : (v : Var) (x : VariableState) (front rest : Entries) → AllStored (front ++ (v, x) ∷ rest) → IsStored v x
stored-here v x [] rest all = all.0
stored-here v x (e ∷ front) rest all = stored-here v x front rest all.2

pub stored-front : (front rest : Entries) → AllStored (front ++ rest) → AllStored front
stored-front [] rest all = tt
stored-front (e ∷ front) rest all = (all.0, in_front front rest e.0 all.1, stored-front front rest all.2)
  where
    in_front : (front rest : Entries) (q : Var) → stands_in q (front ++ rest) ≡ false → stands_in q front ≡ false
    in_front [] rest q none = refl
    in_front (e ∷ front) rest q none =
        let n = not_in q e (front ++ rest) none in
        ap (λ b. cond b true (stands_in q front)) n.0 ∙ in_front front rest q n.1

pub stored-rest : (front rest : Entries) → AllStored (front ++ rest) → AllStored rest
stored-rest [] rest all = all
stored-rest (e ∷ front) rest all = stored-rest front rest all.2

-- every name keeps its place where what stands there takes as much
pub place-other : (v : Var) (x y : VariableState) (front rest : Entries) (at : ℕ) (q : Var) → cost v y.shape ≡ cost v x.shape
    → place_from at q (front ++ (v, y) ∷ rest) ≡ place_from at q (front ++ (v, x) ∷ rest)
place-other v x y [] rest at q same = ap (λ (n : ℕ). cond (eq_by_cmp var_cmp q v) at (place_from (at + n) q rest)) same
place-other v x y (e ∷ front) rest at q same = ap (cond (eq_by_cmp var_cmp q e.0) at) (place-other v x y front rest (at + cost e.0 e.1.shape) q same)
