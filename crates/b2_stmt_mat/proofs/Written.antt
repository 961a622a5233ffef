-- What several changes of one array come to, and what a call leaves that refuses or changes.
use Rattle.std.proofs.Common.{◌≡◌, ◌<◌, ℕ, zero, suc, ◌+◌, ◌-◌, ◌||◌, Bool, true, false, true≢false, cond, Ordering, Less, Equal, Greater, is_eq, is_some, List, [], ◌∷◌, ◌++◌, length, take, drop, get_or, replicate, Option, Some, None, Result, Ok, Err, refl, sym, ap, subst, ◌∙◌, arith}
use Rattle.std.proofs.Math.Seq.{take-length}
use Rattle.std.specs.FinMap as map
use Rattle.std.specs.FinMap.{get-insert, same_map}
use Rattle.std.specs.Ordering.{eq_by_cmp}
use Rattle.std.specs.Prelude.{IsSome, OnErr, OnOk, slice_set}
use Rattle.b2_base.specs.Byte as byte
use Rattle.b2_dec.specs.Number.{Number, zero_number}
use Rattle.b2_alpha.specs.Values.{padded}
use Rattle.b2_vars.specs.Answers.{Answers}
use Rattle.b2_vars.specs.Calls.{ChangesPart, with_bytes_of, with_change}
use Rattle.b2_vars.specs.Names.{var_cmp}
use Rattle.b2_vars.specs.Tables.{Table, VarsState, shape_at, variable_at}
use Rattle.b2_vars.specs.Shapes.{cells}
use Rattle.b2_vars.specs.Variables.{VariableState, bytes_from, reshaped, with_number}
use Rattle.b2_vars.specs.declared.shape.Shape.{Shape}
use Rattle.b2_vars.specs.declared.name.Var.{Var}
use Rattle.b2_vars.proofs.Cells.{variable_at-Some}
use Rattle.b2_vars.proofs.EntriesAsMap.{get_put}
use Rattle.b2_vars.proofs.NamesAsKeys.{names_exact, names_total}
use Rattle.b2_expr.specs.Workspace.{WorkState, counts_as_reached, on_globals, on_own}
use Rattle.b2_receiver.proofs.Ended.{lent_by}
use Rattle.b2_vars.specs.Assigned.{Assigned}
use Rattle.b2_receiver.specs.Assigning.{unless_refused}
use Rattle.b2_stmt_mat.specs.Arrays.{IsArrayOf, with_numbers}
use Rattle.b2_stmt_mat.proofs.ArraysThere.{stands}

is_equal : (r : Ordering) → is_eq r ≡ true → r ≡ Equal
is_equal Less p = absurd (true≢false (sym p))
is_equal Equal p = refl
is_equal Greater p = absurd (true≢false (sym p))

-- what was put last under a name stands there
twice_at : (b : Bool) (x y : VariableState) (o : Option VariableState) → cond b (Some y) (cond b (Some x) o) ≡ cond b (Some y) o
twice_at true x y o = refl
twice_at false x y o = refl

put_twice : (t : Table) (v : Var) (x y : VariableState) → map.insert (map.insert t v x) v y ≡ map.insert t v y
put_twice t v x y =
    same_map names_total names_exact (map.insert (map.insert t v x) v y) (map.insert t v y) (λ q.
    get-insert names_total (map.insert t v x) v y q
    ∙ ap (λ (o : Option VariableState). cond (eq_by_cmp var_cmp q v) (Some y) o) (get-insert names_total t v x q)
    ∙ twice_at (eq_by_cmp var_cmp q v) x y (map.get t q)
    ∙ sym (get-insert names_total t v y q))

pub put_there : (t : Table) (v : Var) (x : VariableState) → variable_at v (map.insert t v x) ≡ x
put_there t v x = variable_at-Some (map.insert t v x) v x (get_put t v x)

-- a change after another
pub changed_again : (v : Var) (f g : VariableState → VariableState) (s : VarsState) → with_change v f (with_change v g s) ≡ with_change v (λ x. f (g x)) s
changed_again v f g s =
    ap (λ (x : VariableState). record s { table = map.insert (map.insert s.table v (g (variable_at v s.table))) v (f x) }) (put_there s.table v (g (variable_at v s.table)))
    ∙ ap (λ (t : Table). record s { table = t }) (put_twice s.table v (g (variable_at v s.table)) (f (g (variable_at v s.table))))

-- numbers put one after another along rows
set_next : (xs ns : List Number) (i : ℕ) → i < length xs → length xs ≡ length ns → slice_set (take i xs ++ drop i ns) i (get_or xs i zero_number) ≡ take (suc i) xs ++ drop (suc i) ns
set_next [] ns i inside same = absurd (omega arith)
set_next (x ∷ xs) [] i inside same = absurd (let e : suc (length xs) ≡ 0 = same in omega (arith, e))
set_next (x ∷ xs) (n ∷ ns) zero inside same = refl
set_next (x ∷ xs) (n ∷ ns) (suc i) inside same = ap (λ (t : List Number). x ∷ t) (set_next xs ns i (omega arith) (let e : suc (length xs) ≡ suc (length ns) = same in omega (arith, e)))

-- the numbers of an array of which the first i are others
abbrev pub with_first : ℕ → List Number → VariableState → VariableState
with_first i numbers x = with_numbers (take i numbers ++ drop i x.numbers) x

pub put_next : (v : Var) (i : ℕ) (xs : List Number) (s : VarsState) → i < length xs → length xs ≡ length (variable_at v s.table).numbers
    → with_change v (with_number i (get_or xs i zero_number)) (with_change v (with_first i xs) s) ≡ with_change v (with_first (suc i) xs) s
put_next v i xs s inside same =
    changed_again v (with_number i (get_or xs i zero_number)) (with_first i xs) s
    ∙ ap (λ (numbers : List Number). record s { table = map.insert s.table v (with_numbers numbers (variable_at v s.table)) }) (set_next xs (variable_at v s.table).numbers i inside same)

take_all : (xs : List Number) → take (length xs) xs ≡ xs
take_all xs = take-length xs

drop_all : (xs ns : List Number) → length xs ≡ length ns → drop (length xs) ns ≡ []
drop_all [] [] same = refl
drop_all [] (n ∷ ns) same = absurd (let e : 0 ≡ suc (length ns) = same in omega (arith, e))
drop_all (x ∷ xs) [] same = refl
drop_all (x ∷ xs) (n ∷ ns) same = drop_all xs ns (let e : suc (length xs) ≡ suc (length ns) = same in omega (arith, e))

no_more : {A : Type 0} (xs : List A) → xs ++ [] ≡ xs
no_more [] = refl
no_more (x ∷ xs) = ap (λ t. x ∷ t) (no_more xs)

pub all_put : (v : Var) (xs : List Number) (s : VarsState) → length xs ≡ length (variable_at v s.table).numbers → with_change v (with_first (length xs) xs) s ≡ with_change v (with_numbers xs) s
all_put v xs s same =
    ap (λ (numbers : List Number). record s { table = map.insert s.table v (with_numbers numbers (variable_at v s.table)) })
    (ap (λ (ys : List Number). ys ++ drop (length xs) (variable_at v s.table).numbers) (take_all xs)
    ∙ ap (λ (ys : List Number). xs ++ ys) (drop_all xs (variable_at v s.table).numbers same) ∙ no_more xs)

-- nothing has been put yet
same_variable : (t : Table) (v : Var) → IsSome (map.get t v) → map.insert t v (variable_at v t) ≡ t
same_variable t v some =
    same_map names_total names_exact (map.insert t v (variable_at v t)) t (λ q. get-insert names_total t v (variable_at v t) q ∙ by (eq_by_cmp var_cmp q v) q refl)
  where
    by : (b : Bool) (q : Var) → eq_by_cmp var_cmp q v ≡ b → cond b (Some (variable_at v t)) (map.get t q) ≡ map.get t q
    by true q is = sym (stands t v some) ∙ ap (λ (k : Var). map.get t k) (sym (names_exact q v (is_equal (var_cmp q v) is)))
    by false q is = refl

pub none_put : (v : Var) (xs : List Number) (s : VarsState) → IsSome (map.get s.table v) → with_change v (with_first 0 xs) s ≡ s
none_put v xs s some = ap (λ (t : Table). record s { table = t }) (same_variable s.table v some)

-- bytes that a closure makes of all
same_state : (a b : VarsState) → a.area ≡ b.area → a.table ≡ b.table → a ≡ b
same_state a b p q = ap (λ (n : ℕ). record { area = n; table = a.table }) p ∙ ap (λ (t : Table). record { area = b.area; table = t }) q

padded_whole : (bytes : List ℕ) → padded (length bytes) bytes ≡ bytes
padded_whole bytes =
    ap (λ (k : ℕ). take (length bytes) bytes ++ replicate k byte.blank) (let e : length bytes - length bytes ≡ 0 = omega arith in e)
    ∙ ap (λ (ys : List ℕ). ys ++ []) (take-length bytes) ∙ no_more bytes

full_by : (n : ℕ) (xs bytes : List ℕ) → n ≡ length xs → length bytes ≡ length xs → padded (length (bytes_from 0 n xs)) bytes ≡ bytes
full_by n xs bytes whole same =
    let all : length (bytes_from 0 n xs) ≡ length bytes = ap (λ (k : ℕ). length (take k xs)) (let e : (0 + n) - 0 ≡ length xs = omega (arith, whole) in e) ∙ ap (λ (ys : List ℕ). length ys) (take-length xs) ∙ sym same in
    ap (λ (k : ℕ). padded k bytes) all ∙ padded_whole bytes

pub all_changed : (gives : List ℕ → List ℕ → Type 0) (v : Var) (n : ℕ) (bytes : List ℕ) (old new : VarsState) → ChangesPart gives v 0 n old new → ((x y : List ℕ) → gives x y → y ≡ padded (length x) bytes)
    → n ≡ length (variable_at v old.table).bytes → length bytes ≡ length (variable_at v old.table).bytes → new ≡ with_bytes_of v 0 old bytes
all_changed gives v n bytes old new h is whole same =
    let so : h.1.0 ≡ bytes = is (bytes_from 0 n (variable_at v old.table).bytes) h.1.0 h.1.2 ∙ full_by n (variable_at v old.table).bytes bytes whole same in
    same_state new (with_bytes_of v 0 old bytes) h.0 (h.1.3 ∙ ap (λ (y : List ℕ). (with_bytes_of v 0 old y).table) so)

-- a call that leaves something else, or refuses
abbrev pub code_in : Result (Unit {0}) ℕ → Option ℕ
code_in (Ok done) = None
code_in (Err code) = Some code

pub kept_work : (o : Option ℕ) (w : WorkState) (after new : VarsState) (r : Result (Unit {0}) ℕ) (code : Option ℕ) → OnOk r (new ≡ after) → Answers o r → OnErr r (new ≡ w.own) → code ≡ code_in r
    → record { work = record w { own = new }; code = code } ≡ on_own (unless_refused o w.own (record { vars = after; code = None })) w
kept_work o w after new (Ok done) code ok coded err ends =
    ap (λ (v : VarsState). record { work = record w { own = v }; code = code }) ok
    ∙ ap (λ (c : Option ℕ). record { work = record w { own = after }; code = c }) ends
    ∙ sym (ap (λ (c : Option ℕ). on_own (unless_refused c w.own (record { vars = after; code = None })) w) coded)
kept_work o w after new (Err c) code ok coded err ends =
    ap (λ (v : VarsState). record { work = record w { own = v }; code = code }) err
    ∙ ap (λ (c : Option ℕ). record { work = w; code = c }) ends
    ∙ sym (ap (λ (c : Option ℕ). on_own (unless_refused c w.own (record { vars = after; code = None })) w) coded)

-- so also among the `@` variables, with whether a receiver was reached
kept_so : (o : Option ℕ) (old after new : VarsState) (r : Result (Unit {0}) ℕ) (code : Option ℕ) → OnOk r (new ≡ after) → Answers o r → OnErr r (new ≡ old) → code ≡ code_in r
    → ◌≡◌ {A = Assigned} (record { vars = new; code = code }) (unless_refused o old (record { vars = after; code = None }))
kept_so o old after new (Ok done) code ok coded err ends =
    ap (λ (v : VarsState). record { vars = v; code = code }) ok
    ∙ ap (λ (c : Option ℕ). record { vars = after; code = c }) ends
    ∙ sym (ap (λ (c : Option ℕ). unless_refused c old (record { vars = after; code = None })) coded)
kept_so o old after new (Err c) code ok coded err ends =
    ap (λ (v : VarsState). record { vars = v; code = code }) err
    ∙ ap (λ (c : Option ℕ). record { vars = old; code = c }) ends
    ∙ sym (ap (λ (c : Option ℕ). unless_refused c old (record { vars = after; code = None })) coded)

pub kept_lent : (o : Option ℕ) (w : WorkState) (old after new : VarsState) (reached : Bool) (r : Result (Unit {0}) ℕ) (code : Option ℕ) → OnOk r (new ≡ after) → Answers o r → OnErr r (new ≡ old) → code ≡ code_in r
    → reached ≡ (w.globals.reached || counts_as_reached code)
    → record { work = record w { globals = record { vars = Some new; reached = reached } }; code = code } ≡ on_globals (unless_refused o old (record { vars = after; code = None })) w
kept_lent o w old after new reached r code ok coded err ends marks =
    lent_by (unless_refused o old (record { vars = after; code = None })) (record { vars = new; code = code }) w reached marks (kept_so o old after new r code ok coded err ends)

-- the array stays there in its shape
pub there_after : (alpha : Bool) (v : Var) (x : VariableState) (t : Table) → IsArrayOf alpha v t → IsArrayOf alpha v (map.insert t v x)
there_after alpha v x t is = record { named = is.named; kind = is.kind; array = is.array; there = ap is_some (get_put t v x) }

-- the next number
pub next_put : (v : Var) (i : ℕ) (xs : List Number) (x : Number) (s before after : VarsState) → before ≡ with_change v (with_first i xs) s → after ≡ with_change v (with_number i x) before → x ≡ get_or xs i zero_number
    → i < length xs → length xs ≡ length (variable_at v s.table).numbers → after ≡ with_change v (with_first (i + 1) xs) s
next_put v i xs x s before after was is at inside same =
    is ∙ ap (λ (n : Number). with_change v (with_number i n) before) at ∙ ap (λ (b : VarsState). with_change v (with_number i (get_or xs i zero_number)) b) was
    ∙ put_next v i xs s inside same ∙ ap (λ (k : ℕ). with_change v (with_first k xs) s) (let e : suc i ≡ i + 1 = omega arith in e)

pub shape_after : (v : Var) (i : ℕ) (x : Number) (s : VarsState) → shape_at v (with_change v (with_number i x) s).table ≡ shape_at v s.table
shape_after v i x s = ap (λ (y : VariableState). y.shape) (put_there s.table v (with_number i x (variable_at v s.table)))

-- what stands in a list doesn't depend on what stands for an element past it
pub any_default : (xs : List Number) (i : ℕ) (a b : Number) → i < length xs → get_or xs i a ≡ get_or xs i b
any_default [] i a b inside = absurd (omega arith)
any_default (x ∷ xs) zero a b inside = refl
any_default (x ∷ xs) (suc i) a b inside = any_default xs i a b (omega arith)

-- all numbers after the last
pub finished : (v : Var) (i : ℕ) (xs : List Number) (s after : VarsState) → after ≡ with_change v (with_first i xs) s → i ≡ length xs → length xs ≡ length (variable_at v s.table).numbers → after ≡ with_change v (with_numbers xs) s
finished v i xs s after is all same = is ∙ ap (λ (k : ℕ). with_change v (with_first k xs) s) all ∙ all_put v xs s same

-- an array in another shape, and then with other numbers
pub changed_there : (v : Var) (f : VariableState → VariableState) (s mid : VarsState) → mid ≡ with_change v f s → IsArrayOf false v s.table → IsArrayOf false v mid.table
changed_there v f s mid is there = subst (λ (x : VarsState). IsArrayOf false v x.table) (sym is) (there_after false v (f (variable_at v s.table)) s.table there)

pub changed_cells : (v : Var) (shape : Shape) (s mid : VarsState) → mid ≡ with_change v (reshaped v shape) s → cells (shape_at v mid.table) ≡ cells shape
changed_cells v shape s mid is = ap (λ (x : VarsState). cells (shape_at v x.table)) is ∙ ap (λ (y : VariableState). cells y.shape) (put_there s.table v (reshaped v shape (variable_at v s.table)))

pub both_put : (v : Var) (shape : Shape) (numbers : List Number) (s mid after : VarsState) → mid ≡ with_change v (reshaped v shape) s → after ≡ with_change v (with_numbers numbers) mid
    → after ≡ with_change v (λ x. with_numbers numbers (reshaped v shape x)) s
both_put v shape numbers s mid after was is = is ∙ ap (λ (x : VarsState). with_change v (with_numbers numbers) x) was ∙ changed_again v (with_numbers numbers) (reshaped v shape) s
