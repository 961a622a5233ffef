-- Statements on arrays leave numbers.
use Rattle.std.proofs.Common.{ℕ, zero, suc, ◌==◌, Bool, true, false, if◌then◌else◌, List, [], ◌∷◌, length, map, drop, get_or, Option, Some, None, IfSome, Result, Ok, Err, IfOk, sym, subst, inl, inr}
use Rattle.std.specs.List.{All, flat_map, range_with_len}
use Rattle.std.specs.Option.{unwrap_or}
use Rattle.std.proofs.lemmas.Bool.{cases_lt}
use Rattle.std.proofs.lemmas.List.{get_or_past}
use Rattle.std.proofs.lemmas.List.Elements.{All-append, All-cons, All-drop, All-get_or, All-head, All-nil, All-tail, All-take}
use Rattle.b2_dec.specs.Arithmetic.{one_number, onwards, product_of, sum_of}
use Rattle.b2_dec.specs.Number.{Number, IsNumber, zero_number}
use Rattle.b2_dec.specs.declared.number.Mode.{Mode}
use Rattle.b2_atom.specs.Tree.{Trees}
use Rattle.b2_atom.specs.declared.rows.TheConstants as row
use Rattle.b2_base.specs.declared.codes.TheConstants.{P44_NOT_SQUARE}
use Rattle.b2_vars.specs.Calls.{redim_code, with_change}
use Rattle.b2_vars.specs.Tables.{VarsState}
use Rattle.b2_vars.specs.Variables.{reshaped}
use Rattle.b2_vars.specs.declared.name.Var.{Var}
use Rattle.b2_matrix.specs.Answers.{may_fill}
use Rattle.b2_matrix.specs.Arrays.{along_rows, array_column, array_rows, column_count, columns_of, combined_element, cut_into_rows, elements, entry, filling, matrix_row, multiples, sum_of_products}
use Rattle.b2_matrix.specs.declared.array.Fill.{Fill}
use Rattle.b2_matrix.specs.declared.array.Fill.TheVariants as filled_with
use Rattle.b2_matrix.specs.declared.combining.MatOp.{MatOp}
use Rattle.b2_matrix.specs.declared.combining.MatOp.TheVariants as op
use Rattle.b2_access.specs.Lending.{SeenLent}
use Rattle.b2_access.specs.Partition.{setting_of}
use Rattle.b2_access.specs.Working.{stops, work_of}
use Rattle.b2_access.specs.declared.accesses.Access.{Access}
use Rattle.b2_access.specs.declared.accesses.Answer.{Answer as AccessAnswer}
use Rattle.b2_access.specs.declared.planned.Outcome.TheVariants as outcome
use Rattle.b2_access.specs.declared.private.Private.{Private}
use Rattle.b2_access.proofs.Choice.{either}
use Rattle.b2_access.proofs.Dispatch.{each_dispatch}
use Rattle.b2_expr.specs.Answers.{Answer, TextAnswer, ◌>>=◌}
use Rattle.b2_expr.specs.Value.{context_of}
use Rattle.b2_expr.specs.Workspace.{WorkState, surroundings_of, work_in}
use Rattle.b2_receiver.specs.Assigning.{assigned_bytes}
use Rattle.b2_receiver.specs.declared.receiver.Array.{Array}
use Rattle.b2_dims.specs.declared.dimensions.Dimensions.{Dimensions}
use Rattle.b2_stmt_mat.specs.Arrays.{Families, families, matrix_in, vars_of, with_numbers}
use Rattle.b2_stmt_mat.specs.ByteArrays.{all_or_refused, bytes_copied, bytes_moved, copied, copies_found, copy_in, move_in, moved, moves_found, sort_in, sorted, sorted_bytes, sorts_found}
use Rattle.b2_stmt_mat.specs.Formulas.{assignment_in}
use Rattle.b2_stmt_mat.specs.Matrices.{Made, all_made, assigns_found, dimensions_made, made_of, made_or_refused, matrix_assigned, numbers_made, refusal, shape_with, unless_refused_first}
use Rattle.b2_stmt_mat.specs.Plan.{Changes, changes, does, ends, finish, is_refused, left_out, plan, works}
use Rattle.b2_stmt_mat.specs.Redimensioning.{redimensioned, redimensioned_in, redimensions_found}
use Rattle.b2_stmt_mat.specs.Searching.{found, given_found, search_in, searches_found}
use Rattle.b2_stmt_mat.specs.declared.byte_arrays.ArrayCopy.{ArrayCopy}
use Rattle.b2_stmt_mat.specs.declared.byte_arrays.ArrayMove.{ArrayMove}
use Rattle.b2_stmt_mat.specs.declared.byte_arrays.ArraySort.{ArraySort}
use Rattle.b2_stmt_mat.specs.declared.formulas.Formula.{Formula}
use Rattle.b2_stmt_mat.specs.declared.formulas.Formula.TheVariants as formula
use Rattle.b2_stmt_mat.specs.declared.formulas.MatrixAssignment.{MatrixAssignment}
use Rattle.b2_stmt_mat.specs.declared.redimensioning.Redimensioned.{Redimensioned}
use Rattle.b2_stmt_mat.specs.declared.searching.Search.{Search}
use Rattle.b2_stmt_file.specs.SavedNumbers.{GivesNumber, HoldsNumbers}
use Rattle.b2_stmt_file.proofs.NumbersGiven.{difference_gives, one_is_number, onwards_gives, product_gives, sum_gives}
use Rattle.b2_stmt_file.proofs.Rounded.{zero_is_number}
use Rattle.b2_sched.specs.Numbers.{FinishingHolds, GlobalsHold, PlanningHolds, PrivateHolds}
use Rattle.b2_sched.proofs.NumbersAssigned.{KeepsNumbers, WorkHolds, among_keeps, bytes_hold, bytes_keep, change_holds, reshaped_has, unless_keeps, variable_has}
use Rattle.b2_sched.proofs.NumbersFinished.{finished_holds}
use Rattle.b2_sched.proofs.NumbersPut.{Keeps, WorkingHolds, changed_holds, planned_holds, work_of_holds, works_in}

-- what is made, with its dimensions
abbrev made_with : Dimensions → List Number → Made
made_with d numbers = record { dimensions = d; numbers = numbers }

-- the arrays that are there
abbrev FamiliesHold : Families → Type 0
FamiliesHold f = HoldsNumbers f.own × HoldsNumbers f.lent

lent_or : (o : Option VarsState) (own : VarsState) → HoldsNumbers own → IfSome o HoldsNumbers → HoldsNumbers (unwrap_or o own)
lent_or None own h k = h
lent_or (Some vars) own h k = k

families_hold : (w : WorkState) → WorkHolds w → FamiliesHold (families (surroundings_of w))
families_hold w h = (h.0, lent_or w.globals.vars w.own h.0 h.1)

of_hold : (global : Bool) (f : Families) → FamiliesHold f → HoldsNumbers (vars_of global f)
of_hold true f h = h.1
of_hold false f h = h.0

cells_hold : (a : Array) (f : Families) → FamiliesHold f → All IsNumber (matrix_in a f).cells.now
cells_hold a f h = variable_has a.var (vars_of a.global f).table (of_hold a.global f h)

-- rows
abbrev RowsHold : List (List Number) → Type 0
RowsHold xss = (i : ℕ) → All IsNumber (get_or xss i [])

cut_hold : (count width : ℕ) (xs : List Number) → All IsNumber xs → RowsHold (cut_into_rows count width xs)
cut_hold zero width xs all i = All-nil IsNumber
cut_hold (suc count) width xs all zero = All-take IsNumber width xs all
cut_hold (suc count) width xs all (suc i) = cut_hold count width (drop width xs) (All-drop IsNumber width xs all) i

one_of : (xs : List Number) (j : ℕ) → All IsNumber xs → IsNumber (get_or xs j zero_number)
one_of xs j all = elim (cases_lt j (length xs)) [
  | inl below ↦ All-get_or IsNumber xs j zero_number below all
  | inr above ↦ subst IsNumber (sym (get_or_past xs j zero_number above)) zero_is_number
]

entry_is : (xss : List (List Number)) (i j : ℕ) → RowsHold xss → IsNumber (entry xss i j)
entry_is xss i j rows = one_of (matrix_row xss i) j (rows i)

-- what is made for each row and column
mapped : {X : Type 0} (P : X → Type 0) (f : ℕ → X) (ns : List ℕ) → ((n : ℕ) → P (f n)) → All P (map f ns)
mapped P f [] h = All-nil P
mapped P f (n ∷ ns) h = All-cons P (f n) (map f ns) (h n) (mapped P f ns h)

joined : {X : Type 0} (P : X → Type 0) (f : ℕ → List X) (ns : List ℕ) → ((n : ℕ) → All P (f n)) → All P (flat_map f ns)
joined P f [] h = All-nil P
joined P f (n ∷ ns) h = All-append P (f n) (flat_map f ns) (h n) (joined P f ns h)

along : {X : Type 0} (P : X → Type 0) (count width : ℕ) (f : ℕ → ℕ → X) → ((i j : ℕ) → P (f i j)) → All P (along_rows count width f)
along P count width f h = joined P (λ i. map (f i) (range_with_len 0 width)) (range_with_len 0 count) (λ i. mapped P (f i) (range_with_len 0 width) (h i))

-- results
all_made_hold : (xs : List Answer) → All GivesNumber xs → IfOk (all_made xs) (λ ys. All IsNumber ys)
all_made_hold [] all = All-nil IsNumber
all_made_hold (Ok x ∷ xs) all = by (all_made xs) (all_made_hold xs (All-tail GivesNumber (Ok x) xs all))
  where
    by : (r : Result (List Number) ℕ) → IfOk r (λ ys. All IsNumber ys) → IfOk (r >>= (λ ys. Ok (x ∷ ys))) (λ ys. All IsNumber ys)
    by (Ok ys) h = All-cons IsNumber x ys (All-head GivesNumber (Ok x) xs all) h
    by (Err code) h = tt
all_made_hold (Err code ∷ xs) all = tt

products_give : (mode : Mode) (sum : Number) (xs ys : List Number) → IsNumber sum → GivesNumber (sum_of_products mode sum xs ys)
products_give mode sum [] ys is = is
products_give mode sum (x ∷ xs) [] is = is
products_give mode sum (x ∷ xs) (y ∷ ys) is =
    onwards_gives (product_of mode x y) (λ product. onwards (sum_of mode sum product) (λ next. sum_of_products mode next xs ys)) (product_gives mode x y)
    (λ product is_product. onwards_gives (sum_of mode sum product) (λ next. sum_of_products mode next xs ys) (sum_gives mode sum product) (λ next is_next. products_give mode next xs ys is_next))

element_gives : (o : MatOp) (mode : Mode) (xss yss : List (List Number)) (i j : ℕ) → GivesNumber (combined_element o mode xss yss i j)
element_gives op.Add mode xss yss i j = sum_gives mode (entry xss i j) (entry yss i j)
element_gives op.Sub mode xss yss i j = difference_gives mode (entry xss i j) (entry yss i j)
element_gives op.Mul mode xss yss i j = products_give mode zero_number (matrix_row xss i) (array_column yss j) zero_is_number

unit_is : (b : Bool) → IsNumber (if b then one_number else zero_number)
unit_is true = one_is_number
unit_is false = zero_is_number

filling_is : (k : Fill) (i j : ℕ) → IsNumber (filling k i j)
filling_is filled_with.Con i j = one_is_number
filling_is filled_with.Zer i j = zero_is_number
filling_is filled_with.Idn i j = unit_is (i == j)

filled_hold : (b : Bool) (numbers : List Number) → All IsNumber numbers → IfOk (if b then Ok numbers else Err P44_NOT_SQUARE) (λ ys. All IsNumber ys)
filled_hold true numbers h = h
filled_hold false numbers h = tt

numbers_made_hold : (m : Formula) (d : Dimensions) (mode : Mode) (f : Families) → FamiliesHold f → IfOk (numbers_made m d mode f) (λ ys. All IsNumber ys)
numbers_made_hold (formula.Scaled k b) d mode f h =
    let a = matrix_in b f in
    all_made_hold (multiples mode k a) (along GivesNumber a.rows (column_count a) (λ i j. product_of mode k (entry (array_rows a) i j)) (λ i j. product_gives mode k (entry (array_rows a) i j)))
numbers_made_hold (formula.Transposed b) d mode f h =
    let a = matrix_in b f in
    along IsNumber (column_count a) a.rows (λ i j. entry (array_rows a) j i) (λ i j. entry_is (array_rows a) j i (cut_hold a.rows (column_count a) a.cells.now (cells_hold b f h)))
numbers_made_hold (formula.Filled k dims) d mode f h =
    filled_hold (may_fill k d.rows (columns_of d.cols)) (along_rows d.rows (columns_of d.cols) (filling k)) (along IsNumber d.rows (columns_of d.cols) (filling k) (filling_is k))
numbers_made_hold (formula.Copied b) d mode f h = cells_hold b f h
numbers_made_hold (formula.Combined o b c) d mode f h =
    let m = matrix_in b f in
    let n = matrix_in c f in
    all_made_hold (elements o mode m n) (along GivesNumber m.rows (column_count n) (combined_element o mode (array_rows m) (array_rows n)) (element_gives o mode (array_rows m) (array_rows n)))

made_first : (code : Option ℕ) (r : Result Made ℕ) → IfOk r (λ m. All IsNumber m.numbers) → IfOk (unless_refused_first code r) (λ m. All IsNumber m.numbers)
made_first None r h = h
made_first (Some code) r h = tt

with_dimensions : (r : Result (List Number) ℕ) (d : Dimensions) → IfOk r (λ ys. All IsNumber ys) → IfOk (r >>= (λ numbers. Ok (made_with d numbers))) (λ m. All IsNumber m.numbers)
with_dimensions (Ok numbers) d h = h
with_dimensions (Err code) d h = tt

made_hold : (a : MatrixAssignment) (mode : Mode) (f : Families) → FamiliesHold f → IfOk (made_of a mode f) (λ m. All IsNumber m.numbers)
made_hold a mode f h =
    let d = dimensions_made a.made_of a.to f in
    made_first (refusal a.made_of a.to f) (numbers_made a.made_of d mode f >>= (λ numbers. Ok (made_with d numbers))) (with_dimensions (numbers_made a.made_of d mode f) d (numbers_made_hold a.made_of d mode f h))

made_keeps : (v : Var) (r : Result Made ℕ) → IfOk r (λ m. All IsNumber m.numbers) → KeepsNumbers (made_or_refused v r)
made_keeps v (Ok m) is old h = change_holds v (λ x. with_numbers m.numbers (reshaped v (shape_with m.dimensions) x)) old (λ x has. is) h
made_keeps v (Err code) is old h = h

assigns_hold : (r : Result MatrixAssignment ℕ) → Keeps (assigns_found r)
assigns_hold (Ok a) w h =
    let f = families (surroundings_of w) in
    among_keeps a.to.global (matrix_assigned a w.setting.mode f) (made_keeps a.to.var (made_of a w.setting.mode f) (made_hold a w.setting.mode f (families_hold w h))) w h
assigns_hold (Err code) w h = h

-- MAT REDIM
redimensions_hold : (r : Result Redimensioned ℕ) → Keeps (redimensions_found r)
redimensions_hold (Ok r) w h =
    among_keeps r.array.global (redimensioned r)
    (λ old held. unless_keeps (redim_code r.array.var r.shape old.table) old (record { vars = with_change r.array.var (reshaped r.array.var r.shape) old; code = None }) held
    (change_holds r.array.var (reshaped r.array.var r.shape) old (reshaped_has r.array.var r.shape) held)) w h
redimensions_hold (Err code) w h = h

-- those on bytes
given_holds : (a : Search) (r : TextAnswer) → Keeps (given_found a r)
given_holds a (Ok bytes) w h = among_keeps a.to.element.global (assigned_bytes a.to bytes) (bytes_keep a.to bytes) w h
given_holds a (Err code) w h = h

searches_hold : (r : Result Search ℕ) → Keeps (searches_found r)
searches_hold (Ok a) w h = given_holds a (found a (families (surroundings_of w))) w h
searches_hold (Err code) w h = h

moves_hold : (r : Result ArrayMove ℕ) → Keeps (moves_found r)
moves_hold (Ok m) w h =
    let f = families (surroundings_of w) in
    among_keeps m.to.global (moved m f) (λ old held. bytes_hold m.to.var 0 old (bytes_moved m f) held) w h
moves_hold (Err code) w h = h

all_or_keeps : (v : Var) (r : TextAnswer) → KeepsNumbers (all_or_refused v r)
all_or_keeps v (Ok bytes) old h = bytes_hold v 0 old bytes h
all_or_keeps v (Err code) old h = h

sorts_hold : (r : Result ArraySort ℕ) → Keeps (sorts_found r)
sorts_hold (Ok m) w h =
    let f = families (surroundings_of w) in
    among_keeps m.to.global (sorted m f) (all_or_keeps m.to.var (sorted_bytes m f)) w h
sorts_hold (Err code) w h = h

copies_hold : (r : Result ArrayCopy ℕ) → Keeps (copies_found r)
copies_hold (Ok m) w h =
    let f = families (surroundings_of w) in
    among_keeps m.to.global (copied m f) (λ old held. bytes_hold m.to.var 0 old (bytes_copied m f) held) w h
copies_hold (Err code) w h = h

abbrev EachKeeps : Changes → Type 0
EachKeeps c = (t : Trees) → Keeps (c t)

changes_hold : (r : ℕ) → EachKeeps (changes r)
changes_hold r =
    either EachKeeps (r == row.MAT) _ _ (λ t w h. assigns_hold (assignment_in (context_of w) t) w h)
    (either EachKeeps (r == row.MAT_REDIM) _ _ (λ t w h. redimensions_hold (redimensioned_in (context_of w) t) w h)
    (either EachKeeps (r == row.MAT_SEARCH) _ _ (λ t w h. searches_hold (search_in (context_of w) t) w h)
    (either EachKeeps (r == row.MAT_MOVE) _ _ (λ t w h. moves_hold (move_in (context_of w) t) w h)
    (either EachKeeps (r == row.MAT_SORT) _ _ (λ t w h. sorts_hold (sort_in (context_of w) t) w h)
    (either EachKeeps (r == row.MAT_COPY) _ left_out (λ t w h. copies_hold (copy_in (context_of w) t) w h) (λ t w h. h))))))

pub arrays_plan_numbers : (me : Private) (s : SeenLent) → PrivateHolds me → GlobalsHold s.globals → PlanningHolds (plan me s)
arrays_plan_numbers me s h g =
    planned_holds me s (works me s) h g
    (each_dispatch is_refused stops (does me s) me s WorkingHolds tt tt
    (λ p is u. let w = work_in (setting_of me) s.home me.vars s.globals in changed_holds (changes u.row u.tree w) outcome.Next (work_of me) (changes_hold u.row u.tree w (works_in me s h g)) h.1))

pub arrays_finish_numbers : (x : Access) (a : AccessAnswer) (me : Private) (s : SeenLent) → PrivateHolds me → GlobalsHold s.globals → FinishingHolds (finish x a me s)
arrays_finish_numbers x a me s h g = finished_holds ends x a me s g (work_of_holds me h)
