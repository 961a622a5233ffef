-- What statements on arrays are for: copies that are equal, arrays transposed twice, and variables that stay.
use Rattle.std.proofs.Common.{◌≡◌, ◌≢◌, ◌<◌, ℕ, ◌*◌, max, true, false, List, length, Option, Some, None, Result, Ok, Err, refl, ap, ◌∙◌, arith}
use Rattle.std.specs.FinMap as map
use Rattle.b2_dec.specs.Number.{Number}
use Rattle.b2_vars.specs.Calls.{made, redim_code, with_change}
use Rattle.b2_vars.specs.Shapes.{scalar_shape}
use Rattle.b2_vars.specs.Tables.{IsVariable, Table, VarsState, variable_at}
use Rattle.b2_vars.specs.Variables.{VariableState, fresh, reshaped}
use Rattle.b2_vars.specs.declared.name.Var.{Var}
use Rattle.b2_vars.proofs.EntriesAsMap.{get_other}
use Rattle.b2_matrix.specs.Arrays.{array_rows, column_count, cut_into_rows}
use Rattle.b2_matrix.specs.Arrays as matrix
use Rattle.b2_expr.specs.Answers.{TextAnswer}
use Rattle.b2_alpha.specs.Values.{padded}
use Rattle.b2_receiver.specs.Assigning.{reached_by, receiver_code, unless_refused, with_portion}
use Rattle.b2_receiver.specs.declared.receiver.AlphaReceiver.{AlphaReceiver}
use Rattle.b2_stmt_mat.specs.Arrays.{matrix_of, only, own_array, with_numbers}
use Rattle.b2_stmt_mat.specs.ByteArrays.{all_or_refused, sorted_bytes}
use Rattle.b2_stmt_mat.specs.Laws.{ChangeOneArray, CopiesAreEqual, TransposingIsUndone, transposed}
use Rattle.b2_stmt_mat.specs.Searching.{found, given}
use Rattle.b2_stmt_mat.specs.Matrices.{Made, made_of, made_or_refused, refusal, shape_with, unless_refused_first}
use Rattle.b2_stmt_mat.specs.declared.formulas.Formula.TheVariants as formula
use Rattle.b2_matrix.proofs.Transposing.{transposed-transposed}
use Rattle.b2_stmt_mat.proofs.ArraysThere.{number_count, some_rows}
use Rattle.b2_stmt_mat.proofs.Written.{put_there}

-- what was made stands there, where no code came
made_there : (v : Var) (o : Option ℕ) (m : Made) (old : VarsState) → (made_or_refused v (unless_refused_first o (Ok m)) old).code ≡ None
    → variable_at v (made_or_refused v (unless_refused_first o (Ok m)) old).vars.table ≡ with_numbers m.numbers (reshaped v (shape_with m.dimensions) (variable_at v old.table))
made_there v None m old is = put_there old.table v (with_numbers m.numbers (reshaped v (shape_with m.dimensions) (variable_at v old.table)))
made_there v (Some code) m old is = cc

pub copies_are_equal : CopiesAreEqual
copies_are_equal a b mode old is =
    let m : Made = record { dimensions = record { rows = (matrix_of b old.table).rows; cols = (matrix_of b old.table).cols }; numbers = (variable_at b old.table).numbers } in
    let there = made_there a (refusal (formula.Copied (own_array b)) (own_array a) (only old)) m old is in
    record { numbers = ap (λ (x : VariableState). x.numbers) there; rows = ap (λ (x : VariableState). x.shape.rows) there; cols = ap (λ (x : VariableState). x.shape.cols) there }

-- other variables
put_elsewhere : (v other : Var) (x : VariableState) (t : Table) → other ≢ v → map.get (map.insert t v x) other ≡ map.get t other
put_elsewhere v other x t apart = get_other t v other x apart

made_elsewhere : (v other : Var) (r : Result Made ℕ) (old : VarsState) → other ≢ v → map.get (made_or_refused v r old).vars.table other ≡ map.get old.table other
made_elsewhere v other (Ok m) old apart = put_elsewhere v other _ old.table apart
made_elsewhere v other (Err code) old apart = refl

kept_elsewhere : (v other : Var) (o : Option ℕ) (change : VariableState → VariableState) (old : VarsState) → other ≢ v
    → map.get (unless_refused o old (record { vars = with_change v change old; code = None })).vars.table other ≡ map.get old.table other
kept_elsewhere v other None change old apart = put_elsewhere v other _ old.table apart
kept_elsewhere v other (Some code) change old apart = refl

all_elsewhere : (v other : Var) (bytes : TextAnswer) (old : VarsState) → other ≢ v → map.get (all_or_refused v bytes old).vars.table other ≡ map.get old.table other
all_elsewhere v other (Ok bytes) old apart = put_elsewhere v other _ old.table apart
all_elsewhere v other (Err code) old apart = refl

-- a search puts what it finds into its receiver alone, which is made where it isn't there
new_elsewhere : (v other : Var) (o : Option VariableState) (x : VariableState) (t : Table) → other ≢ v → map.get (made o v x t) other ≡ map.get t other
new_elsewhere v other None x t apart = put_elsewhere v other x t apart
new_elsewhere v other (Some y) x t apart = refl

portion_elsewhere : (to : AlphaReceiver) (other : Var) (o : Option ℕ) (bytes : List ℕ) (old : VarsState) → other ≢ to.element.var
    → map.get (unless_refused o old (record { vars = with_portion to (reached_by to old) bytes; code = None })).vars.table other ≡ map.get old.table other
portion_elsewhere to other None bytes old apart =
    let v : Var = to.element.var in
    put_elsewhere v other _ (reached_by to old).table apart ∙ new_elsewhere v other (map.get old.table v) (fresh v (scalar_shape v) false) old.table apart
portion_elsewhere to other (Some code) bytes old apart = refl

given_elsewhere : (to : AlphaReceiver) (other : Var) (bytes : TextAnswer) (old : VarsState) → other ≢ to.element.var → map.get (given to bytes old).vars.table other ≡ map.get old.table other
given_elsewhere to other (Ok bytes) old apart = portion_elsewhere to other (receiver_code to old) (padded to.portion.count bytes) old apart
given_elsewhere to other (Err code) old apart = refl

pub change_one_array : ChangeOneArray
change_one_array = record {
  assignments = λ a mode f old other apart. made_elsewhere a.to.var other (made_of a mode f) old apart;
  redimensions = λ r old other apart. kept_elsewhere r.array.var other (redim_code r.array.var r.shape old.table) (reshaped r.array.var r.shape) old apart;
  moves = λ m f old other apart. put_elsewhere m.to.var other _ old.table apart;
  sorts = λ m f old other apart. all_elsewhere m.to.var other (sorted_bytes m f) old apart;
  copies = λ m f old other apart. put_elsewhere m.to.var other _ old.table apart;
  searches = λ a f old other apart. given_elsewhere a.to other (found a f) old apart;
}

-- an array transposed twice
abbrev turned : VariableState → List Number
turned x = matrix.transposed x.shape.rows (max 1 x.shape.cols) (cut_into_rows x.shape.rows (max 1 x.shape.cols) x.numbers)

back_again : (a : Var) (x y : VariableState) → IsVariable a x → a.alpha ≡ false → a.array ≡ true → y.shape.rows ≡ max 1 x.shape.cols → y.shape.cols ≡ x.shape.rows → y.numbers ≡ turned x → turned y ≡ x.numbers
back_again a x y is number array rows cols numbers =
    let some : 0 < x.shape.rows = some_rows a x.shape array is.dimensions in
    let width : max 1 y.shape.cols ≡ x.shape.rows = ap (λ (n : ℕ). max 1 n) cols ∙ (let e : max 1 x.shape.rows ≡ x.shape.rows = omega (arith, some) in e) in
    let whole : length x.numbers ≡ x.shape.rows * max 1 x.shape.cols = number_count a x number is ∙ ap (λ (n : ℕ). n * max 1 x.shape.cols) (let e : max 1 x.shape.rows ≡ x.shape.rows = omega (arith, some) in e) in
    ap (λ (n : ℕ). matrix.transposed n (max 1 y.shape.cols) (cut_into_rows n (max 1 y.shape.cols) y.numbers)) rows
    ∙ ap (λ (n : ℕ). matrix.transposed (max 1 x.shape.cols) n (cut_into_rows (max 1 x.shape.cols) n y.numbers)) width
    ∙ ap (λ (ns : List Number). matrix.transposed (max 1 x.shape.cols) x.shape.rows (cut_into_rows (max 1 x.shape.cols) x.shape.rows ns)) numbers
    ∙ transposed-transposed x.shape.rows (max 1 x.shape.cols) x.numbers whole

abbrev turned_of : Var → Table → Made
turned_of a t = record { dimensions = record { rows = column_count (matrix_of a t); cols = (matrix_of a t).rows }; numbers = turned (variable_at a t) }

pub transposing_is_undone : TransposingIsUndone
transposing_is_undone a b c mode old is variable first second =
    let there = made_there b (refusal (formula.Transposed (own_array a)) (own_array b) (only old)) (turned_of a old.table) old first in
    let again = made_there c (refusal (formula.Transposed (own_array b)) (own_array c) (only (transposed b a mode old).vars)) (turned_of b (transposed b a mode old).vars.table) (transposed b a mode old).vars second in
    ap (λ (x : VariableState). x.numbers) again
    ∙ back_again a (variable_at a old.table) (variable_at b (transposed b a mode old).vars.table) variable is.kind is.array (ap (λ (x : VariableState). x.shape.rows) there) (ap (λ (x : VariableState). x.shape.cols) there) (ap (λ (x : VariableState). x.numbers) there)
