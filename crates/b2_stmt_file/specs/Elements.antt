-- The elements of whole arrays, along rows.
use Rattle.std.specs.Prelude.{ℕ, suc, zero, ◌+◌, ◌/◌, ◌%◌, ◌==◌, max, List, [], ◌∷◌, ◌++◌, Result, Ok, Err, if◌then◌else◌}
use Rattle.b2_base.specs.declared.codes.TheConstants.{X72_TOO_LONG}
use Rattle.b2_dec.specs.declared.values.Value.{Value}
use Rattle.b2_dec.specs.declared.values.Value.TheVariants as value_kind
use Rattle.b2_rows.specs.declared.leaves.Name.{Name}
use Rattle.b2_vars.specs.declared.shape.Shape.{Shape}
use Rattle.b2_vars.specs.Shapes.{cells}
use Rattle.b2_vars.specs.Tables.{VarsState, shape_at}
use Rattle.b2_access.specs.Touching.{is_short}
use Rattle.b2_expr.specs.Answers.{◌>>=◌}
use Rattle.b2_expr.specs.Named.{Cell, variables_of}
use Rattle.b2_expr.specs.Scope.{Surroundings}
use Rattle.b2_expr.specs.Value.{element_number, text_of_cell}
use Rattle.b2_expr.specs.declared.named.Element.{Element}
use Rattle.b2_receiver.specs.declared.receiver.Array.{Array}
use Rattle.b2_receiver.specs.declared.receiver.Receiver.{Receiver}
use Rattle.b2_receiver.specs.declared.receiver.Receiver.TheVariants as receiver_kind

-- the row and the column of the k-th of them, counted from 0; an array of one dimension has no columns
abbrev pub row_of : Shape → ℕ → ℕ
row_of s k = k / max 1 s.cols + 1

abbrev pub column_of : Shape → ℕ → ℕ
column_of s k = if s.cols == 0 then 0 else k % max 1 s.cols + 1

-- the k-th element of an array, and where it is looked for
abbrev pub element_of : Array → Shape → ℕ → Element
element_of a s k = record { global = a.global; var = a.var; row = row_of s k; column = column_of s k }

abbrev pub cell_of : VarsState → Array → ℕ → Cell
cell_of vars a k = record { vars = vars; element = element_of a (shape_at a.var vars.table) k }

-- the value of an element, as an expression that names it has it
abbrev pub alpha_value : Cell → Result Value ℕ
alpha_value p = text_of_cell (Ok p) >>= (λ bytes. Ok (value_kind.Alpha bytes))

abbrev pub number_value : Cell → Result Value ℕ
number_value p = element_number (Ok p) >>= (λ x. Ok (value_kind.Number x))

abbrev pub value_in : Cell → Result Value ℕ
value_in p = if p.element.var.alpha then alpha_value p else number_value p

-- a value as a record may have it, X72 where it is longer
abbrev pub recorded : Value → Result (List Value) ℕ
recorded x = if is_short x then Ok (x ∷ []) else Err X72_TOO_LONG

-- values and further ones, or the first code
abbrev pub then_values : {A : Type 0} → Result (List A) ℕ → Result (List A) ℕ → Result (List A) ℕ
then_values xs more = xs >>= (λ ys. more >>= (λ zs. Ok (ys ++ zs)))

abbrev pub element_recorded : VarsState → Array → ℕ → Result (List Value) ℕ
element_recorded vars a k = value_in (cell_of vars a k) >>= recorded

-- n elements from the k-th on
abbrev pub values_from : VarsState → Array → ℕ → ℕ → Result (List Value) ℕ
values_from vars a k zero = Ok []
values_from vars a k (suc n) = then_values (element_recorded vars a k) (values_from vars a (k + 1) n)

-- all of them
abbrev pub array_values : VarsState → Array → Result (List Value) ℕ
array_values vars a = values_from vars a 0 (cells (shape_at a.var vars.table))

-- the variables among which an array is
abbrev pub name_of : Array → Name
name_of a = record { letter = a.var.letter; digit = a.var.digit; alpha = a.var.alpha; global = a.global }

abbrev pub array_variables : Surroundings → Array → Result VarsState ℕ
array_variables e a = variables_of e (name_of a)

-- the k-th element of an array as a receiver
abbrev pub receiver_of : Array → Shape → ℕ → Receiver
receiver_of a s k = if a.var.alpha then receiver_kind.Alpha (record { element = element_of a s k; portion = record { from = 0; count = s.len } }) else receiver_kind.Number (element_of a s k)
