-- An assignment changes the `@` variables only where its receiver counts as reached.
use Rattle.std.proofs.Common.{◌≡◌, ◌∙◌, ℕ, ◌==◌, ◌||◌, true, false, true≢false, List, Option, Some, None, Result, Ok, Err, ap, refl, sym}
use Rattle.b2_base.specs.declared.codes.TheConstants.{X75_NOT_DECIMAL, X76_LOCATOR_OR_FIELD}
use Rattle.b2_dec.specs.Number.{Number}
use Rattle.b2_dec.specs.declared.values.Value.{Value}
use Rattle.b2_dec.specs.declared.values.Value.TheVariants as value
use Rattle.b2_alpha.specs.Values.{padded}
use Rattle.b2_atom.specs.Tree.{Trees}
use Rattle.b2_vars.specs.Assigned.{Assigned}
use Rattle.b2_vars.specs.Calls.{set_code, with_change, with_scalar}
use Rattle.b2_vars.specs.Shapes.{cell_at}
use Rattle.b2_vars.specs.Tables.{VarsState, shape_at}
use Rattle.b2_vars.specs.Variables.{with_number}
use Rattle.b2_expr.specs.Answers.{Answer, TextAnswer}
use Rattle.b2_expr.specs.Value.{context_of}
use Rattle.b2_expr.specs.Workspace.{ChangesWhereReached, Reaches, counts_as_reached}
use Rattle.b2_expr.specs.declared.named.Element.{Element}
use Rattle.b2_expr.proofs.Reached.{among_reaches, stay}
use Rattle.b2_receiver.specs.Assigning.{assigned_bytes, assigned_number, assigned_side, assigned_value, is_global_receiver, portion_in, reached_by, receiver_code, unless_refused, with_made, with_portion}
use Rattle.b2_receiver.specs.Receivers.{alpha_receiver, number_receiver}
use Rattle.b2_receiver.specs.Receiving.{assign_bytes_at, assign_number_at, assign_side_at, bytes_to, given_bytes, given_number, given_side, given_value, number_to, side_to}
use Rattle.b2_receiver.specs.RightSide.{Side, side_made}
use Rattle.b2_receiver.specs.declared.receiver.AlphaReceiver.{AlphaReceiver}
use Rattle.b2_receiver.specs.declared.receiver.Receiver.{Receiver}
use Rattle.b2_receiver.specs.declared.receiver.Receiver.TheVariants as receiver_kind
use Rattle.b2_receiver.proofs.Reaching.{made_code}

-- a call that refuses before anything is made
pub refused_or_reached : (code : Option ℕ) (old : VarsState) (a : Assigned) → counts_as_reached a.code ≡ true → counts_as_reached (unless_refused code old a).code ≡ false → (unless_refused code old a).vars ≡ old
refused_or_reached None old a reached missed = absurd (true≢false (sym reached ∙ missed))
refused_or_reached (Some c) old a reached missed = refl

-- each kind of an assignment
pub number_where_reached : (to : Element) (x : Number) → ChangesWhereReached (assigned_number to x)
number_where_reached to x old missed =
    refused_or_reached (set_code to.var to.row to.column old) old (record { vars = with_change to.var (with_number (cell_at (shape_at to.var old.table) to.row to.column) x) (with_scalar to.var old); code = None }) refl missed

pub bytes_where_reached : (to : AlphaReceiver) (bytes : List ℕ) → ChangesWhereReached (assigned_bytes to bytes)
bytes_where_reached to bytes old missed = refused_or_reached (receiver_code to old) old (record { vars = with_portion to (reached_by to old) (padded to.portion.count bytes); code = None }) refl missed

pub value_where_reached : (to : Receiver) (x : Value) → ChangesWhereReached (assigned_value to x)
value_where_reached (receiver_kind.Number e) (value.Number x) = number_where_reached e x
value_where_reached (receiver_kind.Alpha to) (value.Alpha bytes) = bytes_where_reached to bytes
value_where_reached (receiver_kind.Number e) (value.Alpha bytes) = λ old missed. refl
value_where_reached (receiver_kind.Alpha to) (value.Number x) = λ old missed. refl

not_decimal_counts : (o : Option ℕ) → ((c : ℕ) → o ≡ Some c → c ≡ X75_NOT_DECIMAL) → counts_as_reached o ≡ true
not_decimal_counts None is = refl
not_decimal_counts (Some c) is = ap (λ (n : ℕ). n == X75_NOT_DECIMAL || n == X76_LOCATOR_OR_FIELD) (is c refl)

pub side_where_reached : (to : AlphaReceiver) (side : Side) → ChangesWhereReached (assigned_side to side)
side_where_reached to side old missed =
    let made = with_made to (reached_by to old) (side_made side (portion_in to (reached_by to old))) in
    refused_or_reached (receiver_code to old) old made (not_decimal_counts made.code (λ c is. made_code side.operations _ c is)) missed

-- one to a receiver that was located
pub given_number_reaches : (to : Element) (x : Number) → Reaches (given_number to x)
given_number_reaches to x = among_reaches to.global (assigned_number to x) (number_where_reached to x)

pub given_bytes_reaches : (to : AlphaReceiver) (bytes : List ℕ) → Reaches (given_bytes to bytes)
given_bytes_reaches to bytes = among_reaches to.element.global (assigned_bytes to bytes) (bytes_where_reached to bytes)

pub given_value_reaches : (to : Receiver) (x : Value) → Reaches (given_value to x)
given_value_reaches to x = among_reaches (is_global_receiver to) (assigned_value to x) (value_where_reached to x)

pub given_side_reaches : (to : AlphaReceiver) (side : Side) → Reaches (given_side to side)
given_side_reaches to side = among_reaches to.element.global (assigned_side to side) (side_where_reached to side)

-- and to one where it is written
number_to_reaches : (to : Result Element ℕ) (x : Answer) → Reaches (number_to to x)
number_to_reaches (Ok to) (Ok x) = given_number_reaches to x
number_to_reaches (Ok to) (Err code) = λ w. stay w.globals
number_to_reaches (Err code) x = λ w. stay w.globals

bytes_to_reaches : (to : Result AlphaReceiver ℕ) (bytes : TextAnswer) → Reaches (bytes_to to bytes)
bytes_to_reaches (Ok to) (Ok bytes) = given_bytes_reaches to bytes
bytes_to_reaches (Ok to) (Err code) = λ w. stay w.globals
bytes_to_reaches (Err code) bytes = λ w. stay w.globals

side_to_reaches : (to : Result AlphaReceiver ℕ) (side : Side) → Reaches (side_to to side)
side_to_reaches (Ok to) side = given_side_reaches to side
side_to_reaches (Err code) side = λ w. stay w.globals

pub number_at_reaches : (x : Answer) (t : Trees) → Reaches (assign_number_at x t)
number_at_reaches x t w = number_to_reaches (number_receiver (context_of w) t) x w

pub bytes_at_reaches : (bytes : TextAnswer) (t : Trees) → Reaches (assign_bytes_at bytes t)
bytes_at_reaches bytes t w = bytes_to_reaches (alpha_receiver (context_of w) t) bytes w

pub side_at_reaches : (side : Side) (t : Trees) → Reaches (assign_side_at side t)
side_at_reaches side t w = side_to_reaches (alpha_receiver (context_of w) t) side w
