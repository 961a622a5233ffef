-- What assigning to a receiver makes of the variables among which it is.
use Rattle.std.specs.Borrow.{Bor}
use Rattle.std.specs.Prelude.{◌≡◌, ℕ, ◌==◌, Bool, true, false, List, length, take, drop, Option, Some, None, Result, Ok, Err}
use Rattle.b2_base.specs.declared.codes.Fault.{Fault}
use Rattle.b2_base.specs.declared.codes.Fault.TheVariants as fault
use Rattle.b2_base.specs.declared.codes.TheConstants.{X75_NOT_DECIMAL}
use Rattle.b2_dec.specs.Number.{Number}
use Rattle.b2_dec.specs.declared.values.Value.{Value}
use Rattle.b2_dec.specs.declared.values.Value.TheVariants as value
use Rattle.b2_alpha.specs.Values.{padded}
use Rattle.b2_vars.specs.Assigned.{Assigned}
use Rattle.b2_vars.specs.Calls.{set_code, part_code, missing_code, part_place, with_scalar, with_change, with_bytes_of, IsPart, ChangesPart}
use Rattle.b2_vars.specs.Shapes.{cell_at}
use Rattle.b2_vars.specs.Tables.{VarsState, shape_at, variable_at}
use Rattle.b2_vars.specs.Variables.{bytes_from, with_number}
use Rattle.b2_expr.specs.Answers.{TextAnswer, ◌>>=◌, unless}
use Rattle.b2_expr.specs.Named.{bytes_there}
use Rattle.b2_expr.specs.declared.named.Element.{Element}
use Rattle.b2_receiver.specs.declared.receiver.AlphaReceiver.{AlphaReceiver}
use Rattle.b2_receiver.specs.declared.receiver.Receiver.{Receiver}
use Rattle.b2_receiver.specs.declared.receiver.Receiver.TheVariants as receiver_kind
use Rattle.b2_receiver.specs.declared.receiver.Buffer.{Buffer}
use Rattle.b2_receiver.specs.declared.receiver.Buffer.TheVariants as buffer_kind
use Rattle.b2_receiver.specs.RightSide.{Side, SideResult, side_made}

-- whether a receiver takes bytes, and whether it is among the `@` variables
abbrev pub is_alpha_receiver : Receiver → Bool
is_alpha_receiver (receiver_kind.Number e) = false
is_alpha_receiver (receiver_kind.Alpha to) = true

abbrev pub is_global_receiver : Receiver → Bool
is_global_receiver (receiver_kind.Number e) = e.global
is_global_receiver (receiver_kind.Alpha to) = to.element.global

abbrev pub is_global_buffer : Buffer → Bool
is_global_buffer (buffer_kind.Value to) = to.element.global
is_global_buffer (buffer_kind.Array a) = a.global

-- nothing is assigned, for a code
abbrev pub unassigned : ℕ → VarsState → Assigned
unassigned code vars = record { vars = vars; code = Some code }

-- with a code of the receiver nothing changes
abbrev pub unless_refused : Option ℕ → VarsState → Assigned → Assigned
unless_refused None old assigned = assigned
unless_refused (Some code) old assigned = unassigned code old

-- a number in its place; a scalar that isn't there is made
abbrev pub assigned_number : Element → Number → VarsState → Assigned
assigned_number to x old =
    unless_refused (set_code to.var to.row to.column old) old
    (record { vars = with_change to.var (with_number (cell_at (shape_at to.var old.table) to.row to.column) x) (with_scalar to.var old); code = None })

-- the bytes that an alpha receiver names, and the variables with others there
abbrev pub portion_in : AlphaReceiver → VarsState → List ℕ
portion_in to s =
    bytes_from (part_place to.element.var to.element.row to.element.column to.portion.from s.table) to.portion.count (variable_at to.element.var s.table).bytes

abbrev pub with_portion : AlphaReceiver → VarsState → List ℕ → VarsState
with_portion to s bytes = with_bytes_of to.element.var (part_place to.element.var to.element.row to.element.column to.portion.from s.table) s bytes

-- the variables in which an alpha receiver is there
abbrev pub reached_by : AlphaReceiver → VarsState → VarsState
reached_by to old = with_scalar to.element.var old

-- it has the bytes that are named
abbrev pub IsThere : AlphaReceiver → VarsState → Type 0
IsThere to s = IsPart to.element.var to.element.row to.element.column to.portion.from to.portion.count s.table

abbrev pub receiver_code : AlphaReceiver → VarsState → Option ℕ
receiver_code to old = part_code to.element.var to.element.row to.element.column to.portion.from to.portion.count old

-- bytes, padded with blanks or cut
abbrev pub assigned_bytes : AlphaReceiver → List ℕ → VarsState → Assigned
assigned_bytes to bytes old =
    unless_refused (receiver_code to old) old (record { vars = with_portion to (reached_by to old) (padded to.portion.count bytes); code = None })

-- a value of the receiver's kind
abbrev pub assigned_value : Receiver → Value → VarsState → Assigned
assigned_value (receiver_kind.Number e) (value.Number x) old = assigned_number e x old
assigned_value (receiver_kind.Alpha to) (value.Alpha bytes) old = assigned_bytes to bytes old
assigned_value to x old = record { vars = old; code = None }

-- the right side of an alpha assignment: what was made before an operation refuses is kept
abbrev pub with_made : AlphaReceiver → VarsState → SideResult → Assigned
with_made to s m = record { vars = with_portion to s m.bytes; code = m.code }

abbrev pub assigned_side : AlphaReceiver → Side → VarsState → Assigned
assigned_side to side old = unless_refused (receiver_code to old) old (with_made to (reached_by to old) (side_made side (portion_in to (reached_by to old))))

-- how an assignment ends; where memory fails nothing changes
abbrev pub Ends : Assigned → VarsState → VarsState → Result (Unit {0}) Fault → Type 0
Ends assigned old new (Ok done) = (assigned.code ≡ None) × (new ≡ assigned.vars)
Ends assigned old new (Err (fault.Code code)) = (assigned.code ≡ Some code) × (new ≡ assigned.vars)
Ends assigned old new (Err fault.NoMemory) = new ≡ old

-- a change of variables that ends so wherever it is made
abbrev pub AssignsAs : (VarsState → Assigned) → (VarsState → Result (Unit {0}) Fault → VarsState → Type 0) → Type 0
AssignsAs does changes = (old : VarsState) (r : Result (Unit {0}) Fault) (new : VarsState) → changes old r new → Ends (does old) old new r

-- whether a receiver counts as reached: where there was no code, and where an operation refused
abbrev pub is_refusal : Fault → Bool
is_refusal (fault.Code code) = code == X75_NOT_DECIMAL
is_refusal fault.NoMemory = false

abbrev pub is_reached : Result (Unit {0}) Fault → Bool
is_reached (Ok done) = true
is_reached (Err f) = is_refusal f

-- the bytes of a buffer; those of a scalar that isn't there are blanks
abbrev pub value_bytes : AlphaReceiver → VarsState → TextAnswer
value_bytes to s = bytes_there (record { vars = s; element = to.element }) >>= (λ bytes. Ok (take to.portion.count (drop to.portion.from bytes)))

abbrev pub buffer_bytes : Buffer → VarsState → TextAnswer
buffer_bytes (buffer_kind.Value to) s = value_bytes to s
buffer_bytes (buffer_kind.Array a) s = unless (missing_code a.var s.table) (variable_at a.var s.table).bytes

-- bytes that are lent, or a code
abbrev pub LendsOr : TextAnswer → Result (Bor (List ℕ)) ℕ → Type 0
LendsOr answer (Ok bytes) = answer ≡ Ok bytes.now
LendsOr answer (Err code) = answer ≡ Err code

-- the code of a buffer that is changed, and what becomes of its bytes, which the relation allows
abbrev pub buffer_code : Buffer → VarsState → Option ℕ
buffer_code (buffer_kind.Value to) old = receiver_code to old
buffer_code (buffer_kind.Array a) old = missing_code a.var old.table

abbrev pub ChangesBuffer : (List ℕ → List ℕ → Type 0) → Buffer → VarsState → VarsState → Type 0
ChangesBuffer gives (buffer_kind.Value to) old new =
    ChangesPart gives to.element.var (part_place to.element.var to.element.row to.element.column to.portion.from (reached_by to old).table) to.portion.count (reached_by to old) new
ChangesBuffer gives (buffer_kind.Array a) old new = ChangesPart gives a.var 0 (length (variable_at a.var old.table).bytes) old new

-- the bytes that a buffer names are changed; a scalar that isn't there is made first
abbrev pub with_changed : (List ℕ → List ℕ) → Buffer → VarsState → VarsState
with_changed change (buffer_kind.Value to) old = with_portion to (reached_by to old) (change (portion_in to (reached_by to old)))
with_changed change (buffer_kind.Array a) old = with_bytes_of a.var 0 old (change (variable_at a.var old.table).bytes)

-- or nothing is, where it has a code
abbrev pub bytes_changed : (List ℕ → List ℕ) → Buffer → VarsState → Assigned
bytes_changed change to old = unless_refused (buffer_code to old) old (record { vars = with_changed change to old; code = None })

-- how an assignment ended: without a code, or with one; where memory failed it did not
abbrev pub HasCode : Fault → Option ℕ → Type 0
HasCode (fault.Code c) code = code ≡ Some c
HasCode fault.NoMemory code = ⊥

abbrev pub EndsWith : Result (Unit {0}) Fault → Option ℕ → Type 0
EndsWith (Ok done) code = code ≡ None
EndsWith (Err f) code = HasCode f code
