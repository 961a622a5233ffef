-- READ: each receiver takes the next literal of the own text.
use Rattle.std.specs.Prelude.{ℕ, Bool, not, List, [], ◌∷◌, Option, None, Some, Result, Ok, Err, if◌then◌else◌}
use Rattle.b2_base.specs.declared.codes.TheConstants.{X70_TOO_LITTLE, X74_OTHER_KIND}
use Rattle.b2_dec.specs.declared.values.Value.{Value}
use Rattle.b2_atom.specs.Tree.{Trees}
use Rattle.b2_atom.specs.Tree.Trees.{Put}
use Rattle.b2_text.specs.Program.{Lines}
use Rattle.b2_text.specs.declared.spots.Spot.{Spot}
use Rattle.b2_receiver.specs.Assigning.{is_alpha_receiver}
use Rattle.b2_expr.specs.Kinds.{suits}
use Rattle.b2_receiver.specs.Receivers.{any_receiver}
use Rattle.b2_receiver.specs.Receiving.{given_value}
use Rattle.b2_expr.specs.Value.{context_of}
use Rattle.b2_expr.specs.Workspace.{WorkState, WorkLeft}
use Rattle.b2_receiver.specs.declared.receiver.Receiver.{Receiver}
use Rattle.b2_rows.specs.CommaLists.{all_listed}
use Rattle.b2_stmt_var.specs.Data.{next_literal}
use Rattle.b2_stmt_var.specs.Left.{Left, nothing_left}
use Rattle.b2_stmt_var.specs.declared.data.Literal.{Literal}

-- a literal counts as read once its receiver is assigned
abbrev pub read_up_to : Option ℕ → Spot × ℕ → Option (Spot × ℕ) → Option (Spot × ℕ)
read_up_to None after next = Some after
read_up_to (Some code) after next = next

abbrev pub read_by : WorkLeft → Spot × ℕ → Option (Spot × ℕ) → Left
read_by r after next = record { work = r.work; next = read_up_to r.code after next; code = r.code }

-- whether a literal is for a receiver: a number that is out of range is of its kind
abbrev pub is_for : Receiver → Result Value ℕ → Bool
is_for to (Ok x) = suits (is_alpha_receiver to) x
is_for to (Err code) = not (is_alpha_receiver to)

-- its value for a receiver, X74 where it is of the other kind
abbrev pub value_for : Receiver → Result Value ℕ → Result Value ℕ
value_for to x = if is_for to x then x else Err X74_OTHER_KIND

abbrev pub takes_value : Receiver → Result Value ℕ → Spot × ℕ → WorkState → Option (Spot × ℕ) → Left
takes_value to (Ok x) after w next = read_by (given_value to x w) after next
takes_value to (Err code) after w next = nothing_left code w next

-- a receiver takes a literal, X70 where there is none
abbrev pub takes_literal : Receiver → Option Literal → WorkState → Option (Spot × ℕ) → Left
takes_literal to None w next = nothing_left X70_TOO_LITTLE w next
takes_literal to (Some l) w next = takes_value to (value_for to l.value) l.after w next

-- it is located first, among the variables as they then are
abbrev pub reads_to : Result Receiver ℕ → Lines → WorkState → Option (Spot × ℕ) → Left
reads_to (Ok to) own w next = takes_literal to (next_literal own next) w next
reads_to (Err code) own w next = nothing_left code w next

abbrev pub reads_one : Lines → Trees → WorkState → Option (Spot × ℕ) → Left
reads_one own t w next = reads_to (any_receiver (context_of w) t) own w next

-- receivers from left to right, up to one with a code
abbrev pub unless_read_ended : Option ℕ → Left → (WorkState → Option (Spot × ℕ) → Left) → Left
unless_read_ended None r rest = rest r.work r.next
unless_read_ended (Some code) r rest = r

abbrev pub and_reads : Left → (WorkState → Option (Spot × ℕ) → Left) → Left
and_reads r rest = unless_read_ended r.code r rest

abbrev pub read_each : (Trees → WorkState → Option (Spot × ℕ) → Left) → List Trees → WorkState → Option (Spot × ℕ) → Left
read_each one [] w next = record { work = w; next = next; code = None }
read_each one (t ∷ ts) w next = and_reads (one t w next) (read_each one ts)

abbrev pub receivers_of : Trees → List Trees
receivers_of (Put word receivers) = all_listed receivers
receivers_of t = []

abbrev pub reads_data : Lines → Trees → WorkState → Option (Spot × ℕ) → Left
reads_data own t w next = read_each (reads_one own) (receivers_of t) w next
