-- Receivers take what they are given, also at the place where they are written, and how that ends.
use Rattle.std.specs.Prelude.{ℕ, List, Result, Ok, Err}
use Rattle.b2_dec.specs.Number.{Number}
use Rattle.b2_dec.specs.declared.values.Value.{Value}
use Rattle.b2_atom.specs.Tree.{Trees}
use Rattle.b2_expr.specs.Answers.{Answer, TextAnswer}
use Rattle.b2_receiver.specs.Assigning.{assigned_bytes, assigned_number, assigned_side, assigned_value, is_global_receiver}
use Rattle.b2_receiver.specs.Receivers.{alpha_receiver, number_receiver}
use Rattle.b2_receiver.specs.RightSide.{Side}
use Rattle.b2_expr.specs.Value.{context_of}
use Rattle.b2_expr.specs.Workspace.{WorkState, WorkLeft, among, refused}
use Rattle.b2_expr.specs.declared.named.Element.{Element}
use Rattle.b2_receiver.specs.declared.receiver.AlphaReceiver.{AlphaReceiver}
use Rattle.b2_receiver.specs.declared.receiver.Receiver.{Receiver}

-- a number, bytes, a value or the right side of an alpha assignment, among the `@` variables or the own
abbrev pub given_number : Element → Number → WorkState → WorkLeft
given_number to x w = among to.global (assigned_number to x) w

abbrev pub given_bytes : AlphaReceiver → List ℕ → WorkState → WorkLeft
given_bytes to bytes w = among to.element.global (assigned_bytes to bytes) w

abbrev pub given_value : Receiver → Value → WorkState → WorkLeft
given_value to x w = among (is_global_receiver to) (assigned_value to x) w

abbrev pub given_side : AlphaReceiver → Side → WorkState → WorkLeft
given_side to side w = among to.element.global (assigned_side to side) w

-- a receiver that was located, and what it takes: its own code comes before that of what it takes
abbrev pub number_to : Result Element ℕ → Answer → WorkState → WorkLeft
number_to (Ok to) (Ok x) w = given_number to x w
number_to (Ok to) (Err code) w = refused code w
number_to (Err code) x w = refused code w

abbrev pub bytes_to : Result AlphaReceiver ℕ → TextAnswer → WorkState → WorkLeft
bytes_to (Ok to) (Ok bytes) w = given_bytes to bytes w
bytes_to (Ok to) (Err code) w = refused code w
bytes_to (Err code) bytes w = refused code w

abbrev pub side_to : Result AlphaReceiver ℕ → Side → WorkState → WorkLeft
side_to (Ok to) side w = given_side to side w
side_to (Err code) side w = refused code w

-- a receiver is located among the variables as they are
abbrev pub assign_number_at : Answer → Trees → WorkState → WorkLeft
assign_number_at x t w = number_to (number_receiver (context_of w) t) x w

abbrev pub assign_bytes_at : TextAnswer → Trees → WorkState → WorkLeft
assign_bytes_at bytes t w = bytes_to (alpha_receiver (context_of w) t) bytes w

abbrev pub assign_side_at : Side → Trees → WorkState → WorkLeft
assign_side_at side t w = side_to (alpha_receiver (context_of w) t) side w
