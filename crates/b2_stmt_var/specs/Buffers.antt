-- INIT, ROTATE and ROTATEC: bytes that are changed in their place.
use Rattle.std.specs.Prelude.{ℕ, ◌==◌, ◌&&◌, ℤ, pos, negsuc, int_le, List, [], length, replicate, Option, None, Some, Result, Ok, Err, if◌then◌else◌}
use Rattle.b2_base.specs.declared.codes.TheConstants.{P34_RANGE, S20_VARIABLE}
use Rattle.b2_alpha.specs.Bits.{rotated}
use Rattle.b2_atom.specs.Tokens.Token.{Plain}
use Rattle.b2_atom.specs.Tree.{Trees}
use Rattle.b2_atom.specs.Tree.Trees.{Put, In}
use Rattle.b2_atom.specs.declared.words.TheConstants as word
use Rattle.b2_rows.specs.Links.{token_code}
use Rattle.b2_rows.specs.Values.{hex_byte_of}
use Rattle.b2_expr.specs.Answers.{◌>>=◌}
use Rattle.b2_receiver.specs.Assigning.{bytes_changed, is_global_buffer}
use Rattle.b2_expr.specs.Functions.{fixed}
use Rattle.b2_receiver.specs.Receivers.{alpha_receiver, buffer}
use Rattle.b2_expr.specs.Scope.{Context}
use Rattle.b2_expr.specs.Value.{context_of, value}
use Rattle.b2_expr.specs.Workspace.{WorkState, WorkLeft, among, refused}
use Rattle.b2_expr.specs.declared.operators.Level.TheVariants as level
use Rattle.b2_receiver.specs.declared.receiver.Buffer.{Buffer}
use Rattle.b2_receiver.specs.declared.receiver.Buffer.TheVariants as buffer_kind
use Rattle.b2_stmt_var.specs.Assignments.{assign_each}
use Rattle.b2_rows.specs.CommaLists.{all_listed}
use Rattle.b2_stmt_var.specs.declared.buffers.Turn.{Turn}

-- each byte becomes the same
abbrev pub all_filled : ℕ → List ℕ → List ℕ
all_filled b bytes = replicate (length bytes) b

-- INIT: the byte between the parentheses, and the buffers that are filled with it
abbrev pub byte_of_init : Trees → ℕ
byte_of_init (Put word (In n (Put (Plain k pair) end) more)) = hex_byte_of pair
byte_of_init t = 0

abbrev pub buffers_of_init : Trees → List Trees
buffers_of_init (Put word (In n pair (Put closing buffers))) = all_listed buffers
buffers_of_init t = []

abbrev pub fills : ℕ → Result Buffer ℕ → WorkState → WorkLeft
fills b (Ok to) w = among (is_global_buffer to) (bytes_changed (all_filled b) to) w
fills b (Err code) w = refused code w

abbrev pub fills_one : ℕ → Trees → WorkState → WorkLeft
fills_one b t w = fills b (buffer (context_of w) t) w

-- they are filled from left to right, each among the variables as they then are
abbrev pub inits : Trees → WorkState → WorkLeft
inits t w = assign_each (fills_one (byte_of_init t)) (buffers_of_init t) w

-- by how many bits bytes turn left, below zero right: a number without its fraction from -8 to 8, and P34 where it isn't
abbrev pub bits_in : Option ℤ → Result ℤ ℕ
bits_in None = Err P34_RANGE
bits_in (Some n) = if int_le (negsuc 7) n && int_le n (pos 8) then Ok n else Err P34_RANGE

-- ROTATE turns each byte, ROTATEC all of them as one: the receiver first, and then by how many bits
unfoldable pub turn_in : Context → Trees → Result Turn ℕ
turn_in s (Put rotate (In n (In m receiver (Put comma (In k sum end))) close)) =
    alpha_receiver s receiver >>= (λ to. value s level.Sum sum >>= (λ x. bits_in (fixed x) >>= (λ bits. Ok (record { to = to; whole = token_code rotate == word.ROTATEC_OPEN; bits = bits }))))
turn_in s t = Err S20_VARIABLE

abbrev pub turns : Result Turn ℕ → WorkState → WorkLeft
turns (Ok turn) w = among turn.to.element.global (bytes_changed (rotated turn.whole turn.bits) (buffer_kind.Value turn.to)) w
turns (Err code) w = refused code w

abbrev pub rotates : Trees → WorkState → WorkLeft
rotates t w = turns (turn_in (context_of w) t) w
