-- CONVERT: a number into an image, and bytes into a number.
use Rattle.std.specs.Prelude.{ℕ, ◌==◌, List, Ok, Err, if◌then◌else◌}
use Rattle.b2_base.specs.declared.codes.TheConstants.{S17_NUMERIC}
use Rattle.b2_atom.specs.Tokens.Token.{Plain}
use Rattle.b2_atom.specs.Tree.{Trees}
use Rattle.b2_atom.specs.Tree.Trees.{Put, In}
use Rattle.b2_rows.specs.Values.{image_of}
use Rattle.b2_expr.specs.Answers.{Answer, TextAnswer}
use Rattle.b2_expr.specs.Value.{context_of, text, value}
use Rattle.b2_expr.specs.Workspace.{WorkState, WorkLeft, refused}
use Rattle.b2_expr.specs.declared.operators.Level.TheVariants as level
use Rattle.b2_print.specs.Imaged.{converted}
use Rattle.b2_receiver.specs.Receiving.{assign_bytes_at, assign_number_at}
use Rattle.b2_stmt_io.specs.TypedText.{typed_number}

-- bytes for a numeric receiver
abbrev pub number_from : TextAnswer → Trees → WorkState → WorkLeft
number_from (Ok bytes) receiver w = assign_number_at (typed_number bytes) receiver w
number_from (Err code) receiver w = refused code w

-- a number for an alpha receiver, by an image
abbrev pub image_from : Answer → List ℕ → Trees → WorkState → WorkLeft
image_from (Ok x) image receiver w = assign_bytes_at (converted image x) receiver w
image_from (Err code) image receiver w = refused code w

abbrev pub converts_bytes : Trees → WorkState → WorkLeft
converts_bytes (In n bytes (Put to (In m receiver end))) w = number_from (text (context_of w) bytes) receiver w
converts_bytes t w = refused S17_NUMERIC w

abbrev pub converts_number : Trees → WorkState → WorkLeft
converts_number (In n x (Put to (In m receiver (Put comma (Put opening (Put (Plain k image) end)))))) w =
    image_from (value (context_of w) level.Sum x) (image_of image) receiver w
converts_number t w = refused S17_NUMERIC w

-- the operand first, then the receiver's own codes, then those of what it takes
abbrev pub converts : Trees → WorkState → WorkLeft
converts (Put word (In n t end)) w = if n == 1 then converts_bytes t w else converts_number t w
converts t w = refused S17_NUMERIC w
