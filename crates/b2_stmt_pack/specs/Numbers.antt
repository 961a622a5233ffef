-- PACK and UNPACK: numbers side by side, by an image.
use Rattle.std.specs.Prelude.{ℕ, List, [], length, is_some, Result, Err, if◌then◌else◌}
use Rattle.b2_base.specs.declared.codes.TheConstants.{P58_SPECIFICATION, S20_VARIABLE}
use Rattle.b2_dec.specs.Number.{Number}
use Rattle.b2_atom.specs.Tokens.Token.{Plain}
use Rattle.b2_atom.specs.Tree.{Trees}
use Rattle.b2_atom.specs.Tree.Trees.{Put, In}
use Rattle.b2_rows.specs.CommaLists.{all_listed}
use Rattle.b2_rows.specs.Values.{image_of}
use Rattle.b2_vars.specs.Assigned.{Assigned}
use Rattle.b2_vars.specs.Tables.{VarsState}
use Rattle.b2_pack.specs.Images.{image_row}
use Rattle.b2_pack.specs.Packing.{image_code, with_image}
use Rattle.b2_pack.specs.Unpacking.{numbers_by_rows}
use Rattle.b2_expr.specs.Scope.{Context}
use Rattle.b2_expr.specs.Value.{context_of}
use Rattle.b2_expr.specs.Workspace.{WorkState, WorkLeft, refused, surroundings_of}
use Rattle.b2_receiver.specs.Receivers.{buffer}
use Rattle.b2_receiver.specs.declared.receiver.Buffer.{Buffer}
use Rattle.b2_stmt_pack.specs.Buffers.{packed_by, packs_to, read_from}
use Rattle.b2_stmt_pack.specs.Lists.{all_taken, each_of, number_of, takes_number}

-- the image, the buffer, and the numbers or the receivers
abbrev pub image_in : Trees → List ℕ
image_in (Put word (Put (Plain k image) more)) = image_of image
image_in t = []

abbrev pub buffer_in : Context → Trees → Result Buffer ℕ
buffer_in s (Put word (Put image (In n of more))) = buffer s of
buffer_in s t = Err S20_VARIABLE

abbrev pub items_in : Trees → List Trees
items_in (Put word (Put image (In n of (Put link items)))) = all_listed items
items_in t = []

-- numbers at the front of a buffer
abbrev pub numbers_packed : List ℕ → List Number → Buffer → VarsState → Assigned
numbers_packed image xs to old = packed_by (image_code (image_row image) xs) (with_image (image_row image) xs) to old

-- PACK: P58 comes before the codes of all operands; then come the buffer and the numbers, and then X70 and X71
abbrev pub packs_by : List ℕ → Result Buffer ℕ → List Trees → WorkState → WorkLeft
packs_by image to items w =
    if is_some (image_row image) then packs_to (numbers_packed image) to (each_of (number_of (context_of w)) items) w else refused P58_SPECIFICATION w

abbrev pub packs : Trees → WorkState → WorkLeft
packs t w = packs_by (image_in t) (buffer_in (context_of w) t) (items_in t) w

-- UNPACK: P58, the buffer, and X70 and X75 of all numbers; then each receiver takes its number
abbrev pub unpacks_by : List ℕ → Result Buffer ℕ → List Trees → WorkState → WorkLeft
unpacks_by image of items w =
    if is_some (image_row image) then all_taken takes_number items (read_from (numbers_by_rows (image_row image) (length items)) of (surroundings_of w)) w
    else refused P58_SPECIFICATION w

abbrev pub unpacks : Trees → WorkState → WorkLeft
unpacks t w = unpacks_by (image_in t) (buffer_in (context_of w) t) (items_in t) w
