-- $PACK and $UNPACK: values in the fields of a specification.
use Rattle.std.specs.Prelude.{ℕ, List, [], map, Result, Ok, Err, if◌then◌else◌}
use Rattle.b2_base.specs.declared.codes.TheConstants.{P58_SPECIFICATION, S20_VARIABLE, S22_WORD}
use Rattle.b2_dec.specs.declared.values.Value.{Value}
use Rattle.b2_atom.specs.Tree.{Trees}
use Rattle.b2_atom.specs.Tree.Trees.{Put, In}
use Rattle.b2_rows.specs.CommaLists.{all_listed}
use Rattle.b2_vars.specs.Assigned.{Assigned}
use Rattle.b2_vars.specs.Tables.{VarsState}
use Rattle.b2_pack.specs.Packing.{fields_code, placed_fields, with_values}
use Rattle.b2_pack.specs.Specification.{is_specification}
use Rattle.b2_pack.specs.Unpacking.{fields_in}
use Rattle.b2_expr.specs.Answers.{TextAnswer, ◌>>=◌}
use Rattle.b2_expr.specs.Scope.{Context}
use Rattle.b2_expr.specs.Value.{context_of}
use Rattle.b2_expr.specs.Workspace.{WorkState, WorkLeft, refused, surroundings_of}
use Rattle.b2_receiver.specs.Assigning.{value_bytes}
use Rattle.b2_receiver.specs.Receivers.{alpha_receiver, buffer}
use Rattle.b2_receiver.specs.declared.receiver.Buffer.{Buffer}
use Rattle.b2_receiver.specs.declared.receiver.Buffer.TheVariants as buffer_kind
use Rattle.b2_stmt_pack.specs.Buffers.{buffer_variables, packed_by, packs_to, read_from}
use Rattle.b2_stmt_pack.specs.Lists.{all_taken, each_of, kind_of, takes_value, value_of}

-- the specification is all bytes that its variable names
abbrev pub bytes_of_fields : Context → Trees → TextAnswer
bytes_of_fields s (In n (Put f (Put equals (In k variable end))) more) = alpha_receiver s variable >>= (λ of. buffer_variables s.around (buffer_kind.Value of) >>= (λ vars. value_bytes of vars))
bytes_of_fields s t = Err S22_WORD

abbrev pub specification_in : Context → Trees → TextAnswer
specification_in s (Put word (In n fields more)) = bytes_of_fields s fields
specification_in s t = Err S22_WORD

-- the buffer, and the values or the receivers
abbrev pub buffer_in : Context → Trees → Result Buffer ℕ
buffer_in s (Put word (In n fields (Put closing (In m of more)))) = buffer s of
buffer_in s t = Err S20_VARIABLE

abbrev pub items_in : Trees → List Trees
items_in (Put word (In n fields (Put closing (In m of (Put link items))))) = all_listed items
items_in t = []

-- values in fields of a buffer
abbrev pub values_packed : List ℕ → List Value → Buffer → VarsState → Assigned
values_packed spec vs to old = packed_by (fields_code spec vs) (with_values (placed_fields spec) vs) to old

-- $PACK: the codes of the specification's own variable come first, then P58; then the buffer and the values, and then X70,
-- X74 and X71
abbrev pub packs_by : TextAnswer → Result Buffer ℕ → List Trees → WorkState → WorkLeft
packs_by (Ok spec) to items w =
    if is_specification spec then packs_to (values_packed spec) to (each_of (value_of (context_of w)) items) w else refused P58_SPECIFICATION w
packs_by (Err code) to items w = refused code w

abbrev pub packs : Trees → WorkState → WorkLeft
packs t w = packs_by (specification_in (context_of w) t) (buffer_in (context_of w) t) (items_in t) w

-- $UNPACK: as many values as there are receivers, of their kinds, are all read first; then each receiver takes its own
abbrev pub unpacks_by : TextAnswer → Result Buffer ℕ → List Trees → WorkState → WorkLeft
unpacks_by (Ok spec) of items w =
    if is_specification spec then all_taken takes_value items (read_from (fields_in spec (map kind_of items)) of (surroundings_of w)) w else refused P58_SPECIFICATION w
unpacks_by (Err code) of items w = refused code w

abbrev pub unpacks : Trees → WorkState → WorkLeft
unpacks t w = unpacks_by (specification_in (context_of w) t) (buffer_in (context_of w) t) (items_in t) w
