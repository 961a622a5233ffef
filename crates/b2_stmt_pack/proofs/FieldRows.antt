-- $PACK and $UNPACK, by their rows.
use Rattle.std.proofs.Common.{◌≡◌, ◌≤◌, ℕ, Bool, true, false, List, [], ◌∷◌, drop, take, length, map, Ok, Err, if◌then◌else◌, refl, sym, ap, subst, ◌∙◌, arith}
use Rattle.std.proofs.lemmas.List.{length-take}
use Rattle.b2_base.specs.Byte as byte
use Rattle.b2_base.specs.declared.codes.TheConstants.{P58_SPECIFICATION, S11_CLOSE, S12_EQUALS, S22_WORD}
use Rattle.b2_atom.specs.Words.{Text}
use Rattle.b2_atom.specs.Tree.{Trees}
use Rattle.b2_atom.specs.Grammar.{row_items, starts}
use Rattle.b2_atom.specs.declared.words.Origin.TheVariants.{Atoms}
use Rattle.b2_atom.specs.declared.words.TheConstants as word
use Rattle.b2_atom.specs.declared.rows.TheConstants as row
use Rattle.b2_atom.specs.declared.forms.Start.TheVariants as start
use Rattle.b2_atom.specs.declared.forms.Item.{Item}
use Rattle.b2_atom.specs.declared.forms.Item.TheVariants.{Word, Sign, LeftOut, Nest, Part, Either, Many}
use Rattle.b2_rows.specs.Choices.{ReadAs, second_branch}
use Rattle.b2_rows.specs.CommaLists.{commas}
use Rattle.b2_rows.specs.Rows.{is_phrase, tree_at, after_phrase, is_list}
use Rattle.b2_rows.proofs.Choices.{either_first, either_second}
use Rattle.b2_rows.proofs.RowsRead.{stands_of}
use Rattle.b2_vars.specs.Tables.{VarsState}
use Rattle.b2_expr.specs.Answers.{TextAnswer, ◌>>=◌}
use Rattle.b2_expr.specs.Named.{bytes_there}
use Rattle.b2_expr.specs.Scope.{Context}
use Rattle.b2_expr.specs.Value.{context_of}
use Rattle.b2_expr.specs.Workspace.{WorkState, WorkLeft, refused, surroundings_of}
use Rattle.b2_receiver.specs.Assigning.{value_bytes}
use Rattle.b2_receiver.specs.Receivers.{alpha_receiver, buffer}
use Rattle.b2_receiver.specs.declared.receiver.AlphaReceiver.{AlphaReceiver}
use Rattle.b2_pack.specs.Specification.{is_specification}
use Rattle.b2_pack.specs.Unpacking.{fields_in}
use Rattle.b2_receiver.specs.declared.receiver.Buffer.TheVariants as buffer_kind
use Rattle.b2_stmt_pack.specs.Buffers.{buffer_variables, packs_to, read_from}
use Rattle.b2_stmt_pack.specs.Fields.{bytes_of_fields, packs, packs_by, unpacks, unpacks_by, values_packed}
use Rattle.b2_stmt_pack.specs.Lists.{all_taken, each_of, items_at, kind_of, takes_value, value_of}

-- a value has no more bytes than are named
few_by : (n m : ℕ) (answer : TextAnswer) (bytes : List ℕ) → n ≤ 255 → (answer >>= (λ (xs : List ℕ). Ok (take n (drop m xs)))) ≡ Ok bytes → length bytes ≤ 255
few_by n m (Ok xs) bytes small is =
    let same : take n (drop m xs) ≡ bytes = cc in
    subst (λ (ys : List ℕ). length ys ≤ 255) same (omega (arith, small, length-take n (drop m xs)))
few_by n m (Err code) bytes small is = cc

pub few_bytes : (of : AlphaReceiver) (s : VarsState) (bytes : List ℕ) → of.portion.count ≤ 255 → value_bytes of s ≡ Ok bytes → length bytes ≤ 255
few_bytes of s bytes small is = few_by of.portion.count of.portion.from (bytes_there (record { vars = s; element = of.element })) bytes small is

-- the fields of a specification stand in a variable; with delimiters they are left out
abbrev fields_items : List Item
fields_items = Sign byte.upper_f S22_WORD ∷ Sign byte.equals S12_EQUALS ∷ Part row.ALPHA_RECEIVER ∷ []

fields_row : row_items row.FIELDS ≡ fields_items
unfolding row_items
fields_row = refl

left_out_row : row_items row.LEFT_OUT ≡ LeftOut ∷ []
unfolding row_items
left_out_row = refl

specification_row : row_items row.SPECIFICATION ≡ Either (start.Code byte.upper_d) row.LEFT_OUT row.FIELDS ∷ []
unfolding row_items
specification_row = refl

fields_by : (t : Text) (b : Bool) → starts Atoms (start.Code byte.upper_d) t ≡ b → is_phrase row.SPECIFICATION t ≡ true → ReadAs row.SPECIFICATION row.FIELDS second_branch t
fields_by t true is ok = absurd (stands_of row.LEFT_OUT (LeftOut ∷ []) t left_out_row (ReadAs.part (either_first row.SPECIFICATION row.LEFT_OUT row.FIELDS (start.Code byte.upper_d) t specification_row ok is))).0
fields_by t false is ok = either_second row.SPECIFICATION row.LEFT_OUT row.FIELDS (start.Code byte.upper_d) t specification_row ok is

fields_read : (t : Text) → is_phrase row.SPECIFICATION t ≡ true → ReadAs row.SPECIFICATION row.FIELDS second_branch t
fields_read t ok = fields_by t (starts Atoms (start.Code byte.upper_d) t) refl ok

pub fields_variable : (t : Text) → is_phrase row.SPECIFICATION t ≡ true → is_phrase row.ALPHA_RECEIVER (drop 1 (drop 1 t)) ≡ true
fields_variable t ok = (stands_of row.FIELDS fields_items t fields_row (ReadAs.part (fields_read t ok))).0.1.1.0

pub fields_rest : (t : Text) → is_phrase row.SPECIFICATION t ≡ true → after_phrase row.SPECIFICATION t ≡ after_phrase row.ALPHA_RECEIVER (drop 1 (drop 1 t))
fields_rest t ok = ReadAs.rest (fields_read t ok) ∙ (stands_of row.FIELDS fields_items t fields_row (ReadAs.part (fields_read t ok))).2

pub fields_is : (s : Context) (t : Text) → is_phrase row.SPECIFICATION t ≡ true
    → bytes_of_fields s (tree_at row.SPECIFICATION t) ≡ (alpha_receiver s (tree_at row.ALPHA_RECEIVER (drop 1 (drop 1 t))) >>= (λ of. buffer_variables s.around (buffer_kind.Value of) >>= (λ vars. value_bytes of vars)))
fields_is s t ok =
    ap (bytes_of_fields s) (ReadAs.tree (fields_read t ok)) ∙ ap (λ (a : Trees). bytes_of_fields s (second_branch a)) (stands_of row.FIELDS fields_items t fields_row (ReadAs.part (fields_read t ok))).1

-- the buffer after it, and the list after that
abbrev pub buffer_text : Text → Text
buffer_text t = drop 1 (after_phrase row.SPECIFICATION (drop 1 t))

abbrev pub items_text : Text → Text
items_text t = drop 1 (after_phrase row.BUFFER (buffer_text t))

-- $PACK
abbrev pack_row : List Item
pack_row = Word word.DOLLAR_PACK_OPEN ∷ Nest row.SPECIFICATION ∷ Sign byte.closing S11_CLOSE ∷ Part row.BUFFER ∷ Word word.FROM ∷ Part row.OPERAND_OF_ANY_KIND ∷ Many commas row.COMMA_OPERAND ∷ []

pack_row_is : row_items row.FIELD_PACK ≡ pack_row
unfolding row_items
pack_row_is = refl

pub pack_fields : (t : Text) → is_phrase row.FIELD_PACK t ≡ true → is_phrase row.SPECIFICATION (drop 1 t) ≡ true
pack_fields t ok = (stands_of row.FIELD_PACK pack_row t pack_row_is ok).0.1.0

pub pack_buffer : (t : Text) → is_phrase row.FIELD_PACK t ≡ true → is_phrase row.BUFFER (buffer_text t) ≡ true
pack_buffer t ok = (stands_of row.FIELD_PACK pack_row t pack_row_is ok).0.1.1.1.0

pub pack_value : (t : Text) → is_phrase row.FIELD_PACK t ≡ true → is_phrase row.OPERAND_OF_ANY_KIND (items_text t) ≡ true
pack_value t ok = (stands_of row.FIELD_PACK pack_row t pack_row_is ok).0.1.1.1.1.1.0

pub pack_list : (t : Text) → is_phrase row.FIELD_PACK t ≡ true → is_list commas row.COMMA_OPERAND (after_phrase row.OPERAND_OF_ANY_KIND (items_text t)) ≡ true
pack_list t ok = (stands_of row.FIELD_PACK pack_row t pack_row_is ok).0.1.1.1.1.1.1.0

pub pack_is : (t : Text) (w : WorkState) → is_phrase row.FIELD_PACK t ≡ true → packs (tree_at row.FIELD_PACK t) w
    ≡ packs_by (bytes_of_fields (context_of w) (tree_at row.SPECIFICATION (drop 1 t))) (buffer (context_of w) (tree_at row.BUFFER (buffer_text t))) (items_at row.COMMA_OPERAND row.OPERAND_OF_ANY_KIND (items_text t)) w
pack_is t w ok = ap (λ (a : Trees). packs a w) (stands_of row.FIELD_PACK pack_row t pack_row_is ok).1

-- $UNPACK
abbrev unpack_row : List Item
unpack_row = Word word.DOLLAR_UNPACK_OPEN ∷ Nest row.SPECIFICATION ∷ Sign byte.closing S11_CLOSE ∷ Part row.BUFFER ∷ Word word.TO ∷ Part row.RECEIVER ∷ Many commas row.COMMA_RECEIVER ∷ []

unpack_row_is : row_items row.FIELD_UNPACK ≡ unpack_row
unfolding row_items
unpack_row_is = refl

pub unpack_fields : (t : Text) → is_phrase row.FIELD_UNPACK t ≡ true → is_phrase row.SPECIFICATION (drop 1 t) ≡ true
unpack_fields t ok = (stands_of row.FIELD_UNPACK unpack_row t unpack_row_is ok).0.1.0

pub unpack_buffer : (t : Text) → is_phrase row.FIELD_UNPACK t ≡ true → is_phrase row.BUFFER (buffer_text t) ≡ true
unpack_buffer t ok = (stands_of row.FIELD_UNPACK unpack_row t unpack_row_is ok).0.1.1.1.0

pub unpack_receiver : (t : Text) → is_phrase row.FIELD_UNPACK t ≡ true → is_phrase row.RECEIVER (items_text t) ≡ true
unpack_receiver t ok = (stands_of row.FIELD_UNPACK unpack_row t unpack_row_is ok).0.1.1.1.1.1.0

pub unpack_list : (t : Text) → is_phrase row.FIELD_UNPACK t ≡ true → is_list commas row.COMMA_RECEIVER (after_phrase row.RECEIVER (items_text t)) ≡ true
unpack_list t ok = (stands_of row.FIELD_UNPACK unpack_row t unpack_row_is ok).0.1.1.1.1.1.1.0

pub unpack_is : (t : Text) (w : WorkState) → is_phrase row.FIELD_UNPACK t ≡ true → unpacks (tree_at row.FIELD_UNPACK t) w
    ≡ unpacks_by (bytes_of_fields (context_of w) (tree_at row.SPECIFICATION (drop 1 t))) (buffer (context_of w) (tree_at row.BUFFER (buffer_text t))) (items_at row.COMMA_RECEIVER row.RECEIVER (items_text t)) w
unpack_is t w ok = ap (λ (a : Trees). unpacks a w) (stands_of row.FIELD_UNPACK unpack_row t unpack_row_is ok).1

-- where the specification is one
same_by : {A : Type 0} (b : Bool) (x y : A) → b ≡ true → (if b then x else y) ≡ x
same_by true x y is = refl
same_by false x y is = cc

pub pack_fine : (t pairs rest : Text) (w : WorkState) (left : WorkLeft) → is_phrase row.FIELD_PACK t ≡ true → bytes_of_fields (context_of w) (tree_at row.SPECIFICATION (drop 1 t)) ≡ Ok pairs → rest ≡ buffer_text t → is_specification pairs ≡ true
    → left ≡ packs_to (values_packed pairs) (buffer (context_of w) (tree_at row.BUFFER rest)) (each_of (value_of (context_of w)) (items_at row.COMMA_OPERAND row.OPERAND_OF_ANY_KIND (drop 1 (after_phrase row.BUFFER rest)))) w → left ≡ packs (tree_at row.FIELD_PACK t) w
pack_fine t pairs rest w left ok is_pairs is_rest fine is =
    is
    ∙ sym (same_by (is_specification pairs) _ (refused P58_SPECIFICATION w) fine)
    ∙ sym (ap (λ (a : TextAnswer). packs_by a (buffer (context_of w) (tree_at row.BUFFER rest)) (items_at row.COMMA_OPERAND row.OPERAND_OF_ANY_KIND (drop 1 (after_phrase row.BUFFER rest))) w) is_pairs)
    ∙ ap (λ (u : Text). packs_by (bytes_of_fields (context_of w) (tree_at row.SPECIFICATION (drop 1 t))) (buffer (context_of w) (tree_at row.BUFFER u)) (items_at row.COMMA_OPERAND row.OPERAND_OF_ANY_KIND (drop 1 (after_phrase row.BUFFER u))) w) is_rest
    ∙ sym (pack_is t w ok)

pub unpack_fine : (t pairs rest : Text) (w : WorkState) (left : WorkLeft) → is_phrase row.FIELD_UNPACK t ≡ true → bytes_of_fields (context_of w) (tree_at row.SPECIFICATION (drop 1 t)) ≡ Ok pairs → rest ≡ buffer_text t → is_specification pairs ≡ true
    → left ≡ all_taken takes_value (items_at row.COMMA_RECEIVER row.RECEIVER (drop 1 (after_phrase row.BUFFER rest))) (read_from (fields_in pairs (map kind_of (items_at row.COMMA_RECEIVER row.RECEIVER (drop 1 (after_phrase row.BUFFER rest))))) (buffer (context_of w) (tree_at row.BUFFER rest)) (surroundings_of w)) w
    → left ≡ unpacks (tree_at row.FIELD_UNPACK t) w
unpack_fine t pairs rest w left ok is_pairs is_rest fine is =
    is
    ∙ sym (same_by (is_specification pairs) _ (refused P58_SPECIFICATION w) fine)
    ∙ sym (ap (λ (a : TextAnswer). unpacks_by a (buffer (context_of w) (tree_at row.BUFFER rest)) (items_at row.COMMA_RECEIVER row.RECEIVER (drop 1 (after_phrase row.BUFFER rest))) w) is_pairs)
    ∙ ap (λ (u : Text). unpacks_by (bytes_of_fields (context_of w) (tree_at row.SPECIFICATION (drop 1 t))) (buffer (context_of w) (tree_at row.BUFFER u)) (items_at row.COMMA_RECEIVER row.RECEIVER (drop 1 (after_phrase row.BUFFER u))) w) is_rest
    ∙ sym (unpack_is t w ok)
