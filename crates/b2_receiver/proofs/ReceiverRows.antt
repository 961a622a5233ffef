-- Receivers by their rows: which row is read, what it names, and what is left after it.
use Rattle.std.proofs.Common.{◌≡◌, ℕ, ◌==◌, Bool, true, false, List, [], ◌∷◌, length, drop, refl, ap, ◌∙◌, Ok}
use Rattle.b2_base.specs.Byte as byte
use Rattle.b2_base.specs.Lexical.{first}
use Rattle.b2_base.specs.declared.codes.TheConstants.{S10_OPEN, S11_CLOSE, S20_VARIABLE}
use Rattle.b2_dec.specs.declared.values.Kind.{Kind}
use Rattle.b2_dec.specs.declared.values.Kind.TheVariants as kind
use Rattle.b2_atom.specs.Words.{Text}
use Rattle.b2_atom.specs.Leaves.{leaf_width}
use Rattle.b2_atom.specs.Tokens.Token.{Coded}
use Rattle.b2_atom.specs.Tree.{Trees}
use Rattle.b2_atom.specs.Tree.Trees.{Done, Put, In}
use Rattle.b2_atom.specs.Grammar.{row_items, starts}
use Rattle.b2_atom.specs.declared.words.Origin.TheVariants.{Atoms}
use Rattle.b2_atom.specs.declared.words.TheConstants as word
use Rattle.b2_atom.specs.declared.rows.TheConstants as row
use Rattle.b2_atom.specs.declared.forms.Start.TheVariants as start
use Rattle.b2_atom.specs.declared.forms.Leaf.TheVariants as leaf
use Rattle.b2_atom.specs.declared.forms.Item.{Item}
use Rattle.b2_atom.specs.declared.forms.Item.TheVariants.{Sign, Typed, Either}
use Rattle.b2_rows.specs.Rows.{is_phrase, tree_at, after_phrase}
use Rattle.b2_rows.specs.Leaves.{is_leaf, leaf_bytes}
use Rattle.b2_rows.specs.Values.{variable_name}
use Rattle.b2_rows.specs.Choices.{ReadAs, first_branch, second_branch}
use Rattle.b2_rows.specs.Optional.{maybe_tree}
use Rattle.b2_rows.proofs.Choices.{either_first, either_second}
use Rattle.b2_expr.specs.Answers.{◌>>=◌}
use Rattle.b2_expr.specs.Named.{number_there, bytes_there}
use Rattle.b2_receiver.specs.Receivers.{portion_of, number_receiver, whole_value, part_receiver, alpha_receiver, any_receiver, array_there, array_row, array_leaf, array_receiver, whole_array, buffer_variable, buffer}
use Rattle.b2_expr.specs.Scope.{Surroundings, Context}
use Rattle.b2_expr.specs.Value.{value, second, located}
use Rattle.b2_expr.specs.declared.operators.Level.TheVariants as level
use Rattle.b2_receiver.specs.declared.receiver.Receiver.TheVariants as receiver_kind
use Rattle.b2_receiver.specs.declared.receiver.Buffer.TheVariants as buffer_kind
use Rattle.b2_rows.proofs.RowsRead.{stands_of}
use Rattle.b2_expr.proofs.Texts.{part_items, part_row, argument_tree, from_at}

-- numbers, and all bytes of a value
pub number_is : (e : Context) (a : Trees) → number_receiver e a ≡ (located e false a >>= (λ p. number_there p >>= (λ x. Ok p.element)))
unfolding number_receiver
number_is e a = refl

pub whole_is : (e : Context) (a : Trees) → whole_value e a ≡ (located e true a >>= (λ p. bytes_there p >>= (λ bytes. Ok (record { element = p.element; portion = record { from = 0; count = length bytes } }))))
unfolding whole_value
whole_is e a = refl

-- STR
pub part_is : (e : Context) (t : Text) → is_phrase row.STRING_PART t ≡ true → part_receiver e (tree_at row.STRING_PART t)
    ≡ (whole_value e (tree_at row.ALPHA_RECEIVER_VARIABLE (drop 1 t)) >>= (λ whole. value e level.Sum (tree_at row.SUM (from_at t))
    >>= (λ x. second e (maybe_tree (start.Code byte.comma) row.COMMA_NUMBER (after_phrase row.SUM (from_at t)))
    >>= (λ y. portion_of whole.portion.count x y >>= (λ portion. Ok (record whole { portion = portion }))))))
unfolding part_receiver
part_is e t ok =
    ap (part_receiver e) (stands_of row.STRING_PART part_items t part_row ok).1
    ∙ ap (λ (a : Trees). part_receiver e (Put (Coded word.STR_OPEN) (In 2 a (Put (Coded byte.closing) Done)))) (argument_tree t ok)

-- whether a word stands where a choice goes by it
begins : (c : ℕ) (t : Text) (b : Bool) → (first t == c) ≡ b → starts Atoms (start.Code c) t ≡ b
unfolding starts
begins c t b is = is

-- an alpha receiver
alpha_row : row_items row.ALPHA_RECEIVER ≡ Either (start.Code word.STR_OPEN) row.STRING_PART row.ALPHA_RECEIVER_VARIABLE ∷ []
unfolding row_items
alpha_row = refl

alpha_by_part : (t : Text) → is_phrase row.ALPHA_RECEIVER t ≡ true → (first t == word.STR_OPEN) ≡ true → ReadAs row.ALPHA_RECEIVER row.STRING_PART first_branch t
alpha_by_part t ok is = either_first _ _ _ _ t alpha_row ok (begins word.STR_OPEN t true is)

alpha_by_whole : (t : Text) → is_phrase row.ALPHA_RECEIVER t ≡ true → (first t == word.STR_OPEN) ≡ false → ReadAs row.ALPHA_RECEIVER row.ALPHA_RECEIVER_VARIABLE second_branch t
alpha_by_whole t ok is = either_second _ _ _ _ t alpha_row ok (begins word.STR_OPEN t false is)

pub alpha_part_here : (t : Text) → is_phrase row.ALPHA_RECEIVER t ≡ true → (first t == word.STR_OPEN) ≡ true → is_phrase row.STRING_PART t ≡ true
alpha_part_here t ok is = (alpha_by_part t ok is).part

pub alpha_part_is : (e : Context) (t : Text) → is_phrase row.ALPHA_RECEIVER t ≡ true → (first t == word.STR_OPEN) ≡ true
    → alpha_receiver e (tree_at row.ALPHA_RECEIVER t) ≡ part_receiver e (tree_at row.STRING_PART t)
unfolding alpha_receiver
alpha_part_is e t ok is = ap (alpha_receiver e) (alpha_by_part t ok is).tree

pub alpha_part_rest : (t : Text) → is_phrase row.ALPHA_RECEIVER t ≡ true → (first t == word.STR_OPEN) ≡ true → after_phrase row.ALPHA_RECEIVER t ≡ after_phrase row.STRING_PART t
alpha_part_rest t ok is = (alpha_by_part t ok is).rest

pub alpha_whole_here : (t : Text) → is_phrase row.ALPHA_RECEIVER t ≡ true → (first t == word.STR_OPEN) ≡ false → is_phrase row.ALPHA_RECEIVER_VARIABLE t ≡ true
alpha_whole_here t ok is = (alpha_by_whole t ok is).part

pub alpha_whole_is : (e : Context) (t : Text) → is_phrase row.ALPHA_RECEIVER t ≡ true → (first t == word.STR_OPEN) ≡ false
    → alpha_receiver e (tree_at row.ALPHA_RECEIVER t) ≡ whole_value e (tree_at row.ALPHA_RECEIVER_VARIABLE t)
unfolding alpha_receiver
alpha_whole_is e t ok is = ap (alpha_receiver e) (alpha_by_whole t ok is).tree

pub alpha_whole_rest : (t : Text) → is_phrase row.ALPHA_RECEIVER t ≡ true → (first t == word.STR_OPEN) ≡ false → after_phrase row.ALPHA_RECEIVER t ≡ after_phrase row.ALPHA_RECEIVER_VARIABLE t
alpha_whole_rest t ok is = (alpha_by_whole t ok is).rest

-- a receiver of either kind
any_row : row_items row.RECEIVER ≡ Either start.Alpha row.ALPHA_RECEIVER row.NUMERIC_RECEIVER ∷ []
unfolding row_items
any_row = refl

any_by_alpha : (t : Text) → is_phrase row.RECEIVER t ≡ true → starts Atoms start.Alpha t ≡ true → ReadAs row.RECEIVER row.ALPHA_RECEIVER first_branch t
any_by_alpha t ok is = either_first _ _ _ _ t any_row ok is

any_by_number : (t : Text) → is_phrase row.RECEIVER t ≡ true → starts Atoms start.Alpha t ≡ false → ReadAs row.RECEIVER row.NUMERIC_RECEIVER second_branch t
any_by_number t ok is = either_second _ _ _ _ t any_row ok is

pub any_alpha_here : (t : Text) → is_phrase row.RECEIVER t ≡ true → starts Atoms start.Alpha t ≡ true → is_phrase row.ALPHA_RECEIVER t ≡ true
any_alpha_here t ok is = (any_by_alpha t ok is).part

pub any_alpha_is : (e : Context) (t : Text) → is_phrase row.RECEIVER t ≡ true → starts Atoms start.Alpha t ≡ true
    → any_receiver e (tree_at row.RECEIVER t) ≡ (alpha_receiver e (tree_at row.ALPHA_RECEIVER t) >>= (λ x. Ok (receiver_kind.Alpha x)))
unfolding any_receiver
any_alpha_is e t ok is = ap (any_receiver e) (any_by_alpha t ok is).tree

pub any_alpha_rest : (t : Text) → is_phrase row.RECEIVER t ≡ true → starts Atoms start.Alpha t ≡ true → after_phrase row.RECEIVER t ≡ after_phrase row.ALPHA_RECEIVER t
any_alpha_rest t ok is = (any_by_alpha t ok is).rest

pub any_number_here : (t : Text) → is_phrase row.RECEIVER t ≡ true → starts Atoms start.Alpha t ≡ false → is_phrase row.NUMERIC_RECEIVER t ≡ true
any_number_here t ok is = (any_by_number t ok is).part

pub any_number_is : (e : Context) (t : Text) → is_phrase row.RECEIVER t ≡ true → starts Atoms start.Alpha t ≡ false
    → any_receiver e (tree_at row.RECEIVER t) ≡ (number_receiver e (tree_at row.NUMERIC_RECEIVER t) >>= (λ x. Ok (receiver_kind.Number x)))
unfolding any_receiver
any_number_is e t ok is = ap (any_receiver e) (any_by_number t ok is).tree

pub any_number_rest : (t : Text) → is_phrase row.RECEIVER t ≡ true → starts Atoms start.Alpha t ≡ false → after_phrase row.RECEIVER t ≡ after_phrase row.NUMERIC_RECEIVER t
any_number_rest t ok is = (any_by_number t ok is).rest

-- an array of a kind
abbrev array_items : Kind → List Item
array_items k = Typed (array_leaf k) S20_VARIABLE ∷ Sign byte.opening S10_OPEN ∷ Sign byte.closing S11_CLOSE ∷ []

array_row_items : (k : Kind) → row_items (array_row k) ≡ array_items k
unfolding row_items
array_row_items kind.Number = refl
array_row_items kind.Alpha = refl

pub array_here : (k : Kind) (t : Text) → is_phrase (array_row k) t ≡ true → is_leaf (array_leaf k) t ≡ true
array_here k t ok = (stands_of (array_row k) (array_items k) t (array_row_items k) ok).0.0

pub array_is : (e : Surroundings) (alpha : Bool) (k : Kind) (t : Text) → is_phrase (array_row k) t ≡ true
    → array_receiver e alpha (tree_at (array_row k) t) ≡ array_there e (variable_name alpha (leaf_bytes (array_leaf k) t))
unfolding array_receiver
array_is e alpha kind.Number t ok = ap (array_receiver e alpha) (stands_of row.NUMERIC_ARRAY (array_items kind.Number) t (array_row_items kind.Number) ok).1
array_is e alpha kind.Alpha t ok = ap (array_receiver e alpha) (stands_of row.ALPHA_ARRAY (array_items kind.Alpha) t (array_row_items kind.Alpha) ok).1

twice : (t : Text) → drop 1 (drop 1 t) ≡ drop 2 t
twice [] = refl
twice (a ∷ t) = refl

pub array_rest : (k : Kind) (t : Text) → is_phrase (array_row k) t ≡ true → after_phrase (array_row k) t ≡ drop 2 (drop (leaf_width Atoms (array_leaf k) t) t)
array_rest kind.Number t ok = (stands_of row.NUMERIC_ARRAY (array_items kind.Number) t (array_row_items kind.Number) ok).2 ∙ twice (drop (leaf_width Atoms leaf.Name t) t)
array_rest kind.Alpha t ok = (stands_of row.ALPHA_ARRAY (array_items kind.Alpha) t (array_row_items kind.Alpha) ok).2 ∙ twice (drop (leaf_width Atoms leaf.AlphaName t) t)

-- an array of either kind
whole_array_row : row_items row.WHOLE_ARRAY ≡ Either start.Alpha row.ALPHA_ARRAY row.NUMERIC_ARRAY ∷ []
unfolding row_items
whole_array_row = refl

array_by_alpha : (t : Text) → is_phrase row.WHOLE_ARRAY t ≡ true → starts Atoms start.Alpha t ≡ true → ReadAs row.WHOLE_ARRAY row.ALPHA_ARRAY first_branch t
array_by_alpha t ok is = either_first _ _ _ _ t whole_array_row ok is

array_by_number : (t : Text) → is_phrase row.WHOLE_ARRAY t ≡ true → starts Atoms start.Alpha t ≡ false → ReadAs row.WHOLE_ARRAY row.NUMERIC_ARRAY second_branch t
array_by_number t ok is = either_second _ _ _ _ t whole_array_row ok is

pub array_alpha_here : (t : Text) → is_phrase row.WHOLE_ARRAY t ≡ true → starts Atoms start.Alpha t ≡ true → is_phrase row.ALPHA_ARRAY t ≡ true
array_alpha_here t ok is = (array_by_alpha t ok is).part

pub array_alpha_is : (e : Surroundings) (t : Text) → is_phrase row.WHOLE_ARRAY t ≡ true → starts Atoms start.Alpha t ≡ true
    → whole_array e (tree_at row.WHOLE_ARRAY t) ≡ array_receiver e true (tree_at row.ALPHA_ARRAY t)
unfolding whole_array
array_alpha_is e t ok is = ap (whole_array e) (array_by_alpha t ok is).tree

pub array_alpha_rest : (t : Text) → is_phrase row.WHOLE_ARRAY t ≡ true → starts Atoms start.Alpha t ≡ true → after_phrase row.WHOLE_ARRAY t ≡ after_phrase row.ALPHA_ARRAY t
array_alpha_rest t ok is = (array_by_alpha t ok is).rest

pub array_number_here : (t : Text) → is_phrase row.WHOLE_ARRAY t ≡ true → starts Atoms start.Alpha t ≡ false → is_phrase row.NUMERIC_ARRAY t ≡ true
array_number_here t ok is = (array_by_number t ok is).part

pub array_number_is : (e : Surroundings) (t : Text) → is_phrase row.WHOLE_ARRAY t ≡ true → starts Atoms start.Alpha t ≡ false
    → whole_array e (tree_at row.WHOLE_ARRAY t) ≡ array_receiver e false (tree_at row.NUMERIC_ARRAY t)
unfolding whole_array
array_number_is e t ok is = ap (whole_array e) (array_by_number t ok is).tree

pub array_number_rest : (t : Text) → is_phrase row.WHOLE_ARRAY t ≡ true → starts Atoms start.Alpha t ≡ false → after_phrase row.WHOLE_ARRAY t ≡ after_phrase row.NUMERIC_ARRAY t
array_number_rest t ok is = (array_by_number t ok is).rest

-- a buffer that is no part of a value
buffer_variable_row : row_items row.BUFFER_VARIABLE ≡ Either start.Array row.ALPHA_ARRAY row.ALPHA_RECEIVER_VARIABLE ∷ []
unfolding row_items
buffer_variable_row = refl

buffer_by_array : (t : Text) → is_phrase row.BUFFER_VARIABLE t ≡ true → starts Atoms start.Array t ≡ true → ReadAs row.BUFFER_VARIABLE row.ALPHA_ARRAY first_branch t
buffer_by_array t ok is = either_first _ _ _ _ t buffer_variable_row ok is

buffer_by_value : (t : Text) → is_phrase row.BUFFER_VARIABLE t ≡ true → starts Atoms start.Array t ≡ false → ReadAs row.BUFFER_VARIABLE row.ALPHA_RECEIVER_VARIABLE second_branch t
buffer_by_value t ok is = either_second _ _ _ _ t buffer_variable_row ok is

pub buffer_array_here : (t : Text) → is_phrase row.BUFFER_VARIABLE t ≡ true → starts Atoms start.Array t ≡ true → is_phrase row.ALPHA_ARRAY t ≡ true
buffer_array_here t ok is = (buffer_by_array t ok is).part

pub buffer_array_is : (e : Context) (t : Text) → is_phrase row.BUFFER_VARIABLE t ≡ true → starts Atoms start.Array t ≡ true
    → buffer_variable e (tree_at row.BUFFER_VARIABLE t) ≡ (array_receiver e.around true (tree_at row.ALPHA_ARRAY t) >>= (λ x. Ok (buffer_kind.Array x)))
unfolding buffer_variable
buffer_array_is e t ok is = ap (buffer_variable e) (buffer_by_array t ok is).tree

pub buffer_array_rest : (t : Text) → is_phrase row.BUFFER_VARIABLE t ≡ true → starts Atoms start.Array t ≡ true → after_phrase row.BUFFER_VARIABLE t ≡ after_phrase row.ALPHA_ARRAY t
buffer_array_rest t ok is = (buffer_by_array t ok is).rest

pub buffer_value_here : (t : Text) → is_phrase row.BUFFER_VARIABLE t ≡ true → starts Atoms start.Array t ≡ false → is_phrase row.ALPHA_RECEIVER_VARIABLE t ≡ true
buffer_value_here t ok is = (buffer_by_value t ok is).part

pub buffer_value_is : (e : Context) (t : Text) → is_phrase row.BUFFER_VARIABLE t ≡ true → starts Atoms start.Array t ≡ false
    → buffer_variable e (tree_at row.BUFFER_VARIABLE t) ≡ (whole_value e (tree_at row.ALPHA_RECEIVER_VARIABLE t) >>= (λ x. Ok (buffer_kind.Value x)))
unfolding buffer_variable
buffer_value_is e t ok is = ap (buffer_variable e) (buffer_by_value t ok is).tree

pub buffer_value_rest : (t : Text) → is_phrase row.BUFFER_VARIABLE t ≡ true → starts Atoms start.Array t ≡ false → after_phrase row.BUFFER_VARIABLE t ≡ after_phrase row.ALPHA_RECEIVER_VARIABLE t
buffer_value_rest t ok is = (buffer_by_value t ok is).rest

-- a buffer
buffer_row : row_items row.BUFFER ≡ Either (start.Code word.STR_OPEN) row.STRING_PART row.BUFFER_VARIABLE ∷ []
unfolding row_items
buffer_row = refl

buffer_by_part : (t : Text) → is_phrase row.BUFFER t ≡ true → (first t == word.STR_OPEN) ≡ true → ReadAs row.BUFFER row.STRING_PART first_branch t
buffer_by_part t ok is = either_first _ _ _ _ t buffer_row ok (begins word.STR_OPEN t true is)

buffer_by_variable : (t : Text) → is_phrase row.BUFFER t ≡ true → (first t == word.STR_OPEN) ≡ false → ReadAs row.BUFFER row.BUFFER_VARIABLE second_branch t
buffer_by_variable t ok is = either_second _ _ _ _ t buffer_row ok (begins word.STR_OPEN t false is)

pub buffer_part_here : (t : Text) → is_phrase row.BUFFER t ≡ true → (first t == word.STR_OPEN) ≡ true → is_phrase row.STRING_PART t ≡ true
buffer_part_here t ok is = (buffer_by_part t ok is).part

pub buffer_part_is : (e : Context) (t : Text) → is_phrase row.BUFFER t ≡ true → (first t == word.STR_OPEN) ≡ true
    → buffer e (tree_at row.BUFFER t) ≡ (part_receiver e (tree_at row.STRING_PART t) >>= (λ x. Ok (buffer_kind.Value x)))
unfolding buffer
buffer_part_is e t ok is = ap (buffer e) (buffer_by_part t ok is).tree

pub buffer_part_rest : (t : Text) → is_phrase row.BUFFER t ≡ true → (first t == word.STR_OPEN) ≡ true → after_phrase row.BUFFER t ≡ after_phrase row.STRING_PART t
buffer_part_rest t ok is = (buffer_by_part t ok is).rest

pub buffer_variable_here : (t : Text) → is_phrase row.BUFFER t ≡ true → (first t == word.STR_OPEN) ≡ false → is_phrase row.BUFFER_VARIABLE t ≡ true
buffer_variable_here t ok is = (buffer_by_variable t ok is).part

pub buffer_variable_is : (e : Context) (t : Text) → is_phrase row.BUFFER t ≡ true → (first t == word.STR_OPEN) ≡ false
    → buffer e (tree_at row.BUFFER t) ≡ buffer_variable e (tree_at row.BUFFER_VARIABLE t)
unfolding buffer
buffer_variable_is e t ok is = ap (buffer e) (buffer_by_variable t ok is).tree

pub buffer_variable_rest : (t : Text) → is_phrase row.BUFFER t ≡ true → (first t == word.STR_OPEN) ≡ false → after_phrase row.BUFFER t ≡ after_phrase row.BUFFER_VARIABLE t
buffer_variable_rest t ok is = (buffer_by_variable t ok is).rest
