-- Alpha expressions and their operands, by their rows.
use Rattle.std.proofs.Common.{◌≡◌, ◌<◌, ℕ, zero, suc, length, arith, sym, true, false, List, [], ◌∷◌, drop, take, refl, ap, ◌∙◌, Ok, Err, length-drop}
use Rattle.b2_base.specs.Byte as byte
use Rattle.b2_base.specs.Lexical.{first}
use Rattle.b2_base.specs.declared.codes.TheConstants.{S11_CLOSE, S13_SEPARATOR, S18_ALPHA, S22_WORD}
use Rattle.b2_alpha.specs.Values.{value_of}
use Rattle.b2_atom.specs.Words.{Text}
use Rattle.b2_atom.specs.Leaves.{leaf_width}
use Rattle.b2_atom.specs.Tokens.Token.{Coded}
use Rattle.b2_atom.specs.Tree.{Trees}
use Rattle.b2_atom.specs.Tree.Trees.{Done, Put, In}
use Rattle.b2_atom.specs.Grammar.{row_items, starts}
use Rattle.b2_atom.specs.declared.words.Origin.TheVariants.{Atoms}
use Rattle.b2_atom.specs.declared.words.TheConstants as word
use Rattle.b2_atom.specs.declared.rows.TheConstants as row
use Rattle.b2_atom.specs.declared.forms.Start.TheVariants as start
use Rattle.b2_atom.specs.declared.forms.Leaf.TheVariants as leaf
use Rattle.b2_atom.specs.declared.forms.Item.{Item}
use Rattle.b2_atom.specs.declared.forms.Item.TheVariants.{Word, Sign, Typed, Part, Maybe, Nest}
use Rattle.b2_rows.specs.Rows.{is_phrase, tree_at, after_phrase, is_list, list_at, after_list, Goes}
use Rattle.b2_rows.specs.Leaves.{is_leaf, leaf_bytes}
use Rattle.b2_rows.specs.Values.{literal_of}
use Rattle.b2_rows.specs.Optional.{maybe_phrase, maybe_tree, after_maybe}
use Rattle.b2_rows.specs.Chains.{is_operator_of, more_start}
use Rattle.b2_rows.specs.declared.chains.Chain.TheVariants as chain
use Rattle.b2_rows.proofs.Optional.{maybe_stands}
use Rattle.b2_rows.proofs.Levels.{part_no_longer}
use Rattle.b2_rows.proofs.Lists.{goes}
use Rattle.b2_rows.proofs.EachChain as each
use Rattle.b2_expr.specs.Answers.{TextAnswer, ◌>>=◌}
use Rattle.b2_expr.specs.Functions.{joined_text, count_or, binary_bytes, fixed}
use Rattle.b2_expr.specs.Named.{Cell, bytes_there}
use Rattle.b2_expr.specs.Scope.{Context}
use Rattle.b2_expr.specs.Value.{value, text, further_text, text_row, text_operand, second, located, bytes_of_part, text_of_cell, literal_bytes, hex_bytes, pairs_of}
use Rattle.b2_rows.specs.declared.operands.AlphaOperand.TheVariants as alpha_kind
use Rattle.b2_expr.specs.declared.operators.Level.TheVariants as level
use Rattle.b2_rows.proofs.RowsRead.{stands_of, shorter_at}
use Rattle.b2_expr.proofs.Names.{one_first, one_second, one_tree, one_rest}

-- a chain of operands
pub text_first : (t : Text) → is_phrase row.ALPHA t ≡ true → is_phrase row.ALPHA_OPERAND t ≡ true
text_first t ok = each.alpha_item t ok

pub text_list : (t : Text) → is_phrase row.ALPHA t ≡ true → is_list (more_start chain.Alpha) row.JOINED (after_phrase row.ALPHA_OPERAND t) ≡ true
text_list t ok = each.alpha_list t ok

pub text_value : (e : Context) (t : Text) → is_phrase row.ALPHA t ≡ true
    → text e (tree_at row.ALPHA t) ≡ further_text e (text_row e (tree_at row.ALPHA_OPERAND t) >>= joined_text []) (list_at (more_start chain.Alpha) row.JOINED (after_phrase row.ALPHA_OPERAND t))
unfolding text
text_value e t ok = ap (text e) (each.alpha_tree t ok)

pub text_rest : (t : Text) → is_phrase row.ALPHA t ≡ true → after_phrase row.ALPHA t ≡ after_list (more_start chain.Alpha) row.JOINED (after_phrase row.ALPHA_OPERAND t)
text_rest t ok = each.alpha_rest t ok

pub on_operand : (t : Text) → is_list (more_start chain.Alpha) row.JOINED t ≡ true → is_operator_of chain.Alpha (first t) ≡ true → is_phrase row.ALPHA_OPERAND (drop 1 t) ≡ true
on_operand t ok b = each.more_item chain.Alpha t ok b

pub on_list : (t : Text) → is_list (more_start chain.Alpha) row.JOINED t ≡ true → is_operator_of chain.Alpha (first t) ≡ true → is_list (more_start chain.Alpha) row.JOINED (after_phrase row.ALPHA_OPERAND (drop 1 t)) ≡ true
on_list t ok b = each.more_list chain.Alpha t ok b

abbrev joined_items : List Item
joined_items = Sign byte.ampersand S22_WORD ∷ Part row.ALPHA_OPERAND ∷ []

joined_row : row_items row.JOINED ≡ joined_items
unfolding row_items
joined_row = refl

begins : (t : Text) → is_operator_of chain.Alpha (first t) ≡ true → starts Atoms (more_start chain.Alpha) t ≡ true
unfolding starts
begins t b = b

joined_part : (t : Text) → is_list (more_start chain.Alpha) row.JOINED t ≡ true → is_operator_of chain.Alpha (first t) ≡ true → is_phrase row.JOINED t ≡ true
joined_part t ok b = Goes.part (goes (more_start chain.Alpha) row.JOINED t ok (begins t b))

pub on_value : (e : Context) (x : TextAnswer) (t : Text) → is_list (more_start chain.Alpha) row.JOINED t ≡ true → is_operator_of chain.Alpha (first t) ≡ true
    → further_text e x (list_at (more_start chain.Alpha) row.JOINED t)
    ≡ further_text e (x >>= (λ v. text_row e (tree_at row.ALPHA_OPERAND (drop 1 t)) >>= joined_text v)) (list_at (more_start chain.Alpha) row.JOINED (after_phrase row.ALPHA_OPERAND (drop 1 t)))
unfolding further_text
on_value e x t ok b =
    ap (further_text e x) (each.more_tree chain.Alpha t ok b)
    ∙ ap (λ (a : Trees). further_text e x (In 1 a (list_at (more_start chain.Alpha) row.JOINED (after_phrase row.ALPHA_OPERAND (drop 1 t))))) (stands_of row.JOINED joined_items t joined_row (joined_part t ok b)).1

pub on_rest : (t : Text) → is_list (more_start chain.Alpha) row.JOINED t ≡ true → is_operator_of chain.Alpha (first t) ≡ true
    → after_list (more_start chain.Alpha) row.JOINED t ≡ after_list (more_start chain.Alpha) row.JOINED (after_phrase row.ALPHA_OPERAND (drop 1 t))
on_rest t ok b = each.more_rest chain.Alpha t ok b

pub on_shorter : (t : Text) → is_operator_of chain.Alpha (first t) ≡ true → length (drop 1 t) < length t
on_shorter t b = each.operator_shorter chain.Alpha t b

none_joined : (e : Context) (x : TextAnswer) → further_text e x (In 0 Done Done) ≡ x
unfolding further_text
none_joined e x = refl

pub off_value : (e : Context) (x : TextAnswer) (t : Text) → is_operator_of chain.Alpha (first t) ≡ false → further_text e x (list_at (more_start chain.Alpha) row.JOINED t) ≡ x
off_value e x t b = ap (further_text e x) (each.no_more chain.Alpha t b) ∙ none_joined e x

pub off_rest : (t : Text) → is_operator_of chain.Alpha (first t) ≡ false → after_list (more_start chain.Alpha) row.JOINED t ≡ t
off_rest t b = each.no_rest chain.Alpha t b

pub text_refused : (e : Context) (code : ℕ) (t : Trees) → further_text e (Err code) t ≡ Err code
unfolding further_text
text_refused e code (In n (Put sign (In m a end)) more) = text_refused e code more
text_refused e code Done = refl
text_refused e code (Put token more) = refl
text_refused e code (In n Done more) = refl
text_refused e code (In n (In k a b) more) = refl
text_refused e code (In n (Put token Done) more) = refl
text_refused e code (In n (Put token (Put t u)) more) = refl

-- bytes in quotes
abbrev quoted_items : List Item
quoted_items = Typed leaf.Literal S18_ALPHA ∷ []

quoted_row : row_items row.LITERAL ≡ quoted_items
unfolding row_items
quoted_row = refl

pub quoted_here : (t : Text) → is_phrase row.LITERAL t ≡ true → is_leaf leaf.Literal t ≡ true
quoted_here t ok = (stands_of row.LITERAL quoted_items t quoted_row ok).0.0

pub quoted_is : (t : Text) → is_phrase row.LITERAL t ≡ true → literal_bytes (tree_at row.LITERAL t) ≡ Ok (literal_of (leaf_bytes leaf.Literal t))
quoted_is t ok = ap literal_bytes (stands_of row.LITERAL quoted_items t quoted_row ok).1

pub quoted_rest : (t : Text) → is_phrase row.LITERAL t ≡ true → after_phrase row.LITERAL t ≡ drop (leaf_width Atoms leaf.Literal t) t
quoted_rest t ok = (stands_of row.LITERAL quoted_items t quoted_row ok).2

-- hexadecimal digits
abbrev hex_items : List Item
hex_items = Word word.HEX_OPEN ∷ Nest row.HEX_PAIRS ∷ Sign byte.closing S11_CLOSE ∷ []

hex_row : row_items row.HEX ≡ hex_items
unfolding row_items
hex_row = refl

pub hex_pairs : (t : Text) → is_phrase row.HEX t ≡ true → is_phrase row.HEX_PAIRS (drop 1 t) ≡ true
hex_pairs t ok = (stands_of row.HEX hex_items t hex_row ok).0.1.0

pub hex_is : (t : Text) → is_phrase row.HEX t ≡ true → hex_bytes (tree_at row.HEX t) ≡ pairs_of (tree_at row.HEX_PAIRS (drop 1 t))
hex_is t ok = ap hex_bytes (stands_of row.HEX hex_items t hex_row ok).1

pub hex_rest : (t : Text) → is_phrase row.HEX t ≡ true → after_phrase row.HEX t ≡ drop 1 (after_phrase row.HEX_PAIRS (drop 1 t))
hex_rest t ok = (stands_of row.HEX hex_items t hex_row ok).2

-- a number in bytes
abbrev binary_items : List Item
binary_items = Word word.BIN_OPEN ∷ Nest row.ONE_OR_TWO_NUMBERS ∷ Sign byte.closing S11_CLOSE ∷ []

binary_row : row_items row.BINARY ≡ binary_items
unfolding row_items
binary_row = refl

numbers_of : (t : Text) → is_phrase row.BINARY t ≡ true → is_phrase row.ONE_OR_TWO_NUMBERS (drop 1 t) ≡ true
numbers_of t ok = (stands_of row.BINARY binary_items t binary_row ok).0.1.0

pub binary_number : (t : Text) → is_phrase row.BINARY t ≡ true → is_phrase row.SUM (drop 1 t) ≡ true
binary_number t ok = one_first (drop 1 t) (numbers_of t ok)

pub binary_count : (t : Text) → is_phrase row.BINARY t ≡ true → maybe_phrase (start.Code byte.comma) row.COMMA_NUMBER (after_phrase row.SUM (drop 1 t)) ≡ true
binary_count t ok = one_second (drop 1 t) (numbers_of t ok)

pub binary_is : (e : Context) (t : Text) → is_phrase row.BINARY t ≡ true → text_operand e alpha_kind.Binary (tree_at row.BINARY t)
    ≡ (value e level.Sum (tree_at row.SUM (drop 1 t)) >>= (λ x. second e (maybe_tree (start.Code byte.comma) row.COMMA_NUMBER (after_phrase row.SUM (drop 1 t))) >>= count_or 1 1 4 >>= (λ n. binary_bytes n (fixed x))))
unfolding text_operand
binary_is e t ok =
    ap (text_operand e alpha_kind.Binary) (stands_of row.BINARY binary_items t binary_row ok).1
    ∙ ap (λ (a : Trees). text_operand e alpha_kind.Binary (Put (Coded word.BIN_OPEN) (In 2 a (Put (Coded byte.closing) Done)))) (one_tree (drop 1 t) (numbers_of t ok))

pub binary_rest : (t : Text) → is_phrase row.BINARY t ≡ true → after_phrase row.BINARY t ≡ drop 1 (after_maybe (start.Code byte.comma) row.COMMA_NUMBER (after_phrase row.SUM (drop 1 t)))
binary_rest t ok = (stands_of row.BINARY binary_items t binary_row ok).2 ∙ ap (drop 1) (one_rest (drop 1 t) (numbers_of t ok))

pub binary_shorter : (t : Text) → is_phrase row.BINARY t ≡ true → length (drop 1 t) < length t
binary_shorter t ok = shorter_at t 203 (stands_of row.BINARY binary_items t binary_row ok).0.0

pub binary_count_shorter : (t : Text) → is_phrase row.BINARY t ≡ true → length (after_phrase row.SUM (drop 1 t)) < length t
binary_count_shorter t ok = let a = binary_shorter t ok in let b = part_no_longer row.SUM (drop 1 t) in omega (arith, a, b)

-- a part of a variable
abbrev pub part_items : List Item
part_items = Word word.STR_OPEN ∷ Nest row.STRING_PART_ARGUMENTS ∷ Sign byte.closing S11_CLOSE ∷ []

pub part_row : row_items row.STRING_PART ≡ part_items
unfolding row_items
part_row = refl

abbrev argument_items : List Item
argument_items = Part row.ALPHA_RECEIVER_VARIABLE ∷ Sign byte.comma S13_SEPARATOR ∷ Part row.SUM ∷ Maybe (start.Code byte.comma) row.COMMA_NUMBER ∷ []

argument_row : row_items row.STRING_PART_ARGUMENTS ≡ argument_items
unfolding row_items
argument_row = refl

arguments_of : (t : Text) → is_phrase row.STRING_PART t ≡ true → is_phrase row.STRING_PART_ARGUMENTS (drop 1 t) ≡ true
arguments_of t ok = (stands_of row.STRING_PART part_items t part_row ok).0.1.0

-- where the first number stands
abbrev pub from_at : Text → Text
from_at t = drop 1 (after_phrase row.ALPHA_RECEIVER_VARIABLE (drop 1 t))

pub part_variable : (t : Text) → is_phrase row.STRING_PART t ≡ true → is_phrase row.ALPHA_RECEIVER_VARIABLE (drop 1 t) ≡ true
part_variable t ok = (stands_of row.STRING_PART_ARGUMENTS argument_items (drop 1 t) argument_row (arguments_of t ok)).0.0

pub part_from : (t : Text) → is_phrase row.STRING_PART t ≡ true → is_phrase row.SUM (from_at t) ≡ true
part_from t ok = (stands_of row.STRING_PART_ARGUMENTS argument_items (drop 1 t) argument_row (arguments_of t ok)).0.1.1.0

pub part_count : (t : Text) → is_phrase row.STRING_PART t ≡ true → maybe_phrase (start.Code byte.comma) row.COMMA_NUMBER (after_phrase row.SUM (from_at t)) ≡ true
part_count t ok = maybe_stands _ _ _ (stands_of row.STRING_PART_ARGUMENTS argument_items (drop 1 t) argument_row (arguments_of t ok)).0.1.1.1

pub argument_tree : (t : Text) → is_phrase row.STRING_PART t ≡ true
    → tree_at row.STRING_PART_ARGUMENTS (drop 1 t)
    ≡ In 2 (tree_at row.ALPHA_RECEIVER_VARIABLE (drop 1 t)) (Put (Coded byte.comma) (In 2 (tree_at row.SUM (from_at t)) (maybe_tree (start.Code byte.comma) row.COMMA_NUMBER (after_phrase row.SUM (from_at t)))))
unfolding maybe_tree
argument_tree t ok = (stands_of row.STRING_PART_ARGUMENTS argument_items (drop 1 t) argument_row (arguments_of t ok)).1

part_by : (e : Context) (v a count : Trees) → text_operand e alpha_kind.StringPart (Put (Coded word.STR_OPEN) (In 2 (In 2 v (Put (Coded byte.comma) (In 2 a count))) (Put (Coded byte.closing) Done)))
    ≡ (located e true v >>= bytes_there >>= (λ bytes. value e level.Sum a >>= (λ from. second e count >>= bytes_of_part bytes from)))
unfolding text_operand
part_by e Done a count = refl
part_by e (Put token more) a count = refl
part_by e (In n b more) a count = refl

pub part_is : (e : Context) (t : Text) → is_phrase row.STRING_PART t ≡ true → text_operand e alpha_kind.StringPart (tree_at row.STRING_PART t)
    ≡ (located e true (tree_at row.ALPHA_RECEIVER_VARIABLE (drop 1 t)) >>= bytes_there >>= (λ bytes. value e level.Sum (tree_at row.SUM (from_at t))
    >>= (λ from. second e (maybe_tree (start.Code byte.comma) row.COMMA_NUMBER (after_phrase row.SUM (from_at t))) >>= bytes_of_part bytes from)))
unfolding text_operand
part_is e t ok =
    ap (text_operand e alpha_kind.StringPart) (stands_of row.STRING_PART part_items t part_row ok).1
    ∙ ap (λ (a : Trees). text_operand e alpha_kind.StringPart (Put (Coded word.STR_OPEN) (In 2 a (Put (Coded byte.closing) Done)))) (argument_tree t ok)
    ∙ part_by e (tree_at row.ALPHA_RECEIVER_VARIABLE (drop 1 t)) (tree_at row.SUM (from_at t)) (maybe_tree (start.Code byte.comma) row.COMMA_NUMBER (after_phrase row.SUM (from_at t)))

pub part_rest : (t : Text) → is_phrase row.STRING_PART t ≡ true → after_phrase row.STRING_PART t ≡ drop 1 (after_maybe (start.Code byte.comma) row.COMMA_NUMBER (after_phrase row.SUM (from_at t)))
unfolding after_maybe
part_rest t ok =
    (stands_of row.STRING_PART part_items t part_row ok).2
    ∙ ap (drop 1) (stands_of row.STRING_PART_ARGUMENTS argument_items (drop 1 t) argument_row (arguments_of t ok)).2

pub part_shorter : (t : Text) → is_phrase row.STRING_PART t ≡ true → length (drop 1 t) < length t
part_shorter t ok = shorter_at t 202 (stands_of row.STRING_PART part_items t part_row ok).0.0

pub from_shorter : (t : Text) → is_phrase row.STRING_PART t ≡ true → length (from_at t) < length t
from_shorter t ok =
    let a = part_shorter t ok in
    let b = part_no_longer row.ALPHA_RECEIVER_VARIABLE (drop 1 t) in
    omega (arith, a, b, length-drop 1 (after_phrase row.ALPHA_RECEIVER_VARIABLE (drop 1 t)))

pub count_shorter : (t : Text) → is_phrase row.STRING_PART t ≡ true → length (after_phrase row.SUM (from_at t)) < length t
count_shorter t ok = let a = from_shorter t ok in let b = part_no_longer row.SUM (from_at t) in omega (arith, a, b)

-- a variable
pub variable_text : (e : Context) (a : Trees) → text_operand e alpha_kind.Variable a ≡ text_of_cell (located e true a)
unfolding text_operand
variable_text e Done = refl
variable_text e (Put token more) = refl
variable_text e (In n a more) = refl

taken_again : (n : ℕ) (bytes : List ℕ) → take (length (take n bytes)) bytes ≡ take n bytes
taken_again zero bytes = refl
taken_again (suc n) [] = refl
taken_again (suc n) (b ∷ bytes) = ap (λ (t : List ℕ). b ∷ t) (taken_again n bytes)

pub value_taken : (bytes : List ℕ) → take (length (value_of bytes)) bytes ≡ value_of bytes
value_taken bytes = taken_again _ bytes

pub text_there : (e : Context) (a : Trees) (p : Cell) (bytes part old : List ℕ) (n : ℕ) → located e true a ≡ Ok p → bytes_there p ≡ Ok bytes → n ≡ length (value_of bytes) → part ≡ take n bytes
    → (text_operand e alpha_kind.Variable a >>= joined_text old) ≡ joined_text old part
text_there e a p bytes part old n is_p is_b is_n is_phrase =
    ap (λ (x : TextAnswer). x >>= joined_text old) (variable_text e a ∙ ap text_of_cell is_p ∙ ap (λ (x : TextAnswer). x >>= (λ b. Ok (value_of b))) is_b)
    ∙ ap (joined_text old) (sym (is_phrase ∙ ap (λ (k : ℕ). take k bytes) is_n ∙ value_taken bytes))
