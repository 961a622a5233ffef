-- Names with subscripts or none, and a number after a comma, by their rows.
use Rattle.std.proofs.Common.{◌≡◌, ◌<◌, ◌≤◌, ℕ, suc, length, arith, sym, Bool, true, false, ◌==◌, if◌then◌else◌, List, [], ◌∷◌, drop, refl, ap, ◌∙◌, Ok, Some, None, IfSome, length-drop}
use Rattle.std.proofs.lemmas.Bool.Decides.{nat_tests}
use Rattle.std.specs.declared.option.Option.{Option}
use Rattle.std.specs.Option.{option_map_or}
use Rattle.b2_base.specs.Byte as byte
use Rattle.b2_base.specs.Lexical.{first, is_digit, is_letter}
use Rattle.b2_base.specs.declared.codes.TheConstants.{S10_OPEN, S11_CLOSE, S13_SEPARATOR, S17_NUMERIC, S18_ALPHA, S20_VARIABLE}
use Rattle.b2_dec.specs.Number.{Number}
use Rattle.b2_vars.specs.Names.{is_legal_name}
use Rattle.b2_vars.specs.declared.name.Var.{Var}
use Rattle.b2_atom.specs.Words.{Text}
use Rattle.b2_atom.specs.Tokens.Token.{Coded, Plain}
use Rattle.b2_atom.specs.Tree.{Trees}
use Rattle.b2_atom.specs.Tree.Trees.{Done, Put, In}
use Rattle.b2_atom.specs.Grammar.{row_items, starts}
use Rattle.b2_atom.specs.declared.words.Origin.TheVariants.{Atoms}
use Rattle.b2_atom.specs.declared.rows.TheConstants as row
use Rattle.b2_atom.specs.declared.forms.Start.TheVariants as start
use Rattle.b2_atom.specs.declared.forms.Leaf.TheVariants as leaf
use Rattle.b2_atom.specs.declared.forms.Item.{Item}
use Rattle.b2_atom.specs.declared.forms.Item.TheVariants.{Sign, Typed, Part, Maybe, Nest}
use Rattle.b2_rows.specs.Rows.{is_phrase, tree_at, after_phrase}
use Rattle.b2_rows.specs.Leaves.{is_leaf, leaf_bytes}
use Rattle.b2_rows.specs.Values.{variable_name, lettered}
use Rattle.b2_rows.specs.Optional.{maybe_phrase, maybe_tree, after_maybe}
use Rattle.b2_rows.specs.declared.leaves.Name.{Name}
use Rattle.b2_rows.proofs.Optional.{maybe_stands, begun_part, begun_tree, begun_rest, left_out_tree, left_out_rest}
use Rattle.b2_rows.proofs.Levels.{part_no_longer}
use Rattle.b2_expr.specs.Answers.{◌>>=◌}
use Rattle.b2_expr.specs.Functions.{subscript, column_written}
use Rattle.b2_expr.specs.Named.{after_name, name_row, name_leaf, is_alpha_kind, variable_of}
use Rattle.b2_expr.specs.Scope.{Context, hidden_by}
use Rattle.b2_expr.specs.Value.{value, operand, second, subscripts, located, element, branch_of, hidden_or, element_number}
use Rattle.b2_rows.specs.declared.operands.Operand.TheVariants as kind
use Rattle.b2_expr.specs.declared.named.NameKind.{NameKind}
use Rattle.b2_expr.specs.declared.named.NameKind.TheVariants as name_kind
use Rattle.b2_expr.specs.declared.operators.Level.TheVariants as level
use Rattle.b2_rows.proofs.RowsRead.{stands_of}

-- whether a sign stands where a part begins
begins : (c : ℕ) (t : Text) (b : Bool) → (first t == c) ≡ b → starts Atoms (start.Code c) t ≡ b
unfolding starts
begins c t b is = is

none_there : (c : ℕ) → (0 == suc c) ≡ true → ⊥
none_there c h = grind (arith, nat_tests)

is_there : (c : ℕ) (t : Text) → (first t == suc c) ≡ true → length (drop 1 t) < length t
is_there c [] h = absurd (none_there c h)
is_there c (b ∷ t) h = omega arith

-- a number after a comma
abbrev second_items : List Item
second_items = Sign byte.comma S13_SEPARATOR ∷ Part row.SUM ∷ []

second_row : row_items row.COMMA_NUMBER ≡ second_items
unfolding row_items
second_row = refl

here : (t : Text) → maybe_phrase (start.Code byte.comma) row.COMMA_NUMBER t ≡ true → (first t == byte.comma) ≡ true → is_phrase row.COMMA_NUMBER t ≡ true
here t ok is = begun_part (start.Code byte.comma) row.COMMA_NUMBER t ok (begins byte.comma t true is)

pub second_part : (t : Text) → maybe_phrase (start.Code byte.comma) row.COMMA_NUMBER t ≡ true → (first t == byte.comma) ≡ true → is_phrase row.SUM (drop 1 t) ≡ true
second_part t ok is = (stands_of row.COMMA_NUMBER second_items t second_row (here t ok is)).0.1.0

pub second_is : (e : Context) (t : Text) → maybe_phrase (start.Code byte.comma) row.COMMA_NUMBER t ≡ true → (first t == byte.comma) ≡ true
    → second e (maybe_tree (start.Code byte.comma) row.COMMA_NUMBER t) ≡ (value e level.Sum (tree_at row.SUM (drop 1 t)) >>= (λ x. Ok (Some x)))
unfolding second
second_is e t ok is =
    ap (second e) (begun_tree (start.Code byte.comma) row.COMMA_NUMBER t (begins byte.comma t true is))
    ∙ ap (λ (a : Trees). second e (In 1 a Done)) (stands_of row.COMMA_NUMBER second_items t second_row (here t ok is)).1

pub second_rest : (t : Text) → maybe_phrase (start.Code byte.comma) row.COMMA_NUMBER t ≡ true → (first t == byte.comma) ≡ true
    → after_maybe (start.Code byte.comma) row.COMMA_NUMBER t ≡ after_phrase row.SUM (drop 1 t)
second_rest t ok is =
    begun_rest (start.Code byte.comma) row.COMMA_NUMBER t (begins byte.comma t true is)
    ∙ (stands_of row.COMMA_NUMBER second_items t second_row (here t ok is)).2

pub no_second : (e : Context) (t : Text) → (first t == byte.comma) ≡ false → second e (maybe_tree (start.Code byte.comma) row.COMMA_NUMBER t) ≡ Ok None
unfolding second
no_second e t is = ap (second e) (left_out_tree (start.Code byte.comma) row.COMMA_NUMBER t (begins byte.comma t false is))

pub no_second_rest : (t : Text) → (first t == byte.comma) ≡ false → after_maybe (start.Code byte.comma) row.COMMA_NUMBER t ≡ t
no_second_rest t is = left_out_rest (start.Code byte.comma) row.COMMA_NUMBER t (begins byte.comma t false is)

pub second_shorter : (t : Text) → (first t == byte.comma) ≡ true → length (drop 1 t) < length t
second_shorter t is = is_there 43 t is

-- subscripts
abbrev subscripts_items : List Item
subscripts_items = Sign byte.opening S10_OPEN ∷ Nest row.ONE_OR_TWO_NUMBERS ∷ Sign byte.closing S11_CLOSE ∷ []

subscripts_row : row_items row.SUBSCRIPTS ≡ subscripts_items
unfolding row_items
subscripts_row = refl

abbrev numbers_items : List Item
numbers_items = Part row.SUM ∷ Maybe (start.Code byte.comma) row.COMMA_NUMBER ∷ []

numbers_row : row_items row.ONE_OR_TWO_NUMBERS ≡ numbers_items
unfolding row_items
numbers_row = refl

opened : (t : Text) → maybe_phrase (start.Code byte.opening) row.SUBSCRIPTS t ≡ true → (first t == byte.opening) ≡ true → is_phrase row.SUBSCRIPTS t ≡ true
opened t ok is = begun_part (start.Code byte.opening) row.SUBSCRIPTS t ok (begins byte.opening t true is)

numbers_of : (t : Text) → maybe_phrase (start.Code byte.opening) row.SUBSCRIPTS t ≡ true → (first t == byte.opening) ≡ true → is_phrase row.ONE_OR_TWO_NUMBERS (drop 1 t) ≡ true
numbers_of t ok is = (stands_of row.SUBSCRIPTS subscripts_items t subscripts_row (opened t ok is)).0.1.0

-- of one number or two
pub one_first : (t : Text) → is_phrase row.ONE_OR_TWO_NUMBERS t ≡ true → is_phrase row.SUM t ≡ true
one_first t ok = (stands_of row.ONE_OR_TWO_NUMBERS numbers_items t numbers_row ok).0.0

pub one_second : (t : Text) → is_phrase row.ONE_OR_TWO_NUMBERS t ≡ true → maybe_phrase (start.Code byte.comma) row.COMMA_NUMBER (after_phrase row.SUM t) ≡ true
one_second t ok = maybe_stands _ _ _ (stands_of row.ONE_OR_TWO_NUMBERS numbers_items t numbers_row ok).0.1

pub one_tree : (t : Text) → is_phrase row.ONE_OR_TWO_NUMBERS t ≡ true
    → tree_at row.ONE_OR_TWO_NUMBERS t ≡ In 2 (tree_at row.SUM t) (maybe_tree (start.Code byte.comma) row.COMMA_NUMBER (after_phrase row.SUM t))
unfolding maybe_tree
one_tree t ok = (stands_of row.ONE_OR_TWO_NUMBERS numbers_items t numbers_row ok).1

pub one_rest : (t : Text) → is_phrase row.ONE_OR_TWO_NUMBERS t ≡ true
    → after_phrase row.ONE_OR_TWO_NUMBERS t ≡ after_maybe (start.Code byte.comma) row.COMMA_NUMBER (after_phrase row.SUM t)
unfolding after_maybe
one_rest t ok = (stands_of row.ONE_OR_TWO_NUMBERS numbers_items t numbers_row ok).2

pub row_part : (t : Text) → maybe_phrase (start.Code byte.opening) row.SUBSCRIPTS t ≡ true → (first t == byte.opening) ≡ true → is_phrase row.SUM (drop 1 t) ≡ true
row_part t ok is = one_first (drop 1 t) (numbers_of t ok is)

pub column_part : (t : Text) → maybe_phrase (start.Code byte.opening) row.SUBSCRIPTS t ≡ true → (first t == byte.opening) ≡ true
    → maybe_phrase (start.Code byte.comma) row.COMMA_NUMBER (after_phrase row.SUM (drop 1 t)) ≡ true
column_part t ok is = one_second (drop 1 t) (numbers_of t ok is)

pub subscripts_is : (e : Context) (t : Text) → maybe_phrase (start.Code byte.opening) row.SUBSCRIPTS t ≡ true → (first t == byte.opening) ≡ true
    → subscripts e (maybe_tree (start.Code byte.opening) row.SUBSCRIPTS t)
    ≡ (value e level.Sum (tree_at row.SUM (drop 1 t)) >>= (λ r. second e (maybe_tree (start.Code byte.comma) row.COMMA_NUMBER (after_phrase row.SUM (drop 1 t))) >>= (λ c. Ok (record { row = subscript r; column = column_written c }))))
unfolding subscripts
subscripts_is e t ok is =
    ap (subscripts e) (begun_tree (start.Code byte.opening) row.SUBSCRIPTS t (begins byte.opening t true is))
    ∙ ap (λ (a : Trees). subscripts e (In 1 a Done)) (stands_of row.SUBSCRIPTS subscripts_items t subscripts_row (opened t ok is)).1
    ∙ ap (λ (a : Trees). subscripts e (In 1 (Put (Coded byte.opening) (In 2 a (Put (Coded byte.closing) Done))) Done)) (one_tree (drop 1 t) (numbers_of t ok is))

pub subscripts_rest : (t : Text) → maybe_phrase (start.Code byte.opening) row.SUBSCRIPTS t ≡ true → (first t == byte.opening) ≡ true
    → after_maybe (start.Code byte.opening) row.SUBSCRIPTS t ≡ drop 1 (after_maybe (start.Code byte.comma) row.COMMA_NUMBER (after_phrase row.SUM (drop 1 t)))
subscripts_rest t ok is =
    begun_rest (start.Code byte.opening) row.SUBSCRIPTS t (begins byte.opening t true is)
    ∙ (stands_of row.SUBSCRIPTS subscripts_items t subscripts_row (opened t ok is)).2
    ∙ ap (drop 1) (one_rest (drop 1 t) (numbers_of t ok is))

pub no_subscripts : (e : Context) (t : Text) → (first t == byte.opening) ≡ false → subscripts e (maybe_tree (start.Code byte.opening) row.SUBSCRIPTS t) ≡ Ok (record { row = 0; column = 0 })
unfolding subscripts
no_subscripts e t is = ap (subscripts e) (left_out_tree (start.Code byte.opening) row.SUBSCRIPTS t (begins byte.opening t false is))

pub no_subscripts_rest : (t : Text) → (first t == byte.opening) ≡ false → after_maybe (start.Code byte.opening) row.SUBSCRIPTS t ≡ t
no_subscripts_rest t is = left_out_rest (start.Code byte.opening) row.SUBSCRIPTS t (begins byte.opening t false is)

pub row_shorter : (t : Text) → (first t == byte.opening) ≡ true → length (drop 1 t) < length t
row_shorter t is = is_there 39 t is

pub column_shorter : (t : Text) → (first t == byte.opening) ≡ true → length (after_phrase row.SUM (drop 1 t)) < length t
column_shorter t is = let a = row_shorter t is in let b = part_no_longer row.SUM (drop 1 t) in omega (arith, a, b)

-- a name with subscripts or none
abbrev name_code : NameKind → ℕ
name_code name_kind.Number = S17_NUMERIC
name_code name_kind.Alpha = S18_ALPHA
name_code name_kind.NumberReceiver = S20_VARIABLE
name_code name_kind.AlphaReceiver = S20_VARIABLE

abbrev name_items : NameKind → List Item
name_items k = Typed (name_leaf k) (name_code k) ∷ Maybe (start.Code byte.opening) row.SUBSCRIPTS ∷ []

name_row_items : (k : NameKind) → row_items (name_row k) ≡ name_items k
unfolding row_items
name_row_items name_kind.Number = refl
name_row_items name_kind.Alpha = refl
name_row_items name_kind.NumberReceiver = refl
name_row_items name_kind.AlphaReceiver = refl

abbrev pub subscripts_tree : NameKind → Text → Trees
subscripts_tree k t = maybe_tree (start.Code byte.opening) row.SUBSCRIPTS (after_name k t)

pub name_here : (k : NameKind) (t : Text) → is_phrase (name_row k) t ≡ true → is_leaf (name_leaf k) t ≡ true
name_here k t ok = (stands_of (name_row k) (name_items k) t (name_row_items k) ok).0.0

pub number_leaf : (t : Text) → is_phrase row.VARIABLE t ≡ true → is_leaf leaf.Name t ≡ true
number_leaf t ok = name_here name_kind.Number t ok

by_alpha : (k : NameKind) (t : Text) → is_alpha_kind k ≡ true → is_leaf (name_leaf k) t ≡ true → is_leaf leaf.AlphaName t ≡ true
by_alpha name_kind.Number t h ok = cc
by_alpha name_kind.Alpha t h ok = ok
by_alpha name_kind.NumberReceiver t h ok = cc
by_alpha name_kind.AlphaReceiver t h ok = ok

by_number : (k : NameKind) (t : Text) → is_alpha_kind k ≡ false → is_leaf (name_leaf k) t ≡ true → is_leaf leaf.Name t ≡ true
by_number name_kind.Number t h ok = ok
by_number name_kind.Alpha t h ok = cc
by_number name_kind.NumberReceiver t h ok = ok
by_number name_kind.AlphaReceiver t h ok = cc

pub alpha_there : (k : NameKind) (t : Text) → is_phrase (name_row k) t ≡ true → is_alpha_kind k ≡ true → is_leaf leaf.AlphaName t ≡ true
alpha_there k t ok h = by_alpha k t h (name_here k t ok)

pub numeric_there : (k : NameKind) (t : Text) → is_phrase (name_row k) t ≡ true → is_alpha_kind k ≡ false → is_leaf leaf.Name t ≡ true
numeric_there k t ok h = by_number k t h (name_here k t ok)

pub alpha_leaf_is : (k : NameKind) → is_alpha_kind k ≡ true → name_leaf k ≡ leaf.AlphaName
alpha_leaf_is name_kind.Number h = cc
alpha_leaf_is name_kind.Alpha h = refl
alpha_leaf_is name_kind.NumberReceiver h = cc
alpha_leaf_is name_kind.AlphaReceiver h = refl

pub number_leaf_is : (k : NameKind) → is_alpha_kind k ≡ false → name_leaf k ≡ leaf.Name
number_leaf_is name_kind.Number h = refl
number_leaf_is name_kind.Alpha h = cc
number_leaf_is name_kind.NumberReceiver h = refl
number_leaf_is name_kind.AlphaReceiver h = cc

pub located_subscripts : (k : NameKind) (t : Text) → is_phrase (name_row k) t ≡ true → maybe_phrase (start.Code byte.opening) row.SUBSCRIPTS (after_name k t) ≡ true
located_subscripts name_kind.Number t ok = maybe_stands _ _ _ (stands_of row.VARIABLE (name_items name_kind.Number) t (name_row_items name_kind.Number) ok).0.1
located_subscripts name_kind.Alpha t ok = maybe_stands _ _ _ (stands_of row.ALPHA_VARIABLE (name_items name_kind.Alpha) t (name_row_items name_kind.Alpha) ok).0.1
located_subscripts name_kind.NumberReceiver t ok = maybe_stands _ _ _ (stands_of row.NUMERIC_RECEIVER (name_items name_kind.NumberReceiver) t (name_row_items name_kind.NumberReceiver) ok).0.1
located_subscripts name_kind.AlphaReceiver t ok = maybe_stands _ _ _ (stands_of row.ALPHA_RECEIVER_VARIABLE (name_items name_kind.AlphaReceiver) t (name_row_items name_kind.AlphaReceiver) ok).0.1

name_tree : (k : NameKind) (t : Text) → is_phrase (name_row k) t ≡ true → tree_at (name_row k) t ≡ Put (Plain (name_leaf k) (leaf_bytes (name_leaf k) t)) (subscripts_tree k t)
unfolding maybe_tree
name_tree name_kind.Number t ok = (stands_of row.VARIABLE (name_items name_kind.Number) t (name_row_items name_kind.Number) ok).1
name_tree name_kind.Alpha t ok = (stands_of row.ALPHA_VARIABLE (name_items name_kind.Alpha) t (name_row_items name_kind.Alpha) ok).1
name_tree name_kind.NumberReceiver t ok = (stands_of row.NUMERIC_RECEIVER (name_items name_kind.NumberReceiver) t (name_row_items name_kind.NumberReceiver) ok).1
name_tree name_kind.AlphaReceiver t ok = (stands_of row.ALPHA_RECEIVER_VARIABLE (name_items name_kind.AlphaReceiver) t (name_row_items name_kind.AlphaReceiver) ok).1

pub located_rest : (k : NameKind) (t : Text) → is_phrase (name_row k) t ≡ true → after_phrase (name_row k) t ≡ after_maybe (start.Code byte.opening) row.SUBSCRIPTS (after_name k t)
unfolding after_maybe
located_rest name_kind.Number t ok = (stands_of row.VARIABLE (name_items name_kind.Number) t (name_row_items name_kind.Number) ok).2
located_rest name_kind.Alpha t ok = (stands_of row.ALPHA_VARIABLE (name_items name_kind.Alpha) t (name_row_items name_kind.Alpha) ok).2
located_rest name_kind.NumberReceiver t ok = (stands_of row.NUMERIC_RECEIVER (name_items name_kind.NumberReceiver) t (name_row_items name_kind.NumberReceiver) ok).2
located_rest name_kind.AlphaReceiver t ok = (stands_of row.ALPHA_RECEIVER_VARIABLE (name_items name_kind.AlphaReceiver) t (name_row_items name_kind.AlphaReceiver) ok).2

branch_by : (t : Text) (b : Bool) → (first t == byte.opening) ≡ b → (branch_of (maybe_tree (start.Code byte.opening) row.SUBSCRIPTS t) == 1) ≡ b
branch_by t true is = ap (λ (a : Trees). branch_of a == 1) (begun_tree (start.Code byte.opening) row.SUBSCRIPTS t (begins byte.opening t true is))
branch_by t false is = ap (λ (a : Trees). branch_of a == 1) (left_out_tree (start.Code byte.opening) row.SUBSCRIPTS t (begins byte.opening t false is))

pub branch_is : (t : Text) → (branch_of (maybe_tree (start.Code byte.opening) row.SUBSCRIPTS t) == 1) ≡ (first t == byte.opening)
branch_is t = branch_by t (first t == byte.opening) refl

pub located_is : (e : Context) (k : NameKind) (t : Text) → is_phrase (name_row k) t ≡ true
    → located e (is_alpha_kind k) (tree_at (name_row k) t)
    ≡ element e.around (variable_name (is_alpha_kind k) (leaf_bytes (name_leaf k) t)) (branch_of (subscripts_tree k t)) (subscripts e (subscripts_tree k t))
located_is e k t ok = ap (located e (is_alpha_kind k)) (name_tree k t ok)

pub drop_no_longer : (n : ℕ) (t : Text) → length (drop n t) ≤ length t
drop_no_longer n t = omega (arith, length-drop n t)

-- a name that is typed is legal
digit_legal : (w : Text) (b : Bool) → is_digit (first w) ≡ b → option_map_or is_digit (if b then Some (first w) else None) true ≡ true
digit_legal w true is = is
digit_legal w false is = refl

lettered_legal : (alpha global array : Bool) (w : Text) → is_letter (first w) ≡ true → is_legal_name (variable_of (lettered alpha global w) array) ≡ true
lettered_legal alpha global array w h = rw h (digit_legal (drop 1 w) (is_digit (first (drop 1 w))) refl)

pub legal_name : (alpha array : Bool) (w : Text) → is_letter (variable_name alpha w).letter ≡ true → is_legal_name (variable_of (variable_name alpha w) array) ≡ true
legal_name alpha array w h = lettered_legal alpha (first w == byte.at_sign) array (if first w == byte.at_sign then drop 1 w else w) h

-- a numeric variable, where the parameter hides it, and where it doesn't
variable_is : (e : Context) (t : Text) → is_phrase row.VARIABLE t ≡ true → (b : Bool) → (first (after_name name_kind.Number t) == byte.opening) ≡ b
    → operand e kind.Variable (tree_at row.VARIABLE t)
    ≡ hidden_or (if b then None else hidden_by e.parameter (variable_name false (leaf_bytes leaf.Name t))) (element_number (located e false (tree_at row.VARIABLE t)))
unfolding operand
variable_is e t ok b is =
    ap (operand e kind.Variable) (name_tree name_kind.Number t ok)
    ∙ ap (λ (n : Bool). hidden_or (if n then None else hidden_by e.parameter (variable_name false (leaf_bytes leaf.Name t)))
    (element_number (element e.around (variable_name false (leaf_bytes leaf.Name t)) (branch_of (subscripts_tree name_kind.Number t)) (subscripts e (subscripts_tree name_kind.Number t))))) (branch_by (after_name name_kind.Number t) b is)
    ∙ ap (λ x. hidden_or (if b then None else hidden_by e.parameter (variable_name false (leaf_bytes leaf.Name t))) (element_number x)) (sym (located_is e name_kind.Number t ok))

pub variable_hidden : (e : Context) (t : Text) (x : Number) → is_phrase row.VARIABLE t ≡ true → (first (after_name name_kind.Number t) == byte.opening) ≡ false
    → hidden_by e.parameter (variable_name false (leaf_bytes leaf.Name t)) ≡ Some x → operand e kind.Variable (tree_at row.VARIABLE t) ≡ Ok x
variable_hidden e t x ok is h = variable_is e t ok false is ∙ ap (λ (o : Option Number). hidden_or o (element_number (located e false (tree_at row.VARIABLE t)))) h

pub variable_shown : (e : Context) (t : Text) → is_phrase row.VARIABLE t ≡ true → (first (after_name name_kind.Number t) == byte.opening) ≡ false
    → hidden_by e.parameter (variable_name false (leaf_bytes leaf.Name t)) ≡ None → operand e kind.Variable (tree_at row.VARIABLE t) ≡ element_number (located e false (tree_at row.VARIABLE t))
variable_shown e t ok is h = variable_is e t ok false is ∙ ap (λ (o : Option Number). hidden_or o (element_number (located e false (tree_at row.VARIABLE t)))) h

pub variable_array : (e : Context) (t : Text) → is_phrase row.VARIABLE t ≡ true → (first (after_name name_kind.Number t) == byte.opening) ≡ true
    → operand e kind.Variable (tree_at row.VARIABLE t) ≡ element_number (located e false (tree_at row.VARIABLE t))
variable_array e t ok is = variable_is e t ok true is

-- outside a function no variable is hidden
plain_by : (e : Context) (t : Text) (b : Bool) → is_phrase row.VARIABLE t ≡ true → (first (after_name name_kind.Number t) == byte.opening) ≡ b → e.parameter ≡ None
    → operand e kind.Variable (tree_at row.VARIABLE t) ≡ element_number (located e false (tree_at row.VARIABLE t))
plain_by e t true ok is none = variable_array e t ok is
plain_by e t false ok is none = variable_shown e t ok is (ap (λ p. hidden_by p (variable_name false (leaf_bytes leaf.Name t))) none)

pub variable_plain : (e : Context) (t : Text) → is_phrase row.VARIABLE t ≡ true → e.parameter ≡ None
    → operand e kind.Variable (tree_at row.VARIABLE t) ≡ element_number (located e false (tree_at row.VARIABLE t))
variable_plain e t ok none = plain_by e t (first (after_name name_kind.Number t) == byte.opening) ok refl none

pub variable_rest : (t : Text) → is_phrase row.VARIABLE t ≡ true → (first (after_name name_kind.Number t) == byte.opening) ≡ false → after_phrase row.VARIABLE t ≡ after_name name_kind.Number t
variable_rest t ok is = located_rest name_kind.Number t ok ∙ no_subscripts_rest (after_name name_kind.Number t) is

pub hidden_some : (e : Context) (t : Text) (found : Option Number) → is_phrase row.VARIABLE t ≡ true → (first (after_name name_kind.Number t) == byte.opening) ≡ false
    → found ≡ hidden_by e.parameter (variable_name false (leaf_bytes leaf.Name t)) → IfSome found (λ x. operand e kind.Variable (tree_at row.VARIABLE t) ≡ Ok x)
hidden_some e t None ok is h = tt
hidden_some e t (Some x) ok is h = variable_hidden e t x ok is (sym h)

-- the variable of a name is legal, and alpha where its kind is
pub is_legal : (name : Name) (array : Bool) (var : Var) → var ≡ variable_of name array → ((b : Bool) → is_legal_name (variable_of name b) ≡ true) → is_legal_name var ≡ true
is_legal name array var is legal = ap is_legal_name is ∙ legal array

pub is_alpha : (k : NameKind) (name : Name) (array : Bool) (var : Var) (bytes : Text) → var ≡ variable_of name array → name ≡ variable_name (is_alpha_kind k) bytes → var.alpha ≡ is_alpha_kind k
is_alpha k name array var bytes is is_name = ap (λ (v : Var). v.alpha) is ∙ ap (λ (n : Name). n.alpha) is_name
