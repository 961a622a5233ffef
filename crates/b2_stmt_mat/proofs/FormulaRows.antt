-- The right sides of MAT, by their rows.
use Rattle.std.proofs.Common.{◌≡◌, ℕ, ◌==◌, Err, Bool, true, false, if◌then◌else◌, List, [], ◌∷◌, drop, Some, None, Result, Ok, refl, sym, ap, subst, ◌∙◌}
use Rattle.b2_base.specs.Byte as byte
use Rattle.b2_base.specs.Lexical.{first}
use Rattle.b2_atom.specs.Words.{Text}
use Rattle.b2_atom.specs.Leaves.{leaf_width}
use Rattle.b2_atom.specs.Tokens.Token.{Coded, Plain}
use Rattle.b2_atom.specs.Tree.{Trees}
use Rattle.b2_atom.specs.Tree.Trees.{Done, Put, In}
use Rattle.b2_atom.specs.Grammar.{is_among, row_items, starts}
use Rattle.b2_atom.specs.declared.words.Origin.TheVariants.{Atoms}
use Rattle.b2_atom.specs.declared.words.TheConstants as word
use Rattle.b2_atom.specs.declared.rows.TheConstants as row
use Rattle.b2_atom.specs.declared.forms.Start.TheVariants as start
use Rattle.b2_atom.specs.declared.forms.Leaf.TheVariants as leaf
use Rattle.b2_atom.specs.declared.forms.Item.{Item}
use Rattle.b2_atom.specs.declared.forms.Item.TheVariants.{Word, Sign, Among, Typed, Nest, Maybe, Either}
use Rattle.b2_base.specs.declared.codes.TheConstants.{S10_OPEN, S11_CLOSE, S12_EQUALS, S20_VARIABLE, S22_WORD}
use Rattle.b2_rows.specs.Choices.{ReadAs, first_branch, second_branch}
use Rattle.b2_rows.specs.Leaves.{is_leaf, leaf_bytes}
use Rattle.b2_rows.specs.Rows.{is_phrase, tree_at, after_phrase, When}
use Rattle.b2_rows.proofs.Choices.{either_first, either_second}
use Rattle.b2_rows.proofs.ChainRows.{sign_is}
use Rattle.b2_rows.proofs.Links.{OneSign, one_sign}
use Rattle.b2_rows.proofs.RowsRead.{stands_of}
use Rattle.b2_receiver.specs.declared.receiver.Array.{Array}
use Rattle.b2_dims.specs.Dimensions.{dimensions_in}
use Rattle.b2_expr.specs.Answers.{◌>>=◌}
use Rattle.b2_expr.specs.Scope.{Context}
use Rattle.b2_expr.specs.Value.{value}
use Rattle.b2_expr.specs.declared.operators.Level.TheVariants as level
use Rattle.b2_stmt_mat.specs.Arrays.{array_of}
use Rattle.b2_stmt_mat.specs.Formulas.{assignment_in, but_scaled_in, but_transposed_in, fill_of, filled_in, has_second, matrices_in, op_of, scaled_in, second_in, transposed_in}
use Rattle.b2_stmt_mat.specs.declared.formulas.Formula.{Formula}
use Rattle.b2_stmt_mat.specs.declared.formulas.Formula.TheVariants as formula

code_begins : (c : ℕ) (t : Text) (b : Bool) → (first t == c) ≡ b → starts Atoms (start.Code c) t ≡ b
unfolding starts
code_begins c t b is = is

taken_way : (b : Bool) (x y : Type 0) → b ≡ true → When b x y → x
taken_way true x y is h = h
taken_way false x y is h = cc

other_way : (b : Bool) (x y : Type 0) → b ≡ false → When b x y → y
other_way false x y is h = h
other_way true x y is h = cc

two : (t : Text) → drop 1 (drop 1 t) ≡ drop 2 t
two [] = refl
two (a ∷ t) = refl

abbrev name_at : Text → Text
name_at t = leaf_bytes leaf.Name t

-- a multiple
abbrev scaled_items : List Item
scaled_items = Sign byte.opening S10_OPEN ∷ Nest row.SUM ∷ Sign byte.closing S11_CLOSE ∷ Sign byte.asterisk S22_WORD ∷ Typed leaf.Name S20_VARIABLE ∷ []

scaled_row : row_items row.SCALED ≡ scaled_items
unfolding row_items
scaled_row = refl

abbrev pub scaled_text : Text → Text
scaled_text t = drop 2 (after_phrase row.SUM (drop 1 t))

pub scaled_sum : (t : Text) → is_phrase row.SCALED t ≡ true → is_phrase row.SUM (drop 1 t) ≡ true
scaled_sum t ok = (stands_of row.SCALED scaled_items t scaled_row ok).0.1.0

pub scaled_name : (t : Text) → is_phrase row.SCALED t ≡ true → is_leaf leaf.Name (scaled_text t) ≡ true
scaled_name t ok = subst (λ (u : Text). is_leaf leaf.Name u ≡ true) (two (after_phrase row.SUM (drop 1 t))) (stands_of row.SCALED scaled_items t scaled_row ok).0.1.1.1.1.0

pub scaled_is : (s : Context) (t : Text) → is_phrase row.SCALED t ≡ true
    → scaled_in s (tree_at row.SCALED t) ≡ (value s level.Sum (tree_at row.SUM (drop 1 t)) >>= (λ k. array_of s.around false (name_at (scaled_text t)) >>= (λ b. Ok (formula.Scaled k b))))
unfolding scaled_in
scaled_is s t ok =
    ap (scaled_in s) (stands_of row.SCALED scaled_items t scaled_row ok).1
    ∙ ap (λ (u : Text). value s level.Sum (tree_at row.SUM (drop 1 t)) >>= (λ k. array_of s.around false (name_at u) >>= (λ b. Ok (formula.Scaled k b)))) (two (after_phrase row.SUM (drop 1 t)))

-- an array transposed
abbrev transposed_items : List Item
transposed_items = Word word.TRN_OPEN ∷ Nest row.NUMERIC_NAME ∷ Sign byte.closing S11_CLOSE ∷ []

transposed_row : row_items row.TRANSPOSED ≡ transposed_items
unfolding row_items
transposed_row = refl

abbrev name_items : List Item
name_items = Typed leaf.Name S20_VARIABLE ∷ []

name_row : row_items row.NUMERIC_NAME ≡ name_items
unfolding row_items
name_row = refl

nested : (t : Text) → is_phrase row.TRANSPOSED t ≡ true → is_phrase row.NUMERIC_NAME (drop 1 t) ≡ true
nested t ok = (stands_of row.TRANSPOSED transposed_items t transposed_row ok).0.1.0

pub transposed_name : (t : Text) → is_phrase row.TRANSPOSED t ≡ true → is_leaf leaf.Name (drop 1 t) ≡ true
transposed_name t ok = (stands_of row.NUMERIC_NAME name_items (drop 1 t) name_row (nested t ok)).0.0

transposed_by : (s : Context) (n : Text) (a : Trees) (rest : Trees) → a ≡ Put (Plain leaf.Name n) Done → transposed_in s (Put (Coded word.TRN_OPEN) (In 2 a rest)) ≡ (array_of s.around false n >>= (λ b. Ok (formula.Transposed b)))
unfolding transposed_in
transposed_by s n a rest is = ap (λ (a : Trees). transposed_in s (Put (Coded word.TRN_OPEN) (In 2 a rest))) is

pub transposed_is : (s : Context) (t : Text) → is_phrase row.TRANSPOSED t ≡ true → transposed_in s (tree_at row.TRANSPOSED t) ≡ (array_of s.around false (name_at (drop 1 t)) >>= (λ b. Ok (formula.Transposed b)))
transposed_is s t ok =
    ap (transposed_in s) (stands_of row.TRANSPOSED transposed_items t transposed_row ok).1
    ∙ transposed_by s (name_at (drop 1 t)) (tree_at row.NUMERIC_NAME (drop 1 t)) _ (stands_of row.NUMERIC_NAME name_items (drop 1 t) name_row (nested t ok)).1

-- CON, ZER and IDN
abbrev filled_items : List Item
filled_items = Among word.CON word.IDN S20_VARIABLE ∷ Maybe (start.Code byte.opening) row.SUBSCRIPTS ∷ []

filled_row : row_items row.FILLED ≡ filled_items
unfolding row_items
filled_row = refl

abbrev Opens : Text → Bool → Type 0
Opens t b = (first (drop 1 t) == byte.opening) ≡ b

pub filled_dimensions : (t : Text) → is_phrase row.FILLED t ≡ true → Opens t true → is_phrase row.SUBSCRIPTS (drop 1 t) ≡ true
filled_dimensions t ok is = (taken_way (starts Atoms (start.Code byte.opening) (drop 1 t)) _ _ (code_begins byte.opening (drop 1 t) true is) (stands_of row.FILLED filled_items t filled_row ok).0.1).0

abbrev filled_tree : Text → Bool → Trees
filled_tree t b = Put (Coded (first t)) (if b then In 1 (tree_at row.SUBSCRIPTS (drop 1 t)) Done else In 0 Done Done)

filled_tree_is : (t : Text) (b : Bool) → is_phrase row.FILLED t ≡ true → Opens t b → tree_at row.FILLED t ≡ filled_tree t b
filled_tree_is t b ok is = (stands_of row.FILLED filled_items t filled_row ok).1 ∙ ap (filled_tree t) (code_begins byte.opening (drop 1 t) b is)

pub filled_with_dimensions : (s : Context) (t : Text) → is_phrase row.FILLED t ≡ true → Opens t true
    → filled_in s (tree_at row.FILLED t) ≡ (dimensions_in s (tree_at row.SUBSCRIPTS (drop 1 t)) >>= (λ d. Ok (Some d)) >>= (λ d. Ok (formula.Filled (fill_of (first t)) d)))
unfolding filled_in
filled_with_dimensions s t ok is = ap (filled_in s) (filled_tree_is t true ok is)

pub filled_without : (s : Context) (t : Text) → is_phrase row.FILLED t ≡ true → Opens t false → filled_in s (tree_at row.FILLED t) ≡ Ok (formula.Filled (fill_of (first t)) None)
unfolding filled_in
filled_without s t ok is = ap (filled_in s) (filled_tree_is t false ok is)

-- the second of two arrays, after a sign
abbrev second_items : List Item
second_items = Either (start.Code byte.asterisk) row.TIMES row.SIGN ∷ Typed leaf.Name S20_VARIABLE ∷ []

second_row : row_items row.SECOND_MATRIX ≡ second_items
unfolding row_items
second_row = refl

times_sign : (t : Text) → is_phrase row.TIMES t ≡ true → OneSign row.TIMES t
unfolding row_items
times_sign t ok = one_sign row.TIMES byte.asterisk S22_WORD t refl refl ok

abbrev second_of : Context → Array → ℕ → Text → Result Formula ℕ
second_of s b sign u = array_of s.around false (name_at u) >>= (λ c. Ok (formula.Combined (op_of sign) b c))

-- its name stands after the sign, whichever that is
record Second (a : Trees) (t : Text) : Type 0 where
  name : is_leaf leaf.Name (drop 1 t) ≡ true
  is : (s : Context) (b : Array) → second_in s b a ≡ second_of s b (first t) (drop 1 t)

after_sign : (n k : ℕ) (t : Text) → OneSign n t → is_leaf leaf.Name (after_phrase n t) ≡ true → Second (In k (tree_at n t) (Put (Plain leaf.Name (name_at (after_phrase n t))) Done)) t
after_sign n k t one ok = record {
  name = subst (λ (u : Text). is_leaf leaf.Name u ≡ true) one.rest ok;
  is = λ s b. ap (λ (c : ℕ). second_of s b c (after_phrase n t)) one.code ∙ ap (λ (u : Text). second_of s b (first t) u) one.rest;
}

second_by : (x : Bool) (t : Text) (a : Trees)
    → When x ((is_phrase row.TIMES t ≡ true) × ((is_leaf leaf.Name (after_phrase row.TIMES t) ≡ true) × Unit {0})) ((is_phrase row.SIGN t ≡ true) × ((is_leaf leaf.Name (after_phrase row.SIGN t) ≡ true) × Unit {0}))
    → a ≡ (if x then In 1 (tree_at row.TIMES t) (Put (Plain leaf.Name (name_at (after_phrase row.TIMES t))) Done) else In 0 (tree_at row.SIGN t) (Put (Plain leaf.Name (name_at (after_phrase row.SIGN t))) Done)) → Second a t
second_by true t a w is = subst (λ (u : Trees). Second u t) (sym is) (after_sign row.TIMES 1 t (times_sign t w.0) w.1.0)
second_by false t a w is = subst (λ (u : Trees). Second u t) (sym is) (after_sign row.SIGN 0 t (sign_is t w.0) w.1.0)

second : (t : Text) → is_phrase row.SECOND_MATRIX t ≡ true → Second (tree_at row.SECOND_MATRIX t) t
second t ok = second_by (starts Atoms (start.Code byte.asterisk) t) t (tree_at row.SECOND_MATRIX t) (stands_of row.SECOND_MATRIX second_items t second_row ok).0 (stands_of row.SECOND_MATRIX second_items t second_row ok).1

pub second_name : (t : Text) → is_phrase row.SECOND_MATRIX t ≡ true → is_leaf leaf.Name (drop 1 t) ≡ true
second_name t ok = (second t ok).name

pub second_is : (s : Context) (b : Array) (t : Text) → is_phrase row.SECOND_MATRIX t ≡ true → second_in s b (tree_at row.SECOND_MATRIX t) ≡ (array_of s.around false (name_at (drop 1 t)) >>= (λ c. Ok (formula.Combined (op_of (first t)) b c)))
second_is s b t ok = (second t ok).is s b

-- one array, or two
abbrev matrices_items : List Item
matrices_items = Typed leaf.Name S20_VARIABLE ∷ Maybe (start.Three byte.asterisk byte.plus byte.minus) row.SECOND_MATRIX ∷ []

matrices_row : row_items row.MATRICES ≡ matrices_items
unfolding row_items
matrices_row = refl

abbrev pub past_name : Text → Text
past_name t = drop (leaf_width Atoms leaf.Name t) t

sign_begins : (t : Text) (b : Bool) → has_second t ≡ b → starts Atoms (start.Three byte.asterisk byte.plus byte.minus) t ≡ b
unfolding starts
sign_begins t b is = is

pub first_name : (t : Text) → is_phrase row.MATRICES t ≡ true → is_leaf leaf.Name t ≡ true
first_name t ok = (stands_of row.MATRICES matrices_items t matrices_row ok).0.0

pub second_here : (t : Text) → is_phrase row.MATRICES t ≡ true → has_second (past_name t) ≡ true → is_phrase row.SECOND_MATRIX (past_name t) ≡ true
second_here t ok is = (taken_way (starts Atoms (start.Three byte.asterisk byte.plus byte.minus) (past_name t)) _ _ (sign_begins (past_name t) true is) (stands_of row.MATRICES matrices_items t matrices_row ok).0.1).0

abbrev matrices_tree : Text → Bool → Trees
matrices_tree t b = Put (Plain leaf.Name (name_at t)) (if b then In 1 (tree_at row.SECOND_MATRIX (past_name t)) Done else In 0 Done Done)

matrices_tree_is : (t : Text) (b : Bool) → is_phrase row.MATRICES t ≡ true → has_second (past_name t) ≡ b → tree_at row.MATRICES t ≡ matrices_tree t b
matrices_tree_is t b ok is = (stands_of row.MATRICES matrices_items t matrices_row ok).1 ∙ ap (matrices_tree t) (sign_begins (past_name t) b is)

pub two_are : (s : Context) (t : Text) → is_phrase row.MATRICES t ≡ true → has_second (past_name t) ≡ true
    → matrices_in s (tree_at row.MATRICES t) ≡ (array_of s.around false (name_at t) >>= (λ b. second_in s b (tree_at row.SECOND_MATRIX (past_name t))))
unfolding matrices_in
two_are s t ok is = ap (matrices_in s) (matrices_tree_is t true ok is)

pub one_is : (s : Context) (t : Text) → is_phrase row.MATRICES t ≡ true → has_second (past_name t) ≡ false → matrices_in s (tree_at row.MATRICES t) ≡ (array_of s.around false (name_at t) >>= (λ b. Ok (formula.Copied b)))
unfolding matrices_in
one_is s t ok is = ap (matrices_in s) (matrices_tree_is t false ok is)

refused_by : (x : Bool) (s : Context) (t : Text) (code : ℕ) → array_of s.around false (name_at t) ≡ Err code → matrices_in s (matrices_tree t x) ≡ Err code
unfolding matrices_in
refused_by true s t code is = ap (λ (r : Result Array ℕ). r >>= (λ b. second_in s b (tree_at row.SECOND_MATRIX (past_name t)))) is
refused_by false s t code is = ap (λ (r : Result Array ℕ). r >>= (λ b. Ok (formula.Copied b))) is

pub first_refused : (s : Context) (t : Text) (code : ℕ) → is_phrase row.MATRICES t ≡ true → array_of s.around false (name_at t) ≡ Err code → matrices_in s (tree_at row.MATRICES t) ≡ Err code
first_refused s t code ok is = ap (matrices_in s) (matrices_tree_is t (has_second (past_name t)) ok refl) ∙ refused_by (has_second (past_name t)) s t code is

-- which of them stands there
but_transposed_row : row_items row.MATRIX_BUT_TRANSPOSED ≡ Either (start.Among word.CON word.IDN) row.FILLED row.MATRICES ∷ []
unfolding row_items
but_transposed_row = refl

constant_begins : (t : Text) (b : Bool) → is_among word.CON word.IDN (first t) ≡ b → starts Atoms (start.Among word.CON word.IDN) t ≡ b
unfolding starts
constant_begins t b is = is

constant_read : (t : Text) → is_phrase row.MATRIX_BUT_TRANSPOSED t ≡ true → is_among word.CON word.IDN (first t) ≡ true → ReadAs row.MATRIX_BUT_TRANSPOSED row.FILLED first_branch t
constant_read t ok is = either_first _ _ _ _ t but_transposed_row ok (constant_begins t true is)

matrices_read : (t : Text) → is_phrase row.MATRIX_BUT_TRANSPOSED t ≡ true → is_among word.CON word.IDN (first t) ≡ false → ReadAs row.MATRIX_BUT_TRANSPOSED row.MATRICES second_branch t
matrices_read t ok is = either_second _ _ _ _ t but_transposed_row ok (constant_begins t false is)

pub constant_here : (t : Text) → is_phrase row.MATRIX_BUT_TRANSPOSED t ≡ true → is_among word.CON word.IDN (first t) ≡ true → is_phrase row.FILLED t ≡ true
constant_here t ok is = (constant_read t ok is).part

pub constant_is : (s : Context) (t : Text) → is_phrase row.MATRIX_BUT_TRANSPOSED t ≡ true → is_among word.CON word.IDN (first t) ≡ true → but_transposed_in s (tree_at row.MATRIX_BUT_TRANSPOSED t) ≡ filled_in s (tree_at row.FILLED t)
unfolding but_transposed_in
constant_is s t ok is = ap (but_transposed_in s) (constant_read t ok is).tree

pub matrices_here : (t : Text) → is_phrase row.MATRIX_BUT_TRANSPOSED t ≡ true → is_among word.CON word.IDN (first t) ≡ false → is_phrase row.MATRICES t ≡ true
matrices_here t ok is = (matrices_read t ok is).part

pub matrices_are : (s : Context) (t : Text) → is_phrase row.MATRIX_BUT_TRANSPOSED t ≡ true → is_among word.CON word.IDN (first t) ≡ false → but_transposed_in s (tree_at row.MATRIX_BUT_TRANSPOSED t) ≡ matrices_in s (tree_at row.MATRICES t)
unfolding but_transposed_in
matrices_are s t ok is = ap (but_transposed_in s) (matrices_read t ok is).tree

but_scaled_row : row_items row.MATRIX_BUT_SCALED ≡ Either (start.Code word.TRN_OPEN) row.TRANSPOSED row.MATRIX_BUT_TRANSPOSED ∷ []
unfolding row_items
but_scaled_row = refl

trn_read : (t : Text) → is_phrase row.MATRIX_BUT_SCALED t ≡ true → (first t == word.TRN_OPEN) ≡ true → ReadAs row.MATRIX_BUT_SCALED row.TRANSPOSED first_branch t
trn_read t ok is = either_first _ _ _ _ t but_scaled_row ok (code_begins word.TRN_OPEN t true is)

no_trn_read : (t : Text) → is_phrase row.MATRIX_BUT_SCALED t ≡ true → (first t == word.TRN_OPEN) ≡ false → ReadAs row.MATRIX_BUT_SCALED row.MATRIX_BUT_TRANSPOSED second_branch t
no_trn_read t ok is = either_second _ _ _ _ t but_scaled_row ok (code_begins word.TRN_OPEN t false is)

pub trn_here : (t : Text) → is_phrase row.MATRIX_BUT_SCALED t ≡ true → (first t == word.TRN_OPEN) ≡ true → is_phrase row.TRANSPOSED t ≡ true
trn_here t ok is = (trn_read t ok is).part

pub trn_is : (s : Context) (t : Text) → is_phrase row.MATRIX_BUT_SCALED t ≡ true → (first t == word.TRN_OPEN) ≡ true → but_scaled_in s (tree_at row.MATRIX_BUT_SCALED t) ≡ transposed_in s (tree_at row.TRANSPOSED t)
unfolding but_scaled_in
trn_is s t ok is = ap (but_scaled_in s) (trn_read t ok is).tree

pub no_trn_here : (t : Text) → is_phrase row.MATRIX_BUT_SCALED t ≡ true → (first t == word.TRN_OPEN) ≡ false → is_phrase row.MATRIX_BUT_TRANSPOSED t ≡ true
no_trn_here t ok is = (no_trn_read t ok is).part

pub no_trn_is : (s : Context) (t : Text) → is_phrase row.MATRIX_BUT_SCALED t ≡ true → (first t == word.TRN_OPEN) ≡ false → but_scaled_in s (tree_at row.MATRIX_BUT_SCALED t) ≡ but_transposed_in s (tree_at row.MATRIX_BUT_TRANSPOSED t)
unfolding but_scaled_in
no_trn_is s t ok is = ap (but_scaled_in s) (no_trn_read t ok is).tree

-- the statement
abbrev items : List Item
items = Word word.MAT ∷ Typed leaf.Name S20_VARIABLE ∷ Sign byte.equals S12_EQUALS ∷ Either (start.Code byte.opening) row.SCALED row.MATRIX_BUT_SCALED ∷ []

row_is : row_items row.MAT ≡ items
unfolding row_items
row_is = refl

abbrev pub right_text : Text → Text
right_text t = drop 1 (past_name (drop 1 t))

pub result_name : (t : Text) → is_phrase row.MAT t ≡ true → is_leaf leaf.Name (drop 1 t) ≡ true
result_name t ok = (stands_of row.MAT items t row_is ok).0.1.0

pub multiple_here : (t : Text) → is_phrase row.MAT t ≡ true → (first (right_text t) == byte.opening) ≡ true → is_phrase row.SCALED (right_text t) ≡ true
multiple_here t ok is = (taken_way (starts Atoms (start.Code byte.opening) (right_text t)) _ _ (code_begins byte.opening (right_text t) true is) (stands_of row.MAT items t row_is ok).0.1.1.1).0

pub no_multiple_here : (t : Text) → is_phrase row.MAT t ≡ true → (first (right_text t) == byte.opening) ≡ false → is_phrase row.MATRIX_BUT_SCALED (right_text t) ≡ true
no_multiple_here t ok is = (other_way (starts Atoms (start.Code byte.opening) (right_text t)) _ _ (code_begins byte.opening (right_text t) false is) (stands_of row.MAT items t row_is ok).0.1.1.1).0

abbrev tree_by : Text → Bool → Trees
tree_by t b =
    Put (Coded word.MAT) (Put (Plain leaf.Name (name_at (drop 1 t))) (Put (Coded byte.equals) (if b then In 1 (tree_at row.SCALED (right_text t)) Done else In 0 (tree_at row.MATRIX_BUT_SCALED (right_text t)) Done)))

tree_is : (t : Text) (b : Bool) → is_phrase row.MAT t ≡ true → (first (right_text t) == byte.opening) ≡ b → tree_at row.MAT t ≡ tree_by t b
tree_is t b ok is = (stands_of row.MAT items t row_is ok).1 ∙ ap (tree_by t) (code_begins byte.opening (right_text t) b is)

pub multiple_is : (s : Context) (t : Text) → is_phrase row.MAT t ≡ true → (first (right_text t) == byte.opening) ≡ true
    → assignment_in s (tree_at row.MAT t) ≡ (array_of s.around false (name_at (drop 1 t)) >>= (λ v. scaled_in s (tree_at row.SCALED (right_text t)) >>= (λ f. Ok (record { to = v; made_of = f }))))
unfolding assignment_in
multiple_is s t ok is = ap (assignment_in s) (tree_is t true ok is)

pub no_multiple_is : (s : Context) (t : Text) → is_phrase row.MAT t ≡ true → (first (right_text t) == byte.opening) ≡ false
    → assignment_in s (tree_at row.MAT t) ≡ (array_of s.around false (name_at (drop 1 t)) >>= (λ v. but_scaled_in s (tree_at row.MATRIX_BUT_SCALED (right_text t)) >>= (λ f. Ok (record { to = v; made_of = f }))))
unfolding assignment_in
no_multiple_is s t ok is = ap (assignment_in s) (tree_is t false ok is)

result_by : (x : Bool) (s : Context) (t : Text) (code : ℕ) → array_of s.around false (name_at (drop 1 t)) ≡ Err code → assignment_in s (tree_by t x) ≡ Err code
unfolding assignment_in
result_by true s t code is = ap (λ (r : Result Array ℕ). r >>= (λ v. scaled_in s (tree_at row.SCALED (right_text t)) >>= (λ f. Ok (record { to = v; made_of = f })))) is
result_by false s t code is = ap (λ (r : Result Array ℕ). r >>= (λ v. but_scaled_in s (tree_at row.MATRIX_BUT_SCALED (right_text t)) >>= (λ f. Ok (record { to = v; made_of = f })))) is

pub result_refused : (s : Context) (t : Text) (code : ℕ) → is_phrase row.MAT t ≡ true → array_of s.around false (name_at (drop 1 t)) ≡ Err code → assignment_in s (tree_at row.MAT t) ≡ Err code
result_refused s t code ok is = ap (assignment_in s) (tree_is t (first (right_text t) == byte.opening) ok refl) ∙ result_by (first (right_text t) == byte.opening) s t code is
