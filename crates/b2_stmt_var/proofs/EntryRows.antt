-- The entries of DIM and COM, by their rows.
use Rattle.std.proofs.Common.{◌≡◌, ◌<◌, ℕ, ◌==◌, ◌||◌, not, is_some, Bool, true, false, if◌then◌else◌, List, [], ◌∷◌, length, drop, Option, Some, None, Result, Ok, Err, refl, sym, ap, ◌∙◌}
use Rattle.b2_base.specs.Byte as byte
use Rattle.b2_base.specs.Lexical.{first}
use Rattle.b2_base.specs.declared.codes.TheConstants.{S13_SEPARATOR, S20_VARIABLE, S22_WORD, X77_NO_PARTITION}
use Rattle.b2_atom.specs.Words.{Text}
use Rattle.b2_atom.specs.Leaves.{leaf_width}
use Rattle.b2_atom.specs.Tokens.Token.{Plain}
use Rattle.b2_atom.specs.Tree.{Trees}
use Rattle.b2_atom.specs.Tree.Trees.{Done, Put, In}
use Rattle.b2_atom.specs.Grammar.{row_items, starts}
use Rattle.b2_atom.specs.declared.words.Origin.TheVariants.{Atoms}
use Rattle.b2_atom.specs.declared.words.TheConstants as word
use Rattle.b2_atom.specs.declared.rows.TheConstants as row
use Rattle.b2_atom.specs.declared.forms.Leaf.TheVariants as leaf
use Rattle.b2_atom.specs.declared.forms.Start.TheVariants as start
use Rattle.b2_atom.specs.declared.forms.Item.{Item}
use Rattle.b2_atom.specs.declared.forms.Item.TheVariants.{Among, Typed, Part, Maybe, Either, Many}
use Rattle.b2_rows.specs.Choices.{ReadAs, first_branch, second_branch}
use Rattle.b2_rows.specs.Leaves.{is_leaf, leaf_bytes}
use Rattle.b2_rows.specs.Optional.{maybe_phrase, maybe_tree, after_maybe}
use Rattle.b2_rows.specs.Rows.{is_phrase, tree_at, after_phrase, is_list, When}
use Rattle.b2_rows.specs.Values.{variable_name}
use Rattle.b2_rows.specs.declared.leaves.Name.{Name}
use Rattle.b2_rows.proofs.Choices.{either_first, either_second}
use Rattle.b2_rows.proofs.Optional.{maybe_stands}
use Rattle.b2_vars.specs.Tables.{VarsState}
use Rattle.b2_vars.specs.declared.shape.Shape.{Shape}
use Rattle.b2_expr.specs.Answers.{◌>>=◌, or_code}
use Rattle.b2_expr.specs.Named.{variable_of}
use Rattle.b2_expr.specs.Scope.{Context}
use Rattle.b2_rows.proofs.RowsRead.{stands_of}
use Rattle.b2_rows.specs.CommaLists.{further_listed, commas}
use Rattle.b2_dims.specs.Dimensions.{array_shape}
use Rattle.b2_stmt_var.specs.Dimensions.{entries_of, entry_in, entry_of, has_variables, is_com, length_alone, lone_shape, entry_named, shape_after}
use Rattle.b2_stmt_var.specs.declared.dimensions.Entry.{Entry}
use Rattle.b2_rows.proofs.CommaLists.{IsComma, Other, other, tail_at, items_of_other, no_items_left, item_shorter}

loop_begins : (c : ℕ) (t : Text) (b : Bool) → (first t == c) ≡ b → starts Atoms (start.Code c) t ≡ b
unfolding starts
loop_begins c t b is = is

-- an entry by its name and the shape after it, where there are variables of its kind
abbrev entry_with : Name → Bool → Result Shape ℕ → Result Entry ℕ
entry_with name array shape = shape >>= (λ s. Ok (record { global = name.global; var = variable_of name array; shape = s }))

refused_by : (g : Bool) (o : Option VarsState) (own : VarsState) (r : VarsState → Result Entry ℕ) → (not g || is_some o) ≡ false → ((if g then or_code X77_NO_PARTITION o else Ok own) >>= r) ≡ Err X77_NO_PARTITION
refused_by true None own r is = refl
refused_by true (Some x) own r is = cc
refused_by false o own r is = cc

there_with : (g : Bool) (o : Option VarsState) (own : VarsState) (r : Result Entry ℕ) → (not g || is_some o) ≡ true → ((if g then or_code X77_NO_PARTITION o else Ok own) >>= (λ vars. r)) ≡ r
there_with false o own r is = refl
there_with true (Some x) own r is = refl
there_with true None own r is = cc

refused : (s : Context) (name : Name) (n : ℕ) (t : Trees) → has_variables s.around name ≡ false → entry_of s name n t ≡ Err X77_NO_PARTITION
refused s name n t is = refused_by name.global s.around.globals s.around.own _ is

named : (s : Context) (name : Name) (n : ℕ) (t : Trees) → has_variables s.around name ≡ true → entry_of s name n t ≡ entry_with name (n == 1) (shape_after s name.alpha n t)
named s name n t is = there_with name.global s.around.globals s.around.own (entry_with name (n == 1) (shape_after s name.alpha n t)) is

-- an alpha name
abbrev alpha_items : List Item
alpha_items = Typed leaf.AlphaName S20_VARIABLE ∷ Either (start.Code byte.opening) row.SUBSCRIPTS_AND_LENGTH row.MAYBE_LENGTH ∷ []

alpha_row : row_items row.DIMENSIONED_ALPHA ≡ alpha_items
unfolding row_items
alpha_row = refl

abbrev lone_items : List Item
lone_items = Maybe start.Numeric row.LENGTH ∷ []

lone_row : row_items row.MAYBE_LENGTH ≡ lone_items
unfolding row_items
lone_row = refl

abbrev after_alpha : Text → Text
after_alpha t = drop (leaf_width Atoms leaf.AlphaName t) t

abbrev alpha_named : Text → Name
alpha_named t = variable_name true (leaf_bytes leaf.AlphaName t)

pub alpha_here : (t : Text) → is_phrase row.DIMENSIONED_ALPHA t ≡ true → is_leaf leaf.AlphaName t ≡ true
alpha_here t ok = (stands_of row.DIMENSIONED_ALPHA alpha_items t alpha_row ok).0.0

-- what stands after it: dimensions, or a length or none
array_by : (b : Bool) (x y : Type 0) → b ≡ true → When b (x × Unit {0}) (y × Unit {0}) → x
array_by true x y is h = h.0
array_by false x y is h = cc

lone_by : (b : Bool) (x y : Type 0) → b ≡ false → When b (x × Unit {0}) (y × Unit {0}) → y
lone_by false x y is h = h.0
lone_by true x y is h = cc

pub alpha_shape : (t : Text) → is_phrase row.DIMENSIONED_ALPHA t ≡ true → (first (after_alpha t) == byte.opening) ≡ true → is_phrase row.SUBSCRIPTS_AND_LENGTH (after_alpha t) ≡ true
alpha_shape t ok is = array_by _ _ _ (loop_begins byte.opening (after_alpha t) true is) (stands_of row.DIMENSIONED_ALPHA alpha_items t alpha_row ok).0.1

lone_part : (t : Text) → is_phrase row.DIMENSIONED_ALPHA t ≡ true → (first (after_alpha t) == byte.opening) ≡ false → is_phrase row.MAYBE_LENGTH (after_alpha t) ≡ true
lone_part t ok is = lone_by _ _ _ (loop_begins byte.opening (after_alpha t) false is) (stands_of row.DIMENSIONED_ALPHA alpha_items t alpha_row ok).0.1

pub alpha_length : (t : Text) → is_phrase row.DIMENSIONED_ALPHA t ≡ true → (first (after_alpha t) == byte.opening) ≡ false → maybe_phrase start.Numeric row.LENGTH (after_alpha t) ≡ true
alpha_length t ok is = maybe_stands _ _ _ (stands_of row.MAYBE_LENGTH lone_items (after_alpha t) lone_row (lone_part t ok is)).0

lone_tree : (t : Text) → is_phrase row.MAYBE_LENGTH t ≡ true → tree_at row.MAYBE_LENGTH t ≡ maybe_tree start.Numeric row.LENGTH t
unfolding maybe_tree
lone_tree t ok = (stands_of row.MAYBE_LENGTH lone_items t lone_row ok).1

lone_after : (t : Text) → is_phrase row.MAYBE_LENGTH t ≡ true → after_phrase row.MAYBE_LENGTH t ≡ after_maybe start.Numeric row.LENGTH t
unfolding after_maybe
lone_after t ok = (stands_of row.MAYBE_LENGTH lone_items t lone_row ok).2

-- its tree
abbrev alpha_tree : Text → Bool → Trees
alpha_tree t b = Put (Plain leaf.AlphaName (leaf_bytes leaf.AlphaName t)) (if b then In 1 (tree_at row.SUBSCRIPTS_AND_LENGTH (after_alpha t)) Done else In 0 (tree_at row.MAYBE_LENGTH (after_alpha t)) Done)

alpha_tree_is : (t : Text) (b : Bool) → is_phrase row.DIMENSIONED_ALPHA t ≡ true → (first (after_alpha t) == byte.opening) ≡ b → tree_at row.DIMENSIONED_ALPHA t ≡ alpha_tree t b
alpha_tree_is t b ok is = (stands_of row.DIMENSIONED_ALPHA alpha_items t alpha_row ok).1 ∙ ap (alpha_tree t) (loop_begins byte.opening (after_alpha t) b is)

abbrev alpha_rest : Text → Bool → Text
alpha_rest t b = if b then after_phrase row.SUBSCRIPTS_AND_LENGTH (after_alpha t) else after_phrase row.MAYBE_LENGTH (after_alpha t)

alpha_rest_is : (t : Text) (b : Bool) → is_phrase row.DIMENSIONED_ALPHA t ≡ true → (first (after_alpha t) == byte.opening) ≡ b → after_phrase row.DIMENSIONED_ALPHA t ≡ alpha_rest t b
alpha_rest_is t b ok is = (stands_of row.DIMENSIONED_ALPHA alpha_items t alpha_row ok).2 ∙ ap (alpha_rest t) (loop_begins byte.opening (after_alpha t) b is)

global_by : (s : Context) (t : Text) (b : Bool) → has_variables s.around (alpha_named t) ≡ false → entry_named s true (alpha_tree t b) ≡ Err X77_NO_PARTITION
unfolding entry_named
global_by s t true is = refused s (alpha_named t) 1 _ is
global_by s t false is = refused s (alpha_named t) 0 _ is

pub alpha_global : (s : Context) (t : Text) → is_phrase row.DIMENSIONED_ALPHA t ≡ true → has_variables s.around (alpha_named t) ≡ false → entry_named s true (tree_at row.DIMENSIONED_ALPHA t) ≡ Err X77_NO_PARTITION
alpha_global s t ok is = ap (entry_named s true) (alpha_tree_is t (first (after_alpha t) == byte.opening) ok refl) ∙ global_by s t (first (after_alpha t) == byte.opening) is

pub alpha_array_is : (s : Context) (t : Text) → is_phrase row.DIMENSIONED_ALPHA t ≡ true → has_variables s.around (alpha_named t) ≡ true → (first (after_alpha t) == byte.opening) ≡ true
    → entry_named s true (tree_at row.DIMENSIONED_ALPHA t) ≡ (array_shape s 16 true (tree_at row.SUBSCRIPTS_AND_LENGTH (after_alpha t)) >>= (λ shape. Ok (record { global = (alpha_named t).global; var = variable_of (alpha_named t) true; shape = shape })))
unfolding entry_named
alpha_array_is s t ok mine is = ap (entry_named s true) (alpha_tree_is t true ok is) ∙ named s (alpha_named t) 1 (tree_at row.SUBSCRIPTS_AND_LENGTH (after_alpha t)) mine

pub alpha_array_rest : (t : Text) → is_phrase row.DIMENSIONED_ALPHA t ≡ true → (first (after_alpha t) == byte.opening) ≡ true → after_phrase row.DIMENSIONED_ALPHA t ≡ after_phrase row.SUBSCRIPTS_AND_LENGTH (after_alpha t)
alpha_array_rest t ok is = alpha_rest_is t true ok is

pub alpha_lone_is : (s : Context) (t : Text) → is_phrase row.DIMENSIONED_ALPHA t ≡ true → has_variables s.around (alpha_named t) ≡ true → (first (after_alpha t) == byte.opening) ≡ false
    → entry_named s true (tree_at row.DIMENSIONED_ALPHA t) ≡ (lone_shape s true (maybe_tree start.Numeric row.LENGTH (after_alpha t)) >>= (λ shape. Ok (record { global = (alpha_named t).global; var = variable_of (alpha_named t) false; shape = shape })))
unfolding entry_named
alpha_lone_is s t ok mine is =
    ap (entry_named s true) (alpha_tree_is t false ok is)
    ∙ named s (alpha_named t) 0 (tree_at row.MAYBE_LENGTH (after_alpha t)) mine
    ∙ ap (λ (a : Trees). entry_with (alpha_named t) false (lone_shape s true a)) (lone_tree (after_alpha t) (lone_part t ok is))

pub alpha_lone_rest : (t : Text) → is_phrase row.DIMENSIONED_ALPHA t ≡ true → (first (after_alpha t) == byte.opening) ≡ false → after_phrase row.DIMENSIONED_ALPHA t ≡ after_maybe start.Numeric row.LENGTH (after_alpha t)
alpha_lone_rest t ok is = alpha_rest_is t false ok is ∙ lone_after (after_alpha t) (lone_part t ok is)

-- the name of a number
abbrev number_items : List Item
number_items = Typed leaf.Name S20_VARIABLE ∷ Maybe (start.Code byte.opening) row.SUBSCRIPTS_AND_LENGTH ∷ []

number_row : row_items row.DIMENSIONED_NUMERIC ≡ number_items
unfolding row_items
number_row = refl

abbrev after_number : Text → Text
after_number t = drop (leaf_width Atoms leaf.Name t) t

abbrev number_named : Text → Name
number_named t = variable_name false (leaf_bytes leaf.Name t)

pub number_here : (t : Text) → is_phrase row.DIMENSIONED_NUMERIC t ≡ true → is_leaf leaf.Name t ≡ true
number_here t ok = (stands_of row.DIMENSIONED_NUMERIC number_items t number_row ok).0.0

there_by : (b : Bool) (x : Type 0) → b ≡ true → When b (x × Unit {0}) (Unit {0}) → x
there_by true x is h = h.0
there_by false x is h = cc

pub number_shape : (t : Text) → is_phrase row.DIMENSIONED_NUMERIC t ≡ true → (first (after_number t) == byte.opening) ≡ true → is_phrase row.SUBSCRIPTS_AND_LENGTH (after_number t) ≡ true
number_shape t ok is = there_by _ _ (loop_begins byte.opening (after_number t) true is) (stands_of row.DIMENSIONED_NUMERIC number_items t number_row ok).0.1

abbrev number_tree : Text → Bool → Trees
number_tree t b = Put (Plain leaf.Name (leaf_bytes leaf.Name t)) (if b then In 1 (tree_at row.SUBSCRIPTS_AND_LENGTH (after_number t)) Done else In 0 Done Done)

number_tree_is : (t : Text) (b : Bool) → is_phrase row.DIMENSIONED_NUMERIC t ≡ true → (first (after_number t) == byte.opening) ≡ b → tree_at row.DIMENSIONED_NUMERIC t ≡ number_tree t b
number_tree_is t b ok is = (stands_of row.DIMENSIONED_NUMERIC number_items t number_row ok).1 ∙ ap (number_tree t) (loop_begins byte.opening (after_number t) b is)

abbrev number_rest : Text → Bool → Text
number_rest t b = if b then after_phrase row.SUBSCRIPTS_AND_LENGTH (after_number t) else after_number t

number_rest_is : (t : Text) (b : Bool) → is_phrase row.DIMENSIONED_NUMERIC t ≡ true → (first (after_number t) == byte.opening) ≡ b → after_phrase row.DIMENSIONED_NUMERIC t ≡ number_rest t b
number_rest_is t b ok is = (stands_of row.DIMENSIONED_NUMERIC number_items t number_row ok).2 ∙ ap (number_rest t) (loop_begins byte.opening (after_number t) b is)

number_global_by : (s : Context) (t : Text) (b : Bool) → has_variables s.around (number_named t) ≡ false → entry_named s false (number_tree t b) ≡ Err X77_NO_PARTITION
unfolding entry_named
number_global_by s t true is = refused s (number_named t) 1 _ is
number_global_by s t false is = refused s (number_named t) 0 _ is

pub number_global : (s : Context) (t : Text) → is_phrase row.DIMENSIONED_NUMERIC t ≡ true → has_variables s.around (number_named t) ≡ false → entry_named s false (tree_at row.DIMENSIONED_NUMERIC t) ≡ Err X77_NO_PARTITION
number_global s t ok is = ap (entry_named s false) (number_tree_is t (first (after_number t) == byte.opening) ok refl) ∙ number_global_by s t (first (after_number t) == byte.opening) is

pub number_array_is : (s : Context) (t : Text) → is_phrase row.DIMENSIONED_NUMERIC t ≡ true → has_variables s.around (number_named t) ≡ true → (first (after_number t) == byte.opening) ≡ true
    → entry_named s false (tree_at row.DIMENSIONED_NUMERIC t) ≡ (array_shape s 0 false (tree_at row.SUBSCRIPTS_AND_LENGTH (after_number t)) >>= (λ shape. Ok (record { global = (number_named t).global; var = variable_of (number_named t) true; shape = shape })))
unfolding entry_named
number_array_is s t ok mine is = ap (entry_named s false) (number_tree_is t true ok is) ∙ named s (number_named t) 1 (tree_at row.SUBSCRIPTS_AND_LENGTH (after_number t)) mine

pub number_array_rest : (t : Text) → is_phrase row.DIMENSIONED_NUMERIC t ≡ true → (first (after_number t) == byte.opening) ≡ true → after_phrase row.DIMENSIONED_NUMERIC t ≡ after_phrase row.SUBSCRIPTS_AND_LENGTH (after_number t)
number_array_rest t ok is = number_rest_is t true ok is

pub number_lone_is : (s : Context) (t : Text) → is_phrase row.DIMENSIONED_NUMERIC t ≡ true → has_variables s.around (number_named t) ≡ true → (first (after_number t) == byte.opening) ≡ false
    → entry_named s false (tree_at row.DIMENSIONED_NUMERIC t) ≡ Ok (record { global = (number_named t).global; var = variable_of (number_named t) false; shape = record { rows = 0; cols = 0; len = 0 } })
unfolding entry_named lone_shape length_alone
number_lone_is s t ok mine is = ap (entry_named s false) (number_tree_is t false ok is) ∙ named s (number_named t) 0 Done mine

pub number_lone_rest : (t : Text) → is_phrase row.DIMENSIONED_NUMERIC t ≡ true → (first (after_number t) == byte.opening) ≡ false → after_phrase row.DIMENSIONED_NUMERIC t ≡ after_number t
number_lone_rest t ok is = number_rest_is t false ok is

-- an entry of either kind
either_row : row_items row.DIMENSIONED ≡ Either start.Alpha row.DIMENSIONED_ALPHA row.DIMENSIONED_NUMERIC ∷ []
unfolding row_items
either_row = refl

alpha_entry : (t : Text) → is_phrase row.DIMENSIONED t ≡ true → starts Atoms start.Alpha t ≡ true → ReadAs row.DIMENSIONED row.DIMENSIONED_ALPHA first_branch t
alpha_entry t ok is = either_first _ _ _ _ t either_row ok is

number_entry : (t : Text) → is_phrase row.DIMENSIONED t ≡ true → starts Atoms start.Alpha t ≡ false → ReadAs row.DIMENSIONED row.DIMENSIONED_NUMERIC second_branch t
number_entry t ok is = either_second _ _ _ _ t either_row ok is

pub by_alpha : (t : Text) → is_phrase row.DIMENSIONED t ≡ true → starts Atoms start.Alpha t ≡ true → is_phrase row.DIMENSIONED_ALPHA t ≡ true
by_alpha t ok is = (alpha_entry t ok is).part

pub by_alpha_is : (s : Context) (t : Text) → is_phrase row.DIMENSIONED t ≡ true → starts Atoms start.Alpha t ≡ true → entry_in s (tree_at row.DIMENSIONED t) ≡ entry_named s true (tree_at row.DIMENSIONED_ALPHA t)
unfolding entry_in
by_alpha_is s t ok is = ap (entry_in s) (alpha_entry t ok is).tree

pub by_alpha_rest : (t : Text) → is_phrase row.DIMENSIONED t ≡ true → starts Atoms start.Alpha t ≡ true → after_phrase row.DIMENSIONED t ≡ after_phrase row.DIMENSIONED_ALPHA t
by_alpha_rest t ok is = (alpha_entry t ok is).rest

pub by_number : (t : Text) → is_phrase row.DIMENSIONED t ≡ true → starts Atoms start.Alpha t ≡ false → is_phrase row.DIMENSIONED_NUMERIC t ≡ true
by_number t ok is = (number_entry t ok is).part

pub by_number_is : (s : Context) (t : Text) → is_phrase row.DIMENSIONED t ≡ true → starts Atoms start.Alpha t ≡ false → entry_in s (tree_at row.DIMENSIONED t) ≡ entry_named s false (tree_at row.DIMENSIONED_NUMERIC t)
unfolding entry_in
by_number_is s t ok is = ap (entry_in s) (number_entry t ok is).tree

pub by_number_rest : (t : Text) → is_phrase row.DIMENSIONED t ≡ true → starts Atoms start.Alpha t ≡ false → after_phrase row.DIMENSIONED t ≡ after_phrase row.DIMENSIONED_NUMERIC t
by_number_rest t ok is = (number_entry t ok is).rest

-- all of them
abbrev items : List Item
items = Among word.DIM word.COM S22_WORD ∷ Part row.DIMENSIONED ∷ Many commas row.COMMA_DIMENSIONED ∷ []

row_is : row_items row.DIM ≡ items
unfolding row_items
row_is = refl

comma_row : IsComma row.COMMA_DIMENSIONED row.DIMENSIONED S13_SEPARATOR
unfolding row_items
comma_row = refl

abbrev pub past_first : Text → Text
past_first t = after_phrase row.DIMENSIONED t

abbrev pub are_others : Text → Bool
are_others t = is_list commas row.COMMA_DIMENSIONED t

-- the entries that are left
abbrev pub left_at : Text → Trees
left_at t = tail_at row.COMMA_DIMENSIONED Done t

pub common_is : (t : Text) → is_phrase row.DIM t ≡ true → is_com (tree_at row.DIM t) ≡ (first t == word.COM)
common_is t ok = ap is_com (stands_of row.DIM items t row_is ok).1

pub first_part : (t : Text) → is_phrase row.DIM t ≡ true → is_phrase row.DIMENSIONED (drop 1 t) ≡ true
first_part t ok = (stands_of row.DIM items t row_is ok).0.1.0

pub first_list : (t : Text) → is_phrase row.DIM t ≡ true → are_others (past_first (drop 1 t)) ≡ true
first_list t ok = (stands_of row.DIM items t row_is ok).0.1.1.0

pub other_part : (t : Text) → are_others t ≡ true → (first t == byte.comma) ≡ true → is_phrase row.DIMENSIONED (drop 1 t) ≡ true
other_part t ok is = Other.part (other row.COMMA_DIMENSIONED row.DIMENSIONED S13_SEPARATOR t comma_row ok is)

pub other_list : (t : Text) → are_others t ≡ true → (first t == byte.comma) ≡ true → are_others (past_first (drop 1 t)) ≡ true
other_list t ok is = Other.list (other row.COMMA_DIMENSIONED row.DIMENSIONED S13_SEPARATOR t comma_row ok is)

pub other_items : (t : Text) → are_others t ≡ true → (first t == byte.comma) ≡ true → further_listed (left_at t) ≡ tree_at row.DIMENSIONED (drop 1 t) ∷ further_listed (left_at (past_first (drop 1 t)))
other_items t ok is = items_of_other row.COMMA_DIMENSIONED row.DIMENSIONED S13_SEPARATOR Done t comma_row ok is

pub no_items : (t : Text) → (first t == byte.comma) ≡ false → further_listed (left_at t) ≡ []
no_items t is = no_items_left row.COMMA_DIMENSIONED Done t is

pub entry_shorter : (t : Text) → (first (past_first t) == byte.comma) ≡ true → length (drop 1 (past_first t)) < length t
entry_shorter t is = item_shorter row.DIMENSIONED t is

pub whole_items : (t : Text) → is_phrase row.DIM t ≡ true → tree_at row.DIMENSIONED (drop 1 t) ∷ further_listed (left_at (past_first (drop 1 t))) ≡ entries_of (tree_at row.DIM t)
whole_items t ok = sym (ap entries_of (stands_of row.DIM items t row_is ok).1)
