-- The receivers of values that are loaded, by their rows: whole arrays and receivers, one after another, their kinds, and what they
-- leave.
use Rattle.std.proofs.Common.{◌≡◌, ◌<◌, ℕ, zero, suc, ◌+◌, ◌-◌, ◌==◌, nat_lt, true, false, List, [], ◌∷◌, ◌++◌, length, drop, replicate, Option, Some, None, Result, Ok, Err, refl, sym, ap, subst, ◌∙◌, arith}
use Rattle.std.proofs.lemmas.List.{append_assoc, append-nil}
use Rattle.std.proofs.lemmas.Bool.Decides.{nat_tests}
use Rattle.b2_base.specs.Byte as byte
use Rattle.b2_base.specs.Lexical.{first}
use Rattle.b2_base.specs.declared.codes.TheConstants.{S13_SEPARATOR}
use Rattle.b2_dec.specs.declared.values.Kind.{Kind}
use Rattle.b2_dec.specs.declared.values.Kind.TheVariants as kind
use Rattle.b2_dec.specs.declared.values.Value.{Value}
use Rattle.b2_atom.specs.Words.{Text}
use Rattle.b2_atom.specs.Tree.{Trees}
use Rattle.b2_atom.specs.Tree.Trees.{Done}
use Rattle.b2_atom.specs.Grammar.{row_items, starts}
use Rattle.b2_atom.specs.declared.words.Origin.TheVariants.{Atoms}
use Rattle.b2_atom.specs.declared.rows.TheConstants as row
use Rattle.b2_atom.specs.declared.forms.Start.TheVariants as start
use Rattle.b2_rows.specs.Choices.{ReadAs, first_branch, second_branch}
use Rattle.b2_rows.specs.CommaLists.{commas}
use Rattle.b2_rows.specs.Rows.{is_phrase, tree_at, after_phrase, is_list}
use Rattle.b2_rows.proofs.Choices.{either_first, either_second}
use Rattle.b2_rows.proofs.CommaLists.{IsComma, Other, item_shorter, items_of_other, no_items_left, other}
use Rattle.b2_vars.specs.declared.shape.Shape.{Shape}
use Rattle.b2_vars.specs.Shapes.{cells}
use Rattle.b2_vars.specs.Tables.{VarsState, shape_at}
use Rattle.b2_expr.specs.Answers.{◌>>=◌}
use Rattle.b2_expr.specs.Scope.{Context, Surroundings}
use Rattle.b2_expr.specs.Value.{context_of}
use Rattle.b2_expr.specs.Workspace.{WorkState, surroundings_of}
use Rattle.b2_receiver.specs.Receivers.{any_receiver, whole_array}
use Rattle.b2_receiver.specs.declared.receiver.Array.{Array}
use Rattle.b2_stmt_file.specs.declared.loaded_values.Item.{Item}
use Rattle.b2_stmt_file.specs.declared.loaded_values.Item.TheVariants as item
use Rattle.b2_stmt_file.specs.Elements.{array_variables, receiver_of}
use Rattle.b2_stmt_file.specs.LoadedValues.{Taken, all_kinds, array_kinds, array_takes, each_takes, elements_take, item_kinds, item_located, item_takes, items_at, none_taken, one_kind, other_items, receiver_kind, takes_at, shaped_takes, takes_next, takes_to, then_takes, unless_ended}
use Rattle.b2_stmt_file.specs.SavedValues.{values_before}
use Rattle.b2_stmt_file.proofs.SavedRows.{put_then, refused_then}

-- a kind as often as said
pub kind_put : (k : Kind) (left : ℕ) (so_far : List Kind) → nat_lt 0 left ≡ true → (so_far ++ k ∷ []) ++ replicate (left - 1) k ≡ so_far ++ replicate left k
kind_put k zero so_far some = cc
kind_put k (suc n) so_far some =
    let one_less : n ≡ suc n - 1 = omega arith in
    subst (λ (m : ℕ). (so_far ++ k ∷ []) ++ replicate m k ≡ so_far ++ replicate (suc n) k) one_less (append_assoc so_far (k ∷ []) (replicate n k))

none_left : (n : ℕ) → nat_lt 0 n ≡ false → 0 ≡ n
none_left n none = grind (arith, nat_tests)

pub no_kind : (k : Kind) (left : ℕ) (so_far : List Kind) → nat_lt 0 left ≡ false → so_far ++ replicate left k ≡ so_far
no_kind k left so_far none = subst (λ (m : ℕ). so_far ++ replicate m k ≡ so_far) (none_left left none) (append-nil so_far)

-- the kind of a receiver
alpha_read : (t : Text) → is_phrase row.RECEIVER t ≡ true → starts Atoms start.Alpha t ≡ true → ReadAs row.RECEIVER row.ALPHA_RECEIVER first_branch t
unfolding row_items
alpha_read t ok is = either_first row.RECEIVER row.ALPHA_RECEIVER row.NUMERIC_RECEIVER start.Alpha t refl ok is

number_read : (t : Text) → is_phrase row.RECEIVER t ≡ true → starts Atoms start.Alpha t ≡ false → ReadAs row.RECEIVER row.NUMERIC_RECEIVER second_branch t
unfolding row_items
number_read t ok is = either_second row.RECEIVER row.ALPHA_RECEIVER row.NUMERIC_RECEIVER start.Alpha t refl ok is

pub alpha_kind : (t : Text) → is_phrase row.RECEIVER t ≡ true → starts Atoms start.Alpha t ≡ true → receiver_kind (tree_at row.RECEIVER t) ≡ kind.Alpha
alpha_kind t ok is = ap receiver_kind (ReadAs.tree (alpha_read t ok is))

pub number_kind : (t : Text) → is_phrase row.RECEIVER t ≡ true → starts Atoms start.Alpha t ≡ false → receiver_kind (tree_at row.RECEIVER t) ≡ kind.Number
number_kind t ok is = ap receiver_kind (ReadAs.tree (number_read t ok is))

-- a whole array, or a receiver
array_read : (t : Text) → is_phrase row.LOADED t ≡ true → starts Atoms start.Array t ≡ true → ReadAs row.LOADED row.WHOLE_ARRAY first_branch t
unfolding row_items
array_read t ok is = either_first row.LOADED row.WHOLE_ARRAY row.RECEIVER start.Array t refl ok is

receiver_read : (t : Text) → is_phrase row.LOADED t ≡ true → starts Atoms start.Array t ≡ false → ReadAs row.LOADED row.RECEIVER second_branch t
unfolding row_items
receiver_read t ok is = either_second row.LOADED row.WHOLE_ARRAY row.RECEIVER start.Array t refl ok is

pub array_here : (t : Text) → is_phrase row.LOADED t ≡ true → starts Atoms start.Array t ≡ true → is_phrase row.WHOLE_ARRAY t ≡ true
array_here t ok is = ReadAs.part (array_read t ok is)

pub array_kinds_are : (e : Surroundings) (t : Text) → is_phrase row.LOADED t ≡ true → starts Atoms start.Array t ≡ true → item_kinds e (tree_at row.LOADED t) ≡ array_kinds e (tree_at row.WHOLE_ARRAY t)
array_kinds_are e t ok is = ap (item_kinds e) (ReadAs.tree (array_read t ok is))

pub array_rest : (t : Text) → is_phrase row.LOADED t ≡ true → starts Atoms start.Array t ≡ true → after_phrase row.LOADED t ≡ after_phrase row.WHOLE_ARRAY t
array_rest t ok is = ReadAs.rest (array_read t ok is)

pub receiver_here : (t : Text) → is_phrase row.LOADED t ≡ true → starts Atoms start.Array t ≡ false → is_phrase row.RECEIVER t ≡ true
receiver_here t ok is = ReadAs.part (receiver_read t ok is)

pub receiver_kind_is : (e : Surroundings) (t : Text) → is_phrase row.LOADED t ≡ true → starts Atoms start.Array t ≡ false → item_kinds e (tree_at row.LOADED t) ≡ one_kind (tree_at row.RECEIVER t)
receiver_kind_is e t ok is = ap (item_kinds e) (ReadAs.tree (receiver_read t ok is))

pub receiver_rest : (t : Text) → is_phrase row.LOADED t ≡ true → starts Atoms start.Array t ≡ false → after_phrase row.LOADED t ≡ after_phrase row.RECEIVER t
receiver_rest t ok is = ReadAs.rest (receiver_read t ok is)

pub array_located : (e : Context) (t : Text) → is_phrase row.LOADED t ≡ true → starts Atoms start.Array t ≡ true → item_located e (tree_at row.LOADED t) ≡ (whole_array e.around (tree_at row.WHOLE_ARRAY t) >>= (λ a. Ok (item.Whole a)))
array_located e t ok is = ap (item_located e) (ReadAs.tree (array_read t ok is))

pub receiver_located : (e : Context) (t : Text) → is_phrase row.LOADED t ≡ true → starts Atoms start.Array t ≡ false → item_located e (tree_at row.LOADED t) ≡ (any_receiver e (tree_at row.RECEIVER t) >>= (λ to. Ok (item.One to)))
receiver_located e t ok is = ap (item_located e) (ReadAs.tree (receiver_read t ok is))

-- further items
comma_row : IsComma row.COMMA_LOADED row.LOADED S13_SEPARATOR
unfolding row_items
comma_row = refl

abbrev pub Others : Text → Type 0
Others t = is_list commas row.COMMA_LOADED t ≡ true

pub other_part : (t : Text) → Others t → (first t == byte.comma) ≡ true → is_phrase row.LOADED (drop 1 t) ≡ true
other_part t ok is = Other.part (other row.COMMA_LOADED row.LOADED S13_SEPARATOR t comma_row ok is)

pub other_list : (t : Text) → Others t → (first t == byte.comma) ≡ true → Others (after_phrase row.LOADED (drop 1 t))
other_list t ok is = Other.list (other row.COMMA_LOADED row.LOADED S13_SEPARATOR t comma_row ok is)

pub loaded_shorter : (t : Text) → (first (after_phrase row.LOADED t) == byte.comma) ≡ true → length (drop 1 (after_phrase row.LOADED t)) < length t
loaded_shorter t is = item_shorter row.LOADED t is

further_items : (t : Text) → Others t → (first t == byte.comma) ≡ true → other_items t ≡ items_at (drop 1 t)
further_items t ok is = items_of_other row.COMMA_LOADED row.LOADED S13_SEPARATOR Done t comma_row ok is

no_items : (t : Text) → (first t == byte.comma) ≡ false → other_items t ≡ []
no_items t is = no_items_left row.COMMA_LOADED Done t is

-- the kinds of one that were put after others, and those that are left
pub one_put : (s : Surroundings) (t : Text) (old new : List Kind) → Others (after_phrase row.LOADED t) → (first (after_phrase row.LOADED t) == byte.comma) ≡ true → values_before old (item_kinds s (tree_at row.LOADED t)) ≡ Ok new
    → values_before new (all_kinds s (items_at (drop 1 (after_phrase row.LOADED t)))) ≡ values_before old (all_kinds s (items_at t))
one_put s t old new ok is put =
    sym (ap (λ (ts : List Trees). values_before new (all_kinds s ts)) (further_items (after_phrase row.LOADED t) ok is))
    ∙ put_then (item_kinds s (tree_at row.LOADED t)) (all_kinds s (other_items (after_phrase row.LOADED t))) old new put

pub last_put : (s : Surroundings) (t : Text) (old new : List Kind) → (first (after_phrase row.LOADED t) == byte.comma) ≡ false → values_before old (item_kinds s (tree_at row.LOADED t)) ≡ Ok new
    → values_before old (all_kinds s (items_at t)) ≡ Ok new
last_put s t old new is put =
    sym (put_then (item_kinds s (tree_at row.LOADED t)) (all_kinds s (other_items (after_phrase row.LOADED t))) old new put)
    ∙ ap (λ (ts : List Trees). values_before new (all_kinds s ts)) (no_items (after_phrase row.LOADED t) is)
    ∙ ap Ok (append-nil new)

pub refused : (s : Surroundings) (t : Text) (old : List Kind) (c : ℕ) → item_kinds s (tree_at row.LOADED t) ≡ Err c → values_before old (all_kinds s (items_at t)) ≡ Err c
refused s t old c is = refused_then (item_kinds s (tree_at row.LOADED t)) (all_kinds s (other_items (after_phrase row.LOADED t))) old c is

-- what one took, and then the others take
taken_more : (r : Taken) (more : WorkState → ℕ → Taken) (new : WorkState) (to : ℕ) (code : Option ℕ) → record { work = new; next = to; code = code } ≡ r → code ≡ None → more new to ≡ then_takes r more
taken_more r more new to code is none =
    sym (ap (λ (c : Option ℕ). unless_ended c (record { work = new; next = to; code = code }) more) none) ∙ ap (λ (x : Taken). then_takes x more) is

taken_coded : (r : Taken) (more : WorkState → ℕ → Taken) (new : WorkState) (to : ℕ) (code : Option ℕ) (c : ℕ) → record { work = new; next = to; code = code } ≡ r → code ≡ Some c → then_takes r more ≡ record { work = new; next = to; code = code }
taken_coded r more new to code c is some =
    sym (ap (λ (x : Taken). then_takes x more) is) ∙ ap (λ (o : Option ℕ). unless_ended o (record { work = new; next = to; code = code }) more) some

-- elements
pub element_took : (a : Array) (s : Shape) (values : List Value) (k left : ℕ) (old new : WorkState) (from to : ℕ) (code : Option ℕ) → nat_lt 0 left ≡ true
    → record { work = new; next = to; code = code } ≡ takes_next (receiver_of a s k) values old from → code ≡ None → elements_take a s values (k + 1) (left - 1) new to ≡ elements_take a s values k left old from
element_took a s values k zero old new from to code some is none = cc
element_took a s values k (suc n) old new from to code some is none =
    let one_less : n ≡ suc n - 1 = omega arith in
    subst (λ (m : ℕ). elements_take a s values (k + 1) m new to ≡ elements_take a s values k (suc n) old from) one_less
    (taken_more (takes_next (receiver_of a s k) values old from) (elements_take a s values (k + 1) n) new to code is none)

pub element_coded : (a : Array) (s : Shape) (values : List Value) (k left : ℕ) (old new : WorkState) (from to : ℕ) (code : Option ℕ) (c : ℕ) → nat_lt 0 left ≡ true
    → record { work = new; next = to; code = code } ≡ takes_next (receiver_of a s k) values old from → code ≡ Some c → elements_take a s values k left old from ≡ record { work = new; next = to; code = code }
element_coded a s values k zero old new from to code c some is coded = cc
element_coded a s values k (suc n) old new from to code c some is coded = taken_coded (takes_next (receiver_of a s k) values old from) (elements_take a s values (k + 1) n) new to code c is coded

pub no_element : (a : Array) (s : Shape) (values : List Value) (k left : ℕ) (w : WorkState) (i : ℕ) → nat_lt 0 left ≡ false → elements_take a s values k left w i ≡ record { work = w; next = i; code = None }
no_element a s values k left w i none = subst (λ (m : ℕ). elements_take a s values k m w i ≡ record { work = w; next = i; code = None }) (none_left left none) refl

-- an array, by the variables where it is
by_shape : (s : Surroundings) (a : Array) (values : List Value) (w : WorkState) (i : ℕ) (r : Result VarsState ℕ) → s ≡ surroundings_of w → array_variables s a ≡ r → array_takes a values w i ≡ shaped_takes r a values w i
by_shape s a values w i r same is = ap (λ (e : Surroundings). shaped_takes (array_variables e a) a values w i) (sym same) ∙ ap (λ (x : Result VarsState ℕ). shaped_takes x a values w i) is

pub elements_found : (s : Surroundings) (a : Array) (values : List Value) (w : WorkState) (i : ℕ) (vars : VarsState) → s ≡ surroundings_of w → array_variables s a ≡ Ok vars
    → elements_take a (shape_at a.var vars.table) values 0 (cells (shape_at a.var vars.table)) w i ≡ array_takes a values w i
elements_found s a values w i vars same is = sym (by_shape s a values w i (Ok vars) same is)

pub elements_missing : (s : Surroundings) (a : Array) (values : List Value) (w : WorkState) (i : ℕ) (code : ℕ) → s ≡ surroundings_of w → array_variables s a ≡ Err code → array_takes a values w i ≡ none_taken code w i
elements_missing s a values w i code same is = by_shape s a values w i (Err code) same is

-- items
pub item_took : (values : List Value) (t : Text) (it : Item) (old new : WorkState) (from to : ℕ) (code : Option ℕ) → item_located (context_of old) (tree_at row.LOADED t) ≡ Ok it
    → record { work = new; next = to; code = code } ≡ takes_at it values old from → code ≡ None → Others (after_phrase row.LOADED t) → (first (after_phrase row.LOADED t) == byte.comma) ≡ true
    → each_takes values (items_at (drop 1 (after_phrase row.LOADED t))) new to ≡ each_takes values (items_at t) old from
item_took values t it old new from to code located is none ok comma =
    sym (ap (λ (ts : List Trees). each_takes values ts new to) (further_items (after_phrase row.LOADED t) ok comma))
    ∙ taken_more (item_takes values (tree_at row.LOADED t) old from) (each_takes values (other_items (after_phrase row.LOADED t))) new to code (is ∙ ap (λ (r : Result Item ℕ). takes_to r values old from) (sym located)) none

pub item_last : (values : List Value) (t : Text) (it : Item) (old new : WorkState) (from to : ℕ) (code : Option ℕ) → item_located (context_of old) (tree_at row.LOADED t) ≡ Ok it
    → record { work = new; next = to; code = code } ≡ takes_at it values old from → code ≡ None → (first (after_phrase row.LOADED t) == byte.comma) ≡ false
    → each_takes values (items_at t) old from ≡ record { work = new; next = to; code = None }
item_last values t it old new from to code located is none comma =
    sym (taken_more (item_takes values (tree_at row.LOADED t) old from) (each_takes values (other_items (after_phrase row.LOADED t))) new to code (is ∙ ap (λ (r : Result Item ℕ). takes_to r values old from) (sym located)) none)
    ∙ ap (λ (ts : List Trees). each_takes values ts new to) (no_items (after_phrase row.LOADED t) comma)

pub item_coded : (values : List Value) (t : Text) (it : Item) (old new : WorkState) (from to : ℕ) (code : Option ℕ) (c : ℕ) → item_located (context_of old) (tree_at row.LOADED t) ≡ Ok it
    → record { work = new; next = to; code = code } ≡ takes_at it values old from → code ≡ Some c → each_takes values (items_at t) old from ≡ record { work = new; next = to; code = code }
item_coded values t it old new from to code c located is coded =
    taken_coded (item_takes values (tree_at row.LOADED t) old from) (each_takes values (other_items (after_phrase row.LOADED t))) new to code c (is ∙ ap (λ (r : Result Item ℕ). takes_to r values old from) (sym located)) coded

pub item_refused : (values : List Value) (t : Text) (old : WorkState) (from : ℕ) (c : ℕ) → item_located (context_of old) (tree_at row.LOADED t) ≡ Err c
    → each_takes values (items_at t) old from ≡ record { work = old; next = from; code = Some c }
item_refused values t old from c located =
    ap (λ (r : Result Item ℕ). then_takes (takes_to r values old from) (each_takes values (other_items (after_phrase row.LOADED t)))) located
