-- GOSUB' and DEFFN' by their rows, and values that go to receivers.
use Rattle.std.proofs.Common.{◌≡◌, ℕ, ◌==◌, ◌&&◌, ◌||◌, Bool, true, false, List, [], ◌∷◌, length, drop, Option, Some, None, is_some, refl, sym, ap, subst, ◌∙◌, arith, if◌then◌else◌}
use Rattle.std.proofs.lemmas.Bool.Decides.{nat_tests}
use Rattle.b2_base.specs.Byte as byte
use Rattle.b2_base.specs.Lexical.{digits_width, first}
use Rattle.b2_base.specs.declared.codes.TheConstants.{A04_TOO_DEEP, P35_ARGUMENTS, S10_OPEN, S11_CLOSE, S24_SMALL_NUMBER}
use Rattle.b2_dec.specs.declared.values.Value.{Value}
use Rattle.b2_atom.specs.Words.{Text}
use Rattle.b2_atom.specs.Leaves.{leaf_width}
use Rattle.b2_atom.specs.Tokens.Token.{Coded}
use Rattle.b2_atom.specs.Tree.{Trees}
use Rattle.b2_atom.specs.Tree.Trees.{Done, Put, In}
use Rattle.b2_atom.specs.Grammar.{row_items, starts}
use Rattle.b2_atom.specs.declared.words.Origin.TheVariants.{Atoms}
use Rattle.b2_atom.specs.declared.words.TheConstants as word
use Rattle.b2_atom.specs.declared.rows.TheConstants as row
use Rattle.b2_atom.specs.declared.forms.Start.{Start}
use Rattle.b2_atom.specs.declared.forms.Start.TheVariants as start
use Rattle.b2_atom.specs.declared.forms.Leaf.TheVariants as leaf
use Rattle.b2_atom.specs.declared.forms.Item.{Item}
use Rattle.b2_atom.specs.declared.forms.Item.TheVariants.{Word, Sign, Typed, Part, Nest, Maybe, Many}
use Rattle.b2_rows.specs.Choices.{ReadAs, first_branch, second_branch}
use Rattle.b2_rows.specs.Leaves.{is_leaf, leaf_bytes}
use Rattle.b2_rows.specs.Optional.{maybe_phrase, maybe_tree}
use Rattle.b2_rows.specs.Rows.{is_phrase, tree_at}
use Rattle.b2_rows.specs.Values.{small_of}
use Rattle.b2_rows.proofs.Choices.{either_first, either_second}
use Rattle.b2_rows.proofs.Optional.{maybe_stands, begun_part, begun_tree, left_out_tree}
use Rattle.b2_flow.specs.Stacks.{has_room}
use Rattle.b2_flow.specs.declared.frame.Frame.TheVariants.{Call}
use Rattle.b2_flow.specs.declared.frame.Place.{Place}
use Rattle.b2_expr.specs.Workspace.{WorkState, WorkLeft, then_works, unless_coded}
use Rattle.b2_rows.proofs.RowsRead.{stands_of}
use Rattle.b2_access.specs.declared.planned.Outcome.TheVariants as outcome
use Rattle.b2_access.specs.declared.private.Private.{Private}
use Rattle.b2_access.specs.Working.{work_of}
use Rattle.b2_access.specs.Steering.{control_of, steered, unsteered}
use Rattle.b2_stmt.specs.Marked.{calls_into, values_fit, number_called, parameters_of, receivers_in, tail_receivers, take_each, takes_values, takes_bytes}
use Rattle.b2_expr.specs.Kinds.{suits}
use Rattle.b2_rows.specs.CommaLists.{are_others, past_first, receivers_at, commas}
use Rattle.b2_stmt.proofs.ArgumentRows.{call_items, call_row, number_width}

-- the number that GOSUB' calls
pub called_number : (t : Text) → is_phrase row.GOSUB_MARKED t ≡ true → is_leaf leaf.Small (drop 1 t) ≡ true
called_number t ok = (stands_of row.GOSUB_MARKED call_items t call_row ok).0.1.0

pub called_is : (t : Text) → is_phrase row.GOSUB_MARKED t ≡ true → number_called (tree_at row.GOSUB_MARKED t) ≡ small_of (leaf_bytes leaf.Small (drop 1 t))
called_is t ok = ap number_called (stands_of row.GOSUB_MARKED call_items t call_row ok).1

-- the call's frame, and no room for it
room_so : (b c : Bool) (entered : Option ℕ) (q : Place) (args : List Value) (back : Option Place) (me : Private) → b ≡ c
    → steered me (if c then record { work = record (control_of me) { work = record (work_of me) { args = Some args }; stack = Call back entered ∷ me.stack }; outcome = outcome.Jump q } else unsteered me (outcome.Failed A04_TOO_DEEP))
    ≡ (if b then record { me = record me { stack = Call back entered ∷ me.stack; args = Some args }; outcome = outcome.Jump q } else record { me = me; outcome = outcome.Failed A04_TOO_DEEP })
room_so true true entered q args back me is = refl
room_so true false entered q args back me is = cc
room_so false true entered q args back me is = cc
room_so false false entered q args back me is = refl

by_room : (b : Bool) (entered : Option ℕ) (q : Place) (args : List Value) (back : Option Place) (me : Private) → b ≡ has_room me.stack
    → steered me (calls_into entered q args back me)
    ≡ (if b then record { me = record me { stack = Call back entered ∷ me.stack; args = Some args }; outcome = outcome.Jump q } else record { me = me; outcome = outcome.Failed A04_TOO_DEEP })
by_room b entered q args back me is = room_so b _ entered q args back me is

pub call_put : (entered : Option ℕ) (q : Place) (args : List Value) (back : Option Place) (me : Private) → true ≡ has_room me.stack
    → steered me (calls_into entered q args back me) ≡ record { me = record me { stack = Call back entered ∷ me.stack; args = Some args }; outcome = outcome.Jump q }
call_put entered q args back me is = by_room true entered q args back me is

pub no_room : (entered : Option ℕ) (q : Place) (args : List Value) (back : Option Place) (me : Private) → false ≡ has_room me.stack
    → steered me (calls_into entered q args back me) ≡ record { me = me; outcome = outcome.Failed A04_TOO_DEEP }
no_room entered q args back me is = by_room false entered q args back me is

-- the kind of a receiver
alpha_read : (t : Text) → is_phrase row.RECEIVER t ≡ true → starts Atoms start.Alpha t ≡ true → ReadAs row.RECEIVER row.ALPHA_RECEIVER first_branch t
unfolding row_items
alpha_read t ok is = either_first row.RECEIVER row.ALPHA_RECEIVER row.NUMERIC_RECEIVER start.Alpha t refl ok is

pub number_read : (t : Text) → is_phrase row.RECEIVER t ≡ true → starts Atoms start.Alpha t ≡ false → ReadAs row.RECEIVER row.NUMERIC_RECEIVER second_branch t
unfolding row_items
number_read t ok is = either_second row.RECEIVER row.ALPHA_RECEIVER row.NUMERIC_RECEIVER start.Alpha t refl ok is

kind_by : (t : Text) (b : Bool) → is_phrase row.RECEIVER t ≡ true → starts Atoms start.Alpha t ≡ b → takes_bytes (tree_at row.RECEIVER t) ≡ b
kind_by t true ok is = ap takes_bytes (ReadAs.tree (alpha_read t ok is))
kind_by t false ok is = ap takes_bytes (ReadAs.tree (number_read t ok is))

pub kind_is : (t : Text) → is_phrase row.RECEIVER t ≡ true → takes_bytes (tree_at row.RECEIVER t) ≡ starts Atoms start.Alpha t
kind_is t ok = kind_by t (starts Atoms start.Alpha t) ok refl

-- whether values fit receivers, one after another
pub none_fit : (t : Trees) (ts : List Trees) (xs : List Value) → xs ≡ [] → values_fit (t ∷ ts) xs ≡ false
none_fit t ts xs is = ap (values_fit (t ∷ ts)) is

pub other_fits : (t : Trees) (ts : List Trees) (x : Value) (xs ys : List Value) → ys ≡ x ∷ xs → suits (takes_bytes t) x ≡ false → values_fit (t ∷ ts) ys ≡ false
other_fits t ts x xs ys is other = ap (values_fit (t ∷ ts)) is ∙ ap (λ (b : Bool). b && values_fit ts xs) other

pub same_fits : (t : Trees) (ts : List Trees) (x : Value) (xs ys : List Value) → ys ≡ x ∷ xs → suits (takes_bytes t) x ≡ true → values_fit (t ∷ ts) ys ≡ values_fit ts xs
same_fits t ts x xs ys is same = ap (values_fit (t ∷ ts)) is ∙ ap (λ (b : Bool). b && values_fit ts xs) same

not_empty : (x : Value) (xs : List Value) → (length (x ∷ xs) == 0) ≡ false
not_empty x xs = grind (arith, nat_tests)

pub last_fits : (xs : List Value) → values_fit [] xs ≡ (length xs == 0)
last_fits [] = refl
last_fits (x ∷ xs) = sym (not_empty x xs)

-- no receivers
pub no_receivers : (xs : List Value) (w : WorkState) → (length xs == 0) ≡ true → takes_values [] xs w ≡ record { work = w; code = None }
no_receivers [] w is = refl
no_receivers (x ∷ xs) w is = absurd (grind (arith, nat_tests))

pub no_values : (xs : List Value) (w : WorkState) → (length xs == 0) ≡ false → takes_values [] xs w ≡ record { work = w; code = Some P35_ARGUMENTS }
no_values [] w is = cc
no_values (x ∷ xs) w is = refl

-- DEFFN'
abbrev begun : Start
begun = start.Two byte.quote byte.opening

abbrev mark_items : List Item
mark_items = Word word.DEFFN_PRIME ∷ Typed leaf.Small S24_SMALL_NUMBER ∷ Maybe begun row.MARKED_TAIL ∷ []

mark_row : row_items row.DEFFN_MARKED ≡ mark_items
unfolding row_items
mark_row = refl

abbrev parameter_items : List Item
parameter_items = Sign byte.opening S10_OPEN ∷ Nest row.RECEIVERS ∷ Sign byte.closing S11_CLOSE ∷ []

parameter_row : row_items row.PARAMETERS ≡ parameter_items
unfolding row_items
parameter_row = refl

abbrev receiver_items : List Item
receiver_items = Part row.RECEIVER ∷ Many commas row.COMMA_RECEIVER ∷ []

receiver_row : row_items row.RECEIVERS ≡ receiver_items
unfolding row_items
receiver_row = refl

abbrev tail : Text → Text
tail t = drop (digits_width (drop 1 t)) (drop 1 t)

pub record Marked (t : Text) : Type 0 where
  pub part : maybe_phrase begun row.MARKED_TAIL (tail t) ≡ true
  pub receivers : parameters_of (tree_at row.DEFFN_MARKED t) ≡ tail_receivers (maybe_tree begun row.MARKED_TAIL (tail t))

marked : (t : Text) → is_phrase row.DEFFN_MARKED t ≡ true → Marked t
unfolding maybe_tree
marked t ok =
    let r = stands_of row.DEFFN_MARKED mark_items t mark_row ok in
    let width = number_width (drop 1 t) r.0.1.0 in
    record {
      part = subst (λ (n : ℕ). maybe_phrase begun row.MARKED_TAIL (drop n (drop 1 t)) ≡ true) width (maybe_stands begun row.MARKED_TAIL (drop (leaf_width Atoms leaf.Small (drop 1 t)) (drop 1 t)) r.0.1.1);
      receivers = ap parameters_of r.1 ∙ ap (λ (n : ℕ). tail_receivers (maybe_tree begun row.MARKED_TAIL (drop n (drop 1 t)))) width;
    }

loop_begins : (c : ℕ) (t : Text) (b : Bool) → (first t == c) ≡ b → starts Atoms (start.Code c) t ≡ b
unfolding starts
loop_begins c t b is = is

-- receivers in parentheses
opening_begins : (c : ℕ) → (c == byte.opening) ≡ true → (c == byte.quote || c == byte.opening) ≡ true
opening_begins c is = grind (arith, nat_tests)

begins_tail : (t : Text) → (first t == byte.opening) ≡ true → starts Atoms begun t ≡ true
unfolding starts
begins_tail t is = opening_begins (first t) is

no_quote : (c : ℕ) → (c == byte.opening) ≡ true → (c == byte.quote) ≡ false
no_quote c is = grind (arith, nat_tests)

tail_here : (t : Text) → maybe_phrase begun row.MARKED_TAIL t ≡ true → (first t == byte.opening) ≡ true → ReadAs row.MARKED_TAIL row.PARAMETERS second_branch t
unfolding row_items
tail_here t ok is =
    either_second row.MARKED_TAIL row.LITERAL row.PARAMETERS (start.Code byte.quote) t refl (begun_part begun row.MARKED_TAIL t ok (begins_tail t is)) (loop_begins byte.quote t false (no_quote (first t) is))

inner : (t : Text) → is_phrase row.DEFFN_MARKED t ≡ true → (first (tail t) == byte.opening) ≡ true → is_phrase row.RECEIVERS (drop 1 (tail t)) ≡ true
inner t ok is = (stands_of row.PARAMETERS parameter_items (tail t) parameter_row (ReadAs.part (tail_here (tail t) (Marked.part (marked t ok)) is))).0.1.0

pub parameters_first : (t : Text) → is_phrase row.DEFFN_MARKED t ≡ true → (first (tail t) == byte.opening) ≡ true → is_phrase row.RECEIVER (drop 1 (tail t)) ≡ true
parameters_first t ok is = (stands_of row.RECEIVERS receiver_items (drop 1 (tail t)) receiver_row (inner t ok is)).0.0

pub parameters_list : (t : Text) → is_phrase row.DEFFN_MARKED t ≡ true → (first (tail t) == byte.opening) ≡ true → are_others (past_first (drop 1 (tail t))) ≡ true
parameters_list t ok is = (stands_of row.RECEIVERS receiver_items (drop 1 (tail t)) receiver_row (inner t ok is)).0.1.0

pub parameters_are : (t : Text) → is_phrase row.DEFFN_MARKED t ≡ true → (first (tail t) == byte.opening) ≡ true → parameters_of (tree_at row.DEFFN_MARKED t) ≡ receivers_at (drop 1 (tail t))
parameters_are t ok is =
    let m = marked t ok in
    let r = tail_here (tail t) (Marked.part m) is in
    Marked.receivers m ∙ ap tail_receivers (begun_tree begun row.MARKED_TAIL (tail t) (begins_tail (tail t) is))
    ∙ ap (λ (a : Trees). tail_receivers (In 1 a Done)) (ReadAs.tree r)
    ∙ ap receivers_in (stands_of row.PARAMETERS parameter_items (tail t) parameter_row (ReadAs.part r)).1
    ∙ ap (λ (a : Trees). receivers_in (Put (Coded byte.opening) (In 2 a (Put (Coded byte.closing) Done)))) (stands_of row.RECEIVERS receiver_items (drop 1 (tail t)) receiver_row (inner t ok is)).1

-- none
quote_there : (c : ℕ) → (c == byte.quote || c == byte.opening) ≡ true → (c == byte.opening) ≡ false → (c == byte.quote) ≡ true
quote_there c is other = grind (arith, nat_tests)

quote_begins : (t : Text) → starts Atoms begun t ≡ true → (first t == byte.opening) ≡ false → (first t == byte.quote) ≡ true
unfolding starts
quote_begins t is other = quote_there (first t) is other

none_by : (t : Text) (b : Bool) → starts Atoms begun t ≡ b → maybe_phrase begun row.MARKED_TAIL t ≡ true → (first t == byte.opening) ≡ false → tail_receivers (maybe_tree begun row.MARKED_TAIL t) ≡ []
unfolding row_items
none_by t true it ok is =
    ap tail_receivers (begun_tree begun row.MARKED_TAIL t it)
    ∙ ap (λ (a : Trees). tail_receivers (In 1 a Done))
    (ReadAs.tree (either_first row.MARKED_TAIL row.LITERAL row.PARAMETERS (start.Code byte.quote) t refl (begun_part begun row.MARKED_TAIL t ok it) (loop_begins byte.quote t true (quote_begins t it is))))
none_by t false it ok is = ap tail_receivers (left_out_tree begun row.MARKED_TAIL t it)

pub no_parameters : (t : Text) → is_phrase row.DEFFN_MARKED t ≡ true → (first (tail t) == byte.opening) ≡ false → parameters_of (tree_at row.DEFFN_MARKED t) ≡ []
no_parameters t ok is = let m = marked t ok in Marked.receivers m ∙ none_by (tail t) (starts Atoms begun (tail t)) refl (Marked.part m) is

-- a receiver that took its value, and the others
abbrev One : Type 0
One = Trees → Value → WorkState → WorkLeft

pub without_values : (one : One) (ts : List Trees) (xs : List Value) (w : WorkState) → xs ≡ [] → take_each one ts xs w ≡ record { work = w; code = None }
without_values one [] xs w is = refl
without_values one (t ∷ ts) xs w is = ap (λ (ys : List Value). take_each one (t ∷ ts) ys w) is

pub value_more : (one : One) (t : Trees) (ts : List Trees) (x : Value) (xs ys : List Value) (old new : WorkState) (code : Option ℕ) → ys ≡ x ∷ xs → record { work = new; code = code } ≡ one t x old → code ≡ None
    → take_each one ts xs new ≡ take_each one (t ∷ ts) ys old
value_more one t ts x xs ys old new code same is none =
    sym (ap (λ (c : Option ℕ). unless_coded c new (take_each one ts xs)) none) ∙ ap (λ (r : WorkLeft). then_works r (take_each one ts xs)) is ∙ sym (ap (λ (zs : List Value). take_each one (t ∷ ts) zs old) same)

coded_by : (one : One) (t : Trees) (ts : List Trees) (x : Value) (xs : List Value) (old new : WorkState) (code : Option ℕ) (c : ℕ) → record { work = new; code = code } ≡ one t x old → code ≡ Some c
    → take_each one (t ∷ ts) (x ∷ xs) old ≡ record { work = new; code = code }
coded_by one t ts x xs old new code c is some =
    sym (ap (λ (r : WorkLeft). then_works r (take_each one ts xs)) is) ∙ ap (λ (o : Option ℕ). unless_coded o new (take_each one ts xs)) some ∙ ap (λ (o : Option ℕ). record { work = new; code = o }) (sym some)

pub value_coded : (one : One) (t : Trees) (ts : List Trees) (x : Value) (xs ys : List Value) (old new : WorkState) (code : Option ℕ) → ys ≡ x ∷ xs → record { work = new; code = code } ≡ one t x old → is_some code ≡ true
    → record { work = new; code = code } ≡ take_each one (t ∷ ts) ys old
value_coded one t ts x xs ys old new None same is some = cc
value_coded one t ts x xs ys old new (Some c) same is some = sym (ap (λ (zs : List Value). take_each one (t ∷ ts) zs old) same ∙ coded_by one t ts x xs old new (Some c) c is refl)
