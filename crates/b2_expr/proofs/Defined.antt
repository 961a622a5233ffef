-- The unit of a function in a text, and what a call of it comes to.
use Rattle.std.proofs.Common.{◌≡◌, ◌≤◌, ◌||◌, ◌&&◌, ◌==◌, ◌+◌, nat_lt, ℕ, zero, suc, Bool, true, false, if◌then◌else◌, List, [], ◌∷◌, drop, length, refl, sym, ap, ◌∙◌, subst, arith, Ok, Err, Some, None, slice_get, length-drop, drop-drop}
use Rattle.std.proofs.lemmas.Bool.Decides.{nat_tests}
use Rattle.std.specs.Option.{option_map, option_map_or}
use Rattle.std.specs.declared.option.Option.{Option}
use Rattle.std.specs.List.{All}
use Rattle.std.proofs.lemmas.List.Elements.{All-head, All-tail}
use Rattle.b2_base.specs.Byte as byte
use Rattle.b2_base.specs.Lexical.{first, is_digit, is_letter}
use Rattle.b2_base.specs.declared.codes.TheConstants.{A04_TOO_DEEP, P38_NO_DEFFN, S10_OPEN, S11_CLOSE, S12_EQUALS, S20_VARIABLE, S22_WORD}
use Rattle.b2_dec.specs.Number.{Number}
use Rattle.b2_atom.specs.Words.{Text}
use Rattle.b2_atom.specs.Leaves.{leaf_width}
use Rattle.b2_atom.specs.Tokens.Token.{Coded, Plain}
use Rattle.b2_atom.specs.Tree.{Trees}
use Rattle.b2_atom.specs.Tree.Trees.{Done, Put, In}
use Rattle.b2_atom.specs.Grammar.{row_items, starts}
use Rattle.b2_atom.specs.Lines.{is_line, LineUnit, units_of}
use Rattle.b2_atom.specs.declared.words.Origin.TheVariants.{Atoms}
use Rattle.b2_atom.specs.declared.words.TheConstants as word
use Rattle.b2_atom.specs.declared.rows.TheConstants as row
use Rattle.b2_atom.specs.declared.forms.Start.TheVariants as start
use Rattle.b2_atom.specs.declared.forms.Leaf.TheVariants as leaf
use Rattle.b2_atom.specs.declared.forms.Item.{Item}
use Rattle.b2_atom.specs.declared.forms.Item.TheVariants.{Word, Sign, Typed, Part, Either, Nest}
use Rattle.b2_text.specs.Program.{TextState, Lines, line_at}
use Rattle.b2_text.specs.Spots.{unit_at, unit_of, is_function, first_opening}
use Rattle.b2_text.specs.declared.spots.Spot.{Spot}
use Rattle.b2_text.proofs.Statements.{chosen_of, function_is}
use Rattle.b2_rows.specs.Rows.{is_phrase, tree_at, after_phrase, When}
use Rattle.b2_rows.specs.Laws.{IsRow, IsRowUnit}
use Rattle.b2_rows.specs.Leaves.{is_leaf, leaf_bytes}
use Rattle.b2_rows.specs.Values.{variable_name}
use Rattle.b2_rows.proofs.Units.{each_unit_is_a_row}
use Rattle.b2_expr.specs.Answers.{◌>>=◌, or_code}
use Rattle.b2_expr.specs.Scope.{Surroundings, Context}
use Rattle.b2_expr.specs.Value.{value, called, applied, function_tree}
use Rattle.b2_expr.specs.declared.scope.Parameter.{Parameter}
use Rattle.b2_expr.specs.declared.operators.Level.TheVariants as level
use Rattle.b2_rows.proofs.RowsRead.{stands_of}

-- a unit that begins as a function is read as one
same_row : (m n : ℕ) (b c : Bool) → b ≡ true → b ≡ ((m == n) && c) → m ≡ n
same_row m n b c h is = grind (arith, nat_tests)

of_unit : (u : LineUnit) (name : ℕ) → IsRowUnit u → (is_letter name || is_digit name) ≡ true → is_function name u.bytes ≡ true → is_phrase row.DEFFN u.bytes ≡ true
of_unit u name r k h =
    let is : IsRowUnit.row r ≡ row.DEFFN = same_row (IsRowUnit.row r) row.DEFFN _ _ h (function_is name u.position u.bytes (IsRowUnit.row r) (IsRowUnit.tree r) k (chosen_of u.position u.bytes (IsRowUnit.row r) (IsRowUnit.tree r) (IsRowUnit.read r))) in
    subst (λ (n : ℕ). is_phrase n u.bytes ≡ true) is (IsRow.part (IsRowUnit.is r))

among_units : (us : List LineUnit) (k name : ℕ) (bytes : Text) → All IsRowUnit us → option_map (λ (u : LineUnit). u.bytes) (slice_get us k) ≡ Some bytes
    → (is_letter name || is_digit name) ≡ true → is_function name bytes ≡ true → is_phrase row.DEFFN bytes ≡ true
among_units [] k name bytes each found l h = cc
among_units (u ∷ us) zero name bytes each found l h =
    let is : u.bytes ≡ bytes = cc in
    subst (λ (t : Text). is_phrase row.DEFFN t ≡ true) is (of_unit u name (All-head IsRowUnit u us each) l (subst (λ (t : Text). is_function name t ≡ true) (sym is) h))
among_units (u ∷ us) (suc k) name bytes each found l h = among_units us k name bytes (All-tail IsRowUnit u us each) found l h

pub is_definition : (line : Text) (k name : ℕ) (bytes : Text) → is_line line ≡ true → option_map (λ (u : LineUnit). u.bytes) (slice_get (units_of line) k) ≡ Some bytes
    → (is_letter name || is_digit name) ≡ true → is_function name bytes ≡ true → is_phrase row.DEFFN bytes ≡ true
is_definition line k name bytes h found l f = among_units (units_of line) k name bytes (each_unit_is_a_row line h) found l f

-- the rows of a function
abbrev deffn_items : List Item
deffn_items = Word word.DEFFN ∷ Either (start.Code word.GLOBAL_PART) row.GLOBAL_PART row.FUNCTION_BODY ∷ []

deffn_row : row_items row.DEFFN ≡ deffn_items
unfolding row_items
deffn_row = refl

abbrev body_items : List Item
body_items = Typed leaf.FunctionName S22_WORD ∷ Sign byte.opening S10_OPEN ∷ Nest row.NUMERIC_NAME ∷ Sign byte.closing S11_CLOSE ∷ Sign byte.equals S12_EQUALS ∷ Part row.SUM ∷ []

body_row : row_items row.FUNCTION_BODY ≡ body_items
unfolding row_items
body_row = refl

abbrev name_items : List Item
name_items = Typed leaf.Name S20_VARIABLE ∷ []

name_row : row_items row.NUMERIC_NAME ≡ name_items
unfolding row_items
name_row = refl

not_global : (name : ℕ) (t : Text) → (is_letter name || is_digit name) ≡ true → is_function name t ≡ true → (first (drop 1 t) == word.GLOBAL_PART) ≡ false
not_global name [] l h = cc
not_global name (a ∷ []) l h = cc
not_global name (a ∷ b ∷ []) l h = cc
not_global name (a ∷ b ∷ c ∷ t) l h = grind (arith, nat_tests)

second_of : (b : Bool) (x y p q : Type 0) → b ≡ false → When b (x × p) (y × q) → y
second_of true x y p q is h = cc
second_of false x y p q is h = h.0

begins : (t : Text) (b : Bool) → (first t == word.GLOBAL_PART) ≡ b → starts Atoms (start.Code word.GLOBAL_PART) t ≡ b
unfolding starts
begins t b is = is

abbrev IsDefinition : ℕ → Text → Type 0
IsDefinition name t = (is_phrase row.DEFFN t ≡ true) × ((is_letter name || is_digit name) ≡ true) × (is_function name t ≡ true)

no_part : (name : ℕ) (t : Text) → IsDefinition name t → starts Atoms (start.Code word.GLOBAL_PART) (drop 1 t) ≡ false
no_part name t d = begins (drop 1 t) false (not_global name t d.1 d.2)

body_at : (name : ℕ) (t : Text) → IsDefinition name t → is_phrase row.FUNCTION_BODY (drop 1 t) ≡ true
body_at name t d = second_of (starts Atoms (start.Code word.GLOBAL_PART) (drop 1 t)) _ _ _ _ (no_part name t d) (stands_of row.DEFFN deffn_items t deffn_row d.0).0.1

one_letter : (b : Bool) → nat_lt 0 (if b then 1 else 0) ≡ true → ◌≡◌ {A = ℕ} (if b then 1 else 0) 1
one_letter true h = refl
one_letter false h = cc

name_size : (name : ℕ) (t : Text) → IsDefinition name t → leaf_width Atoms leaf.FunctionName (drop 1 t) ≡ 1
name_size name t d = one_letter _ (stands_of row.FUNCTION_BODY body_items (drop 1 t) body_row (body_at name t d)).0.0

drop_three : (t : Text) → drop 1 (drop 1 (drop 1 t)) ≡ drop 3 t
drop_three [] = refl
drop_three (a ∷ []) = refl
drop_three (a ∷ b ∷ []) = refl
drop_three (a ∷ b ∷ c ∷ t) = refl

abbrev opened : Text → Text
opened t = drop 1 (drop (leaf_width Atoms leaf.FunctionName (drop 1 t)) (drop 1 t))

opened_is : (name : ℕ) (t : Text) → IsDefinition name t → opened t ≡ drop 3 t
opened_is name t d = ap (λ (n : ℕ). drop 1 (drop n (drop 1 t))) (name_size name t d) ∙ drop_three t

parameter_opened : (name : ℕ) (t : Text) → IsDefinition name t → is_phrase row.NUMERIC_NAME (opened t) ≡ true
parameter_opened name t d = (stands_of row.FUNCTION_BODY body_items (drop 1 t) body_row (body_at name t d)).0.1.1.0

parameter_at : (name : ℕ) (t : Text) → IsDefinition name t → is_phrase row.NUMERIC_NAME (drop 3 t) ≡ true
parameter_at name t d = subst (λ (u : Text). is_phrase row.NUMERIC_NAME u ≡ true) (opened_is name t d) (parameter_opened name t d)

pub parameter_here : (name : ℕ) (t : Text) → is_phrase row.DEFFN t ≡ true → (is_letter name || is_digit name) ≡ true → is_function name t ≡ true → is_leaf leaf.Name (drop 3 t) ≡ true
parameter_here name t ok l f = (stands_of row.NUMERIC_NAME name_items (drop 3 t) name_row (parameter_at name t (ok, l, f))).0.0

-- where the expression stands
abbrev pub body_of : Text → Text
body_of t = drop (leaf_width Atoms leaf.Name (drop 3 t) + 2) (drop 3 t)

drop_two : (n : ℕ) (t : Text) → drop 1 (drop 1 (drop n t)) ≡ drop (n + 2) t
drop_two n t = drop-drop 1 1 (drop n t) ∙ drop-drop 2 n t

after_name : (name : ℕ) (t : Text) → IsDefinition name t → drop 1 (drop 1 (after_phrase row.NUMERIC_NAME (opened t))) ≡ body_of t
after_name name t d =
    ap (λ (u : Text). drop 1 (drop 1 (after_phrase row.NUMERIC_NAME u))) (opened_is name t d)
    ∙ ap (λ (u : Text). drop 1 (drop 1 u)) (stands_of row.NUMERIC_NAME name_items (drop 3 t) name_row (parameter_at name t d)).2
    ∙ drop_two (leaf_width Atoms leaf.Name (drop 3 t)) (drop 3 t)

pub body_part : (name : ℕ) (t : Text) → is_phrase row.DEFFN t ≡ true → (is_letter name || is_digit name) ≡ true → is_function name t ≡ true → is_phrase row.SUM (body_of t) ≡ true
body_part name t ok l f =
    let d : IsDefinition name t = (ok, l, f) in
    subst (λ (u : Text). is_phrase row.SUM u ≡ true) (after_name name t d) (stands_of row.FUNCTION_BODY body_items (drop 1 t) body_row (body_at name t d)).0.1.1.1.1.1.0

pub body_is : (t u : Text) (n : ℕ) → u ≡ drop 3 t → n ≡ leaf_width Atoms leaf.Name u → drop (n + 2) u ≡ body_of t
body_is t u n is_u is_n = ap (λ (k : ℕ). drop (k + 2) u) is_n ∙ ap (λ (v : Text). drop (leaf_width Atoms leaf.Name v + 2) v) is_u

pub length_after : (t u v : Text) (n : ℕ) → u ≡ drop 3 t → v ≡ drop n u → length t ≤ 255 → length v ≤ 255
length_after t u v n is_u is_v short =
    let a : length v ≡ length (drop n u) = ap length is_v in
    let b : length u ≡ length (drop 3 t) = ap length is_u in
    omega (arith, a, b, short, length-drop n u, length-drop 3 t)

deffn_tree : (name : ℕ) (t : Text) → IsDefinition name t → tree_at row.DEFFN t ≡ Put (Coded word.DEFFN) (In 0 (tree_at row.FUNCTION_BODY (drop 1 t)) Done)
deffn_tree name t d =
    (stands_of row.DEFFN deffn_items t deffn_row d.0).1
    ∙ ap (λ (b : Bool). Put (Coded word.DEFFN) (if b then In 1 (tree_at row.GLOBAL_PART (drop 1 t)) Done else In 0 (tree_at row.FUNCTION_BODY (drop 1 t)) Done)) (no_part name t d)

name_tree : (name : ℕ) (t : Text) → IsDefinition name t → tree_at row.NUMERIC_NAME (opened t) ≡ Put (Plain leaf.Name (leaf_bytes leaf.Name (drop 3 t))) Done
name_tree name t d =
    ap (tree_at row.NUMERIC_NAME) (opened_is name t d)
    ∙ (stands_of row.NUMERIC_NAME name_items (drop 3 t) name_row (parameter_at name t d)).1

pub applied_is : (s : Parameter → Context) (x : Number) (name : ℕ) (t : Text) → is_phrase row.DEFFN t ≡ true → (is_letter name || is_digit name) ≡ true → is_function name t ≡ true
    → applied s x (tree_at row.DEFFN t) ≡ value (s (record { name = variable_name false (leaf_bytes leaf.Name (drop 3 t)); value = x })) level.Sum (tree_at row.SUM (body_of t))
applied_is s x name t ok l f =
    let d : IsDefinition name t = (ok, l, f) in
    let w = leaf_bytes leaf.FunctionName (drop 1 t) in
    ap (applied s x) (deffn_tree name t d)
    ∙ ap (λ (a : Trees). applied s x (Put (Coded word.DEFFN) (In 0 a Done))) (stands_of row.FUNCTION_BODY body_items (drop 1 t) body_row (body_at name t d)).1
    ∙ ap (λ (a : Trees). applied s x (Put (Coded word.DEFFN) (In 0 (Put (Plain leaf.FunctionName w) (Put (Coded byte.opening) (In 2 a (Put (Coded byte.closing) (Put (Coded byte.equals) (In 2 (tree_at row.SUM (drop 1 (drop 1 (after_phrase row.NUMERIC_NAME (opened t))))) Done)))))) Done))) (name_tree name t d)
    ∙ ap (λ (u : Text). value (s (record { name = variable_name false (leaf_bytes leaf.Name (drop 3 t)); value = x })) level.Sum (tree_at row.SUM u)) (after_name name t d)

-- a call, by what is found
tree_found : (found : Option Text) (spot : Option Spot) (lines : Lines) → found ≡ option_map (λ s. unit_at s lines) spot
    → or_code P38_NO_DEFFN (option_map (λ s. tree_at row.DEFFN (unit_at s lines)) spot) ≡ or_code P38_NO_DEFFN (option_map (tree_at row.DEFFN) found)
tree_found found None lines h = sym (ap (λ f. or_code P38_NO_DEFFN (option_map (tree_at row.DEFFN) f)) h)
tree_found found (Some s) lines h = sym (ap (λ f. or_code P38_NO_DEFFN (option_map (tree_at row.DEFFN) f)) h)

function_none : (name : ℕ) (home : TextState) → None ≡ option_map (λ s. unit_at s home.lines) (first_opening (is_function name) home.lines) → function_tree name home ≡ Err P38_NO_DEFFN
function_none name home h = tree_found None (first_opening (is_function name) home.lines) home.lines h

function_some : (name : ℕ) (home : TextState) (t : Text) → Some t ≡ option_map (λ s. unit_at s home.lines) (first_opening (is_function name) home.lines) → function_tree name home ≡ Ok (tree_at row.DEFFN t)
function_some name home t h = tree_found (Some t) (first_opening (is_function name) home.lines) home.lines h

pub called_nowhere : (e : Surroundings) (room name : ℕ) (x : Number) → None ≡ option_map (λ s. unit_at s e.home.lines) (first_opening (is_function name) e.home.lines) → called e room name x ≡ Err P38_NO_DEFFN
unfolding called
called_nowhere e zero name x h = ap (λ f. f >>= (λ t. Err A04_TOO_DEEP)) (function_none name e.home h)
called_nowhere e (suc room) name x h = ap (λ f. f >>= applied (λ p. record { around = e; parameter = Some p; call = called e room }) x) (function_none name e.home h)

pub called_too_deep : (e : Surroundings) (room name : ℕ) (x : Number) (t : Text) → Some t ≡ option_map (λ s. unit_at s e.home.lines) (first_opening (is_function name) e.home.lines) → room ≡ 0 → called e room name x ≡ Err A04_TOO_DEEP
unfolding called
called_too_deep e zero name x t h is = ap (λ f. f >>= (λ t. Err A04_TOO_DEEP)) (function_some name e.home t h)
called_too_deep e (suc room) name x t h is = cc

pub called_body : (e : Surroundings) (room k name : ℕ) (x : Number) (t : Text) → Some t ≡ option_map (λ s. unit_at s e.home.lines) (first_opening (is_function name) e.home.lines)
    → is_phrase row.DEFFN t ≡ true → (is_letter name || is_digit name) ≡ true → is_function name t ≡ true → room ≡ suc k
    → called e room name x ≡ value (record { around = e; parameter = Some (record { name = variable_name false (leaf_bytes leaf.Name (drop 3 t)); value = x }); call = called e k }) level.Sum (tree_at row.SUM (body_of t))
unfolding called
called_body e zero k name x t h ok l f is = cc
called_body e (suc room) k name x t h ok l f is =
    ap (λ f. f >>= applied (λ p. record { around = e; parameter = Some p; call = called e room }) x) (function_some name e.home t h)
    ∙ applied_is (λ p. record { around = e; parameter = Some p; call = called e room }) x name t ok l f
    ∙ ap (λ (n : ℕ). value (record { around = e; parameter = Some (record { name = variable_name false (leaf_bytes leaf.Name (drop 3 t)); value = x }); call = called e n }) level.Sum (tree_at row.SUM (body_of t)))
    (let same : room ≡ k = omega (arith, is) in same)

-- the unit at a spot, as it is found
bytes_of_unit : (o : Option LineUnit) (bytes : Text) → Some bytes ≡ option_map (λ (u : LineUnit). u.bytes) o → option_map_or (λ (u : LineUnit). u.bytes) o [] ≡ bytes
bytes_of_unit None bytes h = cc
bytes_of_unit (Some u) bytes h = cc

found_is : (lines : Lines) (spot : Spot) (line bytes : Text) (k : ℕ) → Some line ≡ line_at spot.line lines → k ≡ spot.unit
    → Some bytes ≡ option_map (λ (u : LineUnit). u.bytes) (slice_get (units_of line) k) → unit_at spot lines ≡ bytes
found_is lines spot line bytes k is_line is_k is_b =
    ap (λ (o : Option Text). option_map_or (unit_of spot.unit) o []) (sym is_line)
    ∙ ap (λ (n : ℕ). unit_of n line) (sym is_k)
    ∙ bytes_of_unit (slice_get (units_of line) k) bytes is_b

pub there_is : (lines : Lines) (spot : Spot) (line bytes : Text) (k name : ℕ) → is_line line ≡ true → (is_letter name || is_digit name) ≡ true
    → Some line ≡ line_at spot.line lines → k ≡ spot.unit → Some bytes ≡ option_map (λ (u : LineUnit). u.bytes) (slice_get (units_of line) k)
    → is_function name (unit_at spot lines) ≡ true → is_phrase row.DEFFN bytes ≡ true
there_is lines spot line bytes k name h l is_l is_k is_b f =
    is_definition line k name bytes h (sym is_b) l (subst (λ (t : Text). is_function name t ≡ true) (found_is lines spot line bytes k is_l is_k is_b) f)
