-- A plain numeric variable by its letter and its digit, which are read at once, as an operand and as a receiver.
use Rattle.std.proofs.Common.{◌≡◌, ℕ, ◌+◌, ◌-◌, ◌==◌, nat_lt, Bool, true, false, true≢false, if◌then◌else◌, [], ◌∷◌, length, take, drop, get_or, Option, Some, None, Result, Ok, refl, sym, ap, ◌∙◌, subst, arith}
use Rattle.std.proofs.lemmas.Bool.Decides.{nat_tests}
use Rattle.std.specs.FinMap as map
use Rattle.b2_base.specs.Byte as byte
use Rattle.b2_base.specs.Lexical.{first, is_digit, is_letter}
use Rattle.b2_dec.specs.Number.{Number}
use Rattle.b2_vars.specs.declared.name.Var.{Var}
use Rattle.b2_vars.specs.Names.{scalar_named}
use Rattle.b2_vars.specs.Shapes.{cell_at}
use Rattle.b2_vars.specs.Variables.{number_at}
use Rattle.b2_vars.specs.Tables.{shape_at}
use Rattle.b2_vars.specs.Calls.{get_code}
use Rattle.b2_atom.specs.Words.{Text}
use Rattle.b2_atom.specs.Leaves.{leaf_width, name_width, is_alpha_name}
use Rattle.b2_atom.specs.declared.words.Origin.TheVariants.{Atoms}
use Rattle.b2_atom.specs.declared.rows.TheConstants as row
use Rattle.b2_atom.specs.declared.forms.Leaf.TheVariants as leaf
use Rattle.b2_rows.specs.Rows.{is_phrase, tree_at, after_phrase}
use Rattle.b2_rows.specs.Leaves.{is_leaf, leaf_bytes}
use Rattle.b2_rows.specs.Values.{variable_name, lettered, digit_in}
use Rattle.b2_rows.specs.declared.leaves.Name.{Name}
use Rattle.b2_rows.specs.declared.operands.Operand.TheVariants as kind
use Rattle.b2_expr.specs.Answers.{Answer, ◌>>=◌, unless}
use Rattle.b2_expr.specs.Named.{Cell, after_name, counted_digit, plain_width, variable_of, variables_of}
use Rattle.b2_expr.specs.Reads.{Finds}
use Rattle.b2_expr.specs.Scope.{Context}
use Rattle.b2_expr.specs.Value.{operand, subscripts, located, element_number}
use Rattle.b2_expr.specs.declared.evaluated.Evaluated.{Evaluated}
use Rattle.b2_expr.specs.declared.named.NameKind.TheVariants as name_kind
use Rattle.b2_expr.specs.declared.named.Subscripts.{Subscripts}
use Rattle.b2_rows.specs.Choices.{operand_of}
use Rattle.b2_expr.proofs.Chained.{finds_with}
use Rattle.b2_expr.proofs.Names.{name_here, number_leaf, located_is, located_rest, branch_is, subscripts_tree, no_subscripts, no_subscripts_rest, variable_plain, variable_rest}

-- how many bytes the name takes
left_of : (b : Bool) (n : ℕ) → nat_lt 0 (if b then 0 else n) ≡ true → (if b then 0 else n) ≡ n
left_of true n h = cc
left_of false n h = refl

pub lettered_width : (t : Text) → is_letter (first t) ≡ true → name_width Atoms t ≡ plain_width t
lettered_width t h = rw h refl

pub width_is : (t : Text) → is_leaf leaf.Name t ≡ true → is_letter (first t) ≡ true → leaf_width Atoms leaf.Name t ≡ plain_width t
width_is t ok h = left_of (is_alpha_name Atoms t) (name_width Atoms t) ok ∙ lettered_width t h

-- the name
abbrev pub plain_name : Text → Name
plain_name t = record { letter = first t; digit = digit_in (drop 1 t); alpha = false; global = false }

no_at_sign : (b : ℕ) → is_letter b ≡ true → (b == byte.at_sign) ≡ false
no_at_sign b h = grind (arith, nat_tests)

lettered_by : (w : Text) (g : Bool) → (first w == byte.at_sign) ≡ g → variable_name false w ≡ lettered false g (if g then drop 1 w else w)
lettered_by w g is = ap (λ (b : Bool). lettered false b (if b then drop 1 w else w)) is

no_digit : (w : Text) → is_digit (first w) ≡ false → None ≡ digit_in w
no_digit w is = sym (ap (λ (b : Bool). if b then Some (first w) else None) is)

pub first_of_rest : (t : Text) → first (drop 1 t) ≡ get_or t 1 0
first_of_rest [] = refl
first_of_rest (a ∷ []) = refl
first_of_rest (a ∷ b ∷ t) = refl

name_by : (t : Text) (d : Bool) → is_letter (first t) ≡ true → is_digit (get_or t 1 0) ≡ d → variable_name false (take (if d then 2 else 1) t) ≡ plain_name t
name_by [] d h is = cc
name_by (b ∷ []) true h is = cc
name_by (b ∷ []) false h is = lettered_by (b ∷ []) false (no_at_sign b h)
name_by (b ∷ c ∷ t) true h is = lettered_by (b ∷ c ∷ []) false (no_at_sign b h)
name_by (b ∷ c ∷ t) false h is =
    lettered_by (b ∷ []) false (no_at_sign b h)
    ∙ ap (λ (d : Option ℕ). record { letter = b; digit = d; alpha = false; global = false }) (no_digit (c ∷ t) is)

pub name_is : (t : Text) → is_leaf leaf.Name t ≡ true → is_letter (first t) ≡ true → variable_name false (leaf_bytes leaf.Name t) ≡ plain_name t
name_is t ok h = ap (λ (n : ℕ). variable_name false (take n t)) (width_is t ok h) ∙ name_by t (is_digit (get_or t 1 0)) h refl

-- the variable
digit_back : (b : ℕ) → is_digit b ≡ true → (zero : Bool) → (b - 47 == 0) ≡ zero → Some b ≡ (if zero then None else Some (b - 47 + 47))
digit_back b is true none = let e : true ≡ false = grind (arith, nat_tests) in absurd (true≢false e)
digit_back b is false some = ap Some (let e : b ≡ b - 47 + 47 = grind (arith, nat_tests) in e)

digit_by : (b : ℕ) (d : Bool) → is_digit b ≡ d → (if d then Some b else None) ≡ (if (if d then b - 47 else 0) == 0 then None else Some ((if d then b - 47 else 0) + 47))
digit_by b false is = refl
digit_by b true is = digit_back b is (b - 47 == 0) refl

variable_is : (t : Text) → variable_of (plain_name t) false ≡ scalar_named (first t) (counted_digit (get_or t 1 0))
variable_is t =
    ap (λ (d : Option ℕ). record { letter = first t; digit = d; alpha = false; array = false })
    (ap (λ (b : ℕ). if is_digit b then Some b else None) (first_of_rest t) ∙ digit_by (get_or t 1 0) (is_digit (get_or t 1 0)) refl)

-- its number
abbrev pub cell_number : Context → Name → Bool → Result Subscripts ℕ → Answer
cell_number e name array places =
    element_number (variables_of e.around name >>= (λ vars. places >>= (λ at. Ok (record {
      vars = vars;
      element = record { global = name.global; var = variable_of name array; row = at.row; column = at.column };
    }))))

abbrev scalar_number : Context → Var → Answer
scalar_number e v = unless (get_code v 0 0 e.around.own.table) (number_at (cell_at (shape_at v e.around.own.table) 0 0) (map.get e.around.own.table v))

located_number : (e : Context) (t : Text) → is_phrase row.VARIABLE t ≡ true → is_letter (first t) ≡ true → (first (after_name name_kind.Number t) == byte.opening) ≡ false
    → element_number (located e false (tree_at row.VARIABLE t)) ≡ scalar_number e (scalar_named (first t) (counted_digit (get_or t 1 0)))
located_number e t ok h none =
    ap element_number (located_is e name_kind.Number t ok)
    ∙ ap (λ (b : Bool). cell_number e (variable_name false (leaf_bytes leaf.Name t)) b (subscripts e (subscripts_tree name_kind.Number t))) (branch_is (after_name name_kind.Number t) ∙ none)
    ∙ ap (λ (places : Result Subscripts ℕ). cell_number e (variable_name false (leaf_bytes leaf.Name t)) false places) (no_subscripts e (after_name name_kind.Number t) none)
    ∙ ap (λ (name : Name). cell_number e name false (Ok (record { row = 0; column = 0 }))) (name_is t (number_leaf t ok) h)
    ∙ ap (scalar_number e) (variable_is t)

pub scalar_found : (e : Context) (t : Text) (v : Var) (x : Number) (u : Text) (f : Evaluated) → is_phrase row.VARIABLE t ≡ true → is_letter (first t) ≡ true → e.parameter ≡ None
    → u ≡ drop (plain_width t) t → (first u == byte.opening) ≡ false → v ≡ scalar_named (first t) (counted_digit (get_or t 1 0))
    → x ≡ number_at (cell_at (shape_at v e.around.own.table) 0 0) (map.get e.around.own.table v) → get_code v 0 0 e.around.own.table ≡ None
    → f ≡ record { number = Ok x; left = length u }
    → Finds (operand e kind.Variable (tree_at row.VARIABLE t)) (after_phrase row.VARIABLE t) f
scalar_found e t v x u f ok h free is_u none is_v is_x there is_f =
    let after : u ≡ after_name name_kind.Number t = is_u ∙ ap (λ (n : ℕ). drop n t) (sym (width_is t (number_leaf t ok) h)) in
    let plain : (first (after_name name_kind.Number t) == byte.opening) ≡ false = subst (λ (w : Text). (first w == byte.opening) ≡ false) after none in
    finds_with _ _ u x f is_f
    (variable_plain e t ok free ∙ located_number e t ok h plain ∙ ap (scalar_number e) (sym is_v)
    ∙ ap (λ (o : Option ℕ). unless o (number_at (cell_at (shape_at v e.around.own.table) 0 0) (map.get e.around.own.table v))) there
    ∙ ap Ok (sym is_x))
    (after ∙ sym (variable_rest t ok plain))

-- and what stands after it
pub scalar_rest : (t u : Text) → is_phrase row.VARIABLE t ≡ true → is_letter (first t) ≡ true → u ≡ drop (plain_width t) t → (first u == byte.opening) ≡ false → u ≡ after_phrase row.VARIABLE t
scalar_rest t u ok h is_u none =
    let after : u ≡ after_name name_kind.Number t = is_u ∙ ap (λ (n : ℕ). drop n t) (sym (width_is t (number_leaf t ok) h)) in
    after ∙ sym (variable_rest t ok (subst (λ (w : Text). (first w == byte.opening) ≡ false) after none))

-- as a receiver: the element that it names, and what stands after it
abbrev cell_of : Context → Name → Bool → Result Subscripts ℕ → Result Cell ℕ
cell_of e name array places =
    variables_of e.around name >>= (λ vars. places >>= (λ at. Ok (record {
      vars = vars;
      element = record { global = name.global; var = variable_of name array; row = at.row; column = at.column };
    })))

abbrev own_scalar : Context → Var → Cell
own_scalar e v = record { vars = e.around.own; element = record { global = false; var = v; row = 0; column = 0 } }

receiver_leaf : (t : Text) → is_phrase row.NUMERIC_RECEIVER t ≡ true → is_leaf leaf.Name t ≡ true
receiver_leaf t ok = name_here name_kind.NumberReceiver t ok

after_receiver : (t : Text) → is_phrase row.NUMERIC_RECEIVER t ≡ true → is_letter (first t) ≡ true → after_name name_kind.NumberReceiver t ≡ drop (plain_width t) t
after_receiver t ok h = ap (λ (n : ℕ). drop n t) (width_is t (receiver_leaf t ok) h)

alone : (t : Text) → is_phrase row.NUMERIC_RECEIVER t ≡ true → is_letter (first t) ≡ true → (first (drop (plain_width t) t) == byte.opening) ≡ false
    → (first (after_name name_kind.NumberReceiver t) == byte.opening) ≡ false
alone t ok h none = ap (λ (w : Text). first w == byte.opening) (after_receiver t ok h) ∙ none

pub receiver_located : (e : Context) (t : Text) → is_phrase row.NUMERIC_RECEIVER t ≡ true → is_letter (first t) ≡ true → (first (drop (plain_width t) t) == byte.opening) ≡ false
    → located e false (tree_at row.NUMERIC_RECEIVER t) ≡ Ok (own_scalar e (scalar_named (first t) (counted_digit (get_or t 1 0))))
receiver_located e t ok h none =
    located_is e name_kind.NumberReceiver t ok
    ∙ ap (λ (b : Bool). cell_of e (variable_name false (leaf_bytes leaf.Name t)) b (subscripts e (subscripts_tree name_kind.NumberReceiver t))) (branch_is (after_name name_kind.NumberReceiver t) ∙ alone t ok h none)
    ∙ ap (λ (places : Result Subscripts ℕ). cell_of e (variable_name false (leaf_bytes leaf.Name t)) false places) (no_subscripts e (after_name name_kind.NumberReceiver t) (alone t ok h none))
    ∙ ap (λ (name : Name). cell_of e name false (Ok (record { row = 0; column = 0 }))) (name_is t (receiver_leaf t ok) h)
    ∙ ap (λ (v : Var). Ok (own_scalar e v)) (variable_is t)

pub receiver_rest : (t : Text) → is_phrase row.NUMERIC_RECEIVER t ≡ true → is_letter (first t) ≡ true → (first (drop (plain_width t) t) == byte.opening) ≡ false
    → after_phrase row.NUMERIC_RECEIVER t ≡ drop (plain_width t) t
receiver_rest t ok h none = located_rest name_kind.NumberReceiver t ok ∙ no_subscripts_rest (after_name name_kind.NumberReceiver t) (alone t ok h none) ∙ after_receiver t ok h

-- a letter begins a variable
pub letter_operand : (t : Text) → is_letter (first t) ≡ true → operand_of (first t) ≡ kind.Variable
letter_operand t h = grind (arith, nat_tests)

-- and a digit a number that is written out
pub digit_operand : (t : Text) → is_digit (first t) ≡ true → operand_of (first t) ≡ kind.Number
digit_operand t h = grind (arith, nat_tests)
