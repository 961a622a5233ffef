-- The values of operands one after another.
use Rattle.std.proofs.Common.{◌≡◌, ◌<◌, ℕ, ◌==◌, Bool, true, false, List, [], ◌∷◌, ◌++◌, append_assoc, length, drop, Result, Ok, Err, refl, sym, ap, ◌∙◌}
use Rattle.b2_base.specs.Byte as byte
use Rattle.b2_base.specs.Lexical.{first}
use Rattle.b2_base.specs.declared.codes.TheConstants.{S13_SEPARATOR}
use Rattle.b2_dec.specs.declared.values.Value.{Value}
use Rattle.b2_atom.specs.Words.{Text}
use Rattle.b2_atom.specs.Tree.{Trees}
use Rattle.b2_atom.specs.Grammar.{row_items, starts}
use Rattle.b2_atom.specs.declared.words.Origin.TheVariants.{Atoms}
use Rattle.b2_atom.specs.declared.rows.TheConstants as row
use Rattle.b2_atom.specs.declared.forms.Start.TheVariants as start
use Rattle.b2_rows.specs.Rows.{is_phrase, tree_at, Ends}
use Rattle.b2_rows.proofs.Optional.{begun_tree, left_out_tree}
use Rattle.b2_expr.specs.Answers.{◌>>=◌}
use Rattle.b2_expr.specs.Scope.{Context}
use Rattle.b2_stmt_io.specs.Imaging.{any_value, is_joined, values_joined, values_of}
use Rattle.b2_rows.specs.CommaLists.{after_all_listed, after_further_listed}
use Rattle.b2_stmt_io.specs.Operands.{after_operands, are_operands, end_joint, further_at, joint_at, operands_tree, past_operand}
use Rattle.b2_rows.proofs.CommaLists.{IsComma, Other, end_left, end_of_other, items_of_other, no_items_left, no_other, other, other_shorter, tail_at}

-- a value, and those after it
append_nil : (xs : List Value) → xs ++ [] ≡ xs
append_nil [] = refl
append_nil (x ∷ xs) = ap (λ (l : List Value). x ∷ l) (append_nil xs)

then_by : (r : Result (List Value) ℕ) (old : List Value) (x : Value) → values_joined (old ++ (x ∷ [])) r ≡ values_joined old (r >>= (λ xs. Ok (x ∷ xs)))
then_by (Ok xs) old x = ap Ok (append_assoc old (x ∷ []) xs)
then_by (Err code) old x = refl

pub one_then : (s : Context) (a : Trees) (ts : List Trees) (x : Value) (old new : List Value) → any_value s a ≡ Ok x → new ≡ old ++ (x ∷ [])
    → values_joined new (values_of s ts) ≡ values_joined old (values_of s (a ∷ ts))
one_then s a ts x old new is added =
    ap (λ (l : List Value). values_joined l (values_of s ts)) added ∙ then_by (values_of s ts) old x
    ∙ sym (ap (λ (r : Result Value ℕ). values_joined old (r >>= (λ y. values_of s ts >>= (λ xs. Ok (y ∷ xs))))) is)

pub one_refused : (s : Context) (a : Trees) (ts : List Trees) (code : ℕ) → any_value s a ≡ Err code → values_of s (a ∷ ts) ≡ Err code
one_refused s a ts code is = ap (λ (r : Result Value ℕ). r >>= (λ y. values_of s ts >>= (λ xs. Ok (y ∷ xs)))) is

-- further operands
comma_row : IsComma row.COMMA_OPERAND row.OPERAND_OF_ANY_KIND S13_SEPARATOR
unfolding row_items
comma_row = refl

pub next_part : (t : Text) → are_operands t ≡ true → (first t == byte.comma) ≡ true → is_phrase row.OPERAND_OF_ANY_KIND (drop 1 t) ≡ true
next_part t ok is = Other.part (other row.COMMA_OPERAND row.OPERAND_OF_ANY_KIND S13_SEPARATOR t comma_row ok is)

pub next_list : (t : Text) → are_operands t ≡ true → (first t == byte.comma) ≡ true → are_operands (past_operand (drop 1 t)) ≡ true
next_list t ok is = Other.list (other row.COMMA_OPERAND row.OPERAND_OF_ANY_KIND S13_SEPARATOR t comma_row ok is)

pub next_rest : (t : Text) → are_operands t ≡ true → (first t == byte.comma) ≡ true → after_operands (past_operand (drop 1 t)) ≡ after_operands t
next_rest t ok is = sym (Other.rest (other row.COMMA_OPERAND row.OPERAND_OF_ANY_KIND S13_SEPARATOR t comma_row ok is))

pub next_end : (joint : Trees) (t : Text) → are_operands t ≡ true → (first t == byte.comma) ≡ true → after_further_listed (tail_at row.COMMA_OPERAND joint (past_operand (drop 1 t))) ≡ after_further_listed (tail_at row.COMMA_OPERAND joint t)
next_end joint t ok is = sym (end_of_other row.COMMA_OPERAND row.OPERAND_OF_ANY_KIND S13_SEPARATOR joint t comma_row ok is)

pub next_shorter : (t : Text) → (first t == byte.comma) ≡ true → length (past_operand (drop 1 t)) < length t
next_shorter t is = other_shorter row.OPERAND_OF_ANY_KIND t is

next_items : (joint : Trees) (t : Text) → are_operands t ≡ true → (first t == byte.comma) ≡ true
    → further_at joint t ≡ tree_at row.OPERAND_OF_ANY_KIND (drop 1 t) ∷ further_at joint (past_operand (drop 1 t))
next_items joint t ok is = items_of_other row.COMMA_OPERAND row.OPERAND_OF_ANY_KIND S13_SEPARATOR joint t comma_row ok is

pub next_one : (s : Context) (joint : Trees) (t : Text) (x : Value) (old new : List Value) → are_operands t ≡ true → (first t == byte.comma) ≡ true
    → any_value s (tree_at row.OPERAND_OF_ANY_KIND (drop 1 t)) ≡ Ok x → new ≡ old ++ (x ∷ [])
    → values_joined new (values_of s (further_at joint (past_operand (drop 1 t)))) ≡ values_joined old (values_of s (further_at joint t))
next_one s joint t x old new ok comma is added =
    one_then s (tree_at row.OPERAND_OF_ANY_KIND (drop 1 t)) (further_at joint (past_operand (drop 1 t))) x old new is added
    ∙ sym (ap (λ (ts : List Trees). values_joined old (values_of s ts)) (next_items joint t ok comma))

not_joined : (old : List Value) (code : ℕ) (r : Result (List Value) ℕ) → values_joined old r ≡ Err code → r ≡ Err code
not_joined old code (Ok xs) is = cc
not_joined old code (Err c) is = cc

pub next_refused : (s : Context) (joint : Trees) (t : Text) (code : ℕ) (values old : List Value) (whole : Result (List Value) ℕ) → are_operands t ≡ true → (first t == byte.comma) ≡ true
    → any_value s (tree_at row.OPERAND_OF_ANY_KIND (drop 1 t)) ≡ Err code → values_joined values (values_of s (further_at joint t)) ≡ values_joined old whole → whole ≡ Err code
next_refused s joint t code values old whole ok comma is same =
    not_joined old code whole (sym same ∙ ap (λ (ts : List Trees). values_joined values (values_of s ts)) (next_items joint t ok comma)
    ∙ ap (values_joined values) (one_refused s (tree_at row.OPERAND_OF_ANY_KIND (drop 1 t)) (further_at joint (past_operand (drop 1 t))) code is))

-- the end of them
pub all_valued : (s : Context) (joint : Trees) (t : Text) (values : List Value) → (first t == byte.comma) ≡ false → values_joined values (values_of s (further_at joint t)) ≡ Ok values
all_valued s joint t values is = ap (λ (ts : List Trees). values_joined values (values_of s ts)) (no_items_left row.COMMA_OPERAND joint t is) ∙ ap Ok (append_nil values)

semicolon_starts : (t : Text) (b : Bool) → (first t == byte.semicolon) ≡ b → starts Atoms (start.Code byte.semicolon) t ≡ b
unfolding starts
semicolon_starts t b is = is

joint_by : (t : Text) (b : Bool) → (first t == byte.semicolon) ≡ b → is_joined (joint_at t) ≡ b
joint_by t true is = ap is_joined (begun_tree (start.Code byte.semicolon) row.SEMICOLON t (semicolon_starts t true is))
joint_by t false is = ap is_joined (left_out_tree (start.Code byte.semicolon) row.SEMICOLON t (semicolon_starts t false is))

pub all_joined : (whole t : Text) → (first t == byte.comma) ≡ false → after_operands t ≡ after_operands (past_operand whole)
    → after_further_listed (tail_at row.COMMA_OPERAND (end_joint whole) t) ≡ after_all_listed (operands_tree whole) → is_joined (after_all_listed (operands_tree whole)) ≡ (first t == byte.semicolon)
all_joined whole t is rest same =
    ap is_joined (sym same ∙ end_left row.COMMA_OPERAND (end_joint whole) t is)
    ∙ ap (λ (u : Text). is_joined (joint_at u)) (sym rest ∙ Ends.rest (no_other row.COMMA_OPERAND t is))
    ∙ joint_by t (first t == byte.semicolon) refl
