-- Plain alpha expressions: a literal, or a scalar without subscripts, alone.
use Rattle.std.proofs.Common.{◌≡◌, ◌≤◌, ℕ, ◌+◌, ◌==◌, nat_le, length, Bool, true, false, List, [], drop, take, refl, sym, ap, ◌∙◌, subst, Ok, Err, Result, Option, Some, None, IfSome, if◌then◌else◌, arith}
use Rattle.std.proofs.lemmas.Bool.Decides.{nat_tests}
use Rattle.std.specs.Borrow.{Bor}
use Rattle.std.specs.FinMap as map
use Rattle.b2_base.specs.Byte as byte
use Rattle.b2_base.specs.Lexical.{first, is_letter}
use Rattle.b2_base.specs.declared.codes.TheConstants.{X77_NO_PARTITION, X72_TOO_LONG}
use Rattle.b2_alpha.specs.Relations.{holds, order_of}
use Rattle.b2_alpha.specs.Values.{value_of}
use Rattle.b2_vars.specs.declared.name.Var.{Var}
use Rattle.b2_vars.specs.Names.{is_legal_name}
use Rattle.b2_vars.specs.Shapes.{cell_at}
use Rattle.b2_vars.specs.Variables.{alpha_at}
use Rattle.b2_vars.specs.Tables.{VarsState, shape_at}
use Rattle.b2_vars.specs.Calls.{get_code}
use Rattle.b2_atom.specs.Words.{Text}
use Rattle.b2_atom.specs.Leaves.{leaf_width}
use Rattle.b2_atom.specs.declared.words.Origin.TheVariants.{Atoms}
use Rattle.b2_atom.specs.declared.rows.TheConstants as row
use Rattle.b2_atom.specs.declared.forms.Leaf.TheVariants as leaf
use Rattle.b2_rows.specs.Rows.{is_phrase, tree_at, after_phrase, list_at}
use Rattle.b2_rows.specs.Leaves.{is_leaf, leaf_bytes}
use Rattle.b2_rows.specs.Values.{relation_of, variable_name}
use Rattle.b2_rows.specs.Chains.{more_start}
use Rattle.b2_rows.specs.declared.chains.Chain.TheVariants as chain
use Rattle.b2_rows.specs.declared.leaves.Name.{Name}
use Rattle.b2_rows.specs.Choices.{alpha_operand_of}
use Rattle.b2_rows.specs.declared.operands.AlphaOperand.TheVariants as alpha_kind
use Rattle.b2_rows.proofs.EachOperand.{literal_left, alpha_variable_left}
use Rattle.b2_expr.specs.Answers.{TextAnswer, ◌>>=◌, or_code, unless}
use Rattle.b2_expr.specs.Condition.{compared_text}
use Rattle.b2_expr.specs.Functions.{joined_text}
use Rattle.b2_expr.specs.Named.{after_name, variable_of}
use Rattle.b2_expr.specs.Plain.{IsPlainText}
use Rattle.b2_expr.specs.Reads.{Judges, truth_word}
use Rattle.b2_expr.specs.Scope.{Context}
use Rattle.b2_expr.specs.Value.{text, further_text, text_row, text_operand, text_of_cell, literal_bytes, subscripts}
use Rattle.b2_expr.specs.declared.evaluated.Judged.{Judged}
use Rattle.b2_expr.specs.declared.named.NameKind.TheVariants as name_kind
use Rattle.b2_expr.specs.declared.named.Subscripts.{Subscripts}
use Rattle.b2_expr.proofs.Comparisons.{texts_is, texts_rest}
use Rattle.b2_expr.proofs.Judging.{judges_truth}
use Rattle.b2_expr.proofs.Names.{legal_name, name_here, located_is, located_rest, branch_is, subscripts_tree, no_subscripts, no_subscripts_rest}
use Rattle.b2_expr.proofs.OperandKinds.{literal_gives, alpha_variable_gives}
use Rattle.b2_expr.proofs.Operands.{sign_at, sign_size, other_at}
use Rattle.b2_expr.proofs.Texts.{text_value, text_rest, off_value, off_rest, value_taken, variable_text}

-- the name of a scalar
pub alpha_leaf : (t : Text) → is_phrase row.ALPHA_VARIABLE t ≡ true → is_leaf leaf.AlphaName t ≡ true
alpha_leaf t ok = name_here name_kind.Alpha t ok

pub alpha_legal : (t : Text) (name : Name) (v : Var) → is_letter name.letter ≡ true → name ≡ variable_name true (leaf_bytes leaf.AlphaName t) → v ≡ variable_of name false → is_legal_name v ≡ true
alpha_legal t name v letter is is_v =
    ap is_legal_name is_v ∙ ap (λ (n : Name). is_legal_name (variable_of n false)) is
    ∙ legal_name true false (leaf_bytes leaf.AlphaName t) (ap (λ (n : Name). is_letter n.letter) (sym is) ∙ letter)

pub is_alpha_name : (t : Text) (name : Name) (v : Var) → name ≡ variable_name true (leaf_bytes leaf.AlphaName t) → v ≡ variable_of name false → v.alpha ≡ true
is_alpha_name t name v is is_v = ap (λ (w : Var). w.alpha) is_v ∙ ap (λ (n : Name). n.alpha) is

-- the bytes of a cell that a name stands for
abbrev cell_text : Context → Bool → Name → Bool → Result Subscripts ℕ → TextAnswer
cell_text e global name array places =
    text_of_cell ((if global then or_code X77_NO_PARTITION e.around.globals else Ok e.around.own) >>= (λ vars. places >>= (λ at. Ok (record {
      vars = vars;
      element = record { global = name.global; var = variable_of name array; row = at.row; column = at.column };
    }))))

abbrev scalar_text : VarsState → Var → TextAnswer
scalar_text own v = unless (get_code v 0 0 own.table) (alpha_at (cell_at (shape_at v own.table) 0 0) (map.get own.table v)) >>= (λ b. Ok (value_of b))

abbrev pub HasText : VarsState → Var → List ℕ → Type 0
HasText s v all = (all ≡ alpha_at (cell_at (shape_at v s.table) 0 0) (map.get s.table v)) × (get_code v 0 0 s.table ≡ None)

text_had : (s : VarsState) (v : Var) (all : List ℕ) → HasText s v all → scalar_text s v ≡ Ok (value_of all)
text_had s v all has =
    ap (λ (o : Option ℕ). unless o (alpha_at (cell_at (shape_at v s.table) 0 0) (map.get s.table v)) >>= (λ b. Ok (value_of b))) has.1
    ∙ ap (λ (b : List ℕ). Ok (value_of b)) (sym has.0)

-- a scalar
pub scalar_plain_text : (own : VarsState) (t : Text) (name : Name) (width : ℕ) (rest : Text) (v : Var) (all part : List ℕ) (n : ℕ) → is_phrase row.ALPHA_VARIABLE t ≡ true
    → name ≡ variable_name true (leaf_bytes leaf.AlphaName t) → width ≡ leaf_width Atoms leaf.AlphaName t → rest ≡ drop width t → name.global ≡ false → (first rest == byte.opening) ≡ false
    → v ≡ variable_of name false → HasText own v all → n ≡ length (value_of all) → part ≡ take n all
    → IsPlainText (λ e. text_operand e alpha_kind.Variable (tree_at row.ALPHA_VARIABLE t)) (after_phrase row.ALPHA_VARIABLE t) own part rest
scalar_plain_text own t name width rest v all part n ok is_name is_width is_rest local none is_v has is_n is_part_of =
    let at : rest ≡ after_name name_kind.Alpha t = is_rest ∙ ap (λ (k : ℕ). drop k t) is_width in
    let plain : (first (after_name name_kind.Alpha t) == byte.opening) ≡ false = subst (λ (w : Text). (first w == byte.opening) ≡ false) at none in
    let written : Name = variable_name true (leaf_bytes leaf.AlphaName t) in (
      λ e outside own_is.
          let there : HasText e.around.own v all = subst (λ (s : VarsState). HasText s v all) (sym own_is) has in
          variable_text e (tree_at row.ALPHA_VARIABLE t)
          ∙ ap text_of_cell (located_is e name_kind.Alpha t ok)
          ∙ ap (λ (b : Bool). cell_text e written.global written b (subscripts e (subscripts_tree name_kind.Alpha t))) (branch_is (after_name name_kind.Alpha t) ∙ plain)
          ∙ ap (λ (places : Result Subscripts ℕ). cell_text e written.global written false places) (no_subscripts e (after_name name_kind.Alpha t) plain)
          ∙ ap (λ (other : Name). cell_text e other.global other false (Ok (record { row = 0; column = 0 }))) (sym is_name)
          ∙ ap (λ (g : Bool). cell_text e g name false (Ok (record { row = 0; column = 0 }))) local
          ∙ ap (scalar_text e.around.own) (sym is_v)
          ∙ text_had e.around.own v all there
          ∙ ap Ok (sym (is_part_of ∙ ap (λ (k : ℕ). take k all) is_n ∙ value_taken all)),
      at ∙ sym (no_subscripts_rest (after_name name_kind.Alpha t) plain) ∙ sym (located_rest name_kind.Alpha t ok),
    )

-- an operand
pub literal_plain : (own : VarsState) (t bytes left : Text) → is_phrase row.ALPHA_OPERAND t ≡ true → alpha_operand_of (first t) ≡ alpha_kind.Literal → literal_bytes (tree_at row.LITERAL t) ≡ Ok bytes
    → left ≡ after_phrase row.LITERAL t → IsPlainText (λ e. text_row e (tree_at row.ALPHA_OPERAND t)) (after_phrase row.ALPHA_OPERAND t) own bytes left
literal_plain own t bytes left ok is value rest = (λ e outside same. literal_gives e t ok is ∙ value, rest ∙ sym (literal_left t ok is))

pub variable_plain_text : (own : VarsState) (t bytes left : Text) → is_phrase row.ALPHA_OPERAND t ≡ true → alpha_operand_of (first t) ≡ alpha_kind.Variable
    → IsPlainText (λ e. text_operand e alpha_kind.Variable (tree_at row.ALPHA_VARIABLE t)) (after_phrase row.ALPHA_VARIABLE t) own bytes left
    → IsPlainText (λ e. text_row e (tree_at row.ALPHA_OPERAND t)) (after_phrase row.ALPHA_OPERAND t) own bytes left
variable_plain_text own t bytes left ok is p = (λ e outside same. alpha_variable_gives e t ok is ∙ p.0 e outside same, p.1 ∙ sym (alpha_variable_left t ok is))

-- where one is found
pub literal_some : (own : VarsState) (t : Text) (r : Option (Bor Text × Bor Text)) → is_phrase row.ALPHA_OPERAND t ≡ true → alpha_operand_of (first t) ≡ alpha_kind.Literal
    → IfSome r (λ p. (literal_bytes (tree_at row.LITERAL t) ≡ Ok p.0.now) × (p.1.now ≡ after_phrase row.LITERAL t))
    → IfSome r (λ p. IsPlainText (λ e. text_row e (tree_at row.ALPHA_OPERAND t)) (after_phrase row.ALPHA_OPERAND t) own p.0.now p.1.now)
literal_some own t None ok is h = h
literal_some own t (Some p) ok is h = literal_plain own t p.0.now p.1.now ok is h.0 h.1

pub variable_some : (own : VarsState) (t : Text) (r : Option (Bor Text × Bor Text)) → is_phrase row.ALPHA_OPERAND t ≡ true → alpha_operand_of (first t) ≡ alpha_kind.Variable
    → IfSome r (λ p. IsPlainText (λ e. text_operand e alpha_kind.Variable (tree_at row.ALPHA_VARIABLE t)) (after_phrase row.ALPHA_VARIABLE t) own p.0.now p.1.now)
    → IfSome r (λ p. IsPlainText (λ e. text_row e (tree_at row.ALPHA_OPERAND t)) (after_phrase row.ALPHA_OPERAND t) own p.0.now p.1.now)
variable_some own t None ok is h = h
variable_some own t (Some p) ok is h = variable_plain_text own t p.0.now p.1.now ok is h

-- an expression of one operand
few_bytes : (n : ℕ) → n ≤ 255 → nat_le (0 + n) 255 ≡ true
few_bytes n h = grind (arith, nat_tests)

kept : (b : Bool) (bytes : List ℕ) → b ≡ true → (if b then Ok bytes else Err X72_TOO_LONG) ≡ Ok bytes
kept true bytes h = refl
kept false bytes h = cc

pub text_alone : (own : VarsState) (t bytes left : Text) → is_phrase row.ALPHA t ≡ true → IsPlainText (λ e. text_row e (tree_at row.ALPHA_OPERAND t)) (after_phrase row.ALPHA_OPERAND t) own bytes left
    → (first left == byte.ampersand) ≡ false → length bytes ≤ 255 → IsPlainText (λ e. text e (tree_at row.ALPHA t)) (after_phrase row.ALPHA t) own bytes left
text_alone own t bytes left ok p none few =
    let ends : (first (after_phrase row.ALPHA_OPERAND t) == byte.ampersand) ≡ false = subst (λ (w : Text). (first w == byte.ampersand) ≡ false) p.1 none in (
      λ e outside same.
          text_value e t ok
          ∙ ap (λ (x : TextAnswer). further_text e (x >>= joined_text []) (list_at (more_start chain.Alpha) row.JOINED (after_phrase row.ALPHA_OPERAND t))) (p.0 e outside same)
          ∙ off_value e (joined_text [] bytes) (after_phrase row.ALPHA_OPERAND t) ends
          ∙ kept (nat_le (0 + length bytes) 255) bytes (few_bytes (length bytes) few),
      p.1 ∙ sym (off_rest (after_phrase row.ALPHA_OPERAND t) ends) ∙ sym (text_rest t ok),
    )

-- two that are compared
abbrev compared_with : Text → TextAnswer → List ℕ → Result Bool ℕ
compared_with t other x = other >>= (λ y. Ok (holds (relation_of (take (sign_size row.ALPHA t) (sign_at row.ALPHA t))) (order_of x y)))

pub plain_judged : (e : Context) (own : VarsState) (t s o x y rest : Text) (h : Bool) (j : Judged) → is_phrase row.ALPHA_COMPARISON t ≡ true → e.parameter ≡ None → e.around.own ≡ own
    → IsPlainText (λ e. text e (tree_at row.ALPHA t)) (after_phrase row.ALPHA t) own x s → o ≡ other_at row.ALPHA t → IsPlainText (λ e. text e (tree_at row.ALPHA o)) (after_phrase row.ALPHA o) own y rest
    → h ≡ holds (relation_of (take (sign_size row.ALPHA t) (sign_at row.ALPHA t))) (order_of x y) → j ≡ record { word = truth_word (Ok h); left = length rest }
    → Judges (compared_text e (tree_at row.ALPHA_COMPARISON t)) (after_phrase row.ALPHA_COMPARISON t) j
plain_judged e own t s o x y rest h j ok outside same p is_o q is_h is_j =
    judges_truth _ _ rest h j is_j
    (texts_is e t ok
    ∙ ap (λ (a : TextAnswer). a >>= compared_with t (text e (tree_at row.ALPHA (other_at row.ALPHA t)))) (p.0 e outside same)
    ∙ ap (λ (w : Text). compared_with t (text e (tree_at row.ALPHA w)) x) (sym is_o)
    ∙ ap (λ (a : TextAnswer). compared_with t a x) (q.0 e outside same) ∙ ap Ok (sym is_h))
    (q.1 ∙ ap (after_phrase row.ALPHA) is_o ∙ sym (texts_rest t ok))
