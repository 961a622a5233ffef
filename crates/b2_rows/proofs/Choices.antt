-- Choices that are read are the first alternative that begins, and else the last.
use Rattle.std.proofs.Common.{◌≡◌, ℕ, suc, Bool, true, false, if◌then◌else◌, List, [], ◌∷◌, refl, sym, ap, subst, ◌∙◌}
use Rattle.b2_base.specs.Lexical.{first}
use Rattle.b2_atom.specs.Words.{Text}
use Rattle.b2_atom.specs.Tree.Trees.{Done, In}
use Rattle.b2_atom.specs.Grammar.{row_items, starts}
use Rattle.b2_atom.specs.declared.words.Origin.TheVariants.{Atoms}
use Rattle.b2_atom.specs.declared.rows.TheConstants as row
use Rattle.b2_atom.specs.declared.forms.Start.{Start}
use Rattle.b2_atom.specs.declared.forms.Item.TheVariants.{Either}
use Rattle.b2_rows.specs.Rows.{is_phrase, tree_at, after_phrase, When}
use Rattle.b2_rows.specs.Choices.{ReadAs, first_branch, second_branch, Alternative, IsChoice, which, Chosen, operand_kinds, operand_number, operand_of, alpha_kinds, alpha_number, alpha_operand_of}
use Rattle.b2_rows.specs.declared.operands.Operand.{Operand}
use Rattle.b2_rows.specs.declared.operands.Operand.TheVariants as operand
use Rattle.b2_rows.specs.declared.operands.AlphaOperand.{AlphaOperand}
use Rattle.b2_rows.specs.declared.operands.AlphaOperand.TheVariants as alpha
use Rattle.b2_rows.proofs.Standing.{row_stands}

-- one choice
abbrev Branch : Bool → ℕ → ℕ → ℕ → Text → Type 0
Branch true n a b t = ReadAs n a first_branch t
Branch false n a b t = ReadAs n b second_branch t

branch_by : (x : Bool) (n a b : ℕ) (t : Text) → When x ((is_phrase a t ≡ true) × Unit {0}) ((is_phrase b t ≡ true) × Unit {0})
    → tree_at n t ≡ (if x then In 1 (tree_at a t) Done else In 0 (tree_at b t) Done) → after_phrase n t ≡ (if x then after_phrase a t else after_phrase b t) → Branch x n a b t
branch_by true n a b t w is_a is_r = record { part = w.0; tree = is_a; rest = is_r }
branch_by false n a b t w is_a is_r = record { part = w.0; tree = is_a; rest = is_r }

branch : (n a b : ℕ) (s : Start) (t : Text) → row_items n ≡ Either s a b ∷ [] → is_phrase n t ≡ true → Branch (starts Atoms s t) n a b t
branch n a b s t same ok = let r = row_stands n (Either s a b ∷ []) t same ok in branch_by (starts Atoms s t) n a b t r.stands r.tree r.rest

pub either_first : (n a b : ℕ) (s : Start) (t : Text) → row_items n ≡ Either s a b ∷ [] → is_phrase n t ≡ true → starts Atoms s t ≡ true → ReadAs n a first_branch t
either_first n a b s t same ok is = subst (λ (x : Bool). Branch x n a b t) is (branch n a b s t same ok)

pub either_second : (n a b : ℕ) (s : Start) (t : Text) → row_items n ≡ Either s a b ∷ [] → is_phrase n t ≡ true → starts Atoms s t ≡ false → ReadAs n b second_branch t
either_second n a b s t same ok is = subst (λ (x : Bool). Branch x n a b t) is (branch n a b s t same ok)

-- choices in one another
choice_by : (b : Bool) (n : ℕ) (x : Alternative) (xs : List Alternative) (t : Text) → Branch b n x.row x.others t → (is_phrase x.others t ≡ true → Chosen x.others xs (which xs t) t)
    → Chosen n (x ∷ xs) (if b then 0 else suc (which xs t)) t
choice_by true n x xs t r f = r
choice_by false n x xs t r f =
    let g = f r.part in
    record { part = g.part; tree = r.tree ∙ ap second_branch g.tree; rest = r.rest ∙ g.rest }

pub choice_stands : (n : ℕ) (xs : List Alternative) (t : Text) → IsChoice n xs → is_phrase n t ≡ true → Chosen n xs (which xs t) t
choice_stands n [] t is ok = record { part = ok; tree = refl; rest = refl }
choice_stands n (x ∷ xs) t is ok = choice_by (starts Atoms x.begin t) n x xs t (branch n x.row x.others x.begin t is.0 ok) (choice_stands x.others xs t is.1)

-- operands by their first byte
operand_choice : IsChoice row.OPERAND operand_kinds
unfolding row_items
operand_choice = (refl, (refl, (refl, (refl, (refl, (refl, (refl, (refl, (refl, (refl, tt))))))))))

numbered : (a b c d e f g h i j : Bool)
    → operand_number (if a then operand.Number else (if b then operand.Parentheses else (if c then operand.Function else (if d then operand.OfOne else (if e then operand.OfTwo
    else (if f then operand.OfMore else (if g then operand.OfAlpha else (if h then operand.Position else (if i then operand.Value else (if j then operand.KeptNumber else operand.Variable))))))))))
    ≡ (if a then 0 else suc (if b then 0 else suc (if c then 0 else suc (if d then 0 else suc (if e then 0
    else suc (if f then 0 else suc (if g then 0 else suc (if h then 0 else suc (if i then 0 else suc (if j then 0 else suc 0))))))))))
numbered true b c d e f g h i j = refl
numbered false true c d e f g h i j = refl
numbered false false true d e f g h i j = refl
numbered false false false true e f g h i j = refl
numbered false false false false true f g h i j = refl
numbered false false false false false true g h i j = refl
numbered false false false false false false true h i j = refl
numbered false false false false false false false true i j = refl
numbered false false false false false false false false true j = refl
numbered false false false false false false false false false true = refl
numbered false false false false false false false false false false = refl

operand_which : (t : Text) → operand_number (operand_of (first t)) ≡ which operand_kinds t
unfolding starts
operand_which t = numbered _ _ _ _ _ _ _ _ _ _

pub operand_stands : (k : Operand) (t : Text) → is_phrase row.OPERAND t ≡ true → operand_of (first t) ≡ k → Chosen row.OPERAND operand_kinds (operand_number k) t
operand_stands k t ok is =
    subst (λ (n : ℕ). Chosen row.OPERAND operand_kinds n t) (sym (operand_which t) ∙ ap operand_number is) (choice_stands row.OPERAND operand_kinds t operand_choice ok)

-- alpha operands
alpha_choice : IsChoice row.ALPHA_OPERAND alpha_kinds
unfolding row_items
alpha_choice = (refl, (refl, (refl, (refl, tt))))

alpha_numbered : (a b c d : Bool)
    → alpha_number (if a then alpha.Literal else (if b then alpha.StringPart else (if c then alpha.Hex else (if d then alpha.Binary else alpha.Variable))))
    ≡ (if a then 0 else suc (if b then 0 else suc (if c then 0 else suc (if d then 0 else suc 0))))
alpha_numbered true b c d = refl
alpha_numbered false true c d = refl
alpha_numbered false false true d = refl
alpha_numbered false false false true = refl
alpha_numbered false false false false = refl

alpha_which : (t : Text) → alpha_number (alpha_operand_of (first t)) ≡ which alpha_kinds t
unfolding starts
alpha_which t = alpha_numbered _ _ _ _

pub alpha_stands : (k : AlphaOperand) (t : Text) → is_phrase row.ALPHA_OPERAND t ≡ true → alpha_operand_of (first t) ≡ k → Chosen row.ALPHA_OPERAND alpha_kinds (alpha_number k) t
alpha_stands k t ok is =
    subst (λ (n : ℕ). Chosen row.ALPHA_OPERAND alpha_kinds n t) (sym (alpha_which t) ∙ ap alpha_number is) (choice_stands row.ALPHA_OPERAND alpha_kinds t alpha_choice ok)
