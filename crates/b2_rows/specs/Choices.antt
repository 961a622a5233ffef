-- Choices of the table: rows that stand in one another, of which the first that begins is read, and else the last.
use Rattle.std.specs.Prelude.{◌≡◌, ℕ, zero, suc, ◌==◌, ◌||◌, true, List, [], ◌∷◌, if◌then◌else◌}
use Rattle.b2_base.specs.Byte as byte
use Rattle.b2_base.specs.Lexical.{is_digit}
use Rattle.b2_atom.specs.Words.{Text}
use Rattle.b2_atom.specs.Tree.{Trees}
use Rattle.b2_atom.specs.Tree.Trees.{Done, In}
use Rattle.b2_atom.specs.Grammar.{is_among, row_items, starts}
use Rattle.b2_atom.specs.declared.words.TheConstants as word
use Rattle.b2_atom.specs.declared.rows.TheConstants as row
use Rattle.b2_atom.specs.declared.words.Origin.TheVariants.{Atoms}
use Rattle.b2_atom.specs.declared.forms.Start.{Start}
use Rattle.b2_atom.specs.declared.forms.Start.TheVariants as start
use Rattle.b2_atom.specs.declared.forms.Item.TheVariants.{Either}
use Rattle.b2_rows.specs.Rows.{is_phrase, tree_at, after_phrase}
use Rattle.b2_rows.specs.declared.operands.Operand.{Operand}
use Rattle.b2_rows.specs.declared.operands.Operand.TheVariants as operand
use Rattle.b2_rows.specs.declared.operands.AlphaOperand.{AlphaOperand}
use Rattle.b2_rows.specs.declared.operands.AlphaOperand.TheVariants as alpha

-- a row that is read as another, in a branch
pub record ReadAs (n m : ℕ) (wrapped : Trees → Trees) (t : Text) : Type 0 where
  pub part : is_phrase m t ≡ true
  pub tree : tree_at n t ≡ wrapped (tree_at m t)
  pub rest : after_phrase n t ≡ after_phrase m t

-- the trees of the two branches of a choice
abbrev pub first_branch : Trees → Trees
first_branch a = In 1 a Done

abbrev pub second_branch : Trees → Trees
second_branch a = In 0 a Done

-- an alternative: what it begins with, its row, and the row of the alternatives after it
pub record Alternative : Type 0 where
  pub begin : Start
  pub row : ℕ
  pub others : ℕ

-- whether a row is the choice among some alternatives
abbrev pub IsChoice : ℕ → List Alternative → Type 0
IsChoice n [] = Unit {0}
IsChoice n (x ∷ xs) = (row_items n ≡ Either x.begin x.row x.others ∷ []) × IsChoice x.others xs

-- which of them begins at a text: the first that does, and else the number of all
abbrev pub which : List Alternative → Text → ℕ
which [] t = 0
which (x ∷ xs) t = if starts Atoms x.begin t then 0 else suc (which xs t)

-- the row of the k-th, and else the last row
abbrev pub row_in_choice : ℕ → List Alternative → ℕ → ℕ
row_in_choice n [] k = n
row_in_choice n (x ∷ xs) zero = x.row
row_in_choice n (x ∷ xs) (suc k) = row_in_choice x.others xs k

-- its tree in the branches before it
abbrev pub tree_in_choice : List Alternative → ℕ → Trees → Trees
tree_in_choice [] k a = a
tree_in_choice (x ∷ xs) zero a = first_branch a
tree_in_choice (x ∷ xs) (suc k) a = second_branch (tree_in_choice xs k a)

-- a choice that is read is its alternative
abbrev pub Chosen : ℕ → List Alternative → ℕ → Text → Type 0
Chosen n xs k t = ReadAs n (row_in_choice n xs k) (tree_in_choice xs k) t

abbrev alternative : Start → ℕ → ℕ → Alternative
alternative s n m = record { begin = s; row = n; others = m }

-- the operands of numeric expressions in the order of the table, before a variable
abbrev pub operand_kinds : List Alternative
operand_kinds =
    alternative start.Number row.NUMBER row.OPERAND_BUT_NUMBER ∷
    alternative (start.Code byte.opening) row.PARENTHESES row.NAMED_OPERAND ∷
    alternative (start.Code word.FN) row.FUNCTION row.OPERAND_BUT_FN ∷
    alternative (start.Among word.ABS_OPEN word.SQR_OPEN) row.OF_ONE row.OPERAND_BUT_ONE ∷
    alternative (start.Among word.ROUND_OPEN word.MOD_OPEN) row.OF_TWO row.OPERAND_BUT_TWO ∷
    alternative (start.Among word.MAX_OPEN word.MIN_OPEN) row.OF_MORE row.OPERAND_BUT_MORE ∷
    alternative (start.Among word.LEN_OPEN word.NUM_OPEN) row.OF_ALPHA row.OPERAND_BUT_ALPHA ∷
    alternative (start.Code word.POS_OPEN) row.POSITION row.OPERAND_BUT_POSITION ∷
    alternative (start.Code word.VAL_OPEN) row.VALUE row.OPERAND_BUT_VALUE ∷
    alternative (start.Among word.ERR word.HASH_TERM) row.KEPT_NUMBER row.VARIABLE ∷
    []

abbrev pub operand_number : Operand → ℕ
operand_number operand.Number = 0
operand_number operand.Parentheses = 1
operand_number operand.Function = 2
operand_number operand.OfOne = 3
operand_number operand.OfTwo = 4
operand_number operand.OfMore = 5
operand_number operand.OfAlpha = 6
operand_number operand.Position = 7
operand_number operand.Value = 8
operand_number operand.KeptNumber = 9
operand_number operand.Variable = 10

abbrev pub operand_row : Operand → ℕ
operand_row k = row_in_choice row.OPERAND operand_kinds (operand_number k)

abbrev pub operand_tree : Operand → Trees → Trees
operand_tree k a = tree_in_choice operand_kinds (operand_number k) a

-- the kind of an operand, by its first byte
abbrev pub operand_of : ℕ → Operand
operand_of c =
    if is_digit c || c == byte.point then operand.Number
    else (if c == byte.opening then operand.Parentheses
    else (if c == word.FN then operand.Function
    else (if is_among word.ABS_OPEN word.SQR_OPEN c then operand.OfOne
    else (if is_among word.ROUND_OPEN word.MOD_OPEN c then operand.OfTwo
    else (if is_among word.MAX_OPEN word.MIN_OPEN c then operand.OfMore
    else (if is_among word.LEN_OPEN word.NUM_OPEN c then operand.OfAlpha
    else (if c == word.POS_OPEN then operand.Position
    else (if c == word.VAL_OPEN then operand.Value
    else (if is_among word.ERR word.HASH_TERM c then operand.KeptNumber
    else operand.Variable)))))))))

-- the operands of alpha expressions, before a variable
abbrev pub alpha_kinds : List Alternative
alpha_kinds =
    alternative (start.Code byte.quote) row.LITERAL row.ALPHA_BUT_LITERAL ∷
    alternative (start.Code word.STR_OPEN) row.STRING_PART row.ALPHA_BUT_PART ∷
    alternative (start.Code word.HEX_OPEN) row.HEX row.ALPHA_BUT_HEX ∷
    alternative (start.Code word.BIN_OPEN) row.BINARY row.ALPHA_VARIABLE ∷
    []

abbrev pub alpha_number : AlphaOperand → ℕ
alpha_number alpha.Literal = 0
alpha_number alpha.StringPart = 1
alpha_number alpha.Hex = 2
alpha_number alpha.Binary = 3
alpha_number alpha.Variable = 4

abbrev pub alpha_row : AlphaOperand → ℕ
alpha_row k = row_in_choice row.ALPHA_OPERAND alpha_kinds (alpha_number k)

abbrev pub alpha_tree : AlphaOperand → Trees → Trees
alpha_tree k a = tree_in_choice alpha_kinds (alpha_number k) a

abbrev pub alpha_operand_of : ℕ → AlphaOperand
alpha_operand_of c =
    if c == byte.quote then alpha.Literal
    else (if c == word.STR_OPEN then alpha.StringPart
    else (if c == word.HEX_OPEN then alpha.Hex
    else (if c == word.BIN_OPEN then alpha.Binary
    else alpha.Variable)))
