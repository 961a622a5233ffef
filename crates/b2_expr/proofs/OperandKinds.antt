-- What operands come to, by their kinds.
use Rattle.std.proofs.Common.{◌≡◌, true, [], refl, ap, ◌∙◌}
use Rattle.b2_base.specs.Lexical.{first}
use Rattle.b2_atom.specs.Words.{Text}
use Rattle.b2_atom.specs.Tree.{Trees}
use Rattle.b2_atom.specs.Tree.Trees.{Done, Put, In}
use Rattle.b2_atom.specs.declared.rows.TheConstants as row
use Rattle.b2_rows.specs.Rows.{is_phrase, tree_at}
use Rattle.b2_rows.specs.Choices.{operand_of, operand_row, operand_tree, alpha_operand_of, alpha_row, alpha_tree, ReadAs}
use Rattle.b2_rows.specs.declared.operands.Operand.{Operand}
use Rattle.b2_rows.specs.declared.operands.Operand.TheVariants as kind
use Rattle.b2_rows.specs.declared.operands.AlphaOperand.{AlphaOperand}
use Rattle.b2_rows.specs.declared.operands.AlphaOperand.TheVariants as alpha_kind
use Rattle.b2_rows.proofs.Choices.{operand_stands, alpha_stands}
use Rattle.b2_expr.specs.Scope.{Context}
use Rattle.b2_expr.specs.Value.{value, choice, operand, text_row, text_choice, text_operand, literal_number, kept_value, literal_bytes, hex_bytes}
use Rattle.b2_expr.specs.declared.operators.Level.TheVariants as level

last_choice : (e : Context) (a : Trees) → choice e [] a ≡ operand e kind.Variable a
unfolding choice operand
last_choice e Done = refl
last_choice e (Put token more) = refl
last_choice e (In n a more) = refl

wrapped : (e : Context) (k : Operand) (a : Trees) → value e level.Operand (operand_tree k a) ≡ operand e k a
unfolding value choice
wrapped e kind.Number a = refl
wrapped e kind.Parentheses a = refl
wrapped e kind.Function a = refl
wrapped e kind.OfOne a = refl
wrapped e kind.OfTwo a = refl
wrapped e kind.OfMore a = refl
wrapped e kind.OfAlpha a = refl
wrapped e kind.Position a = refl
wrapped e kind.Value a = refl
wrapped e kind.KeptNumber a = refl
wrapped e kind.Variable a = last_choice e a

-- an operand is of the kind that its first byte says
pub operand_gives : (e : Context) (k : Operand) (t : Text) → is_phrase row.OPERAND t ≡ true → operand_of (first t) ≡ k
    → value e level.Operand (tree_at row.OPERAND t) ≡ operand e k (tree_at (operand_row k) t)
operand_gives e k t ok is = ap (value e level.Operand) (ReadAs.tree (operand_stands k t ok is)) ∙ wrapped e k (tree_at (operand_row k) t)

last_text_choice : (e : Context) (a : Trees) → text_choice e [] a ≡ text_operand e alpha_kind.Variable a
unfolding text_choice text_operand
last_text_choice e Done = refl
last_text_choice e (Put token more) = refl
last_text_choice e (In n a more) = refl

wrapped_text : (e : Context) (k : AlphaOperand) (a : Trees) → text_row e (alpha_tree k a) ≡ text_operand e k a
unfolding text_row text_choice
wrapped_text e alpha_kind.Literal a = refl
wrapped_text e alpha_kind.StringPart a = refl
wrapped_text e alpha_kind.Hex a = refl
wrapped_text e alpha_kind.Binary a = refl
wrapped_text e alpha_kind.Variable a = last_text_choice e a

pub text_operand_gives : (e : Context) (k : AlphaOperand) (t : Text) → is_phrase row.ALPHA_OPERAND t ≡ true → alpha_operand_of (first t) ≡ k
    → text_row e (tree_at row.ALPHA_OPERAND t) ≡ text_operand e k (tree_at (alpha_row k) t)
text_operand_gives e k t ok is = ap (text_row e) (ReadAs.tree (alpha_stands k t ok is)) ∙ wrapped_text e k (tree_at (alpha_row k) t)

pub number_gives : (e : Context) (t : Text) → is_phrase row.OPERAND t ≡ true → operand_of (first t) ≡ kind.Number → value e level.Operand (tree_at row.OPERAND t) ≡ literal_number (tree_at row.NUMBER t)
unfolding operand
number_gives e t ok is = operand_gives e kind.Number t ok is

pub parentheses_gives : (e : Context) (t : Text) → is_phrase row.OPERAND t ≡ true → operand_of (first t) ≡ kind.Parentheses → value e level.Operand (tree_at row.OPERAND t) ≡ operand e kind.Parentheses (tree_at row.PARENTHESES t)
parentheses_gives e t ok is = operand_gives e kind.Parentheses t ok is

pub function_gives : (e : Context) (t : Text) → is_phrase row.OPERAND t ≡ true → operand_of (first t) ≡ kind.Function → value e level.Operand (tree_at row.OPERAND t) ≡ operand e kind.Function (tree_at row.FUNCTION t)
function_gives e t ok is = operand_gives e kind.Function t ok is

pub of_one_gives : (e : Context) (t : Text) → is_phrase row.OPERAND t ≡ true → operand_of (first t) ≡ kind.OfOne → value e level.Operand (tree_at row.OPERAND t) ≡ operand e kind.OfOne (tree_at row.OF_ONE t)
of_one_gives e t ok is = operand_gives e kind.OfOne t ok is

pub of_two_gives : (e : Context) (t : Text) → is_phrase row.OPERAND t ≡ true → operand_of (first t) ≡ kind.OfTwo → value e level.Operand (tree_at row.OPERAND t) ≡ operand e kind.OfTwo (tree_at row.OF_TWO t)
of_two_gives e t ok is = operand_gives e kind.OfTwo t ok is

pub of_more_gives : (e : Context) (t : Text) → is_phrase row.OPERAND t ≡ true → operand_of (first t) ≡ kind.OfMore → value e level.Operand (tree_at row.OPERAND t) ≡ operand e kind.OfMore (tree_at row.OF_MORE t)
of_more_gives e t ok is = operand_gives e kind.OfMore t ok is

pub of_alpha_gives : (e : Context) (t : Text) → is_phrase row.OPERAND t ≡ true → operand_of (first t) ≡ kind.OfAlpha → value e level.Operand (tree_at row.OPERAND t) ≡ operand e kind.OfAlpha (tree_at row.OF_ALPHA t)
of_alpha_gives e t ok is = operand_gives e kind.OfAlpha t ok is

pub position_gives : (e : Context) (t : Text) → is_phrase row.OPERAND t ≡ true → operand_of (first t) ≡ kind.Position → value e level.Operand (tree_at row.OPERAND t) ≡ operand e kind.Position (tree_at row.POSITION t)
position_gives e t ok is = operand_gives e kind.Position t ok is

pub value_gives : (e : Context) (t : Text) → is_phrase row.OPERAND t ≡ true → operand_of (first t) ≡ kind.Value → value e level.Operand (tree_at row.OPERAND t) ≡ operand e kind.Value (tree_at row.VALUE t)
value_gives e t ok is = operand_gives e kind.Value t ok is

pub kept_number_gives : (e : Context) (t : Text) → is_phrase row.OPERAND t ≡ true → operand_of (first t) ≡ kind.KeptNumber → value e level.Operand (tree_at row.OPERAND t) ≡ kept_value e.around (tree_at row.KEPT_NUMBER t)
unfolding operand
kept_number_gives e t ok is = operand_gives e kind.KeptNumber t ok is

pub variable_gives : (e : Context) (t : Text) → is_phrase row.OPERAND t ≡ true → operand_of (first t) ≡ kind.Variable → value e level.Operand (tree_at row.OPERAND t) ≡ operand e kind.Variable (tree_at row.VARIABLE t)
variable_gives e t ok is = operand_gives e kind.Variable t ok is

pub literal_gives : (e : Context) (t : Text) → is_phrase row.ALPHA_OPERAND t ≡ true → alpha_operand_of (first t) ≡ alpha_kind.Literal → text_row e (tree_at row.ALPHA_OPERAND t) ≡ literal_bytes (tree_at row.LITERAL t)
unfolding text_operand
literal_gives e t ok is = text_operand_gives e alpha_kind.Literal t ok is

pub string_part_gives : (e : Context) (t : Text) → is_phrase row.ALPHA_OPERAND t ≡ true → alpha_operand_of (first t) ≡ alpha_kind.StringPart → text_row e (tree_at row.ALPHA_OPERAND t) ≡ text_operand e alpha_kind.StringPart (tree_at row.STRING_PART t)
string_part_gives e t ok is = text_operand_gives e alpha_kind.StringPart t ok is

pub hex_gives : (e : Context) (t : Text) → is_phrase row.ALPHA_OPERAND t ≡ true → alpha_operand_of (first t) ≡ alpha_kind.Hex → text_row e (tree_at row.ALPHA_OPERAND t) ≡ hex_bytes (tree_at row.HEX t)
unfolding text_operand
hex_gives e t ok is = text_operand_gives e alpha_kind.Hex t ok is

pub binary_gives : (e : Context) (t : Text) → is_phrase row.ALPHA_OPERAND t ≡ true → alpha_operand_of (first t) ≡ alpha_kind.Binary → text_row e (tree_at row.ALPHA_OPERAND t) ≡ text_operand e alpha_kind.Binary (tree_at row.BINARY t)
binary_gives e t ok is = text_operand_gives e alpha_kind.Binary t ok is

pub alpha_variable_gives : (e : Context) (t : Text) → is_phrase row.ALPHA_OPERAND t ≡ true → alpha_operand_of (first t) ≡ alpha_kind.Variable → text_row e (tree_at row.ALPHA_OPERAND t) ≡ text_operand e alpha_kind.Variable (tree_at row.ALPHA_VARIABLE t)
alpha_variable_gives e t ok is = text_operand_gives e alpha_kind.Variable t ok is
