-- Operands one fact at a time, as functions that read them cite them: each kind of operand is read where its first byte says so.
use Rattle.std.proofs.Common.{◌≡◌, true}
use Rattle.b2_base.specs.Lexical.{first}
use Rattle.b2_atom.specs.Words.{Text}
use Rattle.b2_atom.specs.declared.rows.TheConstants as row
use Rattle.b2_rows.specs.Rows.{is_phrase, tree_at, after_phrase}
use Rattle.b2_rows.specs.Choices.{operand_of, operand_tree, alpha_operand_of, alpha_tree}
use Rattle.b2_rows.specs.declared.operands.Operand.TheVariants as operand
use Rattle.b2_rows.specs.declared.operands.AlphaOperand.TheVariants as alpha
use Rattle.b2_rows.proofs.Choices.{operand_stands, alpha_stands}

-- of numeric expressions
pub number_here : (t : Text) → is_phrase row.OPERAND t ≡ true → operand_of (first t) ≡ operand.Number → is_phrase row.NUMBER t ≡ true
number_here t ok is = (operand_stands operand.Number t ok is).part

pub number_tree : (t : Text) → is_phrase row.OPERAND t ≡ true → operand_of (first t) ≡ operand.Number → tree_at row.OPERAND t ≡ operand_tree operand.Number (tree_at row.NUMBER t)
number_tree t ok is = (operand_stands operand.Number t ok is).tree

pub number_left : (t : Text) → is_phrase row.OPERAND t ≡ true → operand_of (first t) ≡ operand.Number → after_phrase row.OPERAND t ≡ after_phrase row.NUMBER t
number_left t ok is = (operand_stands operand.Number t ok is).rest

pub parentheses_here : (t : Text) → is_phrase row.OPERAND t ≡ true → operand_of (first t) ≡ operand.Parentheses → is_phrase row.PARENTHESES t ≡ true
parentheses_here t ok is = (operand_stands operand.Parentheses t ok is).part

pub parentheses_tree : (t : Text) → is_phrase row.OPERAND t ≡ true → operand_of (first t) ≡ operand.Parentheses → tree_at row.OPERAND t ≡ operand_tree operand.Parentheses (tree_at row.PARENTHESES t)
parentheses_tree t ok is = (operand_stands operand.Parentheses t ok is).tree

pub parentheses_left : (t : Text) → is_phrase row.OPERAND t ≡ true → operand_of (first t) ≡ operand.Parentheses → after_phrase row.OPERAND t ≡ after_phrase row.PARENTHESES t
parentheses_left t ok is = (operand_stands operand.Parentheses t ok is).rest

pub function_here : (t : Text) → is_phrase row.OPERAND t ≡ true → operand_of (first t) ≡ operand.Function → is_phrase row.FUNCTION t ≡ true
function_here t ok is = (operand_stands operand.Function t ok is).part

pub function_tree : (t : Text) → is_phrase row.OPERAND t ≡ true → operand_of (first t) ≡ operand.Function → tree_at row.OPERAND t ≡ operand_tree operand.Function (tree_at row.FUNCTION t)
function_tree t ok is = (operand_stands operand.Function t ok is).tree

pub function_left : (t : Text) → is_phrase row.OPERAND t ≡ true → operand_of (first t) ≡ operand.Function → after_phrase row.OPERAND t ≡ after_phrase row.FUNCTION t
function_left t ok is = (operand_stands operand.Function t ok is).rest

pub of_one_here : (t : Text) → is_phrase row.OPERAND t ≡ true → operand_of (first t) ≡ operand.OfOne → is_phrase row.OF_ONE t ≡ true
of_one_here t ok is = (operand_stands operand.OfOne t ok is).part

pub of_one_tree : (t : Text) → is_phrase row.OPERAND t ≡ true → operand_of (first t) ≡ operand.OfOne → tree_at row.OPERAND t ≡ operand_tree operand.OfOne (tree_at row.OF_ONE t)
of_one_tree t ok is = (operand_stands operand.OfOne t ok is).tree

pub of_one_left : (t : Text) → is_phrase row.OPERAND t ≡ true → operand_of (first t) ≡ operand.OfOne → after_phrase row.OPERAND t ≡ after_phrase row.OF_ONE t
of_one_left t ok is = (operand_stands operand.OfOne t ok is).rest

pub of_two_here : (t : Text) → is_phrase row.OPERAND t ≡ true → operand_of (first t) ≡ operand.OfTwo → is_phrase row.OF_TWO t ≡ true
of_two_here t ok is = (operand_stands operand.OfTwo t ok is).part

pub of_two_tree : (t : Text) → is_phrase row.OPERAND t ≡ true → operand_of (first t) ≡ operand.OfTwo → tree_at row.OPERAND t ≡ operand_tree operand.OfTwo (tree_at row.OF_TWO t)
of_two_tree t ok is = (operand_stands operand.OfTwo t ok is).tree

pub of_two_left : (t : Text) → is_phrase row.OPERAND t ≡ true → operand_of (first t) ≡ operand.OfTwo → after_phrase row.OPERAND t ≡ after_phrase row.OF_TWO t
of_two_left t ok is = (operand_stands operand.OfTwo t ok is).rest

pub of_more_here : (t : Text) → is_phrase row.OPERAND t ≡ true → operand_of (first t) ≡ operand.OfMore → is_phrase row.OF_MORE t ≡ true
of_more_here t ok is = (operand_stands operand.OfMore t ok is).part

pub of_more_tree : (t : Text) → is_phrase row.OPERAND t ≡ true → operand_of (first t) ≡ operand.OfMore → tree_at row.OPERAND t ≡ operand_tree operand.OfMore (tree_at row.OF_MORE t)
of_more_tree t ok is = (operand_stands operand.OfMore t ok is).tree

pub of_more_left : (t : Text) → is_phrase row.OPERAND t ≡ true → operand_of (first t) ≡ operand.OfMore → after_phrase row.OPERAND t ≡ after_phrase row.OF_MORE t
of_more_left t ok is = (operand_stands operand.OfMore t ok is).rest

pub of_alpha_here : (t : Text) → is_phrase row.OPERAND t ≡ true → operand_of (first t) ≡ operand.OfAlpha → is_phrase row.OF_ALPHA t ≡ true
of_alpha_here t ok is = (operand_stands operand.OfAlpha t ok is).part

pub of_alpha_tree : (t : Text) → is_phrase row.OPERAND t ≡ true → operand_of (first t) ≡ operand.OfAlpha → tree_at row.OPERAND t ≡ operand_tree operand.OfAlpha (tree_at row.OF_ALPHA t)
of_alpha_tree t ok is = (operand_stands operand.OfAlpha t ok is).tree

pub of_alpha_left : (t : Text) → is_phrase row.OPERAND t ≡ true → operand_of (first t) ≡ operand.OfAlpha → after_phrase row.OPERAND t ≡ after_phrase row.OF_ALPHA t
of_alpha_left t ok is = (operand_stands operand.OfAlpha t ok is).rest

pub position_here : (t : Text) → is_phrase row.OPERAND t ≡ true → operand_of (first t) ≡ operand.Position → is_phrase row.POSITION t ≡ true
position_here t ok is = (operand_stands operand.Position t ok is).part

pub position_tree : (t : Text) → is_phrase row.OPERAND t ≡ true → operand_of (first t) ≡ operand.Position → tree_at row.OPERAND t ≡ operand_tree operand.Position (tree_at row.POSITION t)
position_tree t ok is = (operand_stands operand.Position t ok is).tree

pub position_left : (t : Text) → is_phrase row.OPERAND t ≡ true → operand_of (first t) ≡ operand.Position → after_phrase row.OPERAND t ≡ after_phrase row.POSITION t
position_left t ok is = (operand_stands operand.Position t ok is).rest

pub value_here : (t : Text) → is_phrase row.OPERAND t ≡ true → operand_of (first t) ≡ operand.Value → is_phrase row.VALUE t ≡ true
value_here t ok is = (operand_stands operand.Value t ok is).part

pub value_tree : (t : Text) → is_phrase row.OPERAND t ≡ true → operand_of (first t) ≡ operand.Value → tree_at row.OPERAND t ≡ operand_tree operand.Value (tree_at row.VALUE t)
value_tree t ok is = (operand_stands operand.Value t ok is).tree

pub value_left : (t : Text) → is_phrase row.OPERAND t ≡ true → operand_of (first t) ≡ operand.Value → after_phrase row.OPERAND t ≡ after_phrase row.VALUE t
value_left t ok is = (operand_stands operand.Value t ok is).rest

pub kept_number_here : (t : Text) → is_phrase row.OPERAND t ≡ true → operand_of (first t) ≡ operand.KeptNumber → is_phrase row.KEPT_NUMBER t ≡ true
kept_number_here t ok is = (operand_stands operand.KeptNumber t ok is).part

pub kept_number_tree : (t : Text) → is_phrase row.OPERAND t ≡ true → operand_of (first t) ≡ operand.KeptNumber → tree_at row.OPERAND t ≡ operand_tree operand.KeptNumber (tree_at row.KEPT_NUMBER t)
kept_number_tree t ok is = (operand_stands operand.KeptNumber t ok is).tree

pub kept_number_left : (t : Text) → is_phrase row.OPERAND t ≡ true → operand_of (first t) ≡ operand.KeptNumber → after_phrase row.OPERAND t ≡ after_phrase row.KEPT_NUMBER t
kept_number_left t ok is = (operand_stands operand.KeptNumber t ok is).rest

pub variable_here : (t : Text) → is_phrase row.OPERAND t ≡ true → operand_of (first t) ≡ operand.Variable → is_phrase row.VARIABLE t ≡ true
variable_here t ok is = (operand_stands operand.Variable t ok is).part

pub variable_tree : (t : Text) → is_phrase row.OPERAND t ≡ true → operand_of (first t) ≡ operand.Variable → tree_at row.OPERAND t ≡ operand_tree operand.Variable (tree_at row.VARIABLE t)
variable_tree t ok is = (operand_stands operand.Variable t ok is).tree

pub variable_left : (t : Text) → is_phrase row.OPERAND t ≡ true → operand_of (first t) ≡ operand.Variable → after_phrase row.OPERAND t ≡ after_phrase row.VARIABLE t
variable_left t ok is = (operand_stands operand.Variable t ok is).rest

-- of alpha expressions
pub literal_here : (t : Text) → is_phrase row.ALPHA_OPERAND t ≡ true → alpha_operand_of (first t) ≡ alpha.Literal → is_phrase row.LITERAL t ≡ true
literal_here t ok is = (alpha_stands alpha.Literal t ok is).part

pub literal_tree : (t : Text) → is_phrase row.ALPHA_OPERAND t ≡ true → alpha_operand_of (first t) ≡ alpha.Literal → tree_at row.ALPHA_OPERAND t ≡ alpha_tree alpha.Literal (tree_at row.LITERAL t)
literal_tree t ok is = (alpha_stands alpha.Literal t ok is).tree

pub literal_left : (t : Text) → is_phrase row.ALPHA_OPERAND t ≡ true → alpha_operand_of (first t) ≡ alpha.Literal → after_phrase row.ALPHA_OPERAND t ≡ after_phrase row.LITERAL t
literal_left t ok is = (alpha_stands alpha.Literal t ok is).rest

pub string_part_here : (t : Text) → is_phrase row.ALPHA_OPERAND t ≡ true → alpha_operand_of (first t) ≡ alpha.StringPart → is_phrase row.STRING_PART t ≡ true
string_part_here t ok is = (alpha_stands alpha.StringPart t ok is).part

pub string_part_tree : (t : Text) → is_phrase row.ALPHA_OPERAND t ≡ true → alpha_operand_of (first t) ≡ alpha.StringPart → tree_at row.ALPHA_OPERAND t ≡ alpha_tree alpha.StringPart (tree_at row.STRING_PART t)
string_part_tree t ok is = (alpha_stands alpha.StringPart t ok is).tree

pub string_part_left : (t : Text) → is_phrase row.ALPHA_OPERAND t ≡ true → alpha_operand_of (first t) ≡ alpha.StringPart → after_phrase row.ALPHA_OPERAND t ≡ after_phrase row.STRING_PART t
string_part_left t ok is = (alpha_stands alpha.StringPart t ok is).rest

pub hex_here : (t : Text) → is_phrase row.ALPHA_OPERAND t ≡ true → alpha_operand_of (first t) ≡ alpha.Hex → is_phrase row.HEX t ≡ true
hex_here t ok is = (alpha_stands alpha.Hex t ok is).part

pub hex_tree : (t : Text) → is_phrase row.ALPHA_OPERAND t ≡ true → alpha_operand_of (first t) ≡ alpha.Hex → tree_at row.ALPHA_OPERAND t ≡ alpha_tree alpha.Hex (tree_at row.HEX t)
hex_tree t ok is = (alpha_stands alpha.Hex t ok is).tree

pub hex_left : (t : Text) → is_phrase row.ALPHA_OPERAND t ≡ true → alpha_operand_of (first t) ≡ alpha.Hex → after_phrase row.ALPHA_OPERAND t ≡ after_phrase row.HEX t
hex_left t ok is = (alpha_stands alpha.Hex t ok is).rest

pub binary_here : (t : Text) → is_phrase row.ALPHA_OPERAND t ≡ true → alpha_operand_of (first t) ≡ alpha.Binary → is_phrase row.BINARY t ≡ true
binary_here t ok is = (alpha_stands alpha.Binary t ok is).part

pub binary_tree : (t : Text) → is_phrase row.ALPHA_OPERAND t ≡ true → alpha_operand_of (first t) ≡ alpha.Binary → tree_at row.ALPHA_OPERAND t ≡ alpha_tree alpha.Binary (tree_at row.BINARY t)
binary_tree t ok is = (alpha_stands alpha.Binary t ok is).tree

pub binary_left : (t : Text) → is_phrase row.ALPHA_OPERAND t ≡ true → alpha_operand_of (first t) ≡ alpha.Binary → after_phrase row.ALPHA_OPERAND t ≡ after_phrase row.BINARY t
binary_left t ok is = (alpha_stands alpha.Binary t ok is).rest

pub alpha_variable_here : (t : Text) → is_phrase row.ALPHA_OPERAND t ≡ true → alpha_operand_of (first t) ≡ alpha.Variable → is_phrase row.ALPHA_VARIABLE t ≡ true
alpha_variable_here t ok is = (alpha_stands alpha.Variable t ok is).part

pub alpha_variable_tree : (t : Text) → is_phrase row.ALPHA_OPERAND t ≡ true → alpha_operand_of (first t) ≡ alpha.Variable → tree_at row.ALPHA_OPERAND t ≡ alpha_tree alpha.Variable (tree_at row.ALPHA_VARIABLE t)
alpha_variable_tree t ok is = (alpha_stands alpha.Variable t ok is).tree

pub alpha_variable_left : (t : Text) → is_phrase row.ALPHA_OPERAND t ≡ true → alpha_operand_of (first t) ≡ alpha.Variable → after_phrase row.ALPHA_OPERAND t ≡ after_phrase row.ALPHA_VARIABLE t
alpha_variable_left t ok is = (alpha_stands alpha.Variable t ok is).rest
