-- Chains of the table: an item, and further items, each after an operator.
use Rattle.std.specs.Prelude.{◌≡◌, ◌<◌, ℕ, ◌==◌, ◌||◌, Bool, true, length, drop}
use Rattle.b2_base.specs.Byte as byte
use Rattle.b2_base.specs.Lexical.{first}
use Rattle.b2_atom.specs.Words.{Text}
use Rattle.b2_atom.specs.Tree.Trees.{Done, In}
use Rattle.b2_atom.specs.Grammar.{is_among}
use Rattle.b2_atom.specs.declared.words.TheConstants as word
use Rattle.b2_atom.specs.declared.rows.TheConstants as row
use Rattle.b2_atom.specs.declared.forms.Start.{Start}
use Rattle.b2_atom.specs.declared.forms.Start.TheVariants as start
use Rattle.b2_rows.specs.Rows.{is_phrase, tree_at, after_phrase, is_list, list_at, after_list}
use Rattle.b2_rows.specs.Links.{first_code}
use Rattle.b2_rows.specs.declared.chains.Chain.{Chain}
use Rattle.b2_rows.specs.declared.chains.Chain.TheVariants as chain

-- the row of a chain
abbrev pub chain_row : Chain → ℕ
chain_row chain.Sum = row.SUM
chain_row chain.Product = row.PRODUCT
chain_row chain.Power = row.POWER
chain_row chain.Alpha = row.ALPHA
chain_row chain.Condition = row.CONDITION
chain_row chain.Length = row.LENGTH
chain_row chain.LengthProduct = row.LENGTH_PRODUCT
chain_row chain.LengthPower = row.LENGTH_POWER

-- the row of its first item
abbrev pub front_row : Chain → ℕ
front_row chain.Sum = row.PRODUCT
front_row chain.Product = row.FACTOR
front_row chain.Power = row.OPERAND
front_row chain.Alpha = row.ALPHA_OPERAND
front_row chain.Condition = row.COMPARISON
front_row chain.Length = row.LENGTH_PRODUCT
front_row chain.LengthProduct = row.LENGTH_FACTOR
front_row chain.LengthPower = row.LENGTH_OPERAND

-- the row of an item after an operator
abbrev pub item_row : Chain → ℕ
item_row chain.Sum = row.PRODUCT
item_row chain.Product = row.FACTOR
item_row chain.Power = row.OPERAND
item_row chain.Alpha = row.ALPHA_OPERAND
item_row chain.Condition = row.COMPARISON
item_row chain.Length = row.PRODUCT
item_row chain.LengthProduct = row.FACTOR
item_row chain.LengthPower = row.OPERAND

-- the row of an operator with its item, and what it begins with
abbrev pub more_row : Chain → ℕ
more_row chain.Sum = row.ADDEND
more_row chain.Product = row.MULTIPLIER
more_row chain.Power = row.EXPONENT
more_row chain.Alpha = row.JOINED
more_row chain.Condition = row.FURTHER_COMPARISON
more_row chain.Length = row.ADDEND
more_row chain.LengthProduct = row.MULTIPLIER
more_row chain.LengthPower = row.EXPONENT

abbrev pub more_start : Chain → Start
more_start chain.Sum = start.Two byte.plus byte.minus
more_start chain.Product = start.Two byte.asterisk byte.slash
more_start chain.Power = start.Code byte.caret
more_start chain.Alpha = start.Code byte.ampersand
more_start chain.Condition = start.Among word.AND word.XOR
more_start chain.Length = start.Two byte.plus byte.minus
more_start chain.LengthProduct = start.Two byte.asterisk byte.slash
more_start chain.LengthPower = start.Code byte.caret

-- whether a byte is a sign of a number or of a sum
abbrev pub is_sign : ℕ → Bool
is_sign b = b == byte.plus || b == byte.minus

-- whether a byte is an operator of a chain
abbrev pub is_operator_of : Chain → ℕ → Bool
is_operator_of chain.Sum b = is_sign b
is_operator_of chain.Product b = b == byte.asterisk || b == byte.slash
is_operator_of chain.Power b = b == byte.caret
is_operator_of chain.Alpha b = b == byte.ampersand
is_operator_of chain.Condition b = is_among word.AND word.XOR b
is_operator_of chain.Length b = is_sign b
is_operator_of chain.LengthProduct b = b == byte.asterisk || b == byte.slash
is_operator_of chain.LengthPower b = b == byte.caret

-- a chain that is read: its first item, and after it the repetition of the others
pub record ChainStands (c : Chain) (t : Text) : Type 0 where
  pub part : is_phrase (front_row c) t ≡ true
  pub list : is_list (more_start c) (more_row c) (after_phrase (front_row c) t) ≡ true
  pub tree : tree_at (chain_row c) t ≡ In 2 (tree_at (front_row c) t) (list_at (more_start c) (more_row c) (after_phrase (front_row c) t))
  pub rest : after_phrase (chain_row c) t ≡ after_list (more_start c) (more_row c) (after_phrase (front_row c) t)

-- a factor: a sign and a power, or a power alone
pub record SignedFactor (t : Text) : Type 0 where
  pub part : is_phrase row.POWER (drop 1 t) ≡ true
  pub tree : tree_at row.FACTOR t ≡ In 1 (tree_at row.SIGN t) (In 2 (tree_at row.POWER (drop 1 t)) Done)
  pub sign : first_code (tree_at row.SIGN t) ≡ first t
  pub rest : after_phrase row.FACTOR t ≡ after_phrase row.POWER (drop 1 t)
  pub shorter : length (drop 1 t) < length t

pub record PlainFactor (t : Text) : Type 0 where
  pub part : is_phrase row.POWER t ≡ true
  pub tree : tree_at row.FACTOR t ≡ In 0 Done (In 2 (tree_at row.POWER t) Done)
  pub rest : after_phrase row.FACTOR t ≡ after_phrase row.POWER t
