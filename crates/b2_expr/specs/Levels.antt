-- The levels of operators on the rows of the table.
use Rattle.std.specs.Prelude.{ℕ, ◌&&◌, Bool, true, false}
use Rattle.b2_atom.specs.Words.{Text}
use Rattle.b2_atom.specs.Tree.{Trees}
use Rattle.b2_atom.specs.declared.rows.TheConstants as row
use Rattle.b2_rows.specs.Rows.{after_phrase, list_at, after_list}
use Rattle.b2_rows.specs.Chains.{is_operator_of, more_row, more_start}
use Rattle.b2_rows.specs.declared.chains.Chain.{Chain}
use Rattle.b2_rows.specs.declared.chains.Chain.TheVariants as chain
use Rattle.b2_expr.specs.Value.{item_level}
use Rattle.b2_expr.specs.declared.operators.Level.{Level}
use Rattle.b2_expr.specs.declared.operators.Level.TheVariants as level

-- the row of a level
abbrev pub row_of_level : Level → ℕ
row_of_level level.Sum = row.SUM
row_of_level level.Product = row.PRODUCT
row_of_level level.Factor = row.FACTOR
row_of_level level.Power = row.POWER
row_of_level level.Operand = row.OPERAND

-- the levels that are chains of operators, and their chains
abbrev pub is_chain : Level → Bool
is_chain level.Sum = true
is_chain level.Product = true
is_chain level.Factor = false
is_chain level.Power = true
is_chain level.Operand = false

abbrev pub chain_of : Level → Chain
chain_of level.Sum = chain.Sum
chain_of level.Product = chain.Product
chain_of level.Factor = chain.Power
chain_of level.Power = chain.Power
chain_of level.Operand = chain.Power

-- what follows the first item of a chain, and what is left after that
abbrev pub list_of : Level → Text → Trees
list_of l t = list_at (more_start (chain_of l)) (more_row (chain_of l)) t

abbrev pub after_of : Level → Text → Text
after_of l t = after_list (more_start (chain_of l)) (more_row (chain_of l)) t

-- what stands after the first item
abbrev pub tail_of : Level → Text → Text
tail_of l t = after_phrase (row_of_level (item_level l)) t

-- whether a byte is an operator of a level
abbrev pub is_operator : Level → ℕ → Bool
is_operator l b = is_chain l && is_operator_of (chain_of l) b
