-- `@` variables in rows by partition, of which those of one are lent, or spare ones that no row has.
use Rattle.std.specs.Prelude.{ℕ, ◌==◌, List, Option, Some, None, position}
use Rattle.std.specs.Borrow.{Lends, MutBor, Fml}
use Rattle.b2_vars.specs.Tables.{VarsState}
use Rattle.b2_vars.specs.contracts.vars.Vars as vars
use Rattle.b2_access.specs.Rows.{row_of, with_row}
use Rattle.b2_store.specs.contracts.spared.Spared as spared

abbrev pub GlobalsRows : Type 0
GlobalsRows = List (ℕ × VarsState)

-- the row of a partition that is given, its variables, and the rows with others there; where it has none all stays
abbrev pub index_held : Option ℕ → GlobalsRows → Option ℕ
index_held None rows = None
index_held (Some p) rows = position (λ e. e.0 == p) rows

abbrev pub row_held : Option ℕ → GlobalsRows → Option VarsState
row_held None rows = None
row_held (Some p) rows = row_of p rows

abbrev pub rows_left : Option ℕ → GlobalsRows → VarsState → GlobalsRows
rows_left None rows w = rows
rows_left (Some p) rows w = with_row p rows w

-- what rows end as, of which those of a partition were lent, or the spare
abbrev pub LendsSpared : MutBor GlobalsRows → Option ℕ → MutBor VarsState → Fml
LendsSpared rows p lent = Lends spared.the_row vars.the_row rows lent (rows_left p rows.now)
