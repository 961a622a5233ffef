-- What a block ends as, of which bytes were lent.
use Rattle.std.specs.Prelude.{ℕ, List, [], ◌∷◌, ◌++◌}
use Rattle.std.specs.Borrow.{Lends, MutBor, Fml, Array, u8}
use Rattle.b2_vars.specs.declared.name.Var.{Var}
use Rattle.b2_vars.specs.Block.{BlockState, without}
use Rattle.b2_vars.specs.Tables.{table_of, variable_at}
use Rattle.b2_vars.specs.Variables.{with_bytes}
use Rattle.b2_vars.specs.contracts.block.Block.{the_row}

-- the entry of the variable stands last, with other bytes from a place on
abbrev pub with_last : Var → ℕ → BlockState → List ℕ → BlockState
with_last v from b bytes = record b { entries = without v b.entries ++ ((v, with_bytes from (variable_at v (table_of b.entries)) bytes) ∷ []) }

abbrev pub LendsBytes : MutBor BlockState → Var → ℕ → MutBor (List ℕ) → Fml
LendsBytes b v from bytes = Lends the_row (Array u8 0) b bytes (with_last v from b.now)
