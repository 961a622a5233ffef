-- What variables end as, of which bytes were lent.
use Rattle.std.specs.Prelude.{ℕ, List}
use Rattle.std.specs.Borrow.{Lends, MutBor, Fml, Array, u8}
use Rattle.b2_vars.specs.declared.name.Var.{Var}
use Rattle.b2_vars.specs.Tables.{VarsState}
use Rattle.b2_vars.specs.Calls.{with_bytes_of, part_place}
use Rattle.b2_vars.specs.contracts.vars.Vars.{the_row}

-- a part of a value
abbrev pub LendsPart : MutBor VarsState → Var → ℕ → ℕ → ℕ → MutBor (List ℕ) → Fml
LendsPart s v r c from bytes = Lends the_row (Array u8 0) s bytes (with_bytes_of v (part_place v r c from s.now.table) s.now)

-- the bytes of all values
abbrev pub LendsAll : MutBor VarsState → Var → MutBor (List ℕ) → Fml
LendsAll s v bytes = Lends the_row (Array u8 0) s bytes (with_bytes_of v 0 s.now)
