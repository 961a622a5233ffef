-- What PRINT and PRINTUSING ask for.
use Rattle.std.specs.Prelude.{ℕ, List, Result, Ok, Err}
use Rattle.b2_atom.specs.Tree.{Trees}
use Rattle.b2_expr.specs.Scope.{Context}
use Rattle.b2_access.specs.declared.planned.Outcome.TheVariants as outcome
use Rattle.b2_access.specs.declared.planned.Planned.{Planned}
use Rattle.b2_access.specs.declared.planned.Planned.TheVariants as planned
use Rattle.b2_stmt_io.specs.Imaging.{prints_using}
use Rattle.b2_stmt_io.specs.Outlets.{column_of, shows_from, shows_to, width_of}
use Rattle.b2_stmt_io.specs.Printing.{prints}
use Rattle.b2_stmt_io.specs.declared.outlets.Outlet.{Outlet}

-- Bytes as they are go by one access, also where there are none; a code asks for nothing.
abbrev pub shows_bytes : Outlet → Result (List ℕ) ℕ → Planned
shows_bytes o (Ok bytes) = planned.Ask (shows_from o bytes)
shows_bytes o (Err code) = planned.Done (outcome.Failed code)

-- the same of what was laid out, with the column after it
abbrev pub shows_laid : Outlet → Result (List ℕ × ℕ) ℕ → Planned
shows_laid o (Ok laid) = planned.Ask (shows_to o laid.0 laid.1)
shows_laid o (Err code) = planned.Done (outcome.Failed code)

-- the items are evaluated, and laid out on the lines of where they are shown
abbrev pub asks_to_print : Trees → Context → Outlet → Planned
asks_to_print t e o = shows_laid o (prints (record { context = e; outlet = o }) (width_of o) (column_of o) t)

-- an image is filled as it stands, whatever the width
abbrev pub asks_to_print_using : Trees → Context → Outlet → Planned
asks_to_print_using t e o = shows_bytes o (prints_using e t)

-- Where they show is found before anything is evaluated.
abbrev pub asks_at : Result Outlet ℕ → (Outlet → Planned) → Planned
asks_at (Ok o) asks = asks o
asks_at (Err code) asks = planned.Done (outcome.Failed code)
