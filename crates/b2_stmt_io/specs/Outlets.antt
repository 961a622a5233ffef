-- Where PRINT and PRINTUSING show: at the terminal of the partition, or at the printer that it has selected.
use Rattle.std.specs.Prelude.{ℕ, Bool, true, false, List, Result, Ok, Err, if◌then◌else◌}
use Rattle.std.specs.Str.{bytes_eq}
use Rattle.b2_base.specs.declared.codes.TheConstants.{P48_DEVICE}
use Rattle.b2_print.specs.Columns.{column_after}
use Rattle.b2_access.specs.Devices.{is_printer_for}
use Rattle.b2_access.specs.Partition.{terminal_address}
use Rattle.b2_access.specs.declared.accesses.Access.{Access}
use Rattle.b2_access.specs.declared.accesses.Access.TheVariants as access
use Rattle.b2_access.specs.declared.devices.Device.{Device}
use Rattle.b2_access.specs.declared.private.Private.{Private}
use Rattle.b2_stmt_io.specs.declared.outlets.Outlet.{Outlet}
use Rattle.b2_stmt_io.specs.declared.outlets.Outlet.TheVariants as outlet

-- how wide the lines of a terminal and of a printer are
abbrev pub terminal_width : ℕ
terminal_width = 80

abbrev pub printer_width : ℕ
printer_width = 132

abbrev pub is_terminal : Outlet → Bool
is_terminal (outlet.Terminal term column) = true
is_terminal (outlet.Printer addr column) = false

abbrev pub width_of : Outlet → ℕ
width_of (outlet.Terminal term column) = terminal_width
width_of (outlet.Printer addr column) = printer_width

-- the column there
abbrev pub column_of : Outlet → ℕ
column_of (outlet.Terminal term column) = column
column_of (outlet.Printer addr column) = column

-- what shows bytes there that lead to a column
abbrev pub shows_to : Outlet → List ℕ → ℕ → Access
shows_to (outlet.Terminal term column) bytes after = access.Show term bytes after
shows_to (outlet.Printer addr column) bytes after = access.PrintTo addr bytes after

-- what shows bytes as they are
abbrev pub shows_from : Outlet → List ℕ → Access
shows_from o bytes = shows_to o bytes (column_after (column_of o) bytes)

-- Where 005 is selected it is the terminal, and else the printer that is; P48 where the table doesn't list that for the partition.
abbrev pub outlet_of : List Device → Private → Result Outlet ℕ
outlet_of devices me =
    if bytes_eq me.print terminal_address then Ok (outlet.Terminal me.term me.term_column)
    else (if is_printer_for me.part me.print devices then Ok (outlet.Printer me.print me.print_column)
    else Err P48_DEVICE)
