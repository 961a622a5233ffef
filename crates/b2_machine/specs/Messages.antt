-- What the machine itself shows: READY, HALT, errors and lines.
use Rattle.std.specs.Prelude.{ℕ, ◌+◌, ◌/◌, ◌%◌, ◌==◌, List, [], ◌∷◌, ◌++◌, codes, Option, Some, None, if◌then◌else◌}
use Rattle.std.specs.Fmt.{decimal}
use Rattle.b2_base.specs.Byte as byte
use Rattle.b2_base.specs.Codes.{class_of}
use Rattle.b2_flow.specs.declared.frame.Place.{Place}
use Rattle.b2_print.specs.Columns.{column_after}
use Rattle.b2_access.specs.declared.accesses.Access.{Access}
use Rattle.b2_access.specs.declared.accesses.Access.TheVariants as access
use Rattle.b2_access.specs.declared.private.Private.{Private}

abbrev pub halt_text : List ℕ
halt_text = codes "HALT" ++ byte.newline ∷ []

-- `ERR`, the letter of a code's class and its two digits
abbrev pub code_text : ℕ → List ℕ
code_text code = codes "ERR " ++ class_of code ∷ (byte.digit_0 + code / 10) ∷ (byte.digit_0 + code % 10) ∷ []

-- ` AT l` for a line of a program
abbrev pub line_text : Option ℕ → List ℕ
line_text None = []
line_text (Some n) = codes " AT " ++ decimal n

-- ` IN h` for the text of another partition
abbrev pub home_text : ℕ → ℕ → List ℕ
home_text part home = if home == part then [] else codes " IN " ++ decimal home

abbrev pub where_text : ℕ → Place → List ℕ
where_text part p = line_text p.line ++ home_text part p.home

-- the letter of the codes that have a column, and ` COL c` for one
abbrev pub class_s : ℕ
class_s = 83

abbrev pub column_text : ℕ → ℕ → List ℕ
column_text code column = if class_of code == class_s then codes " COL " ++ decimal column else []

-- an error with where it was met
abbrev pub error_text : ℕ → List ℕ → List ℕ
error_text code where_met = code_text code ++ where_met ++ byte.newline ∷ []

-- a text is shown as it is at the terminal, by its column
abbrev pub shows_text : List ℕ → Private → Access
shows_text text me = access.Show me.term text (column_after me.term_column text)

-- and at a printer, by the column there
abbrev pub prints_text : List ℕ → List ℕ → Private → Access
prints_text device text me = access.PrintTo device text (column_after me.print_column text)
