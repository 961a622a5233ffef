-- LIST.
use Rattle.std.specs.Prelude.{ℕ, Bool, true, false, List, [], ◌∷◌, ◌++◌, filter, flat_map, Option, unwrap_or}
use Rattle.b2_base.specs.Byte as byte
use Rattle.b2_base.specs.declared.codes.TheConstants.{S26_PROGRAM_ONLY}
use Rattle.b2_atom.specs.Tree.{Trees}
use Rattle.b2_atom.specs.Tree.Trees.{Put}
use Rattle.b2_rows.specs.LineNumbers.{named_lines}
use Rattle.b2_lister.specs.Listing.{listing}
use Rattle.b2_text.specs.Program.{Lines, is_within}
use Rattle.b2_access.specs.Lending.{SeenLent}
use Rattle.b2_access.specs.Planning.{Planning, asks, done, stays}
use Rattle.b2_access.specs.declared.planned.Outcome.TheVariants as outcome
use Rattle.b2_access.specs.declared.private.Private.{Private}
use Rattle.b2_machine.specs.Messages.{shows_text}

-- lines as they are listed, each ended by a newline
abbrev pub each_listed : Lines → List ℕ
each_listed lines = flat_map (λ l. listing l.0 l.1 ++ byte.newline ∷ []) lines

-- the lines from a number to another as they are listed
abbrev pub range_listed : ℕ × ℕ → Lines → List ℕ
range_listed range lines = each_listed (filter (λ l. is_within range.0 range.1 l.0) lines)

-- the lines that are named; that line alone, where no second one is named
abbrev pub range_of : ℕ × Option ℕ → ℕ × ℕ
range_of lines = (lines.0, unwrap_or lines.1 lines.0)

abbrev pub named_range : Trees → ℕ × ℕ
named_range (Put word lines) = range_of (named_lines lines)
named_range t = (0, 9999)

-- they are shown at the terminal; in a program LIST may not stand
abbrev pub lists : Bool → ℕ × ℕ → Private → SeenLent → Planning
lists true range me s = done s (stays me (outcome.Failed S26_PROGRAM_ONLY))
lists false range me s = asks s me (shows_text (range_listed range s.own.lines) me)
