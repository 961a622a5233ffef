-- INPUT: the parts of a line for its receivers; and what INPUT and LINPUT do with a line.
use Rattle.std.specs.Prelude.{ℕ, ◌==◌, List, [], ◌∷◌, length, Ok, if◌then◌else◌}
use Rattle.b2_base.specs.Lexical.{skip_blanks}
use Rattle.b2_base.specs.declared.codes.TheConstants.{S20_VARIABLE}
use Rattle.b2_alpha.specs.Values.{value_of}
use Rattle.b2_atom.specs.Tree.{Trees}
use Rattle.b2_atom.specs.Tree.Trees.{In}
use Rattle.b2_atom.specs.declared.rows.TheConstants as row
use Rattle.b2_expr.specs.Workspace.{WorkState, WorkLeft, refused, then_works, unchanged}
use Rattle.b2_stmt_io.specs.LineReading.{after_prompt, takes_line}
use Rattle.b2_rows.specs.CommaLists.{all_listed}
use Rattle.b2_receiver.specs.Receiving.{assign_bytes_at, assign_number_at}
use Rattle.b2_stmt_io.specs.TypedText.{typed_parts, typed_number}

-- a receiver of either kind takes a part without the blanks round it
abbrev pub takes_some : List ℕ → Trees → WorkState → WorkLeft
takes_some part (In n receiver end) w =
    if n == 1 then assign_bytes_at (Ok (value_of (skip_blanks part))) receiver w else assign_number_at (typed_number part) receiver w
takes_some part t w = refused S20_VARIABLE w

-- and is left without a look at it where the part is empty
abbrev pub takes_part : Trees → List ℕ → WorkState → WorkLeft
takes_part t part w = if length (skip_blanks part) == 0 then unchanged w else takes_some part t w

-- the receivers from left to right, each among the variables as they then are, up to one with a code; those past the parts are
-- left
abbrev pub take_parts : (Trees → List ℕ → WorkState → WorkLeft) → List Trees → List (List ℕ) → WorkState → WorkLeft
take_parts one [] parts w = unchanged w
take_parts one (t ∷ ts) [] w = unchanged w
take_parts one (t ∷ ts) (part ∷ parts) w = then_works (one t part w) (take_parts one ts parts)

abbrev pub takes_parts : List ℕ → Trees → WorkState → WorkLeft
takes_parts line t w = take_parts (takes_part) (all_listed (after_prompt t)) (typed_parts line) w

-- a line is taken whole by LINPUT, and by its parts by INPUT
abbrev pub takes_typed : ℕ → List ℕ → Trees → WorkState → WorkLeft
takes_typed r line t w = if r == row.LINPUT then takes_line line t w else takes_parts line t w
