-- IF END: to its line, where the records had ended when values were last to be loaded; else as a false IF.
use Rattle.std.specs.Prelude.{ℕ, Bool, List, if◌then◌else◌}
use Rattle.b2_atom.specs.Tree.{Trees}
use Rattle.b2_atom.specs.Tree.Trees.{Put}
use Rattle.b2_atom.specs.Units.{TreeUnit}
use Rattle.b2_rows.specs.Following.{after_false}
use Rattle.b2_rows.specs.LineNumbers.{line_in}
use Rattle.b2_rows.specs.declared.following.Goal.{Goal}
use Rattle.b2_rows.specs.declared.following.Goal.TheVariants as goal
use Rattle.b2_text.specs.Program.{Lines}
use Rattle.b2_access.specs.Dispatch.{Here}
use Rattle.b2_access.specs.Jumps.{to_goal}
use Rattle.b2_access.specs.declared.planned.Outcome.{Outcome}

abbrev pub end_goal : Bool → ℕ → List TreeUnit → Trees → Goal
end_goal at_end k us (Put if_ (Put end_ (Put then_ line))) = if at_end then goal.Line (line_in line) else after_false k us
end_goal at_end k us t = after_false k us

abbrev pub if_end : Bool → Here → Lines → Trees → Outcome
if_end at_end h lines t = to_goal lines h.place (end_goal at_end h.place.unit h.units t)
