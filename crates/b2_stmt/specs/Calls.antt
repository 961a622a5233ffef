-- GOSUB, RETURN and RETURN CLEAR.
use Rattle.std.specs.Prelude.{ℕ, ◌==◌, ◌&&◌, is_some, Bool, false, List, [], ◌∷◌, Option, None, Some, if◌then◌else◌}
use Rattle.b2_base.specs.declared.codes.TheConstants.{P36_NO_LINE, P41_NO_CALL}
use Rattle.b2_atom.specs.Tree.{Trees}
use Rattle.b2_atom.specs.Tree.Trees.{Put, In}
use Rattle.b2_flow.specs.Stacks.{entered_last, from_call, has_call}
use Rattle.b2_flow.specs.declared.frame.Frame.{Frame}
use Rattle.b2_flow.specs.declared.frame.Frame.TheVariants.{For, Call}
use Rattle.b2_flow.specs.declared.frame.Place.{Place}
use Rattle.b2_access.specs.declared.planned.Outcome.{Outcome}
use Rattle.b2_access.specs.declared.planned.Outcome.TheVariants as outcome
use Rattle.b2_access.specs.declared.private.Private.{Private}
use Rattle.b2_stmt.specs.Frames.{with_frame}
use Rattle.b2_rows.specs.LineNumbers.{line_in}
use Rattle.b2_access.specs.Jumps.{to_place}
use Rattle.b2_access.specs.Partition.{without_frames}
use Rattle.b2_access.specs.Steering.{Steered, control_of, unsteered}

-- a call of a place in a line, which leads back to another; P36 where the line isn't there
abbrev pub called_where : Option (List ℕ) → Place → Option Place → Private → Steered
called_where None q back me = unsteered me (outcome.Failed P36_NO_LINE)
called_where (Some line) q back me = with_frame (Call back None) (outcome.Jump q) me

abbrev pub line_called : Trees → ℕ
line_called (Put word line) = line_in line
line_called t = 0

-- what stands on the stack from the nearest call on: the call is taken away, and by the place that it leads back to goes on
abbrev pub back_from : (Option Place → Outcome) → List Frame → Private → Steered
back_from how [] me = unsteered me (outcome.Failed P41_NO_CALL)
back_from how (For v limit step body ∷ below) me = unsteered me (outcome.Failed P41_NO_CALL)
back_from how (Call back entered ∷ below) me = record { work = record (control_of me) { stack = below }; outcome = how back }

abbrev pub leaves_call : (Option Place → Outcome) → Private → Steered
leaves_call how me = if has_call me.stack then back_from how (from_call me.stack) me else unsteered me (outcome.Failed P41_NO_CALL)

-- RETURN leads back; RETURN CLEAR goes on, but P41 where the call entered the text of another: that is left by RETURN
abbrev pub goes_back : Private → Steered
goes_back me = leaves_call to_place me

abbrev pub forgets_call : Private → Steered
forgets_call me = if is_some (entered_last me.stack) then unsteered me (outcome.Failed P41_NO_CALL) else leaves_call (λ back. outcome.Next) me

-- RETURN CLEAR ALL: no loop and no call is left, and nothing is kept; P41 without a call, and where a borrowed text runs
abbrev pub may_forget_all : Place → Private → Bool
may_forget_all p me = has_call me.stack && (p.home == me.part)

abbrev pub forgets_all : Place → Private → Steered
forgets_all p me = if may_forget_all p me then record { work = control_of (without_frames me); outcome = outcome.Next } else unsteered me (outcome.Failed P41_NO_CALL)

abbrev pub has_all : Trees → Bool
has_all (Put word (Put clear (In n all end))) = n == 1
has_all t = false

abbrev pub forgets : Bool → Place → Private → Steered
forgets all p me = if all then forgets_all p me else forgets_call me
