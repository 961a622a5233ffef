-- How a partition becomes ready, and what it then shows.
use Rattle.std.specs.Prelude.{ℕ, false, not, List, [], ◌∷◌, ◌++◌, filter, Option, Some, None, if◌then◌else◌}
use Rattle.b2_base.specs.Byte as byte
use Rattle.b2_flow.specs.Frames.{is_immediate_loop}
use Rattle.b2_flow.specs.declared.frame.Frame.{Frame}
use Rattle.b2_access.specs.Borrowers.{homes_entered}
use Rattle.b2_access.specs.Partition.{is_ready, ready_text, runs_program, terminal_address, without_frames}
use Rattle.b2_access.specs.declared.accesses.Access.{Access}
use Rattle.b2_access.specs.declared.accesses.Access.TheVariants as access
use Rattle.b2_access.specs.declared.private.Private.{Private}
use Rattle.b2_machine.specs.Endings.{Ending, counts, ends_turn}
use Rattle.b2_machine.specs.Messages.{error_text, halt_text}
use Rattle.b2_machine.specs.declared.ends.Stepped.{Stepped}
use Rattle.b2_machine.specs.declared.ends.Why.TheVariants as reason

-- a text that waits to be shown at the terminal
abbrev pub for_terminal : List ℕ → Option (List ℕ × List ℕ)
for_terminal text = Some (terminal_address, text)

-- a text and `:` wait
abbrev pub prompts : List ℕ → Private → Private
prompts text me = record me { pending = for_terminal (text ++ byte.colon ∷ []) }

abbrev pub without_immediate_loops : List Frame → List Frame
without_immediate_loops frames = filter (λ frame. not (is_immediate_loop frame)) frames

-- the immediate line ends: it goes, and its loops with it
abbrev pub drops_line : Private → Private
drops_line me = record me { immediate = None; stack = without_immediate_loops me.stack }

-- it becomes ready, and shows a text and `:`
abbrev pub readies : List ℕ → Private → Private
readies text me = prompts text (record (drops_line me) { place = None; prompted = false })

-- which ends the turn where it was running
abbrev pub becomes_ready : List ℕ → Private → Ending
becomes_ready text me = record { me = readies text me; end = ends_turn reason.Ready }

-- what already waits to be shown
abbrev pub left_to_show : Option (List ℕ × List ℕ) → List ℕ
left_to_show None = []
left_to_show (Some shown) = shown.1

-- it becomes ready at the end of its line or text, or where a statement says so: what the statement left is shown first
abbrev pub rests : Private → Ending
rests me = becomes_ready (left_to_show me.pending) me

-- an error keeps its code, and the arguments that wait for a DEFFN' go
abbrev pub with_error : ℕ → Private → Private
with_error code me = record me { last = code; args = None }

-- an error of a partition that is ready, and stays so
abbrev pub refuses : ℕ → List ℕ → Private → Private
refuses code where_met me = prompts (error_text code where_met) (with_error code me)

-- a halt that was asked for is no more
abbrev pub without_halt : Private → Private
without_halt me = record me { halt = false }

-- A halt: the place is kept where it is in the program, and in an immediate line what was kept stays.
abbrev pub halts : Private → Private
halts me = readies halt_text (record me { halt = false; kept = if runs_program me then me.place else me.kept })

abbrev pub halted : Private → Ending
halted me = record { me = halts me; end = ends_turn reason.Ready }

-- Before a reset the texts that calls entered are given back, of which the frames tell.
abbrev pub gives_back : Private → Access
gives_back me = access.Drop (homes_entered me.stack)

-- A reset clears both flags, the frames, the arguments, a numbered line, a literal and the kept place.
abbrev pub reset_state : Private → Private
reset_state me = record (without_frames me) { halt = false; reset = false; place = None; immediate = None; prompted = false; numbered = None; literal = None; pending = for_terminal ready_text }

-- whether that ends the turn: where the partition was running
abbrev pub end_of_reset : Private → Stepped
end_of_reset me = if is_ready me then counts else ends_turn reason.Ready

abbrev pub resets : Private → Ending
resets me = record { me = reset_state me; end = end_of_reset me }
