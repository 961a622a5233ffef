-- What a special function key does at a ready partition, by the DEFFN' of its number in the own text.
use Rattle.std.specs.Prelude.{ℕ, nat_lt, List, [], ◌∷◌, length, Option, Some, None, if◌then◌else◌}
use Rattle.b2_base.specs.declared.codes.TheConstants.{A04_TOO_DEEP}
use Rattle.b2_flow.specs.Stacks.{most_frames}
use Rattle.b2_flow.specs.declared.frame.Frame.TheVariants.{Call}
use Rattle.b2_text.specs.Program.{Lines}
use Rattle.b2_text.specs.Spots.{first_opening, is_mark}
use Rattle.b2_text.specs.declared.spots.Spot.{Spot}
use Rattle.b2_access.specs.KeyLiterals.{typed_by_mark}
use Rattle.b2_access.specs.declared.private.Private.{Private}
use Rattle.b2_machine.specs.Readiness.{refuses}

-- its literal is typed in the next step
abbrev pub keeps_literal : List ℕ → Private → Private
keeps_literal text me = record me { literal = Some text }

-- It is called without arguments, and its RETURN leads nowhere: it ends ready. While the program runs no place is kept.
abbrev pub called_at : Spot → Private → Private
called_at spot me = record me {
  place = Some (record { home = me.part; line = Some spot.line; unit = spot.unit });
  kept = None;
  stack = Call None None ∷ me.stack;
  args = Some [];
}

-- A04 where there is no room for the call
abbrev pub calls : Spot → Private → Private
calls spot me = if nat_lt (length me.stack) most_frames then called_at spot me else refuses A04_TOO_DEEP [] me

-- a key without a DEFFN' does nothing
abbrev pub calls_where : Option Spot → Private → Private
calls_where None me = me
calls_where (Some spot) me = calls spot me

abbrev pub pressed_by : Option (List ℕ) → Option Spot → Private → Private
pressed_by (Some text) spot me = keeps_literal text me
pressed_by None spot me = calls_where spot me

abbrev pub pressed : ℕ → Lines → Private → Private
pressed n own me = pressed_by (typed_by_mark n own) (first_opening (is_mark n) own) me
