-- What a frame is asked about.
use Rattle.std.specs.Prelude.{ℕ, Bool, true, false, not, ◌&&◌, ◌==◌, Option, is_some}
use Rattle.std.specs.Option.{option_eq, option_map_or}
use Rattle.b2_flow.specs.declared.frame.Frame.{Frame}
use Rattle.b2_flow.specs.declared.frame.Frame.TheVariants.{For, Call}
use Rattle.b2_flow.specs.declared.frame.Place.{Place}
use Rattle.b2_flow.specs.declared.frame.Var2.{Var2}

abbrev pub is_loop : Frame → Bool
is_loop (For v limit step body) = true
is_loop (Call back entered) = false

abbrev pub is_call : Frame → Bool
is_call frame = not (is_loop frame)

-- the same letter, and the same digit or none
abbrev pub is_same_variable : Var2 → Var2 → Bool
is_same_variable v w = (v.letter == w.letter) && option_eq ◌==◌ v.digit w.digit

-- a loop that counts this variable
abbrev pub is_loop_of : Var2 → Frame → Bool
is_loop_of v (For w limit step body) = is_same_variable w v
is_loop_of v (Call back entered) = false

-- a loop whose FOR stands in an immediate line
abbrev pub is_immediate_loop : Frame → Bool
is_immediate_loop (For v limit step body) = not (is_some body.line)
is_immediate_loop (Call back entered) = false

-- whether a call entered the text of a partition
abbrev pub is_entered : ℕ → Option ℕ → Bool
is_entered h entered = option_map_or (λ (part : ℕ). part == h) entered false

-- a frame is a call that entered the text of a partition
abbrev pub enters : ℕ → Frame → Bool
enters h (For v limit step body) = false
enters h (Call back entered) = is_entered h entered
