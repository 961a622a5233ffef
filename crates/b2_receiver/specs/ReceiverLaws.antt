-- What holds of receivers and of assigning to them.
use Rattle.std.specs.Prelude.{◌≡◌, ℕ, true, false, List, length, take, drop, Option, None, Result, Ok}
use Rattle.b2_base.specs.declared.codes.Fault.{Fault}
use Rattle.b2_dec.specs.Number.{Number}
use Rattle.b2_vars.specs.Tables.{VarsState}
use Rattle.b2_expr.specs.Answers.{◌>>=◌}
use Rattle.b2_receiver.specs.Assigning.{Ends, assigned_side, is_reached, receiver_code}
use Rattle.b2_receiver.specs.Receivers.{portion_of}
use Rattle.b2_receiver.specs.RightSide.{Side}
use Rattle.b2_expr.specs.Value.{bytes_of_part}
use Rattle.b2_receiver.specs.declared.receiver.AlphaReceiver.{AlphaReceiver}

-- STR names the bytes that it gives
abbrev pub EachPartIsAPortion : Type 0
EachPartIsAPortion =
    (bytes : List ℕ) (x : Number) (y : Option Number) → bytes_of_part bytes x y ≡ (portion_of (length bytes) x y >>= (λ p. Ok (take p.count (drop p.from bytes))))

-- an alpha assignment changes nothing where its receiver isn't reached
abbrev pub SameWhereNotReached : Type 0
SameWhereNotReached =
    (to : AlphaReceiver) (side : Side) (old new : VarsState) (r : Result (Unit {0}) Fault) → Ends (assigned_side to side old) old new r → is_reached r ≡ false → new ≡ old

-- and where it is reached, it had no code
abbrev pub NoCodeWhereReached : Type 0
NoCodeWhereReached =
    (to : AlphaReceiver) (side : Side) (old new : VarsState) (r : Result (Unit {0}) Fault) → Ends (assigned_side to side old) old new r → is_reached r ≡ true → receiver_code to old ≡ None
