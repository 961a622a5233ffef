-- Kinds of values: bytes and numbers.
use Rattle.std.specs.Prelude.{Bool, not}
use Rattle.b2_dec.specs.declared.values.Value.{Value}
use Rattle.b2_dec.specs.declared.values.Value.TheVariants as value

-- whether a value is for a receiver that takes bytes, or for one that takes a number
abbrev pub suits : Bool → Value → Bool
suits bytes (value.Number x) = not bytes
suits bytes (value.Alpha xs) = bytes
