-- A value and a receiver of one kind.
use Rattle.std.proofs.Common.{◌≡◌, true, refl}
use Rattle.b2_dec.specs.declared.values.Value.{Value}
use Rattle.b2_dec.specs.declared.values.Value.TheVariants as value
use Rattle.b2_vars.specs.Variables.{is_alpha}
use Rattle.b2_receiver.specs.Assigning.{is_alpha_receiver}
use Rattle.b2_expr.specs.Kinds.{suits}
use Rattle.b2_receiver.specs.declared.receiver.Receiver.{Receiver}
use Rattle.b2_receiver.specs.declared.receiver.Receiver.TheVariants as receiver_kind

pub one_kind : (to : Receiver) (x : Value) → suits (is_alpha_receiver to) x ≡ true → is_alpha x ≡ is_alpha_receiver to
one_kind (receiver_kind.Number e) (value.Number x) is = refl
one_kind (receiver_kind.Number e) (value.Alpha bytes) is = cc
one_kind (receiver_kind.Alpha to) (value.Number x) is = cc
one_kind (receiver_kind.Alpha to) (value.Alpha bytes) is = refl
