use Rattle.std.proofs.Common.{◌≡◌, ◌∙◌, List, [], ◌∷◌, length, drop, true, refl}
use Rattle.b2_dec.specs.declared.values.Value.{Value}
use Rattle.b2_dec.specs.declared.values.Kind.{Kind}
use Rattle.b2_record.specs.Asking.{agree}
use Rattle.b2_record.proofs.asking.agree.Goals as goal

none : (kinds : List Kind) (values : List Value) → length values ≡ 0 → true ≡ agree kinds values
none [] values h = refl
none (k ∷ kinds) [] h = refl
none (k ∷ kinds) (v ∷ values) h = cc

pub returns-in_default : goal.returns-in_default
returns-in_default c = none (drop c.loop-kind.kind-index c.args.kinds.now) c.loop-kind.rest.now c.in_default.ensures.cases ∙ c.loop-kind.invariant
