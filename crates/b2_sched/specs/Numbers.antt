-- Numbers in variables, as the machine has them.
use Rattle.std.specs.Prelude.{List, All, Option, IfSome}
use Rattle.b2_dec.specs.declared.values.Value.{Value}
use Rattle.b2_vars.specs.Globals.{Globals}
use Rattle.b2_access.specs.Planning.{Finishing, Planning}
use Rattle.b2_access.specs.declared.accesses.Answer.{Answer}
use Rattle.b2_access.specs.declared.accesses.Answer.TheVariants as answer
use Rattle.b2_access.specs.declared.private.Private.{Private}
use Rattle.b2_stmt_file.specs.SavedNumbers.{HoldsNumbers, IsAnyNumber}

-- the values that a call passes
abbrev pub ArgsHold : Option (List Value) → Type 0
ArgsHold args = IfSome args (λ xs. All IsAnyNumber xs)

-- a partition's own variables, and the values that a call passes to it
abbrev pub PrivateHolds : Private → Type 0
PrivateHolds me = HoldsNumbers me.vars × ArgsHold me.args

abbrev pub GlobalsHold : Globals → Type 0
GlobalsHold g = IfSome g.vars HoldsNumbers

-- what a statement leaves as it plans, and as it finishes
abbrev pub PlanningHolds : Planning → Type 0
PlanningHolds x = PrivateHolds x.me × GlobalsHold x.globals

abbrev pub FinishingHolds : Finishing → Type 0
FinishingHolds x = PrivateHolds x.me × GlobalsHold x.globals

-- the values that an access answers
abbrev pub AnswerHolds : Answer → Type 0
AnswerHolds (answer.Values values to) = All IsAnyNumber values
AnswerHolds a = Unit {0}
