-- How a step ends: whether it counts, and why the turn ends with it.
use Rattle.std.specs.Prelude.{true, false, Some, None}
use Rattle.b2_access.specs.declared.accesses.Answer.{Answer}
use Rattle.b2_access.specs.declared.accesses.Answer.TheVariants as answer
use Rattle.b2_access.specs.declared.private.Private.{Private}
use Rattle.b2_machine.specs.declared.ends.Stepped.{Stepped}
use Rattle.b2_machine.specs.declared.ends.Why.{Why}
use Rattle.b2_machine.specs.declared.ends.Why.TheVariants as reason

-- a step that has ended, and the private state after it
pub record Ending : Type 0 where
  pub me : Private
  pub end : Stepped

-- it counts, and the turn goes on
abbrev pub counts : Stepped
counts = record { counted = true; why = None }

-- it counts, and the turn ends
abbrev pub ends_turn : Why → Stepped
ends_turn w = record { counted = true; why = Some w }

-- it doesn't count, and the turn ends
abbrev pub is_uncounted : Why → Stepped
is_uncounted w = record { counted = false; why = Some w }

abbrev pub carries_on : Private → Ending
carries_on me = record { me = me; end = counts }

-- A step that is repeated: where a partition has to be waited for or there are no keys, it doesn't count, and the turn ends.
abbrev pub repeats : Answer → Stepped
repeats (answer.Wait q) = is_uncounted (reason.Wait q)
repeats answer.NoKeys = is_uncounted reason.NoKeys
repeats a = counts

abbrev pub again : Answer → Private → Ending
again a me = record { me = me; end = repeats a }
