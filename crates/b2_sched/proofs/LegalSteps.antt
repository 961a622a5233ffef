-- What a step asks for may be asked for.
use Rattle.std.specs.Prelude.{◌≤◌, min, ℕ, Option, Some, None, if◌then◌else◌}
use Rattle.std.specs.Str.{bytes_eq}
use Rattle.std.proofs.Common.{refl, arith, unwrap_or}
use Rattle.b2_access.proofs.Choice.{either}
use Rattle.b2_access.specs.Partition.{terminal_address}
use Rattle.b2_access.specs.Store.{StoreState}
use Rattle.b2_access.specs.Touching.{IsLegal}
use Rattle.b2_access.specs.declared.accesses.Access.{Access}
use Rattle.b2_access.specs.declared.private.Private.{Private}
use Rattle.b2_language.specs.Languages.{AreLawful, Ways}
use Rattle.b2_machine.proofs.LegalPlans.{legal_begun}
use Rattle.b2_machine.specs.Messages.{prints_text, shows_text}
use Rattle.b2_machine.specs.Statements.{begins}
use Rattle.b2_machine.specs.Stays.{IsLegalProgress}
use Rattle.b2_machine.specs.Step.{seen_at}
use Rattle.b2_machine.specs.Touched.{access_asked, asking, asks_by}
use Rattle.b2_machine.specs.Typing.{on_own_line, output_pending}
use Rattle.b2_machine.specs.declared.statements.Progress.{Progress}
use Rattle.b2_machine.specs.declared.statements.Progress.TheVariants as progress
use Rattle.b2_machine.specs.Due.{due}
use Rattle.b2_machine.specs.declared.rules.Rule.{Rule}
use Rattle.b2_machine.specs.declared.rules.Rule.TheVariants as rule
use Rattle.b2_machine.specs.Readiness.{without_halt}

abbrev pub IsLegalIfAny : Option Access → Type 0
IsLegalIfAny None = Unit {0}
IsLegalIfAny (Some a) = IsLegal a

module _ (ways : Ways) (lawful : AreLawful ways) where
  abbrev Asks : Option Access → Type 0
  Asks x = IsLegalIfAny x

  in_progress : (c : Progress) → IsLegalProgress c → IsLegalIfAny (access_asked c)
  in_progress (progress.Ended e) h = tt
  in_progress (progress.Asks a b w) h = h

  at_most : (n : ℕ) → min n 9999 ≤ 9999
  at_most n = omega arith

  by_rule : (r : Rule) (me : Private) (s : StoreState) → Asks (asks_by ways r me s)
  by_rule rule.Show me s = let shown = output_pending me in either IsLegal (bytes_eq shown.0 terminal_address) (shows_text (on_own_line me.term_column shown.1) me) (prints_text shown.0 shown.1 me) tt tt
  by_rule rule.Put me s = at_most (unwrap_or me.numbered (0, None)).0
  by_rule (rule.Execute p) me s =
      let seen = seen_at p me s in
      let b = begins ways p me seen in
      in_progress b.progress (legal_begun ways lawful p me b.me seen b.progress refl)
  by_rule r me s = tt

  pub steps_ask_legally : (me : Private) (s : StoreState) → IsLegalIfAny (asking ways me s)
  steps_ask_legally me s = by_rule (due me) (without_halt me) s
