-- Statements that lead elsewhere on their line or in their text and change nothing: GOTO, IF, ELSE, ERROR and ON with GOTO.
use Rattle.std.specs.Prelude.{ℕ, ◌==◌, List, Result, Ok, Err, if◌then◌else◌}
use Rattle.b2_base.specs.declared.codes.TheConstants.{D87_FILE_NAME, S14_STATEMENT, S15_LINE_NUMBER}
use Rattle.b2_atom.specs.Tree.{Trees}
use Rattle.b2_atom.specs.Tree.Trees.{Put, In}
use Rattle.b2_atom.specs.Units.{TreeUnit}
use Rattle.b2_rows.specs.Following.{after_false, named_goal}
use Rattle.b2_rows.specs.declared.following.Goal.{Goal}
use Rattle.b2_rows.specs.declared.following.Goal.TheVariants as goal
use Rattle.b2_expr.specs.Answers.{◌>>=◌}
use Rattle.b2_expr.specs.Condition.{truth}
use Rattle.b2_expr.specs.Scope.{Context}
use Rattle.b2_access.specs.declared.planned.Outcome.{Outcome}
use Rattle.b2_access.specs.declared.planned.Outcome.TheVariants as outcome
use Rattle.b2_rows.specs.LineNumbers.{line_in}

-- GOTO
abbrev pub goto_goal : Trees → Result Goal ℕ
goto_goal (Put word line) = Ok (goal.Line (line_in line))
goto_goal t = Err S15_LINE_NUMBER

-- IF: a condition that holds leads to the line or the statement after THEN
abbrev pub if_goal : Context → ℕ → List TreeUnit → Trees → Result Goal ℕ
if_goal s k us (Put word (In n c (Put then_ (In m named end)))) = truth s c >>= (λ holds. Ok (if holds then named_goal k m named else after_false k us))
if_goal s k us t = Err S14_STATEMENT

-- DEFFN that is reached in order does nothing; D87 where the name that DEFFN @PART is to declare isn't one
abbrev pub skipped_function : Trees → Outcome
skipped_function (Put word (In n body end)) = if n == 1 then outcome.Failed D87_FILE_NAME else outcome.Next
skipped_function t = outcome.Next
