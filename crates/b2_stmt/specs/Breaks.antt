-- $BREAK: it ends the turn, and so many of the next are passed.
use Rattle.std.specs.Prelude.{ℕ, ◌==◌, Result, Ok, if◌then◌else◌}
use Rattle.b2_atom.specs.Tree.{Trees}
use Rattle.b2_atom.specs.Tree.Trees.{Put, In}
use Rattle.b2_expr.specs.Answers.{◌>>=◌}
use Rattle.b2_expr.specs.Functions.{whole_between}
use Rattle.b2_expr.specs.Scope.{Context}
use Rattle.b2_expr.specs.Value.{value}
use Rattle.b2_expr.specs.declared.operators.Level.TheVariants as level
use Rattle.b2_access.specs.Steering.{Steered, control_of}
use Rattle.b2_access.specs.declared.planned.Outcome.TheVariants as outcome
use Rattle.b2_access.specs.declared.private.Private.{Private}

-- how many: the number that is written, without its fraction and from 0 to 255, and none where none is written
abbrev pub turns_to_pass : Context → Trees → Result ℕ ℕ
turns_to_pass s (Put word (In n sum end)) = if n == 1 then value s level.Sum sum >>= (λ x. whole_between 0 255 x) else Ok 0
turns_to_pass s t = Ok 0

abbrev pub breaks : ℕ → Private → Steered
breaks turns me = record { work = record (control_of me) { pass = turns }; outcome = outcome.Break }
