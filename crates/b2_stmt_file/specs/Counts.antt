-- Counts of sectors and of records: a number without its fraction.
use Rattle.std.specs.Prelude.{ℕ, ◌&&◌, ℤ, pos, nat_le, Option, Some, Result, Ok, Err, if◌then◌else◌}
use Rattle.b2_base.specs.declared.codes.TheConstants.{P34_RANGE}
use Rattle.b2_atom.specs.Tree.{Trees}
use Rattle.b2_expr.specs.Answers.{◌>>=◌}
use Rattle.b2_expr.specs.Functions.{fixed}
use Rattle.b2_expr.specs.Scope.{Context}
use Rattle.b2_expr.specs.Value.{value}
use Rattle.b2_expr.specs.declared.operators.Level.TheVariants as level

-- it is from a least one to 16,777,215, P34 where it isn't
abbrev pub count_from : ℕ → Option ℤ → Result ℕ ℕ
count_from least (Some (pos n)) = if nat_le least n && nat_le n 16777215 then Ok n else Err P34_RANGE
count_from least z = Err P34_RANGE

abbrev pub count_given : ℕ → Context → Trees → Result ℕ ℕ
count_given least e t = value e level.Sum t >>= (λ x. count_from least (fixed x))
