-- ON: a line of a list, by a number.
use Rattle.std.specs.Prelude.{ℕ, ◌-◌, ◌==◌, ℤ, pos, Bool, false, not, List, [], ◌∷◌, Option, None, Some, Result, Ok, Err, slice_get, if◌then◌else◌}
use Rattle.b2_base.specs.declared.codes.TheConstants.{S17_NUMERIC}
use Rattle.b2_atom.specs.Tree.{Trees}
use Rattle.b2_atom.specs.Tree.Trees.{Put, In}
use Rattle.b2_expr.specs.Answers.{◌>>=◌}
use Rattle.b2_expr.specs.Functions.{fixed}
use Rattle.b2_expr.specs.Scope.{Context}
use Rattle.b2_expr.specs.Value.{value}
use Rattle.b2_expr.specs.declared.operators.Level.TheVariants as level
use Rattle.b2_rows.specs.LineNumbers.{line_in}

-- the lines after the first, and all of them
abbrev pub lines_after : Trees → List ℕ
lines_after (In n (Put comma line) more) = line_in line ∷ lines_after more
lines_after t = []

abbrev pub lines_in_list : Trees → List ℕ
lines_in_list (Put line more) = line_in (Put line more) ∷ lines_after more
lines_in_list t = []

-- the one that a number without its fraction counts, from 1 on
abbrev pub counted_line : Option ℤ → List ℕ → Option ℕ
counted_line (Some (pos n)) lines = if n == 0 then None else slice_get lines (n - 1)
counted_line z lines = None

abbrev pub lines_of : Trees → List ℕ
lines_of (Put word lines) = lines_in_list lines
lines_of t = []

-- whether ON calls the line that it chooses
abbrev pub calls_a_line : Trees → Bool
calls_a_line (Put word (In m sum (In n literals_listed end))) = not (n == 1)
calls_a_line t = false

-- whether ON goes there or calls, and the line that is chosen
abbrev pub choice_in : Context → Trees → Result (Bool × Option ℕ) ℕ
choice_in s (Put word (In m sum (In n literals_listed end))) = value s level.Sum sum >>= (λ x. Ok (n == 1, counted_line (fixed x) (lines_of literals_listed)))
choice_in s t = Err S17_NUMERIC
