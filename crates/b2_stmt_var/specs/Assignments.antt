-- Assignments, and lists of receivers.
use Rattle.std.specs.Prelude.{ℕ, ◌==◌, List, [], ◌∷◌, Result, Ok, Err, if◌then◌else◌}
use Rattle.b2_base.specs.declared.codes.TheConstants.{S20_VARIABLE}
use Rattle.b2_atom.specs.Tree.{Trees}
use Rattle.b2_atom.specs.Tree.Trees.{Done, Put, In}
use Rattle.b2_rows.specs.CommaLists.{after_all_listed, all_listed}
use Rattle.b2_expr.specs.Answers.{Answer}
use Rattle.b2_receiver.specs.Receiving.{assign_number_at, assign_side_at}
use Rattle.b2_receiver.specs.RightSide.{Side, right_side}
use Rattle.b2_expr.specs.Value.{context_of, value}
use Rattle.b2_expr.specs.Workspace.{WorkState, WorkLeft, refused, then_works, unchanged}
use Rattle.b2_expr.specs.declared.operators.Level.TheVariants as level

-- receivers are assigned from left to right, each among the variables as they then are, up to one with a code
abbrev pub assign_each : (Trees → WorkState → WorkLeft) → List Trees → WorkState → WorkLeft
assign_each one [] w = unchanged w
assign_each one (t ∷ ts) w = then_works (one t w) (assign_each one ts)

-- the expression of an assignment of a number, and the right side of one of bytes
abbrev pub sum_of_assignment : Trees → Trees
sum_of_assignment (Put equals (In n sum end)) = sum
sum_of_assignment t = Done

abbrev pub side_of_assignment : Trees → Trees
side_of_assignment (Put equals side) = side
side_of_assignment t = Done

-- the expression first, then each receiver
abbrev pub numbers_by : Answer → List Trees → WorkState → WorkLeft
numbers_by (Ok x) ts w = assign_each (assign_number_at (Ok x)) ts w
numbers_by (Err code) ts w = refused code w

abbrev pub sides_by : Result Side ℕ → List Trees → WorkState → WorkLeft
sides_by (Ok side) ts w = assign_each (assign_side_at side) ts w
sides_by (Err code) ts w = refused code w

abbrev pub assign_numbers : Trees → WorkState → WorkLeft
assign_numbers t w = numbers_by (value (context_of w) level.Sum (sum_of_assignment (after_all_listed t))) (all_listed t) w

abbrev pub assign_sides : Trees → WorkState → WorkLeft
assign_sides t w = sides_by (right_side (context_of w) (side_of_assignment (after_all_listed t))) (all_listed t) w

abbrev pub assigns : Trees → WorkState → WorkLeft
assigns (In n t end) w = if n == 1 then assign_sides t w else assign_numbers t w
assigns t w = refused S20_VARIABLE w
