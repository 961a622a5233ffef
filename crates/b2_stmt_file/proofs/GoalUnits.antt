-- Where a false IF leads is a unit of at most 255, or a line.
use Rattle.std.proofs.Common.{◌≡◌, ◌≤◌, ◌<◌, ℕ, ◌+◌, ◌==◌, Bool, true, false, if◌then◌else◌, List, length, Option, Some, None, slice_get, refl, arith}
use Rattle.std.proofs.lemmas.Option.{slice_get_within}
use Rattle.b2_atom.specs.Words.{Text}
use Rattle.b2_atom.specs.Tokens.Token.{Coded, Short, Plain, Lined}
use Rattle.b2_atom.specs.Tree.{Trees}
use Rattle.b2_atom.specs.Tree.Trees.{Done, Put, In}
use Rattle.b2_atom.specs.Lines.{is_line}
use Rattle.b2_atom.specs.Units.{TreeUnit}
use Rattle.b2_atom.specs.declared.rows.TheConstants as row
use Rattle.b2_rows.specs.Following.{tree_units, further_on, named_goal, else_goal, false_goal, after_false}
use Rattle.b2_rows.specs.Values.{line_of}
use Rattle.b2_rows.specs.declared.following.Goal.TheVariants as goal
use Rattle.b2_access.specs.Places.{IsUnit}
use Rattle.b2_access.proofs.Statements.{few}

named_unit : (k n : ℕ) (t : Trees) → k < 255 → IsUnit (named_goal k n t)
named_unit k n Done h = omega arith
named_unit k n (In m a t) h = omega arith
named_unit k n (Put (Coded c) t) h = omega arith
named_unit k n (Put (Short c) t) h = omega arith
named_unit k n (Put (Plain l w) t) h = omega arith
named_unit k n (Put (Lined high low) t) h = by_test (n == 1)
  where
    by_test : (b : Bool) → IsUnit (if b then goal.Line (line_of high low) else goal.Unit (k + 1))
    by_test true = tt
    by_test false = omega arith

else_unit : (k : ℕ) (t : Trees) → k < 255 → IsUnit (else_goal k t)
else_unit k Done h = omega arith
else_unit k (In m a t) h = omega arith
else_unit k (Put w Done) h = omega arith
else_unit k (Put w (Put v t)) h = omega arith
else_unit k (Put w (In n named t)) h = named_unit k n named h

false_by : (us : List TreeUnit) (j : ℕ) (o : Option TreeUnit) → slice_get us j ≡ o → length us ≤ 255 → IsUnit (false_goal j o)
false_by us j None is small = tt
false_by us j (Some u) is small = by_test (u.row == row.ELSE)
  where
    below : j < 255
    below = let e = slice_get_within us j u is in omega (arith, e, small)

    by_test : (b : Bool) → IsUnit (if b then else_goal j u.tree else goal.Unit j)
    by_test true = else_unit j u.tree below
    by_test false = let e = below in omega (arith, e)

pub false_unit : (line : Text) (k : ℕ) → is_line line ≡ true → IsUnit (after_false k (tree_units line))
false_unit line k h = false_by (tree_units line) (further_on k 0 (tree_units line)) (slice_get (tree_units line) (further_on k 0 (tree_units line))) refl (few line h)
