-- Tables by rows: what every line of one has, and what is said elsewhere has, holds of every row.
use Rattle.std.specs.Prelude.{ℕ, ◌==◌, List, [], ◌∷◌}
use Rattle.b2_access.specs.Rows.{at_row}
use Rattle.b2_access.proofs.Choice.{either}

abbrev pub AllRows : {X : Type 0} → (X → Type 0) → List (ℕ × X) → Type 0
AllRows F [] = Unit {0}
AllRows F (x ∷ rows) = F x.1 × AllRows F rows

pub each_row : {X : Type 0} (F : X → Type 0) (rows : List (ℕ × X)) (other : X) (n : ℕ) → AllRows F rows → F other → F (at_row rows other n)
each_row F [] other n all rest = rest
each_row F (x ∷ rows) other n all rest = either F (n == x.0) x.1 (at_row rows other n) all.0 (each_row F rows other n all.1 rest)
