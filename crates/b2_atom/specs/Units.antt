-- The units of a line on its tree, which is cut at its statements.
use Rattle.std.specs.Prelude.{ℕ, zero, suc, List, [], ◌∷◌, ◌++◌, drop}
use Rattle.b2_atom.specs.Tree.{Trees, atoms}
use Rattle.b2_atom.specs.Tree.Trees.{Done, Put, In}
use Rattle.b2_atom.specs.Grammar.{row_items}
use Rattle.b2_atom.specs.Fitting.{giving}
use Rattle.b2_atom.specs.Lines.{LineUnit}
use Rattle.b2_atom.specs.declared.rows.TheConstants as row
use Rattle.b2_atom.specs.declared.forms.Position.{Position}
use Rattle.b2_atom.specs.declared.forms.Item.{Item}
use Rattle.b2_atom.specs.declared.forms.Item.TheVariants.{Part, Maybe, Either, Many, Nest, Statement}

-- a statement of a line: where it stands, its row, and its own tree, without the statement that follows its THEN, ELSE or
-- ERROR
pub record TreeUnit : Type 0 where
  pub position : Position
  pub row : ℕ
  pub tree : Trees

-- the items of a branch of an item
abbrev pub items_in : Item → ℕ → List Item
items_in (Part n) m = row_items n
items_in (Maybe s n) zero = []
items_in (Maybe s n) (suc m) = row_items n
items_in (Either s n k) zero = row_items k
items_in (Either s n k) (suc m) = row_items n
items_in (Many s n) zero = []
items_in (Many s n) (suc m) = row_items n
items_in (Nest n) m = row_items n
items_in (Statement p) m = row_items m
items_in i m = []

-- the items after such a branch: what may come again does where it came
abbrev pub items_after : Item → List Item → ℕ → List Item
items_after (Many s n) is (suc m) = Many s n ∷ is
items_after i is m = is

-- a branch with what its items and those after it keep; a statement is cut out
abbrev pub own_branch : List Item → ℕ → (List Item → Trees) → (List Item → Trees) → Trees
own_branch [] m inner others = In m (inner []) (others [])
own_branch (Statement p ∷ is) m inner others = others is
own_branch (i ∷ is) m inner others = In m (inner (items_in i m)) (others (items_after i is m))

-- the tree of some items without the statements in it
abbrev pub own : List Item → Trees → Trees
own is Done = Done
own is (Put t ts) = Put t (own (drop 1 (giving is)) ts)
own is (In m inner ts) = own_branch (giving is) m (λ (items : List Item). own items inner) (λ (others : List Item). own others ts)

-- the statements in a branch and after it, where a statement comes before those in it
abbrev pub units_of_branch : List Item → ℕ → (List Item → Trees) → (List Item → List TreeUnit) → (List Item → List TreeUnit) → List TreeUnit
units_of_branch [] m tree inner others = []
units_of_branch (Statement p ∷ is) m tree inner others = record { position = p; row = m; tree = tree (row_items m) } ∷ (inner (row_items m) ++ others is)
units_of_branch (i ∷ is) m tree inner others = inner (items_in i m) ++ others (items_after i is m)

-- the statements in the tree of some items, from left to right
abbrev pub units_in : List Item → Trees → List TreeUnit
units_in is Done = []
units_in is (Put t ts) = units_in (drop 1 (giving is)) ts
units_in is (In m inner ts) =
    units_of_branch (giving is) m (λ (items : List Item). own items inner) (λ (items : List Item). units_in items inner) (λ (others : List Item). units_in others ts)

-- the units of a line on its tree
unfoldable pub units_on : Trees → List TreeUnit
units_on t = units_in (row_items row.LINE) t

-- a unit's place and its atoms
abbrev pub unit_atoms : TreeUnit → LineUnit
unit_atoms u = record { position = u.position; bytes = atoms u.tree }
