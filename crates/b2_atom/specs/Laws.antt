-- Laws of lines: which trees there are, that each is spelled by its atoms alone, and that what is listed is read back.
use Rattle.std.specs.Prelude.{◌≡◌, ◌≤◌, ℕ, true, false, [], Ok, length, map}
use Rattle.std.specs.List.{All}
use Rattle.b2_atom.specs.Words.{Text}
use Rattle.b2_atom.specs.Tokens.{listed}
use Rattle.b2_atom.specs.Tree.{Trees, atoms, tokens}
use Rattle.b2_atom.specs.Tree.Trees.{Done, In}
use Rattle.b2_atom.specs.Grammar.{reader, part, statement, parse_line}
use Rattle.b2_atom.specs.Lines.{is_line, line_atoms, LineUnit, units_of, unit_row}
use Rattle.b2_atom.specs.Fitting.{LineTree, LineTreeWithin}
use Rattle.b2_atom.specs.Units.{TreeUnit, unit_atoms, units_on}
use Rattle.b2_atom.specs.declared.words.Origin.{Origin}
use Rattle.b2_atom.specs.declared.words.Origin.TheVariants as origin

-- a tree of the language: one that the rows of the table allow in a line of atoms, where every statement may stand
abbrev pub IsTree : Trees → Type 0
IsTree t = LineTree origin.Atoms t

-- a tree of any depth: one that the rows allow in such a line, however many parentheses are open in its statements
abbrev pub IsTreeOfAnyDepth : Trees → Type 0
IsTreeOfAnyDepth t = (most : ℕ) × LineTreeWithin most origin.Atoms t

-- a line spells a tree
pub record SpellsTree (line : Text) : Type 0 where
  pub tree : Trees
  pub is_tree : IsTree tree
  pub spelled : atoms tree ≡ line

-- each line is the atoms of a tree of the language
abbrev pub EachLineSpellsATree : Type 0
EachLineSpellsATree = (line : Text) → is_line line ≡ true → SpellsTree line

-- the atoms of each tree of the language are a line, where they are no more than 255 bytes
abbrev pub EachTreeIsALine : Type 0
EachTreeIsALine = (t : Trees) → IsTree t → length (atoms t) ≤ 255 → is_line (atoms t) ≡ true

-- and are read as this tree, with nothing left
abbrev pub EachTreeIsReadFromItsAtoms : Type 0
EachTreeIsReadFromItsAtoms = (t : Trees) → IsTree t → parse_line origin.Atoms (atoms t) ≡ Ok (t, [])

-- what is read of a line of any kind is a tree that the rows allow in such a line, and nothing is left
pub record FitsWhole (o : Origin) (t : Trees) (rest : Text) : Type 0 where
  pub tree : LineTree o t
  pub whole : rest ≡ []

abbrev pub WhatIsReadFitsTheRows : Type 0
WhatIsReadFitsTheRows = (o : Origin) (source : Text) (t : Trees) (rest : Text) → parse_line o source ≡ Ok (t, rest) → FitsWhole o t rest

-- no two trees have the same atoms, however deep their parentheses are
abbrev pub NoTwoTreesShareAtoms : Type 0
NoTwoTreesShareAtoms = (t u : Trees) → IsTreeOfAnyDepth t → IsTreeOfAnyDepth u → atoms t ≡ atoms u → t ≡ u

-- what a source is read as is a tree of the language that such a line allows, and its atoms are a line again
abbrev pub WhatIsReadIsALine : Type 0
WhatIsReadIsALine = (o : Origin) (source line : Text) → line_atoms o source ≡ Ok line → length line ≤ 255 → is_line line ≡ true

-- the canonical source of each tree that a program's line allows is read as the tree's atoms, and as much for an immediate
-- line
abbrev pub WhatIsListedIsReadBack : Type 0
WhatIsListedIsReadBack =
    ((t : Trees) → LineTree origin.Program t → line_atoms origin.Program (listed false false (tokens t)) ≡ Ok (atoms t))
    × ((t : Trees) → LineTree origin.Immediate t → line_atoms origin.Immediate (listed false false (tokens t)) ≡ Ok (atoms t))

-- a unit is read as one statement, with nothing left
pub record IsStatement (u : LineUnit) : Type 0 where
  pub row : ℕ
  pub tree : Trees
  pub read : statement (reader origin.Atoms) 1 u.position u.bytes ≡ Ok (In row tree Done, [])

-- each unit of a line is one statement by itself
abbrev pub EachUnitIsAStatement : Type 0
EachUnitIsAStatement = (line : Text) → is_line line ≡ true → All IsStatement (units_of line)

-- a unit is read by its row alone, as the statement that it is, with nothing left
pub record IsReadByItsRow (u : LineUnit) : Type 0 where
  pub tree : Trees
  pub statement : statement (reader origin.Atoms) 1 u.position u.bytes ≡ Ok (In (unit_row u) tree Done, [])
  pub part : part origin.Atoms 0 32 40 (unit_row u) u.bytes ≡ Ok (tree, [])

-- each unit of a line is read by the row that the table chooses for it
abbrev pub EachUnitIsReadByItsRow : Type 0
EachUnitIsReadByItsRow = (line : Text) → is_line line ≡ true → All IsReadByItsRow (units_of line)

-- a unit on a tree is read as its own tree by itself, with nothing left
abbrev pub IsReadAlone : TreeUnit → Type 0
IsReadAlone u = statement (reader origin.Atoms) 1 u.position (atoms u.tree) ≡ Ok (In u.row u.tree Done, [])

-- the units of a tree's atoms are the atoms of its units, each of which is read by itself
pub record IsCutIntoUnits (t : Trees) : Type 0 where
  pub units : units_of (atoms t) ≡ map unit_atoms (units_on t)
  pub alone : All IsReadAlone (units_on t)

abbrev pub EachTreeIsCutIntoUnits : Type 0
EachTreeIsCutIntoUnits = (t : Trees) → IsTree t → IsCutIntoUnits t
