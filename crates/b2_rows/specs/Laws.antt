-- Laws of rows that are read: they stand item by item, repetitions go on where their rows begin, and each unit of a line is a
-- row that is read.
use Rattle.std.specs.Prelude.{◌≡◌, ◌≤◌, ◌<◌, ℕ, true, false, [], Ok, length}
use Rattle.std.specs.List.{All}
use Rattle.b2_atom.specs.Words.{Text}
use Rattle.b2_atom.specs.Tree.{Trees, atoms}
use Rattle.b2_atom.specs.Tree.Trees.{Done, In}
use Rattle.b2_atom.specs.Grammar.{reader, statement, row_items, starts}
use Rattle.b2_atom.specs.Lines.{is_line, LineUnit, units_of}
use Rattle.b2_atom.specs.Units.{TreeUnit, units_on}
use Rattle.b2_atom.specs.Laws.{IsTree}
use Rattle.b2_atom.specs.declared.words.Origin.TheVariants.{Atoms}
use Rattle.b2_atom.specs.declared.forms.Start.{Start}
use Rattle.b2_base.specs.Lexical.{first}
use Rattle.b2_rows.specs.Rows.{is_phrase, tree_at, after_phrase, is_list, after_list, RowStands, Goes, Ends}
use Rattle.b2_rows.specs.Takes.{takes_byte}
use Rattle.b2_rows.specs.Links.{Further}
use Rattle.b2_rows.specs.Chains.{chain_row, item_row, more_row, more_start, is_operator_of, ChainStands}
use Rattle.b2_rows.specs.declared.chains.Chain.{Chain}

-- each row that is read stands item by item
abbrev pub EachRowStands : Type 0
EachRowStands = (n : ℕ) (t : Text) → is_phrase n t ≡ true → RowStands n (row_items n) t

-- a repetition goes on exactly where its row begins
pub record ListsStep (s : Start) (n : ℕ) (t : Text) : Type 0 where
  pub goes : is_list s n t ≡ true → starts Atoms s t ≡ true → Goes s n t
  pub ends : starts Atoms s t ≡ false → Ends s n t

abbrev pub EachListSteps : Type 0
EachListSteps = (s : Start) (n : ℕ) (t : Text) → ListsStep s n t

-- what is left is no longer than the text
abbrev pub NothingIsAdded : Type 0
NothingIsAdded =
    ((n : ℕ) (t : Text) → length (after_phrase n t) ≤ length t)
    × ((s : Start) (n : ℕ) (t : Text) → length (after_list s n t) ≤ length t)

-- and shorter after a row that takes a byte
abbrev pub EachTakerShortens : Type 0
EachTakerShortens = (n : ℕ) (t : Text) → takes_byte n ≡ true → is_phrase n t ≡ true → length (after_phrase n t) < length t

-- a chain is an item and further items, which go on exactly where an operator stands
pub record ChainSteps (c : Chain) (t : Text) : Type 0 where
  pub stands : is_phrase (chain_row c) t ≡ true → ChainStands c t
  pub goes : is_list (more_start c) (more_row c) t ≡ true → is_operator_of c (first t) ≡ true → Further (more_start c) (more_row c) (item_row c) t
  pub ends : is_operator_of c (first t) ≡ false → Ends (more_start c) (more_row c) t

abbrev pub EachChainStands : Type 0
EachChainStands = (c : Chain) (t : Text) → ChainSteps c t

-- bytes that are a row from the first to the last, and its tree
pub record IsRow (n : ℕ) (bytes : Text) (t : Trees) : Type 0 where
  pub part : is_phrase n bytes ≡ true
  pub tree : tree_at n bytes ≡ t
  pub whole : after_phrase n bytes ≡ []

-- a unit of a line: the statement that is read of it, which is its row
pub record IsRowUnit (u : LineUnit) : Type 0 where
  pub row : ℕ
  pub tree : Trees
  pub read : statement (reader Atoms) 1 u.position u.bytes ≡ Ok (In row tree Done, [])
  pub is : IsRow row u.bytes tree

-- each unit of a line is a row that is read
abbrev pub EachUnitIsARow : Type 0
EachUnitIsARow = (line : Text) → is_line line ≡ true → All IsRowUnit (units_of line)

-- and each unit on a tree of a line is the row that its tree says
abbrev pub IsRowOnTree : TreeUnit → Type 0
IsRowOnTree u = IsRow u.row (atoms u.tree) u.tree

abbrev pub EachTreeUnitIsItsRow : Type 0
EachTreeUnitIsItsRow = (t : Trees) → IsTree t → length (atoms t) ≤ 255 → All IsRowOnTree (units_on t)
