-- LOAD by its row: RUN or none, the drive and the name.
use Rattle.std.proofs.Common.{◌≡◌, ℕ, Bool, true, false, ◌==◌, ◌||◌, if◌then◌else◌, List, [], ◌∷◌, drop, Result, refl, ap, subst, ◌∙◌, Option}
use Rattle.b2_base.specs.Lexical.{first}
use Rattle.b2_atom.specs.Words.{Text}
use Rattle.b2_atom.specs.Tree.{Trees}
use Rattle.b2_atom.specs.Tree.Trees.{Done, Put, In}
use Rattle.b2_atom.specs.Tokens.Token.{Coded}
use Rattle.b2_atom.specs.Grammar.{row_items, starts}
use Rattle.b2_atom.specs.declared.words.Origin.TheVariants.{Atoms}
use Rattle.b2_atom.specs.declared.words.TheConstants as word
use Rattle.b2_atom.specs.declared.rows.TheConstants as row
use Rattle.b2_atom.specs.declared.forms.Start.TheVariants as start
use Rattle.b2_atom.specs.declared.forms.Item.{Item}
use Rattle.b2_atom.specs.declared.forms.Item.TheVariants.{Word, Ignored, Part, Maybe}
use Rattle.b2_rows.specs.Rows.{is_phrase, tree_at, after_phrase, When}
use Rattle.b2_rows.proofs.RowsRead.{stands_of}
use Rattle.b2_expr.specs.Scope.{Context}
use Rattle.b2_access.specs.declared.accesses.Access.{Access}
use Rattle.b2_drive.specs.Drives.{DrivesSeen}
use Rattle.b2_stmt_disk.specs.programs.Loading.{asks_for, asks_to_load}

abbrev load_items : List Item
load_items = Word word.LOAD ∷ Ignored word.DC ∷ Maybe (start.Code word.RUN) row.RUN_WORD ∷ Part row.DRIVE_COMMA ∷ Part row.ALPHA ∷ []

load_row : row_items row.LOAD ≡ load_items
unfolding row_items
load_row = refl

run_row : row_items row.RUN_WORD ≡ Word word.RUN ∷ []
unfolding row_items
run_row = refl

begins : (t : Text) (b : Bool) → (first t == word.RUN) ≡ b → starts Atoms (start.Code word.RUN) t ≡ b
unfolding starts
begins t b is = is

-- where the drive stands
abbrev pub drive_text : Bool → Text → Text
drive_text run t = if run then drop 1 t else t

abbrev Loads : Text → Type 0
Loads u = (is_phrase row.DRIVE_COMMA u ≡ true) × ((is_phrase row.ALPHA (after_phrase row.DRIVE_COMMA u) ≡ true) × Unit {0})

loads_by : (b : Bool) (t : Text) → When b ((is_phrase row.RUN_WORD t ≡ true) × Loads (after_phrase row.RUN_WORD t)) (Loads t) → Loads (drive_text b t)
loads_by true t h = subst Loads (stands_of row.RUN_WORD (Word word.RUN ∷ []) t run_row h.0).2 h.1
loads_by false t h = h

loads : (b : Bool) (t : Text) → is_phrase row.LOAD t ≡ true → (first (drop 1 t) == word.RUN) ≡ b → Loads (drive_text b (drop 1 t))
loads b t ok is =
    loads_by b (drop 1 t)
    (subst (λ (x : Bool). When x ((is_phrase row.RUN_WORD (drop 1 t) ≡ true) × Loads (after_phrase row.RUN_WORD (drop 1 t))) (Loads (drop 1 t))) (begins (drop 1 t) b is) (stands_of row.LOAD load_items t load_row ok).0.1)

pub run_drive : (t : Text) → is_phrase row.LOAD t ≡ true → (first (drop 1 t) == word.RUN) ≡ true → is_phrase row.DRIVE_COMMA (drop 1 (drop 1 t)) ≡ true
run_drive t ok is = (loads true t ok is).0

pub run_name : (t : Text) → is_phrase row.LOAD t ≡ true → (first (drop 1 t) == word.RUN) ≡ true → is_phrase row.ALPHA (after_phrase row.DRIVE_COMMA (drop 1 (drop 1 t))) ≡ true
run_name t ok is = (loads true t ok is).1.0

pub load_drive : (t : Text) → is_phrase row.LOAD t ≡ true → (first (drop 1 t) == word.RUN) ≡ false → is_phrase row.DRIVE_COMMA (drop 1 t) ≡ true
load_drive t ok is = (loads false t ok is).0

pub load_name : (t : Text) → is_phrase row.LOAD t ≡ true → (first (drop 1 t) == word.RUN) ≡ false → is_phrase row.ALPHA (after_phrase row.DRIVE_COMMA (drop 1 t)) ≡ true
load_name t ok is = (loads false t ok is).1.0

-- what it asks for
abbrev drive_tree : Text → Trees
drive_tree u = In 2 (tree_at row.DRIVE_COMMA u) (In 2 (tree_at row.ALPHA (after_phrase row.DRIVE_COMMA u)) Done)

abbrev asked : DrivesSeen → Context → Option (List ℕ) → ℕ → Bool → Text → Result Access ℕ
asked d e declared homes replace u = asks_for d e declared homes replace (tree_at row.DRIVE_COMMA u) (tree_at row.ALPHA (after_phrase row.DRIVE_COMMA u))

asked_by : (d : DrivesSeen) (e : Context) (declared : Option (List ℕ)) (homes : ℕ) (program b : Bool) (t : Text) → (b ≡ true → after_phrase row.RUN_WORD t ≡ drop 1 t)
    → asks_to_load d e declared homes program (Put (Coded word.LOAD) (if b then In 1 (tree_at row.RUN_WORD t) (drive_tree (after_phrase row.RUN_WORD t)) else In 0 Done (drive_tree t))) ≡ asked d e declared homes (b || program) (drive_text b t)
asked_by d e declared homes program true t rest = ap (asked d e declared homes true) (rest refl)
asked_by d e declared homes program false t rest = refl

run_rest : (b : Bool) (t : Text) → When b ((is_phrase row.RUN_WORD t ≡ true) × Loads (after_phrase row.RUN_WORD t)) (Loads t) → b ≡ true → after_phrase row.RUN_WORD t ≡ drop 1 t
run_rest true t h is = (stands_of row.RUN_WORD (Word word.RUN ∷ []) t run_row h.0).2
run_rest false t h is = cc

asked_is : (d : DrivesSeen) (e : Context) (declared : Option (List ℕ)) (homes : ℕ) (program b : Bool) (t : Text) → is_phrase row.LOAD t ≡ true → (first (drop 1 t) == word.RUN) ≡ b
    → asks_to_load d e declared homes program (tree_at row.LOAD t) ≡ asked d e declared homes (b || program) (drive_text b (drop 1 t))
asked_is d e declared homes program b t ok is =
    ap (asks_to_load d e declared homes program) (stands_of row.LOAD load_items t load_row ok).1
    ∙ asked_by d e declared homes program (starts Atoms (start.Code word.RUN) (drop 1 t)) (drop 1 t) (run_rest (starts Atoms (start.Code word.RUN) (drop 1 t)) (drop 1 t) (stands_of row.LOAD load_items t load_row ok).0.1)
    ∙ ap (λ (x : Bool). asked d e declared homes (x || program) (drive_text x (drop 1 t))) (begins (drop 1 t) b is)

pub run_is : (d : DrivesSeen) (e : Context) (declared : Option (List ℕ)) (homes : ℕ) (program : Bool) (t : Text) → is_phrase row.LOAD t ≡ true → (first (drop 1 t) == word.RUN) ≡ true
    → asks_to_load d e declared homes program (tree_at row.LOAD t) ≡ asked d e declared homes true (drop 1 (drop 1 t))
run_is d e declared homes program t ok is = asked_is d e declared homes program true t ok is

pub load_is : (d : DrivesSeen) (e : Context) (declared : Option (List ℕ)) (homes : ℕ) (program : Bool) (t : Text) → is_phrase row.LOAD t ≡ true → (first (drop 1 t) == word.RUN) ≡ false
    → asks_to_load d e declared homes program (tree_at row.LOAD t) ≡ asked d e declared homes program (drop 1 t)
load_is d e declared homes program t ok is = asked_is d e declared homes program false t ok is
