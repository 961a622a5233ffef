-- What is given back and given up, by the rows of those who stand inside texts and the rows of names.
use Rattle.std.specs.Prelude.{◌≡◌, ℕ, Bool, true, false, List, [], ◌∷◌, Option, Some, None, if◌then◌else◌, refl}
use Rattle.std.proofs.Common.{ap, ◌∙◌}
use Rattle.b2_access.specs.declared.accesses.Answer.{Answer}
use Rattle.b2_access.specs.declared.objects.Object.TheVariants as object
use Rattle.b2_access.specs.AccessRows.{is_held_by}
use Rattle.b2_access.specs.AnswerKinds.{stops}
use Rattle.b2_access.specs.Borrowers.{homes_marked, without}
use Rattle.b2_access.specs.Rows.{NameRows, name_row, row_of, with_row}
use Rattle.b2_access.specs.Store.{StoreState, content, put}
use Rattle.b2_store.specs.Giving as giving
use Rattle.b2_store.specs.Inside as standing
use Rattle.b2_store.specs.Names as naming

abbrev pub InsideRows : Type 0
InsideRows = List (ℕ × List ℕ)

-- the list of a text changes, where it has one
abbrev pub changed_at : Option (List ℕ) → (List ℕ → List ℕ) → ℕ → InsideRows → InsideRows
changed_at None change home rows = rows
changed_at (Some parts) change home rows = with_row home rows (change parts)

abbrev pub given_one_back : ℕ → ℕ → InsideRows → InsideRows
given_one_back who home rows = changed_at (row_of home rows) (without who) home rows

abbrev pub given_back : ℕ → List ℕ → InsideRows → InsideRows
given_back who [] rows = rows
given_back who (home ∷ homes) rows = given_back who homes (given_one_back who home rows)

-- a partition gives up a name, where it holds it
abbrev pub without_one : ℕ → List ℕ → NameRows → NameRows
without_one who name rows = if is_held_by who (Some (name_row name rows)) then naming.freed_rows name rows else rows

abbrev pub without_name : ℕ → Option (List ℕ) → NameRows → NameRows
without_name who None rows = rows
without_name who (Some name) rows = without_one who name rows

abbrev pub given : ℕ → ℕ → Option (List ℕ) → StoreState → StoreState
given who homes name s = record s { borrows = given_back who (homes_marked homes) s.borrows; names = without_name who name s.names }

abbrev pub given_unless_refused : ℕ → ℕ → Option (List ℕ) → Answer → StoreState → StoreState
given_unless_refused who homes name x s = if stops x then s else given who homes name s

-- so is what contracts say
pub name_by_rows : (who : ℕ) (name : Option (List ℕ)) (s : StoreState) → naming.without_name who name s ≡ record s { names = without_name who name s.names }
name_by_rows who None s = refl
name_by_rows who (Some name) s = by (is_held_by who (content s (object.Name name)))
  where
    by : (own : Bool) → (if own then naming.freed name s else s) ≡ record s { names = if own then naming.freed_rows name s.names else s.names }
    by true = refl
    by false = refl

pub back_by_rows : (who : ℕ) (homes : List ℕ) (s : StoreState) → standing.given_back who homes s ≡ record s { borrows = given_back who homes s.borrows }
back_by_rows who [] s = refl
back_by_rows who (home ∷ homes) s = by (λ t. back_by_rows who homes t) (row_of home s.borrows)
  where
    by : ((t : StoreState) → standing.given_back who homes t ≡ record t { borrows = given_back who homes t.borrows }) → (c : Option (List ℕ))
        → standing.given_back who homes (standing.changed_at c (without who) home s) ≡ record s { borrows = given_back who homes (changed_at c (without who) home s.borrows) }
    by rest None = rest s
    by rest (Some parts) = rest (put (object.Borrow home) (without who parts) s)

pub given_by_rows : (who homes : ℕ) (name : Option (List ℕ)) (s : StoreState) → giving.given who homes name s ≡ given who homes name s
given_by_rows who homes name s =
    ap (standing.given_back who (homes_marked homes)) (name_by_rows who name s) ∙ back_by_rows who (homes_marked homes) (record s { names = without_name who name s.names })

pub unless_by_rows : (who homes : ℕ) (name : Option (List ℕ)) (x : Answer) (s : StoreState) → giving.given_unless_refused who homes name x s ≡ given_unless_refused who homes name x s
unless_by_rows who homes name x s = by (stops x)
  where
    by : (refused : Bool) → (if refused then s else giving.given who homes name s) ≡ (if refused then s else given who homes name s)
    by true = refl
    by false = given_by_rows who homes name s
