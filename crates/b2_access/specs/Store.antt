-- The store that partitions share: a map from objects to contents, kept as a list of rows for each kind of object.
use Rattle.std.specs.Prelude.{◌≡◌, ℕ, List, [], ◌∷◌, Option, Some, ◌⊎◌}
use Rattle.b2_text.specs.Program.{TextState}
use Rattle.b2_vars.specs.Tables.{VarsState}
use Rattle.b2_term.specs.Terminal.{TerminalState}
use Rattle.b2_access.specs.declared.objects.Object.{Object}
use Rattle.b2_access.specs.declared.objects.Object.TheVariants as object
use Rattle.b2_access.specs.Rows.{NameRows, row_of, with_row, device_row, with_device_row, name_row, with_name_row}

-- Texts, who stands inside each, in order of entering, `@` variables, terminals, what printers printed, the images of platters, who
-- holds each device, and who holds each name that was ever declared.
pub record StoreState : Type 0 where
  pub texts : List (ℕ × TextState)
  pub borrows : List (ℕ × List ℕ)
  pub globals : List (ℕ × VarsState)
  pub terminals : List (ℕ × TerminalState)
  pub printers : List (List ℕ × List ℕ)
  pub platters : List (List ℕ × List ℕ)
  pub hogs : List (List ℕ × Option ℕ)
  pub names : NameRows

-- What an object of each kind has. A name and a device are held by a partition or by nobody, a printer has the bytes that it
-- printed, and a platter has the bytes of its image.
abbrev pub ContentOf : Object → Type 0
ContentOf (object.Text p) = TextState
ContentOf (object.Borrow p) = List ℕ
ContentOf (object.Name n) = Option ℕ
ContentOf (object.Globals p) = VarsState
ContentOf (object.Terminal t) = TerminalState
ContentOf (object.Printer a) = List ℕ
ContentOf (object.Platter a) = List ℕ
ContentOf (object.Hog a) = Option ℕ

-- what an object has, None where it isn't listed; a name that nobody declared is held by nobody
abbrev pub content : StoreState → (o : Object) → Option (ContentOf o)
content s (object.Text p) = row_of p s.texts
content s (object.Borrow p) = row_of p s.borrows
content s (object.Globals p) = row_of p s.globals
content s (object.Terminal t) = row_of t s.terminals
content s (object.Printer a) = device_row a s.printers
content s (object.Platter a) = device_row a s.platters
content s (object.Hog a) = device_row a s.hogs
content s (object.Name n) = Some (name_row n s.names)

-- who holds a name
abbrev pub holder_of : StoreState → List ℕ → Option ℕ
holder_of s n = name_row n s.names

-- an object that is listed has another content; a name is listed always
abbrev pub put : (o : Object) → ContentOf o → StoreState → StoreState
put (object.Text p) c s = record s { texts = with_row p s.texts c }
put (object.Borrow p) c s = record s { borrows = with_row p s.borrows c }
put (object.Globals p) c s = record s { globals = with_row p s.globals c }
put (object.Terminal t) c s = record s { terminals = with_row t s.terminals c }
put (object.Printer a) c s = record s { printers = with_device_row a s.printers c }
put (object.Platter a) c s = record s { platters = with_device_row a s.platters c }
put (object.Hog a) c s = record s { hogs = with_device_row a s.hogs c }
put (object.Name n) c s = record s { names = with_name_row n s.names c }

-- an object is one of a list
abbrev pub IsIn : Object → List Object → Type 0
IsIn o [] = ⊥
IsIn o (x ∷ xs) = (o ≡ x) ⊎ IsIn o xs

-- two stores have the same in each object of a list
abbrev pub AgreeOn : List Object → StoreState → StoreState → Type 0
AgreeOn os s t = (o : Object) → IsIn o os → content s o ≡ content t o
