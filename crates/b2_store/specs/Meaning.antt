-- The store that a `Stores` means.
use Rattle.std.specs.Prelude.{◌≡◌, ℕ, Option, Some, None, refl}
use Rattle.b2_access.specs.declared.lending.At.{At}
use Rattle.b2_access.specs.declared.objects.Object.{Object}
use Rattle.b2_access.specs.declared.objects.Object.TheVariants as object
use Rattle.b2_access.specs.Loans.{left_at, lender_at, with_globals_at, with_globals_of}
use Rattle.b2_access.specs.Rows.{with_device_row, with_name_row, with_row}
use Rattle.b2_access.specs.Store.{ContentOf, StoreState, put}
use Rattle.b2_vars.specs.Tables.{VarsState}
use Rattle.b2_store.specs.declared.stores.Stores.{Stores}

-- all but the allocator
abbrev pub store_of : Stores → StoreState
store_of s = record { texts = s.texts; borrows = s.borrows; globals = s.globals; terminals = s.terminals; printers = s.printers; platters = s.platters; hogs = s.hogs; names = s.names }

-- with another content of an object
abbrev pub with_content : (o : Object) → Stores → ContentOf o → Stores
with_content (object.Text p) s c = record s { texts = with_row p s.texts c }
with_content (object.Borrow p) s c = record s { borrows = with_row p s.borrows c }
with_content (object.Globals p) s c = record s { globals = with_row p s.globals c }
with_content (object.Terminal t) s c = record s { terminals = with_row t s.terminals c }
with_content (object.Printer a) s c = record s { printers = with_device_row a s.printers c }
with_content (object.Platter a) s c = record s { platters = with_device_row a s.platters c }
with_content (object.Hog a) s c = record s { hogs = with_device_row a s.hogs c }
with_content (object.Name n) s c = record s { names = with_name_row n s.names c }

-- it means what a store is then
pub means_put : (o : Object) (s : Stores) (c : ContentOf o) → store_of (with_content o s c) ≡ put o c (store_of s)
means_put (object.Text p) s c = refl
means_put o s c = refl

-- after a loan that left these variables: as a plain store is then
abbrev pub loan_ended : ℕ → At → Stores → VarsState → StoreState
loan_ended home whose s w = with_globals_at home whose (store_of s) (left_at home whose (store_of s) w)

abbrev pub after_loan : ℕ → At → Stores → VarsState → Stores
after_loan home whose s w = record s { globals = (loan_ended home whose s w).globals }

-- it is so in all
pub means_so : (home : ℕ) (whose : At) (s : Stores) (w : VarsState) → store_of (after_loan home whose s w) ≡ loan_ended home whose s w
means_so home whose s w = by (lender_at home whose (store_of s)) (left_at home whose (store_of s) w)
  where
    by : (x : Option ℕ) (left : Option VarsState) → store_of (record s { globals = (with_globals_of x left (store_of s)).globals }) ≡ with_globals_of x left (store_of s)
    by None left = refl
    by (Some p) None = refl
    by (Some p) (Some v) = refl
