-- The store that a `PlainStores` means.
use Rattle.std.specs.Prelude.{◌≡◌, ℕ, Option, Some, None, refl}
use Rattle.std.proofs.Common.{ap}
use Rattle.b2_access.specs.declared.lending.At.{At}
use Rattle.b2_access.specs.declared.objects.Object.{Object}
use Rattle.b2_access.specs.declared.objects.Object.TheVariants as object
use Rattle.b2_access.specs.Loans.{left_at, lender_at, with_globals_at, with_globals_of}
use Rattle.b2_access.specs.Rows.{with_row}
use Rattle.b2_access.specs.Store.{ContentOf, StoreState, put}
use Rattle.b2_vars.specs.Tables.{VarsState}
use Rattle.b2_store.specs.Kept.{store_in, with_first_content, with_name}
use Rattle.b2_store.specs.KeptLaws.{changed, named}
use Rattle.b2_store.specs.declared.plain.PlainStores.{PlainStores}

-- all but the allocator
abbrev pub plain_store : PlainStores → StoreState
plain_store s = store_in s.globals s.kept

-- with another content of an object
abbrev pub with_content : (o : Object) → PlainStores → ContentOf o → PlainStores
with_content (object.Globals p) s c = record s { globals = with_row p s.globals c }
with_content (object.Name n) s c = record s { kept = with_name n s.kept c }
with_content o s c = record s { kept = with_first_content o s.kept c }

-- it means what a store is then
pub means_put : (o : Object) (s : PlainStores) (c : ContentOf o) → plain_store (with_content o s c) ≡ put o c (plain_store s)
means_put (object.Globals p) s c = refl
means_put (object.Name n) s c = ap (λ (x : StoreState). record x { globals = s.globals }) (named n s.kept c)
means_put (object.Text p) s c = ap (λ (x : StoreState). record x { globals = s.globals }) (changed (object.Text p) s.kept c)
means_put (object.Borrow p) s c = ap (λ (x : StoreState). record x { globals = s.globals }) (changed (object.Borrow p) s.kept c)
means_put (object.Terminal t) s c = ap (λ (x : StoreState). record x { globals = s.globals }) (changed (object.Terminal t) s.kept c)
means_put (object.Printer a) s c = ap (λ (x : StoreState). record x { globals = s.globals }) (changed (object.Printer a) s.kept c)
means_put (object.Platter a) s c = ap (λ (x : StoreState). record x { globals = s.globals }) (changed (object.Platter a) s.kept c)
means_put (object.Hog a) s c = ap (λ (x : StoreState). record x { globals = s.globals }) (changed (object.Hog a) s.kept c)

-- after a loan that left these variables: as a plain store is then
abbrev pub loan_ended : ℕ → At → PlainStores → VarsState → StoreState
loan_ended home whose s w = with_globals_at home whose (plain_store s) (left_at home whose (plain_store s) w)

abbrev pub after_loan : ℕ → At → PlainStores → VarsState → PlainStores
after_loan home whose s w = record s { globals = (loan_ended home whose s w).globals }

-- it is so in all
pub means_so : (home : ℕ) (whose : At) (s : PlainStores) (w : VarsState) → plain_store (after_loan home whose s w) ≡ loan_ended home whose s w
means_so home whose s w = by (lender_at home whose (plain_store s)) (left_at home whose (plain_store s) w)
  where
    by : (x : Option ℕ) (left : Option VarsState) → plain_store (record s { globals = (with_globals_of x left (plain_store s)).globals }) ≡ with_globals_of x left (plain_store s)
    by None left = refl
    by (Some p) None = refl
    by (Some p) (Some v) = refl
