-- What holds of each row that a table says holds of all rows of the tables at a key.
use Rattle.std.proofs.Common.{◌≡◌, Bool, true, List, Option, Some, None, IfSome, option_and_then, refl}
use Rattle.std.specs.List.{list_all}
use Rattle.toml.specs.Data.{Items, no_items, item, Members, as_table}
use Rattle.b2_boot.specs.Rows.{before_rows, rows_in}

module _ {A : Type 0} (row : Members → Option A) (p : A → Bool) (each : (ms : Members) → IfSome (row ms) (λ x. p x ≡ true)) where
  abbrev One : A → Type 0
  One x = p x ≡ true

  abbrev Every : List A → Type 0
  Every xs = list_all p xs ≡ true

  table_said : (table : Option Members) → IfSome (option_and_then row table) One
  table_said None = tt
  table_said (Some ms) = each ms

  both_said : (x : Option A) (xs : Option (List A)) → IfSome x One → IfSome xs Every → IfSome (before_rows x xs) Every
  both_said (Some x) (Some xs) here more = rw here more
  both_said (Some x) None here more = tt
  both_said None xs here more = tt

  rows_said : (ds : Items) → IfSome (rows_in row ds) Every
  rows_said no_items = refl
  rows_said (item d ds) = both_said (option_and_then row (as_table d)) (rows_in row ds) (table_said (as_table d)) (rows_said ds)

  pub items_said : (items : Option Items) → IfSome (option_and_then (rows_in row) items) Every
  items_said None = tt
  items_said (Some ds) = rows_said ds
