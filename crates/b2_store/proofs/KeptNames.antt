-- A name of a list that is given up.
use Rattle.std.specs.Prelude.{◌≡◌, ℕ, List, Option, Some, None, refl}
use Rattle.std.proofs.Common.{ap, ◌∙◌}
use Rattle.std.specs.Str.{bytes_eq}
use Rattle.b2_access.specs.declared.objects.Object.TheVariants as object
use Rattle.b2_access.specs.Rows.{NameRows, device_row, with_device_row}
use Rattle.b2_access.specs.Store.{StoreState}
use Rattle.b2_store.specs.Kept.{all_before, nothing, store_in, with_first_content}
use Rattle.b2_store.specs.KeptLaws.{changed}
use Rattle.b2_store.specs.Names.{freed, freed_in, freed_rows}
use Rattle.b2_store.specs.Spares.{GlobalsRows}
use Rattle.b2_store.specs.declared.kept_item.Kept.{Kept}
use Rattle.b2_store.proofs.Same.{with_none}

rows_freed : (n : List ℕ) (rows : NameRows) → with_device_row n rows None ≡ freed_rows n rows
rows_freed n rows = by (device_row n rows) refl
  where
    by : (o : Option (Option ℕ)) → device_row n rows ≡ o → with_device_row n rows None ≡ freed_in o n rows
    by None is = with_none (λ k. bytes_eq k n) rows None is
    by (Some holder) is = refl

pub freed_as : (globals : GlobalsRows) (n : List ℕ) (xs : List Kept) → store_in globals (with_first_content (object.Name n) xs None) ≡ freed n (store_in globals xs)
freed_as globals n xs =
    ap (λ (x : StoreState). record x { globals = globals }) (changed (object.Name n) xs None)
    ∙ ap (λ (rows : NameRows). record (store_in globals xs) { names = rows }) (rows_freed n (all_before xs nothing).names)
