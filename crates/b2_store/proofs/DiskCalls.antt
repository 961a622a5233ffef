-- What the calls of the catalogue come to, by the work of disks.
use Rattle.std.specs.Prelude.{◌≡◌, ℕ, List, Ok, Err, Option, Some, None, IsSome, IfSome, option_map, refl}
use Rattle.std.specs.FinMap.{get}
use Rattle.std.proofs.Common.{sym, ap, subst, ◌∙◌}
use Rattle.b2_base.specs.declared.codes.TheConstants.{D82_NO_FILE}
use Rattle.b2_platter.specs.Image.{row}
use Rattle.b2_catalog.specs.Catalogue.{catalogue, entry_at}
use Rattle.b2_catalog.specs.Changes.{put_row, scratched_slot}
use Rattle.b2_catalog.specs.Ways.{slot_found}
use Rattle.b2_catalog.proofs.Mapping.{get-catalogue}
use Rattle.b2_store.specs.DiskWork.{scratched_image}

done_by : (t w name : List ℕ) (o : Option ℕ) → slot_found t name ≡ o → IsSome (get (catalogue t) name) → IfSome o (λ k. w ≡ put_row t k (scratched_slot (row t k))) → scratched_image t o ≡ Ok w
done_by t w name None found there made =
    let gone : get (catalogue t) name ≡ None = get-catalogue t name ∙ ap (option_map (entry_at t)) found in
    let never = subst (λ e. IsSome e) gone there in cc
done_by t w name (Some k) found there made = ap Ok (sym made)

-- a file that is scratched, by its slot
pub scratch_done : (t w name : List ℕ) → IsSome (get (catalogue t) name) → IfSome (slot_found t name) (λ k. w ≡ put_row t k (scratched_slot (row t k))) → scratched_image t (slot_found t name) ≡ Ok w
scratch_done t w name there made = done_by t w name (slot_found t name) refl there made

refused_by : (t name : List ℕ) (o : Option ℕ) → slot_found t name ≡ o → get (catalogue t) name ≡ None → scratched_image t o ≡ Err D82_NO_FILE
refused_by t name None found none = refl
refused_by t name (Some k) found none =
    let there : get (catalogue t) name ≡ Some (entry_at t k) = get-catalogue t name ∙ ap (option_map (entry_at t)) found in
    let never = sym there ∙ none in cc

-- and one that isn't there
pub scratch_refused : (t name : List ℕ) → get (catalogue t) name ≡ None → scratched_image t (slot_found t name) ≡ Err D82_NO_FILE
scratch_refused t name none = refused_by t name (slot_found t name) refl none
