-- What the catalogue has at a name is the entry of the slot that has the name.
use Rattle.std.proofs.Common.{◌≡◌, ℕ, Bool, true, false, cond, List, [], ◌∷◌, Option, Some, Ordering, refl, sym, ap, ◌∙◌, subst}
use Rattle.std.specs.Option.{option_map}
use Rattle.std.specs.List.{find, filter_map}
use Rattle.std.specs.Str.{bytes_eq}
use Rattle.std.specs.Ordering.{nat_cmp, eq_by_cmp, is_eq}
use Rattle.std.specs.declared.cmp.Ordering.TheVariants.{Less, Equal, Greater}
use Rattle.std.specs.Cmp.{tied_itself}
use Rattle.std.specs.Cmp.Lexicographic.{slice_cmp, nat_list_cmp_total}
use Rattle.std.specs.FinMap.{get, get-from_entries, slice_cmp-IsAntisymmetric, nat_cmp-IsAntisymmetric}
use Rattle.std.specs.FinMap as map
use Rattle.std.proofs.lemmas.Slice.Eq.{bytes_eq-Decides}
use Rattle.std.proofs.lemmas.Bool.Decides.{same_from_decides}
use Rattle.b2_platter.specs.Slot.{is_entry, slot_name}
use Rattle.b2_platter.specs.Image.{row, index_of, slots_of}
use Rattle.b2_catalog.specs.declared.entry.Entry.{Entry}
use Rattle.b2_catalog.specs.Catalogue.{entry_at, named_entry, catalogue}
use Rattle.b2_catalog.specs.Ways.{has_name, slot_found}

is_equal : (o : Ordering) → is_eq o ≡ true → o ≡ Equal
is_equal Less e = cc
is_equal Equal e = refl
is_equal Greater e = cc

-- two names tie exactly where they are one list
pub tie-eq : (q n : List ℕ) → eq_by_cmp (slice_cmp nat_cmp) q n ≡ bytes_eq n q
tie-eq q n =
    same_from_decides {P = n ≡ q} _ _
    (λ e. sym (slice_cmp-IsAntisymmetric nat_cmp-IsAntisymmetric q n (is_equal (slice_cmp nat_cmp q n) e)), λ e. subst (λ (m : List ℕ). is_eq (slice_cmp nat_cmp q m) ≡ true) (sym e) (ap is_eq (tied_itself nat_list_cmp_total q)))
    (bytes_eq-Decides n q)

at_slot : (q name : List ℕ) (entry : Entry) (k : ℕ) (image : List ℕ) (t : Bool) (rest : Option Entry) (rest' : Option ℕ) → entry ≡ entry_at image k → rest ≡ option_map (entry_at image) rest' → cond t (Some entry) rest ≡ option_map (entry_at image) (cond t (Some k) rest')
at_slot q name entry k image true rest rest' e h = ap Some e
at_slot q name entry k image false rest rest' e h = h

step : (q : List ℕ) (image : List ℕ) (k : ℕ) (ks : List ℕ) (e : Bool) → is_entry (row image k) ≡ e → map.find (slice_cmp nat_cmp) q (filter_map (named_entry image) ks) ≡ option_map (entry_at image) (find (λ (k : ℕ). has_name q (row image k)) ks) → map.find (slice_cmp nat_cmp) q (filter_map (named_entry image) (k ∷ ks)) ≡ option_map (entry_at image) (find (λ (k : ℕ). has_name q (row image k)) (k ∷ ks))
unfolding named_entry has_name
step q image k ks true e h = rw e (rw (tie-eq q (slot_name (row image k))) (at_slot q (slot_name (row image k)) (entry_at image k) k image (bytes_eq (slot_name (row image k)) q) _ _ refl h))
step q image k ks false e h = rw e h

mapped : (q : List ℕ) (image : List ℕ) (ks : List ℕ) → map.find (slice_cmp nat_cmp) q (filter_map (named_entry image) ks) ≡ option_map (entry_at image) (find (λ (k : ℕ). has_name q (row image k)) ks)
mapped q image [] = refl
mapped q image (k ∷ ks) = step q image k ks (is_entry (row image k)) refl (mapped q image ks)

pub get-catalogue : (image name : List ℕ) → get (catalogue image) name ≡ option_map (entry_at image) (slot_found image name)
unfolding catalogue slot_found
get-catalogue image name = get-from_entries nat_list_cmp_total (filter_map (named_entry image) (slots_of (index_of image))) name ∙ mapped name image (slots_of (index_of image))
