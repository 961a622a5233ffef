-- How many of two index sectors the look-up of a name that isn't there reads.
use Rattle.std.proofs.Common.{◌≡◌, ℕ, suc, ◌+◌, ◌%◌, ◌<◌, Bool, true, false, cond, List, [], ◌∷◌, Option, Some, None, refl, sym, ap, ◌∙◌, arith}
use Rattle.std.specs.Prelude.{is_some, sum}
use Rattle.std.specs.Option.{option_map}
use Rattle.std.specs.FinMap.{get}
use Rattle.b2_platter.specs.Image.{index_of, has_free, hash, cyclic_from}
use Rattle.b2_platter.specs.Checks.{IsGood}
use Rattle.b2_catalog.specs.Catalogue.{catalogue, entry_at}
use Rattle.b2_catalog.specs.Ways.{slot_in, look_up_ends, way_of, count_up_to, way, slot_found}
use Rattle.b2_catalog.proofs.Finding.{count_here, count_free, count_later}
use Rattle.b2_catalog.proofs.Looking.{absent}
use Rattle.b2_catalog.proofs.Mapping.{get-catalogue}

below_two : (n : ℕ) → n % 2 < 2
below_two n = omega arith

same_place : (n : ℕ) → n < 2 → (n + 0) % 2 ≡ n
same_place n h = omega arith

around_two : (n : ℕ) → n < 2 → cyclic_from 2 n ≡ n ∷ (n + 1) % 2 ∷ []
around_two n h = ap (λ (k : ℕ). k ∷ (n + 1) % 2 ∷ []) (same_place n h)

last_one : (b : Bool) → cond b 1 (suc 0) ≡ 1
last_one true = refl
last_one false = refl

none_of : {A B : Type 0} (f : A → B) (o : Option A) → option_map f o ≡ None → o ≡ None
none_of f None h = refl
none_of f (Some x) h = cc

pub none_from : {A : Type 0} (o : Option A) → is_some o ≡ false → o ≡ None
none_from None h = refl
none_from (Some x) h = cc

module _ (image name : List ℕ) where
  one_by : (s : ℕ) (rest : List ℕ) (b : Bool) → is_some (slot_in image name s) ≡ b → has_free image s ≡ true → count_up_to (look_up_ends image name) (s ∷ rest) ≡ 1
  one_by s rest true e f = count_here image name s rest e
  one_by s rest false e f = count_free image name s rest e f

  both : (s other : ℕ) → slot_in image name s ≡ None → has_free image s ≡ false → count_up_to (look_up_ends image name) (s ∷ other ∷ []) ≡ 2
  both s other none full =
      count_later image name s (other ∷ []) (ap is_some none) full ∙ ap suc (last_one (look_up_ends image name other))

  module _ (two : index_of image ≡ 2) where
    two_on_way : way_of image name ≡ hash 2 name ∷ (hash 2 name + 1) % 2 ∷ []
    two_on_way = ap (λ (n : ℕ). cyclic_from n (hash n name)) two ∙ around_two (hash 2 name) (below_two (sum name))

    pub reads_one : has_free image (hash 2 name) ≡ true → way image name ≡ 1
    reads_one free = ap (count_up_to (look_up_ends image name)) two_on_way ∙ one_by (hash 2 name) ((hash 2 name + 1) % 2 ∷ []) (is_some (slot_in image name (hash 2 name))) refl free

    pub reads_both : IsGood image → get (catalogue image) name ≡ None → has_free image (hash 2 name) ≡ false → way image name ≡ 2
    reads_both good none full =
        let no_slot : slot_found image name ≡ None = none_of (entry_at image) (slot_found image name) (sym (get-catalogue image name) ∙ none) in
        let low : hash 2 name < 2 = below_two (sum name) in
        let within : hash 2 name < index_of image = omega (arith, low, two) in
        ap (count_up_to (look_up_ends image name)) two_on_way ∙ both (hash 2 name) ((hash 2 name + 1) % 2) (absent image good name no_slot (hash 2 name) within) full
