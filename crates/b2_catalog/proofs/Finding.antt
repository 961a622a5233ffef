-- The steps of the loops that look a name up.
use Rattle.std.proofs.Common.{◌≡◌, ℕ, suc, ◌+◌, ◌-◌, ◌%◌, ◌<◌, Bool, true, false, ◌||◌, cond, List, ◌∷◌, map, Option, Some, None, sym, ap, ◌∙◌, arith}
use Rattle.std.specs.Prelude.{is_some}
use Rattle.std.specs.List.{range_with_len, find}
use Rattle.b2_platter.specs.Image.{has_free}
use Rattle.b2_platter.proofs.Ranges.{range-step}
use Rattle.b2_platter.proofs.Walks.{cyclic_from-step}
use Rattle.b2_catalog.specs.Ways.{slot_in, look_up_ends, found_along, count_up_to, place_along}

-- a search in a range goes on where a number fails, and ends where it passes
find_step : (p : ℕ → Bool) (k n : ℕ) → k < n → find p (range_with_len k (n - k)) ≡ cond (p k) (Some k) (find p (range_with_len (k + 1) (n - (k + 1))))
find_step p k n h = ap (find p) (range-step k n h)

pub find_more : (p : ℕ → Bool) (k n : ℕ) (whole : Option ℕ) → k < n → find p (range_with_len k (n - k)) ≡ whole → p k ≡ false → find p (range_with_len (k + 1) (n - (k + 1))) ≡ whole
find_more p k n whole h was fails =
    ap (λ (b : Bool). cond b (Some k) (find p (range_with_len (k + 1) (n - (k + 1))))) (sym fails) ∙ sym (find_step p k n h) ∙ was

module _ (image name : List ℕ) (s : ℕ) (rest : List ℕ) where
  pub found_here : is_some (slot_in image name s) ≡ true → found_along (slot_in image name) (has_free image) (s ∷ rest) ≡ slot_in image name s
  found_here e = ap (λ (b : Bool). cond b (slot_in image name s) (cond (has_free image s) None (found_along (slot_in image name) (has_free image) rest))) e

  pub found_none : is_some (slot_in image name s) ≡ false → has_free image s ≡ true → found_along (slot_in image name) (has_free image) (s ∷ rest) ≡ None
  found_none e f =
      ap (λ (b : Bool). cond b (slot_in image name s) (cond (has_free image s) None (found_along (slot_in image name) (has_free image) rest))) e
      ∙ ap (λ (b : Bool). cond b None (found_along (slot_in image name) (has_free image) rest)) f

  pub found_later : is_some (slot_in image name s) ≡ false → has_free image s ≡ false → found_along (slot_in image name) (has_free image) (s ∷ rest) ≡ found_along (slot_in image name) (has_free image) rest
  found_later e f =
      ap (λ (b : Bool). cond b (slot_in image name s) (cond (has_free image s) None (found_along (slot_in image name) (has_free image) rest))) e
      ∙ ap (λ (b : Bool). cond b None (found_along (slot_in image name) (has_free image) rest)) f

  pub count_here : is_some (slot_in image name s) ≡ true → count_up_to (look_up_ends image name) (s ∷ rest) ≡ 1
  unfolding look_up_ends
  count_here e = ap (λ (b : Bool). cond (b || has_free image s) 1 (suc (count_up_to (look_up_ends image name) rest))) e

  pub count_free : is_some (slot_in image name s) ≡ false → has_free image s ≡ true → count_up_to (look_up_ends image name) (s ∷ rest) ≡ 1
  unfolding look_up_ends
  count_free e f =
      ap (λ (b : Bool). cond (b || has_free image s) 1 (suc (count_up_to (look_up_ends image name) rest))) e
      ∙ ap (λ (b : Bool). cond b 1 (suc (count_up_to (look_up_ends image name) rest))) f

  pub count_later : is_some (slot_in image name s) ≡ false → has_free image s ≡ false → count_up_to (look_up_ends image name) (s ∷ rest) ≡ suc (count_up_to (look_up_ends image name) rest)
  unfolding look_up_ends
  count_later e f =
      ap (λ (b : Bool). cond (b || has_free image s) 1 (suc (count_up_to (look_up_ends image name) rest))) e
      ∙ ap (λ (b : Bool). cond b 1 (suc (count_up_to (look_up_ends image name) rest))) f

-- the invariant of the walk: what is found from here on, and how many steps are to come
pub record Walks (image name : List ℕ) (first index j steps : ℕ) (found : Option ℕ) (total : ℕ) : Type 0 where
  pub same : found_along (slot_in image name) (has_free image) (map (λ (j : ℕ). (first + j) % index) (range_with_len j (index - j))) ≡ found
  pub ticks : steps + count_up_to (look_up_ends image name) (map (λ (j : ℕ). (first + j) % index) (range_with_len j (index - j))) ≡ total

module _ (image name : List ℕ) (first index j steps : ℕ) (found : Option ℕ) (total : ℕ) (h : j < index) (was : Walks image name first index j steps found total) where
  pub walk_here : is_some (slot_in image name ((first + j) % index)) ≡ true → steps + 1 ≡ total
  walk_here e = ap (λ (n : ℕ). steps + n) (sym (ap (count_up_to (look_up_ends image name)) (cyclic_from-step first index j h) ∙ count_here image name _ _ e)) ∙ was.ticks

  pub walk_free : is_some (slot_in image name ((first + j) % index)) ≡ false → has_free image ((first + j) % index) ≡ true → steps + 1 ≡ total
  walk_free e f = ap (λ (n : ℕ). steps + n) (sym (ap (count_up_to (look_up_ends image name)) (cyclic_from-step first index j h) ∙ count_free image name _ _ e f)) ∙ was.ticks

  pub hit_here : is_some (slot_in image name ((first + j) % index)) ≡ true → slot_in image name ((first + j) % index) ≡ found
  hit_here e = sym (ap (found_along (slot_in image name) (has_free image)) (cyclic_from-step first index j h) ∙ found_here image name _ _ e) ∙ was.same

  pub hit_free : is_some (slot_in image name ((first + j) % index)) ≡ false → has_free image ((first + j) % index) ≡ true → None ≡ found
  hit_free e f = sym (ap (found_along (slot_in image name) (has_free image)) (cyclic_from-step first index j h) ∙ found_none image name _ _ e f) ∙ was.same

  pub walk_more : is_some (slot_in image name ((first + j) % index)) ≡ false → has_free image ((first + j) % index) ≡ false → Walks image name first index (j + 1) (steps + 1) found total
  walk_more e f =
      let on = ap (count_up_to (look_up_ends image name)) (cyclic_from-step first index j h) ∙ count_later image name _ _ e f in
      record {
        same = sym (ap (found_along (slot_in image name) (has_free image)) (cyclic_from-step first index j h) ∙ found_later image name _ _ e f) ∙ was.same;
        ticks = omega (arith, on, was.ticks);
      }

-- the steps of the loop that looks for a free slot
module _ (lowest : ℕ → Option ℕ) (first index j : ℕ) (whole : Option ℕ) (h : j < index) (was : place_along lowest (map (λ (j : ℕ). (first + j) % index) (range_with_len j (index - j))) ≡ whole) where
  pub place_here : is_some (lowest ((first + j) % index)) ≡ true → lowest ((first + j) % index) ≡ whole
  place_here e =
      sym (ap (place_along lowest) (cyclic_from-step first index j h) ∙ ap (λ (b : Bool). cond b (lowest ((first + j) % index)) (place_along lowest (map (λ (j : ℕ). (first + j) % index) (range_with_len (j + 1) (index - (j + 1)))))) e) ∙ was

  pub place_more : is_some (lowest ((first + j) % index)) ≡ false → place_along lowest (map (λ (j : ℕ). (first + j) % index) (range_with_len (j + 1) (index - (j + 1)))) ≡ whole
  place_more e =
      sym (ap (place_along lowest) (cyclic_from-step first index j h) ∙ ap (λ (b : Bool). cond b (lowest ((first + j) % index)) (place_along lowest (map (λ (j : ℕ). (first + j) % index) (range_with_len (j + 1) (index - (j + 1)))))) e) ∙ was
