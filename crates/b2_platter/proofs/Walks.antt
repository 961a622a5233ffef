-- The steps of loops over each two of a range, and over the index sectors from one on.
use Rattle.std.proofs.Common.{◌≡◌, ℕ, ◌+◌, ◌-◌, ◌<◌, ◌≤◌, ◌%◌, Bool, true, false, ◌&&◌, ◌||◌, ◌==◌, not, List, [], ◌∷◌, map, sym, ap, ◌∙◌}
use Rattle.std.specs.List.{range_with_len, list_all}
use Rattle.b2_platter.specs.Image.{is_clear_to}
use Rattle.b2_platter.specs.Checks.{each_two}
use Rattle.b2_platter.proofs.Ranges.{range-step, range-end}

each_two_step : (r : ℕ → ℕ → Bool) (j n : ℕ) → j < n → each_two r (range_with_len j (n - j)) ≡ (list_all (r j) (range_with_len (j + 1) (n - (j + 1))) && each_two r (range_with_len (j + 1) (n - (j + 1))))
each_two_step r j n h = ap (each_two r) (range-step j n h)

pub two_more : (r : ℕ → ℕ → Bool) (j n : ℕ) (whole : Bool) → j < n → each_two r (range_with_len j (n - j)) ≡ whole → list_all (r j) (range_with_len (j + 1) (n - (j + 1))) ≡ true → each_two r (range_with_len (j + 1) (n - (j + 1))) ≡ whole
two_more r j n whole h was passes =
    ap (λ (b : Bool). b && each_two r (range_with_len (j + 1) (n - (j + 1)))) (sym passes) ∙ sym (each_two_step r j n h) ∙ was

pub two_over : (r : ℕ → ℕ → Bool) (j n : ℕ) (whole : Bool) → j < n → each_two r (range_with_len j (n - j)) ≡ whole → list_all (r j) (range_with_len (j + 1) (n - (j + 1))) ≡ false → false ≡ whole
two_over r j n whole h was fails =
    ap (λ (b : Bool). b && each_two r (range_with_len (j + 1) (n - (j + 1)))) (sym fails) ∙ sym (each_two_step r j n h) ∙ was

-- the sectors that are left, after j of them
pub cyclic_from-step : (first index j : ℕ) → j < index → map (λ (j : ℕ). (first + j) % index) (range_with_len j (index - j)) ≡ (first + j) % index ∷ map (λ (j : ℕ). (first + j) % index) (range_with_len (j + 1) (index - (j + 1)))
cyclic_from-step first index j h = ap (map (λ (j : ℕ). (first + j) % index)) (range-step j index h)

pub cyclic_from-end : (first index j : ℕ) → index ≤ j → map (λ (j : ℕ). (first + j) % index) (range_with_len j (index - j)) ≡ []
cyclic_from-end first index j h = ap (map (λ (j : ℕ). (first + j) % index)) (range-end j index h)

clear_own : (free : ℕ → Bool) (own s : ℕ) (rest : List ℕ) → (s == own) ≡ true → is_clear_to free own (s ∷ rest) ≡ true
clear_own free own s rest e = ap (λ (b : Bool). b || (not (free s) && is_clear_to free own rest)) e

clear_full : (free : ℕ → Bool) (own s : ℕ) (rest : List ℕ) → (s == own) ≡ false → free s ≡ false → is_clear_to free own (s ∷ rest) ≡ is_clear_to free own rest
clear_full free own s rest e f =
    ap (λ (b : Bool). b || (not (free s) && is_clear_to free own rest)) e ∙ ap (λ (b : Bool). not b && is_clear_to free own rest) f

clear_free : (free : ℕ → Bool) (own s : ℕ) (rest : List ℕ) → (s == own) ≡ false → free s ≡ true → is_clear_to free own (s ∷ rest) ≡ false
clear_free free own s rest e f =
    ap (λ (b : Bool). b || (not (free s) && is_clear_to free own rest)) e ∙ ap (λ (b : Bool). not b && is_clear_to free own rest) f

module _ (free : ℕ → Bool) (own first index j : ℕ) (whole : Bool) (h : j < index) (was : is_clear_to free own (map (λ (j : ℕ). (first + j) % index) (range_with_len j (index - j))) ≡ whole) where
  pub clear_found : ((first + j) % index == own) ≡ true → true ≡ whole
  clear_found e = sym (ap (is_clear_to free own) (cyclic_from-step first index j h) ∙ clear_own free own _ _ e) ∙ was

  pub clear_stopped : ((first + j) % index == own) ≡ false → free ((first + j) % index) ≡ true → false ≡ whole
  clear_stopped e f = sym (ap (is_clear_to free own) (cyclic_from-step first index j h) ∙ clear_free free own _ _ e f) ∙ was

  pub clear_more : ((first + j) % index == own) ≡ false → free ((first + j) % index) ≡ false → is_clear_to free own (map (λ (j : ℕ). (first + j) % index) (range_with_len (j + 1) (index - (j + 1)))) ≡ whole
  clear_more e f = sym (ap (is_clear_to free own) (cyclic_from-step first index j h) ∙ clear_full free own _ _ e f) ∙ was

pub clear_over : (free : ℕ → Bool) (own first index j : ℕ) (whole : Bool) → index ≤ j → is_clear_to free own (map (λ (j : ℕ). (first + j) % index) (range_with_len j (index - j))) ≡ whole → true ≡ whole
clear_over free own first index j whole h was = sym (ap (is_clear_to free own) (cyclic_from-end first index j h)) ∙ was
