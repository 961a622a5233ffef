-- The place of a number in an index, found by halves.
use Rattle.std.proofs.Common.{◌≡◌, ℕ, ◌+◌, ◌<◌, ◌≤◌, List, length, get_or, ap, ◌∙◌, inl, inr, arith}
use Rattle.std.proofs.lemmas.Bool.{cases_order}
use Rattle.std.proofs.lemmas.List.{get_or_default}
use Rattle.b2_text.specs.Blocks.{Between, IsAscending, IsPlaceOf, no_place, number_at}
use Rattle.b2_text.specs.declared.block.LinePlace.{LinePlace}

pub lower : (n low high middle : ℕ) (places : List LinePlace) → IsAscending places → Between n low high places → low ≤ middle → middle < high → number_at places middle < n → Between n (middle + 1) high places
lower n low high middle places ordered b l h less = record {
  order = omega (arith, h);
  within = b.within;
  below = λ k k_low. elim (cases_order k middle) [
    | inl at ↦ omega (arith, ap (λ (i : ℕ). number_at places i) at, less)
    | inr unequal ↦ elim unequal [
      | inl before ↦ (let o = ordered k middle before (omega (arith, h, b.within)) in omega (arith, o, less))
      | inr after ↦ absurd (omega (arith, k_low, after))
    ]
  ];
  above = b.above;
}

pub upper : (n low high middle : ℕ) (places : List LinePlace) → IsAscending places → Between n low high places → low ≤ middle → middle < high → n ≤ number_at places middle → Between n low middle places
upper n low high middle places ordered b l h more = record {
  order = l;
  within = omega (arith, h, b.within);
  below = b.below;
  above = λ k m k_in. elim (cases_order middle k) [
    | inl at ↦ omega (arith, ap (λ (i : ℕ). number_at places i) at, more)
    | inr unequal ↦ elim unequal [
      | inl before ↦ (let o = ordered middle k before k_in in omega (arith, o, more))
      | inr after ↦ absurd (omega (arith, m, after))
    ]
  ];
}

pub found : (n low high : ℕ) (places : List LinePlace) → Between n low high places → high ≤ low → IsPlaceOf n places low
found n low high places b end = record {
  within = omega (arith, b.order, b.within);
  below = b.below;
  above = λ k m k_in. b.above k (omega (arith, end, m)) k_in;
}

-- a place that is read
pub place_read : (places : List LinePlace) (i : ℕ) (x : LinePlace) → i < length places → x ≡ get_or places i x → x ≡ get_or places i no_place
place_read places i x l e = e ∙ get_or_default places i x no_place l
