-- Decimal sums and differences are sums and differences modulo a power of 100.
use Rattle.std.proofs.Common.{◌≡◌, ℕ, ◌+◌, ◌%◌, ◌^◌, List, length, map, sym, ap, ◌∙◌, arith}
use Rattle.std.proofs.lemmas.List.{length-map}
use Rattle.b2_alpha.specs.Places.{number_in_base}
use Rattle.b2_base.specs.Lexical.{decimal_of}
use Rattle.b2_alpha.specs.Sums.{aligned, sum_in, difference_in, decimal_value, decimal_sum, decimal_difference}
use Rattle.b2_alpha.proofs.PlaceValues.{AllBelow, digits_below}
use Rattle.b2_alpha.proofs.Decimals.{AllDecimal, decimals_back, decimals_aligned, decimals_below}
use Rattle.b2_alpha.proofs.Modular.{number_in_base-sum_in, number_in_base-difference_in_aligned}

pub decimal_value-sum : (xs ys : List ℕ) → decimal_value (decimal_sum xs ys) ≡ (decimal_value xs + decimal_value ys) % 100 ^ length xs
decimal_value-sum xs ys =
    let places : length (map decimal_of xs) ≡ length xs = length-map xs decimal_of in
    ap (number_in_base 100) (decimals_back (sum_in 100 (map decimal_of xs) (map decimal_of (aligned (length xs) ys))) (digits_below 100 (length (map decimal_of xs)) _ (omega arith)))
    ∙ ap (λ l. number_in_base 100 (sum_in 100 (map decimal_of xs) l)) (decimals_aligned (length xs) ys ∙ ap (λ n. aligned n (map decimal_of ys)) (sym places))
    ∙ number_in_base-sum_in 100 (map decimal_of xs) (map decimal_of ys) (omega arith)
    ∙ ap (λ n. (decimal_value xs + decimal_value ys) % 100 ^ n) places

pub decimal_value-difference : (xs ys : List ℕ) → AllDecimal (aligned (length xs) ys) → (decimal_value (decimal_difference xs ys) + decimal_value ys) % 100 ^ length xs ≡ decimal_value xs % 100 ^ length xs
decimal_value-difference xs ys all =
    let places : length (map decimal_of xs) ≡ length xs = length-map xs decimal_of in
    let under : map decimal_of (aligned (length xs) ys) ≡ aligned (length (map decimal_of xs)) (map decimal_of ys) = decimals_aligned (length xs) ys ∙ ap (λ n. aligned n (map decimal_of ys)) (sym places) in
    let below : AllBelow 100 (aligned (length (map decimal_of xs)) (map decimal_of ys)) = rw (sym under) (decimals_below (aligned (length xs) ys) all) in
    ap (λ l. (number_in_base 100 l + decimal_value ys) % 100 ^ length xs) (decimals_back (difference_in 100 (map decimal_of xs) (map decimal_of (aligned (length xs) ys))) (digits_below 100 (length (map decimal_of xs)) _ (omega arith)))
    ∙ ap (λ l. (number_in_base 100 (difference_in 100 (map decimal_of xs) l) + decimal_value ys) % 100 ^ length xs) under
    ∙ ap (λ n. (number_in_base 100 (difference_in 100 (map decimal_of xs) (aligned (length (map decimal_of xs)) (map decimal_of ys))) + decimal_value ys) % 100 ^ n) (sym places)
    ∙ number_in_base-difference_in_aligned 100 (map decimal_of xs) (map decimal_of ys) (omega arith) below
    ∙ ap (λ n. decimal_value xs % 100 ^ n) places
