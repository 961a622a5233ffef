-- Hexadecimal digits are read back.
use Rattle.std.proofs.Common.{◌≡◌, ℕ, ◌<◌, true, nat_eq, get_or, refl, ◌∙◌, arith}
use Rattle.std.specs.List.{list_all, range_with_len}
use Rattle.std.proofs.lemmas.Bool.{eqb-true}
use Rattle.std.proofs.lemmas.List.FromFn.{get_or-range_with_len}
use Rattle.b2_base.specs.Lexical.{hex_value, hex_digit}
use Rattle.b2_alpha.proofs.Decimals.{each_passes}

pub hex_value-hex_digit : (d : ℕ) → d < 16 → hex_value (hex_digit d) ≡ d
hex_value-hex_digit d small =
    let all : list_all (λ d. nat_eq (hex_value (hex_digit d)) d) (range_with_len 0 16) ≡ true = refl in
    let at : get_or (range_with_len 0 16) d 0 ≡ d = get_or-range_with_len 0 16 d 0 small ∙ omega arith in
    let here : nat_eq (hex_value (hex_digit d)) d ≡ true = rw at at (each_passes (λ d. nat_eq (hex_value (hex_digit d)) d) (range_with_len 0 16) d small all) in
    eqb-true (hex_value (hex_digit d)) d here
