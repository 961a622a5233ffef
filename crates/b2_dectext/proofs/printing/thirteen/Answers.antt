use Rattle.std.proofs.Common.{◌≡◌, ◌+◌, refl, ap, ◌∙◌}
use Rattle.b2_dectext.specs.Digits.{digit_byte, digit_bytes}
use Rattle.b2_dectext.proofs.Halves.{back_0, back_1, back_2, back_3, back_4, back_5, front_0, front_1, front_2, front_3, front_4, front_5, front_6}
use Rattle.b2_dectext.proofs.printing.thirteen.Goals as goal

pub returns : goal.returns
unfolding digit_bytes
returns c =
    let n = c.args.coef in
    let d12 : c.short_digit.result ≡ digit_byte 12 n = c.short_digit.ensures ∙ ap (λ d. 48 + d) (front_6 n) in
    let d11 : c.short_digit-2.result ≡ digit_byte 11 n = c.short_digit-2.ensures ∙ ap (λ d. 48 + d) (front_5 n) in
    let d10 : c.short_digit-3.result ≡ digit_byte 10 n = c.short_digit-3.ensures ∙ ap (λ d. 48 + d) (front_4 n) in
    let d9 : c.short_digit-4.result ≡ digit_byte 9 n = c.short_digit-4.ensures ∙ ap (λ d. 48 + d) (front_3 n) in
    let d8 : c.short_digit-5.result ≡ digit_byte 8 n = c.short_digit-5.ensures ∙ ap (λ d. 48 + d) (front_2 n) in
    let d7 : c.short_digit-6.result ≡ digit_byte 7 n = c.short_digit-6.ensures ∙ ap (λ d. 48 + d) (front_1 n) in
    let d6 : c.short_digit-7.result ≡ digit_byte 6 n = c.short_digit-7.ensures ∙ ap (λ d. 48 + d) (front_0 n) in
    let d5 : c.short_digit-8.result ≡ digit_byte 5 n = c.short_digit-8.ensures ∙ ap (λ d. 48 + d) (back_5 n) in
    let d4 : c.short_digit-9.result ≡ digit_byte 4 n = c.short_digit-9.ensures ∙ ap (λ d. 48 + d) (back_4 n) in
    let d3 : c.short_digit-10.result ≡ digit_byte 3 n = c.short_digit-10.ensures ∙ ap (λ d. 48 + d) (back_3 n) in
    let d2 : c.short_digit-11.result ≡ digit_byte 2 n = c.short_digit-11.ensures ∙ ap (λ d. 48 + d) (back_2 n) in
    let d1 : c.short_digit-12.result ≡ digit_byte 1 n = c.short_digit-12.ensures ∙ ap (λ d. 48 + d) (back_1 n) in
    let d0 : c.short_digit-13.result ≡ digit_byte 0 n = c.short_digit-13.ensures ∙ ap (λ d. 48 + d) (back_0 n) in
    rw (d12, d11, d10, d9, d8, d7, d6, d5, d4, d3, d2, d1, d0) refl
