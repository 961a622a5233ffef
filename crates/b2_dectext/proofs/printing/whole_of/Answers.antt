use Rattle.std.proofs.Common.{◌≡◌, ◌-◌, sym, refl, subst}
use Rattle.b2_dectext.specs.Digits.{digit_bytes}
use Rattle.b2_dectext.specs.Printed.{with_point}
use Rattle.b2_dectext.proofs.LastZeros.{whole-shown}
use Rattle.b2_dectext.proofs.printing.whole_of.Goals as goal

pub returns-in-99-clause-digits : goal.returns-in-99-clause-digits
returns-in-99-clause-digits c small =
    subst (λ p. digit_bytes (p - 98) c.whole_in.result ≡ with_point (p - 98) (digit_bytes 13 c.args.coef)) (sym c.in-99.is)
    (whole-shown 1 12 c.args.coef c.whole_in.result refl (c.whole_in.ensures.exact small) (c.whole_in.ensures.value small))

pub returns-in-100-clause-digits : goal.returns-in-100-clause-digits
returns-in-100-clause-digits c small =
    subst (λ p. digit_bytes (p - 98) c.whole_in-in-100.result ≡ with_point (p - 98) (digit_bytes 13 c.args.coef)) (sym c.in-100.is)
    (whole-shown 2 11 c.args.coef c.whole_in-in-100.result refl (c.whole_in-in-100.ensures.exact small) (c.whole_in-in-100.ensures.value small))

pub returns-in-101-clause-digits : goal.returns-in-101-clause-digits
returns-in-101-clause-digits c small =
    subst (λ p. digit_bytes (p - 98) c.whole_in-in-101.result ≡ with_point (p - 98) (digit_bytes 13 c.args.coef)) (sym c.in-101.is)
    (whole-shown 3 10 c.args.coef c.whole_in-in-101.result refl (c.whole_in-in-101.ensures.exact small) (c.whole_in-in-101.ensures.value small))

pub returns-in-102-clause-digits : goal.returns-in-102-clause-digits
returns-in-102-clause-digits c small =
    subst (λ p. digit_bytes (p - 98) c.whole_in-in-102.result ≡ with_point (p - 98) (digit_bytes 13 c.args.coef)) (sym c.in-102.is)
    (whole-shown 4 9 c.args.coef c.whole_in-in-102.result refl (c.whole_in-in-102.ensures.exact small) (c.whole_in-in-102.ensures.value small))

pub returns-in-103-clause-digits : goal.returns-in-103-clause-digits
returns-in-103-clause-digits c small =
    subst (λ p. digit_bytes (p - 98) c.whole_in-in-103.result ≡ with_point (p - 98) (digit_bytes 13 c.args.coef)) (sym c.in-103.is)
    (whole-shown 5 8 c.args.coef c.whole_in-in-103.result refl (c.whole_in-in-103.ensures.exact small) (c.whole_in-in-103.ensures.value small))

pub returns-in-104-clause-digits : goal.returns-in-104-clause-digits
returns-in-104-clause-digits c small =
    subst (λ p. digit_bytes (p - 98) c.whole_in-in-104.result ≡ with_point (p - 98) (digit_bytes 13 c.args.coef)) (sym c.in-104.is)
    (whole-shown 6 7 c.args.coef c.whole_in-in-104.result refl (c.whole_in-in-104.ensures.exact small) (c.whole_in-in-104.ensures.value small))

pub returns-in-105-clause-digits : goal.returns-in-105-clause-digits
returns-in-105-clause-digits c small =
    subst (λ p. digit_bytes (p - 98) c.whole_in-in-105.result ≡ with_point (p - 98) (digit_bytes 13 c.args.coef)) (sym c.in-105.is)
    (whole-shown 7 6 c.args.coef c.whole_in-in-105.result refl (c.whole_in-in-105.ensures.exact small) (c.whole_in-in-105.ensures.value small))

pub returns-in-106-clause-digits : goal.returns-in-106-clause-digits
returns-in-106-clause-digits c small =
    subst (λ p. digit_bytes (p - 98) c.whole_in-in-106.result ≡ with_point (p - 98) (digit_bytes 13 c.args.coef)) (sym c.in-106.is)
    (whole-shown 8 5 c.args.coef c.whole_in-in-106.result refl (c.whole_in-in-106.ensures.exact small) (c.whole_in-in-106.ensures.value small))

pub returns-in-107-clause-digits : goal.returns-in-107-clause-digits
returns-in-107-clause-digits c small =
    subst (λ p. digit_bytes (p - 98) c.whole_in-in-107.result ≡ with_point (p - 98) (digit_bytes 13 c.args.coef)) (sym c.in-107.is)
    (whole-shown 9 4 c.args.coef c.whole_in-in-107.result refl (c.whole_in-in-107.ensures.exact small) (c.whole_in-in-107.ensures.value small))
