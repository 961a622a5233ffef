-- Names as keys: derived equality is the order's, the order is total, and names that tie are one.
use Rattle.std.proofs.Common.{◌≡◌, ℕ, Bool, true, false, ◌&&◌, Option, Some, None, nat_eq, refl, ap, ◌∙◌, true≢false}
use Rattle.std.specs.Option.{option_eq, option_cmp}
use Rattle.std.specs.Ordering.{nat_cmp, bool_cmp, is_eq, is_lt, is_gt, eq_by_cmp, ordering_then}
use Rattle.std.specs.Cmp.{IsTotalOrder, nat_cmp_total, bool_cmp_total, unsigned_ties, tied_then}
use Rattle.std.specs.Cmp.Lexicographic.{options_total}
use Rattle.std.proofs.lemmas.Cmp.{then_total, on_total}
use Rattle.std.proofs.lemmas.Map.Lookups.{CmpEqualImpliesEq, exact_unsigned, exact_pairs}
use mathlib.Core.Bool.{beq}
use Rattle.b2_vars.specs.declared.name.Var.{Var}
use Rattle.b2_vars.specs.Names.{var_cmp}
use Rattle.b2_vars.specs.contracts.name.VarPartialEq.TheImpl.{eq-value}

abbrev pub same : Var → Var → Bool
same a b = eq-value.it a b

digits_tied : (x y : Option ℕ) → option_eq nat_eq x y ≡ is_eq (option_cmp nat_cmp x y)
digits_tied None None = refl
digits_tied None (Some y) = refl
digits_tied (Some x) None = refl
digits_tied (Some x) (Some y) = unsigned_ties x y

bools_tied : (x y : Bool) → beq x y ≡ is_eq (bool_cmp x y)
bools_tied false false = refl
bools_tied false true = refl
bools_tied true false = refl
bools_tied true true = refl

-- `==` of names is a tie in the order
pub tied : (a b : Var) → same a b ≡ eq_by_cmp var_cmp a b
tied a b =
    let letters = nat_cmp a.letter b.letter in
    let digits = option_cmp nat_cmp a.digit b.digit in
    let kinds = bool_cmp a.alpha b.alpha in
    let arrays = bool_cmp a.array b.array in
    (λ i. unsigned_ties a.letter b.letter i && (digits_tied a.digit b.digit i && (bools_tied a.alpha b.alpha i && bools_tied a.array b.array i)))
    ∙ ap (λ r. is_eq letters && (is_eq digits && r)) (tied_then kinds arrays)
    ∙ ap (λ r. is_eq letters && r) (tied_then digits (ordering_then kinds arrays))
    ∙ tied_then letters (ordering_then digits (ordering_then kinds arrays))

pub names_total : IsTotalOrder var_cmp
names_total =
    then_total (on_total (λ (v : Var). v.letter) nat_cmp_total)
    (then_total (on_total (λ (v : Var). v.digit) (options_total nat_cmp_total))
    (then_total (on_total (λ (v : Var). v.alpha) bool_cmp_total) (on_total (λ (v : Var). v.array) bool_cmp_total)))

digits_exact : CmpEqualImpliesEq (option_cmp nat_cmp)
digits_exact None None e = refl
digits_exact None (Some y) e = absurd (true≢false (ap is_lt e))
digits_exact (Some x) None e = absurd (true≢false (ap is_gt e))
digits_exact (Some x) (Some y) e = ap Some (exact_unsigned x y e)

bools_exact : CmpEqualImpliesEq bool_cmp
bools_exact false false e = refl
bools_exact false true e = absurd (true≢false (ap is_lt e))
bools_exact true false e = absurd (true≢false (ap is_gt e))
bools_exact true true e = refl

-- names that tie are one
pub names_exact : CmpEqualImpliesEq var_cmp
names_exact a b h =
    ap (λ (p : ℕ × (Option ℕ × (Bool × Bool))). record { letter = p.0; digit = p.1.0; alpha = p.1.1.0; array = p.1.1.1 })
    (exact_pairs nat_cmp _ exact_unsigned (exact_pairs (option_cmp nat_cmp) _ digits_exact (exact_pairs bool_cmp bool_cmp bools_exact bools_exact))
    (a.letter, (a.digit, (a.alpha, a.array))) (b.letter, (b.digit, (b.alpha, b.array))) h)
