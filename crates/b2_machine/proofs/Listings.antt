-- What is listed of a range without lines.
use Rattle.std.proofs.Common.{◌≡◌, ℕ, ◌<◌, Bool, false, cond, [], ◌∷◌, refl, sym, ap, ◌∙◌, arith, filter}
use Rattle.std.proofs.lemmas.Bool.Decides.{nat_tests}
use Rattle.b2_text.specs.Program.{Lines, is_within}
use Rattle.b2_machine.specs.Listed.{range_listed, each_listed}

nothing_within : (from to n : ℕ) → to < from → is_within from to n ≡ false
nothing_within from to n h = grind (arith, nat_tests)

none_kept : (from to : ℕ) (es : Lines) → to < from → filter (λ l. is_within from to l.0) es ≡ []
none_kept from to [] h = refl
none_kept from to (e ∷ es) h =
    ap (λ (b : Bool). cond b (e ∷ filter (λ l. is_within from to l.0) es) (filter (λ l. is_within from to l.0) es)) (nothing_within from to e.0 h)
    ∙ none_kept from to es h

-- where the last number is below the first, nothing is listed
pub nothing_listed : (from to : ℕ) (es : Lines) → to < from → [] ≡ range_listed (from, to) es
nothing_listed from to es h = sym (ap each_listed (none_kept from to es h))
