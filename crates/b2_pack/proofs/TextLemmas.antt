-- The text of a number inside its printed form.
use Rattle.std.proofs.Common.{◌≡◌, ℕ, ◌-◌, Bool, true, false, List, [], ◌∷◌, ◌++◌, length, take, drop, sym, ap, ◌∙◌, arith, length-append, if◌then◌else◌}
use Rattle.std.proofs.Math.Seq.{take-append_seam}
use Rattle.b2_dec.specs.Number.{Number}
use Rattle.b2_dectext.specs.Printed.{printed, without_spaces}
use Rattle.b2_dectext.proofs.ReadBack.{printed-spaces}

cut_last : (xs : List ℕ) (b : ℕ) → take (length (xs ++ b ∷ []) - 1) (xs ++ b ∷ []) ≡ xs
cut_last xs b = ap (λ n. take n (xs ++ b ∷ [])) (let e : length (xs ++ b ∷ []) - 1 ≡ length xs = omega (arith, length-append xs (b ∷ [])) in e) ∙ take-append_seam xs (b ∷ [])

inside : (neg : Bool) (text shown : List ℕ) → shown ≡ (if neg then [] else 32 ∷ []) ++ text ++ (32 ∷ []) → take (length shown - 1) shown ≡ (if neg then [] else 32 ∷ []) ++ text
inside neg text shown e = ap (λ s. take (length s - 1) s) e ∙ cut_last ((if neg then [] else 32 ∷ []) ++ text) 32

pub inside-minus : (x : Number) (shown : List ℕ) → true ≡ x.neg → shown ≡ printed x → take (length shown - 1) shown ≡ without_spaces x
inside-minus x shown neg e = inside x.neg (without_spaces x) shown (e ∙ printed-spaces x) ∙ ap (λ n. (if n then [] else 32 ∷ []) ++ without_spaces x) (sym neg)

pub inside-plus : (x : Number) (shown : List ℕ) → false ≡ x.neg → shown ≡ printed x → drop 1 (take (length shown - 1) shown) ≡ without_spaces x
inside-plus x shown neg e = ap (drop 1) (inside x.neg (without_spaces x) shown (e ∙ printed-spaces x) ∙ ap (λ n. (if n then [] else 32 ∷ []) ++ without_spaces x) (sym neg))
