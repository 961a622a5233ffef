-- The first code of several.
use Rattle.std.proofs.Common.{◌≡◌, ℕ, List, [], ◌∷◌, ◌++◌, refl, ◌∙◌, Option, None, Some, ap, true≢false, is_some}
use Rattle.b2_vars.specs.Answers.{first_of}

-- where the first codes don't come, the first of the others is the first of all
first_of-none : (xs ys : List (Option ℕ)) → first_of xs ≡ None → first_of (xs ++ ys) ≡ first_of ys
first_of-none [] ys e = refl
first_of-none (None ∷ xs) ys e = first_of-none xs ys e
first_of-none (Some c ∷ xs) ys e = absurd (true≢false (ap is_some e))

alone : (code : Option ℕ) → first_of (code ∷ []) ≡ code
alone None = refl
alone (Some c) = refl

pub third : (a b c : Option ℕ) → first_of (a ∷ b ∷ []) ≡ None → first_of (a ∷ b ∷ c ∷ []) ≡ c
third a b c e = first_of-none (a ∷ b ∷ []) (c ∷ []) e ∙ alone c

pub fourth : (a b c d : Option ℕ) → first_of (a ∷ b ∷ []) ≡ None → c ≡ None → first_of (a ∷ b ∷ c ∷ d ∷ []) ≡ d
fourth a b c d e f = first_of-none (a ∷ b ∷ []) (c ∷ d ∷ []) e ∙ ap (λ o. first_of (o ∷ d ∷ [])) f ∙ alone d

pub fifth : (a b c d e : Option ℕ) → first_of (a ∷ b ∷ []) ≡ None → c ≡ None → d ≡ None → first_of (a ∷ b ∷ c ∷ d ∷ e ∷ []) ≡ e
fifth a b c d e f g h = first_of-none (a ∷ b ∷ []) (c ∷ d ∷ e ∷ []) f ∙ ap (λ o. first_of (o ∷ d ∷ e ∷ [])) g ∙ ap (λ o. first_of (o ∷ e ∷ [])) h ∙ alone e
