use Rattle.std.proofs.Common.{◌≡◌, ℕ, ◌<◌, ◌≤◌, List, [], ◌∷◌, length, None, refl, arith}
use Rattle.std.specs.Global.{Vec}
use Rattle.std.proofs.lemmas.Bool.{ltb-false, ltb-true}
use Rattle.b2_mvp.specs.Top.{command_of, texts}
use Rattle.b2_mvp.proofs.top.read_command.Goals as goal
use Rattle.b2_mvp.proofs.top.read_command.Goals.{in_default-via-then-words-lt2, in_default-via-else-words-lt2+else-words-lt3+else-words-lt4+else-words-lt5+else-words-lt6}

-- fewer than two words, and more than five, are no command
few_words : (words : List (Vec ℕ)) → length words < 2 → None ≡ command_of (texts words)
few_words [] few = refl
few_words (a ∷ []) few = refl
few_words (a ∷ b ∷ more) few = absurd (omega arith)

many_words : (words : List (Vec ℕ)) → 6 ≤ length words → None ≡ command_of (texts words)
many_words [] many = absurd (omega arith)
many_words (a ∷ []) many = absurd (omega arith)
many_words (a ∷ b ∷ []) many = absurd (omega arith)
many_words (a ∷ b ∷ c ∷ []) many = absurd (omega arith)
many_words (a ∷ b ∷ c ∷ d ∷ []) many = absurd (omega arith)
many_words (a ∷ b ∷ c ∷ d ∷ e ∷ []) many = absurd (omega arith)
many_words (a ∷ b ∷ c ∷ d ∷ e ∷ f ∷ more) many = refl

pub returns-in_default-clause-value : goal.returns-in_default-clause-value
returns-in_default-clause-value c =
    elim c.in_default.branch [
      | in_default-via-then-words-lt2 w ↦ few_words c.args.words.now (ltb-true (length c.args.words.now) 2 w.if-words-lt2-1.true)
      | in_default-via-else-words-lt2+else-words-lt3+else-words-lt4+else-words-lt5+else-words-lt6 w ↦ many_words c.args.words.now (ltb-false (length c.args.words.now) 6 w.if-words-lt6-1.false)
    ]
