use Rattle.std.proofs.Common.{sym, subst, ◌∙◌}
use Rattle.b2_dectext.specs.NumberText.{number_value}
use Rattle.b2_dectext.specs.Grammar.{IsLongest}
use Rattle.b2_dectext.proofs.Longest.{longest-read}
use Rattle.b2_dectext.proofs.reading.read.Goals as goal

pub returns-then-number-eq0-clause-longest : goal.returns-then-number-eq0-clause-longest
returns-then-number-eq0-clause-longest c =
    let text = c.args.text.now in
    subst (λ n. IsLongest text n (number_value text)) (sym c.spelling-number.ensures.len ∙ c.if-number-eq0.true) (longest-read text)

pub returns-clause-longest : goal.returns-clause-longest
returns-clause-longest c =
    let text = c.args.text.now in
    subst (λ n. IsLongest text n (number_value text)) (sym c.spelling-number.ensures.len) (longest-read text)
