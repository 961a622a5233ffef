use Rattle.std.proofs.Common.{ap, ◌∙◌, take, true}
use Rattle.b2_base.specs.Lexical.{is_letter}
use Rattle.b2_rows.specs.declared.leaves.Name.{Name}
use Rattle.b2_rows.proofs.Letters.{alpha_letter}
use Rattle.b2_rows.specs.Values.{variable_name}
use Rattle.b2_rows.proofs.leaves.alpha_name.Goals as goal

pub returns-clause-letter : goal.returns-clause-letter
returns-clause-letter c =
    ap (λ (x : Name). is_letter x.letter) c.variable_name.ensures
    ∙ ap (λ w. is_letter (variable_name true w).letter) c.first_bytes.ensures
    ∙ ap (λ n. is_letter (variable_name true (take n c.args.text.now)).letter) c.alpha_name_width-width.ensures.count
    ∙ alpha_letter c.args.text.now c.requires
