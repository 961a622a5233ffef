use Rattle.std.proofs.Common.{ℕ, List, ◌∷◌, ap, sym, ◌∙◌}
use Rattle.std.specs.Option.{option_copied}
use Rattle.b2_base.specs.Pieces.{pieces_after}
use Rattle.b2_boot.specs.LogLines.{text_lines}
use Rattle.b2_boot.proofs.Lines.{line_ended, last_line}
use Rattle.b2_boot.proofs.log_lines.first_line.Goals as goal

pub returns-in-Some-clause-lines : goal.returns-in-Some-clause-lines
returns-in-Some-clause-lines c =
    line_ended c.args.text.now c.cut.result.0.now c.in-Some.following.now
    (c.cut.ensures.pieces ∙ ap (λ o. c.cut.result.0.now ∷ pieces_after 10 (option_copied o)) c.in-Some.is)
    ∙ ap (λ (line : List ℕ). line ∷ text_lines c.in-Some.following.now) (sym c.without_return.ensures)

pub returns-in-None-clause-lines : goal.returns-in-None-clause-lines
returns-in-None-clause-lines c =
    last_line c.args.text.now c.cut.result.0.now
    (c.cut.ensures.pieces ∙ ap (λ o. c.cut.result.0.now ∷ pieces_after 10 (option_copied o)) c.in-None.is)
