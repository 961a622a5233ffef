use Rattle.std.proofs.Common.{◌∙◌, sym, subst}
use Rattle.b2_progfile.specs.Programs.{IsProgramText}
use Rattle.b2_platter.proofs.Reading.{unspelled-mapped}
use Rattle.b2_progfile.proofs.reading.read_program.Goals as goal

pub returns-clause-err : goal.returns-clause-err
returns-clause-err c =
    unspelled-mapped c.lines_of.result (λ none lines is. none lines (subst (IsProgramText lines) (sym (c.deref.ensures.value ∙ c.in-Ok.ensures.bytes)) is.text)) c.lines_of.ensures.err
