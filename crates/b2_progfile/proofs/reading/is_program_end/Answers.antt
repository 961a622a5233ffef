use Rattle.std.proofs.Common.{◌≡◌, ◌∙◌, ◌<◌, true, false, drop, length, get_or, sym, arith}
use Rattle.std.specs.List.{list_all}
use Rattle.std.proofs.lemmas.Bool.{false≢true}
use Rattle.b2_platter.specs.Layout.{is_zero}
use Rattle.b2_progfile.proofs.Parsing.{end-is, end-zeros, first-get}
use Rattle.b2_progfile.proofs.reading.is_program_end.Goals as goal

pub returns-clause-yes : goal.returns-clause-yes
returns-clause-yes c = λ e.
    let begins : get_or c.args.bytes.now 0 0 ≡ 255 = sym (first-get c.args.bytes.now) ∙ c.requires in
    let second : get_or c.args.bytes.now 1 0 ≡ 255 = cc in
    let short : length c.args.bytes.now < 257 = omega arith in
    let zeros : list_all is_zero (drop 2 c.args.bytes.now) ≡ true = cc in
    end-is c.args.bytes.now begins second short zeros

pub returns-clause-no : goal.returns-clause-no
returns-clause-no c = λ e is.
    let zeros : list_all is_zero (drop 2 c.args.bytes.now) ≡ false = cc in
    false≢true (sym zeros ∙ end-zeros c.args.bytes.now is)
