use Rattle.std.proofs.Common.{◌≡◌, ◌∙◌, []}
use Rattle.b2_progfile.specs.Loading.{merged}
use Rattle.b2_progfile.proofs.Merging.{between-all, merged-alone, small-lines}
use Rattle.b2_progfile.proofs.gathered.lines_of_text.Goals as goal

pub loop-line-init : goal.loop-line-init
loop-line-init c =
    let small = small-lines c.args.t.now.lines c.next_after-first.ensures.small in
    let all : c.lines-left.result ≡ c.args.t.now.lines = c.lines-left.ensures ∙ between-all c.args.t.now.lines small in
    let none : c.new-lines.result.entries ≡ [] = cc in
    (λ x. merged (all x) (none x)) ∙ merged-alone c.args.t.now.lines c.next_after-first.ensures.ascending
