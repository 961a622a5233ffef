use Rattle.std.proofs.Common.{All, ◌≤◌, sym, subst}
use Rattle.std.specs.Map.{keys_of}
use Rattle.b2_text.specs.Program.{Lines}
use Rattle.b2_progfile.proofs.Gathering.{loaded-small}
use Rattle.b2_progfile.proofs.loading.put_program.Goals as goal

pub refill-requires-clause-numbers : goal.refill-requires-clause-numbers
refill-requires-clause-numbers c =
    subst (λ (ls : Lines). All (λ n. n ≤ 9999) (keys_of ls)) (sym c.in-Ok.ensures)
    (loaded-small c.args.replace c.args.program.now.entries c.args.t.now.lines c.requires c.next_after-first.ensures.small)
