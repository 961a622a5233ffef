use Rattle.std.proofs.Common.{sym, ap, ◌∙◌}
use Rattle.b2_store.specs.Meaning.{store_of}
use Rattle.b2_store.specs.TwoRows.{Platters}
use Rattle.b2_store.proofs.Moves.{first_unlisted, given, moves_as, refused_as, second_unlisted}
use Rattle.b2_store.proofs.row_lookups.StoresLookups.move_files.Goals as goal

pub returns-in_default-clause-done : goal.returns-in_default-clause-done
returns-in_default-clause-done c who =
    let s = store_of c.args.self.now in
    sym (moves_as who c.args.from c.args.to c.args.name s ∙ ap (given s) (first_unlisted c.args.name c.args.from c.args.to s.platters (sym c.in_default.ensures)))

pub returns-in_default-get-clause-done : goal.returns-in_default-get-clause-done
returns-in_default-get-clause-done c who =
    let s = store_of c.args.self.now in
    sym (moves_as who c.args.from c.args.to c.args.name s ∙ ap (given s) (second_unlisted c.args.name c.args.from c.args.to s.platters (sym c.in_default-get.ensures)))

pub returns-in-Ok-clause-done : goal.returns-in-Ok-clause-done
returns-in-Ok-clause-done c who =
    let s = store_of c.args.self.now in
    sym (moves_as who c.args.from c.args.to c.args.name s ∙ ap (given s) c.in-Ok.ensures.ok)

pub returns-in-Err-clause-done : goal.returns-in-Err-clause-done
returns-in-Err-clause-done c who =
    let s = store_of c.args.self.now in
    refused_as who c.args.from c.args.to c.args.name s (record s { platters = c.move_between.new.self }) c.in-Err.fault c.refusal.result c.refusal.ensures.refused c.in-Err.ensures.fails
    (ap (λ (rows : Platters). record s { platters = rows }) c.in-Err.ensures.kept)
