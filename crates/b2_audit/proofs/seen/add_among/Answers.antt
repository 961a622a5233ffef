use Rattle.std.proofs.Common.{ℕ, [], ◌∷◌, ◌++◌, ap, ◌∙◌}
use Rattle.std.specs.Prelude.{set}
use Rattle.b2_audit.specs.PartSets.{with_part}
use Rattle.b2_audit.proofs.Others.{at_place, added}
use Rattle.b2_audit.proofs.seen.add_among.Goals as goal

pub returns-in-Some : goal.returns-in-Some
returns-in-Some c =
    let items = c.args.others.now.items in
    let row = c.index_mut-row.result.now in
    ap (λ (n : ℕ). set items c.in-Some.index (row.0, n)) c.with-row.ensures
    ∙ at_place c.args.who items c.args.object c.in-Some.index row (cc) c.index_mut-row.ensures.value

pub returns-in_ok-push-in-None : goal.returns-in_ok-push-in-None
returns-in_ok-push-in-None c =
    let items = c.args.others.now.items in
    c.in_ok-push-in-None.ensures.items ∙ ap (λ (n : ℕ). items ++ (c.args.object, n) ∷ []) (c.with.ensures ∙ ap (λ (z : ℕ). with_part z c.args.who) c.none.ensures)
    ∙ added c.args.who items c.args.object (cc)
