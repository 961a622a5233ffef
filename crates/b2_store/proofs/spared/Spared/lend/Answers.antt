use Rattle.std.proofs.Common.{◌≡◌, ◌-◌, ◌<◌, length, get_or, set, take, Some, IsSome, sym, ap, subst, refl, ◌∙◌}
use Rattle.b2_store.specs.Spares.{GlobalsRows, index_held, row_held, rows_left}
use Rattle.b2_store.proofs.Spares.{place, read_at_place, set_at_place}
use Rattle.b2_store.proofs.spared.Spared.lend.Goals as goal

pub returns : goal.returns
returns c =
    let items = c.self.inside.rows.items in
    let last = length items - 1 in
    let p = c.args.p.now in
    let row = c.index_mut-row.result.now in
    let some : 0 < length items = c.self.invariant in
    let index_is : index_held p (take last items) ≡ c.index_of.result = sym c.index_of.ensures in
    let place_is : c.match-index_of.index ≡ place c.index_of.result last = elim c.match-index_of.branch [
      | goal.in-Some w ↦ w.index-is ∙ sym (ap (λ o. place o last) w.in-Some.is)
      | goal.in-None w ↦ let len_is : w.len.result ≡ length items = w.len.ensures ∙ c.self.inside.rows.ok.0 in w.index-is ∙ ap (λ n. n - 1) len_is ∙ sym (ap (λ o. place o last) w.in-None.is)
    ] in
    let at_place : row ≡ get_or items (place c.index_of.result last) row = c.index_mut-row.ensures.value ∙ ap (λ i. get_or items i row) place_is in (
      (
        refl,
        λ w.
            ap (λ i. take (length (set items i (row.0, w)) - 1) (set items i (row.0, w))) place_is
            ∙ set_at_place items some p c.index_of.result row w index_is at_place
            ∙ ap (λ (rows : GlobalsRows). rows_left p rows w) c.self.view_is,
      ),
      record {
        writes_back = tt;
        there = subst (λ (rows : GlobalsRows). IsSome (row_held p rows) → Some row.1 ≡ row_held p rows) c.self.view_is (read_at_place items some p c.index_of.result row index_is at_place);
      },
    )
