use Rattle.std.proofs.Common.{◌≡◌, List, Some, position, sym, ap, ◌∙◌, inl, inr}
use Rattle.std.specs.Map.{lookup, set_value}
use Rattle.b2_store.proofs.Placed.{row_here, row_set, not_found}
use Rattle.b2_store.proofs.rows.Rows.get_mut.Goals as goal

pub returns-in-Some : goal.returns-in-Some
returns-in-Some g c =
    let rows = c.self.inside.rows.items in
    let test = g.K.Key.found_by c.args.key in
    let row = c.index_mut-row.result.now in
    let here : position (λ (e : g.row.K.Denot × g.row.X.Denot). test e.0) rows ≡ Some c.in-Some.index = cc in (
      (λ i. inl (c.row-1.given, λ w. (row_set test rows c.in-Some.index row w here c.index_mut-row.ensures.value ∙ ap (λ (rs : List (g.row.K.Denot × g.row.X.Denot)). set_value test rs w) c.self.view_is) i)),
      record {
        writes_back = tt;
        there = sym (row_here test rows c.in-Some.index row here c.index_mut-row.ensures.value) ∙ ap (λ (rs : List (g.row.K.Denot × g.row.X.Denot)). lookup test rs) c.self.view_is;
      },
    )

pub returns-in-None : goal.returns-in-None
returns-in-None g c =
    let rows = c.self.inside.rows.items in
    let test = g.K.Key.found_by c.args.key in (
      ap inr c.self.view_is,
      record {
        writes_back = tt;
        there = sym (not_found test rows (cc)) ∙ ap (λ (rs : List (g.row.K.Denot × g.row.X.Denot)). lookup test rs) c.self.view_is;
      },
    )
