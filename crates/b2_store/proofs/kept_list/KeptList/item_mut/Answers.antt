use Rattle.std.proofs.Common.{◌≡◌, List, Some, position, sym, ap, ◌∙◌, inl, inr}
use Rattle.b2_store.specs.Kept.{first_kept, is_kept, with_first}
use Rattle.b2_store.specs.declared.kept_item.Kept.{Kept}
use Rattle.b2_store.proofs.KeptItems.{first_set, here, not_found}
use Rattle.b2_store.proofs.kept_list.KeptList.item_mut.Goals as goal

pub returns-in-Some : goal.returns-in-Some
returns-in-Some c =
    let xs = c.self.inside.items.items in
    let test = is_kept c.args.o.now in
    let row = c.index_mut-row.result.now in
    let at : position test xs ≡ Some c.in-Some.index = cc in (
      (λ i. inl (c.index_mut-row.result.ghost_name, λ w. (first_set test xs c.in-Some.index row w at ∙ ap (λ (ys : List Kept). with_first test ys w) c.self.view_is) i)),
      record {
        writes_back = tt;
        there = sym (here test xs c.in-Some.index row at c.index_mut-row.ensures.value) ∙ ap (λ (ys : List Kept). first_kept test ys) c.self.view_is;
      },
    )

pub returns-in-None : goal.returns-in-None
returns-in-None c =
    let xs = c.self.inside.items.items in
    let test = is_kept c.args.o.now in (
      ap inr c.self.view_is,
      record {
        writes_back = tt;
        there = sym (not_found test xs (cc)) ∙ ap (λ (ys : List Kept). first_kept test ys) c.self.view_is;
      },
    )
