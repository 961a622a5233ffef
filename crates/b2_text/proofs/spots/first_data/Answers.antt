use Rattle.std.proofs.Common.{ℕ, List, ◌<◌, ◌≤◌, ◌∙◌, sym, subst, length, get_or, arith, nat_cmp}
use Rattle.std.specs.List.Sorted.{IsStrictlySortedBy}
use Rattle.b2_text.specs.Blocks.{holds_data, lines_laid}
use Rattle.b2_text.specs.Members.{IsRankOf, lines_where}
use Rattle.b2_text.specs.Spots.{data_from, data_of}
use Rattle.b2_text.proofs.Listing.{sorted_listed}
use Rattle.b2_text.proofs.Looking.{data_begins, data_here, data_listed, data_none, data_passed, listed_all, listed_at, no_line}
use Rattle.b2_text.proofs.spots.first_data.Goals as goal

pub rank-first-requires : goal.rank-first-requires
rank-first-requires c =
    subst (IsStrictlySortedBy nat_cmp) (sym c.requires.listed) (sorted_listed holds_data (lines_laid c.args.block.now.items c.args.places.now.items) c.requires.ordered)

pub loop-i-init : goal.loop-i-init
loop-i-init c =
    let ls = lines_laid c.args.block.now.items c.args.places.now.items in
    let first = c.rank-first.result in
    let at = subst (λ (n : ℕ). IsRankOf n c.args.datas.now.items first) c.from.ensures c.rank-first.ensures in
    data_begins c.args.from (lines_where holds_data ls) first (subst (λ (ns : List ℕ). IsRankOf c.args.from.line ns first) c.requires.listed at)
    ∙ data_listed c.args.from ls

pub returns-in-Some : goal.returns-in-Some
returns-in-Some c =
    let ls = lines_laid c.args.block.now.items c.args.places.now.items in
    let fs = lines_where holds_data ls in
    let i = c.loop-i.i in
    let inside : i < length c.args.datas.now.items = omega (arith, c.loop-i-test.true, c.len-i-end.ensures) in
    let at = listed_at holds_data ls c.args.datas.now.items i c.index-number.result.now c.requires.ordered c.requires.listed inside c.index-number.ensures in
    let a = (get_or fs i no_line).1 in
    data_here c.args.from fs i c.in-Some.spot (data_from c.args.from ls) at.within
    (c.in-Some.ensures a at.line ∙ (λ x. data_of c.args.from (at.number x, a))) c.loop-i.invariant

pub loop-i-preserved : goal.loop-i-preserved
loop-i-preserved c =
    let ls = lines_laid c.args.block.now.items c.args.places.now.items in
    let fs = lines_where holds_data ls in
    let i = c.loop-i.i in
    let inside : i < length c.args.datas.now.items = omega (arith, c.loop-i-test.true, c.len-i-end.ensures) in
    let at = listed_at holds_data ls c.args.datas.now.items i c.index-number.result.now c.requires.ordered c.requires.listed inside c.index-number.ensures in
    let a = (get_or fs i no_line).1 in
    data_passed c.args.from fs i (data_from c.args.from ls) at.within
    (sym (c.data_on.ensures a at.line ∙ (λ x. data_of c.args.from (at.number x, a))) ∙ c.in_default.is) c.loop-i.invariant

pub returns : goal.returns
returns c =
    let ls = lines_laid c.args.block.now.items c.args.places.now.items in
    let end : length c.args.datas.now.items ≤ c.loop-i.i = omega (arith, c.loop-i-test.false, c.len-i-end.ensures) in
    data_none c.args.from (lines_where holds_data ls) c.loop-i.i (data_from c.args.from ls)
    (listed_all holds_data ls c.args.datas.now.items c.loop-i.i c.requires.listed end) c.loop-i.invariant
