use Rattle.std.proofs.Common.{◌+◌, ◌*◌, ◌<◌, ◌++◌, ◌∷◌, [], length, take, sym, ap, ◌∙◌, arith}
use Rattle.std.proofs.lemmas.List.{take_more_set, take_all, take_more}
use Rattle.b2_pack.specs.Rows.{row_bytes}
use Rattle.b2_pack.proofs.RowLemmas.{row_byte, row_bytes-length}
use Rattle.b2_pack.proofs.rows.write_row.Goals as goal

pub loop-i-preserved : goal.loop-i-preserved
loop-i-preserved c =
    let i = c.loop-i.i in
    let long = row_bytes-length c.args.row c.args.x in
    let here : i < length c.loop-i.to = omega arith in
    let there : i < length (row_bytes c.args.row c.args.x) = omega (arith, long) in
    take_more_set c.loop-i.to i _ here
    ∙ ap (λ t. t ++ (16 * c.row_nibble.result + c.row_nibble-in-loop-i.result) ∷ []) c.loop-i.invariant
    ∙ ap (λ b. take i (row_bytes c.args.row c.args.x) ++ b ∷ []) (row_byte c.args.row c.args.x i _ _ c.row_nibble.ensures.nibble c.row_nibble-in-loop-i.ensures.nibble)
    ∙ sym (take_more (row_bytes c.args.row c.args.x) i 0 there)

pub returns : goal.returns
returns c =
    let long = row_bytes-length c.args.row c.args.x in
    sym (take_all c.loop-i.i c.loop-i.to (omega arith)) ∙ c.loop-i.invariant ∙ take_all c.loop-i.i (row_bytes c.args.row c.args.x) (omega (arith, long))
