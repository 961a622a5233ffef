use Rattle.std.proofs.Common.{◌≡◌, ◌∷◌, length, drop, suc, ap, ◌∙◌, sym, arith, length-append, drop-cons}
use Rattle.b2_record.specs.Items.{value_spelled, group_bytes}
use Rattle.b2_record.proofs.sectors.write_values.Goals as goal

pub write_value-requires-clause-room : goal.write_value-requires-clause-room
write_value-requires-clause-room c =
    let rest : drop c.loop-value.value-index c.args.values.now ≡ c.value-item.result ∷ drop (suc c.loop-value.value-index) c.args.values.now =
    drop-cons c.args.values.now c.loop-value.value-index c.value-item.result c.loop-value-test.true ∙ ap (λ v. v ∷ drop (suc c.loop-value.value-index) c.args.values.now) (sym c.value-item.is) in
    let all = ap length c.loop-value.invariant.written in
    let old = length-append c.loop-value.draft.items (group_bytes (drop c.loop-value.value-index c.args.values.now)) in
    let whole = length-append c.args.draft.now.items (group_bytes c.args.values.now) in
    let parts = length-append (value_spelled c.value-item.result) (group_bytes (drop (suc c.loop-value.value-index) c.args.values.now)) in
    let here = ap (λ vs. length (group_bytes vs)) rest in
    omega (arith, all, old, whole, parts, here, c.requires.room)
