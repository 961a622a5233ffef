use Rattle.std.proofs.Common.{◌≡◌, ◌*◌, ℕ, ap, ◌∙◌, length, replicate, arith}
use Rattle.b2_platter.proofs.Heads.{cleared, cleared_room}
use Rattle.b2_platter.proofs.edits.clear.Goals as goal

pub returns : goal.returns
returns c =
    let front : length c.copy_from_slice.new.self ≡ 16 = ap length c.copy_from_slice.ensures.after ∙ c.told-image_head in
    cleared c.args.image_head.now c.args.bytes.now _ _ (256 * c.args.sectors) (omega arith) (omega arith) (omega arith) c.copy_from_slice.ensures.after
    (c.fill.ensures.after (λ y e. e) ∙ ap (λ (n : ℕ). replicate n 0) (cleared_room c.copy_from_slice.new.self c.args.bytes.now (256 * c.args.sectors) front (omega arith)))
