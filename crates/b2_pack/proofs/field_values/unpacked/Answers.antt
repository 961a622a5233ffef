use Rattle.std.proofs.Common.{sym, ap, ◌∙◌, ◌≡◌}
use Rattle.b2_dec.specs.Packing.{packed}
use Rattle.b2_pack.specs.PackedNumbers.{unpacked}
use Rattle.b2_pack.proofs.UnpackedLemmas.{unpacked-packed, unpacked-none, some_is_none}
use Rattle.b2_pack.proofs.field_values.unpacked.Goals as goal

pub returns-in-Some : goal.returns-in-Some
returns-in-Some c =
    let same : c.args.bytes.now ≡ packed c.in-Some.x = sym c.eight.ensures ∙ c.in-Some.ensures.only in
    sym (ap unpacked same ∙ unpacked-packed c.in-Some.x c.is_zero-zero.ensures.spelling)

pub returns-in-None : goal.returns-in-None
returns-in-None c = sym (unpacked-none c.args.bytes.now (λ x number same. some_is_none x (c.in-None.ensures.back x number (c.eight.ensures ∙ same))))
