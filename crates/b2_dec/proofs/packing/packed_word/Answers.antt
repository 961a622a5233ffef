use Rattle.std.proofs.Common.{ap, ◌∙◌, ◌+◌, ◌*◌, ◌/◌, ◌%◌, ◌^◌}
use Rattle.std.specs.Int.{w64, to_be_bytes}
use Rattle.b2_dec.specs.Lanes.{rebased}
use Rattle.b2_dec.proofs.PackedWords.{packed-bytes, eights}
use Rattle.b2_dec.proofs.packing.packed_word.Goals as goal

pub returns : goal.returns
returns c =
    let digits =
    ap (λ v. (c.three_digits.result * 100000 + v / 100000000) * 10 ^ 8 + v % 100000000) c.coefficient-coef.ensures.value
    ∙ eights c.args.a c.three_digits.result c.three_digits.ensures.value in
    ap (to_be_bytes w64) (c.nibbles_of.ensures ∙ ap (rebased 10 16 16) digits) ∙ packed-bytes c.args.a c.coefficient-coef.ensures.spelling
