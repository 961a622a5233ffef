use Rattle.std.proofs.Common.{◌≡◌, ◌+◌, ◌-◌, length, refl, ap, ◌∙◌, ◌++◌, take, arith}
use Rattle.std.proofs.lemmas.Slice.{drop-put_mid, take-put_mid}
use Rattle.b2_dectext.proofs.printing.put.Goals as goal

pub returns : goal.returns
returns c =
    let at = c.args.at in
    let end = at + length c.args.bytes.now in
    let into = c.args.into.now in
    let part = c.copy_from_slice.new.self in
    let same = c.copy_from_slice.ensures.after in
    let long : length part ≡ length c.args.bytes.now = ap length same in
    record {
      len = refl;
      front = take-put_mid at (end - at) into part end (omega arith) (omega arith) ∙ ap (λ text. take at into ++ text) same;
      rest = drop-put_mid at (end - at) into part end (omega arith) (omega arith) (omega arith);
    }
