use Rattle.std.proofs.Common.{◌*◌, ◌≤◌, ap, ◌∙◌, le-leb, length, arith}
use Rattle.std.proofs.lemmas.List.{take_all}
use Rattle.std.specs.List.{list_all}
use Rattle.b2_base.specs.Lexical.{first}
use Rattle.b2_pack.specs.Nibbles.{nibbles, is_decimal_nibble}
use Rattle.b2_pack.proofs.NibbleLemmas.{nibbles-length, first-at}
use Rattle.b2_pack.proofs.rows.are_digits.Goals as goal

pub returns-in-Absent : goal.returns-in-Absent
returns-in-Absent c =
    let ns = nibbles c.args.bytes.now in
    rw c.in-Absent.is (c.begins_decimal.ensures ∙ ap (list_all is_decimal_nibble) (take_all (2 * length c.args.bytes.now) ns (omega (arith, nibbles-length c.args.bytes.now))))

pub returns-then-nibble_at-le1 : goal.returns-then-nibble_at-le1
returns-then-nibble_at-le1 c =
    let ns = nibbles c.args.bytes.now in
    let small : first ns ≤ 1 = omega (arith, first-at ns, c.nibble_at.ensures.nibble) in
    rw (c.in-Before.is, le-leb (first ns) 1 small)
    (c.begins_decimal-then-nibble_at-le1.ensures ∙ ap (list_all is_decimal_nibble) (take_all (2 * length c.args.bytes.now) ns (omega (arith, nibbles-length c.args.bytes.now))))
