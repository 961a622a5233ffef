use Rattle.std.proofs.Common.{◌≡◌, ℕ, ◌+◌, ◌-◌, ◌*◌, ◌/◌, ◌%◌, ◌^◌, ◌<◌, ◌≤◌, List, length, get_or, set, ◌∙◌, arith}
use Rattle.b2_alpha.proofs.PlaceValues.{AllBelow}
use Rattle.b2_alpha.proofs.Carrying.{below_set}
use Rattle.b2_alpha.proofs.Turning.{Multiplied, Multiplied-more, Multiplied-all, shifted-whole}
use Rattle.b2_alpha.proofs.bits.shift_left.Goals as goal

-- one place more, of a byte that is shifted in 32 bits
one_more : (left top : ℕ) (old now : List ℕ) (i p carry a shifted : ℕ) → shifted ≡ a * 2 ^ left → left ≤ 8 → length old ≡ p + 1 + i → length now ≡ length old → a ≡ get_or now p 0 → Multiplied left top old now i carry × AllBelow 256 now → Multiplied left top old (set now p ((shifted + carry) % 256)) (i + 1) ((shifted + carry) / 256) × AllBelow 256 (set now p ((shifted + carry) % 256))
one_more left top old now i p carry a shifted is_shifted within len same is_a so_far =
    let here : a < 256 = rw is_a (so_far.1 p) in
    let kept : a ≡ get_or old p 0 = is_a ∙ so_far.0.kept p (omega arith) in (
      rw is_shifted (Multiplied-more left top old now i p carry a within len same kept here so_far.0),
      below_set 256 now p ((shifted + carry) % 256) (omega arith) (omega arith) so_far.1,
    )

pub loop-i-preserved : goal.loop-i-preserved
loop-i-preserved c =
    let here : c.from.result < 256 = rw c.from.ensures (c.loop-i.invariant.1 (length c.loop-i.to - 1 - c.loop-i.i)) in
    one_more c.args.left c.args.incoming c.args.to.now c.loop-i.to c.loop-i.i (length c.loop-i.to - 1 - c.loop-i.i) c.loop-i.carry c.from.result (c.from.result * 2 ^ c.args.left % 4294967296)
    (shifted-whole c.args.left c.from.result c.requires.within here) c.requires.within (omega arith) (omega arith) c.from.ensures c.loop-i.invariant

pub returns : goal.returns
returns c =
    let at_end : c.loop-i.i ≡ length c.args.to.now = omega arith in
    Multiplied-all c.args.left c.args.incoming c.args.to.now c.loop-i.to c.loop-i.carry (omega arith) c.loop-i.invariant.1 (rw at_end at c.loop-i.invariant.0)
