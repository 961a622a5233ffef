use Rattle.std.proofs.Common.{◌≡◌, ℕ, ◌+◌, List, [], ◌++◌, codes, refl}
use Rattle.std.specs.Fmt.{decimal}
use Rattle.b2_boot.specs.Drills.{typed_line}
use Rattle.b2_boot.proofs.drills.typed_line.Goals as goal

-- five texts, added one after another
five_added : (a b c d e start first second third fourth fifth : List ℕ) → start ≡ [] → first ≡ start ++ a → second ≡ first ++ b → third ≡ second ++ c → fourth ≡ third ++ d → fifth ≡ fourth ++ e
    → fifth ≡ a ++ b ++ c ++ d ++ e
five_added a b c d e start first second third fourth fifth g h i j k l =
    rw (l, k, j, i, h, g) refl

pub returns : goal.returns
unfolding typed_line
returns c =
    five_added (codes "DATASAVE DC OPEN T,#1,") (decimal (c.args.n + 2)) (codes ",\"F\":FOR I=1 TO ") (decimal c.args.n) _ _ _ _ _ _ _ c.new-line.ensures.items
    c.in_ok-extend_from_slice.ensures.items c.in_ok-push_digits.ensures c.in_ok-extend_from_slice-2.ensures.items c.in_ok-push_digits-2.ensures c.in_ok-extend_from_slice-3.ensures.items
