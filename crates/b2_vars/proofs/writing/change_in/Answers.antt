use Rattle.std.proofs.Common.{◌≡◌, ◌+◌, ◌-◌, ◌++◌, ◌∙◌, ap, sym, ℕ, length, take, drop, arith, refl, length-drop}
use Rattle.std.proofs.lemmas.List.{length-take-le}
use Rattle.b2_vars.proofs.Overwriting.{overwritten-within}
use Rattle.b2_vars.proofs.writing.change_in.Goals as goal

pub returns : goal.returns
returns g c =
    let old = c.args.all.now in
    let from = c.args.at in
    let n = c.args.n in
    let y = c.f.new.arg2 in
    let k : from + n - from ≡ n = omega arith in
    let long : length y ≡ n = c.f.auto.arg2 ∙ ap (λ (n : ℕ). length (take n (drop from old))) k ∙ length-take-le n (drop from old) (omega (arith, length-drop from old, c.requires.room)) in
    (y, long, record { shown = _; shows = refl; left = _; met = c.f.ensures; leaves = refl }, ap (λ (n : ℕ). take from old ++ (y ++ drop n (drop from old))) (k ∙ sym long) ∙ overwritten-within from y old (omega (arith, long, c.requires.room)))
