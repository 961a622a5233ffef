use Rattle.std.proofs.Common.{◌≡◌, ◌+◌, ◌≤◌, cond, length, List, ℕ, [], ◌++◌, ap, sym, ◌∙◌, arith}
use Rattle.b2_vars.specs.Block.{dimension_bytes, two_bytes}
use Rattle.b2_vars.specs.Variables.{overwritten}
use Rattle.b2_vars.proofs.Overwriting.{over-two}
use Rattle.b2_vars.proofs.writing.write_dimensions.Goals as goal

pub returns-then-v : goal.returns-then-v
returns-then-v c =
    let s = c.args.shape in
    let rows = two_bytes s.rows in
    let cols = two_bytes s.cols in
    let is : dimension_bytes c.args.v s ≡ rows ++ cols = ap (λ b. cond b (rows ++ cols) []) c.if-v.true in
    let room : c.args.at + (length rows + length cols) ≤ length c.args.all.now = omega (arith, c.requires, ap (λ (xs : List ℕ). length xs) is) in
    c.write_in-then-v.ensures ∙ ap (λ (xs : List ℕ). overwritten (c.args.at + 2) xs c.write_in.new.all) c.two_bytes-then-v.ensures
    ∙ ap (overwritten (c.args.at + 2) cols) (c.write_in.ensures ∙ ap (λ (xs : List ℕ). overwritten c.args.at xs c.args.all.now) c.two_bytes.ensures)
    ∙ over-two c.args.at rows cols c.args.all.now room
    ∙ ap (λ (xs : List ℕ). overwritten c.args.at xs c.args.all.now) (sym is)
