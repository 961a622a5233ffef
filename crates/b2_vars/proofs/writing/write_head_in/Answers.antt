use Rattle.std.proofs.Common.{◌≡◌, ◌+◌, ◌≤◌, cond, length, List, ℕ, [], ◌∷◌, ◌++◌, ap, sym, ◌∙◌, arith}
use Rattle.b2_vars.specs.Block.{name_bytes, length_bytes, dimension_bytes, head_bytes}
use Rattle.b2_vars.specs.Variables.{overwritten}
use Rattle.b2_vars.proofs.Overwriting.{over-two}
use Rattle.b2_vars.proofs.Heads.{length-head}
use Rattle.b2_vars.proofs.writing.write_head_in.Goals as goal

pub returns-then-v : goal.returns-then-v
returns-then-v c =
    let v = c.args.v in
    let s = c.args.shape in
    let old = c.args.all.now in
    let name = name_bytes v c.args.common in
    let len = s.len ∷ [] in
    let dims = dimension_bytes v s in
    let is : length_bytes v s ≡ len = ap (λ b. cond b len []) c.if-v.true in
    let long = length-head v s c.args.common in
    let all : head_bytes v s c.args.common ≡ name ++ (len ++ dims) = ap (λ (xs : List ℕ). name ++ (xs ++ dims)) is in
    let same = ap (λ (xs : List ℕ). length xs) all in
    let room : c.args.at + (length name + length (len ++ dims)) ≤ length old = omega (arith, c.requires, long, same) in
    let kept = c.write_in.auto.all in
    let next : c.args.at + 5 ≡ c.args.at + 4 + length len = omega arith in
    c.write_dimensions.ensures
    ∙ ap (λ (n : ℕ). overwritten n dims c.write_in-then-v.new.all) next
    ∙ ap (overwritten (c.args.at + 4 + length len) dims) (c.write_in-then-v.ensures)
    ∙ over-two (c.args.at + 4) len dims c.write_in.new.all (omega (arith, room, kept))
    ∙ ap (overwritten (c.args.at + 4) (len ++ dims)) (c.write_in.ensures ∙ ap (λ (xs : List ℕ). overwritten c.args.at xs old) c.name_bytes.ensures)
    ∙ over-two c.args.at name (len ++ dims) old room
    ∙ ap (λ (xs : List ℕ). overwritten c.args.at xs old) (sym all)

pub returns-else-v : goal.returns-else-v
returns-else-v c =
    let v = c.args.v in
    let s = c.args.shape in
    let old = c.args.all.now in
    let name = name_bytes v c.args.common in
    let dims = dimension_bytes v s in
    let is : length_bytes v s ≡ [] = ap (λ b. cond b (s.len ∷ []) []) c.if-v.false in
    let long = length-head v s c.args.common in
    let all : head_bytes v s c.args.common ≡ name ++ dims = ap (λ (xs : List ℕ). name ++ (xs ++ dims)) is in
    let same = ap (λ (xs : List ℕ). length xs) all in
    let room : c.args.at + (length name + length dims) ≤ length old = omega (arith, c.requires, long, same) in
    c.write_dimensions-else-v.ensures
    ∙ ap (overwritten (c.args.at + 4) dims) (c.write_in.ensures ∙ ap (λ (xs : List ℕ). overwritten c.args.at xs old) c.name_bytes.ensures)
    ∙ over-two c.args.at name dims old room
    ∙ ap (λ (xs : List ℕ). overwritten c.args.at xs old) (sym all)
