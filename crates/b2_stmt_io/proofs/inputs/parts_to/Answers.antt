use Rattle.std.proofs.Common.{◌∙◌, ◌==◌, ℕ, List, length, take, drop, sym, ap}
use Rattle.b2_base.specs.Byte as byte
use Rattle.b2_base.specs.Lexical.{first}
use Rattle.b2_atom.specs.declared.rows.TheConstants as row
use Rattle.b2_rows.specs.Rows.{tree_at}
use Rattle.b2_expr.specs.Workspace.{workspace}
use Rattle.b2_stmt_io.specs.Inputs.{takes_part}
use Rattle.b2_rows.specs.CommaLists.{others_at, past_first}
use Rattle.b2_stmt_io.proofs.Parted.{further_parts, no_more, none_left, none_of, part_coded, part_more, width_of}
use Rattle.b2_stmt_io.proofs.inputs.parts_to.Goals as goal

pub returns-then-is_some-clause-worked : goal.returns-then-is_some-clause-worked
returns-then-is_some-clause-worked c =
    let typed = c.loop-code.typed.now in
    let left = c.loop-code.left.now in
    let one = takes_part in
    let took = c.in_ok-code.ensures.worked ∙ ap (λ (p : List ℕ). one (tree_at row.RECEIVER left) p (workspace c.loop-code.work)) (c.first_bytes.ensures ∙ ap (λ (n : ℕ). take n typed) c.part_width-width.ensures.width) in
    part_coded one (tree_at row.RECEIVER left) (others_at (past_first left)) typed (workspace c.loop-code.work) (workspace c.part_to.new.work) c.in_ok-code.code took (sym c.if-is_some.ensures)
    ∙ c.loop-code.invariant.taken

pub returns-then-not-is_at-clause-worked : goal.returns-then-not-is_at-clause-worked
returns-then-not-is_at-clause-worked c =
    let typed = c.loop-code.typed.now in
    let left = c.loop-code.left.now in
    let one = takes_part in
    let took = c.in_ok-code.ensures.worked ∙ ap (λ (p : List ℕ). one (tree_at row.RECEIVER left) p (workspace c.loop-code.work)) (c.first_bytes.ensures ∙ ap (λ (n : ℕ). take n typed) c.part_width-width.ensures.width) in
    sym (no_more one (past_first left) (further_parts (drop (width_of typed) typed)) (workspace c.part_to.new.work) (sym (c.if-not-is_at.ensures ∙ ap (λ (u : List ℕ). first u == byte.comma) c.past_any_receiver-left.ensures)))
    ∙ part_more one (tree_at row.RECEIVER left) (others_at (past_first left)) typed (workspace c.loop-code.work) (workspace c.part_to.new.work) c.in_ok-code.code took (none_of c.in_ok-code.code (sym c.if-is_some.ensures))
    ∙ c.loop-code.invariant.taken

pub returns-then-is_empty-clause-worked : goal.returns-then-is_empty-clause-worked
returns-then-is_empty-clause-worked c =
    let typed = c.loop-code.typed.now in
    let left = c.loop-code.left.now in
    let one = takes_part in
    let took = c.in_ok-code.ensures.worked ∙ ap (λ (p : List ℕ). one (tree_at row.RECEIVER left) p (workspace c.loop-code.work)) (c.first_bytes.ensures ∙ ap (λ (n : ℕ). take n typed) c.part_width-width.ensures.width) in
    sym (none_left one (others_at (past_first left)) (drop (width_of typed) typed) (workspace c.part_to.new.work)
    (sym (c.if-is_empty.ensures ∙ ap (λ (u : List ℕ). length u == 0) (c.rest_after-typed.ensures ∙ ap (λ (n : ℕ). drop n typed) c.part_width-width.ensures.width))))
    ∙ part_more one (tree_at row.RECEIVER left) (others_at (past_first left)) typed (workspace c.loop-code.work) (workspace c.part_to.new.work) c.in_ok-code.code took (none_of c.in_ok-code.code (sym c.if-is_some.ensures))
    ∙ c.loop-code.invariant.taken
