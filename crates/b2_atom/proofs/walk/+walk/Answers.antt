use Rattle.std.proofs.Common.{rules, arith, sym, ap, ◌∙◌, ◌≡◌, ◌<◌, true, false}
use Rattle.b2_atom.specs.Tree.{seen_output, emitted}
use Rattle.b2_atom.specs.declared.forms.Item.{Item}
use Rattle.std.proofs.lemmas.Grind.{common_steps}
use Rattle.b2_atom.specs.Grammar.{starts, item, item_of_part, level, deep, statement_within, read_item}
use Rattle.b2_atom.proofs.reading.Binds.{emitted-under, next_item, no_item, row_end, row_of_part, once_more, once_failed, many_end, many_out, nest_more, takes_same, emitted-bytes, statement_ok, statement_err}
use Rattle.b2_atom.proofs.walk.+walk.Goals as goal

pub part-returns-then-level-eq0 : goal.part-returns-then-level-eq0
unfolding level
part-returns-then-level-eq0 t c = first_of (search rules, grind (arith, common_steps))

pub part-loop-wanted-init : goal.part-loop-wanted-init
part-loop-wanted-init t c = first_of (search (rules, row_of_part), grind (arith, common_steps, row_of_part))

pub part-loop-wanted-preserved : goal.part-loop-wanted-preserved
part-loop-wanted-preserved t c = first_of (search (rules, next_item, emitted-bytes), grind (arith, common_steps, next_item, emitted-bytes))

pub part-returns-in_err-left : goal.part-returns-in_err-left
part-returns-in_err-left t c = first_of (search (rules, no_item), grind (arith, common_steps, no_item))

pub part-returns : goal.part-returns
part-returns t c = first_of (search (rules, row_end), grind (arith, common_steps, row_end))

pub take_item-returns-then-room-eq0 : goal.take_item-returns-then-room-eq0
unfolding item deep
take_item-returns-then-room-eq0 t c = first_of (search rules, grind (arith, common_steps))

pub take_item-returns-in-Part : goal.take_item-returns-in-Part
unfolding item
take_item-returns-in-Part t c = first_of (search (rules, emitted-under), grind (arith, common_steps, emitted-under))

pub take_item-returns-then-begins : goal.take_item-returns-then-begins
unfolding item
take_item-returns-then-begins t c = first_of (search (rules, emitted-under), grind (arith, common_steps, emitted-under))

pub take_item-returns-else-begins : goal.take_item-returns-else-begins
unfolding item
take_item-returns-else-begins t c = first_of (search (rules, emitted-under), grind (arith, common_steps, emitted-under))

pub take_item-returns-then-begins-2 : goal.take_item-returns-then-begins-2
unfolding item
take_item-returns-then-begins-2 t c = first_of (search (rules, emitted-under), grind (arith, common_steps, emitted-under))

pub take_item-returns-else-begins-2 : goal.take_item-returns-else-begins-2
unfolding item
take_item-returns-else-begins-2 t c = first_of (search (rules, emitted-under), grind (arith, common_steps, emitted-under))

pub many-loop-preserved : goal.many-loop-preserved
many-loop-preserved t c = first_of (search (rules, once_more, emitted-bytes), grind (arith, common_steps, once_more, emitted-bytes))

pub many-returns-in_err-left : goal.many-returns-in_err-left
many-returns-in_err-left t c = first_of (search (rules, once_failed), grind (arith, common_steps, once_failed))

pub many-returns-then-not-begins : goal.many-returns-then-not-begins
many-returns-then-not-begins t c =
    let h : starts c.args.origin c.args.start c.loop.left.now ≡ false = first_of (search rules, grind (arith, common_steps)) in
    sym c.loop.invariant.read ∙ many_end _ _ _ _ _ _ h

pub many-returns-then-begins : goal.many-returns-then-begins
many-returns-then-begins t c =
    let h : starts c.args.origin c.args.start c.loop.left.now ≡ true = first_of (search rules, grind (arith, common_steps)) in
    (λ not. sym c.loop.invariant.read ∙ many_out _ _ _ _ _ _ _ c.loop-test.false h, λ is. cc)

pub many-returns : goal.many-returns
many-returns t c =
    let h : starts c.args.origin c.args.start c.loop.left.now ≡ false = first_of (search rules, grind (arith, common_steps)) in
    sym c.loop.invariant.read ∙ many_end _ _ _ _ _ _ h

pub statement-returns-then-fuel-eq0 : goal.statement-returns-then-fuel-eq0
unfolding statement_within
statement-returns-then-fuel-eq0 t c = first_of (search rules, grind (arith, common_steps))

pub take_item-returns-in-Many : goal.take_item-returns-in-Many
unfolding item
take_item-returns-in-Many t c = first_of (search (rules, emitted-under), grind (arith, common_steps, emitted-under))

pub take_item-returns-in-Statement : goal.take_item-returns-in-Statement
unfolding item
take_item-returns-in-Statement t c = first_of (search rules, grind (arith, common_steps))

pub take_item-returns-else-room-eq0 : goal.take_item-returns-else-room-eq0
take_item-returns-else-room-eq0 t c =
    let some : 0 < c.args.room = omega arith in
    takes_same (seen_output c.args.out.now) (seen_output c.part-in-Nest.new.out) _ _ c.part-in-Nest.result
    (nest_more c.args.origin c.args.fuel c.args.room c.args.level c.in-Nest.row (seen_output c.args.out.now) c.args.text.now some
    ∙ ap (λ (i : Item). emitted (seen_output c.args.out.now) (item_of_part c.args.origin c.args.fuel c.args.room c.args.level i c.args.text.now)) (sym c.in-Nest.is)) c.part-in-Nest.ensures

pub statement-returns-in-Ok : goal.statement-returns-in-Ok
statement-returns-in-Ok t c =
    let some : 0 < c.args.fuel = omega arith in
    takes_same (seen_output c.args.out.now) (seen_output c.part.new.out) _ _ c.part.result
    (statement_ok c.args.origin c.args.fuel c.args.position (seen_output c.args.out.now) c.args.text.now c.in-Ok.here.now c.in-Ok.row some c.in-Ok.ensures.row) c.part.ensures

pub statement-returns-in-Err : goal.statement-returns-in-Err
unfolding statement_within
statement-returns-in-Err t c = first_of (search (rules, statement_err), grind (arith, common_steps, statement_err))

pub take_item-returns-in-Word : goal.take_item-returns-in-Word
unfolding item
take_item-returns-in-Word t c =
    let own : item_of_part c.args.origin c.args.fuel c.args.room c.args.level c.args.item c.args.text.now ≡ read_item c.args.origin c.args.item c.args.text.now = grind (arith, common_steps, c.in-Word.is) in
    takes_same (seen_output c.args.out.now) (seen_output c.read_item.new.out) _ _ c.read_item.result (ap (emitted (seen_output c.args.out.now)) (sym own)) c.read_item.ensures
