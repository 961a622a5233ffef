use Rattle.std.proofs.Common.{rules, ◌≡◌}
use Rattle.b2_flow.specs.Stacks.{most_frames}
use Rattle.b2_stmt.specs.Loops.{without_loop}
use Rattle.b2_stmt.proofs.Steered.{begun, still_room}
use Rattle.b2_stmt.proofs.fast.begin_with_room.Goals as goal

pub put_with_room-requires : goal.put_with_room-requires
put_with_room-requires c =
    let e : c.drop_loop.new.stack ≡ without_loop c.args.l.var c.args.me.now.stack = search rules in
    rw e (still_room c.args.l.var c.args.me.now.stack most_frames c.requires.room)

pub returns-clause-fast : goal.returns-clause-fast
returns-clause-fast c =
    let a = c.set_counter.ensures in
    begun c.args.l c.args.body c.args.me.now _ (search rules) (still_room c.args.l.var c.args.me.now.stack most_frames c.requires.room) (search rules)
