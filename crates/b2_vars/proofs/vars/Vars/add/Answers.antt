use Rattle.std.proofs.Common.{◌≡◌, ap, sym, ◌∙◌, arith, None, Some, is_some}
use Rattle.std.specs.FinMap as map
use Rattle.b2_vars.specs.Variables.{fresh}
use Rattle.b2_vars.specs.Tables.{VarsState, table_of, count_of}
use Rattle.b2_vars.proofs.Soundness.{full-new, room-new, found-put}
use Rattle.b2_vars.proofs.vars.Vars.add.Goals as goal

pub returns-then-cost-free-clause-code : goal.returns-then-cost-free-clause-code
returns-then-cost-free-clause-code c =
    let b = c.self.inside.block in
    let t = table_of b.entries in
    let x = fresh c.args.v c.args.shape c.args.common in
    let none : map.get t c.args.v ≡ None = ap (λ (s : VarsState). map.get s.table c.args.v) c.self.view_is ∙ c.requires.missing in
    rw (← c.self.view_is) (full-new b.area (count_of t) t c.args.v x c.free.ensures.sound none (omega (arith, c.if-cost-free.true, c.cost.ensures.cost, c.free.ensures.free)) ∙ ap Some (sym c.known.ensures))

pub add-requires-clause-missing : goal.add-requires-clause-missing
add-requires-clause-missing c = ap (λ (s : VarsState). map.get s.table c.args.v) c.self.view_is ∙ c.requires.missing

pub add-requires-clause-room : goal.add-requires-clause-room
add-requires-clause-room c = let h = c.free.ensures.sound in omega (arith, c.if-cost-free.false, c.cost.ensures.cost, c.free.ensures.free, h.fits)

pub returns-clause-code : goal.returns-clause-code
returns-clause-code c =
    let b = c.self.inside.block in
    let t = table_of b.entries in
    let x = fresh c.args.v c.args.shape c.args.common in
    let none : map.get t c.args.v ≡ None = ap (λ (s : VarsState). map.get s.table c.args.v) c.self.view_is ∙ c.requires.missing in
    rw (← c.self.view_is) (room-new b.area (count_of t) t c.args.v x c.free.ensures.sound none (omega (arith, c.if-cost-free.false, c.cost.ensures.cost, c.free.ensures.free)))

pub returns-clause-there : goal.returns-clause-there
returns-clause-there c =
    ap (λ (s : VarsState). is_some (map.get s.table c.args.v)) c.add.ensures ∙ found-put (table_of c.self.inside.block.entries) c.args.v (fresh c.args.v c.args.shape c.args.common)
