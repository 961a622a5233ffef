use Rattle.std.proofs.Common.{◌≡◌, ◌-◌, ◌+◌, ◌∙◌, ap, subst, ℕ, List, length, take, drop, arith}
use Rattle.std.specs.Fn.{FnOnceReturnsAtMut}
use Rattle.b2_vars.specs.Tables.{VarsState}
use Rattle.b2_vars.specs.Variables.{bytes_from}
use Rattle.b2_vars.proofs.Heads.{overhead-some}
use Rattle.b2_vars.proofs.Laying.{shown, shows-laid, shows-state}
use Rattle.b2_vars.proofs.Steps.{head-room, start-is, bytes-room, used-room, bytes-set, part-bytes}
use Rattle.b2_vars.proofs.block.Block.change.Goals as goal

pub shape_at-shape-requires : goal.shape_at-shape-requires
shape_at-shape-requires g c = omega (arith, ap (λ (b : List ℕ). length b) c.deref.ensures.value, head-room c.self.inside.bytes.items c.self.inside.used c.self.inside.places.items c.self.invariant c.args.self.now c.self.view_is c.args.v c.args.place c.requires.at)

pub bytes_start-start-requires-clause-low : goal.bytes_start-start-requires-clause-low
bytes_start-start-requires-clause-low g c = omega (arith, head-room c.self.inside.bytes.items c.self.inside.used c.self.inside.places.items c.self.invariant c.args.self.now c.self.view_is c.args.v c.args.place c.requires.at, overhead-some c.args.v, c.self.inside.bytes.small, c.self.inside.bytes.ok.0, c.self.inside.bytes.ok.1)

pub overflow_add-start : goal.overflow_add-start
overflow_add-start g c =
    let start = start-is c.self.inside.bytes.items c.self.inside.used c.self.inside.places.items c.self.invariant c.args.self.now c.self.view_is c.args.v c.args.place c.requires.at c.shape_at-shape.result c.deref.result.now c.deref.ensures.value c.shape_at-shape.ensures in
    omega (arith, c.bytes_start-start.ensures.start, start, c.requires.room, bytes-room c.self.inside.bytes.items c.self.inside.used c.self.inside.places.items c.self.invariant c.args.self.now c.self.view_is c.args.v c.args.place c.requires.at, used-room c.self.inside.bytes.items c.self.inside.used c.self.inside.places.items c.self.invariant c.args.self.now c.self.view_is, c.self.inside.bytes.small, c.self.inside.bytes.ok.0, c.self.inside.bytes.ok.1)

pub change-requires-clause-room : goal.change-requires-clause-room
change-requires-clause-room g c =
    let start = start-is c.self.inside.bytes.items c.self.inside.used c.self.inside.places.items c.self.invariant c.args.self.now c.self.view_is c.args.v c.args.place c.requires.at c.shape_at-shape.result c.deref.result.now c.deref.ensures.value c.shape_at-shape.ensures in
    omega (arith, c.bytes_start-start.ensures.start, start, c.requires.room, bytes-room c.self.inside.bytes.items c.self.inside.used c.self.inside.places.items c.self.invariant c.args.self.now c.self.view_is c.args.v c.args.place c.requires.at, used-room c.self.inside.bytes.items c.self.inside.used c.self.inside.places.items c.self.invariant c.args.self.now c.self.view_is)

pub invariant_of-self : goal.invariant_of-self
invariant_of-self g c =
    let y = c.change.ensures.0 in
    let start = c.bytes_start-start.ensures.start ∙ start-is c.self.inside.bytes.items c.self.inside.used c.self.inside.places.items c.self.invariant c.args.self.now c.self.view_is c.args.v c.args.place c.requires.at c.shape_at-shape.result c.deref.result.now c.deref.ensures.value c.shape_at-shape.ensures in
    let shows = bytes-set c.self.inside.bytes.items c.self.inside.used c.self.inside.places.items c.self.invariant c.args.self.now c.self.view_is c.args.v c.args.place c.requires.at c.args.from y (c.bytes_start-start.result + c.args.from) (ap (λ (n : ℕ). n + c.args.from) start) (omega (arith, c.requires.room, c.change.ensures.1)) in
    rw c.change.ensures.3 (shows-laid _ _ _ _ shows)

pub returns : goal.returns
returns g c =
    let y = c.change.ensures.0 in
    let n = c.args.n in
    let at = c.bytes_start-start.result + c.args.from in
    let start = c.bytes_start-start.ensures.start ∙ start-is c.self.inside.bytes.items c.self.inside.used c.self.inside.places.items c.self.invariant c.args.self.now c.self.view_is c.args.v c.args.place c.requires.at c.shape_at-shape.result c.deref.result.now c.deref.ensures.value c.shape_at-shape.ensures in
    let shows = bytes-set c.self.inside.bytes.items c.self.inside.used c.self.inside.places.items c.self.invariant c.args.self.now c.self.view_is c.args.v c.args.place c.requires.at c.args.from y at (ap (λ (k : ℕ). k + c.args.from) start) (omega (arith, c.requires.room, c.change.ensures.1)) in
    let k : at + n - at ≡ n = omega arith in
    let same : bytes_from at n c.self.inside.bytes.items ≡ bytes_from c.args.from n _ =
    ap (λ (m : ℕ). take m (drop at c.self.inside.bytes.items)) k ∙ ap (λ (m : ℕ). take n (drop (m + c.args.from) c.self.inside.bytes.items)) start ∙ part-bytes c.self.inside.bytes.items c.self.inside.used c.self.inside.places.items c.self.invariant c.args.self.now c.self.view_is c.args.v c.args.place c.requires.at c.args.from n c.requires.room in
    let state = ap (λ (b : List ℕ). shown b c.self.inside.used) c.change.ensures.3 ∙ shows-state _ _ _ _ shows in
    (ap (λ (s : VarsState). s.area) state, (y, c.change.ensures.1, subst (λ (x : List ℕ). FnOnceReturnsAtMut g.F.FnOnce c.args.f x tt y) same c.change.ensures.2, ap (λ (s : VarsState). s.table) state))
