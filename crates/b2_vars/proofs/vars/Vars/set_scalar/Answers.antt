use Rattle.std.proofs.Common.{◌≡◌, ◌≤◌, ◌∙◌, ℕ, true, false, not, is_some, IsSome, Option, None, refl, sym, ap, subst, arith}
use Rattle.std.proofs.lemmas.Bool.Decides.{nat_tests}
use Rattle.std.specs.FinMap as map
use Rattle.b2_vars.specs.Names.{scalar_named}
use Rattle.b2_vars.specs.Shapes.{scalar_shape}
use Rattle.b2_vars.specs.Tables.{VarsState, table_of}
use Rattle.b2_vars.specs.Calls.{no_array, no_cell, full, with_new, set_code}
use Rattle.b2_vars.proofs.Refusals.{third}
use Rattle.b2_vars.proofs.Scalars.{some-found, scalar-code, scalar-room, full-there}
use Rattle.b2_vars.proofs.vars.Vars.set_scalar.Goals as goal

pub set_scalar-requires-clause-room : goal.set_scalar-requires-clause-room
set_scalar-requires-clause-room c =
    let t = table_of c.self.inside.block.entries in
    let v = scalar_named c.args.letter c.args.digit in
    let some : 1 ≤ c.scalar_place-place.result = grind (arith, nat_tests, c.if-place-eq0.false) in
    scalar-room t v c.scalar_place-place.ensures.sound (some-found c.scalar_place-place.result t v c.scalar_place-place.ensures.there some) refl refl

-- where it stands, there is room for it
pub returns-clause-room : goal.returns-clause-room
returns-clause-room c =
    let b = c.self.inside.block in
    let t = table_of b.entries in
    let v = scalar_named c.args.letter c.args.digit in
    let some : 1 ≤ c.scalar_place-place.result = grind (arith, nat_tests, c.if-place-eq0.false) in
    let found : IsSome (map.get t v) = some-found c.scalar_place-place.result t v c.scalar_place-place.ensures.there some in
    let none : set_code v 0 0 (record { area = b.area; table = t }) ≡ None =
    third (no_array v t) (no_cell v 0 0 t) (full b.area (with_new v (scalar_shape v) false t)) (scalar-code t v 0 0 c.scalar_place-place.ensures.sound refl refl refl)
    ∙ full-there b.area t v (scalar_shape v) false c.scalar_place-place.ensures.whole found in
    subst (λ (s : VarsState). true ≡ not (is_some (set_code v 0 0 s))) c.self.view_is (sym (ap (λ (code : Option ℕ). not (is_some code)) none))
