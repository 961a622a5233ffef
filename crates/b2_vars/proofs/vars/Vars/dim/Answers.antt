use Rattle.std.proofs.Common.{◌≡◌, ℕ, Option, None, sym, subst, false}
use Rattle.b2_vars.specs.Answers.{Answers}
use Rattle.b2_vars.specs.Tables.{VarsState}
use Rattle.b2_vars.specs.Calls.{bad_dimensions, bad_length, other_shape, full, with_new}
use Rattle.b2_vars.proofs.Refusals.{fourth}
use Rattle.b2_vars.proofs.vars.Vars.dim.Goals as goal

pub returns-clause-code : goal.returns-clause-code
returns-clause-code c =
    let v = c.args.v in
    let s = c.args.self.now in
    let same : other_shape v c.args.shape s.table ≡ None = subst (λ (s : VarsState). other_shape v c.args.shape s.table ≡ None) c.self.view_is c.in_ok-require_shape.ensures in
    subst (λ (code : Option ℕ). Answers code c.make.result)
    (sym (fourth (bad_dimensions v c.args.shape) (bad_length v c.args.shape) (other_shape v c.args.shape s.table) (full s.area (with_new v c.args.shape false s.table)) c.in_ok-require_allowed.ensures same))
    c.make.ensures.code
