use Rattle.std.proofs.Common.{◌≡◌, Bool, true, false, not, true≢false, refl, sym, arith}
use Rattle.std.proofs.lemmas.Bool.Decides.{nat_tests}
use Rattle.b2_vars.specs.Tables.{table_of}
use Rattle.b2_vars.proofs.Scalars.{scalar-code}
use Rattle.b2_vars.proofs.checks.require_value.Goals as goal

off : (b : Bool) → not b ≡ true → b ≡ false
off true e = absurd (true≢false (sym e))
off false e = refl

pub returns-then-c-eq0 : goal.returns-then-c-eq0
returns-then-c-eq0 c =
    let row : c.args.r ≡ 0 = grind (arith, nat_tests, c.if-r-eq0.true) in
    let column : c.args.c ≡ 0 = grind (arith, nat_tests, c.if-c-eq0.true) in
    scalar-code (table_of c.args.block.now.entries) c.args.v c.args.r c.args.c c.requires.sound (off _ c.if-not-v.true) row column
