use Rattle.std.proofs.Common.{◌≡◌, take, arith}
use Rattle.std.proofs.lemmas.Bool.Decides.{nat_tests}
use Rattle.b2_look.specs.Rows.{without_last_blanks}
use Rattle.b2_look.proofs.Trimming.{kept_up_to}
use Rattle.b2_look.proofs.rows.without_last_blanks.Goals as goal
use Rattle.b2_look.proofs.rows.without_last_blanks.Goals.{then-loop-length-test+else-row-length-eq32, else-loop-length-test}

pub returns : goal.returns
returns c =
    let inv = c.loop-length.invariant in
    elim c.loop-length-test.branch as (λ _. take c.loop-length.length c.args.row.now ≡ without_last_blanks c.args.row.now) [
      | then-loop-length-test+else-row-length-eq32 w ↦ kept_up_to _ _ inv.0 inv.1 (λ some. let other = w.if-row-length-eq32 in grind (arith, nat_tests))
      | else-loop-length-test w ↦ kept_up_to _ _ inv.0 inv.1 (λ some. absurd (let none = w.loop-length-test in omega arith))
    ]
