use Rattle.std.proofs.Common.{ap, ◌≡◌, ◌∙◌, ◌==◌, true, arith}
use Rattle.std.proofs.lemmas.Bool.Decides.{nat_tests}
use Rattle.b2_vars.specs.Tables.{VarsState, shape_at}
use Rattle.b2_expr.specs.Scope.{surroundings}
use Rattle.b2_stmt_mat.specs.Arrays.{all_bytes, bytes_of, families, named_bytes, shape_in}
use Rattle.b2_stmt_mat.proofs.Put.{sort_answered, sort_seen}
use Rattle.b2_stmt_mat.proofs.byte_arrays.sorted_bytes.Goals as goal

pub returns-in-Err-clause-answer : goal.returns-in-Err-clause-answer
returns-in-Err-clause-answer c =
    let m = c.args.asked.now in
    let t = families (surroundings c.args.e.now) in
    let long : c.length_of.result ≡ (shape_in m.to t).len = c.length_of.ensures.value ∙ ap (λ (v : VarsState). (shape_at m.to.var v.table).len) c.vars_of-to.ensures in
    let two : ((shape_in m.to t).len == 2) ≡ true = grind (arith, nat_tests, c.if-length_of-ne2.false, long) in
    let named = c.named_bytes_of.ensures.bytes ∙ ap (λ (v : VarsState). named_bytes (bytes_of m.of.var v.table)) c.vars_of-of.ensures in
    let len = c.length_of-len.ensures.value ∙ ap (λ (v : VarsState). (shape_at m.of.var v.table).len) c.vars_of-of.ensures in
    let copied = c.deref_mut.ensures.value ∙ c.in_ok-made.ensures ∙ ap (λ (v : VarsState). bytes_of m.to.var v.table) c.vars_of-to.ensures in
    sort_answered c.in-Err.fault m t two (sort_seen c.in-Err.fault _ (named_bytes (all_bytes m.of t)) _ (shape_in m.of t).len _ (all_bytes m.to t) named len copied c.in-Err.ensures.answer)
