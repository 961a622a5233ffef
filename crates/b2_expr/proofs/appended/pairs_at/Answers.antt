use Rattle.std.proofs.Common.{◌≡◌, ◌++◌, ◌∷◌, [], ℕ, List, true, Ok, length, length-append, sym, ap, ◌∙◌, subst, arith}
use Rattle.b2_atom.specs.Words.{Text}
use Rattle.b2_atom.specs.declared.rows.TheConstants as row
use Rattle.b2_atom.specs.declared.forms.Start.TheVariants as start
use Rattle.b2_rows.specs.Rows.{is_list, after_list}
use Rattle.b2_expr.proofs.Pairs as pairs
use Rattle.b2_expr.proofs.appended.pairs_at.Goals as goal

pub loop-into-preserved : goal.loop-into-preserved
loop-into-preserved c =
    let t = c.loop-into.left.now in
    let b = c.hex_byte_at-in-loop-into.result in
    let is = sym c.is_hex_at.ensures ∙ c.loop-into-test.true in
    let left = c.rest_after-left-in-loop-into.ensures in
    record {
      list = subst (λ (u : Text). is_list start.Hex row.HEX_PAIR u ≡ true) (sym left) (pairs.pair_list t c.loop-into.invariant.list is);
      bytes = pairs.pair_step _ c.loop-into.into c.push-in-loop-into.new.self b t c.rest_after-left-in-loop-into.result.now c.loop-into.invariant.list is c.loop-into.invariant.bytes c.hex_byte_at-in-loop-into.ensures.value c.push-in-loop-into.ensures left;
      rest = ap (after_list start.Hex row.HEX_PAIR) left ∙ sym (pairs.pair_rest t c.loop-into.invariant.list is) ∙ c.loop-into.invariant.rest;
      room = (let a = pairs.pair_room t c.loop-into.invariant.list is in let d = ap length left in let e = ap length c.push-in-loop-into.ensures ∙ length-append c.loop-into.into (b ∷ []) in omega (arith, a, d, e, c.loop-into.invariant.room));
    }

pub returns-clause-bytes : goal.returns-clause-bytes
returns-clause-bytes c =
    c.loop-into.invariant.bytes
    ∙ ap (λ (l : List ℕ). Ok (c.loop-into.into ++ l)) (pairs.none_is c.loop-into.left.now (sym c.is_hex_at.ensures ∙ c.loop-into-test.false))
    ∙ ap Ok (pairs.nothing_more c.loop-into.into)
