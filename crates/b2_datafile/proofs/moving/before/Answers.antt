use Rattle.std.proofs.Common.{◌∙◌, get_or, sym, ap, arith}
use Rattle.b2_datafile.proofs.SkippedRecords.{before-some, before-number, no-before, no-such}
use Rattle.b2_platter.proofs.Reading.{unspelled-more}
use Rattle.b2_datafile.proofs.moving.before.Goals as goal

pub returns-then-count-eq0-clause-err : goal.returns-then-count-eq0-clause-err
returns-then-count-eq0-clause-err c = (
  cc,
  λ values n r. let count = c.from-count.ensures in let value = c.sector.ensures.value in
      omega (arith, before-some c.args.p.now c.args.e.now c.args.pos n values r, before-number c.args.p.now c.args.e.now c.args.pos n values r, ap (λ s. get_or s 1 0) value, count, c.if-count-eq0.true),
)

pub returns-then-count-pos-clause-err : goal.returns-then-count-pos-clause-err
returns-then-count-pos-clause-err c = (
  cc,
  λ values n r. let count = c.from-count.ensures in let value = c.sector.ensures.value in
      omega (arith, r.within, before-number c.args.p.now c.args.e.now c.args.pos n values r, ap (λ s. get_or s 1 0) value, count, c.if-count-pos.true),
)

pub returns-in-Err-clause-err : goal.returns-in-Err-clause-err
returns-in-Err-clause-err c =
    let number = ap (λ s. get_or s 1 0) (sym c.sector.ensures.value) ∙ sym c.from-count.ensures in
    unspelled-more c.in-Err.fault (no-before c.args.p.now c.args.e.now c.args.pos c.from-count.result (omega (arith, c.requires.low)) number) c.in-Err.ensures.err

pub returns-then-found-count-clause-err : goal.returns-then-found-count-clause-err
returns-then-found-count-clause-err c =
    let number = ap (λ s. get_or s 1 0) (sym c.sector.ensures.value) ∙ sym c.from-count.ensures in
    (cc, no-such c.args.p.now c.args.e.now c.args.pos c.from-count.result c.in-Ok.sectors c.in-Ok.field-0-0.items number c.in-Ok.ensures.ok c.if-found-count.true)
