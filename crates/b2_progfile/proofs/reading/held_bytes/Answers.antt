use Rattle.std.proofs.Common.{◌≡◌, ◌∙◌, ◌+◌, ◌-◌, ◌<◌, ◌++◌, ℕ, List, drop, refl, sym, ap, ap₂, subst, append_assoc, arith}
use Rattle.b2_base.specs.Lexical.{first}
use Rattle.b2_platter.specs.Image.{sector, sectors_at}
use Rattle.b2_platter.proofs.Layouts.{few_sectors}
use Rattle.b2_progfile.specs.Programs.{AllPieces, held_bytes}
use Rattle.b2_progfile.proofs.Copies.{sectors-next}
use Rattle.b2_progfile.proofs.reading.held_bytes.Goals as goal

pub overflow_add-at : goal.overflow_add-at
overflow_add-at c =
    let most = few_sectors c.args.p.now c.image-image.ensures.good in
    omega (arith, most, c.requires, c.loop-k-test.true)

pub returns-then-first-ne-PIECE-clause-err : goal.returns-then-first-ne-PIECE-clause-err
returns-then-first-ne-PIECE-clause-err c =
    let next = sectors-next c.args.p.now (c.args.at + c.loop-k.k) c.loop-k.k c.args.count c.loop-k-test.true in
    rw c.no_program.ensures
    (refl, λ all. (let there = subst AllPieces next (c.loop-k.invariant.all all) in c.if-first-ne-PIECE.true (c.first.ensures ∙ (ap first c.sector-sector.ensures.value ∙ there.0))))

pub loop-k-preserved : goal.loop-k-preserved
loop-k-preserved c =
    let h : c.loop-k.k < c.args.count = c.loop-k-test.true in
    let own = sector c.args.p.now (c.args.at + c.loop-k.k) in
    let left = c.args.count - (c.loop-k.k + 1) in
    let rest = held_bytes (sectors_at c.args.p.now (c.args.at + c.loop-k.k + 1) left) in
    let next = sectors-next c.args.p.now (c.args.at + c.loop-k.k) c.loop-k.k c.args.count h in
    let place : c.args.at + (c.loop-k.k + 1) ≡ c.args.at + c.loop-k.k + 1 = omega arith in
    let held : c.rest_after.result.now ≡ drop 1 own = c.rest_after.ensures ∙ ap (drop 1) c.sector-sector.ensures.value in
    let marked = sym (ap first c.sector-sector.ensures.value) ∙ (sym c.first.ensures ∙ c.if-first-ne-PIECE.false) in
    record {
      bytes = ap₂ (λ (a : List ℕ) (n : ℕ). a ++ held_bytes (sectors_at c.args.p.now n left)) (c.in_ok-add.ensures ∙ ap (λ (more : List ℕ). c.loop-k.bytes.items ++ more) held) place
          ∙ (append_assoc c.loop-k.bytes.items (drop 1 own) rest
          ∙ (ap (λ (t : List ℕ). c.loop-k.bytes.items ++ t) (sym (ap held_bytes next)) ∙ c.loop-k.invariant.bytes));
      pieces = λ all. c.loop-k.invariant.pieces (subst AllPieces (sym next) (marked, subst (λ (n : ℕ). AllPieces (sectors_at c.args.p.now n left)) place all));
      all = λ whole. (let there = subst AllPieces next (c.loop-k.invariant.all whole) in subst (λ (n : ℕ). AllPieces (sectors_at c.args.p.now n left)) (sym place) there.1);
    }
