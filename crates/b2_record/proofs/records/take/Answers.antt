use Rattle.std.proofs.Common.{◌≡◌, ◌+◌, ◌==◌, ◌||◌, length, ◌∙◌, true, false, Bool, sym, ap, subst, arith, add-one, le-leb}
use Rattle.b2_platter.specs.Image.{sector}
use Rattle.b2_record.specs.Items.{group_bytes}
use Rattle.b2_record.specs.Records.{goes_over, sector_of, sector_kind}
use Rattle.b2_platter.proofs.Reading.{unspelled-more}
use Rattle.b2_record.proofs.Reading.{reading-none, reading-more, reading-end, stops-unspelled, stops-short, stops-most, follows-from, short-from}
use Rattle.b2_record.proofs.ReadBack.{none-read, read-at}
use Rattle.b2_record.proofs.records.take.Goals as goal

pub loop-count-init : goal.loop-count-init
loop-count-init c = record { reading = rw c.new-values.ensures.items (reading-none c.args.p.now c.args.at); room = omega arith }

pub returns-in-Err-clause-err : goal.returns-in-Err-clause-err
returns-in-Err-clause-err c =
    let none = rw c.sector.ensures.value at c.in-Err.ensures.err in
    unspelled-more c.in-Err.fault (stops-unspelled c.args.p.now c.args.at c.loop-count.used c.loop-count.count c.args.last c.loop-count.values.items c.loop-count.invariant.reading) none

pub returns-then-not-follows-clause-err : goal.returns-then-not-follows-clause-err
returns-then-not-follows-clause-err c =
    let values = c.in-Ok.group.values.items in
    let ok = rw c.sector.ensures.value at c.in-Ok.ensures.ok in
    let asked : ((c.loop-count.count == 0) || goes_over c.loop-count.used values) ≡ false = ap (λ vs. (c.loop-count.count == 0) || goes_over c.loop-count.used vs) (sym c.deref.ensures.value) ∙ sym c.if-not-follows.ensures in
    let short = short-from c.loop-count.count c.loop-count.used values asked in
    (c.known.ensures, stops-short c.args.p.now c.args.at c.loop-count.used c.loop-count.count c.args.last c.loop-count.values.items values c.in-Ok.group.is_last c.loop-count.invariant.reading ok.0 short.0 short.1 ok.1)

pub bytes_len-used-requires-clause-few : goal.bytes_len-used-requires-clause-few
bytes_len-used-requires-clause-few c = rw c.deref-in-loop-count.ensures.value c.in-Ok.ensures.room

pub returns-then-group-clause-ok : goal.returns-then-group-clause-ok
returns-then-group-clause-ok c =
    let values = c.in-Ok.group.values.items in
    let ok = rw c.sector.ensures.value at c.in-Ok.ensures.ok in
    let asked : ((c.loop-count.count == 0) || goes_over c.loop-count.used values) ≡ true = ap (λ vs. (c.loop-count.count == 0) || goes_over c.loop-count.used vs) (sym c.deref.ensures.value) ∙ sym c.if-not-follows.ensures in
    let over = follows-from c.loop-count.count c.loop-count.used values asked in
    let same = subst (λ (b : Bool). sector c.args.p.now (c.args.at + c.loop-count.count) ≡ sector_of (sector_kind (c.loop-count.count + 1 == 1) b) (c.loop-count.count + 1) values) c.if-group.true ok.1 in
    rw (c.in_ok-add_all.ensures, add-one c.loop-count.count)
    (reading-end c.args.p.now c.args.at c.loop-count.used c.loop-count.count c.loop-count.values.items values c.loop-count.invariant.reading ok.0 (le-leb (length (group_bytes values)) 253 c.in-Ok.ensures.room) over same (omega (arith, c.loop-count-test.true, c.sectors_left-most.ensures)))

pub loop-count-preserved : goal.loop-count-preserved
loop-count-preserved c =
    let values = c.in-Ok.group.values.items in
    let ok = rw c.sector.ensures.value at c.in-Ok.ensures.ok in
    let asked : ((c.loop-count.count == 0) || goes_over c.loop-count.used values) ≡ true = ap (λ vs. (c.loop-count.count == 0) || goes_over c.loop-count.used vs) (sym c.deref.ensures.value) ∙ sym c.if-not-follows.ensures in
    let over = follows-from c.loop-count.count c.loop-count.used values asked in
    let same = subst (λ (b : Bool). sector c.args.p.now (c.args.at + c.loop-count.count) ≡ sector_of (sector_kind (c.loop-count.count + 1 == 1) b) (c.loop-count.count + 1) values) c.if-group.false ok.1 in
    let used : c.bytes_len-used.result ≡ length (group_bytes values) = c.bytes_len-used.ensures ∙ ap (λ vs. length (group_bytes vs)) c.deref-in-loop-count.ensures.value in
    record {
      reading = rw (c.in_ok-add_all.ensures, add-one c.loop-count.count, used)
          (reading-more c.args.p.now c.args.at c.loop-count.used c.loop-count.count c.loop-count.values.items values c.loop-count.invariant.reading ok.0 (le-leb (length (group_bytes values)) 253 c.in-Ok.ensures.room) over same);
      room = omega (arith, used, c.in-Ok.ensures.room);
    }

pub returns-clause-err : goal.returns-clause-err
returns-clause-err c =
    (c.known-2.ensures, stops-most c.args.p.now c.args.at c.loop-count.used c.loop-count.count c.args.last c.loop-count.values.items c.loop-count.invariant.reading (omega (arith, c.loop-count-test.false, c.sectors_left-most.ensures)))

-- the same, as the function says it

pub returns-in-Err-clause-none : goal.returns-in-Err-clause-none
returns-in-Err-clause-none c = unspelled-more c.in-Err.fault (none-read c.args.p.now c.args.at c.args.last) (returns-in-Err-clause-err c)

pub returns-then-not-follows-clause-none : goal.returns-then-not-follows-clause-none
returns-then-not-follows-clause-none c = (c.known.ensures, none-read c.args.p.now c.args.at c.args.last (returns-then-not-follows-clause-err c).1)

pub returns-then-group-clause-value : goal.returns-then-group-clause-value
returns-then-group-clause-value c =
    read-at c.args.p.now c.args.at c.args.last _ _ (omega (arith, c.loop-count-test.true, c.sectors_left-most.ensures)) (returns-then-group-clause-ok c)

pub returns-clause-none : goal.returns-clause-none
returns-clause-none c = (c.known-2.ensures, none-read c.args.p.now c.args.at c.args.last (returns-clause-err c).1)
