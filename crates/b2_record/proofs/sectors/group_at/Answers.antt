use Rattle.b2_platter.proofs.Reading.{unspelled-more}
use Rattle.b2_record.proofs.Parsing.{whole-sector, group-room, sector-group}
use Rattle.b2_record.proofs.sectors.group_at.Goals as goal

pub returns-in-Ok-clause-ok : goal.returns-in-Ok-clause-ok
returns-in-Ok-clause-ok c =
    let is = rw c.rest_after.ensures at c.in-Ok.ensures.ok in
    (is.storable, whole-sector c.args.bytes.now _ _ c.in-Ok.values.items c.told-bytes c.in-Some.ensures.some c.if-bytes-number.false is)

pub returns-in-Ok-clause-room : goal.returns-in-Ok-clause-room
returns-in-Ok-clause-room c =
    let is = rw c.rest_after.ensures at c.in-Ok.ensures.ok in
    group-room c.args.bytes.now c.in-Ok.values.items c.told-bytes is

pub returns-in-Err-clause-err : goal.returns-in-Err-clause-err
returns-in-Err-clause-err c =
    let none = rw c.rest_after.ensures at c.in-Err.ensures.err in
    unspelled-more c.in-Err.fault (λ none is_last group storable same. none group (sector-group _ _ c.args.bytes.now group storable same)) none
