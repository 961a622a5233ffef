use Rattle.std.proofs.Common.{◌≡◌, ◌==◌, ◌∙◌, true, List, ℕ, ◌∷◌, ◌+◌, take, drop, sym, ap}
use Rattle.std.specs.List.{list_all}
use Rattle.b2_record.specs.Items.{is_short}
use Rattle.b2_record.specs.Records.{sector_of, sector_kind}
use Rattle.b2_record.specs.Writing.{sectors_left}
use Rattle.b2_record.proofs.Groups.{fits-first, sector-and-left, short-drop}
use Rattle.b2_record.proofs.records.put_next.Goals as goal

pub write_sector-requires-clause-room : goal.write_sector-requires-clause-room
write_sector-requires-clause-room c = rw (c.split_at.ensures.front ∙ ap (λ n. take n c.args.values.now) c.first_count.ensures.count) (fits-first c.args.values.now)

pub returns-clause-sectors : goal.returns-clause-sectors
returns-clause-sectors c =
    let front = c.split_at.ensures.front ∙ ap (λ n. take n c.args.values.now) c.first_count.ensures.count in
    let back = c.split_at.ensures.back ∙ ap (λ n. drop n c.args.values.now) c.first_count.ensures.count in
    let kind = c.sector_kind.ensures ∙ ap (sector_kind (c.args.k == 1)) c.is_empty.ensures in
    let short : list_all is_short c.split_at.result.1.now ≡ true = rw c.split_at.ensures.back (short-drop c.first_count.result c.args.values.now c.requires.short) in
    sector-and-left c.args.k c.args.values.now c.split_at.result.0.now c.split_at.result.1.now short front back
    ∙ ap (λ (sector : List ℕ). sector ∷ sectors_left (c.args.k + 1) c.split_at.result.1.now) (sym (c.write_sector.ensures ∙ ap (λ kind. sector_of kind c.args.k c.split_at.result.0.now) kind))

pub returns-clause-short : goal.returns-clause-short
returns-clause-short c = rw c.split_at.ensures.back (short-drop c.first_count.result c.args.values.now c.requires.short)
