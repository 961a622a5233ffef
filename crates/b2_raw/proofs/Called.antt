-- What each call wrote, and what is read where it did.
use Rattle.std.proofs.Common.{◌≡◌, ℕ, ◌+◌, ◌<◌, ◌≤◌, true, List, [], ◌∷◌, length, get_or, Some, None, Ok, refl, sym, ap, subst, ◌∙◌, arith}
use Rattle.b2_dec.specs.declared.values.Kind.{Kind}
use Rattle.b2_dec.specs.declared.values.Value.{Value}
use Rattle.b2_platter.specs.Layout.{layout_of}
use Rattle.b2_platter.specs.Image.{sector, sectors_at, total_of}
use Rattle.b2_platter.specs.Checks.{IsGood}
use Rattle.b2_platter.specs.declared.layout.Layout.{Layout}
use Rattle.b2_platter.specs.Own.{sectors_of}
use Rattle.b2_platter.proofs.Goodness.{Parts-of}
use Rattle.b2_platter.proofs.Kept.{total-same}
use Rattle.b2_platter.proofs.Layouts.{same_layout}
use Rattle.b2_record.specs.Asking.{agree}
use Rattle.b2_record.specs.EndSector.{end_mark}
use Rattle.b2_record.specs.Records.{Spells, is_record, sectors_from}
use Rattle.b2_record.specs.Writing.{record_of}
use Rattle.b2_record.proofs.Whole.{long-record}
use Rattle.b2_raw.specs.Laws.{Writes}
use Rattle.b2_raw.specs.Raw.{block_at, block_put, ended, filled, loaded, saved}
use Rattle.b2_raw.proofs.ReadBack.{at-mark, block-there, in-range, record-back}
use Rattle.b2_raw.proofs.Rest.{all-whole, filled-long, placed}
use Rattle.b2_raw.proofs.Written.{made-by, saved-by, spare-high, written-by}

-- a record has a sector
some-groups : (groups : List (List Value)) → is_record groups ≡ true → 1 ≤ length (sectors_from 1 groups)
some-groups [] h = cc
some-groups (group ∷ groups) h = omega arith

some-record : (values : List Value) → Spells values (record_of values) → 1 ≤ length (record_of values)
some-record values p = let some = some-groups p.groups p.split in omega (arith, some, ap length p.same)

pub record-writes : (image new : List ℕ) (at next : ℕ) (values : List Value) → IsGood image → Spells values (record_of values) → saved image at values ≡ Ok (new, next) → Writes image at (record_of values) new
record-writes image new at next values good p same =
    let w = written-by image at (record_of values) new next (saved-by image at values new next same) in
    record { good = good; whole = all-whole (record_of values) (long-record values (record_of values) p); made = w.0 }

pub mark-writes : (image new : List ℕ) (at next : ℕ) → IsGood image → ended image at ≡ Ok (new, next) → Writes image at (end_mark ∷ []) new
mark-writes image new at next good same =
    record { good = good; whole = (refl, tt); made = (written-by image at (end_mark ∷ []) new next same).0 }

pub block-writes : (image new bytes : List ℕ) (at next : ℕ) → IsGood image → length bytes ≤ 256 → block_put image at bytes ≡ Ok (new, next) → Writes image at (filled bytes ∷ []) new
block-writes image new bytes at next good few same =
    record { good = good; whole = (filled-long bytes few, tt); made = (written-by image at (filled bytes ∷ []) new next same).0 }

-- the platter that was written has as many sectors
total-kept : (image : List ℕ) (at : ℕ) (sectors : List (List ℕ)) (new : List ℕ) → Writes image at sectors new → sectors_of new ≡ sectors_of image
total-kept image at sectors new w =
    let p = placed image at sectors new w in
    ap (λ (l : Layout). total_of l new) (same_layout image new p.good)
    ∙ total-same (layout_of image) image new (p.rows 0 (let parts = Parts-of (layout_of image) image w.good in omega (arith, parts.some)))

-- what was written lies within it
within : (image : List ℕ) (at : ℕ) (sectors : List (List ℕ)) (new : List ℕ) → Writes image at sectors new → at + length sectors ≤ sectors_of new
within image at sectors new w =
    let high = spare-high image at (length sectors) (made-by image at sectors new w.made).0 in
    let total = total-kept image at sectors new w in
    omega (arith, high, total)

first-there : (image : List ℕ) (at : ℕ) (s : List ℕ) (new : List ℕ) → Writes image at (s ∷ []) new → sector new at ≡ s
first-there image at s new w = ap (λ (ss : List (List ℕ)). get_or ss 0 []) (placed image at (s ∷ []) new w).there

pub record-loaded : (image new : List ℕ) (at next : ℕ) (values : List Value) (kinds : List Kind) → IsGood image → Spells values (record_of values) → saved image at values ≡ Ok (new, next) → agree kinds values ≡ true → length kinds ≡ length values
    → loaded new at kinds ≡ Ok (Some (values, next))
record-loaded image new at next values kinds good p same fit count =
    let w = record-writes image new at next values good p same in
    let next_is = (written-by image at (record_of values) new next (saved-by image at values new next same)).1 in
    let there = subst (Spells values) (sym (placed image at (record_of values) new w).there) p in
    let some = some-record values p in
    record-back new at (length (record_of values)) values kinds some (within image at (record_of values) new w) there fit count
    ∙ ap (λ (n : ℕ). Ok (Some (values, n))) (sym next_is)

pub mark-loaded : (image new : List ℕ) (at next : ℕ) (kinds : List Kind) → IsGood image → ended image at ≡ Ok (new, next) → loaded new at kinds ≡ Ok None
mark-loaded image new at next kinds good same =
    let w = mark-writes image new at next good same in
    let inside = within image at (end_mark ∷ []) new w in
    in-range new at kinds (omega (arith, inside)) ∙ at-mark new at kinds (first-there image at end_mark new w)

pub block-read : (image new bytes : List ℕ) (at next : ℕ) → IsGood image → length bytes ≤ 256 → block_put image at bytes ≡ Ok (new, next) → block_at new at ≡ Ok (filled bytes)
block-read image new bytes at next good few same =
    let w = block-writes image new bytes at next good few same in
    let inside = within image at (filled bytes ∷ []) new w in
    block-there new at (omega (arith, inside)) ∙ ap (λ (bs : List ℕ). Ok bs) (first-there image at (filled bytes) new w)
