-- The sectors of a record are whole sectors.
use Rattle.std.proofs.Common.{◌≡◌, ℕ, ◌+◌, ◌-◌, ◌≤◌, ◌&&◌, ◌==◌, true, List, [], ◌∷◌, length, replicate, subst, arith, length-append}
use Rattle.std.proofs.lemmas.List.{length-replicate}
use Rattle.std.proofs.lemmas.Bool.{leb-true}
use Rattle.b2_dec.specs.declared.values.Value.{Value}
use Rattle.b2_record.specs.declared.items.TheConstants.{END_OF_VALUES}
use Rattle.b2_record.specs.declared.sectors.TheConstants.{ROOM}
use Rattle.b2_record.specs.Items.{group_bytes}
use Rattle.b2_record.specs.Records.{fits_in_sector, goes_over, go_on, is_record, is_none, sector_of, sector_kind, sectors_from, Spells}
use Rattle.b2_record.proofs.Groups.{and-left, and-right}
use Rattle.b2_platter.proofs.SectorRuns.{AllLong}

long-sector : (kind number : ℕ) (group : List Value) → fits_in_sector group ≡ true → length (sector_of kind number group) ≡ 256
long-sector kind number group h =
    let most : length (group_bytes group) ≤ ROOM = leb-true (length (group_bytes group)) ROOM h in
    let all = length-append (group_bytes group) (END_OF_VALUES ∷ replicate (ROOM - length (group_bytes group)) 0) in
    let zeros = length-replicate {A = ℕ} (ROOM - length (group_bytes group)) 0 in
    omega (arith, most, all, zeros)

long-rest : (used number : ℕ) (groups : List (List Value)) → go_on used groups ≡ true → AllLong (sectors_from number groups)
long-rest used number [] h = tt
long-rest used number (group ∷ groups) h =
    let outer = and-left (goes_over used group && fits_in_sector group) (go_on (length (group_bytes group)) groups) h in (
      long-sector (sector_kind (number == 1) (is_none groups)) number group (and-right (goes_over used group) (fits_in_sector group) outer),
      long-rest (length (group_bytes group)) (number + 1) groups (and-right (goes_over used group && fits_in_sector group) (go_on (length (group_bytes group)) groups) h),
    )

pub long-groups : (groups : List (List Value)) → is_record groups ≡ true → AllLong (sectors_from 1 groups)
long-groups [] h = cc
long-groups (group ∷ groups) h = (
  long-sector (sector_kind true (is_none groups)) 1 group (and-left (fits_in_sector group) (go_on (length (group_bytes group)) groups) h),
  long-rest (length (group_bytes group)) 2 groups (and-right (fits_in_sector group) (go_on (length (group_bytes group)) groups) h),
)

pub long-record : (values : List Value) (sectors : List (List ℕ)) → Spells values sectors → AllLong sectors
long-record values sectors p = subst AllLong p.same (long-groups p.groups p.split)
