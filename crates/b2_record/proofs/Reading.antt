-- Reading a record sector by sector: what was read so far, and what may follow.
use Rattle.std.proofs.Common.{◌≡◌, ℕ, zero, suc, ◌+◌, ◌-◌, ◌<◌, ◌≤◌, ◌==◌, Bool, true, false, ◌&&◌, List, [], ◌∷◌, ◌++◌, length, map, sym, refl, ap, ap₂, ◌∙◌, subst, arith, append_assoc, append-nil, length-append, ◌||◌, ne_eqb, min}
use Rattle.std.specs.List.{range_with_len}
use Rattle.b2_dec.specs.declared.values.Value.{Value}
use Rattle.b2_platter.specs.Image.{sector, sectors_at}
use Rattle.b2_record.specs.Items.{group_bytes, AllStorable}
use Rattle.b2_record.specs.Records.{fits_in_sector, goes_over, go_on, is_record, is_none, all_values, sector_of, sector_kind, sectors_from, Spells, IsNoRecord}
use Rattle.b2_record.proofs.Groups.{and-left}
use Rattle.b2_record.proofs.Parsing.{storable-joined, storable-left, storable-right, sector-unique}

-- whether more sectors go on with a record of which some sectors were read, the last of them with some bytes of values
abbrev pub continues : ℕ → ℕ → List (List Value) → Bool
continues zero used more = is_record more
continues (suc count) used more = go_on used more

-- a group that follows what was read
abbrev pub follows : ℕ → ℕ → List Value → Bool
follows zero used group = true
follows (suc count) used group = goes_over used group

-- what was read of a record so far: it is read on exactly as it goes on, and any record that stands there begins so
pub record Reading (image : List ℕ) (at : ℕ) (values : List Value) (used count : ℕ) : Type 0 where
  pub groups : List (List Value)
  pub all : all_values groups ≡ values
  pub storable : AllStorable values
  pub counted : length groups ≡ count
  pub chain : (more : List (List Value)) → is_record (groups ++ more) ≡ continues count used more
  pub written : (group : List Value) (more : List (List Value)) → sectors_from 1 (groups ++ group ∷ more) ≡ sectors_at image at count ++ sectors_from (count + 1) (group ∷ more)
  pub only : (other : List Value) (n : ℕ) (spelled : Spells other (sectors_at image at n)) → (group : List Value) × (more : List (List Value)) × (spelled.groups ≡ groups ++ group ∷ more)

-- ---- lists

pub joined-more : (a b : List (List Value)) → all_values (a ++ b) ≡ all_values a ++ all_values b
joined-more [] b = refl
joined-more (g ∷ a) b = ap (λ t. g ++ t) (joined-more a b) ∙ sym (append_assoc g (all_values a) (all_values b))

some_group : (groups : List (List Value)) → is_record groups ≡ true → (group : List Value) × (more : List (List Value)) × (groups ≡ group ∷ more)
some_group [] h = cc
some_group (g ∷ groups) h = (g, groups, refl)

-- the sector after some, where sectors begin with these
at-split : (f : ℕ → List ℕ) (at count n : ℕ) (s : List ℕ) (rest : List (List ℕ)) → map f (range_with_len at n) ≡ map f (range_with_len at count) ++ s ∷ rest → (count < n) × (f (at + count) ≡ s)
at-split f at zero zero s rest e = cc
at-split f at zero (suc n) s rest e = let same : f at ≡ s = cc in let here : at + 0 ≡ at = omega arith in (omega arith, ap f here ∙ same)
at-split f at (suc count) zero s rest e = cc
at-split f at (suc count) (suc n) s rest e =
    let tail : map f (range_with_len (at + 1) n) ≡ map f (range_with_len (at + 1) count) ++ s ∷ rest = cc in
    let found = at-split f (at + 1) count n s rest tail in
    let here : at + suc count ≡ at + 1 + count = omega arith in
    (omega (arith, found.0), ap f here ∙ found.1)

-- ---- nothing was read

pub reading-none : (image : List ℕ) (at : ℕ) → Reading image at [] 0 0
reading-none image at = record {
  groups = [];
  all = refl;
  storable = tt;
  counted = refl;
  chain = λ more. refl;
  written = λ group more. refl;
  only = λ other n spelled. some_group spelled.groups spelled.split;
}

-- ---- the next sector of a record that stands there

pub record Next (image : List ℕ) (at count n : ℕ) (groups whole : List (List Value)) : Type 0 where
  pub group : List Value
  pub more : List (List Value)
  pub parts : whole ≡ groups ++ group ∷ more
  pub storable : AllStorable group
  pub within : count < n
  pub same : sector image (at + count) ≡ sector_of (sector_kind (count + 1 == 1) (is_none more)) (count + 1) group

pub next-sector : (image : List ℕ) (at used count : ℕ) (values : List Value) (r : Reading image at values used count) (other : List Value) (n : ℕ) (spelled : Spells other (sectors_at image at n))
    → Next image at count n r.groups spelled.groups
next-sector image at used count values r other n spelled =
    let found = r.only other n spelled in
    let all : sectors_at image at n ≡ sectors_at image at count ++ sectors_from (count + 1) (found.0 ∷ found.1) = sym spelled.same ∙ (ap (sectors_from 1) found.2 ∙ r.written found.0 found.1) in
    let here = at-split (sector image) at count n _ _ all in
    let parts : other ≡ all_values r.groups ++ (found.0 ++ all_values found.1) = sym spelled.all ∙ (ap all_values found.2 ∙ joined-more r.groups (found.0 ∷ found.1)) in
    record {
      group = found.0;
      more = found.1;
      parts = found.2;
      storable = storable-left found.0 (all_values found.1) (storable-right (all_values r.groups) (found.0 ++ all_values found.1) (subst AllStorable parts spelled.storable));
      within = here.0;
      same = here.1;
    }

-- ---- a sector was read that isn't the last

at-more : (f : ℕ → List ℕ) (at n : ℕ) → map f (range_with_len at (suc n)) ≡ map f (range_with_len at n) ++ f (at + n) ∷ []
at-more f at zero = let here : at ≡ at + 0 = omega arith in ap (λ k. f k ∷ []) here
at-more f at (suc n) = let here : at + 1 + n ≡ at + suc n = omega arith in ap (λ t. f at ∷ t) (at-more f (at + 1) n ∙ ap (λ k. map f (range_with_len (at + 1) n) ++ f k ∷ []) here)

go-on-more : (count used : ℕ) (group : List Value) (more : List (List Value)) → fits_in_sector group ≡ true → follows count used group ≡ true
    → continues count used (group ∷ more) ≡ go_on (length (group_bytes group)) more
go-on-more zero used group more h k = rw h refl
go-on-more (suc count) used group more h k = rw (h, k) refl

some_more : (more : List (List Value)) → is_none more ≡ false → (next : List Value) × (rest : List (List Value)) × (more ≡ next ∷ rest)
some_more [] h = cc
some_more (next ∷ rest) h = (next, rest, refl)

pub reading-more : (image : List ℕ) (at used count : ℕ) (values group : List Value) → Reading image at values used count → AllStorable group → fits_in_sector group ≡ true → follows count used group ≡ true
    → sector image (at + count) ≡ sector_of (sector_kind (count + 1 == 1) false) (count + 1) group
    → Reading image at (values ++ group) (length (group_bytes group)) (suc count)
reading-more image at used count values group r storable few over same = record {
  groups = r.groups ++ group ∷ [];
  all = joined-more r.groups (group ∷ []) ∙ ap₂ (λ a b. a ++ b) r.all (append-nil group);
  storable = storable-joined values group r.storable storable;
  counted = length-append r.groups (group ∷ []) ∙ omega (arith, r.counted);
  chain = λ more. ap is_record (append_assoc r.groups (group ∷ []) more) ∙ (r.chain (group ∷ more) ∙ go-on-more count used group more few over);
  written = λ g more. ap (sectors_from 1) (append_assoc r.groups (group ∷ []) (g ∷ more)) ∙ (r.written group (g ∷ more) ∙ whole g more);
  only = λ other n spelled. onward other n spelled (next-sector image at used count values r other n spelled);
}
  where
    whole : (g : List Value) (more : List (List Value)) → sectors_at image at count ++ sectors_from (count + 1) (group ∷ g ∷ more) ≡ sectors_at image at (suc count) ++ sectors_from (suc count + 1) (g ∷ more)
    whole g more =
        let place : count + 1 + 1 ≡ suc count + 1 = omega arith in
        ap₂ (λ s k. sectors_at image at count ++ s ∷ sectors_from k (g ∷ more)) (sym same) place
        ∙ (sym (append_assoc (sectors_at image at count) (sector image (at + count) ∷ []) (sectors_from (suc count + 1) (g ∷ more)))
        ∙ ap (λ t. t ++ sectors_from (suc count + 1) (g ∷ more)) (sym (at-more (sector image) at count)))

    onward : (other : List Value) (n : ℕ) (spelled : Spells other (sectors_at image at n)) → Next image at count n r.groups spelled.groups
        → (g : List Value) × (more : List (List Value)) × (spelled.groups ≡ (r.groups ++ group ∷ []) ++ g ∷ more)
    onward other n spelled next =
        let alike = sector-unique (count + 1) (count + 1 == 1) (is_none next.more) false next.group group next.storable storable (sym next.same ∙ same) in
        let rest = some_more next.more alike.0 in
        (rest.0, rest.1, next.parts ∙ (ap₂ (λ g more. r.groups ++ g ∷ more) alike.1 rest.2 ∙ sym (append_assoc r.groups (group ∷ []) (rest.0 ∷ rest.1))))

-- ---- the last sector was read

pub reading-end : (image : List ℕ) (at used count : ℕ) (values group : List Value) → Reading image at values used count → AllStorable group → fits_in_sector group ≡ true → follows count used group ≡ true
    → sector image (at + count) ≡ sector_of (sector_kind (count + 1 == 1) true) (count + 1) group → count < 255
    → Spells (values ++ group) (sectors_at image at (suc count))
reading-end image at used count values group r storable few over same within = record {
  groups = r.groups ++ group ∷ [];
  storable = storable-joined values group r.storable storable;
  all = joined-more r.groups (group ∷ []) ∙ ap₂ (λ a b. a ++ b) r.all (append-nil group);
  split = r.chain (group ∷ []) ∙ go-on-more count used group [] few over;
  few = omega (arith, length-append r.groups (group ∷ []), r.counted);
  same = r.written group [] ∙ (ap (λ s. sectors_at image at count ++ s ∷ []) (sym same) ∙ sym (at-more (sector image) at count));
}

-- ---- no record stands there

pub stops-full : (image : List ℕ) (at used count last : ℕ) (values : List Value) → Reading image at values used count → 255 ≤ count → IsNoRecord image at last
stops-full image at used count last values r full other n within spelled =
    let next = next-sector image at used count values r other n spelled in
    let parts = ap length next.parts ∙ length-append r.groups (next.group ∷ next.more) in
    omega (arith, parts, r.counted, spelled.few)

pub stops-outside : (image : List ℕ) (at used count last : ℕ) (values : List Value) → Reading image at values used count → last + 1 - at ≤ count → IsNoRecord image at last
stops-outside image at used count last values r full other n within spelled =
    let next = next-sector image at used count values r other n spelled in
    omega (arith, next.within, full, within)

pub stops-unspelled : (image : List ℕ) (at used count last : ℕ) (values : List Value) → Reading image at values used count
    → ((is_last : Bool) (group : List Value) → AllStorable group → sector image (at + count) ≡ sector_of (sector_kind (count + 1 == 1) is_last) (count + 1) group → ⊥) → IsNoRecord image at last
stops-unspelled image at used count last values r none other n within spelled =
    let next = next-sector image at used count values r other n spelled in
    none (is_none next.more) next.group next.storable next.same

goes-over : (count used : ℕ) (group : List Value) (more : List (List Value)) → 1 ≤ count → continues count used (group ∷ more) ≡ true → goes_over used group ≡ true
goes-over zero used group more some h = absurd (omega (arith, some))
goes-over (suc count) used group more some h = and-left (goes_over used group) (fits_in_sector group) (and-left (goes_over used group && fits_in_sector group) (go_on (length (group_bytes group)) more) h)

pub stops-short : (image : List ℕ) (at used count last : ℕ) (values group : List Value) (is_last : Bool) → Reading image at values used count → AllStorable group → 1 ≤ count → goes_over used group ≡ false
    → sector image (at + count) ≡ sector_of (sector_kind (count + 1 == 1) is_last) (count + 1) group → IsNoRecord image at last
stops-short image at used count last values group is_last r storable some short same other n within spelled =
    let next = next-sector image at used count values r other n spelled in
    let alike = sector-unique (count + 1) (count + 1 == 1) (is_none next.more) is_last next.group group next.storable storable (sym next.same ∙ same) in
    let split : is_record (r.groups ++ next.group ∷ next.more) ≡ true = ap is_record (sym next.parts) ∙ spelled.split in
    let over = goes-over count used next.group next.more some (sym (r.chain (next.group ∷ next.more)) ∙ split) in
    let here = ap (goes_over used) alike.1 in
    cc

-- ---- what follows, as the code asks

pub follows-from : (count used : ℕ) (group : List Value) → ((count == 0) || goes_over used group) ≡ true → follows count used group ≡ true
follows-from zero used group h = refl
follows-from (suc count) used group h = rw (ne_eqb (suc count) 0 (λ e. omega (arith, e))) at h

pub short-from : (count used : ℕ) (group : List Value) → ((count == 0) || goes_over used group) ≡ false → (1 ≤ count) × (goes_over used group ≡ false)
short-from zero used group h = cc
short-from (suc count) used group h = (omega arith, rw (ne_eqb (suc count) 0 (λ e. omega (arith, e))) at h)

pub stops-most : (image : List ℕ) (at used count last : ℕ) (values : List Value) → Reading image at values used count → min 255 (last + 1 - at) ≤ count → IsNoRecord image at last
stops-most image at used count last values r full other n within spelled =
    let next = next-sector image at used count values r other n spelled in
    let parts = ap length next.parts ∙ length-append r.groups (next.group ∷ next.more) in
    omega (arith, full, parts, r.counted, spelled.few, next.within, within)
