-- Why a new file is refused, by what the look-up and the search for a slot found.
use Rattle.std.proofs.Common.{◌≡◌, ℕ, ◌+◌, ◌<◌, ◌≤◌, Bool, true, false, not, ◌&&◌, cond, List, Option, Some, None, refl, sym, ap, ◌∙◌}
use Rattle.std.specs.Prelude.{is_some, is_none, nat_lt}
use Rattle.std.specs.Option.{option_map}
use Rattle.std.specs.Str.{bytes_eq}
use Rattle.std.specs.FinMap.{get}
use Rattle.std.proofs.lemmas.Bool.{lt-ltb, le-ltb}
use Rattle.b2_base.specs.declared.codes.TheConstants.{D83_NAME_PRESENT, D84_NOT_SCRATCHED, D85_INDEX_FULL, D86_NO_ROOM}
use Rattle.b2_platter.specs.Own.{end_of, next_of}
use Rattle.b2_catalog.specs.declared.entry.Entry.{Entry}
use Rattle.b2_catalog.specs.Catalogue.{entry_at, catalogue}
use Rattle.b2_catalog.specs.Ways.{slot_found, place}
use Rattle.b2_catalog.specs.Calls.{enter_refusal, old_refusal, reuse_refusal, reused_place}
use Rattle.b2_catalog.proofs.Mapping.{get-catalogue}

some_mapped : (f : ℕ → Entry) (o : Option ℕ) → is_some (option_map f o) ≡ is_some o
some_mapped f None = refl
some_mapped f (Some k) = refl

-- the catalogue has a name exactly where a slot does
pub present : (a name : List ℕ) → is_some (get (catalogue a) name) ≡ is_some (slot_found a name)
present a name = ap is_some (get-catalogue a name) ∙ some_mapped (entry_at a) (slot_found a name)

pub enter_present : (a name : List ℕ) (sectors : ℕ) → is_some (slot_found a name) ≡ true → enter_refusal a name sectors ≡ Some D83_NAME_PRESENT
enter_present a name sectors e =
    ap (λ (b : Bool). cond b (Some D83_NAME_PRESENT) (cond (is_none (place a name)) (Some D85_INDEX_FULL) (cond (nat_lt (end_of a) (next_of a + sectors)) (Some D86_NO_ROOM) None))) (present a name ∙ e)

new_name : (a name : List ℕ) (sectors : ℕ) → is_some (slot_found a name) ≡ false → enter_refusal a name sectors ≡ cond (is_none (place a name)) (Some D85_INDEX_FULL) (cond (nat_lt (end_of a) (next_of a + sectors)) (Some D86_NO_ROOM) None)
new_name a name sectors e =
    ap (λ (b : Bool). cond b (Some D83_NAME_PRESENT) (cond (is_none (place a name)) (Some D85_INDEX_FULL) (cond (nat_lt (end_of a) (next_of a + sectors)) (Some D86_NO_ROOM) None))) (present a name ∙ e)

pub enter_full : (a name : List ℕ) (sectors : ℕ) → is_some (slot_found a name) ≡ false → place a name ≡ None → enter_refusal a name sectors ≡ Some D85_INDEX_FULL
enter_full a name sectors e none =
    new_name a name sectors e ∙ ap (λ (o : Option ℕ). cond (is_none o) (Some D85_INDEX_FULL) (cond (nat_lt (end_of a) (next_of a + sectors)) (Some D86_NO_ROOM) None)) none

pub enter_short : (a name : List ℕ) (sectors k : ℕ) → is_some (slot_found a name) ≡ false → place a name ≡ Some k → end_of a < next_of a + sectors → enter_refusal a name sectors ≡ Some D86_NO_ROOM
enter_short a name sectors k e some short =
    new_name a name sectors e ∙ ap (λ (o : Option ℕ). cond (is_none o) (Some D85_INDEX_FULL) (cond (nat_lt (end_of a) (next_of a + sectors)) (Some D86_NO_ROOM) None)) some
    ∙ ap (λ (b : Bool). cond b (Some D86_NO_ROOM) None) (lt-ltb _ _ short)

pub enter_taken : (a name : List ℕ) (sectors k : ℕ) → is_some (slot_found a name) ≡ false → place a name ≡ Some k → next_of a + sectors ≤ end_of a → enter_refusal a name sectors ≡ None
enter_taken a name sectors k e some room =
    new_name a name sectors e ∙ ap (λ (o : Option ℕ). cond (is_none o) (Some D85_INDEX_FULL) (cond (nat_lt (end_of a) (next_of a + sectors)) (Some D86_NO_ROOM) None)) some
    ∙ ap (λ (b : Bool). cond b (Some D86_NO_ROOM) None) (le-ltb _ _ room)

no_slot : (o : Option ℕ) → is_some o ≡ false → o ≡ None
no_slot None e = refl
no_slot (Some k) e = cc

pub slot_none : (a name : List ℕ) → is_some (slot_found a name) ≡ false → slot_found a name ≡ None
slot_none a name e = no_slot (slot_found a name) e

-- the same of a file that is taken again
module _ (a old name : List ℕ) where
  taken_as : (not (bytes_eq old name) && is_some (get (catalogue a) name)) ≡ (not (bytes_eq old name) && is_some (slot_found a name))
  taken_as = ap (λ (b : Bool). not (bytes_eq old name) && b) (present a name)

  pub reuse_present : (not (bytes_eq old name) && is_some (slot_found a name)) ≡ true → reuse_refusal a old name ≡ Some D83_NAME_PRESENT
  reuse_present e = ap (λ (b : Bool). cond b (Some D83_NAME_PRESENT) (old_refusal (get (catalogue a) old) (not (bytes_eq old name) && is_none (place a name)))) (taken_as ∙ e)

  pub reuse_later : (not (bytes_eq old name) && is_some (slot_found a name)) ≡ false → reuse_refusal a old name ≡ old_refusal (get (catalogue a) old) (not (bytes_eq old name) && is_none (place a name))
  reuse_later e = ap (λ (b : Bool). cond b (Some D83_NAME_PRESENT) (old_refusal (get (catalogue a) old) (not (bytes_eq old name) && is_none (place a name)))) (taken_as ∙ e)

full_by_name : (same : Bool) (old_slot place : Option ℕ) (k : ℕ) → old_slot ≡ Some k → cond same old_slot place ≡ None → (not same && is_none place) ≡ true
full_by_name true old_slot place k is e = (let w : Some k ≡ None = sym is ∙ e in cc)
full_by_name false old_slot place k is e = ap is_none e

room_by_name : (same : Bool) (old_slot place : Option ℕ) (to : ℕ) → cond same old_slot place ≡ Some to → (not same && is_none place) ≡ false
room_by_name true old_slot place to e = refl
room_by_name false old_slot place to e = ap is_none e

pub reuse_full : (a old name : List ℕ) (k : ℕ) → slot_found a old ≡ Some k → reused_place a old name ≡ None → (not (bytes_eq old name) && is_none (place a name)) ≡ true
reuse_full a old name k is e = full_by_name (bytes_eq old name) (slot_found a old) (place a name) k is e

pub reuse_room : (a old name : List ℕ) (to : ℕ) → reused_place a old name ≡ Some to → (not (bytes_eq old name) && is_none (place a name)) ≡ false
reuse_room a old name to e = room_by_name (bytes_eq old name) (slot_found a old) (place a name) to e

pub old_live : (e : Entry) (full : Bool) → e.live ≡ true → old_refusal (Some e) full ≡ Some D84_NOT_SCRATCHED
old_live e full live = ap (λ (b : Bool). cond b (Some D84_NOT_SCRATCHED) (cond full (Some D85_INDEX_FULL) None)) live

pub old_full : (e : Entry) (full : Bool) → e.live ≡ false → full ≡ true → old_refusal (Some e) full ≡ Some D85_INDEX_FULL
old_full e full dead is = ap (λ (b : Bool). cond b (Some D84_NOT_SCRATCHED) (cond full (Some D85_INDEX_FULL) None)) dead ∙ ap (λ (b : Bool). cond b (Some D85_INDEX_FULL) None) is

pub old_taken : (e : Entry) (full : Bool) → e.live ≡ false → full ≡ false → old_refusal (Some e) full ≡ None
old_taken e full dead is = ap (λ (b : Bool). cond b (Some D84_NOT_SCRATCHED) (cond full (Some D85_INDEX_FULL) None)) dead ∙ ap (λ (b : Bool). cond b (Some D85_INDEX_FULL) None) is
