-- What a file that is made leaves: the index's length, and the sectors of other files; and a name at which it is put.
use Rattle.std.proofs.Common.{◌≡◌, ℕ, ◌+◌, ◌-◌, ◌≤◌, ◌&&◌, Bool, true, false, not, cond, List, length, Option, Some, None, Result, Ok, Err, IfOk, IfSome, OnOk, refl, sym, ap, subst, ◌∙◌, inl, inr, arith}
use Rattle.std.specs.Prelude.{is_some, is_none, nat_lt}
use Rattle.std.specs.Str.{bytes_eq}
use Rattle.std.specs.Cmp.Lexicographic.{nat_list_cmp_total}
use Rattle.std.specs.FinMap.{get, insert, get-insert, same_map, slice_cmp-IsAntisymmetric, nat_cmp-IsAntisymmetric}
use Rattle.std.proofs.lemmas.Bool.{ltb-false}
use Rattle.b2_base.specs.Names.{is_name8}
use Rattle.b2_base.specs.declared.codes.TheConstants.{D83_NAME_PRESENT, D84_NOT_SCRATCHED, D85_INDEX_FULL, D86_NO_ROOM}
use Rattle.b2_platter.specs.Image.{index_of, sector}
use Rattle.b2_platter.specs.Own.{end_of, next_of}
use Rattle.b2_platter.specs.Checks.{IsGood}
use Rattle.b2_catalog.specs.declared.entry.Entry.{Entry}
use Rattle.b2_catalog.specs.Catalogue.{Catalogue, catalogue}
use Rattle.b2_catalog.specs.Ways.{place, slot_found}
use Rattle.b2_catalog.specs.Changes.{entered, reused}
use Rattle.b2_catalog.specs.Calls.{enter_refusal, new_entry, old_refusal, reuse_refusal, reused_place}
use Rattle.b2_catalog.specs.Making.{KeepsOthers}
use Rattle.b2_catalog.proofs.DataSectors.{get-put}
use Rattle.b2_catalog.proofs.Entering.{entered_after, entered_head, entered_sectors}
use Rattle.b2_catalog.proofs.Looking.{IsSlotOf-from}
use Rattle.b2_catalog.proofs.Mapping.{tie-eq}
use Rattle.b2_catalog.proofs.Placing.{Placed-from}
use Rattle.b2_catalog.proofs.Refusals.{present, slot_none}
use Rattle.b2_catalog.proofs.Reusing.{Ready-from, reused_index, reused_sectors}

-- ---- a file is entered

pub refused-by : (b c : Bool) (o : Option ℕ) (x : ℕ) → cond b (Some x) o ≡ None → (b ≡ false) × (o ≡ None)
refused-by true c o x h = cc
refused-by false c o x h = (refl, h)

pub none-or : (o : Option ℕ) → is_none o ≡ false → (k : ℕ) × (o ≡ Some k)
none-or None h = cc
none-or (Some k) h = (k, refl)

-- what it says that a file is entered
pub record Enters (image name : List ℕ) (sectors : ℕ) : Type 0 where
  pub absent : slot_found image name ≡ None
  pub k : ℕ
  pub place_is : place image name ≡ Some k
  pub room : next_of image + sectors ≤ end_of image

pub enters : (image name : List ℕ) (sectors : ℕ) → enter_refusal image name sectors ≡ None → Enters image name sectors
enters image name sectors h =
    let first = refused-by (is_some (get (catalogue image) name)) true _ D83_NAME_PRESENT h in
    let second = refused-by (is_none (place image name)) true _ D85_INDEX_FULL first.1 in
    let third = refused-by (nat_lt (end_of image) (next_of image + sectors)) true None D86_NO_ROOM second.1 in
    let k = none-or (place image name) second.0 in
    record {
      absent = slot_none image name (sym (present image name) ∙ first.0);
      k = k.0;
      place_is = k.1;
      room = ltb-false (end_of image) (next_of image + sectors) third.0;
    }

-- ---- maps

put-twice-at : (files : Catalogue) (name : List ℕ) (e f : Entry) (q : List ℕ) (b : Bool) → bytes_eq name q ≡ b
    → cond b (Some f) (cond b (Some e) (get files q)) ≡ cond b (Some f) (get files q)
put-twice-at files name e f q true is = refl
put-twice-at files name e f q false is = refl

pub get-other : (files : Catalogue) (name q : List ℕ) (e : Entry) → get (insert files name e) q ≡ cond (bytes_eq name q) (Some e) (get files q)
get-other files name q e = get-insert nat_list_cmp_total files name e q ∙ ap (λ (t : Bool). cond t (Some e) (get files q)) (tie-eq q name)

-- what is put at a name twice is as put once
pub put-twice : (files : Catalogue) (name : List ℕ) (e f : Entry) → insert (insert files name e) name f ≡ insert files name f
put-twice files name e f =
    same_map nat_list_cmp_total (slice_cmp-IsAntisymmetric nat_cmp-IsAntisymmetric) (insert (insert files name e) name f) (insert files name f)
    (λ q. get-other (insert files name e) name q f ∙ (ap (λ (o : Option Entry). cond (bytes_eq name q) (Some f) o) (get-other files name q e)
    ∙ (put-twice-at files name e f q (bytes_eq name q) refl ∙ sym (get-other files name q f))))

pub file-there : (files new : Catalogue) (name : List ℕ) (r : Result Entry ℕ) → IfOk r (λ e. new ≡ insert files name e) → IfOk r (λ e. get new name ≡ Some e)
file-there files new name (Ok e) made = ap (λ m. get m name) made ∙ get-put files name e
file-there files new name (Err code) made = tt

-- ---- what stays

-- the index is as long as it was, and the sectors of other files are as before
pub record Stays (image new : List ℕ) (e : Entry) : Type 0 where
  pub index : index_of new ≡ index_of image
  pub others : KeepsOthers image new e

module _ (image : List ℕ) (good : IsGood image) (name : List ℕ) (legal : is_name8 name ≡ true) (eight : length name ≡ 8) (program : Bool) (new : List ℕ) where
  entered-by : (sectors : ℕ) → 2 ≤ sectors → (e : Entry) → enter_refusal image name sectors ≡ None → e ≡ new_entry image name program sectors
      → IfSome (place image name) (λ k. new ≡ entered image k name program sectors) → Stays image new e
  entered-by sectors some e allowed made is =
      let n = enters image name sectors allowed in
      let placed = Placed-from image good name n.k n.place_is in
      let same : new ≡ entered image n.k name program sectors = subst (λ (o : Option ℕ). IfSome o (λ k. new ≡ entered image k name program sectors)) n.place_is is in
      let start : e.start ≡ next_of image = ap (λ (f : Entry). f.start) made in
      let end : e.end ≡ next_of image + sectors - 1 = ap (λ (f : Entry). f.end) made in
      record {
        index = ap index_of same ∙ (entered_head image good name legal eight n.k placed n.absent program sectors some n.room).index;
        others = λ m low out. ap (λ (q : List ℕ). sector q m) same ∙ elim out as (λ _. sector (entered image n.k name program sectors) m ≡ sector image m) [
          | inl before ↦ entered_sectors image good name legal eight n.k placed n.absent program sectors some n.room m low (omega (arith, before, start, some))
          | inr after ↦ entered_after image good name legal eight n.k placed n.absent program sectors some n.room m (omega (arith, after, end))
        ];
      }

  pub entered-stays : (sectors : ℕ) → 2 ≤ sectors → (r : Result Entry ℕ) → IfOk r (λ e. (enter_refusal image name sectors ≡ None) × (e ≡ new_entry image name program sectors))
      → OnOk r (IfSome (place image name) (λ k. new ≡ entered image k name program sectors)) → IfOk r (λ e. Stays image new e)
  entered-stays sectors some (Ok e) ok is = entered-by sectors some e ok.0 ok.1 is
  entered-stays sectors some (Err code) ok is = tt

-- ---- a file that is taken again

pub old-parts : (o : Option Entry) (full : Bool) → old_refusal o full ≡ None → (is_some o ≡ true) × (full ≡ false)
old-parts None full h = cc
old-parts (Some e) full h =
    let first = refused-by e.live true (cond full (Some D85_INDEX_FULL) None) D84_NOT_SCRATCHED h in
    let second = refused-by full true None D85_INDEX_FULL first.1 in
    (refl, second.0)

pub slot-by : (image old : List ℕ) (o : Option ℕ) → slot_found image old ≡ o → is_some (get (catalogue image) old) ≡ true → (k : ℕ) × (slot_found image old ≡ Some k)
slot-by image old None is h = (let none : is_some (slot_found image old) ≡ true = sym (present image old) ∙ h in let bad : false ≡ true = sym (ap is_some is) ∙ none in cc)
slot-by image old (Some k) is h = (k, is)

pub goes-by : (same : Bool) (o p : Option ℕ) (k : ℕ) → o ≡ Some k → (not same && is_none p) ≡ false → (to : ℕ) × (cond same o p ≡ Some to)
goes-by true o p k is h = (k, is)
goes-by false o p k is h = none-or p h

module _ (image : List ℕ) (good : IsGood image) (old name : List ℕ) (legal : is_name8 name ≡ true) (eight : length name ≡ 8) (program : Bool) (new : List ℕ) where
  reused-by : (e : Entry) → reuse_refusal image old name ≡ None → IfSome (slot_found image old) (λ k. IfSome (reused_place image old name) (λ to. new ≡ reused image k to name program)) → Stays image new e
  reused-by e allowed is =
      let first = refused-by (not (bytes_eq old name) && is_some (get (catalogue image) name)) true (old_refusal (get (catalogue image) old) (not (bytes_eq old name) && is_none (place image name))) D83_NAME_PRESENT allowed in
      let parts = old-parts (get (catalogue image) old) (not (bytes_eq old name) && is_none (place image name)) first.1 in
      let k = slot-by image old (slot_found image old) refl parts.0 in
      let to = goes-by (bytes_eq old name) (slot_found image old) (place image name) k.0 k.1 parts.1 in
      let taken : (not (bytes_eq old name) && is_some (slot_found image name)) ≡ false = ap (λ (b : Bool). not (bytes_eq old name) && b) (sym (present image name)) ∙ first.0 in
      let ready = Ready-from image good old name k.0 to.0 k.1 taken to.1 in
      let at = IsSlotOf-from image old k.0 k.1 in
      let one = subst (λ (o : Option ℕ). IfSome o (λ k. IfSome (reused_place image old name) (λ to. new ≡ reused image k to name program))) k.1 is in
      let same : new ≡ reused image k.0 to.0 name program = subst (λ (o : Option ℕ). IfSome o (λ to. new ≡ reused image k.0 to name program)) to.1 one in
      record {
        index = ap index_of same ∙ reused_index image good old k.0 at name legal eight ready.alone to.0 ready.low ready.high ready.vacant ready.clear program;
        others = λ m low out. ap (λ (q : List ℕ). sector q m) same ∙ reused_sectors image good old k.0 at name legal eight ready.alone to.0 ready.low ready.high ready.vacant ready.clear program m low;
      }

  pub reused-stays : (r : Result Entry ℕ) (P : Entry → Type 0) → IfOk r (λ e. (reuse_refusal image old name ≡ None) × P e)
      → OnOk r (IfSome (slot_found image old) (λ k. IfSome (reused_place image old name) (λ to. new ≡ reused image k to name program))) → IfOk r (λ e. Stays image new e)
  reused-stays (Ok e) P ok is = reused-by e ok.0 is
  reused-stays (Err code) P ok is = tt

pub index-stays : (image new : List ℕ) (r : Result Entry ℕ) → IfOk r (λ e. Stays image new e) → OnOk r (index_of new ≡ index_of image)
index-stays image new (Ok e) s = s.index
index-stays image new (Err code) s = tt

pub others-stay : (image new : List ℕ) (r : Result Entry ℕ) → IfOk r (λ e. Stays image new e) → IfOk r (λ e. KeepsOthers image new e)
others-stay image new (Ok e) s = s.others
others-stay image new (Err code) s = tt
