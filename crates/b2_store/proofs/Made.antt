-- Files that are made: new ones, and scratched ones that are taken again; data files without records, programs, and copies.
use Rattle.std.proofs.Common.{◌≡◌, ◌⊎◌, ℕ, ◌+◌, ◌-◌, ◌≤◌, ◌&&◌, Bool, true, false, not, if◌then◌else◌, List, [], length, Option, Some, None, Ok, IfSome, refl, sym, ap, subst, ◌∙◌, inl, inr, arith}
use Rattle.std.specs.Prelude.{is_some, is_none, nat_lt}
use Rattle.std.specs.FinMap.{get, insert, remove}
use Rattle.std.specs.Str.{bytes_eq}
use Rattle.std.proofs.lemmas.Bool.{ltb-false}
use Rattle.b2_base.specs.declared.codes.TheConstants.{D82_NO_FILE, D83_NAME_PRESENT, D86_NO_ROOM}
use Rattle.b2_base.specs.declared.files.Slot.{Slot}
use Rattle.b2_platter.specs.Checks.{IsGood}
use Rattle.b2_platter.specs.Image.{row as slot_row}
use Rattle.b2_text.specs.Program.{Lines}
use Rattle.b2_catalog.specs.declared.entry.Entry.{Entry}
use Rattle.b2_catalog.specs.Calls.{enter_refusal, new_entry, old_refusal, reuse_refusal, reused_place}
use Rattle.b2_catalog.specs.Catalogue.{Catalogue, catalogue, entry_at}
use Rattle.b2_catalog.specs.Changes.{entered, reused}
use Rattle.b2_catalog.specs.Making.{MakesFile, make_refusal}
use Rattle.b2_catalog.specs.Ways.{place, slot_found}
use Rattle.b2_catalog.proofs.DataSectors.{get-put, in-image}
use Rattle.b2_catalog.proofs.Entering.{catalogue-entered, entered_good}
use Rattle.b2_catalog.proofs.FileMade.{allowed-ok, made-is}
use Rattle.b2_catalog.proofs.Looking.{Holds-from, IsSlotOf-from}
use Rattle.b2_catalog.proofs.MadeFiles.{enters, entered-stays, goes-by, old-parts, refused-by, reused-stays, slot-by}
use Rattle.b2_catalog.proofs.Maps.{get-at}
use Rattle.b2_catalog.proofs.Placing.{Placed-from}
use Rattle.b2_catalog.proofs.Refusals.{present}
use Rattle.b2_catalog.proofs.Reusing.{Ready-from, catalogue-reused, reused_good}
use Rattle.b2_catalog.proofs.Scratching.{stands}
use Rattle.b2_datafile.specs.Files.{IsWhole, new_opened, with_end}
use Rattle.b2_datafile.specs.Laws.{EndsAt}
use Rattle.b2_datafile.specs.Slots.{opened}
use Rattle.b2_datafile.proofs.Saved.{new-there, new-whole}
use Rattle.b2_progfile.specs.Moving.{IsLiveFile, all_sectors, file_refusal, with_copy}
use Rattle.b2_progfile.specs.Programs.{program_bytes}
use Rattle.b2_progfile.specs.Saving.{file_filled, pieces_count, program_saved, program_sectors, save_refusal, size_refusal, or_then}
use Rattle.b2_progfile.proofs.Copying.{copied}
use Rattle.b2_progfile.proofs.Files.{entry-name}
use Rattle.b2_progfile.proofs.FromFunctions.{program-saves}
use Rattle.b2_progfile.proofs.Functions.{make-allowed}
use Rattle.b2_progfile.proofs.Pieces.{pieces-length, pieces-long, program-some}
use Rattle.b2_access.specs.declared.accesses.Access.TheVariants as access
use Rattle.b2_access.specs.declared.accesses.Answer.TheVariants as answer
use Rattle.b2_access.specs.AccessRows.{no_file, row}
use Rattle.b2_access.specs.AnswerKinds.{stops}
use Rattle.b2_access.specs.Stopping.{first_other, first_there, inside_edited}
use Rattle.b2_access.specs.Touching.{IsLegal, IsName}
use Rattle.b2_store.specs.Files.{MadeFilesAreEmpty}
use Rattle.b2_store.specs.FileWork.{entry_moved, new_file}
use Rattle.b2_store.proofs.Answered.{as-made-is, new-parts, ok-same}
use Rattle.b2_store.proofs.Kept.{Keeps, apart, end-keeps, fill-keeps, get-elsewhere, get-removed, keeps-both, stands-in}
use Rattle.b2_store.proofs.Served.{changed-by}

-- the names that making a file is about
abbrev pub MadeOf : Option (List ℕ) → List ℕ → List ℕ → Type 0
MadeOf old name q = (name ≡ q) ⊎ (old ≡ Some q)

-- a live file is in another image, of which all other files are as they were
pub record IsMade (image between : List ℕ) (old : Option (List ℕ)) (name : List ℕ) (program : Bool) (e : Entry) : Type 0 where
  pub keeps : Keeps image between (MadeOf old name)
  pub file : get (catalogue between) e.name ≡ Some e
  pub named : e.name ≡ name
  pub live : e.live ≡ true
  pub kind : e.program ≡ program

module _ (image : List ℕ) (good : IsGood image) (name : List ℕ) (is_name : IsName name) (program : Bool) (sectors : ℕ) (between : List ℕ) (e : Entry) where
  made-new : 2 ≤ sectors → enter_refusal image name sectors ≡ None → MakesFile image None name program sectors between e → IsMade image between None name program e
  made-new some allowed made =
      let n = enters image name sectors allowed in
      let new = new_entry image name program sectors in
      let placed = Placed-from image good name n.k n.place_is in
      let same : between ≡ entered image n.k name program sectors = subst (λ (o : Option ℕ). IfSome o (λ k. between ≡ entered image k name program sectors)) n.place_is made.1 in
      let files : catalogue between ≡ insert (catalogue image) name new = ap catalogue same ∙ catalogue-entered image good name is_name.0 is_name.1 n.k placed n.absent program sectors some n.room in
      let good_now : IsGood between = subst (λ (q : List ℕ). IsGood q) (sym same) (entered_good image good name is_name.0 is_name.1 n.k placed n.absent program sectors some n.room) in
      let stays = entered-stays image good name is_name.0 is_name.1 program between sectors some (Ok e) (allowed, made.0) made.1 in
      let named : e.name ≡ name = ap (λ (x : Entry). x.name) made.0 in
      let file : get (catalogue between) e.name ≡ Some e = ap (λ (m : Catalogue). get m e.name) files ∙ (ap (get (insert (catalogue image) name new)) named ∙ (get-put (catalogue image) name new ∙ ap Some (sym made.0))) in
      record {
        keeps = record {
          good = good_now;
          index = stays.index;
          others = λ f there other.
              let still : get (catalogue between) f.name ≡ Some f = ap (λ (m : Catalogue). get m f.name) files ∙ (get-elsewhere (catalogue image) name f.name new (λ is. other (inl is)) ∙ there) in
              let stands = (stands-in image good f there).low in
              record { file = still; sectors = λ n low high. stays.others n (omega (arith, low, stands)) (apart between good_now e f file still (λ is. other (inl (sym named ∙ is))) n low high) };
        };
        file = file;
        named = named;
        live = ap (λ (x : Entry). x.live) made.0;
        kind = ap (λ (x : Entry). x.program) made.0;
      }

  made-again : (old : List ℕ) → reuse_refusal image old name ≡ None → MakesFile image (Some old) name program sectors between e → IsMade image between (Some old) name program e
  made-again old allowed made =
      let first = refused-by (not (bytes_eq old name) && is_some (get (catalogue image) name)) true (old_refusal (get (catalogue image) old) (not (bytes_eq old name) && is_none (place image name))) D83_NAME_PRESENT allowed in
      let parts = old-parts (get (catalogue image) old) (not (bytes_eq old name) && is_none (place image name)) first.1 in
      let k = slot-by image old (slot_found image old) refl parts.0 in
      let to = goes-by (bytes_eq old name) (slot_found image old) (place image name) k.0 k.1 parts.1 in
      let taken : (not (bytes_eq old name) && is_some (slot_found image name)) ≡ false = ap (λ (b : Bool). not (bytes_eq old name) && b) (sym (present image name)) ∙ first.0 in
      let ready = Ready-from image good old name k.0 to.0 k.1 taken to.1 in
      let at = IsSlotOf-from image old k.0 k.1 in
      let new : Entry = record (entry_at image k.0) { name = name; live = true; program = program } in
      let one = subst (λ (o : Option ℕ). IfSome o (λ k. IfSome (reused_place image old name) (λ to. between ≡ reused image k to name program))) k.1 made.1 in
      let same : between ≡ reused image k.0 to.0 name program = subst (λ (o : Option ℕ). IfSome o (λ to. between ≡ reused image k.0 to name program)) to.1 one in
      let files : catalogue between ≡ insert (remove (catalogue image) old) name new =
      ap catalogue same ∙ catalogue-reused image good old k.0 at name is_name.0 is_name.1 ready.alone to.0 ready.low ready.high ready.vacant ready.clear program in
      let good_now : IsGood between = subst (λ (q : List ℕ). IsGood q) (sym same) (reused_good image good old k.0 at name is_name.0 is_name.1 ready.alone to.0 ready.low ready.high ready.vacant ready.clear program) in
      let is : e ≡ new = subst (λ (o : Option Entry). IfSome o (λ was. e ≡ record was { name = name; live = true; program = program })) (get-at image good old k.0 at) made.0 in
      let stays = reused-stays image good old name is_name.0 is_name.1 program between (Ok e) (λ _. Unit {0}) (allowed, tt) made.1 in
      let named : e.name ≡ name = ap (λ (x : Entry). x.name) is in
      let file : get (catalogue between) e.name ≡ Some e =
      ap (λ (m : Catalogue). get m e.name) files ∙ (ap (get (insert (remove (catalogue image) old) name new)) named ∙ (get-put (remove (catalogue image) old) name new ∙ ap Some (sym is))) in
      record {
        keeps = record {
          good = good_now;
          index = stays.index;
          others = λ f there other.
              let still : get (catalogue between) f.name ≡ Some f =
              ap (λ (m : Catalogue). get m f.name) files
              ∙ (get-elsewhere (remove (catalogue image) old) name f.name new (λ same. other (inl same)) ∙ (get-removed (catalogue image) old f.name (λ same. other (inr (ap Some same))) ∙ there)) in
              let stands = (stands-in image good f there).low in
              record { file = still; sectors = λ n low high. stays.others n (omega (arith, low, stands)) (apart between good_now e f file still (λ same. other (inl (sym named ∙ same))) n low high) };
        };
        file = file;
        named = named;
        live = ap (λ (x : Entry). x.live) is;
        kind = ap (λ (x : Entry). x.program) is;
      }

  pub made-so : (old : Option (List ℕ)) → (old ≡ None → 2 ≤ sectors) → make_refusal image old name sectors ≡ None → MakesFile image old name program sectors between e → IsMade image between old name program e
  made-so None some allowed made = made-new (some refl) allowed made
  made-so (Some old) some allowed made = made-again old allowed made

-- ---- a data file without records

pub record IsNew (image new : List ℕ) (addr : List ℕ) (old : Option (List ℕ)) (name : List ℕ) (slot : Slot) : Type 0 where
  pub e : Entry
  pub slot_is : slot ≡ opened addr e
  pub keeps : Keeps image new (MadeOf old name)
  pub file : get (catalogue new) e.name ≡ Some e
  pub live : e.live ≡ true
  pub of_data : e.program ≡ false
  pub whole : IsWhole new e []

legal-new : (addr : List ℕ) (old : Option (List ℕ)) (sectors : ℕ) (name : List ℕ) → IsLegal (access.DataNew addr old sectors name) → IsName name × (old ≡ None → 2 ≤ sectors)
legal-new addr None sectors name legal = (legal.1, λ is. legal.0)
legal-new addr (Some old) sectors name legal = (legal, λ is. (let never : Some old ≡ None = is in cc))

pub new-data : (image addr : List ℕ) (old : Option (List ℕ)) (sectors : ℕ) (name new : List ℕ) (slot : Slot) → IsGood image → IsLegal (access.DataNew addr old sectors name)
    → new_opened image addr old sectors name ≡ Ok (new, slot) → IsNew image new addr old name slot
new-data image addr old sectors name new slot good legal h =
    let (is_name, some) = legal-new addr old sectors name legal in
    let p = new-parts image addr old sectors name new slot h in
    let between = p.0.0 in
    let e = p.0.1 in
    let made = made-is image old name false sectors between e p.1 in
    let m = made-so image good name is_name false sectors between e old some made.0 made.1 in
    let order = (in-image between e.name e m.keeps.good m.file).order in
    let at : EndsAt between e e.start = record { good = m.keeps.good; file = m.file; low = omega arith; high = order } in
    let used : Entry = record e { used = 1 } in
    let P : List ℕ → Type 0 = λ q. MadeOf old name q in
    subst (λ (q : List ℕ). IsNew image q addr old name slot) (sym p.2)
    (record {
      e = used;
      slot_is = p.3;
      keeps = keeps-both image between (with_end between e e.start) P (λ q. e.name ≡ q) (λ q is. inl (sym m.named ∙ is)) m.keeps (end-keeps between e e.start at);
      file = new-there between e.name e m.keeps.good m.file refl;
      live = m.live;
      of_data = m.kind;
      whole = new-whole between e m.keeps.good m.file;
    })

same-slot : (a b : Slot) → answer.Opened a ≡ answer.Opened b → a ≡ b
same-slot a b h = cc

pub made-empty : MadeFilesAreEmpty
made-empty who addr old sectors name image slot s legal there good told =
    let a = access.DataNew addr old sectors name in
    let b = changed-by s addr image there (answer.Opened (no_file addr name)) (λ m. m.image) (λ m. answer.Opened m.told) (new_file addr old sectors name)
    (first_other who (first_there (row a).reach s)) (inside_edited who (row a).reach.text s) (ap stops told) in
    let n = new-data image addr old sectors name b.new.image b.new.told good legal (as-made-is (new_opened image addr old sectors name) b.new b.is) in
    let same : slot ≡ b.new.told = same-slot slot b.new.told (sym told ∙ b.told) in
    (n.e, same ∙ n.slot_is, (b.new.image, record { there = b.there; good = n.keeps.good; file = n.file; live = n.live; of_data = n.of_data }, n.whole))

-- ---- a program that is saved

size-room : (o : Option Entry) (count : ℕ) (e : Entry) → size_refusal o count ≡ None → o ≡ Some e → count ≤ e.end - e.start
size-room None count e h is = cc
size-room (Some f) count e h is =
    let first = refused-by (nat_lt (f.end - f.start) count) true None D86_NO_ROOM h in
    let room = ltb-false (f.end - f.start) count first.0 in
    let same : f ≡ e = cc in subst (λ (x : Entry). count ≤ x.end - x.start) same room

then-none : (a b : Option ℕ) → or_then a b ≡ None → b ≡ None
then-none None b h = h
then-none (Some code) b h = cc

old-by : (image old name : List ℕ) (program : Bool) (count : ℕ) (e : Entry) (o : Option Entry) → get (catalogue image) old ≡ o → IfSome o (λ was. e ≡ record was { name = name; live = true; program = program }) → size_refusal o count ≡ None → is_some o ≡ true
    → count ≤ e.end - e.start
old-by image old name program count e None is made h there = cc
old-by image old name program count e (Some was) is made h there =
    let room = size-room (Some was) count was h refl in
    let start = ap (λ (x : Entry). x.start) made in
    let end = ap (λ (x : Entry). x.end) made in
    omega (arith, room, start, end)

room-by : (image : List ℕ) (old : Option (List ℕ)) (name : List ℕ) (program : Bool) (count : ℕ) (between : List ℕ) (e : Entry) → 1 ≤ count → save_refusal image old name count ≡ None
    → MakesFile image old name program (count + 1) between e → count ≤ e.end - e.start
room-by image None name program count between e some allowed made =
    let start = ap (λ (x : Entry). x.start) made.0 in
    let end = ap (λ (x : Entry). x.end) made.0 in
    omega (arith, start, end)
room-by image (Some old) name program count between e some allowed made =
    let first = refused-by (not (bytes_eq old name) && is_some (get (catalogue image) name)) true (old_refusal (get (catalogue image) old) (not (bytes_eq old name) && is_none (place image name))) D83_NAME_PRESENT (make-allowed image (Some old) name count allowed) in
    let parts = old-parts (get (catalogue image) old) (not (bytes_eq old name) && is_none (place image name)) first.1 in
    old-by image old name program count e (get (catalogue image) old) refl made.0 (then-none (reuse_refusal image old name) (size_refusal (get (catalogue image) old) count) allowed) parts.0

pub program-keeps : (image : List ℕ) (old : Option (List ℕ)) (name : List ℕ) (lines : Lines) (new : List ℕ) → IsGood image → IsName name → program_saved image old name lines ≡ Ok new → Keeps image new (MadeOf old name)
program-keeps image old name lines new good is_name h =
    let saved = program-saves image old name lines new h in
    let sectors = program_sectors lines in
    let count = length sectors in
    let p = saved.1 in
    let long = pieces-long (program_bytes lines) in
    let bytes = program-some lines in
    let n : count ≡ pieces_count (program_bytes lines) = pieces-length (program_bytes lines) in
    let some : 1 ≤ count = omega (arith, n, bytes) in
    let m = made-so image good name is_name true (count + 1) p.between p.e old (λ _. omega (arith, some)) (make-allowed image old name count saved.0) p.made in
    let order = (in-image p.between p.e.name p.e m.keeps.good m.file).order in
    let room = room-by image old name true count p.between p.e some saved.0 p.made in
    subst (λ (q : List ℕ). Keeps image q (MadeOf old name)) (sym p.same)
    (keeps-both image p.between (file_filled p.between p.e.start p.e.end sectors) (MadeOf old name) (λ q. p.e.name ≡ q) (λ q is. inl (sym m.named ∙ is)) m.keeps
    (fill-keeps p.between p.e sectors count m.keeps.good m.file long (omega (arith, room, order)) some room))

-- ---- a copy of a file of another image

pub name-kept : (from name : List ℕ) (e : Entry) → get (catalogue from) name ≡ Some e → e.name ≡ name
name-kept from name e there =
    let w = stands from name e there in
    ap (λ (x : Entry). x.name) w.1.is ∙ (entry-name from w.0 ∙ (Holds-from name (slot_row from w.0) w.1.at.held).same)

copy-keeps : (from image : List ℕ) (e : Entry) → IsGood from → IsGood image → IsLiveFile from e → enter_refusal image e.name (all_sectors e) ≡ None → Keeps image (with_copy from image e) (λ q. e.name ≡ q)
copy-keeps from image e source good live allowed =
    let c = copied from image e source good live (enters image e.name (all_sectors e) allowed) in
    record {
      good = c.good;
      index = c.index;
      others = λ f there other.
          let s = stands-in image good f there in
          let s_low = s.low in
          let s_high = s.high in
          record {
            file = ap (λ (m : Catalogue). get m f.name) c.files ∙ (get-elsewhere (catalogue image) e.name f.name _ other ∙ there);
            sectors = λ n low high. c.before n (omega (arith, low, s_low)) (omega (arith, high, s_high));
          };
    }

live-by : (b : Bool) (o : Option ℕ) → (if not b then Some D82_NO_FILE else o) ≡ None → (b ≡ true) × (o ≡ None)
live-by true o h = (refl, h)
live-by false o h = cc

moved-keeps : (from image name : List ℕ) (o : Option Entry) (new : List ℕ) → IsGood from → IsGood image → get (catalogue from) name ≡ o → entry_moved from o image ≡ Ok new → Keeps image new (λ q. name ≡ q)
moved-keeps from image name None new source good is h = cc
moved-keeps from image name (Some e) new source good is h =
    let parts = allowed-ok (file_refusal (Some e) image) (Ok (with_copy from image e)) new h in
    let both = live-by e.live (enter_refusal image e.name (all_sectors e)) parts.0 in
    let named = name-kept from name e is in
    let live : IsLiveFile from e = record { there = ap (get (catalogue from)) named ∙ is; live = both.0 } in
    let made = copy-keeps from image e source good live both.1 in
    subst (λ (q : List ℕ). Keeps image q (λ q. name ≡ q)) (ok-same _ _ parts.1)
    (subst (λ (n : List ℕ). Keeps image (with_copy from image e) (λ q. n ≡ q)) named made)

pub file-keeps : (from image name new : List ℕ) → IsGood from → IsGood image → entry_moved from (get (catalogue from) name) image ≡ Ok new → Keeps image new (λ q. name ≡ q)
file-keeps from image name new source good h = moved-keeps from image name (get (catalogue from) name) new source good refl h
