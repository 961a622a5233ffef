-- The answers of disks to accesses at data files fit what was asked.
use Rattle.std.proofs.Common.{◌≡◌, ℕ, zero, suc, ◌+◌, ◌-◌, ◌≤◌, ◌==◌, ◌&&◌, Bool, true, false, not, min, if◌then◌else◌, List, [], ◌∷◌, length, take, Option, Some, None, Result, Ok, Err, refl, sym, ap, subst, inl, inr, arith}
use Rattle.std.specs.FinMap.{get}
use Rattle.std.proofs.lemmas.Bool.{and_parts, eqb-true}
use Rattle.b2_base.specs.declared.files.By.{By}
use Rattle.b2_base.specs.declared.files.By.TheVariants as by
use Rattle.b2_base.specs.declared.files.Slot.{Slot}
use Rattle.b2_dec.specs.declared.values.Kind.{Kind}
use Rattle.b2_dec.specs.declared.values.Kind.TheVariants as kind
use Rattle.b2_dec.specs.declared.values.Value.{Value}
use Rattle.b2_dec.specs.declared.values.Value.TheVariants as value
use Rattle.b2_platter.specs.Checks.{IsGood}
use Rattle.b2_platter.specs.Edits.{put_from}
use Rattle.b2_catalog.specs.declared.entry.Entry.{Entry}
use Rattle.b2_catalog.specs.Catalogue.{catalogue}
use Rattle.b2_catalog.specs.Making.{file_made}
use Rattle.b2_catalog.proofs.DataSectors.{InImage, in-image}
use Rattle.b2_catalog.proofs.FileMade.{allowed-ok}
use Rattle.b2_record.specs.Writing.{record_of}
use Rattle.b2_datafile.specs.Files.{emptied_and_opened, new_opened, with_end}
use Rattle.b2_platter.specs.Own.{sectors_of}
use Rattle.b2_record.specs.Asking.{agree, is_of}
use Rattle.b2_record.specs.Reading.{record_at}
use Rattle.b2_record.proofs.Fitting.{FirstOf}
use Rattle.b2_datafile.specs.Loading.{values_loaded}
use Rattle.b2_datafile.specs.Moving.{Ahead, Behind, Moves}
use Rattle.b2_datafile.specs.Slots.{file_of, open_file, open_refusal, opened, write_refusal}
use Rattle.b2_datafile.proofs.FromFunctions.{place-goes, some-loaded}
use Rattle.b2_raw.proofs.ReadBack.{block-long, loaded-some}
use Rattle.b2_raw.specs.Raw.{loaded}
use Rattle.b2_access.specs.declared.accesses.Access.{Access}
use Rattle.b2_access.specs.declared.accesses.Access.TheVariants as access
use Rattle.b2_access.specs.declared.accesses.Answer.{Answer}
use Rattle.b2_access.specs.declared.accesses.Answer.TheVariants as answer
use Rattle.b2_access.specs.declared.objects.Object.TheVariants as object
use Rattle.b2_access.specs.AccessRows.{holder_at, loaded_answer, no_block, no_file, reach, row}
use Rattle.b2_access.specs.Disks.{Loaded, Made}
use Rattle.b2_access.specs.Fitting.{AnswerFits, AnswersFit, AreOfKinds, IsOfKind, IsOpenOn}
use Rattle.b2_access.specs.Serving.{itself, performs, unless_stopped}
use Rattle.b2_access.specs.Sharing.{Gives}
use Rattle.b2_access.specs.Stopping.{first_other, first_there, inside_edited, stop}
use Rattle.b2_access.specs.Store.{StoreState, content}
use Rattle.b2_access.specs.Touching.{IsLegal}
use Rattle.b2_access.proofs.Fitting.{change_fits, finding_fits, unless_fits}
use Rattle.b2_store.specs.Asked.{IsGoodIfRead, IsGoodIfSkipped}
use Rattle.b2_store.specs.DiskWork.{disks, serves}
use Rattle.b2_store.specs.FileWork.{as_made, block_loaded, entry_ended, entry_opened, file_ended, file_opened, loaded_or, new_file, place_skipped, raw_loaded, record_loaded, record_saved}

pub ok-same : {A : Type 0} (x y : A) → ◌≡◌ {A = Result A ℕ} (Ok x) (Ok y) → x ≡ y
ok-same x y h = cc

-- ---- a slot's file

pub record IsFileOf (image : List ℕ) (slot : Slot) (e : Entry) : Type 0 where
  pub file : get (catalogue image) slot.name ≡ Some e
  pub live : e.live ≡ true
  pub of_data : e.program ≡ false
  pub start : e.start ≡ slot.start

not-true : (b : Bool) → not b ≡ true → b ≡ false
not-true true h = cc
not-true false h = refl

file-by : (image : List ℕ) (slot : Slot) (e : Entry) (o : Option Entry) → get (catalogue image) slot.name ≡ o → open_file o slot.start ≡ Some e → IsFileOf image slot e
file-by image slot e None is h = cc
file-by image slot e (Some f) is h = by_test (f.live && not f.program && (f.start == slot.start)) refl h
  where
    by_test : (b : Bool) → (f.live && not f.program && (f.start == slot.start)) ≡ b → (if b then Some f else None) ≡ Some e → IsFileOf image slot e
    by_test true all same =
        let first = and_parts (f.live && not f.program) (f.start == slot.start) all in
        let second = and_parts f.live (not f.program) first.0 in
        let one : f ≡ e = cc in
        subst (IsFileOf image slot) one (record { file = is; live = second.0; of_data = not-true f.program second.1; start = eqb-true f.start slot.start first.1 })
    by_test false all same = cc

pub file-parts : (image : List ℕ) (slot : Slot) (e : Entry) → file_of image slot ≡ Some e → IsFileOf image slot e
file-parts image slot e h = file-by image slot e (get (catalogue image) slot.name) refl h

-- ---- files that are opened

pub as-made-is : {Told : Type 0} (r : Result (List ℕ × Told) ℕ) (m : Made Told) → as_made r ≡ Ok m → r ≡ Ok (m.image, m.told)
as-made-is (Ok made) m h = let same : record { image = made.0; told = made.1 } ≡ m = ok-same _ _ h in ap (λ (x : Made _). Ok (x.image, x.told)) same
as-made-is (Err code) m h = cc

opened-parts : (addr : List ℕ) (r : Result (List ℕ × Entry) ℕ) (new : List ℕ) (slot : Slot) → emptied_and_opened addr r ≡ Ok (new, slot)
    → (made : List ℕ × Entry) × (r ≡ Ok made) × (new ≡ with_end made.0 made.1 made.1.start) × (slot ≡ opened addr made.1)
opened-parts addr (Ok made) new slot h =
    let same : (with_end made.0 made.1 made.1.start, opened addr made.1) ≡ (new, slot) = ok-same _ _ h in
    (made, refl, sym (ap (λ (p : List ℕ × Slot). p.0) same), sym (ap (λ (p : List ℕ × Slot). p.1) same))
opened-parts addr (Err code) new slot h = cc

pub new-parts : (image addr : List ℕ) (old : Option (List ℕ)) (sectors : ℕ) (name new : List ℕ) (slot : Slot) → new_opened image addr old sectors name ≡ Ok (new, slot)
    → (made : List ℕ × Entry) × (file_made image old name false sectors ≡ Ok made) × (new ≡ with_end made.0 made.1 made.1.start) × (slot ≡ opened addr made.1)
unfolding new_opened
new-parts image addr old sectors name new slot h = opened-parts addr _ new slot h

is-open : (addr : List ℕ) (slot : Slot) (e : Entry) → slot ≡ opened addr e → IsOpenOn addr slot
is-open addr slot e is = subst (IsOpenOn addr) (sym is) (refl, omega arith)

found-open : (addr : List ℕ) (o : Option Entry) (slot : Slot) → entry_opened addr o ≡ Ok slot → IsOpenOn addr slot
found-open addr None slot h = cc
found-open addr (Some e) slot h = is-open addr slot e (sym (ok-same _ _ (allowed-ok (open_refusal (Some e)) (Ok (opened addr e)) slot h).1))

-- ---- places

ahead-low : (image : List ℕ) (e : Entry) (count from to : ℕ) → Ahead image e count from to → from ≤ to
ahead-low image e zero from to h = omega (arith, h)
ahead-low image e (suc count) from to (inl h) = let same = h.1 in omega (arith, same)
ahead-low image e (suc count) from to (inr h) = let rest = ahead-low image e count (from + h.1) to h.4 in omega (arith, rest)

behind-low : (image : List ℕ) (e : Entry) (count from to : ℕ) → e.start ≤ from → Behind image e count from to → e.start ≤ to
behind-low image e zero from to low h = omega (arith, low, h)
behind-low image e (suc count) from to low (inl h) = let same = h.1 in omega (arith, low, same)
behind-low image e (suc count) from to low (inr h) = let within = h.3.within in behind-low image e count (from - h.1) to (omega (arith, within)) h.4

least : (a b c : ℕ) → a ≤ b → a ≤ c → a ≤ min b c
least a b c h k = grind arith

moves-low : (image : List ℕ) (e : Entry) (pos : ℕ) (way : By) (to : ℕ) → InImage image e → e.start ≤ pos → Moves image e pos way to → e.start ≤ to
moves-low image e pos (by.Forward count) to inside low h =
    let order = inside.order in
    let first = least e.start pos e.end low (omega (arith, order)) in
    let rest = ahead-low image e count (min pos e.end) to h in omega (arith, first, rest)
moves-low image e pos (by.Back count) to inside low h =
    let order = inside.order in
    behind-low image e count (min pos e.end) to (least e.start pos e.end low (omega (arith, order))) h
moves-low image e pos by.Begin to inside low h = omega (arith, h)
moves-low image e pos by.End to inside low h = let used = inside.used in omega (arith, h, used)

pub skip-low : (image : List ℕ) (slot : Slot) (way : By) (to : ℕ) → IsGood image → slot.start ≤ slot.pos → place_skipped slot way image ≡ Ok to → slot.start ≤ to
skip-low image slot way to good low h =
    let m = place-goes image slot way to h in
    let f = file-parts image slot m.0 m.1 in
    let start = f.start in
    let rest = moves-low image m.0 slot.pos way to (in-image image slot.name m.0 good f.file) (omega (arith, start, low)) m.2 in
    omega (arith, start, rest)

pub save-told : (slot : Slot) (values : List Value) (image : List ℕ) (m : Made ℕ) → record_saved slot values image ≡ Ok m
    → (write_refusal (file_of image slot) slot.pos (length (record_of values)) ≡ None) × (m ≡ record { image = put_from image slot.pos (record_of values); told = slot.pos + length (record_of values) })
save-told slot values image m h =
    let parts = allowed-ok (write_refusal (file_of image slot) slot.pos (length (record_of values))) (Ok (record { image = put_from image slot.pos (record_of values); told = slot.pos + length (record_of values) })) m h in
    (parts.0, sym (ok-same _ _ parts.1))

pub end-told : (slot : Slot) (image : List ℕ) (o : Option Entry) (m : Made ℕ) → entry_ended slot image o ≡ Ok m
    → (e : Entry) × (o ≡ Some e) × (write_refusal (Some e) slot.pos 1 ≡ None) × (m ≡ record { image = with_end image e slot.pos; told = slot.pos })
end-told slot image None m h = cc
end-told slot image (Some e) m h =
    let parts = allowed-ok (write_refusal (Some e) slot.pos 1) (Ok (record { image = with_end image e slot.pos; told = slot.pos })) m h in
    (e, refl, parts.0, sym (ok-same _ _ parts.1))

save-low : (slot : Slot) (values : List Value) (image : List ℕ) (m : Made ℕ) → slot.start ≤ slot.pos → record_saved slot values image ≡ Ok m → slot.start ≤ m.told
save-low slot values image m low h = let told = ap (λ (x : Made ℕ). x.told) (save-told slot values image m h).1 in omega (arith, low, told)

end-low : (slot : Slot) (image : List ℕ) (m : Made ℕ) → slot.start ≤ slot.pos → file_ended slot image ≡ Ok m → slot.start ≤ m.told
end-low slot image m low h = let told = ap (λ (x : Made ℕ). x.told) (end-told slot image (file_of image slot) m h).3 in omega (arith, low, told)

-- ---- values

of-kind : (k : Kind) (v : Value) → is_of k v ≡ true → IsOfKind k v
of-kind kind.Number (value.Number x) h = tt
of-kind kind.Number (value.Alpha bytes) h = cc
of-kind kind.Alpha (value.Number x) h = cc
of-kind kind.Alpha (value.Alpha bytes) h = tt

kinds-are : (kinds : List Kind) (values : List Value) → agree kinds values ≡ true → length kinds ≤ length values → AreOfKinds kinds (take (length kinds) values)
kinds-are [] values fit enough = tt
kinds-are (k ∷ kinds) [] fit enough = absurd (omega (arith, enough))
kinds-are (k ∷ kinds) (v ∷ values) fit enough =
    let parts = and_parts (is_of k v) (agree kinds values) fit in (of-kind k v parts.0, kinds-are kinds values parts.1 (omega (arith, enough)))

pub loaded-is : (r : Result (Option (List Value × ℕ)) ℕ) (l : Loaded) → loaded_or r ≡ Ok (Some l) → r ≡ Ok (Some (l.values, l.place))
loaded-is (Ok None) l h = cc
loaded-is (Ok (Some found)) l h =
    let same : record { values = found.0; place = found.1 } ≡ l = cc in ap (λ (x : Loaded). Ok (Some (x.values, x.place))) same
loaded-is (Err code) l h = cc

load-fits : (slot : Slot) (kinds : List Kind) (image : List ℕ) (o : Option Loaded) → slot.start ≤ slot.pos → record_loaded slot kinds image ≡ Ok o → AnswerFits (access.DataLoad slot kinds) (loaded_answer o)
load-fits slot kinds image None low h = tt
load-fits slot kinds image (Some l) low h =
    let r = (some-loaded image slot kinds (l.values, l.place) (loaded-is (values_loaded image slot kinds) l h)).3 in
    let after = r.after in
    (subst (AreOfKinds kinds) (sym r.first_ones) (kinds-are kinds r.values r.fit r.enough), omega (arith, low, after))

-- those that are loaded from sectors are the first of the record there
pub raw-first : (at : ℕ) (kinds : List Kind) (image : List ℕ) (l : Loaded) → raw_loaded at kinds image ≡ Ok (Some l) → FirstOf kinds at (record_at image at (sectors_of image - 1)) (l.values, l.place)
raw-first at kinds image l h = loaded-some image at kinds (l.values, l.place) (loaded-is (loaded image at kinds) l h)

raw-fits : (addr : List ℕ) (at : ℕ) (kinds : List Kind) (image : List ℕ) (o : Option Loaded) → raw_loaded at kinds image ≡ Ok o → AnswerFits (access.RawLoad addr at kinds) (loaded_answer o)
raw-fits addr at kinds image None h = tt
raw-fits addr at kinds image (Some l) h =
    let f = raw-first at kinds image l h in
    subst (AreOfKinds kinds) (sym f.first_ones) (kinds-are kinds f.read.0 f.fit f.enough)

-- ---- sectors

no-block-long : length no_block ≡ 256
unfolding no_block
no-block-long = refl

-- ---- each access, where the platter is good on which a place is moved or of which a sector is read

pub served-fits : (s : StoreState) (who : ℕ) (a : Access) → IsLegal a → IsGoodIfSkipped a s → IsGoodIfRead a s → AnswerFits a (serves s who a).answer
served-fits s who (access.DataNew addr old sectors name) legal good read =
    let a = access.DataNew addr old sectors name in
    unless_fits a s (first_other who (first_there (row a).reach s)) (inside_edited who (row a).reach.text s) _
    (change_fits a s addr (answer.Opened (no_file addr name)) (refl, omega arith) (λ m. m.image) (λ m. answer.Opened m.told) (new_file addr old sectors name) (content s (object.Platter addr))
    (λ image there m is. (let p = new-parts image addr old sectors name m.image m.told (as-made-is (new_opened image addr old sectors name) m is) in is-open addr m.told p.0.1 p.3)))
served-fits s who (access.DataOpen addr name) legal good read =
    let a = access.DataOpen addr name in
    unless_fits a s (first_other who (first_there (row a).reach s)) (inside_edited who (row a).reach.text s) _
    (finding_fits a s addr (answer.Opened (no_file addr name)) (refl, omega arith) answer.Opened (file_opened addr name) (content s (object.Platter addr))
    (λ image there slot is. found-open addr (get (catalogue image) name) slot is))
served-fits s who (access.DataSave slot values) legal good read =
    let a = access.DataSave slot values in
    unless_fits a s (first_other who (first_there (row a).reach s)) (inside_edited who (row a).reach.text s) _
    (change_fits a s slot.addr (answer.Moved slot.pos) legal.1 (λ m. m.image) (λ m. answer.Moved m.told) (record_saved slot values) (content s (object.Platter slot.addr))
    (λ image there m is. save-low slot values image m legal.1 is))
served-fits s who (access.DataEnd slot) legal good read =
    let a = access.DataEnd slot in
    unless_fits a s (first_other who (first_there (row a).reach s)) (inside_edited who (row a).reach.text s) _
    (change_fits a s slot.addr (answer.Moved slot.pos) legal (λ m. m.image) (λ m. answer.Moved m.told) (file_ended slot) (content s (object.Platter slot.addr))
    (λ image there m is. end-low slot image m legal is))
served-fits s who (access.DataLoad slot kinds) legal good read =
    let a = access.DataLoad slot kinds in
    unless_fits a s (first_other who (first_there (row a).reach s)) (inside_edited who (row a).reach.text s) _
    (finding_fits a s slot.addr answer.AtEnd tt loaded_answer (record_loaded slot kinds) (content s (object.Platter slot.addr))
    (λ image there o is. load-fits slot kinds image o legal is))
served-fits s who (access.Skip slot way) legal good read =
    let a = access.Skip slot way in
    unless_fits a s (first_other who (first_there (row a).reach s)) (inside_edited who (row a).reach.text s) _
    (finding_fits a s slot.addr (answer.Moved slot.pos) legal answer.Moved (place_skipped slot way) (content s (object.Platter slot.addr))
    (λ image there to is. skip-low image slot way to (good slot way refl image there) legal is))
served-fits s who (access.RawLoad addr at kinds) legal good read =
    let a = access.RawLoad addr at kinds in
    unless_fits a s (first_other who (first_there (row a).reach s)) (inside_edited who (row a).reach.text s) _
    (finding_fits a s addr answer.AtEnd tt loaded_answer (raw_loaded at kinds) (content s (object.Platter addr))
    (λ image there o is. raw-fits addr at kinds image o is))
served-fits s who (access.BlockLoad addr at) legal good read =
    let a = access.BlockLoad addr at in
    unless_fits a s (first_other who (first_there (row a).reach s)) (inside_edited who (row a).reach.text s) _
    (finding_fits a s addr (answer.Block no_block) no-block-long answer.Block (block_loaded at) (content s (object.Platter addr))
    (λ image there bytes is. block-long image at bytes (read addr at refl image there) is))
served-fits s who a legal good read = tt

pub answers-fit : AnswersFit itself IsGood serves
answers-fit s who a legal images = served-fits s who a legal (λ slot way is image there. images slot.addr image there) (λ addr at is image there. images addr image there)

-- What is so of the answer that is given is so of what stops the access, and where nothing does of what its row does.
module _ (s : StoreState) (who : ℕ) (a : Access) (IsSo : Answer → Type 0) (given : IsSo (serves s who a).answer) where
  abbrev pub performed : Gives StoreState
  performed = performs ((row a).does disks who (holder_at a s)) s

  stopped-by : (o : Option Answer) → stop who (reach a) s ≡ o → IsSo (unless_stopped o performed s).answer
  stopped-by o is = subst (λ (x : Option Answer). IsSo (unless_stopped x performed s).answer) is given

  pub stopped-so : (x : Answer) → stop who (reach a) s ≡ Some x → IsSo x
  stopped-so x is = stopped-by (Some x) is

  pub done-so : (g : Gives StoreState) → stop who (reach a) s ≡ None → g ≡ performed → IsSo g.answer
  done-so g none is = subst (λ (y : Gives StoreState). IsSo y.answer) (sym is) (stopped-by None none)
