-- What the functions say, as relations.
use Rattle.std.proofs.Common.{◌≡◌, ℕ, ◌+◌, ◌<◌, ◌≤◌, ◌⊎◌, Bool, true, false, nat_le, if◌then◌else◌, List, length, Option, Some, None, Result, Ok, Err, refl, sym, ap, ◌∙◌, inl, inr}
use Rattle.std.specs.FinMap.{get}
use Rattle.std.proofs.lemmas.Bool.{leb-false, leb-true}
use Rattle.b2_base.specs.declared.codes.Fault.TheVariants as fault
use Rattle.b2_base.specs.declared.codes.TheConstants.{A01_TEXT_AREA, D82_NO_FILE, D88_FORMAT}
use Rattle.b2_platter.specs.Image.{sectors_at}
use Rattle.b2_catalog.specs.declared.entry.Entry.{Entry}
use Rattle.b2_catalog.specs.Catalogue.{catalogue}
use Rattle.b2_catalog.specs.Making.{file_made}
use Rattle.b2_catalog.proofs.FileMade.{allowed-ok, made-is, refused-code, refused-is}
use Rattle.b2_text.specs.Program.{Lines, TextState, size_of}
use Rattle.b2_progfile.specs.Loading.{FileFails, FileSpells, LoadFails, Loads, load_refusal, loaded, loaded_from, program_put, text_loaded}
use Rattle.b2_progfile.specs.Reading.{program_in}
use Rattle.b2_progfile.specs.Saving.{Saved, file_filled, filled_with, program_saved, program_sectors, save_refusal}
use Rattle.b2_progfile.proofs.ReadBack.{program-spelled-there, read-none}
use Rattle.b2_progfile.proofs.Functions.{make-allowed}

-- ---- a program is loaded

text-ok : (text new : TextState) (lines : Lines) (b : Bool) → nat_le (size_of lines) text.area ≡ b → (if b then Ok (record text { lines = lines }) else Err A01_TEXT_AREA) ≡ Ok new
    → (size_of lines ≤ text.area) × (new ≡ record text { lines = lines })
text-ok text new lines true is h = let same : record text { lines = lines } ≡ new = cc in (leb-true (size_of lines) text.area is, sym same)
text-ok text new lines false is h = cc

text-code : (text : TextState) (lines : Lines) (code : ℕ) (b : Bool) → nat_le (size_of lines) text.area ≡ b → (if b then Ok (record text { lines = lines }) else Err A01_TEXT_AREA) ≡ Err code
    → (code ≡ A01_TEXT_AREA) × (text.area < size_of lines)
text-code text lines code true is h = cc
text-code text lines code false is h = let same : A01_TEXT_AREA ≡ code = cc in (sym same, leb-false (size_of lines) text.area is)

module _ (image : List ℕ) (replace : Bool) (text : TextState) where
  put-ok : (e : Entry) (r : Option Lines) (new : TextState) → program_in (sectors_at image e.start e.used) ≡ r → program_put replace text r ≡ Ok new
      → (lines : Lines) × FileSpells image e lines × (size_of (loaded replace lines text.lines) ≤ text.area) × (new ≡ record text { lines = loaded replace lines text.lines })
  put-ok e None new is h = cc
  put-ok e (Some lines) new is h =
      let all = loaded replace lines text.lines in
      let t = text-ok text new all (nat_le (size_of all) text.area) refl h in
      (lines, program-spelled-there lines (sectors_at image e.start e.used) is, t.0, t.1)

  put-code : (e : Entry) (r : Option Lines) (code : ℕ) → program_in (sectors_at image e.start e.used) ≡ r → program_put replace text r ≡ Err code → FileFails image e replace text code
  put-code e None code is h = let same : D88_FORMAT ≡ code = cc in inl (sym same, read-none (sectors_at image e.start e.used) is)
  put-code e (Some lines) code is h =
      let all = loaded replace lines text.lines in
      let t = text-code text all code (nat_le (size_of all) text.area) refl h in
      inr (lines, program-spelled-there lines (sectors_at image e.start e.used) is, t.0, t.1)

  file-ok : (name : List ℕ) (file : Option Entry) (new : TextState) → get (catalogue image) name ≡ file → loaded_from image replace text file ≡ Ok new → Loads image name replace text new
  file-ok name None new there h = cc
  file-ok name (Some e) new there h =
      let parts = allowed-ok (load_refusal (Some e)) (program_put replace text (program_in (sectors_at image e.start e.used))) new h in
      let p = put-ok e (program_in (sectors_at image e.start e.used)) new refl parts.1 in
      record { e = e; lines = p.0; file = there; allowed = parts.0; spelled = p.1; fits = p.2; same = p.3 }

  file-code : (file : Option Entry) (code : ℕ) → loaded_from image replace text file ≡ Err code
      → (load_refusal file ≡ Some code) ⊎ ((e : Entry) × (file ≡ Some e) × (load_refusal (Some e) ≡ None) × FileFails image e replace text code)
  file-code None code h = let same : D82_NO_FILE ≡ code = cc in inl (ap Some same)
  file-code (Some e) code h =
      elim (refused-code (load_refusal (Some e)) (program_put replace text (program_in (sectors_at image e.start e.used))) code h)
      as (λ _. (load_refusal (Some e) ≡ Some code) ⊎ ((f : Entry) × (Some e ≡ Some f) × (load_refusal (Some f) ≡ None) × FileFails image f replace text code)) [
        | inl refused ↦ inl refused
        | inr other ↦ inr (e, refl, other.0, put-code e (program_in (sectors_at image e.start e.used)) code refl other.1)
      ]

pub text-loads : (image name : List ℕ) (replace : Bool) (old new : TextState) → text_loaded image name replace old ≡ Ok new → Loads image name replace old new
unfolding text_loaded
text-loads image name replace old new h = file-ok image replace old name (get (catalogue image) name) new refl h

pub text-fails : (image name : List ℕ) (replace : Bool) (text : TextState) (code : ℕ) → text_loaded image name replace text ≡ Err code → LoadFails image name replace text (fault.Code code)
unfolding text_loaded
text-fails image name replace text code h = file-code image replace text (get (catalogue image) name) code h

-- ---- a program is saved

filled-ok : (sectors : List (List ℕ)) (r : Result (List ℕ × Entry) ℕ) (new : List ℕ) → filled_with sectors r ≡ Ok new → (made : List ℕ × Entry) × (r ≡ Ok made) × (new ≡ file_filled made.0 made.1.start made.1.end sectors)
filled-ok sectors (Ok made) new h = let same : file_filled made.0 made.1.start made.1.end sectors ≡ new = cc in (made, refl, sym same)
filled-ok sectors (Err code) new h = cc

filled-code : (sectors : List (List ℕ)) (r : Result (List ℕ × Entry) ℕ) (code : ℕ) → filled_with sectors r ≡ Err code → r ≡ Err code
filled-code sectors (Ok made) code h = cc
filled-code sectors (Err other) code h = let same : other ≡ code = cc in ap Err same

pub program-saves : (image : List ℕ) (old : Option (List ℕ)) (name : List ℕ) (lines : Lines) (new : List ℕ) → program_saved image old name lines ≡ Ok new
    → (save_refusal image old name (length (program_sectors lines)) ≡ None) × Saved image old name lines new
unfolding program_saved
program-saves image old name lines new h =
    let sectors = program_sectors lines in
    let parts = allowed-ok (save_refusal image old name (length sectors)) (filled_with sectors (file_made image old name true (length sectors + 1))) new h in
    let filled = filled-ok sectors (file_made image old name true (length sectors + 1)) new parts.1 in
    (parts.0, record { e = filled.0.1; between = filled.0.0; made = (made-is image old name true (length sectors + 1) filled.0.0 filled.0.1 filled.1).1; same = filled.2 })

pub program-refused : (image : List ℕ) (old : Option (List ℕ)) (name : List ℕ) (lines : Lines) (code : ℕ) → program_saved image old name lines ≡ Err code
    → save_refusal image old name (length (program_sectors lines)) ≡ Some code
unfolding program_saved
program-refused image old name lines code h =
    let sectors = program_sectors lines in
    elim (refused-code (save_refusal image old name (length sectors)) (filled_with sectors (file_made image old name true (length sectors + 1))) code h)
    as (λ _. save_refusal image old name (length (program_sectors lines)) ≡ Some code) [
      | inl refused ↦ refused
      | inr other ↦ (
          let none = make-allowed image old name (length sectors) other.0 in
          let bad = sym none ∙ refused-is image old name true (length sectors + 1) code (filled-code sectors (file_made image old name true (length sectors + 1)) code other.1) in cc
          )
    ]
