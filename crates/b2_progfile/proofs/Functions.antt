-- What is loaded, what saving leaves and what moving all files leaves, as functions say it.
use Rattle.std.proofs.Common.{◌≡◌, ℕ, ◌+◌, ◌<◌, ◌≤◌, Bool, true, if◌then◌else◌, List, length, Option, Some, None, Result, Ok, Err, IfErr, OnOk, refl, sym, ap, ◌∙◌, le-leb, inl, inr}
use Rattle.std.specs.FinMap.{get}
use Rattle.std.proofs.lemmas.Bool.{lt-leb}
use Rattle.b2_base.specs.declared.codes.Fault.{Fault}
use Rattle.b2_base.specs.declared.codes.Fault.TheVariants as fault
use Rattle.b2_base.specs.declared.codes.TheConstants.{A01_TEXT_AREA}
use Rattle.b2_platter.specs.Image.{sectors_at}
use Rattle.b2_platter.specs.Reading.{Unspelled}
use Rattle.b2_catalog.specs.declared.entry.Entry.{Entry}
use Rattle.b2_catalog.specs.Calls.{reuse_refusal}
use Rattle.b2_catalog.specs.Catalogue.{catalogue}
use Rattle.b2_catalog.specs.Making.{file_made, make_refusal}
use Rattle.b2_catalog.specs.Results.{FailsBy, unless_refused}
use Rattle.b2_catalog.proofs.FileMade.{made-value}
use Rattle.b2_text.specs.Program.{Lines, TextState, size_of}
use Rattle.b2_progfile.specs.Loading.{FileFails, FileSpells, LoadFails, Loads, TooLarge, load_refusal, loaded, loaded_from, program_put, text_loaded, text_of}
use Rattle.b2_progfile.specs.Reading.{program_in}
use Rattle.b2_progfile.specs.Saving.{SaveFails, Saved, filled_with, or_then, program_saved, program_sectors, save_refusal, size_refusal}
use Rattle.b2_progfile.proofs.ReadBack.{none-read, program-read}

-- ---- a program is loaded

fits : (text : TextState) (lines : Lines) → size_of lines ≤ text.area → text_of text lines ≡ Ok (record text { lines = lines })
fits text lines h = ap (λ (b : Bool). if b then Ok (record text { lines = lines }) else Err A01_TEXT_AREA) (le-leb (size_of lines) text.area h)

passes : (text : TextState) (lines : Lines) → text.area < size_of lines → text_of text lines ≡ Err A01_TEXT_AREA
passes text lines h = ap (λ (b : Bool). if b then Ok (record text { lines = lines }) else Err A01_TEXT_AREA) (lt-leb (size_of lines) text.area h)

from-file : (image : List ℕ) (replace : Bool) (text : TextState) (e : Entry) (file : Option Entry) → file ≡ Some e → load_refusal (Some e) ≡ None
    → loaded_from image replace text file ≡ program_put replace text (program_in (sectors_at image e.start e.used))
from-file image replace text e file is none =
    ap (loaded_from image replace text) is
    ∙ ap (λ (o : Option ℕ). unless_refused o (program_put replace text (program_in (sectors_at image e.start e.used)))) none

pub loads-value : (image name : List ℕ) (replace : Bool) (old new : TextState) → Loads image name replace old new → text_loaded image name replace old ≡ Ok new
unfolding text_loaded
loads-value image name replace old new l =
    from-file image replace old l.e (get (catalogue image) name) l.file l.allowed
    ∙ (ap (program_put replace old) (program-read l.lines (sectors_at image l.e.start l.e.used) l.spelled)
    ∙ (fits old (loaded replace l.lines old.lines) l.fits ∙ ap Ok (sym l.same)))

file-fails : (image : List ℕ) (replace : Bool) (text : TextState) (e : Entry) (code : ℕ) → FileFails image e replace text code → program_put replace text (program_in (sectors_at image e.start e.used)) ≡ Err code
file-fails image replace text e code (inl none) = ap (program_put replace text) (none-read (sectors_at image e.start e.used) none.1) ∙ ap Err (sym none.0)
file-fails image replace text e code (inr large) =
    ap (program_put replace text) (program-read large.0 (sectors_at image e.start e.used) large.1) ∙ (passes text (loaded replace large.0 text.lines) large.3 ∙ ap Err (sym large.2))

refused : (image : List ℕ) (replace : Bool) (text : TextState) (file : Option Entry) (code : ℕ) → load_refusal file ≡ Some code → loaded_from image replace text file ≡ Err code
refused image replace text None code h = let same = h in cc
refused image replace text (Some e) code h = ap (λ (o : Option ℕ). unless_refused o (program_put replace text (program_in (sectors_at image e.start e.used)))) h

pub load-code : (image name : List ℕ) (replace : Bool) (text : TextState) (code : ℕ) → LoadFails image name replace text (fault.Code code) → text_loaded image name replace text ≡ Err code
unfolding text_loaded
load-code image name replace text code (inl h) = refused image replace text (get (catalogue image) name) code h
load-code image name replace text code (inr h) = from-file image replace text h.0 (get (catalogue image) name) h.1 h.2 ∙ file-fails image replace text h.0 code h.3

module _ (image name : List ℕ) (replace : Bool) (old : TextState) (e : Entry) (file : get (catalogue image) name ≡ Some e) (allowed : load_refusal (Some e) ≡ None) where
  pub unspelled-load : (f : Fault) → Unspelled ((lines : Lines) → FileSpells image e lines → ⊥) f → FailsBy (text_loaded image name replace old) f
  unspelled-load (fault.Code code) h = load-code image name replace old code (inr (e, file, allowed, inl h))
  unspelled-load fault.NoMemory h = tt

  pub put-value : {E : Type 0} (lines : Lines) (new : TextState) (r : Result (Unit {0}) E) → FileSpells image e lines → OnOk r (new ≡ record old { lines = loaded replace lines old.lines })
      → OnOk r (size_of (loaded replace lines old.lines) ≤ old.area) → OnOk r (text_loaded image name replace old ≡ Ok new)
  put-value lines new (Ok done) spelled same fits =
      loads-value image name replace old new (record { e = e; lines = lines; file = file; allowed = allowed; spelled = spelled; fits = fits; same = same })
  put-value lines new (Err f) spelled same fits = tt

  pub put-fails : (lines : Lines) → FileSpells image e lines → (f : Fault) → TooLarge old.area (loaded replace lines old.lines) f → FailsBy (text_loaded image name replace old) f
  put-fails lines spelled (fault.Code code) h = load-code image name replace old code (inr (e, file, allowed, inr (lines, spelled, h.0, h.1)))
  put-fails lines spelled fault.NoMemory h = tt

-- ---- a program is saved

first-none : (a b : Option ℕ) → or_then a b ≡ None → a ≡ None
first-none None b h = refl
first-none (Some code) b h = cc

pub make-allowed : (image : List ℕ) (old : Option (List ℕ)) (name : List ℕ) (count : ℕ) → save_refusal image old name count ≡ None → make_refusal image old name (count + 1) ≡ None
make-allowed image None name count h = h
make-allowed image (Some old) name count h = first-none (reuse_refusal image old name) (size_refusal (get (catalogue image) old) count) h

pub saved-value : (image : List ℕ) (old : Option (List ℕ)) (name : List ℕ) (lines : Lines) (new : List ℕ) → save_refusal image old name (length (program_sectors lines)) ≡ None
    → Saved image old name lines new → program_saved image old name lines ≡ Ok new
unfolding program_saved
saved-value image old name lines new none s =
    let sectors = program_sectors lines in
    let made = made-value image old name true (length sectors + 1) s.between s.e (make-allowed image old name (length sectors) none) s.made in
    ap (λ (o : Option ℕ). unless_refused o (filled_with sectors (file_made image old name true (length sectors + 1)))) none
    ∙ (ap (filled_with sectors) made ∙ ap Ok (sym s.same))

pub save-code : (image : List ℕ) (old : Option (List ℕ)) (name : List ℕ) (lines : Lines) (code : ℕ) → SaveFails image old name lines (fault.Code code) → program_saved image old name lines ≡ Err code
unfolding program_saved
save-code image old name lines code h =
    ap (λ (o : Option ℕ). unless_refused o (filled_with (program_sectors lines) (file_made image old name true (length (program_sectors lines) + 1)))) h

-- ---- whole results

pub err-as : {X E : Type 0} (r : Result X E) (P Q : E → Type 0) → ((f : E) → P f → Q f) → IfErr r P → IfErr r Q
err-as (Ok x) P Q more h = tt
err-as (Err f) P Q more h = more f h
