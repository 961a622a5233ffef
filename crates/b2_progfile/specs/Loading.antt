-- What is loaded, and why nothing is.
use Rattle.std.specs.Prelude.{◌≡◌, ℕ, ◌<◌, ◌≤◌, ◌⊎◌, ◌++◌, Bool, true, not, nat_le, List, [], ◌∷◌, replicate, Option, Some, None, Result, Ok, Err, if◌then◌else◌}
use Rattle.std.specs.FinMap.{get}
use Rattle.b2_base.specs.declared.codes.Fault.{Fault}
use Rattle.b2_base.specs.declared.codes.Fault.TheVariants as fault
use Rattle.b2_base.specs.declared.codes.TheConstants.{A01_TEXT_AREA, D82_NO_FILE, D88_FORMAT, D89_OTHER_KIND}
use Rattle.b2_atom.specs.Lines.{is_line}
use Rattle.b2_catalog.specs.declared.entry.Entry.{Entry}
use Rattle.b2_catalog.specs.Catalogue.{catalogue}
use Rattle.b2_catalog.specs.Results.{unless_refused}
use Rattle.b2_text.specs.Program.{Lines, TextState, size_of, with_line}
use Rattle.b2_progfile.specs.declared.spelling.TheConstants.{PROGRAM_END}
use Rattle.b2_platter.specs.Image.{sectors_at}
use Rattle.b2_progfile.specs.Programs.{SpellsProgram, line_bytes}
use Rattle.b2_progfile.specs.Reading.{program_in}

-- why the file of a name isn't loaded: it isn't there or isn't live, or it is data
abbrev pub load_refusal : Option Entry → Option ℕ
load_refusal None = Some D82_NO_FILE
load_refusal (Some e) = if not e.live then Some D82_NO_FILE else (if e.program then None else Some D89_OTHER_KIND)

-- lines put to others, where one of the same number gives way
abbrev pub merged : Lines → Lines → Lines
merged [] lines = lines
merged (l ∷ program) lines = merged program (with_line l.0 l.1 lines)

-- the lines after a load: the program alone, or put to those that were there
abbrev pub loaded : Bool → Lines → Lines → Lines
loaded replace program lines = merged program (if replace then [] else lines)

-- what the sectors of a file spell
abbrev pub FileSpells : List ℕ → Entry → Lines → Type 0
FileSpells image e lines = SpellsProgram lines (sectors_at image e.start e.used)

-- a program is loaded from the file of a name
pub record Loads (image name : List ℕ) (replace : Bool) (old new : TextState) : Type 0 where
  pub e : Entry
  pub lines : Lines
  pub file : get (catalogue image) name ≡ Some e
  pub allowed : load_refusal (Some e) ≡ None
  pub spelled : FileSpells image e lines
  pub fits : size_of (loaded replace lines old.lines) ≤ old.area
  pub same : new ≡ record old { lines = loaded replace lines old.lines }

-- D88 where no program is spelled, A01 where the lines would pass the area of the text
abbrev pub FileFails : List ℕ → Entry → Bool → TextState → ℕ → Type 0
FileFails image e replace text code =
    ((code ≡ D88_FORMAT) × ((lines : Lines) → ¬ FileSpells image e lines))
    ⊎ ((lines : Lines) × FileSpells image e lines × (code ≡ A01_TEXT_AREA) × (text.area < size_of (loaded replace lines text.lines)))

-- why nothing is loaded: no live program file has the name, or it can't be loaded; or memory failed
abbrev pub LoadFails : List ℕ → List ℕ → Bool → TextState → Fault → Type 0
LoadFails image name replace text (fault.Code code) =
    (load_refusal (get (catalogue image) name) ≡ Some code)
    ⊎ ((e : Entry) × (get (catalogue image) name ≡ Some e) × (load_refusal (Some e) ≡ None) × FileFails image e replace text code)
LoadFails image name replace text fault.NoMemory = Unit {0}

-- a text with these lines, where its area holds them
abbrev pub text_of : TextState → Lines → Result TextState ℕ
text_of text lines = if nat_le (size_of lines) text.area then Ok (record text { lines = lines }) else Err A01_TEXT_AREA

-- a text after a load of a program that was read
abbrev pub program_put : Bool → TextState → Option Lines → Result TextState ℕ
program_put replace text None = Err D88_FORMAT
program_put replace text (Some lines) = text_of text (loaded replace lines text.lines)

abbrev pub loaded_from : List ℕ → Bool → TextState → Option Entry → Result TextState ℕ
loaded_from image replace text None = Err D82_NO_FILE
loaded_from image replace text (Some e) =
    unless_refused (load_refusal (Some e)) (program_put replace text (program_in (sectors_at image e.start e.used)))

-- THE TEXT after a load of the program file of a name, or why nothing is loaded
unfoldable pub text_loaded : List ℕ → List ℕ → Bool → TextState → Result TextState ℕ
text_loaded image name replace text = loaded_from image replace text (get (catalogue image) name)

-- a number of a line and its atoms, at the front of some bytes
pub record IsLineAt (least : ℕ) (line : ℕ × List ℕ) (bytes after : List ℕ) : Type 0 where
  pub low : least ≤ line.0
  pub high : line.0 ≤ 9999
  pub spelled : is_line line.1 ≡ true
  pub same : bytes ≡ line_bytes line ++ after

-- what ends a program, and fewer than 255 bytes 00 after it
pub record IsProgramEnd (bytes : List ℕ) : Type 0 where
  pub zeros : ℕ
  pub few : zeros < 255
  pub same : bytes ≡ PROGRAM_END ∷ PROGRAM_END ∷ replicate zeros 0

-- lines that pass an area; or memory failed
abbrev pub TooLarge : ℕ → Lines → Fault → Type 0
TooLarge area lines (fault.Code code) = (code ≡ A01_TEXT_AREA) × (area < size_of lines)
TooLarge area lines fault.NoMemory = Unit {0}
