-- What holds of programs that are saved and loaded, and of files that are moved.
use Rattle.std.specs.Prelude.{◌≡◌, ℕ, ◌-◌, ◌<◌, ◌≤◌, Bool, List, [], length, Option, Some, None, Ok, Err, IfSome}
use Rattle.std.specs.FinMap.{get}
use Rattle.b2_base.specs.declared.codes.Fault.TheVariants as fault
use Rattle.b2_base.specs.declared.codes.TheConstants.{A01_TEXT_AREA}
use Rattle.b2_platter.specs.Checks.{IsGood}
use Rattle.b2_catalog.specs.declared.entry.Entry.{Entry}
use Rattle.b2_catalog.specs.Catalogue.{catalogue}
use Rattle.b2_text.specs.Program.{Lines, TextState, size_of}
use Rattle.b2_platter.specs.Image.{index_of, sectors_at}
use Rattle.b2_progfile.specs.Programs.{IsProgramFile, SpellsProgram}
use Rattle.b2_progfile.specs.Reading.{program_in}
use Rattle.b2_progfile.specs.Loading.{LoadFails, Loads, text_loaded}
use Rattle.b2_progfile.specs.Saving.{Saved, program_saved, program_sectors, save_refusal}
use Rattle.b2_progfile.specs.Moving.{IsLiveFile, entry_from, own_sectors}
use Rattle.b2_progfile.specs.MovingAll.{AreLiveFiles, MoveFails, MovedAll, live_files, platter_moved}

-- no two programs share a spelling
abbrev pub ProgramsAreTold : Type 0
ProgramsAreTold = (a b : Lines) (sectors : List (List ℕ)) → SpellsProgram a sectors → SpellsProgram b sectors → a ≡ b

-- what is loaded from a program file into an empty text is its program
abbrev pub FilesAreLoaded : Type 0
FilesAreLoaded =
    (image name : List ℕ) (e : Entry) (lines : Lines) (replace : Bool) (old new : TextState) → get (catalogue image) name ≡ Some e → IsProgramFile image e lines
    → old.lines ≡ [] → Loads image name replace old new → new ≡ record old { lines = lines }

-- and it is refused only where the program passes the area of the text
abbrev pub FilesAreRefusedBySize : Type 0
FilesAreRefusedBySize =
    (image name : List ℕ) (e : Entry) (lines : Lines) (replace : Bool) (text : TextState) (code : ℕ) → get (catalogue image) name ≡ Some e → IsProgramFile image e lines
    → text.lines ≡ [] → LoadFails image name replace text (fault.Code code) → (code ≡ A01_TEXT_AREA) × (text.area < size_of lines)

-- each live file is moved: it is there from some sector on, with its kind, its sectors and as many used
abbrev pub FilesAreMoved : Type 0
FilesAreMoved =
    (from to new : List ℕ) (e : Entry) → IsGood from → MovedAll from to new → IsLiveFile from e
    → (start : ℕ) × (get (catalogue new) e.name ≡ Some (entry_from start e)) × (sectors_at new start (e.end - e.start) ≡ own_sectors from e)

-- and no other file is there, a scratched one neither
abbrev pub NothingElseIsMoved : Type 0
NothingElseIsMoved =
    (from to new name : List ℕ) (n : Entry) → MovedAll from to new → get (catalogue new) name ≡ Some n
    → (e : Entry) × IsLiveFile from e × (e.name ≡ name) × (n ≡ entry_from n.start e)

-- the files stand in the order in which they stood
abbrev pub FilesKeepTheirOrder : Type 0
FilesKeepTheirOrder =
    (from to new : List ℕ) (e f m n : Entry) → IsGood from → MovedAll from to new → IsLiveFile from e → IsLiveFile from f
    → get (catalogue new) e.name ≡ Some m → get (catalogue new) f.name ≡ Some n → e.start < f.start → m.start < n.start

-- a program file that is moved has the same program
abbrev pub ProgramsAreMoved : Type 0
ProgramsAreMoved =
    (from to new : List ℕ) (e : Entry) (lines : Lines) → IsGood from → MovedAll from to new → IsLiveFile from e → IsProgramFile from e lines
    → IfSome (get (catalogue new) e.name) (λ n. IsProgramFile new n lines)

-- what is read of sectors is the program that they spell, and nothing is read exactly where they spell none
abbrev pub WhatIsReadIsSpelled : Type 0
WhatIsReadIsSpelled = (lines : Lines) (sectors : List (List ℕ)) → program_in sectors ≡ Some lines → SpellsProgram lines sectors

abbrev pub WhatIsSpelledIsRead : Type 0
WhatIsSpelledIsRead = (lines : Lines) (sectors : List (List ℕ)) → SpellsProgram lines sectors → program_in sectors ≡ Some lines

-- what the function of a load says is a program that is loaded, or a cause for the code
abbrev pub TextIsLoaded : Type 0
TextIsLoaded = (image name : List ℕ) (replace : Bool) (old new : TextState) → text_loaded image name replace old ≡ Ok new → Loads image name replace old new

abbrev pub TextIsRefused : Type 0
TextIsRefused = (image name : List ℕ) (replace : Bool) (text : TextState) (code : ℕ) → text_loaded image name replace text ≡ Err code → LoadFails image name replace text (fault.Code code)

-- what the function of saving says is a program that is saved, or the refusal's code
abbrev pub ProgramIsSaved : Type 0
ProgramIsSaved =
    (image : List ℕ) (old : Option (List ℕ)) (name : List ℕ) (lines : Lines) (new : List ℕ) → program_saved image old name lines ≡ Ok new
    → (save_refusal image old name (length (program_sectors lines)) ≡ None) × Saved image old name lines new

abbrev pub ProgramIsRefused : Type 0
ProgramIsRefused =
    (image : List ℕ) (old : Option (List ℕ)) (name : List ℕ) (lines : Lines) (code : ℕ) → program_saved image old name lines ≡ Err code
    → save_refusal image old name (length (program_sectors lines)) ≡ Some code

-- what is picked sector by sector are the live files in the order of their starts
abbrev pub LiveFilesAreListed : Type 0
LiveFilesAreListed = (image : List ℕ) → IsGood image → AreLiveFiles image (live_files image)

-- and they have one such order
abbrev pub LiveFilesHaveOneOrder : Type 0
LiveFilesHaveOneOrder = (image : List ℕ) → IsGood image → (files : List Entry) → AreLiveFiles image files → files ≡ live_files image

-- what the function of moving all files says is that they are moved, or a cause for the code
abbrev pub PlatterIsMoved : Type 0
PlatterIsMoved = (from to new : List ℕ) → IsGood from → IsGood to → index_of to ≤ 255 → platter_moved from to ≡ Ok new → MovedAll from to new

abbrev pub PlatterIsRefused : Type 0
PlatterIsRefused = (from to : List ℕ) (code : ℕ) → IsGood from → platter_moved from to ≡ Err code → MoveFails from to (fault.Code code)
