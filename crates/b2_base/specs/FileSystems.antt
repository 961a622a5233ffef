-- What the calls of a file system do to the files that it tells.
use Rattle.std.specs.Prelude.{◌≡◌, ℕ, List, [], ⊤, Option, Some, None, IfSome}
use Rattle.std.specs.FinMap.{get, insert}
use Rattle.b2_base.specs.Files.{Files}
use Rattle.b2_base.specs.declared.file_system.Opened.{Opened}
use Rattle.b2_base.specs.declared.file_system.Opened.TheVariants as opened

-- what is opened is a told file, all of which remains to be read
abbrev pub IsOpened : {F : Type 0} → (F → Option (List ℕ)) → Option Files → List ℕ → Opened F → Type 0
IsOpened remaining files name (opened.Source f) = IfSome files (λ m. (bytes : List ℕ) × (get m name ≡ Some bytes) × (remaining f ≡ Some bytes))
IsOpened remaining files name opened.Missing = ⊤
IsOpened remaining files name opened.Failed = ⊤

-- a new file is empty, and says what is written to it
abbrev pub IsNew : {F : Type 0} → (F → Option (List ℕ)) → Option Files → Option F → Type 0
IsNew contents files made = IfSome files (λ m. IfSome made (λ f. contents f ≡ Some []))

-- the told files have what a new file says that it holds, under its name
abbrev pub IsPlaced : Option (List ℕ) → List ℕ → Option Files → Option Files → Type 0
IsPlaced contents name None new = new ≡ None
IsPlaced contents name (Some m) new = IfSome contents (λ bytes. new ≡ Some (insert m name bytes))
