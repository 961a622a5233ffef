-- What a run writes: a file for each terminal's transcript, for what each printer printed and for each platter's image, and a last
-- line that also tells who is apart.
use Rattle.std.specs.Prelude.{◌≡◌, ℕ, zero, suc, ◌+◌, ◌/◌, ◌%◌, Bool, true, false, List, [], ◌∷◌, ◌++◌, map, filter, codes, Option, Some, None}
use Rattle.std.specs.Fmt.{decimal}
use Rattle.b2_base.specs.Byte as byte
use Rattle.b2_base.specs.Counts.{Rose}
use Rattle.b2_base.specs.Files.{Files, with_file, without_file}
use Rattle.b2_base.specs.Seen.{ShelfSeen}
use Rattle.b2_term.specs.Terminal.{TerminalState}
use Rattle.b2_access.specs.declared.objects.Object.TheVariants as object
use Rattle.b2_access.specs.Store.{StoreState, content}
use Rattle.b2_audit.specs.Marks.{Marks, is_clean}
use Rattle.b2_boot.specs.Boots.{BootState}
use Rattle.b2_boot.specs.declared.boot.BootPartition.{BootPartition}
use Rattle.b2_sched.specs.Start.{platter_addresses, printer_addresses}
use Rattle.b2_sched.specs.World.{WorldState}
use Rattle.b2_mvp.specs.Parts.{list_or_dash}
use Rattle.b2_status.specs.declared.status.Status.{Status}
use Rattle.b2_status.specs.declared.status.Status.TheVariants as status

-- a file that is kept
pub record Output : Type 0 where
  pub name : List ℕ
  pub bytes : List ℕ

-- the name of a terminal's transcript ends in its number, of two digits
abbrev pub transcript_name : List ℕ → ℕ → List ℕ
transcript_name out t = out ++ codes ".t" ++ (byte.digit_0 + t / 10) ∷ (byte.digit_0 + t % 10) ∷ []

-- a terminal that is listed has a transcript
abbrev pub transcript : List ℕ → ℕ → Option TerminalState → List Output
transcript out t None = []
transcript out t (Some terminal) = record { name = transcript_name out t; bytes = terminal.transcript } ∷ []

-- the transcripts of the terminals from 1 to a last one, in that order
abbrev pub transcripts_to : List ℕ → StoreState → ℕ → List Output
transcripts_to out s zero = []
transcripts_to out s (suc t) = transcripts_to out s t ++ transcript out (suc t) (content s (object.Terminal (suc t)))

-- the name of a printout ends in the address of its printer
abbrev pub printout_name : List ℕ → List ℕ → List ℕ
printout_name out address = out ++ codes ".p" ++ address

-- a printer that is listed has a printout, which is empty where it printed nothing
abbrev pub printout : List ℕ → List ℕ → Option (List ℕ) → List Output
printout out address None = []
printout out address (Some bytes) = record { name = printout_name out address; bytes = bytes } ∷ []

-- the name of a platter's image ends in its address
abbrev pub image_name : List ℕ → List ℕ → List ℕ
image_name out address = out ++ byte.point ∷ address

-- a platter that is listed has an image
abbrev pub image : List ℕ → List ℕ → Option (List ℕ) → List Output
image out address None = []
image out address (Some bytes) = record { name = image_name out address; bytes = bytes } ∷ []

-- what is kept at some addresses, in that order
abbrev pub kept_at : (List ℕ → List Output) → List (List ℕ) → List Output
kept_at here [] = []
kept_at here (a ∷ rest) = here a ++ kept_at here rest

abbrev pub printouts_at : List ℕ → StoreState → List (List ℕ) → List Output
printouts_at out s addresses = kept_at (λ a. printout out a (content s (object.Printer a))) addresses

abbrev pub images_at : List ℕ → StoreState → List (List ℕ) → List Output
images_at out s addresses = kept_at (λ a. image out a (content s (object.Platter a))) addresses

-- all that is kept, in the order in which it is kept: transcripts by number, printouts by address, and images by address
abbrev pub outputs : List ℕ → BootState → StoreState → List Output
outputs out b s = transcripts_to out s 12 ++ (printouts_at out s (printer_addresses b.printers) ++ images_at out s (platter_addresses b.platters))

-- the told files after such keeps
abbrev pub with_files : List Output → Option Files → Option Files
with_files [] files = files
with_files (o ∷ os) files = with_files os (with_file o.name o.bytes files)

-- the numbers of partitions, and of those that marks say are clean
abbrev pub numbers : List BootPartition → List ℕ
numbers ps = map (λ p. p.number) ps

-- a partition, where it is apart
abbrev pub listed_where : Bool → ℕ → List ℕ
listed_where true number = number ∷ []
listed_where false number = []

abbrev pub apart_in : Marks → List BootPartition → List ℕ
apart_in marks ps = filter (λ p. is_clean p marks) (numbers ps)

-- the partitions of a boot that are apart in its world
abbrev pub apart : BootState → WorldState → List ℕ
apart b w = apart_in w.marks b.partitions

-- the line that a run from a boot ends with
abbrev pub summary : BootState → WorldState → List ℕ
summary b w =
    codes "turns " ++ decimal w.turns ++ codes " steps " ++ decimal w.steps ++ codes " dropped " ++ decimal w.dropped
    ++ codes " apart " ++ list_or_dash (apart b w) ++ byte.newline ∷ []

-- a keep failed: those before it were done, and of its own file alone nothing is known
pub record FailsKeep (all : List Output) (at : List ℕ) (old new : Option Files) : Type 0 where
  pub done : List Output
  pub bytes : List ℕ
  pub left : List Output
  pub in_order : all ≡ done ++ record { name = at; bytes = bytes } ∷ left
  pub files : without_file at new ≡ without_file at (with_files done old)

-- how some keeps ended, where not all were done
abbrev pub CannotKeep : List Output → ShelfSeen → ShelfSeen → Status → Type 0
CannotKeep all old new status.Ok = ⊥
CannotKeep all old new status.Usage = ⊥
CannotKeep all old new (status.Missing at) = ⊥
CannotKeep all old new (status.ReadFault at) = ⊥
CannotKeep all old new (status.TooLong at limit) = ⊥
CannotKeep all old new (status.BadBoot check) = ⊥
CannotKeep all old new (status.BadLog line check) = ⊥
CannotKeep all old new (status.BadImage address check) = ⊥
CannotKeep all old new (status.WriteFault at) = FailsKeep all at old.files new.files × Rose old.faults new.faults
CannotKeep all old new status.NoMemory = ⊥
CannotKeep all old new (status.KeepNoMemory at) = FailsKeep all at old.files new.files
