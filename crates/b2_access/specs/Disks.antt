-- What disks do to an image. The store says what that is; what is said of serving holds whatever it is.
use Rattle.std.specs.Prelude.{ℕ, ℤ, Bool, List, Option, Result}
use Rattle.b2_base.specs.declared.files.By.{By}
use Rattle.b2_base.specs.declared.files.Slot.{Slot}
use Rattle.b2_dec.specs.declared.values.Kind.{Kind}
use Rattle.b2_dec.specs.declared.values.Value.{Value}
use Rattle.b2_text.specs.Program.{TextState}

-- four numbers that are answered together
pub record FourNumbers : Type 0 where
  pub first : ℤ
  pub second : ℤ
  pub third : ℤ
  pub fourth : ℤ

-- an image that was made of another, and what is told of that
pub record Made (Told : Type 0) : Type 0 where
  pub image : List ℕ
  pub told : Told

-- values that were loaded from a record, and the place after it
pub record Loaded : Type 0 where
  pub values : List Value
  pub place : ℕ

-- What is read of an image: the limits of a file or of the catalogue, the listing of the index, a data file that is opened, what is
-- loaded at its place, none where its records end, and where the place goes; what is loaded from a sector on, none where an end mark is,
-- and the bytes of a sector. What is made of one: with a file scratched, with an empty index, with a new data file, with a record or an
-- end mark at the place in one, with a record, an end mark or bytes in sectors from one on, with the lines of a text that lie between two
-- numbers saved as a program, and with a file of another image, or all of them. What is made of a text: one with the lines of a program.
-- A code may come in place of all but the first two, and then nothing is made.
pub record DiskWork : Type 0 where
  pub limits : Option (List ℕ) → List ℕ → FourNumbers
  pub listing : List ℕ → List ℕ
  pub scratch : List ℕ → List ℕ → Result (List ℕ) ℕ
  pub format : ℕ → ℕ → List ℕ → Result (List ℕ) ℕ
  pub data_new : List ℕ → Option (List ℕ) → ℕ → List ℕ → List ℕ → Result (Made Slot) ℕ
  pub data_open : List ℕ → List ℕ → List ℕ → Result Slot ℕ
  pub data_save : Slot → List Value → List ℕ → Result (Made ℕ) ℕ
  pub data_end : Slot → List ℕ → Result (Made ℕ) ℕ
  pub data_load : Slot → List Kind → List ℕ → Result (Option Loaded) ℕ
  pub skip : Slot → By → List ℕ → Result ℕ ℕ
  pub raw_save : ℕ → List Value → List ℕ → Result (Made ℕ) ℕ
  pub raw_end : ℕ → List ℕ → Result (Made ℕ) ℕ
  pub raw_load : ℕ → List Kind → List ℕ → Result (Option Loaded) ℕ
  pub block_save : ℕ → List ℕ → List ℕ → Result (Made ℕ) ℕ
  pub block_load : ℕ → List ℕ → Result (List ℕ) ℕ
  pub save_program : Option (List ℕ) → List ℕ → ℕ → ℕ → TextState → List ℕ → Result (List ℕ) ℕ
  pub load_program : List ℕ → Bool → List ℕ → TextState → Result TextState ℕ
  pub move_platter : List ℕ → List ℕ → Result (List ℕ) ℕ
  pub move_file : List ℕ → List ℕ → List ℕ → Result (List ℕ) ℕ
