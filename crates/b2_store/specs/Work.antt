-- The works by which what one item has is changed while what another has is read.
use Rattle.std.specs.Prelude.{◌≡◌, ℕ, true, false, List, Option, Some, None, Result, Ok, Err}
use Rattle.b2_base.specs.declared.codes.Fault.{Fault}
use Rattle.b2_text.specs.Program.{TextState}
use Rattle.b2_catalog.specs.Results.{FailsBy}
use Rattle.b2_access.specs.declared.objects.Object.{Object}
use Rattle.b2_store.specs.DiskWork.{disks}
use Rattle.b2_store.specs.FileWork.{moved}
use Rattle.b2_store.specs.Kept.{first_kept, is_kept, platter_in, text_in, with_first, with_platter, with_text}
use Rattle.b2_store.specs.TwoRows.{MoveFails}
use Rattle.b2_store.specs.declared.kept_item.Kept.{Kept}
use Rattle.b2_store.specs.declared.work.Work.{Work}
use Rattle.b2_store.specs.declared.work.Work.TheVariants as work

abbrev pub image_put : Kept → Result (List ℕ) ℕ → Result Kept ℕ
image_put k (Ok image) = Ok (with_platter k image)
image_put k (Err code) = Err code

abbrev pub lines_put : Kept → Result TextState ℕ → Result Kept ℕ
lines_put k (Ok text) = Ok (with_text k text)
lines_put k (Err code) = Err code

-- an item is changed where both have what the work is about; else it stays
abbrev pub image_made : {A : Type 0} → (A → List ℕ → Result (List ℕ) ℕ) → Option A → Option (List ℕ) → Kept → Result Kept ℕ
image_made made None o k = Ok k
image_made made (Some x) None k = Ok k
image_made made (Some x) (Some image) k = image_put k (made x image)

abbrev pub lines_made : (List ℕ → TextState → Result TextState ℕ) → Option (List ℕ) → Option TextState → Kept → Result Kept ℕ
lines_made made None o k = Ok k
lines_made made (Some image) None k = Ok k
lines_made made (Some image) (Some text) k = lines_put k (made image text)

abbrev pub worked : Work → Kept → Kept → Result Kept ℕ
worked (work.Save old name from to) read k = image_made (disks.save_program old name from to) (text_in read) (platter_in k) k
worked (work.Load name replace) read k = lines_made (disks.load_program name replace) (platter_in read) (text_in k) k
worked (work.Move name) read k = image_made (moved name) (platter_in read) (platter_in k) k

-- and so a list, by the first items of two objects
abbrev pub put_first : Object → List Kept → Result Kept ℕ → Result (List Kept) ℕ
put_first changed xs (Ok k) = Ok (with_first (is_kept changed) xs k)
put_first changed xs (Err code) = Err code

abbrev pub worked_on : Work → Object → List Kept → Option Kept → Option Kept → Result (List Kept) ℕ
worked_on w changed xs None k = Ok xs
worked_on w changed xs (Some read) None = Ok xs
worked_on w changed xs (Some read) (Some k) = put_first changed xs (worked w read k)

abbrev pub items_worked : Work → Object → Object → List Kept → Result (List Kept) ℕ
items_worked w read changed xs = worked_on w changed xs (first_kept (is_kept read) xs) (first_kept (is_kept changed) xs)

-- an item of one object is none of another
abbrev pub IsOther : Object → Object → Type 0
IsOther read changed = (k : Kept) → is_kept read k ≡ true → is_kept changed k ≡ false

-- why nothing is done: a code that is said; or memory failed, which one file that is moved doesn't want
abbrev pub WorkFails : {A : Type 0} → Work → Result A ℕ → Fault → Type 0
WorkFails (work.Move name) said fault = MoveFails name said fault
WorkFails w said fault = FailsBy said fault
