-- A data file that is made and opened, as a function says it, and what that says.
use Rattle.std.proofs.Common.{◌≡◌, ℕ, false, List, Option, Some, None, Result, Ok, Err, refl, sym, ap, ap₂, ◌∙◌}
use Rattle.b2_base.specs.declared.files.Slot.{Slot}
use Rattle.b2_catalog.specs.declared.entry.Entry.{Entry}
use Rattle.b2_catalog.specs.Making.{file_made, make_refusal}
use Rattle.b2_catalog.proofs.FileMade.{made-is, refused-is}
use Rattle.b2_datafile.specs.Files.{MadeEmpty, emptied_and_opened, new_opened, with_end}
use Rattle.b2_datafile.specs.Slots.{opened}

pub opened-value : (image addr : List ℕ) (old : Option (List ℕ)) (sectors : ℕ) (name between : List ℕ) (e : Entry) (new : List ℕ) (slot : Slot)
    → file_made image old name false sectors ≡ Ok (between, e) → new ≡ with_end between e e.start → slot ≡ opened addr e → new_opened image addr old sectors name ≡ Ok (new, slot)
unfolding new_opened
opened-value image addr old sectors name between e new slot made is slot-is =
    ap (emptied_and_opened addr) made ∙ ap₂ (λ (i : List ℕ) (s : Slot). Ok (i, s)) (sym is) (sym slot-is)

pub opened-refused : (image addr : List ℕ) (old : Option (List ℕ)) (sectors : ℕ) (name : List ℕ) (code : ℕ) → file_made image old name false sectors ≡ Err code → new_opened image addr old sectors name ≡ Err code
unfolding new_opened
opened-refused image addr old sectors name code refused = ap (emptied_and_opened addr) refused

-- ---- what the function says, as a relation

opened-parts : (addr : List ℕ) (r : Result (List ℕ × Entry) ℕ) (new : List ℕ) (slot : Slot) → emptied_and_opened addr r ≡ Ok (new, slot)
    → (made : List ℕ × Entry) × (r ≡ Ok made) × (new ≡ with_end made.0 made.1 made.1.start) × (slot ≡ opened addr made.1)
opened-parts addr (Ok made) new slot h =
    let same : (with_end made.0 made.1 made.1.start, opened addr made.1) ≡ (new, slot) = cc in
    (made, refl, sym (ap (λ (p : List ℕ × Slot). p.0) same), sym (ap (λ (p : List ℕ × Slot). p.1) same))
opened-parts addr (Err code) new slot h = cc

opened-code : (addr : List ℕ) (r : Result (List ℕ × Entry) ℕ) (code : ℕ) → emptied_and_opened addr r ≡ Err code → r ≡ Err code
opened-code addr (Ok made) code h = cc
opened-code addr (Err other) code h = let same : other ≡ code = cc in ap Err same

pub opens-new : (image addr : List ℕ) (old : Option (List ℕ)) (sectors : ℕ) (name new : List ℕ) (slot : Slot) → new_opened image addr old sectors name ≡ Ok (new, slot)
    → (make_refusal image old name sectors ≡ None) × MadeEmpty image old name sectors new
unfolding new_opened
opens-new image addr old sectors name new slot h =
    let parts = opened-parts addr (file_made image old name false sectors) new slot h in
    let made = made-is image old name false sectors parts.0.0 parts.0.1 parts.1 in
    (made.0, record { e = parts.0.1; between = parts.0.0; made = made.1; same = parts.2 })

pub new-refused : (image addr : List ℕ) (old : Option (List ℕ)) (sectors : ℕ) (name : List ℕ) (code : ℕ) → new_opened image addr old sectors name ≡ Err code → make_refusal image old name sectors ≡ Some code
unfolding new_opened
new-refused image addr old sectors name code h = refused-is image old name false sectors code (opened-code addr (file_made image old name false sectors) code h)
