-- The file that is made, as a function says it, and what that says.
use Rattle.std.proofs.Common.{◌≡◌, ℕ, ◌&&◌, ◌⊎◌, inl, inr, Bool, true, not, List, Option, Some, None, Result, Ok, Err, IfOk, IfErr, IfSome, OnOk, refl, sym, ap, ap₂, subst, ◌∙◌}
use Rattle.std.specs.Prelude.{is_some, is_none}
use Rattle.std.specs.Str.{bytes_eq}
use Rattle.std.specs.FinMap.{get}
use Rattle.b2_base.specs.declared.codes.TheConstants.{D83_NAME_PRESENT}
use Rattle.b2_catalog.specs.declared.entry.Entry.{Entry}
use Rattle.b2_catalog.specs.Catalogue.{catalogue}
use Rattle.b2_catalog.specs.Ways.{place, slot_found}
use Rattle.b2_catalog.specs.Changes.{entered, reused}
use Rattle.b2_catalog.specs.Calls.{enter_refusal, new_entry, old_refusal, reuse_refusal, reused_place}
use Rattle.b2_catalog.specs.Making.{MakesFile, file_again, file_given, file_made, make_refusal, new_file}
use Rattle.b2_catalog.specs.Results.{unless_refused}
use Rattle.b2_catalog.proofs.MadeFiles.{enters, goes-by, old-parts, refused-by, slot-by}

some-entry : (o : Option Entry) → is_some o ≡ true → (e : Entry) × (o ≡ Some e)
some-entry None h = cc
some-entry (Some e) h = (e, refl)

allowed : (image : List ℕ) (old : Option (List ℕ)) (name : List ℕ) (program : Bool) (sectors : ℕ) → make_refusal image old name sectors ≡ None → file_made image old name program sectors ≡ file_given image old name program sectors
unfolding file_made
allowed image old name program sectors none = ap (λ (o : Option ℕ). unless_refused o (file_given image old name program sectors)) none

made-new : (image name : List ℕ) (program : Bool) (sectors : ℕ) (new : List ℕ) (e : Entry) → enter_refusal image name sectors ≡ None → e ≡ new_entry image name program sectors
    → IfSome (place image name) (λ k. new ≡ entered image k name program sectors) → file_made image None name program sectors ≡ Ok (new, e)
made-new image name program sectors new e none made is =
    let n = enters image name sectors none in
    let same : new ≡ entered image n.k name program sectors = subst (λ (o : Option ℕ). IfSome o (λ k. new ≡ entered image k name program sectors)) n.place_is is in
    allowed image None name program sectors none
    ∙ (ap (new_file image name program sectors) n.place_is ∙ ap₂ (λ (i : List ℕ) (f : Entry). Ok (i, f)) (sym same) (sym made))

made-again : (image old name : List ℕ) (program : Bool) (sectors : ℕ) (new : List ℕ) (e : Entry) → reuse_refusal image old name ≡ None
    → IfSome (get (catalogue image) old) (λ was. e ≡ record was { name = name; live = true; program = program })
    → IfSome (slot_found image old) (λ k. IfSome (reused_place image old name) (λ to. new ≡ reused image k to name program))
    → file_made image (Some old) name program sectors ≡ Ok (new, e)
made-again image old name program sectors new e none made is =
    let first = refused-by (not (bytes_eq old name) && is_some (get (catalogue image) name)) true (old_refusal (get (catalogue image) old) (not (bytes_eq old name) && is_none (place image name))) D83_NAME_PRESENT none in
    let parts = old-parts (get (catalogue image) old) (not (bytes_eq old name) && is_none (place image name)) first.1 in
    let was = some-entry (get (catalogue image) old) parts.0 in
    let k = slot-by image old (slot_found image old) refl parts.0 in
    let to = goes-by (bytes_eq old name) (slot_found image old) (place image name) k.0 k.1 parts.1 in
    let file : e ≡ record was.0 { name = name; live = true; program = program } =
    subst (λ (o : Option Entry). IfSome o (λ was. e ≡ record was { name = name; live = true; program = program })) was.1 made in
    let one = subst (λ (o : Option ℕ). IfSome o (λ k. IfSome (reused_place image old name) (λ to. new ≡ reused image k to name program))) k.1 is in
    let same : new ≡ reused image k.0 to.0 name program = subst (λ (o : Option ℕ). IfSome o (λ to. new ≡ reused image k.0 to name program)) to.1 one in
    allowed image (Some old) name program sectors none
    ∙ (ap (λ (o : Option Entry). file_again image name program o (slot_found image old) (reused_place image old name)) was.1
    ∙ (ap (λ (o : Option ℕ). file_again image name program (Some was.0) o (reused_place image old name)) k.1
    ∙ (ap (λ (o : Option ℕ). file_again image name program (Some was.0) (Some k.0) o) to.1
    ∙ ap₂ (λ (i : List ℕ) (f : Entry). Ok (i, f)) (sym same) (sym file))))

pub new-value : (image name : List ℕ) (program : Bool) (sectors : ℕ) (new : List ℕ) (r : Result Entry ℕ)
    → IfOk r (λ e. (enter_refusal image name sectors ≡ None) × (e ≡ new_entry image name program sectors))
    → OnOk r (IfSome (place image name) (λ k. new ≡ entered image k name program sectors))
    → IfOk r (λ e. file_made image None name program sectors ≡ Ok (new, e))
new-value image name program sectors new (Ok e) ok is = made-new image name program sectors new e ok.0 ok.1 is
new-value image name program sectors new (Err code) ok is = tt

pub again-value : (image old name : List ℕ) (program : Bool) (sectors : ℕ) (new : List ℕ) (r : Result Entry ℕ)
    → IfOk r (λ e. (reuse_refusal image old name ≡ None) × IfSome (get (catalogue image) old) (λ was. e ≡ record was { name = name; live = true; program = program }))
    → OnOk r (IfSome (slot_found image old) (λ k. IfSome (reused_place image old name) (λ to. new ≡ reused image k to name program)))
    → IfOk r (λ e. file_made image (Some old) name program sectors ≡ Ok (new, e))
again-value image old name program sectors new (Ok e) ok is = made-again image old name program sectors new e ok.0 ok.1 is
again-value image old name program sectors new (Err code) ok is = tt

pub refused-value : (image : List ℕ) (old : Option (List ℕ)) (name : List ℕ) (program : Bool) (sectors : ℕ) (new : List ℕ) (r : Result Entry ℕ)
    → IfErr r (λ code. (make_refusal image old name sectors ≡ Some code) × (new ≡ image)) → IfErr r (λ code. file_made image old name program sectors ≡ Err code)
unfolding file_made
refused-value image old name program sectors new (Ok e) err = tt
refused-value image old name program sectors new (Err code) err = ap (λ (o : Option ℕ). unless_refused o (file_given image old name program sectors)) err.0

-- what it says that a file is made is what the function says
pub made-value : (image : List ℕ) (old : Option (List ℕ)) (name : List ℕ) (program : Bool) (sectors : ℕ) (new : List ℕ) (e : Entry) → make_refusal image old name sectors ≡ None
    → MakesFile image old name program sectors new e → file_made image old name program sectors ≡ Ok (new, e)
made-value image None name program sectors new e none made = made-new image name program sectors new e none made.0 made.1
made-value image (Some old) name program sectors new e none made = made-again image old name program sectors new e none made.0 made.1

-- ---- what the function says, as a relation

pub allowed-ok : {A : Type 0} (o : Option ℕ) (r : Result A ℕ) (x : A) → unless_refused o r ≡ Ok x → (o ≡ None) × (r ≡ Ok x)
allowed-ok None r x h = (refl, h)
allowed-ok (Some code) r x h = cc

pub refused-code : {A : Type 0} (o : Option ℕ) (r : Result A ℕ) (code : ℕ) → unless_refused o r ≡ Err code → (o ≡ Some code) ⊎ ((o ≡ None) × (r ≡ Err code))
refused-code None r code h = inr (refl, h)
refused-code {A} (Some other) r code h = let same : other ≡ code = cc in inl (ap Some same)

new-parts : (image name : List ℕ) (program : Bool) (sectors : ℕ) (new : List ℕ) (e : Entry) (o : Option ℕ) → new_file image name program sectors o ≡ Ok (new, e)
    → (e ≡ new_entry image name program sectors) × IfSome o (λ k. new ≡ entered image k name program sectors)
new-parts image name program sectors new e None h = cc
new-parts image name program sectors new e (Some k) h =
    let same : (entered image k name program sectors, new_entry image name program sectors) ≡ (new, e) = cc in
    (sym (ap (λ (p : List ℕ × Entry). p.1) same), sym (ap (λ (p : List ℕ × Entry). p.0) same))

again-parts : (image name : List ℕ) (program : Bool) (new : List ℕ) (e : Entry) (w : Option Entry) (o p : Option ℕ) → file_again image name program w o p ≡ Ok (new, e)
    → IfSome w (λ was. e ≡ record was { name = name; live = true; program = program }) × IfSome o (λ k. IfSome p (λ to. new ≡ reused image k to name program))
again-parts image name program new e None o p h = cc
again-parts image name program new e (Some was) None p h = cc
again-parts image name program new e (Some was) (Some k) None h = cc
again-parts image name program new e (Some was) (Some k) (Some to) h =
    let file : Entry = record was { name = name; live = true; program = program } in
    let same : (reused image k to name program, file) ≡ (new, e) = cc in
    (sym (ap (λ (p : List ℕ × Entry). p.1) same), sym (ap (λ (p : List ℕ × Entry). p.0) same))

given-parts : (image : List ℕ) (old : Option (List ℕ)) (name : List ℕ) (program : Bool) (sectors : ℕ) (new : List ℕ) (e : Entry) → file_given image old name program sectors ≡ Ok (new, e)
    → MakesFile image old name program sectors new e
given-parts image None name program sectors new e h = new-parts image name program sectors new e (place image name) h
given-parts image (Some old) name program sectors new e h = again-parts image name program new e (get (catalogue image) old) (slot_found image old) (reused_place image old name) h

pub made-is : (image : List ℕ) (old : Option (List ℕ)) (name : List ℕ) (program : Bool) (sectors : ℕ) (new : List ℕ) (e : Entry) → file_made image old name program sectors ≡ Ok (new, e)
    → (make_refusal image old name sectors ≡ None) × MakesFile image old name program sectors new e
unfolding file_made
made-is image old name program sectors new e h =
    let parts = allowed-ok (make_refusal image old name sectors) (file_given image old name program sectors) (new, e) h in
    (parts.0, given-parts image old name program sectors new e parts.1)

-- where nothing is refused a file is given
given : (image : List ℕ) (old : Option (List ℕ)) (name : List ℕ) (program : Bool) (sectors : ℕ) → make_refusal image old name sectors ≡ None → (f : List ℕ × Entry) × (file_given image old name program sectors ≡ Ok f)
given image None name program sectors none =
    let n = enters image name sectors none in
    ((entered image n.k name program sectors, new_entry image name program sectors), ap (new_file image name program sectors) n.place_is)
given image (Some old) name program sectors none =
    let first = refused-by (not (bytes_eq old name) && is_some (get (catalogue image) name)) true (old_refusal (get (catalogue image) old) (not (bytes_eq old name) && is_none (place image name))) D83_NAME_PRESENT none in
    let parts = old-parts (get (catalogue image) old) (not (bytes_eq old name) && is_none (place image name)) first.1 in
    let was = some-entry (get (catalogue image) old) parts.0 in
    let k = slot-by image old (slot_found image old) refl parts.0 in
    let to = goes-by (bytes_eq old name) (slot_found image old) (place image name) k.0 k.1 parts.1 in
    let file : Entry = record was.0 { name = name; live = true; program = program } in (
      (reused image k.0 to.0 name program, file),
      ap (λ (o : Option Entry). file_again image name program o (slot_found image old) (reused_place image old name)) was.1
          ∙ (ap (λ (o : Option ℕ). file_again image name program (Some was.0) o (reused_place image old name)) k.1
          ∙ ap (λ (o : Option ℕ). file_again image name program (Some was.0) (Some k.0) o) to.1),
    )

pub refused-is : (image : List ℕ) (old : Option (List ℕ)) (name : List ℕ) (program : Bool) (sectors code : ℕ) → file_made image old name program sectors ≡ Err code → make_refusal image old name sectors ≡ Some code
unfolding file_made
refused-is image old name program sectors code h =
    elim (refused-code (make_refusal image old name sectors) (file_given image old name program sectors) code h) as (λ _. make_refusal image old name sectors ≡ Some code) [
      | inl refused ↦ refused
      | inr other ↦ (let g = given image old name program sectors other.0 in let bad : Ok g.0 ≡ Err code = sym g.1 ∙ other.1 in cc)
    ]
