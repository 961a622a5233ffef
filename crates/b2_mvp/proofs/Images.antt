-- The images of platters, read one after another.
use Rattle.std.proofs.Common.{◌≡◌, ℕ, suc, ◌+◌, ◌<◌, length, true, List, [], ◌∷◌, ◌++◌, take, drop, get_or, Option, Some, None, refl, sym, ap, subst, ◌∙◌}
use Rattle.std.specs.List.{list_all}
use Rattle.std.proofs.lemmas.Bool.{and_parts}
use Rattle.std.proofs.lemmas.List.{drop_more, take_more, take-append-drop}
use Rattle.b2_base.specs.Files.{Files}
use Rattle.b2_base.specs.Seen.{ShelfSeen, Later}
use Rattle.b2_boot.specs.Boots.{is_platter}
use Rattle.b2_boot.specs.declared.boot.BootPlatter.{BootPlatter}
use Rattle.b2_sched.specs.Start.{Images}
use Rattle.b2_mvp.specs.Inputs.{image_limit, HasImage, HaveImages, FailsChecks, CannotOpen, CannotReadFrom, CannotRead, CannotReadAll}
use Rattle.b2_mvp.proofs.Tops.{later_fetch}
use Rattle.b2_status.specs.declared.status.Status.{Status}
use Rattle.b2_status.specs.declared.status.Status.TheVariants as status

-- those that are left after one more
pub left_good : (ps : List BootPlatter) (i : ℕ) (p : BootPlatter) → i < length ps → list_all is_platter (drop i ps) ≡ true → list_all is_platter (drop (i + 1) ps) ≡ true
left_good ps i p lt h =
    (and_parts (is_platter (get_or ps i p)) (list_all is_platter (drop (i + 1) ps)) (subst (λ (l : List BootPlatter). list_all is_platter l ≡ true) (drop_more ps i p lt) h)).1

-- those so far, with one more
pub taken_more : {A : Type 0} (ps : List A) (i : ℕ) (p : A) → i < length ps → p ≡ get_or ps i p → take i ps ++ p ∷ [] ≡ take (i + 1) ps
taken_more ps i p lt is = ap (λ q. take i ps ++ q ∷ []) is ∙ sym (take_more ps i p lt)

one_more_pair : (files : Option Files) (ps : List BootPlatter) (images : Images) (p : BootPlatter) (image : List ℕ) → HaveImages files ps images → HasImage files p image
    → HaveImages files (ps ++ p ∷ []) (images ++ image ∷ [])
one_more_pair files [] [] p image h has = (has, tt)
one_more_pair files [] (i ∷ images) p image h has = absurd h
one_more_pair files (q ∷ ps) [] p image h has = absurd h
one_more_pair files (q ∷ ps) (i ∷ images) p image h has = (h.0, one_more_pair files ps images p image h.1 has)

pub have_more : (files : Option Files) (ps : List BootPlatter) (images : Images) (i : ℕ) (p : BootPlatter) (image : List ℕ) → i < length ps → p ≡ get_or ps i p
    → HaveImages files (take i ps) images → HasImage files p image → HaveImages files (take (i + 1) ps) (images ++ image ∷ [])
have_more files ps images i p image lt is so_far has =
    subst (λ (l : List BootPlatter). HaveImages files l (images ++ image ∷ [])) (taken_more ps i p lt is) (one_more_pair files (take i ps) images p image so_far has)

-- one among all
pub around : {A : Type 0} (ps : List A) (i : ℕ) (p : A) → i < length ps → p ≡ get_or ps i p → ps ≡ take i ps ++ p ∷ drop (i + 1) ps
around ps i p lt is = sym (take-append-drop i ps) ∙ ap (λ l. take i ps ++ l) (drop_more ps i p lt ∙ ap (λ q. q ∷ drop (i + 1) ps) (sym is))

-- an image that ends the call, after others were read
later_open : (address name : List ℕ) (old mid new : ShelfSeen) (s : Status) → Later old mid → mid.files ≡ old.files → CannotOpen address name mid new s → CannotOpen address name old new s
later_open address name old mid new (status.BadImage at check) later same h = (h.0, subst (λ f. FailsChecks name f check) same h.1)
later_open address name old mid new s later same h = later_fetch name image_limit old mid new s later same h

later_from : (image : Option (List ℕ)) (address : List ℕ) (old mid new : ShelfSeen) (s : Status) → Later old mid → mid.files ≡ old.files → CannotReadFrom image address mid new s → CannotReadFrom image address old new s
later_from None address old mid new s later same h = h
later_from (Some name) address old mid new s later same h = later_open address name old mid new s later same h

pub one_unread : (ps : List BootPlatter) (images : Images) (i : ℕ) (p : BootPlatter) (old mid new : ShelfSeen) (s : Status) → i < length ps → p ≡ get_or ps i p
    → HaveImages old.files (take i ps) images → Later old mid → mid.files ≡ old.files → CannotRead p mid new s → CannotReadAll ps old new s
one_unread ps images i p old mid new status.NoMemory lt is so_far later same h = tt
one_unread ps images i p old mid new s lt is so_far later same h = record {
  before = take i ps;
  images = images;
  platter = p;
  after = drop (i + 1) ps;
  in_order = around ps i p lt is;
  have_images = so_far;
  fails = later_from p.image p.address old mid new s later same h;
}

-- as many images as platters
pub as_many : (files : Option Files) (ps : List BootPlatter) (images : Images) → HaveImages files ps images → length ps ≡ length images
as_many files [] [] h = refl
as_many files [] (i ∷ images) h = absurd h
as_many files (p ∷ ps) [] h = absurd h
as_many files (p ∷ ps) (i ∷ images) h = ap suc (as_many files ps images h.1)
