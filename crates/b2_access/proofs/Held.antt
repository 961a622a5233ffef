-- A device that another holds: an access that reaches it is stopped, and one that doesn't reach it doesn't write it.
use Rattle.std.specs.Prelude.{◌≡◌, ◌≢◌, ◌⊎◌, ℕ, ◌==◌, Bool, true, false, List, [], ◌∷◌, ◌++◌, map, Option, Some, None, refl, if◌then◌else◌}
use Rattle.std.specs.Cmp.{unsigned_Decides}
use Rattle.std.specs.List.{list_all}
use Rattle.std.proofs.Common.{sym, ap, subst, ◌∙◌, inl, inr}
use Rattle.std.proofs.lemmas.Bool.{and_parts}
use Rattle.b2_access.specs.declared.objects.Object.{Object}
use Rattle.b2_access.specs.declared.objects.Object.TheVariants as object
use Rattle.b2_access.specs.declared.accesses.Access.{Access}
use Rattle.b2_access.specs.declared.accesses.Access.TheVariants as access
use Rattle.b2_access.specs.declared.reached.TextUse.{TextUse}
use Rattle.b2_access.specs.declared.reached.TextUse.TheVariants as text
use Rattle.b2_access.specs.AccessRows.{frees, frees_if, holder_at, holder_entered, is_held_by, reach, row}
use Rattle.b2_access.specs.AnswerKinds.{is_done, is_wait}
use Rattle.b2_access.specs.Answering.{may_stop_by}
use Rattle.b2_access.specs.Contents.{content_other}
use Rattle.b2_access.specs.Disks.{DiskWork}
use Rattle.b2_access.specs.Holding.{AgreeBut, Asks, HeldIsOutOfReach, HeldStaysAsItIs, IsAddressIn, IsContentOf, OtherHoldersStay, OtherImagesStay, WhoAsksWaits, device_of, holders_changed, image_changed}
use Rattle.b2_access.specs.Reach.{DevicePart, DeviceReach, HoldFreed, HoldTaken, WithPlatter, WithPrinter, Reach, borrows, device_objects, entered_objects, entered_text, objects_held, objects_reached, part_objects, terminal_objects, text_objects, to_free, to_take, variable_objects}
use Rattle.b2_access.specs.Serving.{performs, serves, unless_stopped}
use Rattle.b2_access.specs.Sharing.{Gives}
use Rattle.b2_access.specs.Stopping.{at_front, first_inside, first_other, first_there, holders, in_front, inside_edited, stop, stop_by, stopping_holder}
use Rattle.b2_access.specs.Store.{StoreState, content, put, IsIn}
use Rattle.b2_access.specs.Task.{wider}
use Rattle.b2_access.specs.Touching.{touched}
use Rattle.b2_access.specs.declared.accesses.Answer.{Answer}
use Rattle.b2_access.proofs.Unwritten.{of_kinds, unwritten as of_another}
use Rattle.b2_access.proofs.Holders.{also_first, performs_on, performs_same, wider_same}
use Rattle.b2_access.proofs.RowLaws.{leaves}
use Rattle.b2_access.proofs.TaskLaws.{gives_alike, leaves_others}
use Rattle.b2_access.proofs.RowAnswers.{of_freeing, tells_wider, written_is_reached}

abbrev IsAmong : {A : Type 0} → A → List A → Type 0
IsAmong x [] = ⊥
IsAmong x (y ∷ ys) = (x ≡ y) ⊎ IsAmong x ys

among_left : {A : Type 0} (x : A) (xs ys : List A) → IsAmong x xs → IsAmong x (xs ++ ys)
among_left x [] ys i = absurd i
among_left x (y ∷ xs) ys i = elim i [ inl e ↦ inl e | inr j ↦ inr (among_left x xs ys j) ]

among_right : {A : Type 0} (x : A) (xs ys : List A) → IsAmong x ys → IsAmong x (xs ++ ys)
among_right x [] ys i = i
among_right x (y ∷ xs) ys i = inr (among_right x xs ys i)

-- another partition among those who come first is met
met : (who p : ℕ) → p ≢ who → (ps : List ℕ) → IsAmong p ps → first_other who ps ≡ None → ⊥
met who p apart [] i none = i
met who p apart (q ∷ ps) i none = by (q == who) refl none (λ j rest. met who p apart ps j rest)
  where
    by : (b : Bool) → (q == who) ≡ b → (if b then first_other who ps else Some q) ≡ None → (IsAmong p ps → first_other who ps ≡ None → ⊥) → ⊥
    by true is rest later = elim i [ inl e ↦ apart (e ∙ (unsigned_Decides q who).0 is) | inr j ↦ later j rest ]
    by false is rest later = cc

-- who holds a device is among the holders
abbrev IsDevice : List ℕ → List DeviceReach → Type 0
IsDevice d [] = ⊥
IsDevice d (x ∷ xs) = (d ≡ x.address) ⊎ IsDevice d xs

abbrev AreStopping : List DeviceReach → Type 0
AreStopping [] = Unit {0}
AreStopping (x ∷ ds) = (may_stop_by x.part ≡ true) × AreStopping ds

stops_here : (p : ℕ) (part : DevicePart) → may_stop_by part ≡ true → IsAmong p (stopping_holder part (Some (Some p)))
stops_here p HoldTaken is = inl refl
stops_here p HoldFreed is = cc
stops_here p WithPlatter is = inl refl
stops_here p WithPrinter is = inl refl

holds_one : (p : ℕ) (d : List ℕ) (ds : List DeviceReach) (s : StoreState) → content s (object.Hog d) ≡ Some (Some p) → AreStopping ds → IsDevice d ds → IsAmong p (holders ds s)
holds_one p d [] s held are i = i
holds_one p d (x ∷ ds) s held are i = elim i [
  | inl e ↦
      let here : content s (object.Hog x.address) ≡ Some (Some p) = subst (λ (a : List ℕ). content s (object.Hog a) ≡ Some (Some p)) e held in
      among_left p (stopping_holder x.part (content s (object.Hog x.address))) (holders ds s) (subst (λ h. IsAmong p (stopping_holder x.part h)) (sym here) (stops_here p x.part are.0))
  | inr j ↦ among_right p (stopping_holder x.part (content s (object.Hog x.address))) (holders ds s) (holds_one p d ds s held are.1 j)
]

-- an object of a device is reached with that device alone
split : (o : Object) (xs ys : List Object) → IsIn o (xs ++ ys) → IsIn o xs ⊎ IsIn o ys
split o [] ys i = inr i
split o (x ∷ xs) ys i = elim i [ inl e ↦ inl (inl e) | inr j ↦ elim (split o xs ys j) [ inl k ↦ inl (inr k) | inr k ↦ inr k ] ]

module _ (d : List ℕ) (o : Object) (is : device_of o ≡ Some d) where
  clash : (x : Object) → device_of x ≡ None → o ≡ x → ⊥
  clash x none e = let both : Some d ≡ None = sym is ∙ ap device_of e ∙ none in cc

  no_terminal : (term : Option ℕ) → IsIn o (terminal_objects term) → ⊥
  no_terminal None i = i
  no_terminal (Some t) i = elim i [ inl e ↦ clash (object.Terminal t) refl e | inr none ↦ none ]

  no_text : (who : ℕ) (used : TextUse) → IsIn o (text_objects who used) → ⊥
  no_text who text.Unused i = i
  no_text who text.Read i = elim i [ inl e ↦ clash (object.Text who) refl e | inr none ↦ none ]
  no_text who text.Edited i = elim i [ inl e ↦ clash (object.Borrow who) refl e | inr j ↦ elim j [ inl e ↦ clash (object.Text who) refl e | inr none ↦ none ] ]

  no_variables : (who : ℕ) (b : Bool) → IsIn o (variable_objects who b) → ⊥
  no_variables who true i = elim i [ inl e ↦ clash (object.Globals who) refl e | inr none ↦ none ]
  no_variables who false i = i

  no_borrower : (ps : List ℕ) → IsIn o (map object.Borrow ps) → ⊥
  no_borrower [] i = i
  no_borrower (p ∷ ps) i = elim i [ inl e ↦ clash (object.Borrow p) refl e | inr j ↦ no_borrower ps j ]

  no_name : (ns : List (List ℕ)) → IsIn o (map object.Name ns) → ⊥
  no_name [] i = i
  no_name (n ∷ ns) i = elim i [ inl e ↦ clash (object.Name n) refl e | inr j ↦ no_name ns j ]

  same_device : (x : Object) (a : List ℕ) → device_of x ≡ Some a → o ≡ x → d ≡ a
  same_device x a there e = let both : Some d ≡ Some a = sym is ∙ ap device_of e ∙ there in cc

  of_part : (a : List ℕ) (part : DevicePart) → IsIn o (part_objects a part) → d ≡ a
  of_part a HoldTaken i = elim i [ inl e ↦ same_device (object.Hog a) a refl e | inr none ↦ absurd none ]
  of_part a HoldFreed i = elim i [ inl e ↦ same_device (object.Hog a) a refl e | inr none ↦ absurd none ]
  of_part a WithPlatter i = elim i [ inl e ↦ same_device (object.Hog a) a refl e | inr j ↦ elim j [ inl e ↦ same_device (object.Platter a) a refl e | inr none ↦ absurd none ] ]
  of_part a WithPrinter i = elim i [ inl e ↦ same_device (object.Hog a) a refl e | inr j ↦ elim j [ inl e ↦ same_device (object.Printer a) a refl e | inr none ↦ absurd none ] ]

  of_devices : (ds : List DeviceReach) → IsIn o (device_objects ds) → IsDevice d ds
  of_devices [] i = i
  of_devices (x ∷ ds) i = elim (split o (part_objects x.address x.part) (device_objects ds) i) [ inl j ↦ inl (of_part x.address x.part j) | inr j ↦ inr (of_devices ds j) ]

  no_entered_text : (holder : Option ℕ) → IsIn o (entered_text holder) → ⊥
  no_entered_text None i = i
  no_entered_text (Some g) i = elim i [ inl e ↦ clash (object.Text g) refl e | inr j ↦ elim j [ inl e ↦ clash (object.Borrow g) refl e | inr none ↦ none ] ]

  no_entered : (entered : Option (List ℕ)) (holder : Option ℕ) → IsIn o (entered_objects entered holder) → ⊥
  no_entered None holder i = i
  no_entered (Some name) holder i = elim i [ inl e ↦ clash (object.Name name) refl e | inr j ↦ no_entered_text holder j ]

  is_reached : (who : ℕ) (holder : Option ℕ) (r : Reach) → IsIn o (objects_reached who holder r) → IsDevice d r.devices
  is_reached who holder r i = elim (split o (terminal_objects r.terminal) _ i) [
    | inl j ↦ absurd (no_terminal r.terminal j)
    | inr j ↦ elim (split o (text_objects who r.text) _ j) [
      | inl k ↦ absurd (no_text who r.text k)
      | inr k ↦ elim (split o (variable_objects who r.variables) _ k) [
        | inl l ↦ absurd (no_variables who r.variables l)
        | inr l ↦ elim (split o (borrows r.borrowers) _ l) [
          | inl m ↦ absurd (no_borrower r.borrowers m)
          | inr m ↦ elim (split o (device_objects r.devices) _ m) [
            | inl n ↦ of_devices r.devices n
            | inr n ↦ absurd (elim (split o (entered_objects r.entered holder) _ n) [ inl x ↦ no_entered r.entered holder x | inr x ↦ no_name r.names x ])
          ]
        ]
      ]
    ]
  ]

-- all devices that are reached stop an access, where another holds them, unless it frees them
abbrev is_freeing : Access → Bool
is_freeing (access.CloseDevices addrs) = true
is_freeing a = false

taken_stop : (addrs : List (List ℕ)) → AreStopping (to_take addrs).devices
taken_stop [] = tt
taken_stop (a ∷ addrs) = (refl, taken_stop addrs)

all_stop : (ds : List DeviceReach) → list_all (λ (x : DeviceReach). may_stop_by x.part) ds ≡ true → AreStopping ds
all_stop [] h = tt
all_stop (x ∷ ds) h = let both = and_parts (may_stop_by x.part) (list_all (λ (x : DeviceReach). may_stop_by x.part) ds) h in (both.0, all_stop ds both.1)

are_stopping : (a : Access) → is_freeing a ≡ false → AreStopping (row a).reach.devices
are_stopping (access.OpenDevices addrs) goes = taken_stop addrs
are_stopping (access.CloseDevices addrs) goes = cc
are_stopping a goes = all_stop (row a).reach.devices refl

module _ (disks : DiskWork) (who p : ℕ) (d : List ℕ) (o : Object) (a : Access) (s : StoreState) (held : content s (object.Hog d) ≡ Some (Some p)) (apart : p ≢ who) (is : device_of o ≡ Some d) (goes : is_freeing a ≡ false) where
  unwritten : first_other who (first_there (row a).reach s) ≡ None → IsIn o ((row a).writes who (holder_at a s)) → ⊥
  unwritten none i =
      let there = is_reached d o is who (holder_at a s) (row a).reach (written_is_reached a who (holder_at a s) o i) in
      met who p apart (first_there (row a).reach s) (among_right p (at_front (row a).reach.terminal s) (holders (row a).reach.devices s) (holds_one p d (row a).reach.devices s held (are_stopping a goes) there)) none

  stays : (first inside : Option ℕ) → first_other who (first_there (row a).reach s) ≡ first
      → content (unless_stopped (stop_by first inside) (performs ((row a).does disks who (holder_at a s)) s) s).after o ≡ content s o
  stays (Some q) inside e = refl
  stays None (Some q) e = refl
  stays None None e = leaves_others ((row a).does disks who (holder_at a s)) s o (unwritten e)

-- and freeing leaves what another holds
module _ (who p : ℕ) (d : List ℕ) (o : Object) (s : StoreState) (held : content s (object.Hog d) ≡ Some (Some p)) (apart : p ≢ who) (is : device_of o ≡ Some d) where
  not_own : (a : List ℕ) → is_held_by who (content s (object.Hog a)) ≡ true → o ≡ object.Hog a → ⊥
  not_own a own e =
      let same : d ≡ a = same_device d o is (object.Hog a) a refl e in
      let here : content s (object.Hog a) ≡ Some (Some p) = subst (λ (x : List ℕ). content s (object.Hog x) ≡ Some (Some p)) same held in
      apart ((unsigned_Decides p who).0 (ap (is_held_by who) (sym here) ∙ own))

  wider_leaves : (a : List ℕ) (addrs : List (List ℕ)) → ((v : StoreState) → content (performs_on (frees who addrs) s v).after o ≡ content v o)
      → (v : StoreState) → content (performs_on (wider (object.Hog a) (frees who addrs)) s v).after o ≡ content v o
  wider_leaves a addrs later v = ap (λ (g : Gives StoreState). content g.after o) (wider_same (object.Hog a) (frees who addrs) s v) ∙ later v

  freeing_leaves : (addrs : List (List ℕ)) (w : StoreState) → content (performs_on (frees who addrs) s w).after o ≡ content w o
  freeing_leaves [] w = refl
  freeing_leaves (a ∷ addrs) w = by (is_held_by who (content s (object.Hog a))) refl (wider_leaves a addrs (λ v. freeing_leaves addrs v))
    where
      by : (own : Bool) → is_held_by who (content s (object.Hog a)) ≡ own → ((v : StoreState) → content (performs_on (wider (object.Hog a) (frees who addrs)) s v).after o ≡ content v o)
          → content (performs_on (frees_if who own a addrs (wider (object.Hog a) (frees who addrs))) s w).after o ≡ content w o
      by true e rest =
          ap (λ (g : Gives StoreState). content g.after o) (also_first (object.Hog a) (inl refl) None (wider (object.Hog a) (frees who addrs)) s w (tells_wider is_done (object.Hog a) (frees who addrs) (of_freeing who addrs)))
          ∙ rest (put (object.Hog a) None w)
          ∙ content_other (object.Hog a) o None w (not_own a e)
      by false e rest = rest w

  frees_stays : (addrs : List (List ℕ)) (stopped : Option Answer) → content (unless_stopped stopped (performs (frees who addrs) s) s).after o ≡ content s o
  frees_stays addrs None = ap (λ (g : Gives StoreState). content g.after o) (performs_same (frees who addrs) s) ∙ freeing_leaves addrs s
  frees_stays addrs (Some x) = refl

pub held_stays : HeldStaysAsItIs
held_stays disks who p d o (access.CloseDevices addrs) s held apart is = frees_stays who p d o s held apart is addrs (stop who (to_free addrs) s)
held_stays disks who p d o a s held apart is = stays disks who p d o a s held apart is refl (first_other who (first_there (row a).reach s)) (inside_edited who (row a).reach.text s) refl

-- who asks for a device that another holds waits
asked_meets : (who p : ℕ) (d : List ℕ) (ds : List DeviceReach) (s : StoreState) → content s (object.Hog d) ≡ Some (Some p) → Asks d ds → IsAmong p (holders ds s)
asked_meets who p d [] s held i = absurd i
asked_meets who p d (x ∷ ds) s held i = elim i [
  | inl here ↦
      let hold : content s (object.Hog x.address) ≡ Some (Some p) = subst (λ (a : List ℕ). content s (object.Hog a) ≡ Some (Some p)) here.0 held in
      among_left p (stopping_holder x.part (content s (object.Hog x.address))) (holders ds s) (subst (λ h. IsAmong p (stopping_holder x.part h)) (sym hold) (stops_here p x.part here.1))
  | inr later ↦ among_right p (stopping_holder x.part (content s (object.Hog x.address))) (holders ds s) (asked_meets who p d ds s held later)
]

pub who_asks_waits : WhoAsksWaits
who_asks_waits disks who p d a s held apart asks = by (first_other who (first_there (row a).reach s)) (inside_edited who (row a).reach.text s) refl
  where
    by : (first inside : Option ℕ) → first_other who (first_there (row a).reach s) ≡ first → is_wait (unless_stopped (stop_by first inside) (performs ((row a).does disks who (holder_at a s)) s) s).answer ≡ true
    by (Some q) inside e = refl
    by None inside e = absurd (met who p apart (first_there (row a).reach s) (among_right p (at_front (row a).reach.terminal s) (holders (row a).reach.devices s) (asked_meets who p d (row a).reach.devices s held asks)) e)

abbrev is_hog : Object → Bool
is_hog (object.Hog a) = true
is_hog o = false

abbrev is_printer : Object → Bool
is_printer (object.Printer a) = true
is_printer o = false

abbrev is_platter : Object → Bool
is_platter (object.Platter a) = true
is_platter o = false

-- an access that changes other holders, or none, doesn't write this one
held_in : (d : List ℕ) (addrs : List (List ℕ)) → IsIn (object.Hog d) (objects_held addrs) → IsAddressIn d addrs
held_in d [] i = absurd i
held_in d (a ∷ addrs) i = elim i [ inl e ↦ inl (same_device d (object.Hog d) refl (object.Hog a) a refl e) | inr j ↦ inr (held_in d addrs j) ]

holder_unwritten : (who : ℕ) (holder : Option ℕ) (d : List ℕ) (a : Access) → (IsAddressIn d (holders_changed a) → ⊥) → IsIn (object.Hog d) ((row a).writes who holder) → ⊥
holder_unwritten who holder d (access.OpenDevices addrs) out i = out (held_in d addrs i)
holder_unwritten who holder d (access.CloseDevices addrs) out i = out (held_in d addrs i)
holder_unwritten who holder d a out i = of_another who holder (object.Hog d) a refl i

pub other_holders_stay : OtherHoldersStay
other_holders_stay disks who d a s out = leaves (row a) disks who s (object.Hog d) (holder_unwritten who (holder_at a s) d a out)

-- an access that changes another image, or none, doesn't write this one
no_image : (d addr : List ℕ) → Some addr ≢ Some d → IsIn (object.Platter d) (object.Platter addr ∷ []) → ⊥
no_image d addr apart i = elim i [ inl e ↦ apart (ap Some (sym (same_device d (object.Platter d) refl (object.Platter addr) addr refl e))) | inr never ↦ never ]

image_unwritten : (who : ℕ) (holder : Option ℕ) (d : List ℕ) (a : Access) → image_changed a ≢ Some d → IsIn (object.Platter d) ((row a).writes who holder) → ⊥
image_unwritten who holder d (access.Scratch addr name) apart i = no_image d addr apart i
image_unwritten who holder d (access.Format addr index end) apart i = no_image d addr apart i
image_unwritten who holder d (access.DataNew addr old sectors name) apart i = no_image d addr apart i
image_unwritten who holder d (access.DataSave slot values) apart i = no_image d slot.addr apart i
image_unwritten who holder d (access.DataEnd slot) apart i = no_image d slot.addr apart i
image_unwritten who holder d (access.SaveProgram addr old name from to) apart i = no_image d addr apart i
image_unwritten who holder d (access.RawSave addr at values) apart i = no_image d addr apart i
image_unwritten who holder d (access.RawEnd addr at) apart i = no_image d addr apart i
image_unwritten who holder d (access.BlockSave addr at bytes) apart i = no_image d addr apart i
image_unwritten who holder d (access.MovePlatter from to) apart i = no_image d to apart i
image_unwritten who holder d (access.MoveFile from name to) apart i = no_image d to apart i
image_unwritten who holder d a apart i = of_another who holder (object.Platter d) a refl i

pub other_images_stay : OtherImagesStay
other_images_stay disks who d a s apart = leaves (row a) disks who s (object.Platter d) (image_unwritten who (holder_at a s) d a apart)

-- what a device has is looked at neither by what stops an access nor, where nothing does, by what it does
abbrev no_content : (d : List ℕ) (o : Object) → is_platter o ≡ false → is_printer o ≡ false → IsContentOf d o → ⊥
no_content d o no_image no_print i = elim i [ inl e ↦ of_kinds is_platter (object.Platter d) o refl no_image (sym e) | inr e ↦ of_kinds is_printer (object.Printer d) o refl no_print (sym e) ]

same_at_front : (term : Option ℕ) (d : List ℕ) (s t : StoreState) → AgreeBut d s t → at_front term s ≡ at_front term t
same_at_front None d s t agree = refl
same_at_front (Some term) d s t agree = ap in_front (agree (object.Terminal term) (no_content d (object.Terminal term) refl refl))

same_held : (ds : List DeviceReach) (d : List ℕ) (s t : StoreState) → AgreeBut d s t → holders ds s ≡ holders ds t
same_held [] d s t agree = refl
same_held (x ∷ ds) d s t agree =
    ap (λ h. stopping_holder x.part h ++ holders ds s) (agree (object.Hog x.address) (no_content d (object.Hog x.address) refl refl))
    ∙ ap (λ hs. stopping_holder x.part (content t (object.Hog x.address)) ++ hs) (same_held ds d s t agree)

same_within : (who : ℕ) (used : TextUse) (d : List ℕ) (s t : StoreState) → AgreeBut d s t → inside_edited who used s ≡ inside_edited who used t
same_within who text.Unused d s t agree = refl
same_within who text.Read d s t agree = refl
same_within who text.Edited d s t agree = ap first_inside (agree (object.Borrow who) (no_content d (object.Borrow who) refl refl))

same_stopped : (who : ℕ) (r : Reach) (d : List ℕ) (s t : StoreState) → AgreeBut d s t → stop who r s ≡ stop who r t
same_stopped who r d s t agree =
    ap (λ f. stop_by (first_other who (f ++ holders r.devices s)) (inside_edited who r.text s)) (same_at_front r.terminal d s t agree)
    ∙ ap (λ hs. stop_by (first_other who (at_front r.terminal t ++ hs)) (inside_edited who r.text s)) (same_held r.devices d s t agree)
    ∙ ap (stop_by (first_other who (first_there r t))) (same_within who r.text d s t agree)

-- freeing reaches holders alone
freed_no_content : (d : List ℕ) (o : Object) (addrs : List (List ℕ)) → IsIn o (device_objects (to_free addrs).devices ++ []) → IsContentOf d o → ⊥
freed_no_content d o [] i c = i
freed_no_content d o (a ∷ addrs) i c = elim i [ inl e ↦ no_content d (object.Hog a) refl refl (subst (IsContentOf d) e c) | inr j ↦ freed_no_content d o addrs j c ]

content_device : (d : List ℕ) (o : Object) → IsContentOf d o → device_of o ≡ Some d
content_device d o c = elim c [ inl e ↦ ap device_of e | inr e ↦ ap device_of e ]

abbrev Alike : List ℕ → Gives StoreState → Gives StoreState → Type 0
Alike d x y = (x.answer ≡ y.answer) × AgreeBut d x.after y.after

-- where nothing stops it, none of what it reaches is what the device has
same_holding : (entered : Option (List ℕ)) (d : List ℕ) (s t : StoreState) → AgreeBut d s t → holder_entered entered s ≡ holder_entered entered t
same_holding None d s t agree = refl
same_holding (Some name) d s t agree = let same = agree (object.Name name) (no_content d (object.Name name) refl refl) in cc

performed_alike : (disks : DiskWork) (who : ℕ) (d : List ℕ) (a : Access) (s t : StoreState) → AgreeBut d s t → ((o : Object) → IsIn o (touched s who a) → IsContentOf d o → ⊥)
    → Alike d (performs ((row a).does disks who (holder_at a s)) s) (performs ((row a).does disks who (holder_at a t)) t)
performed_alike disks who d a s t agree out =
    let g = gives_alike ((row a).does disks who (holder_at a s)) s t (λ o i. agree o (out o i)) in
    subst (λ (holder : Option ℕ). Alike d (performs ((row a).does disks who (holder_at a s)) s) (performs ((row a).does disks who holder) t)) (same_holding (reach a).entered d s t agree)
    (g.answers, λ o c. g.contents o (agree o c))

unless_alike : (d : List ℕ) (y : Option Answer) (x z : Gives StoreState) (s t : StoreState) → AgreeBut d s t → (y ≡ None → Alike d x z) → Alike d (unless_stopped y x s) (unless_stopped y z t)
unless_alike d None x z s t agree same = same refl
unless_alike d (Some y) x z s t agree same = (refl, agree)

first_none : (first inside : Option ℕ) → stop_by first inside ≡ None → first ≡ None
first_none None inside e = refl
first_none (Some q) inside e = cc

module _ (disks : DiskWork) (who p : ℕ) (d : List ℕ) (a : Access) (s t : StoreState) (held : content s (object.Hog d) ≡ Some (Some p)) (apart : p ≢ who) (agree : AgreeBut d s t) where
  served_apart : ((o : Object) → stop who (row a).reach s ≡ None → IsIn o (touched s who a) → IsContentOf d o → ⊥) → Alike d (serves disks s who a) (serves disks t who a)
  served_apart out =
      let same = same_stopped who (row a).reach d s t agree in
      let by = unless_alike d (stop who (row a).reach s) (performs ((row a).does disks who (holder_at a s)) s) (performs ((row a).does disks who (holder_at a t)) t) s t agree (λ none. performed_alike disks who d a s t agree (λ o i c. out o none i c)) in
      subst (λ (y : Option Answer). Alike d (serves disks s who a) (unless_stopped y (performs ((row a).does disks who (holder_at a t)) t) t)) same by

  unreached : is_freeing a ≡ false → (o : Object) → stop who (row a).reach s ≡ None → IsIn o (touched s who a) → IsContentOf d o → ⊥
  unreached goes o none i c =
      let there = is_reached d o (content_device d o c) who (holder_at a s) (row a).reach i in
      met who p apart (first_there (row a).reach s) (among_right p (at_front (row a).reach.terminal s) (holders (row a).reach.devices s) (holds_one p d (row a).reach.devices s held (are_stopping a goes) there))
      (first_none (first_other who (first_there (row a).reach s)) (inside_edited who (row a).reach.text s) none)

pub held_is_out_of_reach : HeldIsOutOfReach
held_is_out_of_reach disks who p d (access.CloseDevices addrs) s t held apart agree = served_apart disks who p d (access.CloseDevices addrs) s t held apart agree (λ o none i c. freed_no_content d o addrs i c)
held_is_out_of_reach disks who p d a s t held apart agree = served_apart disks who p d a s t held apart agree (unreached disks who p d a s t held apart agree refl)
