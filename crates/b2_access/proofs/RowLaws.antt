-- What holds of serving by any row, whatever it does.
use Rattle.std.specs.Prelude.{◌≡◌, ◌≢◌, ◌↔◌, ℕ, ◌==◌, ◌||◌, Bool, true, false, List, [], ◌∷◌, ◌++◌, Option, Some, None, IsSome, refl, if◌then◌else◌}
use Rattle.std.specs.Cmp.{unsigned_Decides}
use Rattle.std.specs.List.{list_any}
use Rattle.std.proofs.Common.{sym, ap, ◌∙◌, inl, inr}
use Rattle.std.proofs.lemmas.Bool.{false≢true, true≢false}
use Rattle.b2_access.specs.declared.objects.Object.{Object}
use Rattle.b2_access.specs.declared.objects.Object.TheVariants as object
use Rattle.b2_access.specs.declared.accesses.Answer.{Answer}
use Rattle.b2_access.specs.declared.accesses.Answer.TheVariants as answer
use Rattle.b2_access.specs.declared.reached.TextUse.{TextUse}
use Rattle.b2_access.specs.declared.reached.TextUse.TheVariants as text
use Rattle.b2_access.specs.AccessRows.{AccessRow, holder_entered}
use Rattle.b2_access.specs.AnswerKinds.{holds_up, stops}
use Rattle.b2_access.specs.Answering.{TellsOnly, is_edited, may_stop, may_stop_by, may_wait}
use Rattle.b2_access.specs.Causes.{IsFirstOther}
use Rattle.b2_access.specs.Disks.{DiskWork}
use Rattle.b2_access.specs.Reach.{DevicePart, DeviceReach, HoldFreed, HoldTaken, WithPlatter, WithPrinter, Reach, borrows, device_objects, entered_objects, objects_reached, part_objects, terminal_objects, text_objects, variable_objects}
use Rattle.b2_access.specs.Serving.{performs, serves_row, unless_stopped}
use Rattle.b2_access.specs.Sharing.{Gives}
use Rattle.b2_access.specs.Stopping.{at_front, first_inside, first_other, first_there, holders, in_front, inside_edited, stop, stop_by, stopping_holder}
use Rattle.b2_access.specs.Store.{StoreState, content, IsIn, AgreeOn}
use Rattle.b2_access.specs.Task.{in_left, in_right}
use Rattle.b2_access.specs.Touching.{entered_in}
use Rattle.b2_access.proofs.TaskLaws.{IsTold, gives_alike, is_told, keeps_listed, leaves_others}

-- stores that agree on some objects agree on each of two parts of them
agree_left : (xs ys : List Object) (s t : StoreState) → AgreeOn (xs ++ ys) s t → AgreeOn xs s t
agree_left xs ys s t agree o i = agree o (in_left o xs ys i)

agree_right : (xs ys : List Object) (s t : StoreState) → AgreeOn (xs ++ ys) s t → AgreeOn ys s t
agree_right xs ys s t agree o i = agree o (in_right o xs ys i)

-- What stops an access is the same in stores that agree on what it reaches.
same_front : (term : Option ℕ) (s t : StoreState) → AgreeOn (terminal_objects term) s t → at_front term s ≡ at_front term t
same_front None s t agree = refl
same_front (Some term) s t agree = ap in_front (agree (object.Terminal term) (inl refl))

hold_reached : (d : DeviceReach) (s t : StoreState) → AgreeOn (part_objects d.address d.part) s t → content s (object.Hog d.address) ≡ content t (object.Hog d.address)
hold_reached d s t agree = by d.part agree
  where
    by : (part : DevicePart) → AgreeOn (part_objects d.address part) s t → content s (object.Hog d.address) ≡ content t (object.Hog d.address)
    by HoldTaken same = same (object.Hog d.address) (inl refl)
    by HoldFreed same = same (object.Hog d.address) (inl refl)
    by WithPlatter same = same (object.Hog d.address) (inl refl)
    by WithPrinter same = same (object.Hog d.address) (inl refl)

same_holders : (ds : List DeviceReach) (s t : StoreState) → AgreeOn (device_objects ds) s t → holders ds s ≡ holders ds t
same_holders [] s t agree = refl
same_holders (d ∷ ds) s t agree =
    let here = hold_reached d s t (agree_left (part_objects d.address d.part) (device_objects ds) s t agree) in
    let rest = same_holders ds s t (agree_right (part_objects d.address d.part) (device_objects ds) s t agree) in
    ap (λ h. stopping_holder d.part h ++ holders ds s) here ∙ ap (λ hs. stopping_holder d.part (content t (object.Hog d.address)) ++ hs) rest

same_inside : (who : ℕ) (used : TextUse) (s t : StoreState) → AgreeOn (text_objects who used) s t → inside_edited who used s ≡ inside_edited who used t
same_inside who text.Unused s t agree = refl
same_inside who text.Read s t agree = refl
same_inside who text.Edited s t agree = ap first_inside (agree (object.Borrow who) (inl refl))

same_stop : (who : ℕ) (holder : Option ℕ) (r : Reach) (s t : StoreState) → AgreeOn (objects_reached who holder r) s t → stop who r s ≡ stop who r t
same_stop who holder r s t agree =
    let after_terminal = agree_right (terminal_objects r.terminal) _ s t agree in
    let after_text = agree_right (text_objects who r.text) _ s t after_terminal in
    let after_variables = agree_right (variable_objects who r.variables) _ s t after_text in
    let after_borrowers = agree_right (borrows r.borrowers) _ s t after_variables in
    let front = same_front r.terminal s t (agree_left (terminal_objects r.terminal) _ s t agree) in
    let held = same_holders r.devices s t (agree_left (device_objects r.devices) _ s t after_borrowers) in
    let inside = same_inside who r.text s t (agree_left (text_objects who r.text) _ s t after_terminal) in
    ap (λ f. stop_by (first_other who (f ++ holders r.devices s)) (inside_edited who r.text s)) front
    ∙ ap (λ hs. stop_by (first_other who (at_front r.terminal t ++ hs)) (inside_edited who r.text s)) held
    ∙ ap (stop_by (first_other who (first_there r t))) inside

-- and so is who holds the name by which a text is entered
same_entered : (entered : Option (List ℕ)) (holder : Option ℕ) (s t : StoreState) → AgreeOn (entered_objects entered holder) s t → holder_entered entered s ≡ holder_entered entered t
same_entered None holder s t agree = refl
same_entered (Some name) holder s t agree = let same = agree (object.Name name) (inl refl) in cc

pub same_holder : (who : ℕ) (holder : Option ℕ) (r : Reach) (s t : StoreState) → AgreeOn (objects_reached who holder r) s t → holder_entered r.entered s ≡ holder_entered r.entered t
same_holder who holder r s t agree =
    let after_text = agree_right (text_objects who r.text) _ s t (agree_right (terminal_objects r.terminal) _ s t agree) in
    let after_borrowers = agree_right (borrows r.borrowers) _ s t (agree_right (variable_objects who r.variables) _ s t after_text) in
    let after_devices = agree_right (device_objects r.devices) _ s t after_borrowers in
    same_entered r.entered holder s t (agree_left (entered_objects r.entered holder) _ s t after_devices)

-- The first other of some partitions.
pub first_is : (who q : ℕ) (ps : List ℕ) → (first_other who ps ≡ Some q) ↔ IsFirstOther who q ps
first_is who q [] = (λ e. cc, λ h. absurd h)
first_is who q (p ∷ ps) = by (p == who) refl (first_is who q ps)
  where
    by : (b : Bool) → (p == who) ≡ b → (first_other who ps ≡ Some q) ↔ IsFirstOther who q ps → ((if b then first_other who ps else Some p) ≡ Some q) ↔ IsFirstOther who q (p ∷ ps)
    by true is rest =
        let same : p ≡ who = (unsigned_Decides p who).0 is in
        (λ e. inr (same, rest.0 e), λ h. elim h [ inl other ↦ absurd (other.0 same) | inr later ↦ rest.1 later.1 ])
    by false is rest =
        let apart : p ≢ who = λ e. true≢false (sym ((unsigned_Decides p who).1 e) ∙ is) in
        (λ e. let here : p ≡ q = cc in inl (apart, sym here), λ h. elim h [ inl other ↦ ap Some (sym other.1) | inr later ↦ absurd (apart later.0) ])

pub nobody_first : (who : ℕ) (ps : List ℕ) → (first_other who ps ≡ None) ↔ ((q : ℕ) → IsFirstOther who q ps → ⊥)
nobody_first who ps = (λ none q h. let some = (first_is who q ps).1 h in let clash = sym some ∙ none in cc, λ never. by (first_other who ps) refl never)
  where
    by : (x : Option ℕ) → first_other who ps ≡ x → ((q : ℕ) → IsFirstOther who q ps → ⊥) → x ≡ None
    by None is never = refl
    by (Some q) is never = absurd (never q ((first_is who q ps).0 is))

-- who stands inside a text that is edited
pub inside_is : (who q : ℕ) (used : TextUse) (s : StoreState) → (inside_edited who used s ≡ Some q) ↔ ((is_edited used ≡ true) × (first_inside (content s (object.Borrow who)) ≡ Some q))
inside_is who q text.Unused s = (λ e. cc, λ h. absurd (false≢true h.0))
inside_is who q text.Read s = (λ e. cc, λ h. absurd (false≢true h.0))
inside_is who q text.Edited s = (λ e. (refl, e), λ h. h.1)

outside_is : (who : ℕ) (used : TextUse) (s : StoreState) → (inside_edited who used s ≡ None) ↔ (is_edited used ≡ true → first_inside (content s (object.Borrow who)) ≡ None)
outside_is who text.Unused s = (λ e is. absurd (false≢true is), λ h. refl)
outside_is who text.Read s = (λ e is. absurd (false≢true is), λ h. refl)
outside_is who text.Edited s = (λ e is. e, λ h. h refl)

-- who comes first or stands inside is of the kinds that may stop it
waits_there : (who q : ℕ) (term : Option ℕ) (ds : List DeviceReach) (s : StoreState) → first_other who (at_front term s ++ holders ds s) ≡ Some q → may_wait term ds ≡ true
waits_there who q None [] s is = cc
waits_there who q None (d ∷ ds) s is = by d.part (waits_there who q None ds s) is
  where
    by : (part : DevicePart) → (first_other who (holders ds s) ≡ Some q → list_any (λ e. may_stop_by e.part) ds ≡ true)
        → first_other who (stopping_holder part (content s (object.Hog d.address)) ++ holders ds s) ≡ Some q → (may_stop_by part || list_any (λ e. may_stop_by e.part) ds) ≡ true
    by HoldTaken later e = refl
    by HoldFreed later e = later e
    by WithPlatter later e = refl
    by WithPrinter later e = refl
waits_there who q (Some term) ds s is = refl

pub either_left : (a b : Bool) → a ≡ true → (a || b) ≡ true
either_left true b h = refl
either_left false b h = absurd (false≢true h)

pub either_right : (a b : Bool) → b ≡ true → (a || b) ≡ true
either_right true b h = refl
either_right false b h = h

-- what a row does in a store
module _ (r : AccessRow) (disks : DiskWork) (who : ℕ) where
  abbrev holder_in : StoreState → Option ℕ
  holder_in s = holder_entered r.reach.entered s

  -- in two stores
  pub served_alike : (s t : StoreState) → AgreeOn (objects_reached who (holder_in s) r.reach) s t
      → ((serves_row r disks s who).answer ≡ (serves_row r disks t who).answer)
      × ((o : Object) → content s o ≡ content t o → content (serves_row r disks s who).after o ≡ content (serves_row r disks t who).after o)
  served_alike s t agree =
      let same = same_stop who (holder_in s) r.reach s t agree in
      let held = same_holder who (holder_in s) r.reach s t agree in
      let h = by (stop who r.reach s) in (
        h.0 ∙ ap (λ y. (unless_stopped y (performs (r.does disks who (holder_in s)) t) t).answer) same ∙ ap (λ x. (unless_stopped (stop who r.reach t) (performs (r.does disks who x) t) t).answer) held,
        λ o e. h.1 o e ∙ ap (λ y. content (unless_stopped y (performs (r.does disks who (holder_in s)) t) t).after o) same ∙ ap (λ x. content (unless_stopped (stop who r.reach t) (performs (r.does disks who x) t) t).after o) held,
      )
    where
      by : (y : Option Answer)
          → ((unless_stopped y (performs (r.does disks who (holder_in s)) s) s).answer ≡ (unless_stopped y (performs (r.does disks who (holder_in s)) t) t).answer)
          × ((o : Object) → content s o ≡ content t o → content (unless_stopped y (performs (r.does disks who (holder_in s)) s) s).after o ≡ content (unless_stopped y (performs (r.does disks who (holder_in s)) t) t).after o)
      by None = let h = gives_alike (r.does disks who (holder_in s)) s t agree in (h.answers, h.contents)
      by (Some y) = (refl, λ o e. e)

  -- what isn't written stays, and what is listed does
  pub leaves : (s : StoreState) (o : Object) → (IsIn o (r.writes who (holder_in s)) → ⊥) → content (serves_row r disks s who).after o ≡ content s o
  leaves s o out = by (stop who r.reach s)
    where
      by : (y : Option Answer) → content (unless_stopped y (performs (r.does disks who (holder_in s)) s) s).after o ≡ content s o
      by None = leaves_others (r.does disks who (holder_in s)) s o out
      by (Some y) = refl

  pub keeps : (s : StoreState) (o : Object) → IsSome (content s o) → IsSome (content (serves_row r disks s who).after o)
  keeps s o listed = by (stop who r.reach s)
    where
      by : (y : Option Answer) → IsSome (content (unless_stopped y (performs (r.does disks who (holder_in s)) s) s).after o)
      by None = keeps_listed (r.does disks who (holder_in s)) s o listed
      by (Some y) = listed

  module _ (tells : (holder : Option ℕ) → TellsOnly r.tells (r.does disks who holder)) (s : StoreState) where
    abbrev performed : Gives StoreState
    performed = performs (r.does disks who (holder_in s)) s

    told : IsTold r.tells (r.does disks who (holder_in s)) s
    told = is_told r.tells (r.does disks who (holder_in s)) s (tells (holder_in s))

    -- one that is stopped changes nothing
    pub stops_unchanged : stops (serves_row r disks s who).answer ≡ true → (serves_row r disks s who).after ≡ s
    stops_unchanged = by (stop who r.reach s)
      where
        by : (y : Option Answer) → stops (unless_stopped y performed s).answer ≡ true → (unless_stopped y performed s).after ≡ s
        by None e = told.unchanged e
        by (Some y) e = refl

    abbrev given : Option ℕ → Option ℕ → Answer
    given first inside = (unless_stopped (stop_by first inside) performed s).answer

    never_held_up : (y : Answer) → holds_up y ≡ true → performed.answer ≡ y → ⊥
    never_held_up y up e = false≢true (sym told.goes_on ∙ ap holds_up e ∙ up)

    -- Wait is for the first other
    waits_by : (q : ℕ) (first inside : Option ℕ) → (given first inside ≡ answer.Wait q) ↔ (first ≡ Some q)
    waits_by q (Some p) inside = (λ e. let same : p ≡ q = cc in ap Some same, λ e. let same : p ≡ q = cc in ap answer.Wait same)
    waits_by q None (Some p) = (λ e. cc, λ e. cc)
    waits_by q None None = (λ e. absurd (never_held_up (answer.Wait q) refl e), λ e. cc)

    pub waits : (q : ℕ) → ((serves_row r disks s who).answer ≡ answer.Wait q) ↔ IsFirstOther who q (first_there r.reach s)
    waits q =
        let by = waits_by q (first_other who (first_there r.reach s)) (inside_edited who r.reach.text s) in
        let first = first_is who q (first_there r.reach s) in
        (λ e. first.0 (by.0 e), λ h. by.1 (first.1 h))

    -- Locked is for the first inside, where nobody comes first
    locks_by : (q : ℕ) (first inside : Option ℕ) → (given first inside ≡ answer.Locked q) ↔ ((first ≡ None) × (inside ≡ Some q))
    locks_by q (Some p) inside = (λ e. cc, λ h. let no = h.0 in cc)
    locks_by q None (Some p) = (λ e. let same : p ≡ q = cc in (refl, ap Some same), λ h. let e = h.1 in let same : p ≡ q = cc in ap answer.Locked same)
    locks_by q None None = (λ e. absurd (never_held_up (answer.Locked q) refl e), λ h. let no = h.1 in cc)

    pub locks : (q : ℕ) → ((serves_row r disks s who).answer ≡ answer.Locked q)
        ↔ (((p : ℕ) → IsFirstOther who p (first_there r.reach s) → ⊥) × (is_edited r.reach.text ≡ true) × (first_inside (content s (object.Borrow who)) ≡ Some q))
    locks q =
        let by = locks_by q (first_other who (first_there r.reach s)) (inside_edited who r.reach.text s) in
        let nobody = nobody_first who (first_there r.reach s) in
        let inside = inside_is who q r.reach.text s in
        (λ e. let h = by.0 e in let there = inside.0 h.1 in (nobody.0 h.0, there.0, there.1), λ h. by.1 (nobody.1 h.0, inside.1 (h.1, h.2)))

    -- a code is the row's, where nothing stops it
    refuses_by : (c : ℕ) (first inside : Option ℕ) → (given first inside ≡ answer.Refused c) ↔ ((first ≡ None) × (inside ≡ None) × (performed.answer ≡ answer.Refused c))
    refuses_by c (Some p) inside = (λ e. cc, λ h. let no = h.0 in cc)
    refuses_by c None (Some p) = (λ e. cc, λ h. let no = h.1 in cc)
    refuses_by c None None = (λ e. (refl, refl, e), λ h. h.2)

    pub refuses : (c : ℕ) → ((serves_row r disks s who).answer ≡ answer.Refused c)
        ↔ (((p : ℕ) → IsFirstOther who p (first_there r.reach s) → ⊥) × (is_edited r.reach.text ≡ true → first_inside (content s (object.Borrow who)) ≡ None) × (performed.answer ≡ answer.Refused c))
    refuses c =
        let by = refuses_by c (first_other who (first_there r.reach s)) (inside_edited who r.reach.text s) in
        let nobody = nobody_first who (first_there r.reach s) in
        let outside = outside_is who r.reach.text s in
        (λ e. let h = by.0 e in (nobody.0 h.0, outside.0 h.1, h.2), λ h. by.1 (nobody.1 h.0, outside.1 h.1, h.2))

    -- that nobody is there is the row's, where nothing stops it
    misses_by : (first inside : Option ℕ) → (given first inside ≡ answer.NoPart) ↔ ((first ≡ None) × (inside ≡ None) × (performed.answer ≡ answer.NoPart))
    misses_by (Some p) inside = (λ e. cc, λ h. let no = h.0 in cc)
    misses_by None (Some p) = (λ e. cc, λ h. let no = h.1 in cc)
    misses_by None None = (λ e. (refl, refl, e), λ h. h.2)

    pub misses : ((serves_row r disks s who).answer ≡ answer.NoPart)
        ↔ (((p : ℕ) → IsFirstOther who p (first_there r.reach s) → ⊥) × (is_edited r.reach.text ≡ true → first_inside (content s (object.Borrow who)) ≡ None) × (performed.answer ≡ answer.NoPart))
    misses =
        let by = misses_by (first_other who (first_there r.reach s)) (inside_edited who r.reach.text s) in
        let nobody = nobody_first who (first_there r.reach s) in
        let outside = outside_is who r.reach.text s in
        (λ e. let h = by.0 e in (nobody.0 h.0, outside.0 h.1, h.2), λ h. by.1 (nobody.1 h.0, outside.1 h.1, h.2))

    -- every answer is one that may stop it, or that its row tells
    answers_by : (first inside : Option ℕ) → first_other who (first_there r.reach s) ≡ first → inside_edited who r.reach.text s ≡ inside
        → (may_stop r.reach (given first inside) || r.tells (given first inside)) ≡ true
    answers_by (Some q) inside first_is inside_is =
        let there = waits_there who q r.reach.terminal r.reach.devices s first_is in
        either_left (may_stop r.reach (answer.Wait q)) (r.tells (answer.Wait q)) (either_left (may_wait r.reach.terminal r.reach.devices) false there)
    answers_by None (Some q) first_is inside_is = either_left (is_edited r.reach.text) (r.tells (answer.Locked q)) (inside_is_edited q r.reach.text inside_is)
      where
        inside_is_edited : (q : ℕ) (used : TextUse) → inside_edited who used s ≡ Some q → is_edited used ≡ true
        inside_is_edited q text.Unused e = cc
        inside_is_edited q text.Read e = cc
        inside_is_edited q text.Edited e = refl
    answers_by None None first_is inside_is =
        let y = performed.answer in either_right (may_stop r.reach y) (r.tells y) told.says

    pub answered : (may_stop r.reach (serves_row r disks s who).answer || r.tells (serves_row r disks s who).answer) ≡ true
    answered = answers_by (first_other who (first_there r.reach s)) (inside_edited who r.reach.text s) refl refl

    -- and where nothing stops it, the text that it wrote of is the one that its answer says
    wrote_by : ((holder : Option ℕ) → stops (performs (r.does disks who holder) s).answer ≡ false → r.writes who (entered_in (performs (r.does disks who holder) s).answer) ≡ r.writes who holder)
        → (first inside : Option ℕ) → stops (given first inside) ≡ false → r.writes who (entered_in (given first inside)) ≡ r.writes who (holder_in s)
    wrote_by says (Some q) inside e = cc
    wrote_by says None (Some q) e = cc
    wrote_by says None None e = says (holder_in s) e

    pub wrote : ((holder : Option ℕ) → stops (performs (r.does disks who holder) s).answer ≡ false → r.writes who (entered_in (performs (r.does disks who holder) s).answer) ≡ r.writes who holder)
        → stops (serves_row r disks s who).answer ≡ false → r.writes who (entered_in (serves_row r disks s who).answer) ≡ r.writes who (holder_in s)
    wrote says = wrote_by says (first_other who (first_there r.reach s)) (inside_edited who r.reach.text s)
