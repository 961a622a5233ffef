-- A step of a partition while another one holds a device; and a step after which a device isn't held as it was.
use Rattle.std.specs.Prelude.{◌≡◌, ◌≢◌, ◌⊎◌, ℕ, ◌==◌, Bool, true, false, List, [], ◌∷◌, map, Option, Some, None, option_map, refl}
use Rattle.std.proofs.Common.{sym, ap, subst, ◌∙◌, inl, inr}
use Rattle.std.proofs.lemmas.Bool.{true≢false}
use Rattle.b2_access.specs.Contents.{content_other, content_same}
use Rattle.b2_access.specs.Holding.{AgreeBut, IsAddressIn, IsContentOf, device_of}
use Rattle.b2_access.specs.Objects.{Decided, same_object}
use Rattle.b2_access.specs.Reach.{hold_freed}
use Rattle.b2_access.specs.Serving.{performs, unless_stopped}
use Rattle.b2_access.specs.Sharing.{Gives}
use Rattle.b2_access.specs.AccessRows.{frees, takes, row}
use Rattle.b2_access.specs.Stopping.{first_other, holders, stop, stop_by}
use Rattle.b2_access.specs.Store.{StoreState, content, put}
use Rattle.b2_access.specs.declared.accesses.Access.{Access}
use Rattle.b2_access.specs.declared.accesses.Access.TheVariants as access
use Rattle.b2_access.specs.declared.accesses.Answer.{Answer}
use Rattle.b2_access.specs.declared.accesses.Answer.TheVariants as answer
use Rattle.b2_access.specs.declared.devices.Device.{Device}
use Rattle.b2_access.specs.declared.objects.Object.{Object}
use Rattle.b2_access.specs.declared.objects.Object.TheVariants as object
use Rattle.b2_access.specs.declared.private.Private.{Private}
use Rattle.b2_access.proofs.Held.{held_is_out_of_reach, held_stays, other_holders_stay, who_asks_waits}
use Rattle.b2_audit.specs.Steps.{Step}
use Rattle.b2_machine.proofs.Lent.{lender_same, loan_follows}
use Rattle.b2_machine.specs.Touched.{Told, asking}
use Rattle.b2_store.proofs.Holders.{freed, taken}
use Rattle.b2_store.specs.DiskWork.{disks, serves}
use Rattle.b2_store.specs.Holders.{all_held}
use Rattle.b2_sched.proofs.Numbers.{other_number, same_number}
use Rattle.b2_sched.proofs.OwnObjects.{step_part}
use Rattle.b2_sched.proofs.StepEnds.{IsLikeness, Left, is_seen, left_where, loan_seen, loan_stays, step_alike, step_left}
use Rattle.b2_sched.specs.Choice.{basic}
use Rattle.b2_sched.specs.Holding.{Frees, IsHeld, IsLent, Waits, is_globals}
use Rattle.b2_sched.specs.Turns.{step_noted, step_of}

-- ---- an access of the holder leaves the device held, or frees it

pub hog_is : (a d : List ℕ) → object.Hog a ≡ object.Hog d → a ≡ d
hog_is a d same = cc

-- who takes devices holds each of them, and what it held before
taken_held : (a : List ℕ) (p : ℕ) (addrs : List (List ℕ)) (s : StoreState) → IsHeld a p s → IsHeld a p (all_held (Some p) addrs s)
taken_held a p [] s held = held
taken_held a p (d ∷ addrs) s held = taken_held a p addrs (put (object.Hog d) (Some p) s) (by (same_object (object.Hog a) (object.Hog d)))
  where
    by : Decided (object.Hog a ≡ object.Hog d) → IsHeld a p (put (object.Hog d) (Some p) s)
    by (inl same) =
        let is = hog_is a d same in
        subst (λ (b : List ℕ). IsHeld b p (put (object.Hog d) (Some p) s)) (sym is)
        (content_same (object.Hog d) (Some p) s ∙ ap (option_map (λ _. Some p)) (subst (λ (b : List ℕ). IsHeld b p s) is held))
    by (inr apart) = content_other (object.Hog d) (object.Hog a) (Some p) s apart ∙ held

unless_held : (a : List ℕ) (p : ℕ) (o : Option Answer) (g : Gives StoreState) (s : StoreState) → IsHeld a p s → IsHeld a p g.after → IsHeld a p (unless_stopped o g s).after
unless_held a p None g s held after = after
unless_held a p (Some x) g s held after = held

-- nobody stops one that frees devices
pub freed_by_any : (addrs : List (List ℕ)) (s : StoreState) → holders (map hold_freed addrs) s ≡ []
freed_by_any [] s = refl
freed_by_any (d ∷ addrs) s = freed_by_any addrs s

freeing_done : (who : ℕ) (addrs : List (List ℕ)) (s : StoreState) → (serves s who (access.CloseDevices addrs)).answer ≡ answer.Done
freeing_done who addrs s =
    ap (λ (ps : List ℕ). (unless_stopped (stop_by (first_other who ps) None) (performs (frees who addrs) s) s).answer) (freed_by_any addrs s)
    ∙ ap (λ (g : Gives StoreState). g.answer) (freed who addrs s)

pub is_among : (a : List ℕ) (addrs : List (List ℕ)) → Decided (IsAddressIn a addrs)
is_among a [] = inr (λ i. i)
is_among a (d ∷ addrs) = by (same_object (object.Hog a) (object.Hog d)) (is_among a addrs)
  where
    by : Decided (object.Hog a ≡ object.Hog d) → Decided (IsAddressIn a addrs) → Decided (IsAddressIn a (d ∷ addrs))
    by (inl same) later = inl (inl (hog_is a d same))
    by (inr apart) (inl i) = inl (inr i)
    by (inr apart) (inr out) = inr (λ i. elim i [ inl e ↦ apart (ap object.Hog e) | inr j ↦ out j ])

-- an access frees a device
record FreedBy (a : List ℕ) (p : ℕ) (x : Access) (s : StoreState) : Type 0 where
  pub addresses : List (List ℕ)
  pub asked : x ≡ access.CloseDevices addresses
  pub named : IsAddressIn a addresses

own_access : (a : List ℕ) (p : ℕ) (x : Access) (s : StoreState) → IsHeld a p s → IsHeld a p (serves s p x).after ⊎ FreedBy a p x s
own_access a p (access.OpenDevices addrs) s held =
    inl (unless_held a p (stop p (row (access.OpenDevices addrs)).reach s) (performs (takes p addrs) s) s held
    (subst (λ (g : Gives StoreState). IsHeld a p g.after) (sym (taken p addrs s)) (taken_held a p addrs s held)))
own_access a p (access.CloseDevices addrs) s held = by (is_among a addrs)
  where
    by : Decided (IsAddressIn a addrs) → IsHeld a p (serves s p (access.CloseDevices addrs)).after ⊎ FreedBy a p (access.CloseDevices addrs) s
    by (inl i) = inr (record { addresses = addrs; asked = refl; named = i })
    by (inr out) = inl (other_holders_stay disks p a (access.CloseDevices addrs) s out ∙ held)
own_access a p x s held = inl (other_holders_stay disks p a x s (λ i. i) ∙ held)

-- ---- steps

-- what belongs to a device are no `@` variables
pub no_globals : (a : List ℕ) (o : Object) → device_of o ≡ Some a → is_globals o ≡ false
no_globals a (object.Globals p) is = cc
no_globals a o is = refl

module _ (devices : List Device) (a : List ℕ) (p q : ℕ) (me : Private) (s : StoreState) (own : me.part ≡ q) (held : IsHeld a p s) where
  pub next_own : (step_of devices me s).me.part ≡ q
  next_own = step_part devices me s ∙ own

  held_when_lent : (u : StoreState) → IsLent s u → IsHeld a p u
  held_when_lent u lent = lent (object.Hog a) refl ∙ held

  -- what belongs to the device stays as it is through a step of another
  left_stays : (x : Option Access) (who : ℕ) (u : StoreState) → IsHeld a p u → p ≢ who → (o : Object) → device_of o ≡ Some a → content (left_where x who u) o ≡ content u o
  left_stays None who u there apart o is = refl
  left_stays (Some x) who u there apart o is = held_stays disks who p a o x u there apart is

  -- the holder's step leaves it held, or frees it
  own_left : (x : Option Access) (u : StoreState) → IsHeld a p u → asking (basic devices) me s ≡ x → me.part ≡ p → IsHeld a p (left_where x p u) ⊎ Frees a p devices me s
  own_left None u there is same = inl there
  own_left (Some x) u there is same = by (own_access a p x u there)
    where
      by : IsHeld a p (serves u p x).after ⊎ FreedBy a p x u → IsHeld a p (serves u p x).after ⊎ Frees a p devices me s
      by (inl still) = inl still
      by (inr f) = inr (record { own = same; held = held; addresses = f.addresses; asked = is ∙ ap Some f.asked; named = f.named; done = freeing_done p f.addresses s })

  module _ (apart : q ≢ p) where
    pub asks_as_other : p ≢ me.part
    asks_as_other is = apart (sym own ∙ sym is)

    pub step_stays : (o : Object) → device_of o ≡ Some a → content (step_of devices me s).after o ≡ content s o
    step_stays o is =
        let l = step_left (basic devices) me s in
        l.left o (no_globals a o is) ∙ left_stays (asking (basic devices) me s) me.part l.before (held_when_lent l.before l.lent) asks_as_other o is ∙ l.lent o (no_globals a o is)

    pub step_held : IsHeld a p (step_of devices me s).after
    step_held = step_stays (object.Hog a) refl ∙ held

    -- who asks for the device waits
    pub step_waits : Waits a devices me s
    step_waits x is asks u lent = who_asks_waits disks me.part p a x u (held_when_lent u lent) asks_as_other asks

  pub step_keeps_or_frees : IsHeld a p (step_of devices me s).after ⊎ Frees a p devices me s
  step_keeps_or_frees = by (q == p) refl
    where
      still : Left (asking (basic devices) me s) me.part s (step_of devices me s).after → me.part ≡ p → IsHeld a p (step_of devices me s).after ⊎ Frees a p devices me s
      still l same = elim (own_left (asking (basic devices) me s) l.before (held_when_lent l.before l.lent) refl same) [
        | inl there ↦ inl (l.left (object.Hog a) refl ∙ subst (λ (k : ℕ). IsHeld a p (left_where (asking (basic devices) me s) k l.before)) (sym same) there)
        | inr frees ↦ inr frees
      ]

      by : (b : Bool) → (q == p) ≡ b → IsHeld a p (step_of devices me s).after ⊎ Frees a p devices me s
      by false is = inl (step_held (other_number q p is))
      by true is = still (step_left (basic devices) me s) (own ∙ same_number q p is)

-- ---- a step of another from two stores that have the same but for what the device has

-- what a step sees isn't that
no_content : (a : List ℕ) (o : Object) → is_seen o ≡ true → IsContentOf a o → ⊥
no_content a o seen c = elim c [ inl e ↦ true≢false (sym seen ∙ ap is_seen e) | inr e ↦ true≢false (sym seen ∙ ap is_seen e) ]

-- two steps, of an own state and of two stores
pub record StepsAgreeBut (a : List ℕ) (devices : List Device) (who : ℕ) (me : Private) (s t : StoreState) : Type 0 where
  pub own : (step_of devices me s).me ≡ (step_of devices me t).me
  pub end : (step_of devices me s).end ≡ (step_of devices me t).end
  pub noted : step_noted devices who me s ≡ step_noted devices who me t
  pub stores : AgreeBut a (step_of devices me s).after (step_of devices me t).after

module _ (a : List ℕ) (p : ℕ) where
  -- two stores that have the same but for that, while it is held
  abbrev HeldAlike : StoreState → StoreState → Type 0
  HeldAlike s t = AgreeBut a s t × IsHeld a p s

  held_alike : (who : ℕ) → p ≢ who → IsLikeness who HeldAlike
  held_alike who other = record {
    sees = λ s t r o seen. r.0 o (no_content a o seen);
    lent = λ home whose left s t r.
        let lender = lender_same who home s t whose (λ o i. r.0 o (no_content a o (loan_seen who home whose s o i))) in
        (λ o c. loan_follows home whose left.vars left.vars s t lender refl o (r.0 o c), loan_stays home whose left.vars s (object.Hog a) refl ∙ r.1);
    served = λ x s t r.
        let g = held_is_out_of_reach disks who p a x s t r.1 other r.0 in
        (g.0, (g.1, held_stays disks who p a (object.Hog a) x s r.1 other refl ∙ r.1));
  }

module _ (devices : List Device) (a : List ℕ) (p q : ℕ) (me : Private) (s t : StoreState) (own : me.part ≡ q) (held : IsHeld a p s) (apart : q ≢ p) (agree : AgreeBut a s t) where
  pub steps_agree : (number : ℕ) → StepsAgreeBut a devices number me s t
  steps_agree number =
      let other = asks_as_other devices a p q me s own held apart in
      let alike = step_alike (basic devices) (HeldAlike a p) me (held_alike a p me.part other) s t (agree, held) in
      record { own = alike.own; end = alike.end; noted = ap note alike.tells; stores = alike.stores.0 }
    where
      note : Told → Step
      note x = record { who = number; touched = x.touched; written = x.written }
