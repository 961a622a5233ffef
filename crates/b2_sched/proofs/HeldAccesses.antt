-- What an access does to who holds devices: it keeps what the list of a partition and the holders have in common, of the one that asks and
-- of all others.
use Rattle.std.specs.Prelude.{◌≡◌, ◌≢◌, ◌≤◌, ℕ, ◌==◌, ◌||◌, Bool, true, false, List, [], ◌∷◌, length, map, Option, Some, None, IsSome, option_map, refl, if◌then◌else◌}
use Rattle.std.specs.List.{list_any}
use Rattle.std.specs.Str.{bytes_eq}
use Rattle.std.proofs.Common.{sym, ap, subst, ◌∙◌, inl, inr, arith}
use Rattle.std.proofs.lemmas.Bool.{and_parts, true≢false}
use Rattle.std.proofs.lemmas.List.{length-map}
use Rattle.std.proofs.lemmas.Slice.Eq.{bytes_eq-Decides}
use Rattle.b2_access.specs.AccessRows.{frees, is_held_by, takes}
use Rattle.b2_access.specs.Contents.{content_other, content_same}
use Rattle.b2_access.specs.Devices.{are_distinct, has_device, is_platter_for, is_printer_for, meets}
use Rattle.b2_access.specs.Holding.{IsAddressIn}
use Rattle.b2_access.specs.Objects.{Decided, same_object}
use Rattle.b2_access.specs.OwnDevices.{AreListed, ReachesListed, is_device_for}
use Rattle.b2_access.specs.Reach.{hold_taken}
use Rattle.b2_access.specs.Serving.{performs, unless_stopped}
use Rattle.b2_access.specs.Sharing.{Gives}
use Rattle.b2_access.specs.Stopping.{first_other, holders, stop_by}
use Rattle.b2_access.specs.Store.{StoreState, content, put}
use Rattle.b2_access.specs.declared.accesses.Access.{Access}
use Rattle.b2_access.specs.declared.accesses.Access.TheVariants as access
use Rattle.b2_access.specs.declared.accesses.Answer.TheVariants as answer
use Rattle.b2_access.specs.declared.devices.Device.{Device}
use Rattle.b2_access.specs.declared.objects.Object.TheVariants as object
use Rattle.b2_access.proofs.Held.{other_holders_stay}
use Rattle.b2_stmt_disk.proofs.of_devices.HeldLists.{AreAllIn, AreOf, all_once, all_stay_with, at_most, fewer, has_named, left, old_or_named, stays_without}
use Rattle.b2_stmt_disk.specs.devices.Held.{held_after, with_devices, without_devices}
use Rattle.b2_store.proofs.Holders.{freed, taken}
use Rattle.b2_store.specs.DiskWork.{disks, serves}
use Rattle.b2_store.specs.Holders.{all_held, own_among}
use Rattle.b2_sched.proofs.HeldSteps.{freed_by_any, hog_is, is_among}
use Rattle.b2_sched.specs.Holding.{IsHeld}

-- ---- who holds a device after some got another holder

-- it has that holder, where it was listed
abbrev Got : List ℕ → Option ℕ → StoreState → StoreState → Type 0
Got a h s t = content t (object.Hog a) ≡ option_map (λ _. h) (content s (object.Hog a))

twice : (h : Option ℕ) (o : Option (Option ℕ)) → option_map (λ _. h) (option_map (λ _. h) o) ≡ option_map (λ _. h) o
twice h None = refl
twice h (Some x) = refl

got_on : (a d : List ℕ) (h : Option ℕ) (s t : StoreState) → Got a h s t → Got a h s (put (object.Hog d) h t)
got_on a d h s t got = by (same_object (object.Hog a) (object.Hog d))
  where
    by : Decided (object.Hog a ≡ object.Hog d) → Got a h s (put (object.Hog d) h t)
    by (inl same) =
        subst (λ (x : List ℕ). Got a h s (put (object.Hog x) h t)) (hog_is a d same)
        (content_same (object.Hog a) h t ∙ ap (option_map (λ _. h)) got ∙ twice h (content s (object.Hog a)))
    by (inr apart) = content_other (object.Hog d) (object.Hog a) h t apart ∙ got

all_got_on : (a : List ℕ) (h : Option ℕ) (addrs : List (List ℕ)) (s t : StoreState) → Got a h s t → Got a h s (all_held h addrs t)
all_got_on a h [] s t got = got
all_got_on a h (d ∷ addrs) s t got = all_got_on a h addrs s (put (object.Hog d) h t) (got_on a d h s t got)

-- each that is named
named_got : (a : List ℕ) (h : Option ℕ) (addrs : List (List ℕ)) (s : StoreState) → IsAddressIn a addrs → Got a h s (all_held h addrs s)
named_got a h [] s i = absurd i
named_got a h (d ∷ addrs) s i = by (same_object (object.Hog a) (object.Hog d)) i (λ j. named_got a h addrs (put (object.Hog d) h s) j)
  where
    by : Decided (object.Hog a ≡ object.Hog d) → IsAddressIn a (d ∷ addrs) → (IsAddressIn a addrs → Got a h (put (object.Hog d) h s) (all_held h addrs (put (object.Hog d) h s)))
        → Got a h s (all_held h addrs (put (object.Hog d) h s))
    by (inl same) j later =
        all_got_on a h addrs s (put (object.Hog d) h s) (subst (λ (x : List ℕ). Got a h s (put (object.Hog x) h s)) (hog_is a d same) (content_same (object.Hog a) h s))
    by (inr apart) j later = elim j [
      | inl e ↦ absurd (apart (ap object.Hog e))
      | inr k ↦ later k ∙ ap (option_map (λ _. h)) (content_other (object.Hog d) (object.Hog a) h s apart)
    ]

-- all others stay
unnamed_stays : (a : List ℕ) (h : Option ℕ) (addrs : List (List ℕ)) (s : StoreState) → (IsAddressIn a addrs → ⊥) → content (all_held h addrs s) (object.Hog a) ≡ content s (object.Hog a)
unnamed_stays a h [] s out = refl
unnamed_stays a h (d ∷ addrs) s out =
    unnamed_stays a h addrs (put (object.Hog d) h s) (λ i. out (inr i))
    ∙ content_other (object.Hog d) (object.Hog a) h s (λ same. out (inl (hog_is a d same)))

-- those among some that a partition holds
own_is_named : (a : List ℕ) (p : ℕ) (addrs : List (List ℕ)) (s : StoreState) → IsAddressIn a (own_among p addrs s) → IsAddressIn a addrs
own_is_named a p [] s i = i
own_is_named a p (d ∷ addrs) s i = by (is_held_by p (content s (object.Hog d))) i (λ j. own_is_named a p addrs s j)
  where
    by : (b : Bool) → IsAddressIn a (if b then d ∷ own_among p addrs s else own_among p addrs s) → (IsAddressIn a (own_among p addrs s) → IsAddressIn a addrs) → IsAddressIn a (d ∷ addrs)
    by true j later = elim j [ inl e ↦ inl e | inr k ↦ inr (later k) ]
    by false j later = inr (later j)

held_is : (p : ℕ) (o : Option (Option ℕ)) → o ≡ Some (Some p) → is_held_by p o ≡ true
held_is p o is = ap (is_held_by p) is ∙ is_same p
  where
    is_same : (n : ℕ) → (n == n) ≡ true
    is_same n = grind (arith)

named_is_own : (a : List ℕ) (p : ℕ) (addrs : List (List ℕ)) (s : StoreState) → IsAddressIn a addrs → IsHeld a p s → IsAddressIn a (own_among p addrs s)
named_is_own a p [] s i held = i
named_is_own a p (d ∷ addrs) s i held = by (is_held_by p (content s (object.Hog d))) refl i (λ j. named_is_own a p addrs s j held)
  where
    by : (b : Bool) → is_held_by p (content s (object.Hog d)) ≡ b → IsAddressIn a (d ∷ addrs) → (IsAddressIn a addrs → IsAddressIn a (own_among p addrs s))
        → IsAddressIn a (if b then d ∷ own_among p addrs s else own_among p addrs s)
    by true is j later = elim j [ inl e ↦ inl e | inr k ↦ inr (later k) ]
    by false is j later = elim j [
      | inl e ↦ absurd (true≢false (sym (held_is p (content s (object.Hog d)) (subst (λ (x : List ℕ). IsHeld x p s) e held)) ∙ is))
      | inr k ↦ later k
    ]

-- ---- what a list and the holders have in common

-- the addresses of a table, among which each is that is listed for a partition
abbrev pub addresses_of : List Device → List (List ℕ)
addresses_of devices = map (λ (d : Device). d.addr) devices

of_kind : (printer : Bool) (who : ℕ) (a : List ℕ) (devices : List Device) → has_device printer who a devices ≡ true → IsAddressIn a (addresses_of devices)
of_kind printer who a [] is = let clash : false ≡ true = is in cc
of_kind printer who a (d ∷ devices) is = by (meets printer who a d) refl is (λ h. of_kind printer who a devices h)
  where
    by : (b : Bool) → meets printer who a d ≡ b → (b || list_any (meets printer who a) devices) ≡ true → (has_device printer who a devices ≡ true → IsAddressIn a (addresses_of devices)) → IsAddressIn a (addresses_of (d ∷ devices))
    by true e h later = inl (sym ((bytes_eq-Decides d.addr a).0 (and_parts (bytes_eq d.addr a) _ e).0))
    by false e h later = inr (later h)

pub of_table : (who : ℕ) (a : List ℕ) (devices : List Device) → is_device_for who a devices ≡ true → IsAddressIn a (addresses_of devices)
of_table who a devices is = by (is_platter_for who a devices) refl is
  where
    by : (b : Bool) → is_platter_for who a devices ≡ b → (b || is_printer_for who a devices) ≡ true → IsAddressIn a (addresses_of devices)
    by true e h = of_kind false who a devices e
    by false e h = of_kind true who a devices h

-- the store knows each device of the table
abbrev pub KnowsAll : List Device → StoreState → Type 0
KnowsAll devices s = (a : List ℕ) → IsAddressIn a (addresses_of devices) → IsSome (content s (object.Hog a))

pub record Agree (devices : List Device) (p : ℕ) (held : List (List ℕ)) (s : StoreState) : Type 0 where
  pub stands : (a : List ℕ) → IsHeld a p s → IsAddressIn a held
  pub holds : (a : List ℕ) → IsAddressIn a held → IsHeld a p s
  pub once : are_distinct held ≡ true
  pub usable : (a : List ℕ) → IsAddressIn a held → is_device_for p a devices ≡ true

-- where the holders that count stay
pub still_agree : (devices : List Device) (p : ℕ) (held : List (List ℕ)) (s t : StoreState) → ((a : List ℕ) → IsHeld a p t → IsHeld a p s) → ((a : List ℕ) → IsHeld a p s → IsHeld a p t) → Agree devices p held s → Agree devices p held t
still_agree devices p held s t back on agree =
    record { stands = λ a is. agree.stands a (back a is); holds = λ a i. on a (agree.holds a i); once = agree.once; usable = agree.usable }

same_holders : (devices : List Device) (p : ℕ) (held : List (List ℕ)) (s t : StoreState) → ((a : List ℕ) → content t (object.Hog a) ≡ content s (object.Hog a)) → Agree devices p held s → Agree devices p held t
same_holders devices p held s t same agree = still_agree devices p held s t (λ a is. sym (same a) ∙ is) (λ a is. same a ∙ is) agree

-- ---- serving

-- nobody stops one that frees
pub freeing : (who : ℕ) (addrs : List (List ℕ)) (s : StoreState) → serves s who (access.CloseDevices addrs) ≡ record { after = all_held None (own_among who addrs s) s; answer = answer.Done }
freeing who addrs s = ap (λ (ps : List ℕ). unless_stopped (stop_by (first_other who ps) None) (performs (frees who addrs) s) s) (freed_by_any addrs s) ∙ freed who addrs s

-- what holds of one that takes where it is stopped, and where it isn't
pub by_taking : (P : Gives StoreState → Type 0) (who : ℕ) (addrs : List (List ℕ)) (s : StoreState) → ((q : ℕ) → P (record { after = s; answer = answer.Wait q })) → P (record { after = all_held (Some who) addrs s; answer = answer.Done })
    → P (serves s who (access.OpenDevices addrs))
by_taking P who addrs s waits done = by (first_other who (holders (map hold_taken addrs) s))
  where
    by : (first : Option ℕ) → P (unless_stopped (stop_by first None) (performs (takes who addrs) s) s)
    by (Some q) = waits q
    by None = subst P (sym (taken who addrs s)) done

was_none : (p : ℕ) (o : Option (Option ℕ)) → option_map (λ _. None) o ≡ Some (Some p) → ⊥
was_none p None is = cc
was_none p (Some x) is = cc

was_some : (p q : ℕ) (o : Option (Option ℕ)) → option_map (λ _. Some q) o ≡ Some (Some p) → q ≡ p
was_some p q None is = absurd (cc)
was_some p q (Some x) is = cc

is_there : (p : ℕ) (o : Option (Option ℕ)) → IsSome o → option_map (λ _. Some p) o ≡ Some (Some p)
is_there p None there = absurd (true≢false (sym there))
is_there p (Some x) there = refl

-- ---- of the one that asks

module _ (devices : List Device) (p : ℕ) (s : StoreState) (few : length devices ≤ 12) (held : List (List ℕ)) (agree : Agree devices p held s) where
  few_addresses : length (addresses_of devices) ≤ 12
  few_addresses = let same = length-map devices (λ (d : Device). d.addr) in omega (arith, same, few)

  are_of : AreOf (addresses_of devices) held
  are_of = record { once = agree.once; within = λ a i. of_table p a devices (agree.usable a i) }

  pub at_most_twelve : length held ≤ 12
  at_most_twelve = let most = at_most held (addresses_of devices) are_of.once are_of.within in omega (arith, most, few_addresses)

  abbrev Taken : List (List ℕ) → StoreState
  Taken addrs = all_held (Some p) addrs s

  takes_agree : (addrs : List (List ℕ)) → KnowsAll devices s → ((a : List ℕ) → IsAddressIn a addrs → is_device_for p a devices ≡ true) → Agree devices p (with_devices held addrs) (Taken addrs)
  takes_agree addrs knows listed = record { stands = stands; holds = holds; once = all_once held addrs agree.once; usable = usable }
    where
      within : AreAllIn addrs (addresses_of devices)
      within a i = of_table p a devices (listed a i)

      stands : (a : List ℕ) → IsHeld a p (Taken addrs) → IsAddressIn a (with_devices held addrs)
      stands a is = elim (is_among a addrs) [
        | inl i ↦ has_named a (addresses_of devices) held addrs few_addresses are_of within i
        | inr out ↦ all_stay_with a held addrs (agree.stands a (sym (unnamed_stays a (Some p) addrs s out) ∙ is))
      ]

      holds : (a : List ℕ) → IsAddressIn a (with_devices held addrs) → IsHeld a p (Taken addrs)
      holds a i = elim (is_among a addrs) [
        | inl j ↦ named_got a (Some p) addrs s j ∙ is_there p (content s (object.Hog a)) (knows a (within a j))
        | inr out ↦ unnamed_stays a (Some p) addrs s out ∙ agree.holds a (elim (old_or_named a held addrs i) [ inl k ↦ k | inr k ↦ absurd (out k) ])
      ]

      usable : (a : List ℕ) → IsAddressIn a (with_devices held addrs) → is_device_for p a devices ≡ true
      usable a i = elim (old_or_named a held addrs i) [ inl j ↦ agree.usable a j | inr j ↦ listed a j ]

  abbrev Freed : List (List ℕ) → StoreState
  Freed addrs = all_held None (own_among p addrs s) s

  frees_agree : (addrs : List (List ℕ)) → Agree devices p (without_devices addrs held) (Freed addrs)
  frees_agree addrs = record { stands = stands; holds = holds; once = fewer addrs held agree.once; usable = λ a i. agree.usable a (left a addrs held i).0 }
    where
      stands : (a : List ℕ) → IsHeld a p (Freed addrs) → IsAddressIn a (without_devices addrs held)
      stands a is = elim (is_among a (own_among p addrs s)) [
        | inl i ↦ absurd (was_none p (content s (object.Hog a)) (sym (named_got a None (own_among p addrs s) s i) ∙ is))
        | inr out ↦
            let before : IsHeld a p s = sym (unnamed_stays a None (own_among p addrs s) s out) ∙ is in
            stays_without a addrs held (agree.stands a before) (λ i. out (named_is_own a p addrs s i before))
      ]

      holds : (a : List ℕ) → IsAddressIn a (without_devices addrs held) → IsHeld a p (Freed addrs)
      holds a i =
          let both = left a addrs held i in
          unnamed_stays a None (own_among p addrs s) s (λ j. both.1 (own_is_named a p addrs s j)) ∙ agree.holds a both.0

  listed_to_take : (addrs : List (List ℕ)) → AreListed devices p (map hold_taken addrs) → (a : List ℕ) → IsAddressIn a addrs → is_device_for p a devices ≡ true
  listed_to_take [] are a i = absurd i
  listed_to_take (d ∷ addrs) are a i = elim i [ inl e ↦ subst (λ (x : List ℕ). is_device_for p x devices ≡ true) (sym e) are.0 | inr j ↦ listed_to_take addrs are.1 a j ]

  pub own_agrees : (x : Access) → KnowsAll devices s → ReachesListed devices p x → Agree devices p (held_after x (serves s p x).answer held) (serves s p x).after
  own_agrees (access.OpenDevices addrs) knows listed =
      by_taking (λ (g : Gives StoreState). Agree devices p (held_after (access.OpenDevices addrs) g.answer held) g.after) p addrs s (λ q. agree) (takes_agree addrs knows (listed_to_take addrs listed))
  own_agrees (access.CloseDevices addrs) knows listed =
      subst (λ (g : Gives StoreState). Agree devices p (held_after (access.CloseDevices addrs) g.answer held) g.after) (sym (freeing p addrs s)) (frees_agree addrs)
  own_agrees x knows listed = same_holders devices p held s (serves s p x).after (λ a. other_holders_stay disks p a x s (λ i. i)) agree

-- ---- of another: nobody else becomes a holder

module _ (a : List ℕ) (p q : ℕ) (apart : q ≢ p) (s : StoreState) where
  pub none_else : (x : Access) → IsHeld a p (serves s q x).after → IsHeld a p s
  none_else (access.OpenDevices addrs) =
      by_taking (λ (g : Gives StoreState). IsHeld a p g.after → IsHeld a p s) q addrs s (λ r is. is)
      (λ is. elim (is_among a addrs) [
        | inl i ↦ absurd (apart (was_some p q (content s (object.Hog a)) (sym (named_got a (Some q) addrs s i) ∙ is)))
        | inr out ↦ sym (unnamed_stays a (Some q) addrs s out) ∙ is
      ])
  none_else (access.CloseDevices addrs) =
      subst (λ (g : Gives StoreState). IsHeld a p g.after → IsHeld a p s) (sym (freeing q addrs s))
      (λ is. elim (is_among a (own_among q addrs s)) [
        | inl i ↦ absurd (was_none p (content s (object.Hog a)) (sym (named_got a None (own_among q addrs s) s i) ∙ is))
        | inr out ↦ sym (unnamed_stays a None (own_among q addrs s) s out) ∙ is
      ])
  none_else x = λ is. sym (other_holders_stay disks q a x s (λ i. i)) ∙ is
