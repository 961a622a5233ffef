-- THE OWN PART OF A GROUP IS ENOUGH: along a log a boot goes as its own part goes along the part of the log.
use Rattle.std.specs.Prelude.{◌≡◌, ◌≢◌, ℕ, zero, suc, ◌+◌, ◌==◌, ◌||◌, ◌&&◌, Bool, true, false, cond, List, [], ◌∷◌, ◌++◌, filter, map, Option, Some, None, is_some, refl}
use Rattle.std.specs.List.{list_any}
use Rattle.std.specs.Str.{bytes_eq}
use Rattle.std.proofs.Common.{sym, ap, subst, ◌∙◌, inl, inr, append_assoc}
use Rattle.std.proofs.lemmas.Bool.{true≢false}
use Rattle.b2_access.proofs.Choice.{either}
use Rattle.b2_access.proofs.RowLaws.{either_left, either_right}
use Rattle.b2_access.specs.AccessRows.{reach}
use Rattle.b2_access.specs.Devices.{has_device, is_platter_for, is_printer_for, may_use, meets, same_kind}
use Rattle.b2_access.specs.Loans.{lends}
use Rattle.b2_access.specs.OwnDevices.{AreListed, is_device_for, is_listed_for}
use Rattle.b2_access.specs.OwnTerminal.{AskedAt}
use Rattle.b2_access.specs.Pending.{IsForTerminal}
use Rattle.b2_access.specs.Reach.{DevicePart, DeviceReach, HoldFreed, HoldTaken, WithPlatter, WithPrinter, device_objects, part_objects, terminal_objects}
use Rattle.b2_access.specs.Rows.{row_of}
use Rattle.b2_access.specs.Serving.{itself}
use Rattle.b2_access.specs.Store.{IsIn, StoreState, content}
use Rattle.b2_access.specs.declared.accesses.Access.{Access}
use Rattle.b2_access.specs.declared.devices.Device.{Device}
use Rattle.b2_access.specs.declared.objects.Object.{Object}
use Rattle.b2_access.specs.declared.objects.Object.TheVariants as object
use Rattle.b2_access.specs.declared.private.Private.{Private}
use Rattle.b2_audit.proofs.CleanSteps.{CleanFrom}
use Rattle.b2_audit.specs.Steps.{Group, Step, foul}
use Rattle.b2_boot.specs.Alone.{alone, has_number, kept_if, own_boot, own_events, own_log, own_rounds, own_turns, stands_at}
use Rattle.b2_boot.specs.Boots.{BootState}
use Rattle.b2_boot.specs.Quotas.{quota_at, quotas_of}
use Rattle.b2_boot.specs.declared.boot.BootPartition.{BootPartition}
use Rattle.b2_boot.specs.declared.boot.BootPlatter.{BootPlatter}
use Rattle.b2_boot.specs.declared.boot.BootPrinter.{BootPrinter}
use Rattle.b2_boot.specs.declared.log.Event.{Event}
use Rattle.b2_boot.specs.declared.log.Event.TheVariants as event
use Rattle.b2_machine.proofs.StepDevices.{steps_ask_for_listed}
use Rattle.b2_machine.proofs.StepOutput.{step_shows, still_for_terminal}
use Rattle.b2_machine.proofs.StepTerminal.{steps_ask_at_terminal}
use Rattle.b2_machine.specs.Touched.{AskedListed, asking}
use Rattle.b2_machine.specs.Turn.{passes_none, passes_turn, unless_ended}
use Rattle.b2_machine.specs.declared.ends.Why.{Why}
use Rattle.b2_store.specs.Changes.{with_terminal}
use Rattle.b2_store.specs.DiskWork.{serves}
use Rattle.b2_term.specs.Terminal.{TerminalState, keyed}
use Rattle.b2_term.specs.declared.KeyItem.{KeyItem}
use Rattle.b2_sched.proofs.AloneBoots.{as_alone}
use Rattle.b2_sched.proofs.BootDevices.{starts_alone}
use Rattle.b2_sched.proofs.Folds.{does_append}
use Rattle.b2_sched.proofs.Foul.{foul_after, own_fouls_nothing}
use Rattle.b2_sched.proofs.GroupRuns.{Alike, action_alike, names_stay, terminal_other}
use Rattle.b2_sched.proofs.GroupTurns.{AreInside, IsOut, InsideIfAny, StayFit, both_inside, members_foul, none_inside, one_inside}
use Rattle.b2_sched.proofs.Lasting.{by_actions, does_there}
use Rattle.b2_sched.proofs.Numbers.{same_number}
use Rattle.b2_sched.proofs.OwnObjects.{step_part}
use Rattle.b2_sched.proofs.PartBoots.{IsLacking, last_once, none_there, part_starts_alike, starts_at, tables_alike}
use Rattle.b2_sched.proofs.ShownAtTerminals.{booted_shows, for_listed}
use Rattle.b2_sched.specs.Choice.{basic}
use Rattle.b2_sched.specs.Groups.{IsOutside, steps_at, steps_of}
use Rattle.b2_sched.specs.Laws.{all_actions}
use Rattle.b2_sched.specs.Lawful.{basic_asks_for_listed, basic_is_lawful}
use Rattle.b2_sched.specs.Parts.{HasPart, PartsAreEnough, PartsOfCleanGroupsAreEnough, has_platter, has_printer, own_images, part_boot, part_world}
use Rattle.b2_sched.specs.Start.{CanStart, Images, booted, devices_of, platter_device, printer_device}
use Rattle.b2_sched.specs.Turns.{noted_by, step_noted, step_of, steps_from, steps_in_turn}
use Rattle.b2_sched.specs.World.{WorldState, Action, Key, Front, Halt, Reset, Turn, actions, asked_to_halt, asked_to_reset, changed, does, does_all, private_of, ran, rounds, row_changed, turns_from, with_key, with_turn}

clash : (b : Bool) → b ≡ true → b ≡ false → ⊥
clash b is isnt = true≢false (sym is ∙ isnt)

-- ---- what the partitions of a boot come to is in its own part

-- an address that a table lists for a partition is that of a platter, and of a printer
met_first : (b u rest there : Bool) → (rest ≡ true → there ≡ true) → ((b && u) || rest) ≡ true → (b || there) ≡ true
met_first true u rest there later is = refl
met_first false u rest there later is = later is

met_later : (b rest : Bool) → ((b && false) || rest) ≡ true → rest ≡ true
met_later true rest is = is
met_later false rest is = is

unmet_first : (b rest : Bool) → rest ≡ false → ((b && false) || rest) ≡ false
unmet_first true rest is = is
unmet_first false rest is = is

platter_met : (who : ℕ) (a : List ℕ) (ds : List BootPlatter) → list_any (meets false who a) (map platter_device ds) ≡ true → list_any (λ d. bytes_eq d.address a) ds ≡ true
platter_met who a [] met = met
platter_met who a (d ∷ ds) met =
    met_first (bytes_eq d.address a) (may_use who d.only) (list_any (meets false who a) (map platter_device ds)) (list_any (λ x. bytes_eq x.address a) ds) (platter_met who a ds) met

no_printer_met : (who : ℕ) (a : List ℕ) (ds : List BootPlatter) → list_any (meets true who a) (map platter_device ds) ≡ false
no_printer_met who a [] = refl
no_printer_met who a (d ∷ ds) = unmet_first (bytes_eq d.address a) (list_any (meets true who a) (map platter_device ds)) (no_printer_met who a ds)

platter_listed : (who : ℕ) (a : List ℕ) (printers : List BootPrinter) (platters : List BootPlatter) → is_platter_for who a (devices_of printers platters) ≡ true → list_any (λ d. bytes_eq d.address a) platters ≡ true
platter_listed who a [] platters met = platter_met who a platters met
platter_listed who a (d ∷ ds) platters met = platter_listed who a ds platters (met_later (bytes_eq d.address a) (is_platter_for who a (devices_of ds platters)) met)

printer_listed : (who : ℕ) (a : List ℕ) (printers : List BootPrinter) (platters : List BootPlatter) → is_printer_for who a (devices_of printers platters) ≡ true → list_any (λ d. bytes_eq d.address a) printers ≡ true
printer_listed who a [] platters met = absurd (true≢false (sym met ∙ no_printer_met who a platters))
printer_listed who a (d ∷ ds) platters met =
    met_first (bytes_eq d.address a) (may_use who d.only) (is_printer_for who a (devices_of ds platters)) (list_any (λ x. bytes_eq x.address a) ds) (printer_listed who a ds platters) met

-- a partition that is there stands at a terminal of the part, and what waits to be shown is for that
pub record FitsIn (b : BootState) (me : Private) : Type 0 where
  pub there : has_number b.partitions me.part ≡ true
  pub stands : stands_at b.partitions me.term ≡ true
  pub shows : IsForTerminal me.pending

module _ (b : BootState) where
  abbrev inside : Group
  inside p = has_number b.partitions p

  abbrev out : Object → Type 0
  out o = IsLacking b o

  abbrev table : List Device
  table = devices_of b.printers b.platters

  is_out : IsOut inside out
  is_out = record {
    texts = λ p member bad. clash (inside p) member bad;
    borrowers = λ p member bad. clash (inside p) member bad;
    variables = λ p member bad. clash (inside p) member bad;
    names = λ n bad. bad;
  }

  module _ (who : ℕ) (there : inside who ≡ true) where
    platter_inside : (a : List ℕ) → is_platter_for who a table ≡ true → has_platter (own_boot b) a ≡ true
    platter_inside a is = platter_listed who a (own_boot b).printers (own_boot b).platters (sym (tables_alike b who there false a) ∙ is)

    printer_inside : (a : List ℕ) → is_printer_for who a table ≡ true → has_printer (own_boot b) a ≡ true
    printer_inside a is = printer_listed who a (own_boot b).printers (own_boot b).platters (sym (tables_alike b who there true a) ∙ is)

    hold_inside : (a : List ℕ) → is_device_for who a table ≡ true → (has_printer (own_boot b) a || has_platter (own_boot b) a) ≡ true
    hold_inside a is = by (is_platter_for who a table) refl is
      where
        by : (c : Bool) → is_platter_for who a table ≡ c → (c || is_printer_for who a table) ≡ true → (has_printer (own_boot b) a || has_platter (own_boot b) a) ≡ true
        by true e h = either_right (has_printer (own_boot b) a) (has_platter (own_boot b) a) (platter_inside a e)
        by false e h = either_left (has_printer (own_boot b) a) (has_platter (own_boot b) a) (printer_inside a h)

    abbrev HogIn : List ℕ → Type 0
    HogIn a = out (object.Hog a) → ⊥

    hog_in : (a : List ℕ) → is_device_for who a table ≡ true → HogIn a
    hog_in a is bad = clash (has_printer (own_boot b) a || has_platter (own_boot b) a) (hold_inside a is) bad

    part_in : (a : List ℕ) (p : DevicePart) → is_listed_for who a p table ≡ true → AreInside out (part_objects a p)
    part_in a HoldTaken is = one_inside out (object.Hog a) [] (hog_in a is) (none_inside out)
    part_in a HoldFreed is = one_inside out (object.Hog a) [] (hog_in a is) (none_inside out)
    part_in a WithPlatter is =
        one_inside out (object.Hog a) (object.Platter a ∷ []) (hog_in a (either_left (is_platter_for who a table) (is_printer_for who a table) is))
        (one_inside out (object.Platter a) [] (λ bad. clash (has_platter (own_boot b) a) (platter_inside a is) bad) (none_inside out))
    part_in a WithPrinter is =
        one_inside out (object.Hog a) (object.Printer a ∷ []) (hog_in a (either_right (is_platter_for who a table) (is_printer_for who a table) is))
        (one_inside out (object.Printer a) [] (λ bad. clash (has_printer (own_boot b) a) (printer_inside a is) bad) (none_inside out))

    devices_in : (ds : List DeviceReach) → AreListed table who ds → AreInside out (device_objects ds)
    devices_in [] are = none_inside out
    devices_in (d ∷ ds) are = both_inside out (part_objects d.address d.part) (device_objects ds) (part_in d.address d.part are.0) (devices_in ds are.1)

  terminal_in : (term : Option ℕ) → ((t : ℕ) → term ≡ Some t → stands_at b.partitions t ≡ true) → AreInside out (terminal_objects term)
  terminal_in None stands = none_inside out
  terminal_in (Some t) stands = one_inside out (object.Terminal t) [] (λ bad. clash (stands_at b.partitions t) (stands t refl) bad) (none_inside out)

  asked_in : (me : Private) → FitsIn b me → (x : Option Access) → AskedAt me.term x → AskedListed table me.part x → InsideIfAny out x
  asked_in me fits None at listed = tt
  asked_in me fits (Some a) at listed =
      (terminal_in (reach a).terminal (λ t is. ap (stands_at b.partitions) (at t is) ∙ fits.stands), devices_in me.part fits.there (reach a).devices listed)

  stay_fit : StayFit table out (FitsIn b)
  stay_fit = record {
    asks = λ me s fits.
        asked_in me fits (asking (basic table) me s) (steps_ask_at_terminal (basic table) (basic_is_lawful table) itself serves lends me s).1
        (steps_ask_for_listed basic basic_asks_for_listed table me s (for_listed table me.part me.pending fits.shows));
    pass = λ me k fits. record { there = fits.there; stands = fits.stands; shows = fits.shows };
    next = λ me s fits. record {
      there = ap inside (step_part table me s) ∙ fits.there;
      stands = ap (stands_at b.partitions) (steps_ask_at_terminal (basic table) (basic_is_lawful table) itself serves lends me s).0 ∙ fits.stands;
      shows = still_for_terminal (basic table) (basic_is_lawful table) itself serves lends me (step_of table me s).me (step_shows (basic table) (basic_is_lawful table) itself serves lends me s) fits.shows;
    };
  }

  flags : (me : Private) → FitsIn b me → FitsIn b (asked_to_halt me) × FitsIn b (asked_to_reset me)
  flags me fits = (record { there = fits.there; stands = fits.stands; shows = fits.shows }, record { there = fits.there; stands = fits.stands; shows = fits.shows })

  -- THE INVARIANT: nothing is foul, and none but the partitions of the boot is there
  abbrev Together : WorldState → WorldState → Type 0
  Together w v = Alike inside out is_out table (FitsIn b) stay_fit flags [] w v

  abbrev NoOthers : WorldState → Type 0
  NoOthers w = (p : ℕ) → inside p ≡ false → is_some (private_of p w) ≡ false

  no_others : (a : Action) (w : WorldState) → NoOthers w → NoOthers (does a w)
  no_others a w none p other = does_there p a w ∙ none p other

  absent : (o : Option Private) → is_some o ≡ false → o ≡ None
  absent None is = refl
  absent (Some me) is = absurd (true≢false is)

  -- the steps of partitions that are there foul nothing, and are clean
  clean_on : (ds : List Device) (p n : ℕ) (me : Private) (s : StoreState) → inside p ≡ true → CleanFrom inside [] (steps_from ds p n me s)
  unfolding steps_from
  clean_on ds p zero me s member = tt
  clean_on ds p (suc n) me s member =
      let x = step_of ds me s in
      let rest = steps_from ds p n x.me x.after in
      (λ is o i bad. bad, subst (λ (os : List Object). CleanFrom inside os (unless_ended x.end.why (λ w. []) rest)) (sym (own_fouls_nothing inside (step_noted ds p me s) [] member)) (by x.end.why rest (clean_on ds p n x.me x.after member)))
    where
      by : (why : Option Why) (rest : List Step) → CleanFrom inside [] rest → CleanFrom inside [] (unless_ended why (λ w. []) rest)
      by None rest later = later
      by (Some why) rest later = tt

  clean_turn : (ds : List Device) (p n : ℕ) (me : Private) (s : StoreState) → inside p ≡ true → CleanFrom inside [] (steps_in_turn ds p n me s)
  clean_turn ds p n me s member = either (CleanFrom inside []) (passes_turn me) [] (steps_from ds p n (passes_none me) s) tt (clean_on ds p n (passes_none me) s member)

  abbrev IsQuiet : List Step → Type 0
  IsQuiet xs = CleanFrom inside [] xs × (foul_after inside xs [] ≡ [])

  quiet_if_there : (ds : List Device) (p n : ℕ) (o : Option Private) (s : StoreState) → inside p ≡ true → IsQuiet (noted_by ds p n o s)
  quiet_if_there ds p n None s member = (tt, refl)
  quiet_if_there ds p n (Some me) s member = (clean_turn ds p n me s member, members_foul ds inside p n me s [] member)

  quiet_turn : (p n : ℕ) (w : WorldState) → NoOthers w → (c : Bool) → inside p ≡ c → IsQuiet (noted_by w.devices p n (private_of p w) w.store)
  quiet_turn p n w none true member = quiet_if_there w.devices p n (private_of p w) w.store member
  quiet_turn p n w none false other = subst (λ (o : Option Private). IsQuiet (noted_by w.devices p n o w.store)) (sym (absent (private_of p w) (none p other))) (tt, refl)

  quiet : (a : Action) (w : WorldState) → NoOthers w → IsQuiet (steps_at a w)
  quiet (Key t k) w none = (tt, refl)
  quiet (Front t p) w none = (tt, refl)
  quiet (Halt p) w none = (tt, refl)
  quiet (Reset p) w none = (tt, refl)
  quiet (Turn p n) w none = quiet_turn p n w none (inside p) refl

  -- what happens in both
  both_do : (a : Action) (w v : WorldState) → Together w v → NoOthers w → Together (does a w) (does a v)
  both_do a w v alike none =
      let q = quiet a w none in
      subst (λ (os : List Object). Alike inside out is_out table (FitsIn b) stay_fit flags os (does a w) (does a v)) q.1 (action_alike inside out is_out table (FitsIn b) stay_fit flags a w v [] alike q.0)

  -- what happens at a terminal at which nobody stands
  terminal_alone : (t : ℕ) (f : TerminalState → TerminalState) (w v : WorldState) (dropped : ℕ) → stands_at b.partitions t ≡ false → Together w v
      → Together (record w { store = with_terminal (content w.store (object.Terminal t)) t f w.store; dropped = dropped }) v
  terminal_alone t f w v dropped other alike = record {
    worlds = record {
      quotas = alike.worlds.quotas;
      devices = alike.worlds.devices;
      privates = alike.worlds.privates;
      stores = λ o clear has. terminal_other (content w.store (object.Terminal t)) t f w.store o (λ e. has (subst out (sym e) other)) ∙ alike.worlds.stores o clear has;
      names = λ n q clear leads. alike.worlds.names n q clear (sym (names_stay (content w.store (object.Terminal t)) t f w.store n) ∙ leads);
    };
    table_is = alike.table_is;
    fits = alike.fits;
  }

  -- what happens to a partition that isn't there
  rows_stay : (p : ℕ) (f : Private → Private) (w : WorldState) → NoOthers w → inside p ≡ false → changed p f w.privates ≡ w.privates
  rows_stay p f w none other = ap (λ (o : Option Private). row_changed p o f w.privates) (absent (private_of p w) (none p other))

  turn_stays : (p n : ℕ) (w : WorldState) → NoOthers w → inside p ≡ false → does (Turn p n) w ≡ w
  turn_stays p n w none other = ap (λ (o : Option Private). with_turn p o n w) (absent (private_of p w) (none p other))

  flag_alone : (p : ℕ) (f : Private → Private) (w v : WorldState) → NoOthers w → inside p ≡ false → Together w v → Together (record w { privates = changed p f w.privates }) v
  flag_alone p f w v none other alike = subst (λ (rows : List (ℕ × Private)). Together (record w { privates = rows }) v) (sym (rows_stay p f w none other)) alike

  -- both, after something
  abbrev After : WorldState → WorldState → Type 0
  After w v = Together w v × NoOthers w

  abbrev AfterEach : List Action → List Event → Type 0
  AfterEach acts events = (w v : WorldState) → After w v → After (does_all acts w) (does_all (all_actions (quotas_of b) events) v)

  one_kept : (a : Action) (w v : WorldState) → After w v → After (does a w) (does a v)
  one_kept a w v h = (both_do a w v h.0 h.1, no_others a w h.1)

  key_goes : (t : ℕ) (k : KeyItem) (c : Bool) → stands_at b.partitions t ≡ c → AfterEach (Key t k ∷ []) (kept_if c (event.Key t k))
  key_goes t k true is w v h = one_kept (Key t k) w v h
  key_goes t k false is w v h = (terminal_alone t (keyed k) w v (with_key t k w).dropped is h.0, no_others (Key t k) w h.1)

  front_goes : (t p : ℕ) (c : Bool) → stands_at b.partitions t ≡ c → AfterEach (Front t p ∷ []) (kept_if c (event.Front t p))
  front_goes t p true is w v h = one_kept (Front t p) w v h
  front_goes t p false is w v h = (terminal_alone t (λ x. record x { front = p }) w v w.dropped is h.0, no_others (Front t p) w h.1)

  halt_goes : (p : ℕ) (c : Bool) → inside p ≡ c → AfterEach (Halt p ∷ []) (kept_if c (event.Halt p))
  halt_goes p true is w v h = one_kept (Halt p) w v h
  halt_goes p false is w v h = (flag_alone p asked_to_halt w v h.1 is h.0, no_others (Halt p) w h.1)

  reset_goes : (p : ℕ) (c : Bool) → inside p ≡ c → AfterEach (Reset p ∷ []) (kept_if c (event.Reset p))
  reset_goes p true is w v h = one_kept (Reset p) w v h
  reset_goes p false is w v h = (flag_alone p asked_to_reset w v h.1 is h.0, no_others (Reset p) w h.1)

  turn_goes : (p n : ℕ) (c : Bool) → inside p ≡ c → AfterEach (Turn p n ∷ []) (kept_if c (event.Turn p n))
  turn_goes p n true is w v h = one_kept (Turn p n) w v h
  turn_goes p n false is w v h = subst (λ (x : WorldState). After x v) (sym (turn_stays p n w h.1 is)) h

  -- one after the other
  actions_append : (xs ys : List Event) → all_actions (quotas_of b) (xs ++ ys) ≡ all_actions (quotas_of b) xs ++ all_actions (quotas_of b) ys
  actions_append [] ys = refl
  actions_append (x ∷ xs) ys = ap (λ (rest : List Action). actions (quotas_of b) x ++ rest) (actions_append xs ys) ∙ sym (append_assoc (actions (quotas_of b) x) (all_actions (quotas_of b) xs) (all_actions (quotas_of b) ys))

  both_after : (acts more : List Action) (events rest : List Event) → AfterEach acts events → AfterEach more rest → AfterEach (acts ++ more) (events ++ rest)
  both_after acts more events rest first second w v h =
      let one = first w v h in
      let two = second (does_all acts w) (does_all (all_actions (quotas_of b) events) v) one in
      let here : does_all more (does_all acts w) ≡ does_all (acts ++ more) w = sym (does_append acts more w) in
      let there : does_all (all_actions (quotas_of b) rest) (does_all (all_actions (quotas_of b) events) v) ≡ does_all (all_actions (quotas_of b) (events ++ rest)) v =
      sym (does_append (all_actions (quotas_of b) events) (all_actions (quotas_of b) rest) v) ∙ ap (λ (xs : List Action). does_all xs v) (sym (actions_append events rest)) in
      subst (λ (x : WorldState). After (does_all (acts ++ more) w) x) there (subst (λ (x : WorldState). After x (does_all (all_actions (quotas_of b) rest) (does_all (all_actions (quotas_of b) events) v))) here two)

  turns_go : (n p : ℕ) → AfterEach (turns_from (quotas_of b) p n) (own_turns b p n)
  turns_go zero p = λ w v h. h
  turns_go (suc n) p =
      both_after (Turn p (quota_at p (quotas_of b)) ∷ []) (turns_from (quotas_of b) (p + 1) n) (kept_if (inside p) (event.Turn p (quota_at p (quotas_of b)))) (own_turns b (p + 1) n) (turn_goes p (quota_at p (quotas_of b)) (inside p) refl) (turns_go n (p + 1))

  rounds_go : (n : ℕ) → AfterEach (rounds (quotas_of b) n) (own_rounds b n)
  rounds_go zero = λ w v h. h
  rounds_go (suc n) = both_after (turns_from (quotas_of b) 1 16) (rounds (quotas_of b) n) (own_turns b 1 16) (own_rounds b n) (turns_go 16 1) (rounds_go n)

  event_goes : (e : Event) → AfterEach (actions (quotas_of b) e) (own_events b e)
  event_goes (event.Key t k) = key_goes t k (stands_at b.partitions t) refl
  event_goes (event.Front t p) = front_goes t p (stands_at b.partitions t) refl
  event_goes (event.Halt p) = halt_goes p (inside p) refl
  event_goes (event.Reset p) = reset_goes p (inside p) refl
  event_goes (event.Turn p n) = turn_goes p n (inside p) refl
  event_goes (event.Rounds n) = rounds_go n

  log_goes : (log : List Event) → AfterEach (all_actions (quotas_of b) log) (own_log b log)
  log_goes [] = λ w v h. h
  log_goes (e ∷ es) = both_after (actions (quotas_of b) e) (all_actions (quotas_of b) es) (own_events b e) (own_log b es) (event_goes e) (log_goes es)

  module _ (images : Images) (log : List Event) (can : CanStart b) where
    abbrev first : WorldState
    first = booted b images

    abbrev second : WorldState
    second = booted (own_boot b) (own_images b images)

    start : After first second
    start = (
      record {
        worlds = part_starts_alike b images (last_once b.printers b.platters can.distinct);
        table_is = refl;
        fits = λ p me member is. let at = starts_at b.partitions p me is in record { there = at.1; stands = at.0; shows = booted_shows b.partitions p me is };
      },
      λ p other. ap (λ (o : Option Private). is_some o) (none_there b images (last_once b.printers b.platters can.distinct) b.partitions p other),
    )

    ends : After (ran log first) (ran (own_log b log) second)
    ends =
        subst (λ (x : WorldState). After (ran log first) x) (sym (by_actions (own_log b log) second))
        (subst (λ (x : WorldState). After x (does_all (all_actions (quotas_of b) (own_log b log)) second)) (sym (by_actions log first)) (log_goes log first second start))

    pub own_part_is_enough : HasPart (own_boot b) [] (ran log first) (ran (own_log b log) second)
    own_part_is_enough =
        let alike = ends.0 in
        let worlds = alike.worlds in
        record {
          privates = λ p there. worlds.privates.members p there;
          terminals = λ t stands clear. worlds.stores (object.Terminal t) clear (λ bad. clash (stands_at b.partitions t) stands bad);
          printers = λ a there clear. worlds.stores (object.Printer a) clear (λ bad. clash (has_printer (own_boot b) a) there bad);
          platters = λ a there clear. worlds.stores (object.Platter a) clear (λ bad. clash (has_platter (own_boot b) a) there bad);
        }

pub parts_are_enough : PartsAreEnough
parts_are_enough g b images log can = own_part_is_enough (alone g b) images log (starts_alone b g can)

-- who is there where a group is alone is a member
a_member : (g : Group) (p : ℕ) (ps : List BootPartition) → has_number (filter (λ x. g x.number) ps) p ≡ true → g p ≡ true
a_member g p [] there = absurd (true≢false (sym there))
a_member g p (x ∷ xs) there = by (g x.number) refl (a_member g p xs) there
  where
    here : (c : Bool) → (x.number == p) ≡ c → g x.number ≡ true → (has_number (filter (λ y. g y.number) xs) p ≡ true → g p ≡ true) → (c || has_number (filter (λ y. g y.number) xs) p) ≡ true → g p ≡ true
    here true e kept later is = sym (ap g (same_number x.number p e)) ∙ kept
    here false e kept later is = later is

    by : (c : Bool) → g x.number ≡ c → (has_number (filter (λ y. g y.number) xs) p ≡ true → g p ≡ true)
        → has_number (cond c (x ∷ filter (λ y. g y.number) xs) (filter (λ y. g y.number) xs)) p ≡ true → g p ≡ true
    by true kept later is = here (x.number == p) refl kept later is
    by false kept later is = later is

pub parts_of_clean_groups_are_enough : PartsOfCleanGroupsAreEnough
parts_of_clean_groups_are_enough g b images log can clean =
    let whole = as_alone g b images log clean in
    let rest = parts_are_enough g b images log can in
    record {
      privates = λ p there. whole.0 p (a_member g p b.partitions there) ∙ rest.privates p there;
      terminals = λ t stands clear. whole.1 (object.Terminal t) (λ bad. bad) clear ∙ rest.terminals t stands (λ i. i);
      printers = λ a there clear. whole.1 (object.Printer a) (λ bad. bad) clear ∙ rest.printers a there (λ i. i);
      platters = λ a there clear. whole.1 (object.Platter a) (λ bad. bad) clear ∙ rest.platters a there (λ i. i);
    }
