-- THE GROUP THEOREM: along any log a clean group goes as it goes alone.
use Rattle.std.specs.Prelude.{◌≡◌, ◌≢◌, ℕ, Bool, true, false, List, [], ◌∷◌, Option, Some, None, is_some, option_map, refl}
use Rattle.std.proofs.Common.{sym, ap, subst, ◌∙◌, inl, inr}
use Rattle.std.proofs.lemmas.Bool.{true≢false}
use Rattle.b2_access.specs.Contents.{content_other, content_same}
use Rattle.b2_access.specs.Objects.{Decided, same_object}
use Rattle.b2_access.specs.AccessRows.{reach}
use Rattle.b2_access.specs.Homes.{IsWithin}
use Rattle.b2_access.specs.Loans.{lends}
use Rattle.b2_access.specs.Reach.{DevicePart, DeviceReach, HoldFreed, HoldTaken, WithPlatter, WithPrinter, device_objects, part_objects, terminal_objects}
use Rattle.b2_access.specs.Rows.{row_of, with_row}
use Rattle.b2_access.specs.Serving.{itself}
use Rattle.b2_access.specs.Store.{StoreState, content}
use Rattle.b2_access.specs.declared.accesses.Access.{Access}
use Rattle.b2_access.specs.declared.devices.Device.{Device}
use Rattle.b2_access.specs.declared.objects.Object.{Object}
use Rattle.b2_access.specs.declared.objects.Object.TheVariants as object
use Rattle.b2_access.specs.declared.private.Private.{Private}
use Rattle.b2_audit.specs.Steps.{Group, foul, marks_after}
use Rattle.b2_machine.proofs.ByTable.{turns_go_by_listed}
use Rattle.b2_machine.specs.Touched.{asking}
use Rattle.b2_machine.specs.Turn.{TurnEnd}
use Rattle.b2_audit.proofs.CleanSteps.{CleanFrom, clean_steps}
use Rattle.b2_sched.proofs.Foul.{clean_first, clean_rest, foul_after, foul_append, foul_so_far, stays_foul}
use Rattle.b2_sched.proofs.GroupRows.{both_rows, first_rows, is_another, row_holds, rows_changed}
use Rattle.b2_sched.proofs.GroupTurns.{AreInside, InsideIfAny, IsOut, StayFit, both_inside, members_foul, members_turn, none_inside, one_inside, others_turn}
use Rattle.b2_sched.proofs.Lasting.{by_actions}
use Rattle.b2_sched.proofs.Numbered.{numbered_other}
use Rattle.b2_sched.proofs.SameQuotas.{all_same}
use Rattle.b2_sched.specs.Choice.{basic}
use Rattle.b2_sched.specs.Groups.{GroupsRelyOnTheirOwn, IsOutside, MembersAlike, WorldsAlike, steps_along, steps_at, steps_of}
use Rattle.b2_sched.specs.Laws.{all_actions}
use Rattle.b2_sched.specs.Lawful.{basic_goes_by_listed, basic_is_lawful}
use Rattle.b2_sched.specs.Turns.{noted_by, steps_in_turn, turn_of}
use Rattle.b2_sched.specs.World.{WorldState, Action, Key, Front, Halt, Reset, Turn, after_turn, asked_to_halt, asked_to_reset, changed, does, does_all, private_of, ran, row_changed, with_key, with_turn}
use Rattle.b2_store.specs.Changes.{with_terminal}
use Rattle.b2_store.specs.DiskWork.{serves}
use Rattle.b2_term.specs.Terminal.{TerminalState, keyed}

-- a terminal changes alike in two stores
pub terminal_other : (c : Option TerminalState) (t : ℕ) (f : TerminalState → TerminalState) (s : StoreState) (o : Object) → o ≢ object.Terminal t → content (with_terminal c t f s) o ≡ content s o
terminal_other None t f s o apart = refl
terminal_other (Some x) t f s o apart = content_other (object.Terminal t) o (f x) s apart

terminal_same : (c : Option TerminalState) (t : ℕ) (f : TerminalState → TerminalState) (s : StoreState) → content s (object.Terminal t) ≡ c → content (with_terminal c t f s) (object.Terminal t) ≡ option_map f c
terminal_same None t f s is = is
terminal_same (Some x) t f s is = content_same (object.Terminal t) (f x) s ∙ ap (option_map (λ _. f x)) is

terminal_alike : (t : ℕ) (f : TerminalState → TerminalState) (s u : StoreState) (o : Object) → content s o ≡ content u o
    → content (with_terminal (content s (object.Terminal t)) t f s) o ≡ content (with_terminal (content u (object.Terminal t)) t f u) o
terminal_alike t f s u o same = by (same_object o (object.Terminal t))
  where
    here : content s (object.Terminal t) ≡ content u (object.Terminal t)
        → content (with_terminal (content s (object.Terminal t)) t f s) (object.Terminal t) ≡ content (with_terminal (content u (object.Terminal t)) t f u) (object.Terminal t)
    here h = terminal_same (content s (object.Terminal t)) t f s refl ∙ ap (option_map f) h ∙ sym (terminal_same (content u (object.Terminal t)) t f u refl)

    by : Decided (o ≡ object.Terminal t) → content (with_terminal (content s (object.Terminal t)) t f s) o ≡ content (with_terminal (content u (object.Terminal t)) t f u) o
    by (inl is) =
        subst (λ (x : Object). content s x ≡ content u x → content (with_terminal (content s (object.Terminal t)) t f s) x ≡ content (with_terminal (content u (object.Terminal t)) t f u) x) (sym is) here same
    by (inr apart) = terminal_other (content s (object.Terminal t)) t f s o apart ∙ same ∙ sym (terminal_other (content u (object.Terminal t)) t f u o apart)

pub names_stay : (c : Option TerminalState) (t : ℕ) (f : TerminalState → TerminalState) (s : StoreState) (n : List ℕ) → content (with_terminal c t f s) (object.Name n) ≡ content s (object.Name n)
names_stay None t f s n = refl
names_stay (Some x) t f s n = refl

module _ (g : Group) (out : Object → Type 0) (is_out : IsOut g out) (table : List Device) (Fit : Private → Type 0) (fit : StayFit table out Fit) (flagged : (me : Private) → Fit me → Fit (asked_to_halt me) × Fit (asked_to_reset me)) where
  -- two worlds, of which the first has a table of devices, and members that fit
  pub record Alike (os : List Object) (w v : WorldState) : Type 0 where
    pub worlds : WorldsAlike out g os w v
    pub table_is : w.devices ≡ table
    pub fits : (p : ℕ) (me : Private) → g p ≡ true → private_of p w ≡ Some me → Fit me

  -- a member's turn happens in both worlds
  both_turn : (p n : ℕ) (w v : WorldState) (os : List Object) (m : Option Private) → g p ≡ true → private_of p w ≡ m → Alike os w v
      → CleanFrom g os (noted_by w.devices p n m w.store) → Alike (foul_after g (noted_by w.devices p n m w.store) os) (with_turn p m n w) (with_turn p m n v)
  both_turn p n w v os None member is alike clean = alike
  both_turn p n w v os (Some me) member is alike clean =
      let inside = alike.worlds.privates.homes p me member is in
      let x : TurnEnd StoreState = turn_of w.devices n me w.store in
      let fit_here = subst (λ (ds : List Device). StayFit ds out Fit) (sym alike.table_is) fit in
      let turns = members_turn w.devices g out is_out Fit fit_here p n me w.store v.store os member inside (alike.fits p me member is) alike.worlds.names alike.worlds.stores clean in
      let rows = both_rows g p x.me w.privates v.privates turns.homes alike.worlds.privates in
      let there : TurnEnd StoreState → WorldState = λ t. after_turn p t (marks_after (steps_in_turn v.devices p n me v.store) v.marks) v in
      let here : Alike os (with_turn p (Some me) n w) (there (turn_of w.devices n me v.store)) = record {
        worlds = record {
          quotas = alike.worlds.quotas;
          devices = alike.worlds.devices;
          privates = subst (λ (z : Private). MembersAlike g (with_row p w.privates x.me) (with_row p v.privates z)) turns.own rows;
          stores = turns.objects;
          names = turns.names;
        };
        table_is = alike.table_is;
        fits = λ q you in_group there. row_holds Fit q p x.me w.privates (λ e. turns.fits) (λ old was. alike.fits q old in_group was) you there;
      } in
      let same = turns_go_by_listed basic basic_goes_by_listed basic_is_lawful itself serves lends w.devices v.devices n me v.store (alike.worlds.devices me.part inside.part) in
      subst (λ (xs : List Object). Alike xs (with_turn p (Some me) n w) (with_turn p (Some me) n v)) (sym (members_foul w.devices g p n me w.store os member)) (subst (λ (t : TurnEnd StoreState). Alike os (with_turn p (Some me) n w) (there t)) same here)

  -- an outsider's in the first alone
  first_turn : (p n : ℕ) (w v : WorldState) (os : List Object) (m : Option Private) → g p ≡ false → Alike os w v → Alike (foul_after g (noted_by w.devices p n m w.store) os) (with_turn p m n w) v
  first_turn p n w v os None other alike = alike
  first_turn p n w v os (Some me) other alike = record {
    worlds = record {
      quotas = alike.worlds.quotas;
      devices = alike.worlds.devices;
      privates = first_rows g p (turn_of w.devices n me w.store).me w.privates v.privates other alike.worlds.privates;
      stores = λ o clear inside. others_turn w.devices g p n me w.store os other o clear ∙ alike.worlds.stores o (λ i. clear (stays_foul g (noted_by w.devices p n (Some me) w.store) os o i)) inside;
      names = λ k q clear leads.
          alike.worlds.names k q (λ i. clear (stays_foul g (noted_by w.devices p n (Some me) w.store) os (object.Name k) i)) (sym (others_turn w.devices g p n me w.store os other (object.Name k) clear) ∙ leads);
    };
    table_is = alike.table_is;
    fits = λ q you in_group there. alike.fits q you in_group (sym (numbered_other q p (turn_of w.devices n me w.store).me (is_another g p q other in_group) w.privates) ∙ there);
  }

  turn_alike : (p n : ℕ) (w v : WorldState) (os : List Object) → Alike os w v → CleanFrom g os (noted_by w.devices p n (private_of p w) w.store)
      → Alike (foul_after g (noted_by w.devices p n (private_of p w) w.store) os) (with_turn p (private_of p w) n w) (with_turn p (private_of p v) n v)
  turn_alike p n w v os alike clean = by (g p) refl
    where
      by : (b : Bool) → g p ≡ b → Alike (foul_after g (noted_by w.devices p n (private_of p w) w.store) os) (with_turn p (private_of p w) n w) (with_turn p (private_of p v) n v)
      by true member = subst (λ (m : Option Private). Alike (foul_after g (noted_by w.devices p n (private_of p w) w.store) os) (with_turn p (private_of p w) n w) (with_turn p m n v)) (alike.worlds.privates.members p member) (both_turn p n w v os (private_of p w) member refl alike clean)
      by false other = subst (λ (m : Option Private). Alike (foul_after g (noted_by w.devices p n (private_of p w) w.store) os) (with_turn p (private_of p w) n w) (with_turn p m n v)) (sym (alike.worlds.privates.absent p other)) (first_turn p n w v os (private_of p w) other alike)

  -- a terminal that changes in both
  pub both_terminals : (t : ℕ) (f : TerminalState → TerminalState) (w v : WorldState) (dropped there : ℕ) (os : List Object) → Alike os w v
      → Alike os (record w { store = with_terminal (content w.store (object.Terminal t)) t f w.store; dropped = dropped }) (record v { store = with_terminal (content v.store (object.Terminal t)) t f v.store; dropped = there })
  both_terminals t f w v dropped there os alike = record {
    worlds = record {
      quotas = alike.worlds.quotas;
      devices = alike.worlds.devices;
      privates = alike.worlds.privates;
      stores = λ o clear inside. terminal_alike t f w.store v.store o (alike.worlds.stores o clear inside);
      names = λ n q clear leads. alike.worlds.names n q clear (sym (names_stay (content w.store (object.Terminal t)) t f w.store n) ∙ leads);
    };
    table_is = alike.table_is;
    fits = alike.fits;
  }

  -- a flag of an own state, in both
  fits_changed : (f : Private → Private) → ((me : Private) → Fit me → Fit (f me)) → (p : ℕ) (rows : List (ℕ × Private)) (o : Option Private) → row_of p rows ≡ o → ((q : ℕ) (me : Private) → g q ≡ true → row_of q rows ≡ Some me → Fit me)
      → (q : ℕ) (me : Private) → g q ≡ true → row_of q (row_changed p o f rows) ≡ Some me → Fit me
  fits_changed f keeps p rows None here old q me member is = old q me member is
  fits_changed f keeps p rows (Some you) here old q me member is =
      row_holds Fit q p (f you) rows (λ e. keeps you (old p you (sym (ap g e) ∙ member) here)) (λ before was. old q before member was) me is

  pub both_flagged : (f : Private → Private) → ((me : Private) → IsWithin g me → IsWithin g (f me)) → ((me : Private) → Fit me → Fit (f me)) → (p : ℕ) (w v : WorldState) (os : List Object) → Alike os w v
      → Alike os (record w { privates = changed p f w.privates }) (record v { privates = changed p f v.privates })
  both_flagged f within keeps p w v os alike = record {
    worlds = record {
      quotas = alike.worlds.quotas;
      devices = alike.worlds.devices;
      privates = rows_changed g f within p w.privates v.privates alike.worlds.privates;
      stores = alike.worlds.stores;
      names = alike.worlds.names;
    };
    table_is = alike.table_is;
    fits = fits_changed f keeps p w.privates (row_of p w.privates) refl alike.fits;
  }

  -- whatever happens
  pub action_alike : (a : Action) (w v : WorldState) (os : List Object) → Alike os w v → CleanFrom g os (steps_at a w) → Alike (foul_after g (steps_at a w) os) (does a w) (does a v)
  action_alike (Key t k) w v os alike clean = both_terminals t (keyed k) w v (with_key t k w).dropped (with_key t k v).dropped os alike
  action_alike (Front t p) w v os alike clean = both_terminals t (λ x. record x { front = p }) w v w.dropped v.dropped os alike
  action_alike (Halt p) w v os alike clean = both_flagged asked_to_halt (λ me h. record { part = h.part; place = h.place; kept = h.kept; frames = h.frames }) (λ me h. (flagged me h).0) p w v os alike
  action_alike (Reset p) w v os alike clean = both_flagged asked_to_reset (λ me h. record { part = h.part; place = h.place; kept = h.kept; frames = h.frames }) (λ me h. (flagged me h).1) p w v os alike
  action_alike (Turn p n) w v os alike clean = turn_alike p n w v os alike clean

  pub all_alike : (acts : List Action) (w v : WorldState) (os : List Object) → Alike os w v → CleanFrom g os (steps_along acts w)
      → Alike (foul_after g (steps_along acts w) os) (does_all acts w) (does_all acts v)
  all_alike [] w v os alike clean = alike
  all_alike (a ∷ rest) w v os alike clean =
      let first = steps_at a w in
      let after = steps_along rest (does a w) in
      let one = action_alike a w v os alike (clean_first g first after os clean) in
      let more = all_alike rest (does a w) (does a v) (foul_after g first os) one (clean_rest g first after os clean) in
      subst (λ (xs : List Object). Alike xs (does_all (a ∷ rest) w) (does_all (a ∷ rest) v)) (sym (foul_append g first after os)) more

-- what belongs to outsiders no member comes to
pub outside_is_out : (g : Group) → IsOut g (IsOutside g)
outside_is_out g = record {
  texts = λ p member bad. clash (g p) member bad;
  borrowers = λ p member bad. clash (g p) member bad;
  variables = λ p member bad. clash (g p) member bad;
  names = λ n bad. bad;
}
  where
    clash : (b : Bool) → b ≡ true → b ≡ false → ⊥
    clash b is isnt = let both : true ≡ false = sym is ∙ isnt in cc

-- and no terminal and no device belongs to them, whatever is asked for
module _ (g : Group) where
  abbrev AllInside : List Object → Type 0
  AllInside os = AreInside (IsOutside g) os

  terminal_inside : (term : Option ℕ) → AllInside (terminal_objects term)
  terminal_inside None = none_inside (IsOutside g)
  terminal_inside (Some t) = one_inside (IsOutside g) (object.Terminal t) [] (λ bad. bad) (none_inside (IsOutside g))

  with_hog : (a : List ℕ) (os : List Object) → AllInside os → AllInside (object.Hog a ∷ os)
  with_hog a os rest = one_inside (IsOutside g) (object.Hog a) os (λ bad. bad) rest

  part_inside : (a : List ℕ) (p : DevicePart) → AllInside (part_objects a p)
  part_inside a HoldTaken = with_hog a [] (none_inside (IsOutside g))
  part_inside a HoldFreed = with_hog a [] (none_inside (IsOutside g))
  part_inside a WithPlatter = with_hog a (object.Platter a ∷ []) (one_inside (IsOutside g) (object.Platter a) [] (λ bad. bad) (none_inside (IsOutside g)))
  part_inside a WithPrinter = with_hog a (object.Printer a ∷ []) (one_inside (IsOutside g) (object.Printer a) [] (λ bad. bad) (none_inside (IsOutside g)))

  devices_inside : (ds : List DeviceReach) → AllInside (device_objects ds)
  devices_inside [] = none_inside (IsOutside g)
  devices_inside (d ∷ ds) = both_inside (IsOutside g) (part_objects d.address d.part) (device_objects ds) (part_inside d.address d.part) (devices_inside ds)

  asks_inside : (x : Option Access) → InsideIfAny (IsOutside g) x
  asks_inside None = tt
  asks_inside (Some a) = (terminal_inside (reach a).terminal, devices_inside (reach a).devices)

abbrev Anyone : Private → Type 0
Anyone me = Unit {0}

anyone_fits : (g : Group) (devices : List Device) → StayFit devices (IsOutside g) Anyone
anyone_fits g devices = record { asks = λ me s fits. asks_inside g (asking (basic devices) me s); next = λ me s fits. tt; pass = λ me k fits. tt }

-- who is present where a group is alone is a member
present_member : (g : Group) (w v : WorldState) → WorldsAlike (IsOutside g) g [] w v → (p : ℕ) → is_some (private_of p v) ≡ true → g p ≡ true
present_member g w v alike p there = by (g p) refl
  where
    by : (b : Bool) → g p ≡ b → b ≡ true
    by true is = refl
    by false out = absurd (true≢false (sym there ∙ ap (λ (o : Option Private). is_some o) (alike.privates.absent p out)))

pub group_relies : GroupsRelyOnTheirOwn
group_relies g log w v alike clean =
    let acts = all_actions w.quotas log in
    let steps = steps_of log w in
    let start : Alike g (IsOutside g) (outside_is_out g) w.devices Anyone (anyone_fits g w.devices) (λ me fits. (tt, tt)) [] w v = record { worlds = alike; table_is = refl; fits = λ p me member is. tt } in
    let all = (all_alike g (IsOutside g) (outside_is_out g) w.devices Anyone (anyone_fits g w.devices) (λ me fits. (tt, tt)) acts w v [] start ((clean_steps g steps).1 clean)).worlds in
    let less : WorldsAlike (IsOutside g) g (foul g steps) (does_all acts w) (does_all acts v) = record {
      quotas = all.quotas;
      devices = all.devices;
      privates = all.privates;
      stores = λ o clear inside. all.stores o (λ i. elim (foul_so_far g steps [] o i) [ inl j ↦ clear j | inr j ↦ absurd j ]) inside;
      names = λ n p clear leads. all.names n p (λ i. elim (foul_so_far g steps [] (object.Name n) i) [ inl j ↦ clear j | inr j ↦ absurd j ]) leads;
    } in
    let second : does_all acts v ≡ ran log v = all_same w.quotas v.quotas log v (λ p there. alike.quotas p (present_member g w v alike p there)) ∙ sym (by_actions log v) in
    let one = subst (λ (x : WorldState). WorldsAlike (IsOutside g) g (foul g steps) x (does_all acts v)) (sym (by_actions log w)) less in
    subst (λ (x : WorldState). WorldsAlike (IsOutside g) g (foul g steps) (ran log w) x) second one
