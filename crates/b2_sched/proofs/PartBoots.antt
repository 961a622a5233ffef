-- The worlds of a boot and of its own part: the tables of devices list the same for its partitions, and what these can come to is the same.
use Rattle.std.specs.Prelude.{◌≡◌, ℕ, ◌==◌, ◌||◌, ◌&&◌, not, Bool, true, false, cond, List, [], ◌∷◌, ◌++◌, filter, map, Option, Some, None, is_some, refl, if◌then◌else◌}
use Rattle.std.specs.List.{list_any}
use Rattle.std.specs.Str.{bytes_eq}
use Rattle.std.proofs.Common.{sym, ap, subst, ◌∙◌}
use Rattle.std.proofs.lemmas.Bool.{true≢false}
use Rattle.std.proofs.lemmas.Slice.Eq.{bytes_eq-Decides}
use Rattle.b2_access.proofs.RowLaws.{either_left, either_right}
use Rattle.b2_access.specs.Devices.{are_distinct, has_device, may_use, meets, same_kind}
use Rattle.b2_access.specs.Rows.{device_row, row_of}
use Rattle.b2_access.specs.Store.{content}
use Rattle.b2_access.specs.declared.devices.Device.{Device}
use Rattle.b2_access.specs.declared.objects.Object.{Object}
use Rattle.b2_access.specs.declared.objects.Object.TheVariants as object
use Rattle.b2_access.specs.declared.private.Private.{Private}
use Rattle.b2_boot.specs.Alone.{has_number, may_be_used, own_boot, stands_at}
use Rattle.b2_boot.specs.Boots.{BootState, is_for}
use Rattle.b2_boot.specs.declared.boot.BootPartition.{BootPartition}
use Rattle.b2_boot.specs.declared.boot.BootPlatter.{BootPlatter}
use Rattle.b2_boot.specs.declared.boot.BootPrinter.{BootPrinter}
use Rattle.b2_boot.specs.declared.boot.BootTerminal.{BootTerminal}
use Rattle.b2_language.specs.Languages.{ListAlike}
use Rattle.b2_term.specs.Terminal.{TerminalState}
use Rattle.b2_store.specs.Start.{blank_row, free_row, idle_row, with_keys}
use Rattle.b2_sched.proofs.AloneBoots.{held_by_nobody, in_group, starts_within}
use Rattle.b2_sched.proofs.GroupRows.{is_it}
use Rattle.b2_sched.proofs.Numbers.{same_as_itself, same_number}
use Rattle.b2_sched.specs.Groups.{WorldsAlike}
use Rattle.b2_sched.specs.Parts.{has_platter, has_printer, images_kept, own_images}
use Rattle.b2_sched.specs.Start.{Images, booted, devices_of, front_of_boot, platter_addresses, platter_device, printer_addresses, printer_device, private_row, store_booted}

-- ---- tests of lists

pub first_false : (a b : Bool) → (a || b) ≡ false → a ≡ false
first_false true b is = is
first_false false b is = refl

pub second_false : (a b : Bool) → (a || b) ≡ false → b ≡ false
second_false true b is = absurd (true≢false is)
second_false false b is = is

-- what is found among those that are kept is found among all
pub kept_found : {A : Type 0} (f k : A → Bool) (xs : List A) → list_any f (filter k xs) ≡ true → list_any f xs ≡ true
kept_found f k [] found = found
kept_found f k (x ∷ xs) found = by (k x) (kept_found f k xs) found
  where
    here : (c : Bool) → (list_any f (filter k xs) ≡ true → list_any f xs ≡ true) → (c || list_any f (filter k xs)) ≡ true → (c || list_any f xs) ≡ true
    here true later is = refl
    here false later is = later is

    by : (b : Bool) → (list_any f (filter k xs) ≡ true → list_any f xs ≡ true) → list_any f (cond b (x ∷ filter k xs) (filter k xs)) ≡ true → (f x || list_any f xs) ≡ true
    by true later is = here (f x) later is
    by false later is = either_right (f x) (list_any f xs) (later is)

-- a test that none of those that go meets finds the same among those that are kept
kept_alike : {A D : Type 0} (meet : D → Bool) (of : A → D) (k : A → Bool) → ((x : A) → k x ≡ false → meet (of x) ≡ false) → (xs : List A) (ys zs : List D) → list_any meet ys ≡ list_any meet zs
    → list_any meet (map of xs ++ ys) ≡ list_any meet (map of (filter k xs) ++ zs)
kept_alike meet of k drops [] ys zs same = same
kept_alike meet of k drops (x ∷ xs) ys zs same = by (k x) refl (kept_alike meet of k drops xs ys zs same)
  where
    by : (b : Bool) → k x ≡ b → list_any meet (map of xs ++ ys) ≡ list_any meet (map of (filter k xs) ++ zs)
        → (meet (of x) || list_any meet (map of xs ++ ys)) ≡ list_any meet (map of (cond b (x ∷ filter k xs) (filter k xs)) ++ zs)
    by true is more = ap (λ (c : Bool). meet (of x) || c) more
    by false is more = ap (λ (c : Bool). c || list_any meet (map of xs ++ ys)) (drops x is) ∙ more

all_kept_alike : {A D : Type 0} (meet : D → Bool) (of : A → D) (k : A → Bool) → ((x : A) → k x ≡ false → meet (of x) ≡ false) → (xs : List A) → list_any meet (map of xs) ≡ list_any meet (map of (filter k xs))
all_kept_alike meet of k drops [] = refl
all_kept_alike meet of k drops (x ∷ xs) = by (k x) refl (all_kept_alike meet of k drops xs)
  where
    by : (b : Bool) → k x ≡ b → list_any meet (map of xs) ≡ list_any meet (map of (filter k xs)) → (meet (of x) || list_any meet (map of xs)) ≡ list_any meet (map of (cond b (x ∷ filter k xs) (filter k xs)))
    by true is more = ap (λ (c : Bool). meet (of x) || c) more
    by false is more = ap (λ (c : Bool). c || list_any meet (map of xs)) (drops x is) ∙ more

-- ---- who may use a device

same_use : (who : ℕ) (only : Option ℕ) → may_use who only ≡ is_for who only
same_use who None = refl
same_use who (Some n) = refl

-- what no partition may use none of them may use
for_none : (ps : List BootPartition) (who : ℕ) (only : Option ℕ) → has_number ps who ≡ true → may_be_used ps only ≡ false → is_for who only ≡ false
for_none [] who only there unused = absurd (true≢false (sym there))
for_none (x ∷ xs) who only there unused = by (x.number == who) refl (λ h. for_none xs who only h (second_false (is_for x.number only) (may_be_used xs only) unused)) there
  where
    by : (b : Bool) → (x.number == who) ≡ b → (has_number xs who ≡ true → is_for who only ≡ false) → (b || has_number xs who) ≡ true → is_for who only ≡ false
    by true e later h = sym (ap (λ (n : ℕ). is_for n only) (same_number x.number who e)) ∙ first_false (is_for x.number only) (may_be_used xs only) unused
    by false e later h = later h

-- so no device that goes is one of theirs
never : (a b c : Bool) → c ≡ false → (a && (b && c)) ≡ false
never true true c is = is
never true false c is = refl
never false b c is = refl

module _ (ps : List BootPartition) (who : ℕ) (there : has_number ps who ≡ true) (printer : Bool) (a : List ℕ) where
  unmet : (d : Device) → may_be_used ps d.only ≡ false → meets printer who a d ≡ false
  unmet d unused = never (bytes_eq d.addr a) (same_kind d.printer printer) (may_use who d.only) (same_use who d.only ∙ for_none ps who d.only there unused)

  -- THE TABLES LIST THE SAME for a partition that is there
  tables_agree : (printers : List BootPrinter) (platters : List BootPlatter)
      → has_device printer who a (devices_of printers platters) ≡ has_device printer who a (devices_of (filter (λ d. may_be_used ps d.only) printers) (filter (λ d. may_be_used ps d.only) platters))
  tables_agree printers platters =
      kept_alike (meets printer who a) printer_device (λ d. may_be_used ps d.only) (λ d unused. unmet (printer_device d) unused) printers (map platter_device platters) (map platter_device (filter (λ d. may_be_used ps d.only) platters))
      (all_kept_alike (meets printer who a) platter_device (λ d. may_be_used ps d.only) (λ d unused. unmet (platter_device d) unused) platters)

pub tables_alike : (b : BootState) (who : ℕ) → has_number b.partitions who ≡ true → ListAlike who (devices_of b.printers b.platters) (devices_of (own_boot b).printers (own_boot b).platters)
tables_alike b who there printer a = tables_agree b.partitions who there printer a b.printers b.platters

-- ---- which objects the own part lacks

abbrev pub IsLacking : BootState → Object → Type 0
IsLacking b (object.Text p) = has_number b.partitions p ≡ false
IsLacking b (object.Borrow p) = has_number b.partitions p ≡ false
IsLacking b (object.Globals p) = has_number b.partitions p ≡ false
IsLacking b (object.Terminal t) = stands_at b.partitions t ≡ false
IsLacking b (object.Printer a) = has_printer (own_boot b) a ≡ false
IsLacking b (object.Platter a) = has_platter (own_boot b) a ≡ false
IsLacking b (object.Hog a) = (has_printer (own_boot b) a || has_platter (own_boot b) a) ≡ false
IsLacking b (object.Name n) = ⊥

-- ---- what the two start with

-- a first row that both have, and one that is another's
both_first : {X : Type 0} (c found : Bool) (x : X) (all mine : Option X) → (found ≡ true → all ≡ mine) → (c || found) ≡ true → cond c (Some x) all ≡ cond c (Some x) mine
both_first true found x all mine later is = refl
both_first false found x all mine later is = later is

gone_first : {X : Type 0} (c : Bool) (x : X) (all mine : Option X) → c ≡ false → all ≡ mine → cond c (Some x) all ≡ mine
gone_first true x all mine isnt later = absurd (true≢false isnt)
gone_first false x all mine isnt later = later

-- a terminal at which one stands
abbrev idle_rows : List BootTerminal → List (ℕ × TerminalState)
idle_rows ts = map idle_row (map front_of_boot ts)

another : (k : ℕ → Bool) (n t : ℕ) → k t ≡ true → k n ≡ false → (n == t) ≡ false
another k n t is isnt = by (n == t) refl
  where
    by : (b : Bool) → (n == t) ≡ b → b ≡ false
    by true e = absurd (true≢false (sym is ∙ sym (ap k (same_number n t e)) ∙ isnt))
    by false e = refl

terminal_kept : (k : ℕ → Bool) (t : ℕ) → k t ≡ true → (ts : List BootTerminal) → row_of t (idle_rows ts) ≡ row_of t (idle_rows (filter (λ x. k x.number) ts))
terminal_kept k t is [] = refl
terminal_kept k t is (x ∷ xs) = by (k x.number) refl (terminal_kept k t is xs)
  where
    by : (b : Bool) → k x.number ≡ b → row_of t (idle_rows xs) ≡ row_of t (idle_rows (filter (λ y. k y.number) xs))
        → cond (x.number == t) (Some (idle_row (front_of_boot x)).1) (row_of t (idle_rows xs)) ≡ row_of t (idle_rows (cond b (x ∷ filter (λ y. k y.number) xs) (filter (λ y. k y.number) xs)))
    by true kept later = both_first (x.number == t) true (idle_row (front_of_boot x)).1 (row_of t (idle_rows xs)) (row_of t (idle_rows (filter (λ y. k y.number) xs))) (λ e. later) (either_right (x.number == t) true refl)
    by false kept later = gone_first (x.number == t) (idle_row (front_of_boot x)).1 (row_of t (idle_rows xs)) (row_of t (idle_rows (filter (λ y. k y.number) xs))) (another k x.number t is kept) later

-- a printer that is there printed nothing, and a device that is there is held by nobody
found_row : {X : Type 0} (b rest : Bool) (x : X) (row : Option X) → (rest ≡ true → row ≡ Some x) → (b || rest) ≡ true → cond b (Some x) row ≡ Some x
found_row true rest x row later is = refl
found_row false rest x row later is = later is

printed_nothing : (a : List ℕ) (ds : List BootPrinter) → list_any (λ d. bytes_eq d.address a) ds ≡ true → device_row a (map blank_row (printer_addresses ds)) ≡ Some []
printed_nothing a [] there = absurd (true≢false (sym there))
printed_nothing a (d ∷ ds) there = found_row (bytes_eq d.address a) (list_any (λ x. bytes_eq x.address a) ds) [] (device_row a (map blank_row (printer_addresses ds))) (printed_nothing a ds) there

abbrev nobody : Option ℕ
nobody = None

platter_free : (a : List ℕ) (ds : List BootPlatter) → list_any (λ d. bytes_eq d.address a) ds ≡ true → device_row a (map free_row (platter_addresses ds)) ≡ Some nobody
platter_free a [] there = absurd (true≢false (sym there))
platter_free a (d ∷ ds) there = found_row (bytes_eq d.address a) (list_any (λ x. bytes_eq x.address a) ds) nobody (device_row a (map free_row (platter_addresses ds))) (platter_free a ds) there

either_of : (b c d : Bool) → ((b || c) || d) ≡ true → (b || (c || d)) ≡ true
either_of true c d is = refl
either_of false c d is = is

device_free : (a : List ℕ) (printers : List BootPrinter) (platters : List BootPlatter) → (list_any (λ d. bytes_eq d.address a) printers || list_any (λ d. bytes_eq d.address a) platters) ≡ true
    → device_row a (map free_row (printer_addresses printers) ++ map free_row (platter_addresses platters)) ≡ Some nobody
device_free a [] platters there = platter_free a platters there
device_free a (d ∷ ds) platters there =
    found_row (bytes_eq d.address a) (list_any (λ x. bytes_eq x.address a) ds || list_any (λ x. bytes_eq x.address a) platters) nobody
    (device_row a (map free_row (printer_addresses ds) ++ map free_row (platter_addresses platters))) (device_free a ds platters)
    (either_of (bytes_eq d.address a) (list_any (λ x. bytes_eq x.address a) ds) (list_any (λ x. bytes_eq x.address a) platters) there)

-- among all there is each of some that are kept
either_kept : (x y u v : Bool) → (x ≡ true → u ≡ true) → (y ≡ true → v ≡ true) → (x || y) ≡ true → (u || v) ≡ true
either_kept true y u v f g is = either_left u v (f refl)
either_kept false y u v f g is = either_right u v (g is)

-- A platter that is kept has its image, since no other has its address.
same_bytes : (x y a : List ℕ) → bytes_eq x a ≡ true → bytes_eq y a ≡ true → bytes_eq x y ≡ true
same_bytes x y a xa ya = (bytes_eq-Decides x y).1 ((bytes_eq-Decides x a).0 xa ∙ sym ((bytes_eq-Decides y a).0 ya))

stands_twice : (x a : List ℕ) (ds : List BootPlatter) → bytes_eq x a ≡ true → list_any (λ d. bytes_eq d.address a) ds ≡ true → list_any (bytes_eq x) (platter_addresses ds) ≡ true
stands_twice x a [] xa there = there
stands_twice x a (d ∷ ds) xa there = by (bytes_eq d.address a) refl (stands_twice x a ds xa) there
  where
    by : (b : Bool) → bytes_eq d.address a ≡ b → (list_any (λ y. bytes_eq y.address a) ds ≡ true → list_any (bytes_eq x) (platter_addresses ds) ≡ true) → (b || list_any (λ y. bytes_eq y.address a) ds) ≡ true
        → (bytes_eq x d.address || list_any (bytes_eq x) (platter_addresses ds)) ≡ true
    by true e later is = either_left (bytes_eq x d.address) (list_any (bytes_eq x) (platter_addresses ds)) (same_bytes x d.address a xa e)
    by false e later is = either_right (bytes_eq x d.address) (list_any (bytes_eq x) (platter_addresses ds)) (later is)

first_once : (b c : Bool) → (not b && c) ≡ true → b ≡ false
first_once true c is = absurd (true≢false (sym is))
first_once false c is = refl

rest_once : (b c : Bool) → (not b && c) ≡ true → c ≡ true
rest_once true c is = absurd (true≢false (sym is))
rest_once false c is = is

-- so one that goes has another address than one that is kept
elsewhere : (keeps : BootPlatter → Bool) (a : List ℕ) (d : BootPlatter) (ds : List BootPlatter) → list_any (bytes_eq d.address) (platter_addresses ds) ≡ false → list_any (λ x. bytes_eq x.address a) (filter keeps ds) ≡ true
    → bytes_eq d.address a ≡ false
elsewhere keeps a d ds once found = by (bytes_eq d.address a) refl
  where
    by : (b : Bool) → bytes_eq d.address a ≡ b → b ≡ false
    by true e = absurd (true≢false (sym (stands_twice d.address a ds e (kept_found (λ (x : BootPlatter). bytes_eq x.address a) keeps ds found)) ∙ once))
    by false e = refl

no_images : (ks : List (List ℕ)) → ◌≡◌ {A = List (List ℕ × List ℕ)} (with_keys ks []) []
no_images [] = refl
no_images (k ∷ ks) = refl

image_kept : (keeps : BootPlatter → Bool) (a : List ℕ) (ds : List BootPlatter) (images : Images) → are_distinct (platter_addresses ds) ≡ true → list_any (λ d. bytes_eq d.address a) (filter keeps ds) ≡ true
    → device_row a (with_keys (platter_addresses ds) images) ≡ device_row a (with_keys (platter_addresses (filter keeps ds)) (images_kept keeps ds images))
image_kept keeps a [] images once there = refl
image_kept keeps a (d ∷ ds) [] once there = sym (ap (device_row a) (no_images (platter_addresses (filter keeps (d ∷ ds)))))
image_kept keeps a (d ∷ ds) (i ∷ images) once there =
    by (keeps d) (image_kept keeps a ds images (rest_once (list_any (bytes_eq d.address) (platter_addresses ds)) (are_distinct (platter_addresses ds)) once)) there
  where
    by : (b : Bool)
        → (list_any (λ x. bytes_eq x.address a) (filter keeps ds) ≡ true → device_row a (with_keys (platter_addresses ds) images) ≡ device_row a (with_keys (platter_addresses (filter keeps ds)) (images_kept keeps ds images)))
        → list_any (λ x. bytes_eq x.address a) (cond b (d ∷ filter keeps ds) (filter keeps ds)) ≡ true
        → cond (bytes_eq d.address a) (Some i) (device_row a (with_keys (platter_addresses ds) images))
        ≡ device_row a (with_keys (platter_addresses (cond b (d ∷ filter keeps ds) (filter keeps ds))) (if b then i ∷ images_kept keeps ds images else images_kept keeps ds images))
    by true later is =
        both_first (bytes_eq d.address a) (list_any (λ x. bytes_eq x.address a) (filter keeps ds)) i (device_row a (with_keys (platter_addresses ds) images))
        (device_row a (with_keys (platter_addresses (filter keeps ds)) (images_kept keeps ds images))) later is
    by false later is =
        gone_first (bytes_eq d.address a) i (device_row a (with_keys (platter_addresses ds) images)) (device_row a (with_keys (platter_addresses (filter keeps ds)) (images_kept keeps ds images)))
        (elsewhere keeps a d ds (first_once (list_any (bytes_eq d.address) (platter_addresses ds)) (are_distinct (platter_addresses ds)) once) is) (later is)

-- each address once, so each of a platter
addresses_of : (ds : List BootPlatter) → map (λ d. d.addr) (map platter_device ds) ≡ platter_addresses ds
addresses_of [] = refl
addresses_of (d ∷ ds) = ap (λ (xs : List (List ℕ)). d.address ∷ xs) (addresses_of ds)

pub last_once : (printers : List BootPrinter) (platters : List BootPlatter) → are_distinct (map (λ d. d.addr) (devices_of printers platters)) ≡ true → are_distinct (platter_addresses platters) ≡ true
last_once [] platters once = subst (λ (xs : List (List ℕ)). are_distinct xs ≡ true) (addresses_of platters) once
last_once (d ∷ ds) platters once =
    let rest = map (λ x. x.addr) (devices_of ds platters) in
    last_once ds platters (rest_once (list_any (bytes_eq d.address) rest) (are_distinct rest) once)

module _ (b : BootState) (images : Images) (once : are_distinct (platter_addresses b.platters) ≡ true) where
  abbrev mine : BootState
  mine = own_boot b

  -- all that the part has is as in the boot
  objects : (o : Object) → (IsLacking b o → ⊥) → content (store_booted b images) o ≡ content (store_booted mine (own_images b images)) o
  objects (object.Text p) has = refl
  objects (object.Borrow p) has = refl
  objects (object.Globals p) has = refl
  objects (object.Name n) has = refl
  objects (object.Terminal t) has = terminal_kept (stands_at b.partitions) t (in_group (stands_at b.partitions t) has) b.terminals
  objects (object.Printer a) has =
      let there = in_group (has_printer mine a) has in
      printed_nothing a b.printers (kept_found (λ (d : BootPrinter). bytes_eq d.address a) (λ (d : BootPrinter). may_be_used b.partitions d.only) b.printers there) ∙ sym (printed_nothing a mine.printers there)
  objects (object.Platter a) has = image_kept (λ d. may_be_used b.partitions d.only) a b.platters images once (in_group (has_platter mine a) has)
  objects (object.Hog a) has =
      let there = in_group (has_printer mine a || has_platter mine a) has in
      let among_all =
      either_kept (has_printer mine a) (has_platter mine a) (has_printer b a) (has_platter b a) (kept_found (λ (d : BootPrinter). bytes_eq d.address a) (λ (d : BootPrinter). may_be_used b.partitions d.only) b.printers)
      (kept_found (λ (d : BootPlatter). bytes_eq d.address a) (λ (d : BootPlatter). may_be_used b.partitions d.only) b.platters) there
      in
      device_free a b.printers b.platters among_all ∙ sym (device_free a mine.printers mine.platters there)

  -- who isn't listed is absent
  pub none_there : (ps : List BootPartition) (p : ℕ) → has_number ps p ≡ false → row_of p (map private_row ps) ≡ None
  none_there [] p out = refl
  none_there (x ∷ xs) p out =
      ap (λ (c : Bool). cond c (Some (private_row x).1) (row_of p (map private_row xs))) (first_false (x.number == p) (has_number xs p) out) ∙ none_there xs p (second_false (x.number == p) (has_number xs p) out)

  pub part_starts_alike : WorldsAlike (IsLacking b) (has_number b.partitions) [] (booted b images) (booted mine (own_images b images))
  part_starts_alike = record {
    quotas = λ p member. refl;
    devices = λ p there. tables_alike b p there;
    privates = record {
      members = λ p there. refl;
      absent = λ p out. none_there b.partitions p out;
      homes = λ p me there is. starts_within (has_number b.partitions) p b.partitions me there is;
    };
    stores = λ o clear has. objects o has;
    names = λ n p clear leads. absurd (held_by_nobody p leads);
  }

-- where a partition stands at the start, and which one it is
pub starts_at : (ps : List BootPartition) (p : ℕ) (me : Private) → row_of p (map private_row ps) ≡ Some me → (stands_at ps me.term ≡ true) × (has_number ps me.part ≡ true)
starts_at [] p me is = let clash : false ≡ true = ap (λ (o : Option Private). is_some o) is in cc
starts_at (x ∷ xs) p me is = by (x.number == p) (starts_at xs p me) is
  where
    by : (b : Bool) → (row_of p (map private_row xs) ≡ Some me → (stands_at xs me.term ≡ true) × (has_number xs me.part ≡ true)) → cond b (Some (private_row x).1) (row_of p (map private_row xs)) ≡ Some me → (stands_at (x ∷ xs) me.term ≡ true) × (has_number (x ∷ xs) me.part ≡ true)
    by true later found =
        subst (λ (you : Private). (stands_at (x ∷ xs) you.term ≡ true) × (has_number (x ∷ xs) you.part ≡ true)) (is_it (private_row x).1 me found)
        (either_left (x.terminal == x.terminal) (stands_at xs x.terminal) (same_as_itself x.terminal), either_left (x.number == x.number) (has_number xs x.number) (same_as_itself x.number))
    by false later found =
        let h = later found in
        (either_right (x.terminal == me.term) (stands_at xs me.term) h.0, either_right (x.number == me.part) (has_number xs me.part) h.1)
