-- A file is made for some sectors.
use Rattle.std.proofs.Common.{◌≡◌, ℕ, ◌+◌, ◌-◌, ◌≤◌, ◌&&◌, Bool, true, false, not, cond, List, [], ◌∷◌, Option, Some, None, IfSome, refl, ap, subst, arith}
use Rattle.std.specs.Prelude.{is_some, is_none, nat_lt}
use Rattle.std.specs.Str.{bytes_eq}
use Rattle.std.specs.List.{find, list_any}
use Rattle.std.specs.FinMap.{get}
use Rattle.std.proofs.lemmas.Bool.{ltb-false}
use Rattle.b2_base.specs.declared.codes.TheConstants.{D82_NO_FILE, D83_NAME_PRESENT, D86_NO_ROOM}
use Rattle.b2_platter.specs.Image.{row, slots_in, has_free}
use Rattle.b2_platter.specs.Slot.{is_free}
use Rattle.b2_catalog.specs.declared.entry.Entry.{Entry}
use Rattle.b2_catalog.specs.Catalogue.{catalogue}
use Rattle.b2_catalog.specs.Calls.{old_refusal, reuse_refusal}
use Rattle.b2_catalog.specs.Ways.{lowest_free, place}
use Rattle.b2_progfile.specs.Saving.{size_refusal, or_then}

found-here : (p : ℕ → Bool) (x : ℕ) (xs : List ℕ) (b : Bool) → p x ≡ b → is_some (find p xs) ≡ list_any p xs → is_some (find p (x ∷ xs)) ≡ list_any p (x ∷ xs)
found-here p x xs true e h = rw e refl
found-here p x xs false e h = rw e h

found-any : (p : ℕ → Bool) (xs : List ℕ) → is_some (find p xs) ≡ list_any p xs
found-any p [] = refl
found-any p (x ∷ xs) = found-here p x xs (p x) refl (found-any p xs)

-- a sector has a free slot where it has a lowest one
pub free-any : (image : List ℕ) (s : ℕ) → is_some (lowest_free image s) ≡ has_free image s
unfolding lowest_free has_free
free-any image s = found-any (λ (k : ℕ). is_free (row image k)) (slots_in s)

pub or-none : (x : Option ℕ) → or_then x None ≡ x
or-none None = refl
or-none (Some code) = refl

small-is : (b : Bool) → is_some (cond b (Some D86_NO_ROOM) None) ≡ true → cond b (Some D86_NO_ROOM) None ≡ Some D86_NO_ROOM
small-is true h = refl
small-is false h = cc

-- a file that is too small is refused by D86
pub size-small : (o : Option Entry) (count : ℕ) → is_some (size_refusal o count) ≡ true → size_refusal o count ≡ Some D86_NO_ROOM
size-small None count h = cc
size-small (Some e) count h = small-is (nat_lt (e.end - e.start) count) h

none-is : (o : Option ℕ) → is_some o ≡ false → o ≡ None
none-is None h = refl
none-is (Some x) h = cc

pub size-large : (o : Option Entry) (count : ℕ) → is_some (size_refusal o count) ≡ false → size_refusal o count ≡ None
size-large o count h = none-is (size_refusal o count) h

room-by : (b : Bool) (start end count : ℕ) → nat_lt (end - start) count ≡ b → cond b (Some D86_NO_ROOM) None ≡ None → 1 ≤ count → start + count ≤ end
room-by true start end count is h some = cc
room-by false start end count is h some = let fits = ltb-false (end - start) count is in omega (arith, fits, some)

none-missing : (b : Bool) (x y : ℕ) → cond b (Some x) (Some y) ≡ None → ⊥
none-missing true x y h = cc
none-missing false x y h = cc

room-at : (image old name : List ℕ) (count : ℕ) (o : Option Entry) → get (catalogue image) old ≡ o → reuse_refusal image old name ≡ None → size_refusal o count ≡ None → 1 ≤ count
    → (e : Entry) → IfSome o (λ was. e ≡ record was { name = name; live = true; program = true }) → e.start + count ≤ e.end
room-at image old name count None is refused fits some e made =
    absurd (none-missing (not (bytes_eq old name) && is_some (get (catalogue image) name)) D83_NAME_PRESENT D82_NO_FILE
    (subst (λ (o : Option Entry). cond (not (bytes_eq old name) && is_some (get (catalogue image) name)) (Some D83_NAME_PRESENT) (old_refusal o (not (bytes_eq old name) && is_none (place image name))) ≡ None) is refused))
room-at image old name count (Some was) is refused fits some e made =
    let start : e.start ≡ was.start = ap (λ (e : Entry). e.start) made in
    let end : e.end ≡ was.end = ap (λ (e : Entry). e.end) made in
    let room = room-by (nat_lt (was.end - was.start) count) was.start was.end count refl fits some in
    omega (arith, start, end, room)

pub room-again : (image old name : List ℕ) (count : ℕ) → reuse_refusal image old name ≡ None → size_refusal (get (catalogue image) old) count ≡ None → 1 ≤ count
    → (e : Entry) → IfSome (get (catalogue image) old) (λ was. e ≡ record was { name = name; live = true; program = true }) → e.start + count ≤ e.end
room-again image old name count refused fits some e made = room-at image old name count (get (catalogue image) old) refl refused fits some e made
