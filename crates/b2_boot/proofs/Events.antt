-- The events of a line that passes its checks are of the boot, and their counts are in range.
use Rattle.std.proofs.Common.{◌≡◌, ℕ, true, nat_le, List, [], ◌∷◌, ◌++◌, refl, ◌∙◌}
use Rattle.std.specs.List.{list_all}
use Rattle.std.proofs.lemmas.Bool.{and_parts}
use Rattle.std.proofs.lemmas.List.Folds.{list_all-append}
use Rattle.b2_boot.specs.Rows.{is_between}
use Rattle.b2_boot.specs.Boots.{BootState, has_terminal}
use Rattle.b2_boot.specs.Logs.{is_in_range, is_in_boot, events_of, key_events, is_of_boot}
use Rattle.b2_boot.specs.declared.log.Event.{Event}
use Rattle.b2_boot.specs.declared.log_lines.Asked.{Asked}
use Rattle.b2_boot.specs.declared.log_lines.Asked.TheVariants as asked

pub keys_fit : (b : BootState) (t : ℕ) (keys : List ℕ) → has_terminal t b.terminals ≡ true → list_all (is_of_boot b) (key_events t keys) ≡ true
keys_fit b t [] there = refl
keys_fit b t (k ∷ ks) there = rw there (keys_fit b t ks there)

pub events_fit : (b : BootState) (a : Asked) → is_in_range a ≡ true → is_in_boot b a ≡ true → list_all (is_of_boot b) (events_of a) ≡ true
events_fit b (asked.Keys t keys) range there = keys_fit b t keys there
events_fit b (asked.Special t n) range there = rw (there, (and_parts (is_between 1 12 t) (nat_le n 31) range).1) refl
events_fit b (asked.Front t p) range there = rw there refl
events_fit b (asked.Halt p) range there = refl
events_fit b (asked.Reset p) range there = refl
events_fit b (asked.Turn p n) range there = rw (and_parts (is_between 1 16 p) (is_between 1 1000 n) range).1 refl
events_fit b (asked.Rounds n) range there = rw range refl

-- the events of one more line
pub fits_more : (b : BootState) (es : List Event) (a : Asked) → list_all (is_of_boot b) es ≡ true → is_in_range a ≡ true → is_in_boot b a ≡ true → list_all (is_of_boot b) (es ++ events_of a) ≡ true
fits_more b es a before range there = list_all-append (is_of_boot b) es (events_of a) ∙ rw (before, events_fit b a range there) refl
