-- Slots and control sectors as they are written, and what is read from them.
use Rattle.std.proofs.Common.{◌≡◌, ℕ, ◌+◌, ◌*◌, ◌/◌, ◌%◌, ◌<◌, ◌≤◌, Bool, true, false, ◌||◌, ◌==◌, List, [], ◌∷◌, ◌++◌, length, take, drop, replicate, refl, arith, append-nil}
use Rattle.b2_platter.specs.declared.layout.Layout.{Layout}
use Rattle.b2_platter.specs.declared.layout.Layout.TheVariants.{Narrow, Wide}
use Rattle.b2_platter.specs.Edits.{sector_number_bytes}
use Rattle.std.proofs.lemmas.Bool.{and_from, le-leb}
use Rattle.b2_base.specs.Names.{is_name8}
use Rattle.std.specs.Prelude.{nat_le, slice_index}
use Rattle.std.specs.List.{list_all}
use Rattle.b2_platter.specs.Layout.{width_of, second_place, third_place, used_end, number_limit, is_zero}
use Rattle.b2_platter.specs.Slot.{is_free, is_gone, is_live, is_entry, is_program, has_kind, slot_start, slot_end, slot_name, is_spelled}
use Rattle.b2_platter.specs.Checks.{used_of, is_control}
use Rattle.b2_catalog.specs.Changes.{kind_of, file_slot, scratched_slot, gone_slot, control_sector}

pub slot_made : (layout : Layout) (program : Bool) (kind start end place : ℕ) (name x y z : List ℕ) → kind ≡ kind_of program → place ≡ second_place layout → x ≡ take 2 (16 ∷ kind ∷ replicate 14 0) ++ (sector_number_bytes layout start ++ drop (2 + width_of layout) (16 ∷ kind ∷ replicate 14 0)) → y ≡ take place x ++ (sector_number_bytes layout end ++ drop (place + width_of layout) x) → z ≡ name → take 8 y ++ (z ++ drop 8 (drop 8 y)) ≡ file_slot layout program start end name
unfolding file_slot
slot_made Narrow program kind start end place name x y z ek ep ex ey ez = rw (ez, ey, ex, ep, ek, append-nil name) refl
slot_made Wide program kind start end place name x y z ek ep ex ey ez = rw (ez, ey, ex, ep, ek, append-nil name) refl

pub control_made : (layout : Layout) (used : ℕ) (x : List ℕ) → x ≡ take 1 (161 ∷ replicate 255 0) ++ (sector_number_bytes layout used ++ drop (used_end layout) (161 ∷ replicate 255 0)) → x ≡ control_sector layout used
unfolding control_sector
control_made Narrow used x ex = ex
control_made Wide used x ex = ex

two_bytes : (n : ℕ) → n < 65536 → n / 256 % 256 * 256 + (n % 256 * 1 + 0) ≡ n
two_bytes n h = omega arith

three_bytes : (n : ℕ) → n < 16777216 → n / 65536 % 256 * 65536 + (n / 256 % 256 * 256 + (n % 256 * 1 + 0)) ≡ n
three_bytes n h = omega arith

-- what is read from the slot of a live file
pub record SaysFile (layout : Layout) (slot : List ℕ) (p : Bool) (s e : ℕ) (n : List ℕ) : Type 0 where
  pub long : length slot ≡ 16
  pub entry : is_entry slot ≡ true
  pub taken : is_free slot ≡ false
  pub live : is_live slot ≡ true
  pub program : is_program slot ≡ p
  pub start : slot_start layout slot ≡ s
  pub end : slot_end layout slot ≡ e
  pub name : slot_name slot ≡ n
  pub spelled : is_spelled layout slot ≡ true

kind_is_program : (p : Bool) → (kind_of p == 80) ≡ p
kind_is_program true = refl
kind_is_program false = refl

kind_is_one : (p : Bool) → ((kind_of p == 80) || (kind_of p == 68)) ≡ true
kind_is_one true = refl
kind_is_one false = refl

pub says_file : (layout : Layout) (p : Bool) (s e : ℕ) (n : List ℕ) → s < number_limit layout → e < number_limit layout → length n ≡ 8 → is_name8 n ≡ true → SaysFile layout (file_slot layout p s e n) p s e n
unfolding file_slot is_entry is_free is_live is_program slot_start slot_end slot_name is_spelled has_kind is_gone
says_file Narrow p s e n hs he long legal =
    record {
      long = let short : length n ≡ 8 = long in omega arith;
      entry = refl;
      taken = refl;
      live = refl;
      program = kind_is_program p;
      start = two_bytes s hs;
      end = two_bytes e he;
      name = refl;
      spelled = and_from _ _ (and_from _ _ (kind_is_one p) refl) legal;
    }
says_file Wide p s e n hs he long legal =
    record {
      long = let short : length n ≡ 8 = long in omega arith;
      entry = refl;
      taken = refl;
      live = refl;
      program = kind_is_program p;
      start = three_bytes s hs;
      end = three_bytes e he;
      name = refl;
      spelled = and_from _ _ (and_from _ _ (kind_is_one p) refl) legal;
    }

-- what is read from a scratched slot
pub record SaysScratched (layout : Layout) (slot was : List ℕ) : Type 0 where
  pub long : length slot ≡ 16
  pub entry : is_entry slot ≡ true
  pub taken : is_free slot ≡ false
  pub dead : is_live slot ≡ false
  pub program : is_program slot ≡ is_program was
  pub start : slot_start layout slot ≡ slot_start layout was
  pub end : slot_end layout slot ≡ slot_end layout was
  pub name : slot_name slot ≡ slot_name was
  pub spelled : is_entry was ≡ true → is_spelled layout was ≡ true → is_spelled layout slot ≡ true

-- only the status of a slot differs
end_like : (layout : Layout) (x y : ℕ) (xs : List ℕ) → slot_end layout (x ∷ xs) ≡ slot_end layout (y ∷ xs)
unfolding slot_end
end_like Narrow x y xs = refl
end_like Wide x y xs = refl

gap_like : (layout : Layout) (x y : ℕ) (xs : List ℕ) → drop (third_place layout) (take 8 (x ∷ xs)) ≡ drop (third_place layout) (take 8 (y ∷ xs))
gap_like Narrow x y xs = refl
gap_like Wide x y xs = refl

pub says_scratched : (layout : Layout) (was : List ℕ) → length was ≡ 16 → SaysScratched layout (scratched_slot was) was
unfolding scratched_slot is_entry is_free is_live is_program slot_start slot_name is_spelled has_kind is_gone
says_scratched layout [] long = absurd (omega arith)
says_scratched layout (x ∷ xs) long =
    record {
      long = long;
      entry = refl;
      taken = refl;
      dead = refl;
      program = refl;
      start = refl;
      end = end_like layout 17 x xs;
      name = refl;
      spelled = λ e h. rw (gap_like layout 17 x xs) (rw e at h);
    }

-- a gone slot is no file's, and not free
pub gone_no_entry : is_entry gone_slot ≡ false
unfolding gone_slot is_entry
gone_no_entry = refl

pub gone_taken : is_free gone_slot ≡ false
unfolding gone_slot is_free
gone_taken = refl

pub gone_spelled : (layout : Layout) → is_spelled layout gone_slot ≡ true
unfolding gone_slot is_spelled is_entry is_free is_gone
gone_spelled layout = refl

pub gone_long : length gone_slot ≡ 16
unfolding gone_slot
gone_long = refl

-- what is read from a control sector
pub control_used : (layout : Layout) (used : ℕ) → used < number_limit layout → used_of layout (control_sector layout used) ≡ used
unfolding control_sector used_of
control_used Narrow used h = two_bytes used h
control_used Wide used h = three_bytes used h

control_first : (layout : Layout) (used : ℕ) → (slice_index (control_sector layout used) 0 == 161) ≡ true
unfolding control_sector
control_first layout used = refl

control_rest : (layout : Layout) (used : ℕ) → list_all is_zero (drop (used_end layout) (control_sector layout used)) ≡ true
unfolding control_sector
control_rest Narrow used = refl
control_rest Wide used = refl

pub control_spelled : (layout : Layout) (used most : ℕ) → used < number_limit layout → 1 ≤ used → used ≤ most → is_control layout most (control_sector layout used) ≡ true
unfolding is_control
control_spelled layout used most h some few =
    let is = control_used layout used h in
    let low : nat_le 1 (used_of layout (control_sector layout used)) ≡ true = le-leb _ _ (omega (arith, is)) in
    let high : nat_le (used_of layout (control_sector layout used)) most ≡ true = le-leb _ _ (omega (arith, is)) in
    and_from _ _ (and_from _ _ (and_from _ _ (control_first layout used) low) high) (control_rest layout used)

pub control_long : (layout : Layout) (used : ℕ) → length (control_sector layout used) ≡ 256
unfolding control_sector
control_long Narrow used = refl
control_long Wide used = refl
