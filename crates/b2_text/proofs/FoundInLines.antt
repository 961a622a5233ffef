-- What is found in lines in order is there, at its spot.
use Rattle.std.proofs.Common.{◌≡◌, ℕ, zero, suc, ◌+◌, ◌<◌, ◌==◌, nat_lt, Bool, true, false, if◌then◌else◌, List, [], ◌∷◌, drop, refl, ap, ◌∙◌, arith, Option, Some, None, IfSome, option_map, slice_get, find, nat_cmp, Less, is_eq, add-one}
use Rattle.std.proofs.lemmas.Bool.{cond-true, cond-false, cond_both}
use Rattle.std.proofs.lemmas.Bool.Decides.{nat_tests}
use Rattle.std.proofs.lemmas.Option.{IfSome_then}
use Rattle.std.specs.Option.{option_map_or}
use Rattle.std.specs.List.{AllByRecursion, position_from}
use Rattle.std.specs.List.Sorted.{IsStrictlySortedBy}
use Rattle.std.specs.Map.{keys_of}
use Rattle.b2_atom.specs.Lines.{LineUnit, units_of}
use Rattle.b2_text.specs.Program.{Lines, line_at}
use Rattle.b2_text.specs.Spots.{unit_of, unit_at, is_data, first_opening, data_in, data_of, data_from, or_else}
use Rattle.b2_text.specs.declared.spots.Spot.{Spot}
use Rattle.b2_text.proofs.Ranges.{at_it, itself}
use Rattle.b2_text.proofs.Sizes.{less}

-- a spot's line is there, and its unit passes
record IsThere (test : List ℕ → Bool) (lines : Lines) (spot : Spot) : Type 0 where
  atoms : List ℕ
  line : line_at spot.line lines ≡ Some atoms
  passes : test (unit_of spot.unit atoms) ≡ true

unit_passes : (test : List ℕ → Bool) (lines : Lines) (spot : Spot) → IsThere test lines spot → test (unit_at spot lines) ≡ true
unit_passes test lines spot h = ap (λ (o : Option (List ℕ)). test (option_map_or (unit_of spot.unit) o [])) h.line ∙ h.passes

-- the first of lines is the one of its number
in_first : (test : List ℕ → Bool) (l : ℕ × List ℕ) (ls : Lines) (k : ℕ) → test (unit_of k l.1) ≡ true → IsThere test (l ∷ ls) (record { line = l.0; unit = k })
in_first test l ls k is = record {
  atoms = l.1;
  line = cond-true (is_eq (nat_cmp l.0 l.0)) (Some l.1) (line_at l.0 ls) (itself l.0 l.0 refl);
  passes = is;
}

-- the number of a line is above each that is below all lines
pub above : (m n : ℕ) (a : List ℕ) (ls : Lines) → AllByRecursion (λ y. nat_cmp m y ≡ Less) (keys_of ls) → line_at n ls ≡ Some a → m < n
above m n a [] all h = absurd (grind arith)
above m n a (l ∷ ls) all h =
    cond_both (is_eq (nat_cmp n l.0)) (Some l.1) (line_at n ls) (λ (o : Option (List ℕ)). o ≡ Some a → m < n)
    (λ here _. let is = at_it n l.0 here in let first = less m l.0 all.0 in omega (arith, is, first))
    (λ _. above m n a ls all.1)
    h

pub other : (n m : ℕ) → m < n → is_eq (nat_cmp n m) ≡ false
other n m h = grind (arith, nat_tests)

-- so what is there in lines is there after a lower one too
in_rest : (test : List ℕ → Bool) (l : ℕ × List ℕ) (ls : Lines) → IsStrictlySortedBy nat_cmp (keys_of (l ∷ ls)) → (spot : Spot) → IsThere test ls spot → IsThere test (l ∷ ls) spot
unfolding IsStrictlySortedBy
in_rest test l ls ordered spot h = record {
  atoms = h.atoms;
  line = cond-false (is_eq (nat_cmp spot.line l.0)) (Some l.1) (line_at spot.line ls) (other spot.line l.0 (above l.0 spot.line h.atoms ls ordered.0 h.line)) ∙ h.line;
  passes = h.passes;
}

-- the lowest line whose first unit passes
opening_is : (test : List ℕ → Bool) (lines : Lines) → IsStrictlySortedBy nat_cmp (keys_of lines) → IfSome (first_opening test lines) (IsThere test lines)
unfolding IsStrictlySortedBy
opening_is test [] ordered = tt
opening_is test (l ∷ ls) ordered =
    cond_both (test (unit_of 0 l.1)) (Some l) (find (λ (k : ℕ × List ℕ). test (unit_of 0 k.1)) ls)
    (λ (o : Option (ℕ × List ℕ)). IfSome (option_map {U = Spot} (λ k. record { line = k.0; unit = 0 }) o) (IsThere test (l ∷ ls)))
    (in_first test l ls 0)
    (λ _. IfSome_then (first_opening test ls) (opening_is test ls ordered.1) (in_rest test l ls ordered))

pub opening_there : (test : List ℕ → Bool) (lines : Lines) → IsStrictlySortedBy nat_cmp (keys_of lines)
    → IfSome (first_opening test lines) (λ spot. test (unit_at spot lines) ≡ true)
opening_there test lines ordered = IfSome_then (first_opening test lines) (opening_is test lines ordered) (unit_passes test lines)

-- a unit from a place on stands at its own place among all
unit_here : (us : List LineUnit) (i : ℕ) (v : LineUnit) (vs : List LineUnit) → drop i us ≡ v ∷ vs → slice_get us i ≡ Some v
unit_here us zero v vs h = ap (λ (ws : List LineUnit). slice_get ws 0) h
unit_here [] (suc i) v vs h = absurd (grind arith)
unit_here (u ∷ us) (suc i) v vs h = unit_here us i v vs h

units_after : (us : List LineUnit) (i : ℕ) (v : LineUnit) (vs : List LineUnit) → drop i us ≡ v ∷ vs → drop (suc i) us ≡ vs
units_after us zero v vs h = ap (drop 1) h
units_after [] (suc i) v vs h = absurd (grind arith)
units_after (u ∷ us) (suc i) v vs h = units_after us i v vs h

-- the first DATA of a line
position_is : (us : List LineUnit) (i : ℕ) (vs : List LineUnit) → drop i us ≡ vs
    → IfSome (position_from (λ u. is_data u.bytes) i vs) (λ k. is_data (option_map_or (λ u. u.bytes) (slice_get us k) []) ≡ true)
position_is us i [] h = tt
position_is us i (v ∷ vs) h =
    cond_both (is_data v.bytes) (Some i) (position_from (λ u. is_data u.bytes) (i + 1) vs)
    (λ (o : Option ℕ). IfSome o (λ k. is_data (option_map_or (λ u. u.bytes) (slice_get us k) []) ≡ true))
    (λ is. ap (λ (o : Option LineUnit). is_data (option_map_or (λ u. u.bytes) o [])) (unit_here us i v vs h) ∙ is)
    (λ _. position_is us (i + 1) vs (ap (λ (m : ℕ). drop m us) (add-one i) ∙ units_after us i v vs h))

data_in_is : (from : ℕ) (atoms : List ℕ) → IfSome (data_in from atoms) (λ k. is_data (unit_of k atoms) ≡ true)
data_in_is from atoms = position_is (units_of atoms) from (drop from (units_of atoms)) refl

-- the first DATA of a line at or after a spot
in_line : (P : Spot → Type 0) (b : Bool) (n : ℕ) (o : Option ℕ) → IfSome o (λ k. P (record { line = n; unit = k }))
    → IfSome (if b then None else option_map {U = Spot} (λ k. record { line = n; unit = k }) o) P
in_line P true n o h = tt
in_line P false n None h = tt
in_line P false n (Some k) h = h

data_of_is : (from : Spot) (l : ℕ × List ℕ) (ls : Lines) → IfSome (data_of from l) (IsThere is_data (l ∷ ls))
data_of_is from l ls =
    let start = if l.0 == from.line then from.unit else 0 in
    in_line (IsThere is_data (l ∷ ls)) (nat_lt l.0 from.line) l.0 (data_in start l.1) (IfSome_then (data_in start l.1) (data_in_is start l.1) (in_first is_data l ls))

-- the first DATA at or after a spot
either : (P : Spot → Type 0) (o p : Option Spot) → IfSome o P → IfSome p P → IfSome (or_else o p) P
either P None p ho hp = hp
either P (Some s) p ho hp = ho

data_is : (from : Spot) (lines : Lines) → IsStrictlySortedBy nat_cmp (keys_of lines) → IfSome (data_from from lines) (IsThere is_data lines)
unfolding IsStrictlySortedBy
data_is from [] ordered = tt
data_is from (l ∷ ls) ordered =
    either (IsThere is_data (l ∷ ls)) (data_of from l) (data_from from ls)
    (data_of_is from l ls)
    (IfSome_then (data_from from ls) (data_is from ls ordered.1) (in_rest is_data l ls ordered))

pub data_there : (from : Spot) (lines : Lines) → IsStrictlySortedBy nat_cmp (keys_of lines)
    → IfSome (data_from from lines) (λ spot. is_data (unit_at spot lines) ≡ true)
data_there from lines ordered = IfSome_then (data_from from lines) (data_is from lines ordered) (unit_passes is_data lines)
