-- The unit of a number, found by walking to it along its line.
use Rattle.std.proofs.Common.{◌≡◌, ℕ, suc, ◌+◌, ◌-◌, ◌<◌, ◌≤◌, ◌==◌, Bool, true, false, List, [], ◌∷◌, length, take, refl, sym, ap, ◌∙◌, arith, Option, Some, None}
use Rattle.std.specs.Prelude.{slice_get}
use Rattle.std.specs.Option.{option_map}
use Rattle.b2_atom.specs.Words.{Text}
use Rattle.b2_atom.specs.Lines.{LineUnit, leading_unit, units_from, after_unit, next_position, next_text, units_of}
use Rattle.b2_atom.specs.declared.forms.Position.{Position}
use Rattle.b2_atom.specs.declared.forms.Position.TheVariants.{First}
use Rattle.b2_atom.proofs.lines.Units.{next_units, last_unit}

abbrev unit_bytes : Option LineUnit → Option Text
unit_bytes u = option_map (λ v. v.bytes) u

pub from_first : (line : Text) (k : ℕ) → slice_get (units_from (length line - 0) First line) (k - 0) ≡ slice_get (units_of line) k
unfolding units_of
from_first line k =
    let whole : length line - 0 ≡ length line = omega arith in
    let same : k - 0 ≡ k = omega arith in
    (λ x. slice_get (units_from (whole x) First line) (same x))

-- a unit, whether it is the last one or not
first_of_some : (u : LineUnit) (us vs : List LineUnit) (j : ℕ) → j ≡ 0 → us ≡ u ∷ vs → slice_get us j ≡ Some u
first_of_some u us vs j none is = (λ x. slice_get (is x) (none x))

leads : (n i : ℕ) (p : Position) (t rest : Text) → i < n → rest ≡ after_unit p t → (vs : List LineUnit) × (units_from (n - i) p t ≡ leading_unit p t ∷ vs)
leads n i p t rest h is = by_rest (length rest == 0) refl where
  by_rest : (b : Bool) → (length rest == 0) ≡ b → (vs : List LineUnit) × (units_from (n - i) p t ≡ leading_unit p t ∷ vs)
  by_rest true none = ([], last_unit n i p t rest h is none)
  by_rest false some = (units_from (n - (i + 1)) (next_position rest) (next_text rest), next_units n i p t rest h is some)

pub here : (line : Text) (n i k : ℕ) (p : Position) (t rest bytes : Text) → i < n → rest ≡ after_unit p t → i ≡ k → bytes ≡ take (length t - length rest) t
    → slice_get (units_from (n - i) p t) (k - i) ≡ slice_get (units_of line) k
    → Some bytes ≡ unit_bytes (slice_get (units_of line) k)
here line n i k p t rest bytes h is same cut found =
    let lead = leads n i p t rest h is in
    let none : k - i ≡ 0 = omega arith in
    ap Some (cut ∙ ap (λ (r : Text). take (length t - length r) t) is)
    ∙ sym (ap unit_bytes (first_of_some (leading_unit p t) (units_from (n - i) p t) lead.0 (k - i) none lead.1))
    ∙ ap unit_bytes found

-- after the last one there is none
past_one : (u : LineUnit) (us : List LineUnit) (j m : ℕ) → j ≡ suc m → us ≡ u ∷ [] → slice_get us j ≡ None
past_one u us j m some is = (λ x. slice_get (is x) (some x))

pub gone : (line : Text) (n i k : ℕ) (p : Position) (t rest : Text) → i < n → rest ≡ after_unit p t → i < k → (length rest == 0) ≡ true
    → slice_get (units_from (n - i) p t) (k - i) ≡ slice_get (units_of line) k
    → None ≡ unit_bytes (slice_get (units_of line) k)
gone line n i k p t rest h is before none found =
    let more : k - i ≡ suc (k - (i + 1)) = omega arith in
    sym (ap unit_bytes (past_one (leading_unit p t) (units_from (n - i) p t) (k - i) (k - (i + 1)) more (last_unit n i p t rest h is none)))
    ∙ ap unit_bytes found

-- the walk goes on
past : (u : LineUnit) (us vs : List LineUnit) (j m : ℕ) → j ≡ suc m → us ≡ u ∷ vs → slice_get us j ≡ slice_get vs m
past u us vs j m some is = (λ x. slice_get (is x) (some x))

pub further : (line : Text) (n i k : ℕ) (p q : Position) (t rest next : Text) → i < n → rest ≡ after_unit p t → i < k → (length rest == 0) ≡ false
    → q ≡ next_position rest → next ≡ next_text rest
    → slice_get (units_from (n - i) p t) (k - i) ≡ slice_get (units_of line) k
    → slice_get (units_from (n - (i + 1)) q next) (k - (i + 1)) ≡ slice_get (units_of line) k
further line n i k p q t rest next h is before some placed left found =
    let more : k - i ≡ suc (k - (i + 1)) = omega arith in
    (λ x. slice_get (units_from (n - (i + 1)) (placed x) (left x)) (k - (i + 1)))
    ∙ sym (past (leading_unit p t) (units_from (n - i) p t) (units_from (n - (i + 1)) (next_position rest) (next_text rest)) (k - i) (k - (i + 1)) more (next_units n i p t rest h is some))
    ∙ found

-- where the line is used up
pub none_left : (line : Text) (n i k : ℕ) (p : Position) (t : Text) → n ≤ i
    → slice_get (units_from (n - i) p t) (k - i) ≡ slice_get (units_of line) k
    → None ≡ unit_bytes (slice_get (units_of line) k)
none_left line n i k p t h found =
    let none : n - i ≡ 0 = omega arith in
    ap unit_bytes (sym (ap (λ (m : ℕ). slice_get (units_from m p t) (k - i)) none) ∙ found)
