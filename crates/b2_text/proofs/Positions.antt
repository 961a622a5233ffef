-- Where the first unit from a place on stands that passes a test.
use Rattle.std.proofs.Common.{◌≡◌, ℕ, zero, suc, ◌+◌, ◌<◌, ◌≤◌, Bool, true, false, cond, List, [], ◌∷◌, length, drop, refl, sym, ap, ◌∙◌, arith, Some, None, slice_get, add-one, drop_of_length-le}
use Rattle.std.specs.Option.{option_map_or}
use Rattle.std.specs.List.{position_from}
use Rattle.b2_atom.specs.Lines.{LineUnit}

step : (test : List ℕ → Bool) (us : List LineUnit) (k i : ℕ) → k < length us
    → position_from (λ u. test u.bytes) i (drop k us)
    ≡ cond (test (option_map_or (λ u. u.bytes) (slice_get us k) [])) (Some i) (position_from (λ u. test u.bytes) (i + 1) (drop (suc k) us))
step test [] k i h = absurd (omega arith)
step test (u ∷ us) zero i h = refl
step test (u ∷ us) (suc k) i h = step test us k i (omega arith)

-- a unit that passes is the first from its place on
pub found_at : (test : List ℕ → Bool) (us : List LineUnit) (k : ℕ) → k < length us → test (option_map_or (λ u. u.bytes) (slice_get us k) []) ≡ true
    → Some k ≡ position_from (λ u. test u.bytes) k (drop k us)
found_at test us k h is =
    sym (step test us k k h ∙ ap (λ (b : Bool). cond b (Some k) (position_from (λ u. test u.bytes) (k + 1) (drop (suc k) us))) is)

-- and one that doesn't is passed by
pub passed_by : (test : List ℕ → Bool) (us : List LineUnit) (k : ℕ) → k < length us → test (option_map_or (λ u. u.bytes) (slice_get us k) []) ≡ false
    → position_from (λ u. test u.bytes) (k + 1) (drop (k + 1) us) ≡ position_from (λ u. test u.bytes) k (drop k us)
passed_by test us k h is =
    ap (λ (m : ℕ). position_from (λ u. test u.bytes) (k + 1) (drop m us)) (add-one k)
    ∙ sym (step test us k k h ∙ ap (λ (b : Bool). cond b (Some k) (position_from (λ u. test u.bytes) (k + 1) (drop (suc k) us))) is)

-- after the last there is none
pub none_behind : (test : List ℕ → Bool) (us : List LineUnit) (k : ℕ) → length us ≤ k → position_from (λ u. test u.bytes) k (drop k us) ≡ None
none_behind test us k h = ap (λ (vs : List LineUnit). position_from (λ u. test u.bytes) k vs) (drop_of_length-le us h)
