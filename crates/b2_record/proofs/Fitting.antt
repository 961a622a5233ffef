-- What is given of the values of a record that was read, by whether they are of the kinds that are asked.
use Rattle.std.proofs.Common.{◌≡◌, ℕ, ◌+◌, ◌<◌, ◌≤◌, Bool, true, false, not, nat_lt, if◌then◌else◌, List, length, take, Option, Some, None, Result, Ok, Err, refl, sym, ap, le-ltb, lt-ltb}
use Rattle.std.proofs.lemmas.Bool.{ltb-false}
use Rattle.b2_base.specs.declared.codes.TheConstants.{X70_TOO_LITTLE, X74_OTHER_KIND}
use Rattle.b2_dec.specs.declared.values.Kind.{Kind}
use Rattle.b2_dec.specs.declared.values.Value.{Value}
use Rattle.b2_record.specs.Asking.{agree, first_asked}

pub all-fit : (kinds : List Kind) (pos n : ℕ) (values : List Value) → agree kinds values ≡ true → length kinds ≤ length values → first_asked kinds pos (Some (values, n)) ≡ Ok (Some (take (length kinds) values, pos + n))
all-fit kinds pos n values fit enough = rw (fit, le-ltb (length values) (length kinds) enough) refl

pub other-kind : (kinds : List Kind) (pos n : ℕ) (values : List Value) → agree kinds values ≡ false → first_asked kinds pos (Some (values, n)) ≡ Err X74_OTHER_KIND
other-kind kinds pos n values other = rw other refl

pub too-few : (kinds : List Kind) (pos n : ℕ) (values : List Value) → agree kinds values ≡ true → length values < length kinds → first_asked kinds pos (Some (values, n)) ≡ Err X70_TOO_LITTLE
too-few kinds pos n values fit few = rw (fit, lt-ltb (length values) (length kinds) few) refl

-- and where some are given, they are the first of a record that was read
pub record FirstOf (kinds : List Kind) (pos : ℕ) (r : Option (List Value × ℕ)) (found : List Value × ℕ) : Type 0 where
  pub read : List Value × ℕ
  pub was : r ≡ Some read
  pub fit : agree kinds read.0 ≡ true
  pub enough : length kinds ≤ length read.0
  pub first_ones : found.0 ≡ take (length kinds) read.0
  pub after : found.1 ≡ pos + read.1

module _ (kinds : List Kind) (pos : ℕ) where
  abbrev asked-of : List Value × ℕ → Result (Option (List Value × ℕ)) ℕ
  asked-of read = Ok (Some (take (length kinds) read.0, pos + read.1))

  pub given-some : (r : Option (List Value × ℕ)) (found : List Value × ℕ) → first_asked kinds pos r ≡ Ok (Some found) → FirstOf kinds pos r found
  given-some None found h = cc
  given-some (Some read) found h = by_kinds (agree kinds read.0) refl h
    where
      by_count : (b : Bool) → nat_lt (length read.0) (length kinds) ≡ b → agree kinds read.0 ≡ true → (if b then Err X70_TOO_LITTLE else asked-of read) ≡ Ok (Some found) → FirstOf kinds pos (Some read) found
      by_count true few fit h = cc
      by_count false few fit h =
          let same : (take (length kinds) read.0, pos + read.1) ≡ found = cc in
          record {
            read = read;
            was = refl;
            fit = fit;
            enough = ltb-false (length read.0) (length kinds) few;
            first_ones = sym (ap (λ (f : List Value × ℕ). f.0) same);
            after = sym (ap (λ (f : List Value × ℕ). f.1) same);
          }

      by_kinds : (b : Bool) → agree kinds read.0 ≡ b → (if not b then Err X74_OTHER_KIND else (if nat_lt (length read.0) (length kinds) then Err X70_TOO_LITTLE else asked-of read)) ≡ Ok (Some found) → FirstOf kinds pos (Some read) found
      by_kinds true fit h = by_count (nat_lt (length read.0) (length kinds)) refl fit h
      by_kinds false fit h = cc
