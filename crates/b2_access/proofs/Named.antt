-- What bytes name is a name of a file, with the blanks at its end.
use Rattle.std.proofs.Common.{◌≡◌, ◌≤◌, ◌-◌, ◌&&◌, ◌==◌, not, nat_le, ℕ, Bool, true, false, if◌then◌else◌, List, [], ◌∷◌, length, replicate, Some, None, IfSome, refl, arith, length-append}
use Rattle.std.proofs.lemmas.Bool.{leb-true}
use Rattle.std.proofs.lemmas.List.{length-replicate}
use Rattle.b2_base.specs.Byte as byte
use Rattle.b2_base.specs.Lexical.{all_printable}
use Rattle.b2_base.specs.Names.{is_name8, name8_of, padded8}
use Rattle.b2_base.proofs.Padding.{padded-is_name8}
use Rattle.b2_access.specs.Touching.{IsName}

second : (a b c : Bool) → (a && b && c) ≡ true → b ≡ true
second true true c h = refl
second true false c h = cc
second false b c h = cc

short : (bytes : List ℕ) → is_name8 bytes ≡ true → length bytes ≤ 8
short [] h = cc
short (b ∷ bs) h = leb-true _ _ (second (not (b == byte.blank)) (nat_le (length (b ∷ bs)) 8) (all_printable (b ∷ bs)) h)

long : (bytes : List ℕ) → length bytes ≤ 8 → length (padded8 bytes) ≡ 8
long bytes h =
    let sum = length-append {A = ℕ} bytes (replicate {A = ℕ} (8 - length bytes) byte.blank) in
    let blanks = length-replicate {A = ℕ} (8 - length bytes) byte.blank in
    omega arith

pub padded-is_name : (bytes : List ℕ) → is_name8 bytes ≡ true → IsName (padded8 bytes)
padded-is_name bytes h = (padded-is_name8 bytes h, long bytes (short bytes h))

pub name_is : (bytes : List ℕ) → IfSome (name8_of bytes) IsName
name_is bytes = by (is_name8 bytes) refl
  where
    by : (b : Bool) → is_name8 bytes ≡ b → IfSome (if b then Some (padded8 bytes) else None) IsName
    by true is = padded-is_name bytes is
    by false is = tt
