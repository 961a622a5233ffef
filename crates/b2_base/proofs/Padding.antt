-- A name that is padded with blanks is a name still.
use Rattle.std.proofs.Common.{◌≡◌, ℕ, ◌-◌, ◌≤◌, zero, suc, List, [], ◌∷◌, ◌++◌, Bool, true, false, ◌&&◌, ◌==◌, not, nat_le, length, replicate, refl, ap, ◌∙◌, arith, length-append}
use Rattle.std.proofs.lemmas.Bool.{leb-true, le-leb}
use Rattle.std.specs.List.{list_all}
use Rattle.std.proofs.lemmas.List.{length-replicate}
use Rattle.std.proofs.lemmas.List.Folds.{list_all-append}
use Rattle.b2_base.specs.Lexical.{is_printable}
use Rattle.b2_base.specs.Names.{is_name8, padded8}

blanks : (n : ℕ) → list_all is_printable (replicate n 32) ≡ true
blanks zero = refl
blanks (suc n) = blanks n

both : (a b c : Bool) → (a && b && c) ≡ true → (b ≡ true) × (c ≡ true)
both true true true h = (refl, refl)
both true true false h = cc
both true false c h = cc
both false b c h = cc

joined : (a b c d e : Bool) → (a && b && c) ≡ true → d ≡ true → e ≡ true → (a && d && (c && e)) ≡ true
joined true true true true true h k l = refl
joined true true true true false h k l = cc
joined true true true false e h k l = cc
joined true true false d e h k l = cc
joined true false c d e h k l = cc
joined false b c d e h k l = cc

room : (bs : List ℕ) → length bs ≤ 8 → length (bs ++ replicate (8 - length bs) 32) ≤ 8
room bs h =
    let sum = length-append {A = ℕ} bs (replicate {A = ℕ} (8 - length bs) 32) in
    let blank = length-replicate {A = ℕ} (8 - length bs) 32 in
    omega arith

short : (bs : List ℕ) → nat_le (length bs) 8 ≡ true → nat_le (length (bs ++ replicate (8 - length bs) 32)) 8 ≡ true
short bs h = le-leb _ _ (room bs (leb-true _ _ h))

pub padded-is_name8 : (name : List ℕ) → is_name8 name ≡ true → is_name8 (padded8 name) ≡ true
padded-is_name8 [] h = cc
padded-is_name8 (b ∷ bs) h =
    let parts = both (not (b == 32)) (nat_le (length (b ∷ bs)) 8) (list_all is_printable (b ∷ bs)) h in
    ap (λ (e : Bool). not (b == 32) && nat_le (length (padded8 (b ∷ bs))) 8 && e) (list_all-append is_printable (b ∷ bs) (replicate (8 - length (b ∷ bs)) 32))
    ∙ joined (not (b == 32)) (nat_le (length (b ∷ bs)) 8) (list_all is_printable (b ∷ bs)) _ _ h (short (b ∷ bs) parts.0) (blanks (8 - length (b ∷ bs)))
