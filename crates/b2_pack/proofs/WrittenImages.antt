-- A text that writes an image is read as its row, and no other text is.
use Rattle.std.proofs.Common.{◌≡◌, ℕ, zero, suc, ◌+◌, ◌≤◌, ◌==◌, ◌&&◌, nat_le, Bool, true, false, List, [], ◌∷◌, ◌++◌, length, drop, Option, Some, None, is_some, sym, ap, ap₂, ◌∙◌, refl, arith, one-add, le-leb, leb-true, eqb-true, eq-eqb, inl, inr, if◌then◌else◌}
use Rattle.std.proofs.lemmas.Bool.{cases_Bool}
use Rattle.std.proofs.lemmas.List.{append-nil, drop_at, length-replicate}
use Rattle.std.specs.List.{prefix_len}
use Rattle.b2_pack.specs.declared.rows.SignNibble.TheVariants.{Absent, Before}
use Rattle.b2_pack.specs.declared.rows.Row.{Row}
use Rattle.b2_dectext.specs.FieldParts.{is_hash, after_sign}
use Rattle.b2_pack.specs.Images.{begins_signed, decimals_in, image_row_of, image_row, sign_mark, marks, decimal_marks}
use Rattle.b2_pack.specs.Laws.{IsImage}

prefix-marks : (n : ℕ) (t : List ℕ) → prefix_len is_hash t ≡ 0 → prefix_len is_hash (marks n ++ t) ≡ n
prefix-marks zero t e = e
prefix-marks (suc n) t e = ap (λ k. 1 + k) (prefix-marks n t e) ∙ one-add n

no-mark : (d : ℕ) → prefix_len is_hash (decimal_marks d) ≡ 0
no-mark zero = refl
no-mark (suc n) = refl

decimals-there : (ms : List ℕ) (k : ℕ) → length ms ≡ k → prefix_len is_hash ms ≡ k → 1 ≤ k → decimals_in (46 ∷ ms) ≡ Some k
decimals-there ms k long count some = rw (long, count, le-leb 1 k some, eq-eqb k k refl) refl

decimals-read : (d : ℕ) → decimals_in (decimal_marks d) ≡ Some d
decimals-read zero = refl
decimals-read (suc n) =
    decimals-there (marks (suc n)) (suc n) (length-replicate (suc n) 35) (ap (prefix_len is_hash) (sym (append-nil (marks (suc n)))) ∙ prefix-marks (suc n) [] refl) (omega arith)

row-read : (signed : Bool) (whole d : ℕ) → 1 ≤ whole → whole + d ≤ 13
    → (let ms : List ℕ = marks whole ++ decimal_marks d in image_row_of signed (prefix_len is_hash ms) (decimals_in (drop (prefix_len is_hash ms) ms)))
    ≡ Some (let r : Row = record { sign = if signed then Before else Absent; digits = whole + d; decimals = d } in r)
row-read signed whole d least most =
    let ms : List ℕ = marks whole ++ decimal_marks d in
    let count : prefix_len is_hash ms ≡ whole = prefix-marks whole (decimal_marks d) (no-mark d) in
    let tail : drop whole ms ≡ decimal_marks d = drop_at (marks whole) (decimal_marks d) whole (length-replicate whole 35) in
    ap (λ n. image_row_of signed n (decimals_in (drop n ms))) count
    ∙ ap (λ t. image_row_of signed whole (decimals_in t)) tail ∙ ap (image_row_of signed whole) (decimals-read d)
    ∙ rw (le-leb 1 whole least, le-leb (whole + d) 13 most) refl

marked : (s : Option Bool) (whole d : ℕ) → 1 ≤ whole → whole + d ≤ 13
    → image_row (sign_mark s ++ (marks whole ++ decimal_marks d)) ≡ Some (let r : Row = record { sign = if is_some s then Before else Absent; digits = whole + d; decimals = d } in r)
marked s zero d least most = absurd (omega arith)
marked None (suc n) d least most = row-read false (suc n) d least most
marked (Some true) (suc n) d least most = row-read true (suc n) d least most
marked (Some false) (suc n) d least most = row-read true (suc n) d least most

pub image-read : (text : List ℕ) (row : Row) → IsImage text row → image_row text ≡ Some row
image-read text row h = ap image_row (sym h.text_is) ∙ marked h.sign h.whole h.decimals h.least h.most ∙ ap Some (sym h.row_is)

-- the other way
prefix-split : (ms : List ℕ) → ms ≡ marks (prefix_len is_hash ms) ++ drop (prefix_len is_hash ms) ms
prefix-split [] = refl
prefix-split (b ∷ bs) =
    elim (cases_Bool (b == 35)) [
      | inl hash ↦ rw (hash, one-add (prefix_len is_hash bs)) (ap₂ (λ c cs. c ∷ cs) (eqb-true b 35 hash) (prefix-split bs))
      | inr other ↦ rw other refl
    ]

both : (a b : Bool) → (a && b) ≡ true → (a ≡ true) × (b ≡ true)
both true b e = (refl, e)
both false b e = absurd (cc)

some_if : (b : Bool) (n d : ℕ) → (if b then Some n else None) ≡ Some d → (b ≡ true) × (n ≡ d)
some_if true n d e = (refl, cc)
some_if false n d e = absurd (cc)

drop_whole : (xs : List ℕ) → drop (length xs) xs ≡ []
drop_whole [] = refl
drop_whole (x ∷ xs) = drop_whole xs

decimals-only : (t : List ℕ) (d : ℕ) → decimals_in t ≡ Some d → t ≡ decimal_marks d
decimals-only [] d e = ap decimal_marks (zero_is d e)
  where
    zero_is : (k : ℕ) → Some 0 ≡ Some k → 0 ≡ k
    zero_is k h = cc
decimals-only (b ∷ ms) d e =
    let found = some_if ((b == 46) && nat_le 1 (length ms) && (prefix_len is_hash ms == length ms)) (length ms) d e in
    let parts = both ((b == 46) && nat_le 1 (length ms)) (prefix_len is_hash ms == length ms) found.0 in
    let first_two = both (b == 46) (nat_le 1 (length ms)) parts.0 in
    let count : prefix_len is_hash ms ≡ length ms = eqb-true _ _ parts.1 in
    let all : ms ≡ marks d =
    prefix-split ms ∙ ap (λ n. marks n ++ drop n ms) count ∙ ap (λ t. marks (length ms) ++ t) (drop_whole ms) ∙ append-nil (marks (length ms)) ∙ ap marks found.1 in
    let some : 1 ≤ length ms = leb-true 1 (length ms) first_two.1 in
    ap₂ (λ c cs. c ∷ cs) (eqb-true b 46 first_two.0) all ∙ some_marks d (omega (arith, found.1))
  where
    some_marks : (k : ℕ) → 1 ≤ k → 46 ∷ marks k ≡ decimal_marks k
    some_marks zero h = absurd (omega arith)
    some_marks (suc k) h = refl

-- a text is its sign and what follows it
record Signed (text : List ℕ) : Type 0 where
  sign : Option Bool
  text_is : sign_mark sign ++ after_sign text ≡ text
  same : is_some sign ≡ begins_signed text

signed-at : (b : ℕ) (bs : List ℕ) → Signed (b ∷ bs)
signed-at b bs =
    elim (cases_Bool (b == 43)) [
      | inl plus ↦ record { sign = Some false; text_is = rw plus (ap (λ c. c ∷ bs) (sym (eqb-true b 43 plus))); same = rw plus refl }
      | inr other ↦ elim (cases_Bool (b == 45)) [
        | inl minus ↦ record { sign = Some true; text_is = rw (other, minus) (ap (λ c. c ∷ bs) (sym (eqb-true b 45 minus))); same = rw (other, minus) refl }
        | inr neither ↦ record { sign = None; text_is = rw (other, neither) refl; same = rw (other, neither) refl }
      ]
    ]

signed_text : (text : List ℕ) → Signed text
signed_text [] = record { sign = None; text_is = refl; same = refl }
signed_text (b ∷ bs) = signed-at b bs

row_if : (b : Bool) (r row : Row) → (if b then Some r else None) ≡ Some row → (b ≡ true) × (row ≡ r)
row_if true r row e = (refl, cc)
row_if false r row e = absurd (cc)

row-only : (text : List ℕ) (row : Row) (o : Option ℕ) → decimals_in (drop (prefix_len is_hash (after_sign text)) (after_sign text)) ≡ o
    → image_row_of (begins_signed text) (prefix_len is_hash (after_sign text)) o ≡ Some row → IsImage text row
row-only text row None there e = absurd (cc)
row-only text row (Some d) there e =
    let ms : List ℕ = after_sign text in
    let n : ℕ = prefix_len is_hash ms in
    let found = row_if (nat_le 1 n && nat_le (n + d) 13) _ row e in
    let range = both (nat_le 1 n) (nat_le (n + d) 13) found.0 in
    let s = signed_text text in
    record {
      sign = s.sign;
      whole = n;
      decimals = d;
      least = leb-true 1 n range.0;
      most = leb-true (n + d) 13 range.1;
      text_is = ap (λ t. sign_mark s.sign ++ (marks n ++ t)) (sym (decimals-only (drop n ms) d there)) ∙ ap (λ t. sign_mark s.sign ++ t) (sym (prefix-split ms)) ∙ s.text_is;
      row_is = found.1 ∙ ap (λ signed. let r : Row = record { sign = if signed then Before else Absent; digits = n + d; decimals = d } in r) (sym s.same);
    }

pub image-only : (text : List ℕ) (row : Row) → image_row text ≡ Some row → IsImage text row
image-only text row e = row-only text row _ refl e
