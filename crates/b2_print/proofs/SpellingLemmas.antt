-- The pieces of an image are what it is written of.
use Rattle.std.proofs.Common.{◌≡◌, ℕ, zero, suc, ◌+◌, ◌<◌, ◌==◌, Bool, true, false, cond, if◌then◌else◌, List, [], ◌∷◌, ◌++◌, length, take, drop, replicate, refl, sym, ap, ◌∙◌, append_assoc, eqb-true, arith, length-append, Option, Some, None}
use Rattle.std.specs.List.{prefix_len, take_while, flat_map}
use Rattle.std.specs.Option.{IfSome}
use Rattle.std.proofs.lemmas.List.{take-append-drop, drop_at, length-replicate}
use Rattle.b2_base.specs.Byte as byte
use Rattle.b2_base.specs.Lexical.{first}
use Rattle.b2_dectext.specs.declared.field_parts.Sign.{Sign}
use Rattle.b2_dectext.specs.declared.field_parts.Sign.TheVariants.{Unsigned, Always, Negative}
use Rattle.b2_dectext.specs.FieldParts.{sign_bytes, is_hash, leading_sign, after_sign}
use Rattle.b2_print.specs.Images.{Field, dollar_bytes, point_bytes, point_width, field_bytes, field_width, is_place, after_dollar, decimals_of, field_at, piece_of, width_after_first, further_pieces, pieces_of, piece_bytes}
use Rattle.b2_print.proofs.ImageLemmas.{field-some, drop-first}

-- a number of `#` and what follows them
hash_count-spelled : (text : List ℕ) → replicate (prefix_len is_hash text) 35 ++ drop (prefix_len is_hash text) text ≡ text
hash_count-spelled [] = refl
hash_count-spelled (c ∷ cs) = by_first (hash_count-spelled cs) (c == 35) refl
  where
    by_first : replicate (prefix_len is_hash cs) 35 ++ drop (prefix_len is_hash cs) cs ≡ cs → (test : Bool) → (c == 35) ≡ test → replicate (cond test (1 + prefix_len is_hash cs) 0) 35 ++ drop (cond test (1 + prefix_len is_hash cs) 0) (c ∷ cs) ≡ c ∷ cs
    by_first more true e =
        let n = prefix_len is_hash cs in
        let next : 1 + n ≡ suc n = omega arith in
        ap (λ k. replicate k 35 ++ drop k (c ∷ cs)) next ∙ ap (λ t. 35 ∷ t) more ∙ ap (λ b. b ∷ cs) (sym (eqb-true c 35 e))
    by_first more false e = refl

sign-spelled : (text : List ℕ) → sign_bytes (leading_sign text) ++ after_sign text ≡ text
sign-spelled [] = refl
sign-spelled (b ∷ bs) = by_tests (b == 43) refl (b == 45) refl
  where
    by_tests : (p : Bool) → (b == 43) ≡ p → (m : Bool) → (b == 45) ≡ m →
        sign_bytes (if p then Always else (if m then Negative else Unsigned)) ++ drop (length (sign_bytes (if p then Always else (if m then Negative else Unsigned)))) (b ∷ bs) ≡ b ∷ bs
    by_tests true e m d = ap (λ t. t ∷ bs) (sym (eqb-true b 43 e))
    by_tests false e true d = ap (λ t. t ∷ bs) (sym (eqb-true b 45 d))
    by_tests false e false d = refl

dollar-spelled : (text : List ℕ) → dollar_bytes (first text == byte.dollar) ++ after_dollar text ≡ text
dollar-spelled [] = refl
dollar-spelled (b ∷ bs) = by_test (b == 36) refl
  where
    by_test : (p : Bool) → (b == 36) ≡ p → dollar_bytes p ++ drop (length (dollar_bytes p)) (b ∷ bs) ≡ b ∷ bs
    by_test true e = ap (λ t. t ∷ bs) (sym (eqb-true b 36 e))
    by_test false e = refl

point_of_marks : (b : ℕ) (bs : List ℕ) (n : ℕ) → b ≡ 46 → replicate n 35 ++ drop n bs ≡ bs → point_bytes n ++ drop (point_width n) (b ∷ bs) ≡ b ∷ bs
point_of_marks b bs zero e h = refl
point_of_marks b bs (suc m) e h =
    let wide : m + 2 ≡ suc (suc m) = omega arith in
    ap (λ k. point_bytes (suc m) ++ drop k (b ∷ bs)) wide ∙ ap (λ t. 46 ∷ t) h ∙ ap (λ t. t ∷ bs) (sym e)

point-spelled : (text : List ℕ) → point_bytes (decimals_of text) ++ drop (point_width (decimals_of text)) text ≡ text
point-spelled [] = refl
point-spelled (b ∷ bs) = by_test (b == 46) refl
  where
    by_test : (p : Bool) → (b == 46) ≡ p →
        point_bytes (if p then prefix_len is_hash bs else 0) ++ drop (point_width (if p then prefix_len is_hash bs else 0)) (b ∷ bs) ≡ b ∷ bs
    by_test true e = point_of_marks b bs (prefix_len is_hash bs) (eqb-true b 46 e) (hash_count-spelled bs)
    by_test false e = refl

length-point_bytes : (n : ℕ) → length (point_bytes n) ≡ point_width n
length-point_bytes zero = refl
length-point_bytes (suc n) = ap (λ (t : ℕ). suc t) (length-replicate (suc n) 35) ∙ omega arith

pub length-field_bytes : (f : Field) → length (field_bytes f) ≡ field_width f
length-field_bytes f =
    let s = sign_bytes f.sign in
    let d = dollar_bytes f.dollar in
    let p = point_bytes f.decimals in
    omega (arith, length-append (s ++ d ++ f.whole) p, length-append (s ++ d) f.whole, length-append s d, length-point_bytes f.decimals)

-- a text that begins with a field's bytes
begins-with : (f : Field) (text rest : List ℕ) → field_bytes f ++ rest ≡ text → field_bytes f ++ drop (field_width f) text ≡ text
begins-with f text rest e =
    let left : drop (field_width f) text ≡ rest = ap (drop (field_width f)) (sym e) ∙ drop_at (field_bytes f) rest (field_width f) (length-field_bytes f) in
    ap (λ t. field_bytes f ++ t) left ∙ e

joined : (s d w p r : List ℕ) → (((s ++ d) ++ w) ++ p) ++ r ≡ s ++ (d ++ (w ++ (p ++ r)))
joined s d w p r = simp append_assoc

places-spelled : (text t1 t2 : List ℕ) (sign : Sign) (dollar : Bool) (test : Bool) → sign_bytes sign ++ t1 ≡ text → dollar_bytes dollar ++ t2 ≡ t1 →
    IfSome (if test then Some (record { sign = sign; dollar = dollar; whole = take_while is_place t2; decimals = decimals_of (drop (prefix_len is_place t2) t2) }) else None)
    (λ f. field_bytes f ++ drop (field_width f) text ≡ text)
places-spelled text t1 t2 sign dollar false e1 e2 = tt
places-spelled text t1 t2 sign dollar true e1 e2 =
    let n = prefix_len is_place t2 in
    let t3 : List ℕ = drop n t2 in
    let f : Field = record { sign = sign; dollar = dollar; whole = take n t2; decimals = decimals_of t3 } in
    let t4 : List ℕ = drop (point_width (decimals_of t3)) t3 in
    begins-with f text t4
    (joined (sign_bytes sign) (dollar_bytes dollar) (take n t2) (point_bytes (decimals_of t3)) t4
    ∙ ap (λ t. sign_bytes sign ++ (dollar_bytes dollar ++ (take n t2 ++ t))) (point-spelled t3)
    ∙ ap (λ t. sign_bytes sign ++ (dollar_bytes dollar ++ t)) (take-append-drop n t2)
    ∙ ap (λ t. sign_bytes sign ++ t) e2 ∙ e1)

pub field-spelled : (text : List ℕ) → IfSome (field_at text) (λ f. field_bytes f ++ drop (field_width f) text ≡ text)
unfolding field_at
field-spelled text =
    let t1 = after_sign text in
    places-spelled text t1 (after_dollar t1) (leading_sign text) (first t1 == byte.dollar) (first (after_dollar t1) == byte.number_sign) (sign-spelled text) (dollar-spelled t1)

piece-spelled : (b : ℕ) (bs : List ℕ) (o : Option Field) → field_at (b ∷ bs) ≡ o → piece_bytes (piece_of b o) ++ drop (width_after_first o) bs ≡ b ∷ bs
piece-spelled b bs None e = refl
piece-spelled b bs (Some f) e =
    let some : 0 < field_width f = rw e at (field-some (b ∷ bs)) in
    let whole : field_bytes f ++ drop (field_width f) (b ∷ bs) ≡ b ∷ bs = rw e at (field-spelled (b ∷ bs)) in
    ap (λ t. field_bytes f ++ t) (sym (drop-first (field_width f) b bs some)) ∙ whole

further_pieces-spelled : (text : List ℕ) (n : ℕ) → flat_map piece_bytes (further_pieces n text) ≡ drop n text
unfolding further_pieces
further_pieces-spelled [] zero = refl
further_pieces-spelled [] (suc n) = refl
further_pieces-spelled (b ∷ bs) (suc n) = further_pieces-spelled bs n
further_pieces-spelled (b ∷ bs) zero =
    let o = field_at (b ∷ bs) in
    ap (λ t. piece_bytes (piece_of b o) ++ t) (further_pieces-spelled bs (width_after_first o)) ∙ piece-spelled b bs o refl

pub pieces_of-spelled : (image : List ℕ) → flat_map piece_bytes (pieces_of image) ≡ image
pieces_of-spelled image = further_pieces-spelled image 0
