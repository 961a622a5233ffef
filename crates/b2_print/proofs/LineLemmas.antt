-- A line of an image, piece by piece.
use Rattle.std.proofs.Common.{◌≡◌, ℕ, zero, suc, ◌+◌, ◌-◌, ◌<◌, ◌≤◌, ◌==◌, ◌&&◌, not, if◌then◌else◌, Bool, true, false, List, [], ◌∷◌, ◌++◌, length, take, drop, get_or, min, refl, sym, ap, ◌∙◌, append_assoc, append-nil, ne_eqb, cond, arith, Some, None, Ok, Err}
use Rattle.std.proofs.lemmas.List.{drop_more, drop-drop, drop_all, drop_min, map_more, take_all}
use Rattle.b2_base.specs.declared.codes.TheConstants.{P42_IMAGE, X71_DOES_NOT_FIT}
use Rattle.b2_dec.specs.Number.{Number}
use Rattle.b2_dec.specs.declared.values.Value.TheVariants as value
use Rattle.b2_dec.specs.declared.values.Value.{Value}
use Rattle.b2_print.specs.Images.{Field, field_width, field_at, Piece, literal, field, pieces_of, fields, literals, IsFirstField}
use Rattle.b2_print.specs.Filling.{filled, fits, number_filled}
use Rattle.b2_print.specs.Imaged.{line, further_lines, lacks_field, converted, converted_in}
use Rattle.b2_print.proofs.ImageLemmas.{pieces_of-nil, pieces_of-literal, pieces_of-field, field-some}

pub pieces_of-drop_literal : (image : List ℕ) (at : ℕ) → at < length image → field_at (drop at image) ≡ None → pieces_of (drop at image) ≡ literal (get_or image at 0) ∷ pieces_of (drop (at + 1) image)
pieces_of-drop_literal image at h e =
    let cons = drop_more image at 0 h in
    ap pieces_of cons ∙ pieces_of-literal (get_or image at 0) (drop (at + 1) image) (ap field_at (sym cons) ∙ e)

pub pieces_of-drop_field : (image : List ℕ) (at : ℕ) (f : Field) → at < length image → field_at (drop at image) ≡ Some f → pieces_of (drop at image) ≡ field f ∷ pieces_of (drop (at + field_width f) image)
pieces_of-drop_field image at f h e =
    let cons = drop_more image at 0 h in
    let here = pieces_of-field (get_or image at 0) (drop (at + 1) image) f (ap field_at (sym cons) ∙ e) in
    ap pieces_of cons ∙ here ∙ ap (λ xs. field f ∷ pieces_of (drop (field_width f) xs)) (sym cons) ∙ ap (λ xs. field f ∷ pieces_of xs) (drop-drop (field_width f) at image)

pub pieces_of-drop_all : (image : List ℕ) (at : ℕ) → length image ≤ at → pieces_of (drop at image) ≡ []
pieces_of-drop_all image at h = ap pieces_of (drop_all at image h) ∙ pieces_of-nil

pub line-field : (f : Field) (ps : List Piece) (values : List Value) (used : ℕ) (v : Value) → used < length values → v ≡ get_or values used v →
    line (field f ∷ ps) (drop used values) ≡ filled f v ++ line ps (drop (used + 1) values)
line-field f ps values used v h e =
    ap (line (field f ∷ ps)) (drop_more values used v h) ∙ ap (λ w. filled f w ++ line ps (drop (used + 1) values)) (sym e)

pub line-no_value : (f : Field) (ps : List Piece) (values : List Value) (used : ℕ) → length values ≤ used → line (field f ∷ ps) (drop used values) ≡ []
line-no_value f ps values used h = ap (line (field f ∷ ps)) (drop_all used values h)

-- bytes before the first field
pub literals_more : (image : List ℕ) (at : ℕ) → at < length image → field_at (drop at image) ≡ None →
    literals (take at image) ++ pieces_of (drop at image) ≡ literals (take (at + 1) image) ++ pieces_of (drop (at + 1) image)
literals_more image at h e =
    let rest : List Piece = pieces_of (drop (at + 1) image) in
    ap (λ ps. literals (take at image) ++ ps) (pieces_of-drop_literal image at h e)
    ∙ sym (append_assoc (literals (take at image)) (literal (get_or image at 0) ∷ []) rest)
    ∙ ap (λ ps. ps ++ rest) (sym (map_more literal image at 0 h))

pub literals_all : (image : List ℕ) (at : ℕ) → length image ≤ at → literals (take at image) ++ pieces_of (drop at image) ≡ literals image
literals_all image at h =
    ap (λ xs. literals xs ++ pieces_of (drop at image)) (take_all at image h) ∙ ap (λ ps. literals image ++ ps) (pieces_of-drop_all image at h) ∙ append-nil (literals image)

fields-literals : (xs : List ℕ) (ps : List Piece) → fields (literals xs ++ ps) ≡ fields ps
fields-literals [] ps = refl
fields-literals (x ∷ xs) ps = fields-literals xs ps

pub fields-all_literals : (xs : List ℕ) → fields (literals xs) ≡ []
fields-all_literals [] = refl
fields-all_literals (x ∷ xs) = fields-all_literals xs

line-literals : (xs : List ℕ) (ps : List Piece) (values : List Value) → line (literals xs ++ ps) values ≡ xs ++ line ps values
line-literals [] ps values = refl
line-literals (x ∷ xs) ps values = ap (λ t. x ∷ t) (line-literals xs ps values)

pub line-all_literals : (xs : List ℕ) (values : List Value) → line (literals xs) values ≡ xs
line-all_literals [] values = refl
line-all_literals (x ∷ xs) values = ap (λ t. x ∷ t) (line-all_literals xs values)

first-inside : (image : List ℕ) (at : ℕ) (f : Field) → IsFirstField image at f → at < length image
first-inside image at f h =
    let some : 0 < field_width f = rw h.here at (field-some (drop at image)) in
    omega (arith, some, h.inside)

first-pieces : (image : List ℕ) (at : ℕ) (f : Field) → IsFirstField image at f → pieces_of image ≡ literals (take at image) ++ field f ∷ pieces_of (drop (at + field_width f) image)
first-pieces image at f h = h.before ∙ ap (λ ps. literals (take at image) ++ ps) (pieces_of-drop_field image at f (first-inside image at f h) h.here)

pub first-fields : (image : List ℕ) (at : ℕ) (f : Field) → IsFirstField image at f → fields (pieces_of image) ≡ f ∷ fields (pieces_of (drop (at + field_width f) image))
first-fields image at f h = ap fields (first-pieces image at f h) ∙ fields-literals (take at image) (field f ∷ pieces_of (drop (at + field_width f) image))

pub first-line : (image : List ℕ) (at : ℕ) (f : Field) → IsFirstField image at f → (v : Value) →
    line (pieces_of image) (v ∷ []) ≡ take at image ++ (filled f v ++ line (pieces_of (drop (at + field_width f) image)) [])
first-line image at f h v = ap (λ ps. line ps (v ∷ [])) (first-pieces image at f h) ∙ line-literals (take at image) (field f ∷ pieces_of (drop (at + field_width f) image)) (v ∷ [])

pub first-line_empty : (image : List ℕ) (at : ℕ) (f : Field) → IsFirstField image at f → line (pieces_of image) [] ≡ take at image
first-line_empty image at f h =
    ap (λ ps. line ps []) (first-pieces image at f h) ∙ line-literals (take at image) (field f ∷ pieces_of (drop (at + field_width f) image)) [] ∙ append-nil (take at image)

-- what CONVERT makes
pub converted-no_field : (image : List ℕ) (x : Number) → pieces_of image ≡ literals image → converted image x ≡ Err P42_IMAGE
converted-no_field image x e = ap (λ fs. converted_in (pieces_of image) fs x) (ap fields e ∙ fields-all_literals image)

pub converted-too_large : (image : List ℕ) (at : ℕ) (f : Field) (x : Number) → IsFirstField image at f → fits f x ≡ false → converted image x ≡ Err X71_DOES_NOT_FIT
converted-too_large image at f x h large =
    ap (λ fs. converted_in (pieces_of image) fs x) (first-fields image at f h) ∙ ap (λ t. cond t (Ok (line (pieces_of image) (value.Number x ∷ []))) (Err X71_DOES_NOT_FIT)) large

pub converted-fits : (image : List ℕ) (at : ℕ) (f : Field) (x : Number) → IsFirstField image at f → fits f x ≡ true →
    converted image x ≡ Ok (take at image ++ (number_filled f x ++ line (pieces_of (drop (at + field_width f) image)) []))
converted-fits image at f x h small =
    ap (λ fs. converted_in (pieces_of image) fs x) (first-fields image at f h) ∙ ap (λ t. cond t (Ok (line (pieces_of image) (value.Number x ∷ []))) (Err X71_DOES_NOT_FIT)) small
    ∙ ap (λ t. Ok t) (first-line image at f h (value.Number x))

-- further lines
pub further_lines-drop : (ps : List Piece) (n : ℕ) (values : List Value) → further_lines ps n values ≡ further_lines ps 0 (drop n values)
further_lines-drop ps zero values = refl
further_lines-drop ps (suc n) [] = refl
further_lines-drop ps (suc n) (v ∷ values) = further_lines-drop ps n values

drop-after_first : (n : ℕ) (v : Value) (values : List Value) → 0 < n → drop (n - 1) values ≡ drop n (v ∷ values)
drop-after_first zero v values h = absurd (omega arith)
drop-after_first (suc n) v values h =
    let less : suc n - 1 ≡ n = omega arith in
    ap (λ k. drop k values) less

pub further_lines-step : (ps : List Piece) (values : List Value) → 0 < length (fields ps) → 0 < length values →
    further_lines ps 0 values ≡ (10 ∷ line ps values) ++ further_lines ps 0 (drop (min (length (fields ps)) (length values)) values)
further_lines-step ps [] some more = absurd (omega arith)
further_lines-step ps (v ∷ values) some more =
    let n = length (fields ps) in
    ap (λ t. (10 ∷ line ps (v ∷ values)) ++ t)
    (further_lines-drop ps (n - 1) values ∙ ap (further_lines ps 0) (drop-after_first n v values some ∙ sym (drop_min n (v ∷ values))))

pub has_field : (n m : ℕ) → (not (m == 0) && (n == 0)) ≡ false → 0 < m → 0 < n
has_field zero m e some =
    let other : (m == 0) ≡ false = ne_eqb m 0 (λ z. absurd (omega arith)) in
    absurd (wrong (m == 0) other e)
  where
    wrong : (b : Bool) → b ≡ false → (not b && true) ≡ false → ⊥
    wrong true p q = cc
    wrong false p q = cc
has_field (suc n) m e some = omega arith

and-true : (b : Bool) → (b && true) ≡ b
and-true true = refl
and-true false = refl

and-false : (b : Bool) → (b && false) ≡ false
and-false true = refl
and-false false = refl

pub lacks_field-none : (image : List ℕ) (values : List Value) → pieces_of image ≡ literals image → lacks_field (pieces_of image) values ≡ not (length values == 0)
lacks_field-none image values e =
    let none : length (fields (pieces_of image)) ≡ 0 = ap (λ ps. length (fields ps)) e ∙ ap (λ (fs : List Field). length fs) (fields-all_literals image) in
    rw none (and-true (not (length values == 0)))

pub lacks_field-some : (image : List ℕ) (at : ℕ) (f : Field) (values : List Value) → IsFirstField image at f → lacks_field (pieces_of image) values ≡ false
lacks_field-some image at f values h =
    let some = ap (λ (fs : List Field). length fs) (first-fields image at f h) in
    let other : (length (fields (pieces_of image)) == 0) ≡ false = ne_eqb _ 0 (λ z. absurd (omega arith)) in
    rw other (and-false (not (length values == 0)))

-- which branch an option came from
pub none_if : (b : Bool) (t : List ℕ) → None ≡ (if b then Some t else None) → b ≡ false
none_if true t e = absurd (cc)
none_if false t e = refl

pub some_if : (b : Bool) (t n : List ℕ) → Some n ≡ (if b then Some t else None) → (b ≡ true) × (n ≡ t)
some_if true t n e = (refl, cc)
some_if false t n e = absurd (cc)
