-- The spans of the units of all lines, as lines are put in and taken out.
use Rattle.std.proofs.Common.{◌≡◌, ℕ, zero, suc, ◌+◌, ◌<◌, ◌≤◌, List, [], ◌∷◌, ◌++◌, length, take, drop, get_or, refl, sym, ap, subst, ◌∙◌, arith, length-drop}
use Rattle.std.specs.List.{remove_range, splice}
use Rattle.std.proofs.lemmas.List.{drop-append-le, drop-drop, drop-take, drop_all, length-map, length-take, take-append-le, take-take, take_all}
use Rattle.b2_atom.specs.Lines.{KeepsUnits, LineUnit, spanned, units_of}
use Rattle.b2_atom.specs.declared.spans.Span.{Span}
use Rattle.b2_text.specs.Program.{Lines}
use Rattle.b2_text.specs.Blocks.{AreSpansOf, units_in}

-- a line has as many spans as units
pub count_kept : (a : List ℕ) (spans : List Span) → KeepsUnits a spans → length spans ≡ length (units_of a)
count_kept a spans h = sym (length-map spans (spanned a)) ∙ ap (λ (us : List LineUnit). length us) h.units

long_enough : (a : List ℕ) (spans : List Span) → KeepsUnits a (take (length (units_of a)) spans) → length (units_of a) ≤ length spans
long_enough a spans h =
    let count = count_kept a (take (length (units_of a)) spans) h in
    let cut = length-take (length (units_of a)) spans in
    omega (arith, count, cut)

pub count_spans : (ls : Lines) (spans : List Span) → AreSpansOf ls spans → length spans ≡ units_in ls
count_spans [] spans h = ap (λ (ss : List Span). length ss) h
count_spans (l ∷ ls) spans h =
    let k = length (units_of l.1) in
    let rest = count_spans ls (drop k spans) h.1 in
    let some = long_enough l.1 spans h.0 in
    let left = length-drop k spans in
    omega (arith, rest, some, left)

pub spans_append : (ls ms : Lines) (xs ys : List Span) → AreSpansOf ls xs → AreSpansOf ms ys → AreSpansOf (ls ++ ms) (xs ++ ys)
spans_append [] ms xs ys h g = let P : List Span → Type 0 = λ zs. AreSpansOf ms (zs ++ ys) in subst P (sym h) g
spans_append (l ∷ ls) ms xs ys h g =
    let k = length (units_of l.1) in
    let some = long_enough l.1 xs h.0 in
    let front : take k (xs ++ ys) ≡ take k xs = take-append-le k xs ys some in
    let back : drop k (xs ++ ys) ≡ drop k xs ++ ys = drop-append-le k xs ys some in
    let P : List Span → Type 0 = λ zs. KeepsUnits l.1 zs in
    let Q : List Span → Type 0 = λ zs. AreSpansOf (ls ++ ms) zs in
    (subst P (sym front) h.0, subst Q (sym back) (spans_append ls ms (drop k xs) ys h.1 g))

-- the spans of the first lines, and of those after them
pub spans_front : (i : ℕ) (ls : Lines) (xs : List Span) → AreSpansOf ls xs → AreSpansOf (take i ls) (take (units_in (take i ls)) xs)
spans_front zero ls xs h = refl
spans_front (suc i) [] xs h = refl
spans_front (suc i) (l ∷ ls) xs h =
    let k = length (units_of l.1) in
    let u = units_in (take i ls) in
    let same : take k (take (k + u) xs) ≡ take k xs = take-take k (k + u) xs (omega arith) in
    let P : List Span → Type 0 = λ zs. KeepsUnits l.1 zs in
    let Q : List Span → Type 0 = λ zs. AreSpansOf (take i ls) zs in
    (subst P (sym same) h.0, subst Q (sym (drop-take k u xs)) (spans_front i ls (drop k xs) h.1))

pub spans_back : (i : ℕ) (ls : Lines) (xs : List Span) → AreSpansOf ls xs → AreSpansOf (drop i ls) (drop (units_in (take i ls)) xs)
spans_back zero ls xs h = h
spans_back (suc i) [] xs h = h
spans_back (suc i) (l ∷ ls) xs h =
    let k = length (units_of l.1) in
    let u = units_in (take i ls) in
    let same : drop u (drop k xs) ≡ drop (k + u) xs = drop-drop u k xs in
    let Q : List Span → Type 0 = λ zs. AreSpansOf (drop i ls) zs in
    subst Q same (spans_back i ls (drop k xs) h.1)

-- a line is put in
one_line : (n : ℕ) (a : List ℕ) (spans : List Span) → KeepsUnits a spans → AreSpansOf ((n, a) ∷ []) spans
one_line n a spans h =
    let count = count_kept a spans h in
    let P : List Span → Type 0 = λ zs. KeepsUnits a zs in
    (subst P (sym (take_all (length (units_of a)) spans (omega (arith, count)))) h, drop_all (length (units_of a)) spans (omega (arith, count)))

pub spans_put : (i n u : ℕ) (a : List ℕ) (spans xs new : List Span) (ls : Lines) → KeepsUnits a spans → AreSpansOf ls xs → u ≡ units_in (take i ls)
    → new ≡ splice xs u u spans → AreSpansOf (take i ls ++ ((n, a) ∷ drop i ls)) new
spans_put i n u a spans xs new ls kept all at is =
    let Q : List Span → Type 0 = λ zs. AreSpansOf (take i ls ++ ((n, a) ∷ drop i ls)) zs in
    let v = units_in (take i ls) in
    let back = spans_append ((n, a) ∷ []) (drop i ls) spans (drop v xs) (one_line n a spans kept) (spans_back i ls xs all) in
    let whole = spans_append (take i ls) ((n, a) ∷ drop i ls) (take v xs) (spans ++ drop v xs) (spans_front i ls xs all) back in
    subst Q (sym (is ∙ ap (λ (w : ℕ). splice xs w w spans) at)) whole

-- and lines are taken out
pub spans_cut : (i j u v : ℕ) (xs new : List Span) (ls : Lines) → AreSpansOf ls xs → u ≡ units_in (take i ls) → v ≡ units_in (take j ls)
    → new ≡ remove_range xs u v → AreSpansOf (remove_range ls i j) new
spans_cut i j u v xs new ls all at to is =
    let Q : List Span → Type 0 = λ zs. AreSpansOf (remove_range ls i j) zs in
    let p = units_in (take i ls) in
    let q = units_in (take j ls) in
    let whole = spans_append (take i ls) (drop j ls) (take p xs) (drop q xs) (spans_front i ls xs all) (spans_back j ls xs all) in
    subst Q (sym (is ∙ (λ x. remove_range xs (at x) (to x)))) whole

-- the spans of one of the lines
pub spans_at : (i : ℕ) (ls : Lines) (xs : List Span) (d : ℕ × List ℕ) → AreSpansOf ls xs → i < length ls
    → KeepsUnits (get_or ls i d).1 (take (length (units_of (get_or ls i d).1)) (drop (units_in (take i ls)) xs))
spans_at i [] xs d h inside = absurd (omega arith)
spans_at zero (l ∷ ls) xs d h inside = h.0
spans_at (suc i) (l ∷ ls) xs d h inside =
    let k = length (units_of l.1) in
    let u = units_in (take i ls) in
    let a = (get_or ls i d).1 in
    let P : List Span → Type 0 = λ zs. KeepsUnits a (take (length (units_of a)) zs) in
    subst P (drop-drop u k xs) (spans_at i ls (drop k xs) d h.1 (omega arith))

-- the same of lines that are told by an equation
pub kept_put : (i n : ℕ) (a : List ℕ) (spans xs new : List Span) (ls ms : Lines) → KeepsUnits a spans → AreSpansOf ls xs
    → ms ≡ take i ls ++ ((n, a) ∷ drop i ls) → new ≡ splice xs (units_in (take i ls)) (units_in (take i ls)) spans → AreSpansOf ms new
kept_put i n a spans xs new ls ms kept all is are =
    let Q : Lines → Type 0 = λ ks. AreSpansOf ks new in
    subst Q (sym is) (spans_put i n (units_in (take i ls)) a spans xs new ls kept all refl are)

pub kept_cut : (i j : ℕ) (xs new : List Span) (ls ms : Lines) → AreSpansOf ls xs → ms ≡ remove_range ls i j
    → new ≡ remove_range xs (units_in (take i ls)) (units_in (take j ls)) → AreSpansOf ms new
kept_cut i j xs new ls ms all is are =
    let Q : Lines → Type 0 = λ ks. AreSpansOf ks new in
    subst Q (sym is) (spans_cut i j (units_in (take i ls)) (units_in (take j ls)) xs new ls all refl refl are)
