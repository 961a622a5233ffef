-- The units of a line one after another, and their spans.
use Rattle.std.proofs.Common.{◌≡◌, ℕ, zero, suc, ◌+◌, ◌-◌, ◌<◌, ◌≤◌, ◌==◌, ◌&&◌, Bool, true, false, List, [], ◌∷◌, ◌++◌, length, drop, map, refl, sym, ap, subst, ◌∙◌, arith, append_assoc, append-nil, add-one, add-zero, zero-add, get_or, Some, Ok, Err, if◌then◌else◌}
use Rattle.std.proofs.lemmas.Bool.Decides.{nat_tests}
use Rattle.std.proofs.lemmas.List.{drop-drop, drop_all, drop_more, drop-map, length-append, length-map, map-append}
use Rattle.std.proofs.Math.Seq.{drop-append_seam}
use Rattle.std.specs.Prelude.{slice_get, nat_le, nat_lt}
use Rattle.std.specs.Option.{option_map}
use Rattle.b2_atom.specs.Words.{Text}
use Rattle.b2_atom.specs.Tree.{Outcome, atoms}
use Rattle.b2_atom.specs.Grammar.{reader, statement}
use Rattle.b2_atom.specs.Lines.{LineUnit, leading_unit, units_from, units_after, after_unit, left_after, next_position, next_text, is_line, units_of, spanned, KeepsUnits, IsEndOf, further_unit, is_further, span_position}
use Rattle.b2_atom.specs.declared.words.Origin.TheVariants.{Atoms}
use Rattle.b2_atom.specs.declared.forms.Position.{Position}
use Rattle.b2_atom.specs.declared.forms.Position.TheVariants.{First}
use Rattle.b2_atom.specs.declared.spans.Span.{Span}
use Rattle.b2_atom.proofs.Booleans.{and_left}
use Rattle.b2_atom.proofs.reading.Sound.{Takes, takes_statement}

some_left : (n i : ℕ) → i < n → suc (n - (i + 1)) ≡ n - i
some_left n i h = omega arith

further_some : (f : Position → Text → List LineUnit) (rest : Text) → (length rest == 0) ≡ false → units_after f rest ≡ f (next_position rest) (next_text rest)
further_some f [] h = cc
further_some f (b ∷ bs) h = refl

nonempty : (n : ℕ) → (suc n == 0) ≡ true → ⊥
nonempty n h = grind (arith, nat_tests)

further_none : (f : Position → Text → List LineUnit) (rest : Text) → (length rest == 0) ≡ true → units_after f rest ≡ []
further_none f [] h = refl
further_none f (b ∷ bs) h = absurd (nonempty (length bs) h)

pub next_units : (n i : ℕ) (p : Position) (t rest : Text) → i < n → rest ≡ after_unit p t → (length rest == 0) ≡ false
    → units_from (n - i) p t ≡ leading_unit p t ∷ units_from (n - (i + 1)) (next_position rest) (next_text rest)
next_units n i p t rest h is some =
    ap (λ (m : ℕ). units_from m p t) (sym (some_left n i h))
    ∙ ap (λ (r : Text). leading_unit p t ∷ units_after (units_from (n - (i + 1))) r) (sym is)
    ∙ ap (λ (us : List LineUnit). leading_unit p t ∷ us) (further_some (units_from (n - (i + 1))) rest some)

pub last_unit : (n i : ℕ) (p : Position) (t rest : Text) → i < n → rest ≡ after_unit p t → (length rest == 0) ≡ true
    → units_from (n - i) p t ≡ leading_unit p t ∷ []
last_unit n i p t rest h is none =
    ap (λ (m : ℕ). units_from m p t) (sym (some_left n i h))
    ∙ ap (λ (r : Text). leading_unit p t ∷ units_after (units_from (n - (i + 1))) r) (sym is)
    ∙ ap (λ (us : List LineUnit). leading_unit p t ∷ us) (further_none (units_from (n - (i + 1))) rest none)

-- one more unit among those that are found
one_more : (line : Text) (spans more : List Span) (s : Span) (u : LineUnit) (us : List LineUnit) → more ≡ spans ++ s ∷ [] → spanned line s ≡ u
    → map (spanned line) more ++ us ≡ map (spanned line) spans ++ u ∷ us
one_more line spans more s u us added is =
    ap (λ (ss : List Span). map (spanned line) ss ++ us) added
    ∙ ap (λ (vs : List LineUnit). vs ++ us) (map-append (spanned line) spans (s ∷ []))
    ∙ append_assoc (map (spanned line) spans) (spanned line s ∷ []) us
    ∙ ap (λ (v : LineUnit). map (spanned line) spans ++ v ∷ us) is

pub found_next : (line : Text) (n i : ℕ) (p q : Position) (t rest next : Text) (spans more : List Span) (s : Span) → more ≡ spans ++ s ∷ [] → spanned line s ≡ leading_unit p t
    → i < n → rest ≡ after_unit p t → (length rest == 0) ≡ false → q ≡ next_position rest → next ≡ next_text rest
    → map (spanned line) spans ++ units_from (n - i) p t ≡ units_of line → map (spanned line) more ++ units_from (n - (i + 1)) q next ≡ units_of line
found_next line n i p q t rest next spans more s added is h behind_ some placed left found =
    (λ x. map (spanned line) more ++ units_from (n - (i + 1)) (placed x) (left x))
    ∙ one_more line spans more s (leading_unit p t) (units_from (n - (i + 1)) (next_position rest) (next_text rest)) added is
    ∙ ap (λ (us : List LineUnit). map (spanned line) spans ++ us) (sym (next_units n i p t rest h behind_ some))
    ∙ found

pub found_last : (line : Text) (n i : ℕ) (p : Position) (t rest : Text) (spans more : List Span) (s : Span) → more ≡ spans ++ s ∷ [] → spanned line s ≡ leading_unit p t
    → i < n → rest ≡ after_unit p t → (length rest == 0) ≡ true
    → map (spanned line) spans ++ units_from (n - i) p t ≡ units_of line → map (spanned line) more ≡ units_of line
found_last line n i p t rest spans more s added is h behind_ none found =
    sym (append-nil (map (spanned line) more))
    ∙ one_more line spans more s (leading_unit p t) [] added is
    ∙ ap (λ (us : List LineUnit). map (spanned line) spans ++ us) (sym (last_unit n i p t rest h behind_ none))
    ∙ found

pub found_all : (line : Text) (n i : ℕ) (p : Position) (t : Text) (spans : List Span) → n ≤ i → map (spanned line) spans ++ units_from (n - i) p t ≡ units_of line
    → map (spanned line) spans ≡ units_of line
found_all line n i p t spans h found =
    let none : n - i ≡ 0 = omega arith in
    sym (append-nil (map (spanned line) spans)) ∙ ap (λ (m : ℕ). map (spanned line) spans ++ units_from m p t) (sym none) ∙ found

pub found_none : (line : Text) (spans : List Span) → spans ≡ [] → map (spanned line) spans ++ units_from (length line - 0) First line ≡ units_of line
unfolding units_of
found_none line spans h =
    let whole : length line - 0 ≡ length line = omega arith in
    (λ x. map (spanned line) (h x) ++ units_from (whole x) First line)

-- what is left of a line
pub end_whole : (line : Text) → IsEndOf line line
end_whole line = record {
  short = omega arith;
  is = (let none : length line - length line ≡ 0 = omega arith in ap (λ (n : ℕ). drop n line) none);
}

end_of_end : (line left rest : Text) → IsEndOf line left → IsEndOf left rest → IsEndOf line rest
end_of_end line left rest h k =
    let parts : length line - length rest ≡ (length line - length left) + (length left - length rest) = omega (arith, h.short, k.short) in
    record {
      short = omega (arith, h.short, k.short);
      is = ap (λ (n : ℕ). drop n line) parts ∙ sym (drop-drop (length left - length rest) (length line - length left) line)
          ∙ ap (λ (t : Text). drop (length left - length rest) t) h.is ∙ k.is;
    }

end_behind : (a b : Text) → IsEndOf (a ++ b) b
end_behind a b =
    let both = length-append a b in
    let less : length (a ++ b) - length b ≡ length a = omega (arith, both) in
    record { short = omega (arith, both); is = ap (λ (n : ℕ). drop n (a ++ b)) less ∙ drop-append_seam a b }

end_none : (t : Text) → IsEndOf t []
end_none t = record { short = omega arith; is = drop_all (length t - 0) t (omega arith) }

end_taken : (s : Text) (o : Outcome) → Takes s o → IsEndOf s (left_after o)
end_taken s (Err e) h = end_none s
end_taken s (Ok p) h = let P : Text → Type 0 = λ t. IsEndOf t p.1 in subst P h (end_behind (atoms p.0) p.1)

end_rest : (p : Position) (t : Text) → IsEndOf t (after_unit p t)
unfolding after_unit
end_rest p t = end_taken t (statement (reader Atoms) 1 p t) (takes_statement 1 p t)

end_dropped : (b : ℕ) (t : Text) → IsEndOf (b ∷ t) t
end_dropped b t = end_behind (b ∷ []) t

end_text : (rest : Text) → IsEndOf rest (next_text rest)
end_text [] = end_whole []
end_text (b ∷ t) = by_colon (b == 58) where
  by_colon : (c : Bool) → IsEndOf (b ∷ t) (if c then t else b ∷ t)
  by_colon true = end_dropped b t
  by_colon false = end_whole (b ∷ t)

-- what stands after a unit, and where the next one begins
pub end_unit : (line left rest : Text) (p : Position) → IsEndOf line left → rest ≡ after_unit p left → IsEndOf line rest
end_unit line left rest p h is =
    let P : Text → Type 0 = λ t. IsEndOf line t in
    subst P (sym is) (end_of_end line left (after_unit p left) h (end_rest p left))

pub end_next : (line left rest : Text) (p : Position) → IsEndOf line left → rest ≡ after_unit p left → IsEndOf line (next_text rest)
end_next line left rest p h is = end_of_end line rest (next_text rest) (end_unit line left rest p h is) (end_text rest)

pub shorter : (left rest : Text) (p : Position) → rest ≡ after_unit p left → length rest ≤ length left
shorter left rest p is = (end_unit left left rest p (end_whole left) is).short

further_few : (n : ℕ) (rest : Text) → ((p : Position) (t : Text) → length (units_from n p t) ≤ n) → length (units_after (units_from n) rest) ≤ n
further_few n [] few = omega arith
further_few n (b ∷ bs) few = few (next_position (b ∷ bs)) (next_text (b ∷ bs))

few_from : (n : ℕ) (p : Position) (t : Text) → length (units_from n p t) ≤ n
few_from zero p t = omega arith
few_from (suc n) p t = let few = further_few n (after_unit p t) (few_from n) in omega (arith, few)

short : (n : ℕ) → nat_le n 255 ≡ true → n ≤ 255
short n h = grind (arith, nat_tests)

pub short_line : (t : Text) → is_line t ≡ true → length t ≤ 255
unfolding is_line
short_line t h = short (length t) (and_left (nat_le (length t) 255) _ h)

-- a line has at most 255 units
pub few_units : (t : Text) → is_line t ≡ true → length (units_of t) ≤ 255
unfolding units_of
few_units t h =
    let bytes = short_line t h in
    let few = few_from (length t) First t in
    omega (arith, bytes, few)

-- so are its spans
pub few_kept : (line : Text) (spans : List Span) → KeepsUnits line spans → length spans ≤ 255
few_kept line spans h =
    let few = few_units line h.line_is in
    let count = length-map spans (spanned line) in
    let same = ap (λ (us : List LineUnit). length us) h.units in
    omega (arith, few, count, same)

-- a unit that is there has a number below theirs
pub number_within : (us : List LineUnit) (k : ℕ) (bytes : Text) → Some bytes ≡ option_map (λ (u : LineUnit). u.bytes) (slice_get us k) → k < length us
number_within [] k bytes h = cc
number_within (u ∷ us) zero bytes h = omega arith
number_within (u ∷ us) (suc k) bytes h = let after = number_within us k bytes h in omega (arith, after)

-- a unit that a walk passes by
passed : (k i : ℕ) (u : LineUnit) (us : List LineUnit) → (nat_lt k i && is_further u.position) ≡ false → further_unit k i (u ∷ us) ≡ further_unit k (i + 1) us
passed k i u us h = ap (λ (b : Bool). if b then i else further_unit k (suc i) us) h ∙ ap (λ (n : ℕ). further_unit k n us) (sym (add-one i))

not_after : (k i : ℕ) (b : Bool) → i ≤ k → (nat_lt k i && b) ≡ false
not_after k i b h = ap (λ (c : Bool). c && b) (before k i h) where
  before : (k i : ℕ) → i ≤ k → nat_lt k i ≡ false
  before k i h = grind (arith, nat_tests)

-- none of the first units up to the k-th is the one
pub further_after : (j k i : ℕ) (us : List LineUnit) → i + j ≤ k + 1 → j ≤ length us → further_unit k (i + j) (drop j us) ≡ further_unit k i us
further_after zero k i us h few = ap (λ (n : ℕ). further_unit k n us) (add-zero i)
further_after (suc j) k i [] h few = absurd (omega arith)
further_after (suc j) k i (u ∷ us) h few =
    (let same : i + suc j ≡ i + 1 + j = omega arith in ap (λ (n : ℕ). further_unit k n (drop j us)) same)
    ∙ further_after j k (i + 1) us (omega arith) (omega arith)
    ∙ sym (passed k i u us (not_after k i (is_further u.position) (omega arith)))

-- which units are passed by
pub further_first : (k : ℕ) (line : Text) (spans : List Span) → k + 1 ≤ length spans
    → further_unit k (k + 1) (drop (k + 1) (map (spanned line) spans)) ≡ further_unit k 0 (map (spanned line) spans)
further_first k line spans h =
    let count = length-map spans (spanned line) in
    ap (λ (n : ℕ). further_unit k n (drop (k + 1) (map (spanned line) spans))) (sym (zero-add (k + 1)))
    ∙ further_after (k + 1) k 0 (map (spanned line) spans) (omega arith) (omega (arith, count))

pub further_no_more : (k : ℕ) (line : Text) (spans : List Span) → length spans ≤ k → length spans ≡ further_unit k 0 (map (spanned line) spans)
further_no_more k line spans h =
    let count = length-map spans (spanned line) in
    sym (sym (further_after (length spans) k 0 (map (spanned line) spans) (omega arith) (omega (arith, count)))
    ∙ ap (λ (n : ℕ). further_unit k n (drop (length spans) (map (spanned line) spans))) (zero-add (length spans))
    ∙ ap (further_unit k (length spans)) (drop_all (length spans) (map (spanned line) spans) (omega (arith, count))))

here : (line : Text) (spans : List Span) (i : ℕ) (d : Span) → i < length spans
    → drop i (map (spanned line) spans) ≡ spanned line (get_or spans i d) ∷ drop (i + 1) (map (spanned line) spans)
here line spans i d h =
    drop-map (spanned line) i spans
    ∙ ap (map (spanned line)) (drop_more spans i d h)
    ∙ ap (λ (us : List LineUnit). spanned line (get_or spans i d) ∷ us) (sym (drop-map (spanned line) (i + 1) spans))

pub further_passed : (k i : ℕ) (line : Text) (spans : List Span) (d : Span) → i < length spans → is_further (span_position (get_or spans i d)) ≡ false
    → further_unit k (i + 1) (drop (i + 1) (map (spanned line) spans)) ≡ further_unit k i (drop i (map (spanned line) spans))
further_passed k i line spans d h not_it =
    sym (ap (further_unit k i) (here line spans i d h) ∙ passed k i (spanned line (get_or spans i d)) (drop (i + 1) (map (spanned line) spans)) (none (nat_lt k i) not_it)) where
      none : (b : Bool) → is_further (span_position (get_or spans i d)) ≡ false → (b && is_further (span_position (get_or spans i d))) ≡ false
      none true h = h
      none false h = refl

pub further_found : (k i : ℕ) (line : Text) (spans : List Span) (d : Span) → k < i → i < length spans → is_further (span_position (get_or spans i d)) ≡ true
    → i ≡ further_unit k i (drop i (map (spanned line) spans))
further_found k i line spans d after h it =
    sym (ap (further_unit k i) (here line spans i d h) ∙ (λ x. if both x then i else further_unit k (suc i) (drop (i + 1) (map (spanned line) spans)))) where
      is_after : nat_lt k i ≡ true
      is_after = grind (arith, nat_tests)

      both : (nat_lt k i && is_further (span_position (get_or spans i d))) ≡ true
      both = (λ x. is_after x && it x)

pub further_none_left : (k i : ℕ) (line : Text) (spans : List Span) → i ≡ length spans → i ≡ further_unit k i (drop i (map (spanned line) spans))
further_none_left k i line spans h =
    let count = length-map spans (spanned line) in
    sym (ap (further_unit k i) (drop_all i (map (spanned line) spans) (omega (arith, count, h))))
