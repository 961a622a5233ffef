-- The parts of a line one after another, each for its receiver.
use Rattle.std.proofs.Common.{◌≡◌, ℕ, ◌+◌, ◌==◌, not, Bool, true, false, if◌then◌else◌, List, [], ◌∷◌, suc, length, take, drop, Option, Some, None, refl, sym, ap, ◌∙◌, arith}
use Rattle.std.proofs.lemmas.Bool.Decides.{nat_tests}
use Rattle.std.proofs.lemmas.List.{length-take, take_min}
use Rattle.std.specs.List.{prefix_len}
use Rattle.std.specs.Prelude.{is_some}
use Rattle.b2_base.specs.Byte as byte
use Rattle.b2_base.specs.Lexical.{first}
use Rattle.b2_alpha.specs.Values.{value_of}
use Rattle.b2_atom.specs.Words.{Text}
use Rattle.b2_atom.specs.Tree.{Trees}
use Rattle.b2_expr.specs.Workspace.{WorkState, WorkLeft, then_works, unchanged, unless_coded}
use Rattle.b2_stmt_io.specs.Inputs.{take_parts}
use Rattle.b2_rows.specs.CommaLists.{are_others, others_at, receivers_at}
use Rattle.b2_stmt_io.specs.TypedText.{is_within_part, onto_first, typed_parts}
use Rattle.b2_receiver.proofs.ReceiverLists.{no_items, other_items}

-- the value in bytes is the front of them that is as long
pub value_front : (xs : List ℕ) → take (length (value_of xs)) xs ≡ value_of xs
value_front xs = ap (λ (n : ℕ). take n xs) (length-take _ xs) ∙ take_min _ xs

-- the parts after the first, by what stands after it
abbrev pub further_parts : List ℕ → List (List ℕ)
further_parts [] = []
further_parts (comma ∷ line) = typed_parts line

abbrev pub width_of : List ℕ → ℕ
width_of line = prefix_len is_within_part line

parts_by : (b : ℕ) (bs : List ℕ) (c : Bool) → typed_parts bs ≡ take (width_of bs) bs ∷ further_parts (drop (width_of bs) bs)
    → (if c then [] ∷ typed_parts bs else onto_first b (typed_parts bs)) ≡ take (if not c then suc (width_of bs) else 0) (b ∷ bs) ∷ further_parts (drop (if not c then suc (width_of bs) else 0) (b ∷ bs))
parts_by b bs true is = refl
parts_by b bs false is = ap (onto_first b) is

one_more : (n : ℕ) → suc n ≡ 1 + n
one_more n = omega arith

parts_are : (line : List ℕ) → typed_parts line ≡ take (width_of line) line ∷ further_parts (drop (width_of line) line)
parts_are [] = refl
parts_are (b ∷ bs) =
    parts_by b bs (b == byte.comma) (parts_are bs)
    ∙ ap (λ (n : ℕ). take (if not (b == byte.comma) then n else 0) (b ∷ bs) ∷ further_parts (drop (if not (b == byte.comma) then n else 0) (b ∷ bs))) (one_more (width_of bs))

-- a receiver that took its part, and the others
abbrev One : Type 0
One = Trees → List ℕ → WorkState → WorkLeft

taken : (one : One) (t : Trees) (ts : List Trees) (line : List ℕ) (old : WorkState)
    → take_parts one (t ∷ ts) (typed_parts line) old ≡ then_works (one t (take (width_of line) line) old) (take_parts one ts (further_parts (drop (width_of line) line)))
taken one t ts line old = ap (λ (ps : List (List ℕ)). take_parts one (t ∷ ts) ps old) (parts_are line)

pub part_more : (one : One) (t : Trees) (ts : List Trees) (line : List ℕ) (old new : WorkState) (code : Option ℕ)
    → record { work = new; code = code } ≡ one t (take (width_of line) line) old → code ≡ None
    → take_parts one ts (further_parts (drop (width_of line) line)) new ≡ take_parts one (t ∷ ts) (typed_parts line) old
part_more one t ts line old new code is none =
    let next = take_parts one ts (further_parts (drop (width_of line) line)) in
    sym (ap (λ (c : Option ℕ). unless_coded c new next) none) ∙ ap (λ (r : WorkLeft). then_works r next) is ∙ sym (taken one t ts line old)

coded_by : (one : One) (t : Trees) (ts : List Trees) (line : List ℕ) (old new : WorkState) (code : Option ℕ) (c : ℕ)
    → record { work = new; code = code } ≡ one t (take (width_of line) line) old → code ≡ Some c
    → take_parts one (t ∷ ts) (typed_parts line) old ≡ record { work = new; code = code }
coded_by one t ts line old new code c is some =
    let next = take_parts one ts (further_parts (drop (width_of line) line)) in
    taken one t ts line old ∙ sym (ap (λ (r : WorkLeft). then_works r next) is) ∙ ap (λ (o : Option ℕ). unless_coded o new next) some ∙ ap (λ (o : Option ℕ). record { work = new; code = o }) (sym some)

pub part_coded : (one : One) (t : Trees) (ts : List Trees) (line : List ℕ) (old new : WorkState) (code : Option ℕ)
    → record { work = new; code = code } ≡ one t (take (width_of line) line) old → is_some code ≡ true
    → record { work = new; code = code } ≡ take_parts one (t ∷ ts) (typed_parts line) old
part_coded one t ts line old new None is some = cc
part_coded one t ts line old new (Some c) is some = sym (coded_by one t ts line old new (Some c) c is refl)

pub none_of : (code : Option ℕ) → is_some code ≡ false → code ≡ None
none_of None is = refl
none_of (Some c) is = cc

-- no further receiver, no further part, or both
pub no_more : (one : One) (t : Text) (ps : List (List ℕ)) (w : WorkState) → (first t == byte.comma) ≡ false → take_parts one (others_at t) ps w ≡ unchanged w
no_more one t ps w is = ap (λ (ts : List Trees). take_parts one ts ps w) (no_items t is)

without_parts : (one : One) (ts : List Trees) (w : WorkState) → take_parts one ts [] w ≡ unchanged w
without_parts one [] w = refl
without_parts one (t ∷ ts) w = refl

not_none : (b : ℕ) (bs : List ℕ) → (length (b ∷ bs) == 0) ≡ true → ⊥
not_none b bs is = grind (arith, nat_tests)

pub none_left : (one : One) (ts : List Trees) (after : List ℕ) (w : WorkState) → (length after == 0) ≡ true → take_parts one ts (further_parts after) w ≡ unchanged w
none_left one ts [] w is = without_parts one ts w
none_left one ts (b ∷ bs) w is = absurd (not_none b bs is)

pub key_leads : (one : One) (t : Text) (after : List ℕ) (w : WorkState) → are_others t ≡ true → (first t == byte.comma) ≡ true → (length after == 0) ≡ false
    → take_parts one (receivers_at (drop 1 t)) (typed_parts (drop 1 after)) w ≡ take_parts one (others_at t) (further_parts after) w
key_leads one t [] w ok is some = cc
key_leads one t (b ∷ bs) w ok is some = ap (λ (ts : List Trees). take_parts one ts (typed_parts bs) w) (sym (other_items t ok is))
