-- Lists that are made place by place along rows, up to the first code.
use Rattle.std.proofs.Common.{Bool, true, if◌then◌else◌, ◌≡◌, ◌<◌, ◌*◌, ◌/◌, ◌%◌, ◌∙◌, ℕ, zero, suc, List, [], ◌∷◌, length, get_or, map, Result, Ok, Err, refl, sym, ap, arith}
use Rattle.std.proofs.lemmas.List.{ext_get_or, get_or-map, length-map}
use Rattle.b2_dec.specs.Number.{Number, zero_number}
use Rattle.b2_base.specs.declared.codes.TheConstants.{P43_SHAPES}
use Rattle.b2_dec.specs.declared.number.Mode.{Mode}
use Rattle.b2_matrix.specs.declared.array.Mat.{Mat}
use Rattle.b2_matrix.specs.declared.combining.MatOp.{MatOp}
use Rattle.b2_matrix.specs.Arrays.{along_rows, elements}
use Rattle.b2_matrix.specs.Answers.{suit, shape_of, combined, unless_one_refused}
use Rattle.b2_matrix.proofs.RowPlaces.{length-along_rows, made_at}

-- a list that has what is made at each place
pub made_is : {X : Type 0} (f : ℕ → ℕ → X) (d : X) (count w : ℕ) (xs : List X) → length xs ≡ count * w
    → ((p : ℕ) → p < length xs → get_or xs p d ≡ f (p / w) (p % w)) → xs ≡ along_rows count w f
made_is f d count w xs whole each =
    ext_get_or d xs (along_rows count w f) (whole ∙ sym (length-along_rows f count w))
    (λ p inside. each p inside ∙ sym (made_at f count w p d (omega arith)))

abbrev taken : Number → Result Number ℕ
taken x = Ok x

-- the same where nothing was refused
pub all_taken : (f : ℕ → ℕ → Result Number ℕ) (count w : ℕ) (xs : List Number) → length xs ≡ count * w
    → ((p : ℕ) → p < length xs → f (p / w) (p % w) ≡ Ok (get_or xs p zero_number)) → map (λ x. Ok x) xs ≡ along_rows count w f
all_taken f count w xs whole each =
    let len : length (map taken xs) ≡ length xs = length-map xs taken in
    made_is f (Ok zero_number) count w (map taken xs) (len ∙ whole)
    (λ p inside. get_or-map taken xs p zero_number (Ok zero_number) (omega arith) ∙ sym (each p (omega arith)))

none_refused : {A : Type 0} (xs : List Number) (answer : A) → unless_one_refused (map (λ x. Ok x) xs) answer ≡ Ok answer
none_refused [] answer = refl
none_refused (x ∷ xs) answer = none_refused xs answer

pub answers : {A : Type 0} (f : ℕ → ℕ → Result Number ℕ) (count w : ℕ) (xs : List Number) (answer : A) → length xs ≡ count * w
    → ((p : ℕ) → p < length xs → f (p / w) (p % w) ≡ Ok (get_or xs p zero_number)) → Ok answer ≡ unless_one_refused (along_rows count w f) answer
answers f count w xs answer whole each =
    sym (none_refused xs answer) ∙ ap (λ (rs : List (Result Number ℕ)). unless_one_refused rs answer) (all_taken f count w xs whole each)

-- the first code, after results that were not refused
first_refused : {A : Type 0} (rs : List (Result Number ℕ)) (made : ℕ → Number) (p code : ℕ) (answer : A)
    → ((k : ℕ) → k < p → get_or rs k (Ok zero_number) ≡ Ok (made k)) → get_or rs p (Ok zero_number) ≡ Err code → unless_one_refused rs answer ≡ Err code
first_refused [] made p code answer before here = cc
first_refused (Ok x ∷ rs) made zero code answer before here = cc
first_refused (Err e ∷ rs) made zero code answer before here = let same : e ≡ code = cc in ap (λ (c : ℕ). Err c) same
first_refused (Ok x ∷ rs) made (suc p) code answer before here = first_refused rs (λ k. made (suc k)) p code answer (λ k low. before (suc k) (omega arith)) here
first_refused (Err e ∷ rs) made (suc p) code answer before here = let taken : Err e ≡ Ok (made 0) = before 0 (omega arith) in cc

pub stops : {A : Type 0} (f : ℕ → ℕ → Result Number ℕ) (count w : ℕ) (xs : List Number) (p code : ℕ) (answer : A) → p < count * w
    → ((k : ℕ) → k < p → f (k / w) (k % w) ≡ Ok (get_or xs k zero_number)) → f (p / w) (p % w) ≡ Err code
    → Err code ≡ unless_one_refused (along_rows count w f) answer
stops f count w xs p code answer inside before refused =
    sym (first_refused (along_rows count w f) (λ k. get_or xs k zero_number) p code answer
    (λ k low. made_at f count w k (Ok zero_number) (omega arith) ∙ before k low) (made_at f count w p (Ok zero_number) inside ∙ refused))

-- the answer where the shapes suit
pub combined_if : (operation : MatOp) (mode : Mode) (a b : Mat) → suit operation a b ≡ true → unless_one_refused (elements operation mode a b) (shape_of operation a b) ≡ combined operation mode a b
combined_if operation mode a b suits =
    ap (λ (t : Bool). if t then unless_one_refused (elements operation mode a b) (shape_of operation a b) else Err P43_SHAPES) (sym suits)
