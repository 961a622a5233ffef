-- Lists of values and numbers that are read from the left, one step at a time.
use Rattle.std.proofs.Common.{◌≡◌, ℕ, zero, suc, ◌+◌, ◌-◌, get_or, ◌<◌, ◌≤◌, true, List, [], ◌∷◌, ◌++◌, length, take, drop, Result, Ok, Err, refl, sym, ap, ◌∙◌, append_assoc, arith, le-ltb, lt-ltb}
use Rattle.std.proofs.lemmas.List.{drop_more}
use Rattle.b2_dec.specs.Number.{Number}
use Rattle.b2_dec.specs.declared.values.Value.{Value}
use Rattle.b2_dec.specs.declared.values.Kind.{Kind}
use Rattle.b2_pack.specs.declared.rows.Row.{Row}
use Rattle.b2_pack.specs.Rows.{number_of_row, row_length}
use Rattle.b2_pack.specs.Specification.{field_length}
use Rattle.b2_pack.specs.FieldValues.{field_value}
use Rattle.b2_pack.specs.Packing.{Placed, lacks_room}
use Rattle.b2_pack.specs.Unpacking.{before_items, values_in, numbers_in}

-- a result after the items that were read before
abbrev pub after_items : {A : Type 0} → List A → Result (List A) ℕ → Result (List A) ℕ
after_items xs (Ok ys) = Ok (xs ++ ys)
after_items xs (Err code) = Err code

pub after_items-none : {A : Type 0} (r : Result (List A) ℕ) → after_items [] r ≡ r
after_items-none (Ok ys) = refl
after_items-none (Err code) = refl

pub after_items-more : {A : Type 0} (xs : List A) (x : A) (r : Result (List A) ℕ) → after_items (xs ++ x ∷ []) r ≡ after_items xs (before_items (Ok x) r)
after_items-more xs x (Ok ys) = ap Ok (append_assoc xs (x ∷ []) ys)
after_items-more xs x (Err code) = refl

pub values-lacks_any : (ps : List Placed) (ks : List Kind) (bytes : List ℕ) → lacks_room ps (length bytes) ≡ true → 0 < length ks → values_in ps ks bytes ≡ Err 70
values-lacks_any ps [] bytes e some = absurd (omega arith)
values-lacks_any [] (k ∷ ks) bytes e some = refl
values-lacks_any (p ∷ ps) (k ∷ ks) bytes e some = rw e refl

pub values-here : (ps qs : List Placed) (p : Placed) (k : Kind) (ks : List Kind) (bytes : List ℕ) → ps ≡ p ∷ qs → p.start + field_length p.field ≤ length bytes
    → values_in ps (k ∷ ks) bytes ≡ before_items (field_value p.field k (take (field_length p.field) (drop p.start bytes))) (values_in qs ks bytes)
values-here ps qs p k ks bytes e inside = ap (λ rs. values_in rs (k ∷ ks) bytes) e ∙ rw (le-ltb (length bytes) (p.start + field_length p.field) inside) refl

pub numbers-short : (row : Row) (at n : ℕ) (bytes : List ℕ) → 0 < n → length bytes < at + row_length row → numbers_in row at n bytes ≡ Err 70
numbers-short row at zero bytes some short = absurd (omega arith)
numbers-short row at (suc n) bytes some short = rw (lt-ltb (length bytes) (at + row_length row) short) refl

pub numbers-here : (row : Row) (at n m : ℕ) (bytes : List ℕ) → n ≡ suc m → at + row_length row ≤ length bytes
    → numbers_in row at n bytes ≡ before_items (number_of_row row (take (row_length row) (drop at bytes))) (numbers_in row (at + row_length row) m bytes)
numbers-here row at n m bytes e inside = ap (λ k. numbers_in row at k bytes) e ∙ rw (le-ltb (length bytes) (at + row_length row) inside) refl

-- one value read, where its field lies in the buffer
values-drop : (ps qs : List Placed) (p : Placed) (ks : List Kind) (i end : ℕ) (d : Kind) (bytes : List ℕ) (r : Result Value ℕ)
    → ps ≡ p ∷ qs → p.start + field_length p.field ≤ length bytes → i < length ks → end ≡ p.start + field_length p.field
    → r ≡ field_value p.field (get_or ks i d) (take (end - p.start) (drop p.start bytes))
    → values_in ps (drop i ks) bytes ≡ before_items r (values_in qs (drop (i + 1) ks) bytes)
values-drop ps qs p ks i end d bytes r first inside below e h =
    let long : end - p.start ≡ field_length p.field = omega arith in
    let here : r ≡ field_value p.field (get_or ks i d) (take (field_length p.field) (drop p.start bytes)) = h ∙ ap (λ n. field_value p.field (get_or ks i d) (take n (drop p.start bytes))) long in
    ap (λ left. values_in ps left bytes) (drop_more ks i d below) ∙ values-here ps qs p (get_or ks i d) (drop (i + 1) ks) bytes first inside
    ∙ ap (λ t. before_items t (values_in qs (drop (i + 1) ks) bytes)) (sym here)

pub values-ok : (ps qs : List Placed) (p : Placed) (ks : List Kind) (i end : ℕ) (d : Kind) (bytes : List ℕ) (r : Result Value ℕ) (done more : List Value) (v : Value) (outcome : Result (List Value) ℕ)
    → ps ≡ p ∷ qs → p.start + field_length p.field ≤ length bytes → i < length ks → end ≡ p.start + field_length p.field
    → r ≡ field_value p.field (get_or ks i d) (take (end - p.start) (drop p.start bytes)) → r ≡ Ok v → more ≡ done ++ v ∷ []
    → after_items done (values_in ps (drop i ks) bytes) ≡ outcome → after_items more (values_in qs (drop (i + 1) ks) bytes) ≡ outcome
values-ok ps qs p ks i end d bytes r done more v outcome first inside below e h ok added before =
    ap (λ xs. after_items xs (values_in qs (drop (i + 1) ks) bytes)) added ∙ after_items-more done v (values_in qs (drop (i + 1) ks) bytes)
    ∙ ap (λ t. after_items done (before_items t (values_in qs (drop (i + 1) ks) bytes))) (sym ok)
    ∙ ap (after_items done) (sym (values-drop ps qs p ks i end d bytes r first inside below e h)) ∙ before

pub values-err : (ps qs : List Placed) (p : Placed) (ks : List Kind) (i end : ℕ) (d : Kind) (bytes : List ℕ) (r : Result Value ℕ) (done : List Value) (code : ℕ) (outcome : Result (List Value) ℕ)
    → ps ≡ p ∷ qs → p.start + field_length p.field ≤ length bytes → i < length ks → end ≡ p.start + field_length p.field
    → r ≡ field_value p.field (get_or ks i d) (take (end - p.start) (drop p.start bytes)) → r ≡ Err code
    → after_items done (values_in ps (drop i ks) bytes) ≡ outcome → outcome ≡ Err code
values-err ps qs p ks i end d bytes r done code outcome first inside below e h bad before =
    sym before ∙ ap (after_items done) (values-drop ps qs p ks i end d bytes r first inside below e h)
    ∙ ap (λ t. after_items done (before_items t (values_in qs (drop (i + 1) ks) bytes))) bad

-- one number read, where its row lies in the buffer
numbers-drop : (row : Row) (at n counter width : ℕ) (bytes : List ℕ) (r : Result Number ℕ)
    → counter < n → width ≡ row_length row → at + width ≤ length bytes → r ≡ number_of_row row (take (at + width - at) (drop at bytes))
    → numbers_in row at (n - counter) bytes ≡ before_items r (numbers_in row (at + width) (n - (counter + 1)) bytes)
numbers-drop row at n counter width bytes r below wide inside h =
    let next : n - counter ≡ suc (n - (counter + 1)) = omega arith in
    let there : at + row_length row ≤ length bytes = omega arith in
    let long : at + width - at ≡ row_length row = omega arith in
    let same : at + row_length row ≡ at + width = omega arith in
    numbers-here row at (n - counter) (n - (counter + 1)) bytes next there
    ∙ ap (λ k. before_items (number_of_row row (take (row_length row) (drop at bytes))) (numbers_in row k (n - (counter + 1)) bytes)) same
    ∙ ap (λ t. before_items t (numbers_in row (at + width) (n - (counter + 1)) bytes)) (ap (λ k. number_of_row row (take k (drop at bytes))) (sym long) ∙ sym h)

pub numbers-ok : (row : Row) (at n counter width : ℕ) (bytes : List ℕ) (r : Result Number ℕ) (done more : List Number) (x : Number) (outcome : Result (List Number) ℕ)
    → counter < n → width ≡ row_length row → at + width ≤ length bytes → r ≡ number_of_row row (take (at + width - at) (drop at bytes))
    → r ≡ Ok x → more ≡ done ++ x ∷ [] → after_items done (numbers_in row at (n - counter) bytes) ≡ outcome
    → after_items more (numbers_in row (at + width) (n - (counter + 1)) bytes) ≡ outcome
numbers-ok row at n counter width bytes r done more x outcome below wide inside h ok added before =
    ap (λ xs. after_items xs (numbers_in row (at + width) (n - (counter + 1)) bytes)) added ∙ after_items-more done x (numbers_in row (at + width) (n - (counter + 1)) bytes)
    ∙ ap (λ t. after_items done (before_items t (numbers_in row (at + width) (n - (counter + 1)) bytes))) (sym ok)
    ∙ ap (after_items done) (sym (numbers-drop row at n counter width bytes r below wide inside h)) ∙ before

pub numbers-err : (row : Row) (at n counter width : ℕ) (bytes : List ℕ) (r : Result Number ℕ) (done : List Number) (code : ℕ) (outcome : Result (List Number) ℕ)
    → counter < n → width ≡ row_length row → at + width ≤ length bytes → r ≡ number_of_row row (take (at + width - at) (drop at bytes))
    → r ≡ Err code → after_items done (numbers_in row at (n - counter) bytes) ≡ outcome → outcome ≡ Err code
numbers-err row at n counter width bytes r done code outcome below wide inside h bad before =
    sym before ∙ ap (after_items done) (numbers-drop row at n counter width bytes r below wide inside h)
    ∙ ap (λ t. after_items done (before_items t (numbers_in row (at + width) (n - (counter + 1)) bytes))) bad
