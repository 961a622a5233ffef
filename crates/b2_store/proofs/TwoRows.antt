-- Rows of which one was taken out, and put back after another changed.
use Rattle.std.specs.Prelude.{◌≡◌, ◌<◌, ℕ, suc, zero, Bool, true, false, cond, set, List, [], ◌∷◌, length, get_or, Option, Some, None, IsSome, Result, Ok, Err, OnOk, IfErr, refl}
use Rattle.std.specs.Map.{lookup, set_value}
use Rattle.std.specs.Str.{bytes_eq}
use Rattle.std.specs.List.{insert, remove, position}
use Rattle.std.proofs.Common.{sym, ap, subst, ◌∙◌, arith}
use Rattle.std.proofs.lemmas.Slice.Eq.{bytes_eq-Decides}
use Rattle.b2_base.specs.declared.codes.Fault.{Fault}
use Rattle.b2_base.specs.declared.codes.Fault.TheVariants as fault
use Rattle.b2_store.specs.FileWork.{moved}
use Rattle.b2_store.specs.TwoRows.{MoveFails, Platters, moved_from_row, moved_to_row, rows_moved, with_moved}
use Rattle.b2_store.proofs.Placed.{is_row_at, not_found, row_set}

abbrev pub of_key : List ℕ → List ℕ → Bool
of_key key k = bytes_eq k key

-- what a look-up finds has an index
none_is_some : {A : Type 0} (o : Option A) → o ≡ None → IsSome o → ⊥
none_is_some o none there = let clash = there in cc

pub has_index : {X : Type 0} (rows : List (List ℕ × X)) (key : List ℕ) (o : Option ℕ) → IsSome (lookup (of_key key) rows) → position (λ e. of_key key e.0) rows ≡ o → IsSome o
has_index rows key None there is = absurd (none_is_some (lookup (of_key key) rows) (not_found (of_key key) rows is) there)
has_index rows key (Some i) there is = refl

removed_other : {X : Type 0} (rows : List (List ℕ × X)) (i : ℕ) (d : List ℕ × X) (to : List ℕ) → i < length rows → bytes_eq (get_or rows i d).0 to ≡ false → lookup (of_key to) (remove rows i) ≡ lookup (of_key to) rows
removed_other [] i d to low other = absurd (omega (arith, low))
removed_other (e ∷ rows) zero d to low other = sym (ap (λ b. cond b (Some e.1) (lookup (of_key to) rows)) other)
removed_other (e ∷ rows) (suc i) d to low other = ap (cond (bytes_eq e.0 to) (Some e.1)) (removed_other rows i d to (omega (arith, low)) other)

put_back : {X : Type 0} (rows : List (List ℕ × X)) (i : ℕ) (d : List ℕ × X) → i < length rows → insert (remove rows i) i (get_or rows i d) ≡ rows
put_back [] i d low = absurd (omega (arith, low))
put_back (e ∷ rows) zero d low = refl
put_back (e ∷ rows) (suc i) d low = ap (λ es. e ∷ es) (put_back rows i d (omega (arith, low)))

changed_between : {X : Type 0} (rows : List (List ℕ × X)) (i : ℕ) (d : List ℕ × X) (to : List ℕ) (w : X) → i < length rows → bytes_eq (get_or rows i d).0 to ≡ false
    → insert (set_value (of_key to) (remove rows i) w) i (get_or rows i d) ≡ set_value (of_key to) rows w
changed_between [] i d to w low other = absurd (omega (arith, low))
changed_between (e ∷ rows) zero d to w low other = sym (ap (λ b. cond b ((e.0, w) ∷ rows) (e ∷ set_value (of_key to) rows w)) other)
changed_between {X} (e ∷ rows) (suc i) d to w low other = by (bytes_eq e.0 to) (changed_between rows i d to w (omega (arith, low)) other) (put_back rows i d (omega (arith, low)))
  where
    by : (b : Bool) → insert (set_value (of_key to) (remove rows i) w) i (get_or rows i d) ≡ set_value (of_key to) rows w → insert (remove rows i) i (get_or rows i d) ≡ rows
        → insert (cond b ((e.0, w) ∷ remove rows i) (e ∷ set_value (of_key to) (remove rows i) w)) (suc i) (get_or rows i d) ≡ cond b ((e.0, w) ∷ rows) (e ∷ set_value (of_key to) rows w)
    by true there back = ap (λ es. (e.0, w) ∷ es) back
    by false there back = ap (λ es. e ∷ es) there

-- a row of one address, and not of another
not_other : {X : Type 0} (rows : List (List ℕ × X)) (i : ℕ) (d : List ℕ × X) (from to : List ℕ) → position (λ e. of_key from e.0) rows ≡ Some i → bytes_eq from to ≡ false → bytes_eq (get_or rows i d).0 to ≡ false
not_other rows i d from to is apart =
    let same : (get_or rows i d).0 ≡ from = (bytes_eq-Decides (get_or rows i d).0 from).0 ((is_row_at (of_key from) rows i d is).passes d) in
    ap (λ (k : List ℕ). bytes_eq k to) same ∙ apart

pub other_there : {X : Type 0} (rows items : List (List ℕ × X)) (i : ℕ) (d : List ℕ × X) (from to : List ℕ) → position (λ e. of_key from e.0) rows ≡ Some i → bytes_eq from to ≡ false → items ≡ remove rows i
    → lookup (of_key to) items ≡ lookup (of_key to) rows
other_there {X} rows items i d from to is apart are =
    ap (λ (es : List (List ℕ × X)). lookup (of_key to) es) are ∙ removed_other rows i d to (is_row_at (of_key from) rows i d is).below (not_other rows i d from to is apart)

-- the other has changed, and the first is where it was
pub both_there : {X : Type 0} (rows items : List (List ℕ × X)) (i j : ℕ) (taken other : List ℕ × X) (from to : List ℕ) (w : X) → position (λ e. of_key from e.0) rows ≡ Some i → taken ≡ get_or rows i taken
    → bytes_eq from to ≡ false → items ≡ remove rows i → position (λ e. of_key to e.0) items ≡ Some j → other ≡ get_or items j other → insert (set items j (other.0, w)) i taken ≡ set_value (of_key to) rows w
both_there {X} rows items i j taken other from to w is_i taken_is apart are is_j other_is =
    ap (λ (es : List (List ℕ × X)). insert es i taken) (row_set (of_key to) items j other w is_j other_is ∙ ap (λ (es : List (List ℕ × X)). set_value (of_key to) es w) are)
    ∙ ap (λ (r : List ℕ × X). insert (set_value (of_key to) (remove rows i) w) i r) taken_is
    ∙ changed_between rows i taken to w (is_row_at (of_key from) rows i taken is_i).below (not_other rows i taken from to is_i apart)

-- so the rows have what was moved, or a code
module _ (name : Option (List ℕ)) (from to : List ℕ) (rows : Platters) (image other : List ℕ) where
  moved_as : lookup (of_key from) rows ≡ Some image → lookup (of_key to) rows ≡ Some other → rows_moved name from to rows ≡ with_moved to rows (moved name image other)
  moved_as first second =
      ap (moved_from_row name to rows) first ∙ ap (moved_to_row name to rows image) second

  pub moved_with : {T E : Type 0} (w : List ℕ) (end : Platters) (r : Result T E) → lookup (of_key from) rows ≡ Some image → lookup (of_key to) rows ≡ Some other
      → OnOk r (moved name image other ≡ Ok w) → end ≡ set_value (of_key to) rows w → OnOk r (rows_moved name from to rows ≡ Ok end)
  moved_with w end (Ok x) first second is same = moved_as first second ∙ ap (with_moved to rows) is ∙ ap Ok (sym same)
  moved_with w end (Err e) first second is same = is

  fault_with : (f : Fault) (said : Result (List ℕ) ℕ) → MoveFails name said f → MoveFails name (with_moved to rows said) f
  fault_with (fault.Code code) said is = ap (with_moved to rows) is
  fault_with fault.NoMemory said is = is

  pub fails_with : {T : Type 0} (r : Result T Fault) → lookup (of_key from) rows ≡ Some image → lookup (of_key to) rows ≡ Some other
      → IfErr r (MoveFails name (moved name image other)) → IfErr r (MoveFails name (rows_moved name from to rows))
  fails_with (Ok x) first second is = is
  fails_with (Err f) first second is = subst (λ (said : Result Platters ℕ). MoveFails name said f) (sym (moved_as first second)) (fault_with f (moved name image other) is)
