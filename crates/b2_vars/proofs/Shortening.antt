-- A block after a variable gets a shape that takes no more, and the block is closed up.
use Rattle.std.proofs.Common.{◌≡◌, ℕ, zero, suc, ◌+◌, ◌-◌, ◌*◌, ◌≤◌, Bool, true, false, cond, List, [], ◌∷◌, ◌++◌, length, take, drop, get_or, map, refl, ap, ap₂, sym, ◌∙◌, arith, append_assoc, length-append, length-drop}
use Rattle.std.specs.List.{copy_within}
use Rattle.std.proofs.lemmas.Bool.{le-ltb}
use Rattle.std.proofs.lemmas.List.{take_at, drop_at, take-append-drop, length-map}
use Rattle.std.proofs.Math.ListN.{get_or-map}
use Rattle.b2_dec.specs.Number.{Number}
use Rattle.b2_vars.specs.declared.name.Var.{Var}
use Rattle.b2_vars.specs.declared.shape.Shape.{Shape}
use Rattle.b2_vars.specs.Names.{is_legal_name}
use Rattle.b2_vars.specs.Shapes.{cost, overhead, size_of, cells, number_cells, alpha_bytes, has_dimensions, has_length}
use Rattle.b2_vars.specs.Variables.{VariableState, overwritten, reshaped}
use Rattle.b2_vars.specs.Tables.{Entries, costs, table_of, IsVariable}
use Rattle.b2_vars.specs.Calls.{with_variable}
use Rattle.b2_vars.specs.Block.{head_bytes, value_bytes, packed_numbers, spelled, number_of, place_of, place_from, lowered, stands_in, IsStored, IsLaid}
use Rattle.b2_vars.proofs.Overwriting.{over-at, length-overwritten}
use Rattle.b2_vars.proofs.Heads.{length-head, overhead-some}
use Rattle.b2_vars.proofs.PackedNumbers.{numbers-cut, all-take}
use Rattle.b2_vars.proofs.ReadEntries.{length-values, no_length}
use Rattle.b2_vars.proofs.Standing.{spelled-append, length-spelled, stored-front, stored-other, stored-here, stored-rest, table-other}
use Rattle.b2_vars.proofs.Places.{place-shorter}
use Rattle.b2_vars.proofs.Laying.{Shows, arranged, length-around}
use Rattle.b2_vars.proofs.Soundness.{reshaped-variable}

empty : {A : Type 0} (xs : List A) → length xs ≡ 0 → xs ≡ []
empty [] e = refl
empty (x ∷ xs) e = absurd (omega (arith, e))

pub append_nothing : (b : List ℕ) → b ++ [] ≡ b
append_nothing [] = refl
append_nothing (c ∷ b) = ap (λ (bs : List ℕ). c ∷ bs) (append_nothing b)

take_nothing : {A : Type 0} (n : ℕ) → take {A = A} n [] ≡ []
take_nothing zero = refl
take_nothing (suc n) = refl

times_zero : (n : ℕ) → n * 0 ≡ 0
times_zero n = omega arith

-- values that are cut, and the bytes that go
pub record IsCut (v : Var) (x : VariableState) (s : Shape) : Type 0 where
  pub gone : List ℕ
  pub is : value_bytes x ≡ value_bytes (reshaped v s x) ++ gone

cut-alpha : (v : Var) (x : VariableState) (s : Shape) → x.numbers ≡ [] → IsCut v x s
cut-alpha v x s none =
    let n = number_cells v s in
    let m = alpha_bytes s in
    let before : packed_numbers (take n x.numbers) ≡ [] = ap (λ (xs : List Number). packed_numbers (take n xs)) none ∙ ap packed_numbers (take_nothing n) in
    record {
      gone = drop m x.bytes;
      is = ap (λ (xs : List Number). packed_numbers xs ++ x.bytes) none ∙ sym (take-append-drop m x.bytes)
          ∙ ap (λ (b : List ℕ). (b ++ take m x.bytes) ++ drop m x.bytes) (sym before);
    }

cut-numbers : (v : Var) (x : VariableState) (s : Shape) → x.bytes ≡ [] → IsCut v x s
cut-numbers v x s none =
    let n = number_cells v s in
    let m = alpha_bytes s in
    let after : packed_numbers (take n x.numbers) ++ take m x.bytes ≡ packed_numbers (take n x.numbers) =
    ap (λ (b : List ℕ). packed_numbers (take n x.numbers) ++ b) (ap (take m) none ∙ take_nothing m) ∙ append_nothing (packed_numbers (take n x.numbers)) in
    record {
      gone = packed_numbers (drop n x.numbers);
      is = ap (λ (b : List ℕ). packed_numbers x.numbers ++ b) none ∙ append_nothing (packed_numbers x.numbers) ∙ numbers-cut n x.numbers
          ∙ ap (λ (b : List ℕ). b ++ packed_numbers (drop n x.numbers)) (sym after);
    }

pub values-cut : (v : Var) (x : VariableState) (s : Shape) → IsVariable v x → IsCut v x s
values-cut v x s is = by v.alpha refl
  where
    by : (b : Bool) → v.alpha ≡ b → IsCut v x s
    by true e = cut-alpha v x s (empty x.numbers (is.numbers ∙ ap (λ b. cond b 0 (cells x.shape)) e))
    by false e = cut-numbers v x s (empty x.bytes (is.bytes ∙ ap (λ (n : ℕ). cells x.shape * n) (no_length v x.shape is.value_length e) ∙ times_zero (cells x.shape)))

zero-kept : (past by : ℕ) → lowered past by 0 ≡ 0
zero-kept past by = ap (λ b. cond b (0 - by) 0) (le-ltb past 0 (omega arith))

pub get-lowered : (past by : ℕ) (places : List ℕ) (k : ℕ) → get_or (map (lowered past by) places) k 0 ≡ lowered past by (get_or places k 0)
get-lowered past by places k = ap (get_or (map (lowered past by) places) k) (sym (zero-kept past by)) ∙ get_or-map (lowered past by) places k 0

-- the bytes after a gap are moved to its start
pub gap-closed : (b a j c r : List ℕ) (i k n : ℕ) → b ≡ a ++ (j ++ (c ++ r)) → length a ≡ k → length (a ++ j) ≡ i → length c ≡ n
    → copy_within b i (i + n) k ≡ (a ++ c) ++ drop (k + n) b
gap-closed b a j c r i k n e ka ij cn =
    let front : take k b ≡ a = ap (take k) e ∙ take_at a (j ++ (c ++ r)) k ka in
    let later : drop i b ≡ c ++ r = ap (drop i) (e ∙ sym (append_assoc a j (c ++ r))) ∙ drop_at (a ++ j) (c ++ r) i ij in
    let m : i + n - i ≡ n = omega arith in
    ap₂ (λ (p q : List ℕ). (p ++ take (i + n - i) q) ++ drop (k + (i + n - i)) b) front later
    ∙ ap (λ (h : ℕ). (a ++ take h (c ++ r)) ++ drop (k + h) b) m
    ∙ ap (λ (p : List ℕ). (a ++ p) ++ drop (k + n) b) (take_at c r n cn)

places-shorter : (v : Var) (x y : VariableState) (front rest : Entries) (places : List ℕ) (past by : ℕ) → past ≡ 1 + costs front → cost v x.shape ≡ cost v y.shape + by → 1 ≤ cost v y.shape
    → ((q : Var) → is_legal_name q ≡ true → get_or places (number_of q) 0 ≡ place_of q (front ++ (v, x) ∷ rest))
    → (q : Var) → is_legal_name q ≡ true → get_or (map (lowered past by) places) (number_of q) 0 ≡ place_of q (front ++ (v, y) ∷ rest)
unfolding place_of
places-shorter v x y front rest places past by is less some old q legal =
    get-lowered past by places (number_of q) ∙ ap (lowered past by) (old q legal)
    ∙ ap (λ (n : ℕ). lowered n by (place_from 1 q (front ++ (v, x) ∷ rest))) is
    ∙ sym (place-shorter q v x y front rest 1 by less some)

module _ (v : Var) (x : VariableState) (front rest : Entries) (block : List ℕ) (used : ℕ) (places : List ℕ) (laid : IsLaid block used places (front ++ (v, x) ∷ rest)) (absent : stands_in v front ≡ false)
    (s : Shape) (dimensions : has_dimensions v s ≡ true) (value_length : has_length v s ≡ true) (room : size_of v s ≤ size_of v x.shape) where
  is : IsStored v x
  is = stored-here v x front rest laid.stored

  new : IsVariable v (reshaped v s x)
  new = reshaped-variable v s x is.variable dimensions value_length room

  cut : IsCut v x s
  cut = values-cut v x s is.variable

  starts : length (spelled front) ≡ costs front
  starts = length-spelled front (stored-front front ((v, x) ∷ rest) laid.stored)

  old_head : length (head_bytes v x.shape x.common) ≡ overhead v
  old_head = length-head v x.shape x.common

  new_head : length (head_bytes v s x.common) ≡ overhead v
  new_head = length-head v s x.common

  new_values : length (value_bytes (reshaped v s x)) ≡ size_of v s
  new_values = length-values v (reshaped v s x) new

  gone_is : length cut.gone + size_of v s ≡ size_of v x.shape
  gone_is =
      omega (arith, ap (λ (b : List ℕ). length b) cut.is, length-append (value_bytes (reshaped v s x)) cut.gone, length-values v x is.variable, new_values)

  rest_long : length (spelled rest) ≡ costs rest
  rest_long = let all = stored-rest front ((v, x) ∷ rest) laid.stored in length-spelled rest all.2

  -- with the new head in its place
  headed : overwritten (costs front) (head_bytes v s x.common) block ≡ spelled front ++ ((head_bytes v s x.common ++ value_bytes (reshaped v s x)) ++ (cut.gone ++ (spelled rest ++ laid.rest)))
  headed =
      let more = spelled rest ++ laid.rest in
      let vs = value_bytes (reshaped v s x) in
      ap (overwritten (costs front) (head_bytes v s x.common)) (laid.written ∙ arranged v x front rest laid.rest ∙ ap (λ (b : List ℕ). spelled front ++ b) (append_assoc (head_bytes v x.shape x.common) (value_bytes x) more))
      ∙ over-at (costs front) (spelled front) (head_bytes v x.shape x.common) (head_bytes v s x.common) (value_bytes x ++ more) starts (old_head ∙ sym new_head)
      ∙ ap (λ (b : List ℕ). spelled front ++ (head_bytes v s x.common ++ b)) (ap (λ (b : List ℕ). b ++ more) cut.is ∙ append_assoc vs cut.gone more)
      ∙ ap (λ (b : List ℕ). spelled front ++ b) (sym (append_assoc (head_bytes v s x.common) vs (cut.gone ++ more)))

  entry_long : length (head_bytes v s x.common ++ value_bytes (reshaped v s x)) ≡ cost v s
  entry_long = omega (arith, length-append (head_bytes v s x.common) (value_bytes (reshaped v s x)), new_head, new_values)

  kept_long : length (spelled front ++ (head_bytes v s x.common ++ value_bytes (reshaped v s x))) ≡ costs front + cost v s
  kept_long = omega (arith, length-append (spelled front) (head_bytes v s x.common ++ value_bytes (reshaped v s x)), starts, entry_long)

  used_is : used ≡ costs front + cost v x.shape + costs rest
  used_is = omega (arith, laid.counted, length-around v x front rest, starts, old_head, length-values v x is.variable, rest_long)

  spelled_new : spelled (front ++ (v, reshaped v s x) ∷ rest) ≡ (spelled front ++ (head_bytes v s x.common ++ value_bytes (reshaped v s x))) ++ spelled rest
  spelled_new = spelled-append front ((v, reshaped v s x) ∷ rest) ∙ sym (append_assoc (spelled front) (head_bytes v s x.common ++ value_bytes (reshaped v s x)) (spelled rest))

  pub shows-shorter : (at gap : ℕ) → at ≡ costs front → gap + size_of v s ≡ size_of v x.shape
      → Shows (copy_within (overwritten at (head_bytes v s x.common) block) (at + cost v x.shape) used (at + cost v s)) (used - gap) (map (lowered (at + 1) gap) places)
      (with_variable v (reshaped v s x) (record { area = length block; table = table_of (front ++ (v, x) ∷ rest) }))
  shows-shorter at gap at_is gap_is =
      let b = overwritten at (head_bytes v s x.common) block in
      let a = spelled front ++ (head_bytes v s x.common ++ value_bytes (reshaped v s x)) in
      let c = spelled rest in
      let whole : b ≡ a ++ (cut.gone ++ (c ++ laid.rest)) =
      ap (λ (n : ℕ). overwritten n (head_bytes v s x.common) block) at_is ∙ headed ∙ sym (append_assoc (spelled front) (head_bytes v s x.common ++ value_bytes (reshaped v s x)) (cut.gone ++ (c ++ laid.rest))) in
      let a_long : length a ≡ at + cost v s = omega (arith, kept_long, at_is) in
      let i_long : length (a ++ cut.gone) ≡ at + cost v x.shape = omega (arith, length-append a cut.gone, kept_long, at_is, gone_is) in
      let end : used ≡ at + cost v x.shape + costs rest = omega (arith, used_is, at_is) in
      let closed : copy_within b (at + cost v x.shape) used (at + cost v s) ≡ (a ++ c) ++ drop (at + cost v s + costs rest) b =
      ap (λ (n : ℕ). copy_within b (at + cost v x.shape) n (at + cost v s)) end ∙ gap-closed b a cut.gone c laid.rest (at + cost v x.shape) (at + cost v s) (costs rest) whole a_long i_long rest_long in
      let long : length (copy_within b (at + cost v x.shape) used (at + cost v s)) ≡ length block =
      omega (
        arith,
        ap (λ (bs : List ℕ). length bs) closed,
        length-append (a ++ c) (drop (at + cost v s + costs rest) b),
        length-append a c,
        a_long,
        rest_long,
        length-drop (at + cost v s + costs rest) b,
        length-overwritten at (head_bytes v s x.common) block,
        ap (λ (bs : List ℕ). length bs) whole,
        length-append a (cut.gone ++ (c ++ laid.rest)),
        length-append cut.gone (c ++ laid.rest),
        length-append c laid.rest,
      ) in
      record {
        entries = front ++ (v, reshaped v s x) ∷ rest;
        laid = record {
          rest = drop (at + cost v s + costs rest) b;
          written = closed ∙ ap (λ (bs : List ℕ). bs ++ drop (at + cost v s + costs rest) b) (sym spelled_new);
          counted = omega (arith, end, gap_is, ap (λ (bs : List ℕ). length bs) spelled_new, length-append a c, a_long, rest_long);
          short = omega (arith, long, laid.short);
          stored = stored-other v x (reshaped v s x) front rest laid.stored (record { variable = new; numbers = all-take (number_cells v s) x.numbers is.numbers });
          named = length-map places (lowered (at + 1) gap) ∙ laid.named;
          found = places-shorter v x (reshaped v s x) front rest places (at + 1) gap (omega (arith, at_is)) (omega (arith, gap_is)) (omega (arith, overhead-some v)) laid.found;
        };
        state = λ i. record { area = long i; table = table-other v x (reshaped v s x) front rest absent i };
      }
