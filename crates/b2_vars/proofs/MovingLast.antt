-- A block after an entry is moved after all others, and after its bytes are written there, however many.
use Rattle.std.proofs.Common.{◌≡◌, ℕ, ◌+◌, ◌-◌, ◌<◌, ◌≤◌, Bool, true, false, cond, List, [], ◌∷◌, ◌++◌, length, take, drop, get_or, map, set, Option, Some, refl, ap, ap₂, sym, subst, ◌∙◌, arith, true≢false, append_assoc, length-append, length-drop}
use Rattle.std.specs.Ordering.{eq_by_cmp}
use Rattle.std.specs.FinMap.{find, insert}
use Rattle.std.proofs.Math.Seq.{drop-append-add}
use Rattle.std.proofs.lemmas.List.{take_at, drop_at, take-append-le, drop-append-le, length-map, length-set, get_or-set_same, get_or-set_other}
use Rattle.b2_vars.specs.declared.name.Var.{Var}
use Rattle.b2_vars.specs.Names.{var_cmp, is_legal_name}
use Rattle.b2_vars.specs.Shapes.{cost}
use Rattle.b2_vars.specs.Variables.{VariableState, overwritten, with_bytes, bytes_from}
use Rattle.b2_vars.specs.Tables.{Entries, costs, table_of}
use Rattle.b2_vars.specs.Block.{head_bytes, value_bytes, entry_bytes, packed_numbers, spelled, number_of, place_of, place_from, lowered, without, stands_in, IsStored, AllStored, IsLaid}
use Rattle.b2_vars.proofs.Overwriting.{over-after-any, over-past, length-overwritten}
use Rattle.b2_vars.proofs.Heads.{overhead-some}
use Rattle.b2_vars.proofs.EntriesAsMap.{get_table, itself, tie, put_one}
use Rattle.b2_vars.proofs.NameNumbers.{number-back}
use Rattle.b2_vars.proofs.ReadEntries.{length-entry}
use Rattle.b2_vars.proofs.Standing.{not_in, under, spelled-append, length-spelled, costs-append, stored-front, stored-here, stored-rest}
use Rattle.b2_vars.proofs.Places.{place-gone, place-before-last, place-of-last, stored-last}
use Rattle.b2_vars.proofs.Shortening.{get-lowered, append_nothing}
use Rattle.b2_vars.proofs.Laying.{length-around, arranged}
use Rattle.b2_vars.proofs.Soundness.{bytes-kept}

-- WITHOUT A NAME
pub stands-append : (q : Var) (es fs : Entries) → stands_in q es ≡ false → stands_in q fs ≡ false → stands_in q (es ++ fs) ≡ false
stands-append q [] fs a b = b
stands-append q (e ∷ es) fs a b =
    let n = not_in q e es a in
    ap (λ b. cond b true (stands_in q (es ++ fs))) n.0 ∙ stands-append q es fs n.1 b

without-none : (v : Var) (es : Entries) → stands_in v es ≡ false → without v es ≡ es
without-none v [] none = refl
without-none v (e ∷ es) none =
    let n = not_in v e es none in
    ap (λ b. cond b (without v es) (e ∷ without v es)) n.0 ∙ ap (λ (fs : Entries). e ∷ fs) (without-none v es n.1)

pub without-around : (v : Var) (x : VariableState) (front rest : Entries) → stands_in v front ≡ false → stands_in v rest ≡ false → without v (front ++ (v, x) ∷ rest) ≡ front ++ rest
without-around v x [] rest a b = ap (λ c. cond c (without v rest) ((v, x) ∷ without v rest)) (itself v) ∙ without-none v rest b
without-around v x (e ∷ front) rest a b =
    let n = not_in v e front a in
    ap (λ c. cond c (without v (front ++ (v, x) ∷ rest)) (e ∷ without v (front ++ (v, x) ∷ rest))) n.0 ∙ ap (λ (fs : Entries). e ∷ fs) (without-around v x front rest n.1 b)

find-moved : (v : Var) (y : VariableState) (es : Entries) (q : Var) → find var_cmp q (without v es ++ (v, y) ∷ []) ≡ cond (eq_by_cmp var_cmp q v) (Some y) (find var_cmp q es)
find-moved v y [] q = refl
find-moved v y (e ∷ es) q = by (eq_by_cmp var_cmp v e.0) refl (find-moved v y es q)
  where
    twice : (here there : Bool) (a b old : Option VariableState) → (here ≡ false → there ≡ false) → cond here a old ≡ cond here a (cond there b old)
    twice true there a b old apart = refl
    twice false there a b old apart = sym (ap (λ c. cond c b old) (apart refl))

    by : (c : Bool) → eq_by_cmp var_cmp v e.0 ≡ c → find var_cmp q (without v es ++ (v, y) ∷ []) ≡ cond (eq_by_cmp var_cmp q v) (Some y) (find var_cmp q es)
        → find var_cmp q (cond (eq_by_cmp var_cmp v e.0) (without v es) (e ∷ without v es) ++ (v, y) ∷ []) ≡ cond (eq_by_cmp var_cmp q v) (Some y) (cond (eq_by_cmp var_cmp q e.0) (Some e.1) (find var_cmp q es))
    by true t later =
        ap (λ c. find var_cmp q (cond c (without v es) (e ∷ without v es) ++ (v, y) ∷ [])) t ∙ later
        ∙ twice (eq_by_cmp var_cmp q v) (eq_by_cmp var_cmp q e.0) (Some y) (Some e.1) (find var_cmp q es) (λ n. ap (eq_by_cmp var_cmp q) (sym (tie v e.0 t)) ∙ n)
    by false t later =
        ap (λ c. find var_cmp q (cond c (without v es) (e ∷ without v es) ++ (v, y) ∷ [])) t
        ∙ under (find var_cmp q (without v es ++ (v, y) ∷ [])) (find var_cmp q es) (eq_by_cmp var_cmp q v) (eq_by_cmp var_cmp q e.0) (Some y) (Some e.1)
        (λ n. ap (λ (w : Var). eq_by_cmp var_cmp w e.0) (tie q v n) ∙ t) later

-- the map has what the moved entry has
pub table-moved : (v : Var) (y : VariableState) (es : Entries) → table_of (without v es ++ (v, y) ∷ []) ≡ insert (table_of es) v y
table-moved v y es =
    put_one (table_of es) _ v y (λ q. get_table (without v es ++ (v, y) ∷ []) q ∙ find-moved v y es q ∙ ap (cond (eq_by_cmp var_cmp q v) (Some y)) (sym (get_table es q)))

stored-gone : (v : Var) (x : VariableState) (front rest : Entries) → AllStored (front ++ (v, x) ∷ rest) → AllStored (front ++ rest)
stored-gone v x [] rest all = all.2
stored-gone v x (e ∷ front) rest all = (all.0, fewer front e.0 all.1, stored-gone v x front rest all.2)
  where
    fewer : (front : Entries) (q : Var) → stands_in q (front ++ (v, x) ∷ rest) ≡ false → stands_in q (front ++ rest) ≡ false
    fewer [] q none = (not_in q (v, x) rest none).1
    fewer (f ∷ front) q none =
        let n = not_in q f (front ++ (v, x) ∷ rest) none in
        ap (λ b. cond b true (stands_in q (front ++ rest))) n.0 ∙ fewer front q n.1

places-moved : (v : Var) (x y : VariableState) (front rest : Entries) (places : List ℕ) (past by last : ℕ) → past ≡ 1 + costs front → by ≡ cost v x.shape → last ≡ 1 + costs (front ++ rest) → is_legal_name v ≡ true
    → stands_in v (front ++ rest) ≡ false → number_of v < length places
    → ((q : Var) → is_legal_name q ≡ true → get_or places (number_of q) 0 ≡ place_of q (front ++ (v, x) ∷ rest))
    → (q : Var) → is_legal_name q ≡ true → get_or (set (map (lowered past by) places) (number_of v) last) (number_of q) 0 ≡ place_of q ((front ++ rest) ++ (v, y) ∷ [])
unfolding place_of
places-moved v x y front rest places past by last is less end named none below old q legal = which (eq_by_cmp var_cmp q v) refl
  where
    low : List ℕ
    low = map (lowered past by) places

    which : (b : Bool) → eq_by_cmp var_cmp q v ≡ b → get_or (set (map (lowered past by) places) (number_of v) last) (number_of q) 0 ≡ place_from 1 q ((front ++ rest) ++ (v, y) ∷ [])
    which true t =
        let e = tie q v t in
        ap (λ (w : Var). get_or (set (map (lowered past by) places) (number_of v) last) (number_of w) 0) e ∙ get_or-set_same (map (lowered past by) places) (number_of v) last 0 (omega (arith, below, length-map places (lowered past by)))
        ∙ end ∙ sym (place-of-last v y 1 (front ++ rest) none) ∙ ap (λ (w : Var). place_from 1 w ((front ++ rest) ++ (v, y) ∷ [])) (sym e)
    which false t =
        get_or-set_other (map (lowered past by) places) (number_of v) (number_of q) last 0 (λ w. true≢false (sym (itself v) ∙ ap (λ (u : Var). eq_by_cmp var_cmp u v) (sym (number-back q v legal named w)) ∙ t))
        ∙ get-lowered past by places (number_of q) ∙ ap (lowered past by) (old q legal)
        ∙ ap₂ (λ (m n : ℕ). lowered m n (place_from 1 q (front ++ (v, x) ∷ rest))) is less
        ∙ sym (place-gone q v x front rest 1 t (omega (arith, overhead-some v)))
        ∙ sym (place-before-last q v y 1 (front ++ rest) t)

module _ (v : Var) (x : VariableState) (front rest : Entries) (block : List ℕ) (used : ℕ) (places : List ℕ) (laid : IsLaid block used places (front ++ (v, x) ∷ rest)) (absent : stands_in v front ≡ false) (below : number_of v < 1144) where
  is : IsStored v x
  is = stored-here v x front rest laid.stored

  starts : length (spelled front) ≡ costs front
  starts = length-spelled front (stored-front front ((v, x) ∷ rest) laid.stored)

  rest_long : length (spelled rest) ≡ costs rest
  rest_long = let all = stored-rest front ((v, x) ∷ rest) laid.stored in length-spelled rest all.2

  entry_long : length (entry_bytes (v, x)) ≡ cost v x.shape
  entry_long = length-entry v x is.variable

  pub used_is : used ≡ costs front + cost v x.shape + costs rest
  used_is = omega (arith, laid.counted, length-around v x front rest, starts, length-append (head_bytes v x.shape x.common) (value_bytes x), entry_long, rest_long)

  none_after : stands_in v rest ≡ false
  none_after = let all = stored-rest front ((v, x) ∷ rest) laid.stored in all.1

  -- the block with the entry's bytes after those of the others
  abbrev pub turned_bytes : ℕ → List ℕ
  turned_bytes at = take at block ++ (drop (cost v x.shape) (take (used - at) (drop at block)) ++ (take (cost v x.shape) (take (used - at) (drop at block)) ++ drop used block))

  pub turned-is : (at : ℕ) → at ≡ costs front → turned_bytes at ≡ spelled front ++ (spelled rest ++ (entry_bytes (v, x) ++ laid.rest))
  turned-is at at_is =
      let e = entry_bytes (v, x) in
      let s = spelled rest in
      let whole = laid.written ∙ arranged v x front rest laid.rest in
      let start : length (spelled front) ≡ at = starts ∙ sym at_is in
      let first : take at block ≡ spelled front = ap (take at) whole ∙ take_at (spelled front) (e ++ (s ++ laid.rest)) at start in
      let after : drop at block ≡ (e ++ s) ++ laid.rest = ap (drop at) whole ∙ drop_at (spelled front) (e ++ (s ++ laid.rest)) at start ∙ sym (append_assoc e s laid.rest) in
      let long : length (e ++ s) ≡ used - at = omega (arith, length-append e s, entry_long, rest_long, used_is, at_is) in
      let middle : take (used - at) (drop at block) ≡ e ++ s = ap (take (used - at)) after ∙ take_at (e ++ s) laid.rest (used - at) long in
      let last : drop used block ≡ laid.rest = ap (drop used) laid.written ∙ drop_at (spelled (front ++ (v, x) ∷ rest)) laid.rest used (sym laid.counted) in
      ap₂ (λ (a m : List ℕ). a ++ (drop (cost v x.shape) m ++ (take (cost v x.shape) m ++ drop used block))) first middle
      ∙ ap₂ (λ (p q : List ℕ). spelled front ++ (p ++ (q ++ drop used block))) (drop_at e s (cost v x.shape) entry_long) (take_at e s (cost v x.shape) entry_long)
      ∙ ap (λ (r : List ℕ). spelled front ++ (s ++ (e ++ r))) last

  abbrev before : List ℕ
  before = spelled front ++ (spelled rest ++ (head_bytes v x.shape x.common ++ packed_numbers x.numbers))

  -- with the bytes of its values apart
  regrouped : (at : ℕ) → at ≡ costs front → turned_bytes at ≡ before ++ (x.bytes ++ laid.rest)
  regrouped at at_is =
      let h = head_bytes v x.shape x.common ++ packed_numbers x.numbers in
      turned-is at at_is
      ∙ ap (λ (c : List ℕ). spelled front ++ (spelled rest ++ c)) (ap (λ (c : List ℕ). c ++ laid.rest) (sym (append_assoc (head_bytes v x.shape x.common) (packed_numbers x.numbers) x.bytes)) ∙ append_assoc h x.bytes laid.rest)
      ∙ ap (λ (c : List ℕ). spelled front ++ c) (sym (append_assoc (spelled rest) h (x.bytes ++ laid.rest)))
      ∙ sym (append_assoc (spelled front) (spelled rest ++ h) (x.bytes ++ laid.rest))

  before-long : (from a : ℕ) → a + length x.bytes ≡ used + from → a ≡ length before + from
  before-long from a a_is =
      let h = head_bytes v x.shape x.common ++ packed_numbers x.numbers in
      let entry_split : length h + length x.bytes ≡ cost v x.shape =
      sym (length-append h x.bytes) ∙ ap (λ (c : List ℕ). length c) (append_assoc (head_bytes v x.shape x.common) (packed_numbers x.numbers) x.bytes) ∙ entry_long in
      omega (arith, a_is, length-append (spelled front) (spelled rest ++ h), length-append (spelled rest) h, starts, rest_long, used_is, entry_split)

  -- a part of them, where it stands then
  pub lent-part : (at from a n : ℕ) → at ≡ costs front → a + length x.bytes ≡ used + from → from + n ≤ length x.bytes → take n (drop a (turned_bytes at)) ≡ bytes_from from n x.bytes
  lent-part at from a n at_is a_is low =
      let m : from + n - from ≡ n = omega arith in
      ap₂ (λ (k : ℕ) (c : List ℕ). take n (drop k c)) (before-long from a a_is) (regrouped at at_is)
      ∙ ap (take n) (drop-append-add before (x.bytes ++ laid.rest) from ∙ drop-append-le from x.bytes laid.rest (omega (arith, low)))
      ∙ take-append-le n (drop from x.bytes) laid.rest (omega (arith, low, length-drop from x.bytes))
      ∙ ap (λ (k : ℕ). take k (drop from x.bytes)) (sym m)

  length-turned : (at : ℕ) → at ≡ costs front → length (turned_bytes at) ≡ length block
  length-turned at at_is =
      let e = entry_bytes (v, x) in
      let s = spelled rest in
      omega (
        arith,
        ap (λ (c : List ℕ). length c) (turned-is at at_is),
        ap (λ (c : List ℕ). length c) (laid.written ∙ arranged v x front rest laid.rest),
        length-append (spelled front) (s ++ (e ++ laid.rest)),
        length-append s (e ++ laid.rest),
        length-append e laid.rest,
        length-append (spelled front) (e ++ (s ++ laid.rest)),
        length-append e (s ++ laid.rest),
        length-append s laid.rest,
      )

  pub lent-laid : (at from a : ℕ) (w : List ℕ) → at ≡ costs front → a + length x.bytes ≡ used + from → from ≤ length x.bytes
      → IsLaid (overwritten a w (turned_bytes at)) used (set (map (lowered (at + 1) (cost v x.shape)) places) (number_of v) (used - cost v x.shape + 1)) (without v (front ++ (v, x) ∷ rest) ++ (v, with_bytes from x w) ∷ [])
  lent-laid at from a w at_is a_is low =
      let h = head_bytes v x.shape x.common ++ packed_numbers x.numbers in
      let y = with_bytes from x w in
      let spilt = drop (length x.bytes) (overwritten from w (x.bytes ++ laid.rest)) in
      let b_long = before-long from a a_is in
      let others = without-around v x front rest absent none_after in
      let spelled_new : spelled ((front ++ rest) ++ (v, y) ∷ []) ≡ before ++ y.bytes =
      spelled-append (front ++ rest) ((v, y) ∷ []) ∙ ap₂ (λ (c d : List ℕ). c ++ d) (spelled-append front rest) (append_nothing (entry_bytes (v, y)))
      ∙ append_assoc (spelled front) (spelled rest) (entry_bytes (v, y))
      ∙ ap (λ (c : List ℕ). spelled front ++ (spelled rest ++ c)) (sym (append_assoc (head_bytes v x.shape x.common) (packed_numbers x.numbers) y.bytes))
      ∙ ap (λ (c : List ℕ). spelled front ++ c) (sym (append_assoc (spelled rest) h y.bytes))
      ∙ sym (append_assoc (spelled front) (spelled rest ++ h) y.bytes) in
      subst (IsLaid (overwritten a w (turned_bytes at)) used (set (map (lowered (at + 1) (cost v x.shape)) places) (number_of v) (used - cost v x.shape + 1))) (ap (λ (es : Entries). es ++ (v, y) ∷ []) (sym others))
      (record {
        rest = spilt;
        written =
            ap₂ (λ (n : ℕ) (c : List ℕ). overwritten n w c) b_long (regrouped at at_is) ∙ over-after-any before (x.bytes ++ laid.rest) w from
            ∙ ap (λ (c : List ℕ). before ++ c) (over-past x.bytes laid.rest w from low) ∙ sym (append_assoc before y.bytes spilt) ∙ ap (λ (c : List ℕ). c ++ spilt) (sym spelled_new);
        counted = omega (arith, ap (λ (c : List ℕ). length c) spelled_new, length-append before y.bytes, length-overwritten from w x.bytes, b_long, a_is);
        short = omega (arith, length-overwritten a w (turned_bytes at), length-turned at at_is, laid.short);
        stored = stored-last v y (front ++ rest) (stored-gone v x front rest laid.stored) (stands-append v front rest absent none_after) (record { variable = bytes-kept v x from w is.variable; numbers = is.numbers });
        named = length-set (map (lowered (at + 1) (cost v x.shape)) places) (number_of v) (used - cost v x.shape + 1) ∙ length-map places (lowered (at + 1) (cost v x.shape)) ∙ laid.named;
        found = places-moved v x y front rest places (at + 1) (cost v x.shape) (used - cost v x.shape + 1) (omega (arith, at_is)) refl (omega (arith, used_is, costs-append front rest)) is.variable.named
            (stands-append v front rest absent none_after) (omega (arith, below, laid.named)) laid.found;
      })
