-- A block while the entries of common variables are moved to its front, one after another, and the others go.
use Rattle.std.proofs.Common.{◌≡◌, ℕ, ◌+◌, ◌-◌, ◌<◌, ◌≤◌, Bool, true, false, cond, List, [], ◌∷◌, ◌++◌, length, drop, get_or, set, Some, None, refl, ap, ap₂, sym, subst, ◌∙◌, arith, true≢false, append_assoc, length-append, length-drop}
use Rattle.std.specs.List.{copy_within}
use Rattle.std.specs.Ordering.{eq_by_cmp}
use Rattle.std.specs.Option.{option_map_or}
use Rattle.std.specs.FinMap.{find, same_map}
use Rattle.std.proofs.lemmas.List.{drop_at, drop-append-le, length-set, get_or-set_same, get_or-set_other}
use Rattle.std.proofs.Math.Seq.{drop-append-add}
use Rattle.std.proofs.lemmas.List.Edits.{length-paste}
use Rattle.b2_vars.specs.declared.name.Var.{Var}
use Rattle.b2_vars.specs.declared.shape.Shape.{Shape}
use Rattle.b2_vars.specs.Names.{var_cmp, is_legal_name}
use Rattle.b2_vars.specs.Shapes.{cost}
use Rattle.b2_vars.specs.Variables.{VariableState}
use Rattle.b2_vars.specs.Tables.{Entries, costs, table_of}
use Rattle.b2_vars.specs.Calls.{common_only}
use Rattle.b2_vars.specs.Block.{entry_bytes, head_bytes, value_bytes, spelled, number_of, place_of, place_from, stands_in, common_entries, read_name, read_shape, read_common, IsStored, AllStored, IsLaid, IsKept}
use Rattle.b2_vars.proofs.Heads.{length-head, overhead-some}
use Rattle.b2_vars.proofs.NamesAsKeys.{names_total, names_exact}
use Rattle.b2_vars.proofs.EntriesAsMap.{get_table, itself, tie, turned}
use Rattle.b2_vars.proofs.NameNumbers.{number-back}
use Rattle.b2_vars.proofs.ReadEntries.{length-entry, name-here, shape-here, common-here}
use Rattle.b2_vars.proofs.Soundness.{get-common}
use Rattle.b2_vars.proofs.StoredEntries.{find-nowhere}
use Rattle.b2_vars.proofs.Standing.{not_in, spelled-append, length-spelled, stored-front, stored-rest, nowhere}
use Rattle.b2_vars.proofs.Places.{place-before-last, place-of-last}
use Rattle.b2_vars.proofs.Shortening.{append_nothing, gap-closed}

-- THE COMMON ENTRIES
common-append : (es fs : Entries) → common_entries (es ++ fs) ≡ common_entries es ++ common_entries fs
common-append [] fs = refl
common-append (e ∷ es) fs = by e.1.common (common-append es fs)
  where
    by : (b : Bool) → common_entries (es ++ fs) ≡ common_entries es ++ common_entries fs
        → cond b (e ∷ common_entries (es ++ fs)) (common_entries (es ++ fs)) ≡ cond b (e ∷ common_entries es) (common_entries es) ++ common_entries fs
    by true h = ap (λ (gs : Entries). e ∷ gs) h
    by false h = h

stands-common : (q : Var) (es : Entries) → stands_in q es ≡ false → stands_in q (common_entries es) ≡ false
stands-common q [] none = refl
stands-common q (e ∷ es) none =
    let n = not_in q e es none in
    by e.1.common n.0 (stands-common q es n.1)
  where
    by : (b : Bool) → eq_by_cmp var_cmp q e.0 ≡ false → stands_in q (common_entries es) ≡ false → stands_in q (cond b (e ∷ common_entries es) (common_entries es)) ≡ false
    by true n h = ap (λ c. cond c true (stands_in q (common_entries es))) n ∙ h
    by false n h = h

stored-common : (es : Entries) → AllStored es → AllStored (common_entries es)
stored-common [] all = tt
stored-common (e ∷ es) all = by e.1.common (stored-common es all.2)
  where
    by : (b : Bool) → AllStored (common_entries es) → AllStored (cond b (e ∷ common_entries es) (common_entries es))
    by true h = (all.0, stands-common e.0 es all.1, h)
    by false h = h

find-common : (q : Var) (es : Entries) → AllStored es → find var_cmp q (common_entries es) ≡ cond (option_map_or (λ (x : VariableState). x.common) (find var_cmp q es) false) (find var_cmp q es) None
find-common q [] all = refl
find-common q (e ∷ es) all =
    by (eq_by_cmp var_cmp q e.0) e.1.common refl refl (find-common q es all.2)
  where
    none_else : eq_by_cmp var_cmp q e.0 ≡ true → find var_cmp q (common_entries es) ≡ None
    none_else t = find-nowhere q (common_entries es) (ap (λ (w : Var). stands_in w (common_entries es)) (tie q e.0 t) ∙ stands-common e.0 es all.1)

    by : (here common : Bool) → eq_by_cmp var_cmp q e.0 ≡ here → e.1.common ≡ common
        → find var_cmp q (common_entries es) ≡ cond (option_map_or (λ (x : VariableState). x.common) (find var_cmp q es) false) (find var_cmp q es) None
        → find var_cmp q (cond e.1.common (e ∷ common_entries es) (common_entries es))
        ≡ cond (option_map_or (λ (x : VariableState). x.common) (cond (eq_by_cmp var_cmp q e.0) (Some e.1) (find var_cmp q es)) false) (cond (eq_by_cmp var_cmp q e.0) (Some e.1) (find var_cmp q es)) None
    by true true t c h =
        ap (λ b. find var_cmp q (cond b (e ∷ common_entries es) (common_entries es))) c
        ∙ ap (λ b. cond b (Some e.1) (find var_cmp q (common_entries es))) t
        ∙ sym (ap (λ b. cond (option_map_or (λ (x : VariableState). x.common) (cond b (Some e.1) (find var_cmp q es)) false) (cond b (Some e.1) (find var_cmp q es)) None) t
        ∙ ap (λ b. cond b (Some e.1) None) c)
    by true false t c h =
        ap (λ b. find var_cmp q (cond b (e ∷ common_entries es) (common_entries es))) c ∙ none_else t
        ∙ sym (ap (λ b. cond (option_map_or (λ (x : VariableState). x.common) (cond b (Some e.1) (find var_cmp q es)) false) (cond b (Some e.1) (find var_cmp q es)) None) t
        ∙ ap (λ b. cond b (Some e.1) None) c)
    by false true t c h =
        ap (λ b. find var_cmp q (cond b (e ∷ common_entries es) (common_entries es))) c
        ∙ ap (λ b. cond b (Some e.1) (find var_cmp q (common_entries es))) t ∙ h
        ∙ sym (ap (λ b. cond (option_map_or (λ (x : VariableState). x.common) (cond b (Some e.1) (find var_cmp q es)) false) (cond b (Some e.1) (find var_cmp q es)) None) t)
    by false false t c h =
        ap (λ b. find var_cmp q (cond b (e ∷ common_entries es) (common_entries es))) c ∙ h
        ∙ sym (ap (λ b. cond (option_map_or (λ (x : VariableState). x.common) (cond b (Some e.1) (find var_cmp q es)) false) (cond b (Some e.1) (find var_cmp q es)) None) t)

-- they stand for the common variables
pub table-common : (es : Entries) → AllStored es → table_of (common_entries es) ≡ common_only (table_of es)
table-common es all = same_map names_total names_exact _ _ (λ q.
    get_table (common_entries es) q ∙ find-common q es all
    ∙ ap (λ o. cond (option_map_or (λ (x : VariableState). x.common) o false) o None) (sym (get_table es q))
    ∙ sym (get-common (table_of es) q))

-- FROM THE START TO THE END
pub kept-start : (bytes : List ℕ) (used : ℕ) (places : List ℕ) (es : Entries) → IsLaid bytes used places es → IsKept bytes 0 0 used places es
kept-start bytes used places es laid = record {
  done = [];
  left = es;
  gap = [];
  free = laid.rest;
  all = refl;
  short = laid.short;
  stored = laid.stored;
  written = laid.written;
  from_is = refl;
  to_is = refl;
  used_is = omega (arith, laid.counted);
  named = laid.named;
  found = laid.found;
}

nothing_left : (es : Entries) → length (spelled es) ≡ 0 → es ≡ []
nothing_left [] e = refl
nothing_left (x ∷ es) e = absurd (omega (arith, e, length-append (entry_bytes x) (spelled es), length-append (head_bytes x.0 x.1.shape x.1.common) (value_bytes x.1), length-head x.0 x.1.shape x.1.common, overhead-some x.0))

chosen : (b : Bool) (m n : ℕ) → (b ≡ false → n ≡ m) → cond b m n ≡ m
chosen true m n h = refl
chosen false m n h = h refl

pub kept-end : (bytes : List ℕ) (from to used : ℕ) (places : List ℕ) (es : Entries) → IsKept bytes from to used places es → used ≤ from → IsLaid bytes to places (common_entries es)
unfolding place_of
kept-end bytes from to used places es kept past =
    let none : kept.left ≡ [] = nothing_left kept.left (omega (arith, past, kept.used_is)) in
    let all : es ≡ kept.done = kept.all ∙ ap (λ (ls : Entries). kept.done ++ ls) none ∙ nothing_after kept.done in
    let same = ap common_entries all in
    record {
      rest = kept.gap ++ (spelled kept.left ++ kept.free);
      written = kept.written ∙ ap (λ (fs : Entries). spelled fs ++ (kept.gap ++ (spelled kept.left ++ kept.free))) (sym same);
      counted = kept.to_is ∙ ap (λ (fs : Entries). length (spelled fs)) (sym same);
      short = kept.short;
      stored = stored-common es kept.stored;
      named = kept.named;
      found = λ q legal.
          kept.found q legal
          ∙ ap₂ (λ (ds es' : Entries). cond (stands_in q ds) (place_from 1 q (common_entries ds)) (place_from 1 q es')) (sym all) refl
          ∙ chosen (stands_in q es) (place_from 1 q (common_entries es)) (place_from 1 q es) (λ n. nowhere q 1 es n ∙ sym (nowhere q 1 (common_entries es) (stands-common q es n)));
    }
  where
    nothing_after : (es : Entries) → es ++ [] ≡ es
    nothing_after [] = refl
    nothing_after (e ∷ es) = ap (λ (fs : Entries). e ∷ fs) (nothing_after es)

-- THE NEXT ENTRY
pub length-moved : (b : List ℕ) (from n to : ℕ) → to ≤ from → from + n ≤ length b → length (copy_within b from (from + n) to) ≡ length b
length-moved b from n to low room = length-paste b to (drop from b) (from + n - from) (omega (arith, low, room)) (omega (arith, room, length-drop from b))

apart-middle : (q v : Var) (x : VariableState) (done left : Entries) → stands_in q (done ++ (v, x) ∷ left) ≡ false → eq_by_cmp var_cmp q v ≡ false
apart-middle q v x [] left none = (not_in q (v, x) left none).0
apart-middle q v x (e ∷ done) left none = apart-middle q v x done left (not_in q e (done ++ (v, x) ∷ left) none).1

not-before : (v : Var) (x : VariableState) (done left : Entries) → AllStored (done ++ (v, x) ∷ left) → stands_in v done ≡ false
not-before v x [] left all = refl
not-before v x (e ∷ done) left all =
    ap (λ b. cond b true (stands_in v done)) (turned v e.0 ∙ apart-middle e.0 v x done left all.1) ∙ not-before v x done left all.2

stands-end : (v : Var) (x : VariableState) (done : Entries) → stands_in v (done ++ (v, x) ∷ []) ≡ true
stands-end v x [] = ap (λ b. cond b true false) (itself v)
stands-end v x (e ∷ done) = by (eq_by_cmp var_cmp v e.0) (stands-end v x done)
  where
    by : (b : Bool) → stands_in v (done ++ (v, x) ∷ []) ≡ true → cond b true (stands_in v (done ++ (v, x) ∷ [])) ≡ true
    by true h = refl
    by false h = h

stands-other-end : (q v : Var) (x : VariableState) (done : Entries) → eq_by_cmp var_cmp q v ≡ false → stands_in q (done ++ (v, x) ∷ []) ≡ stands_in q done
stands-other-end q v x [] other = ap (λ b. cond b true false) other
stands-other-end q v x (e ∷ done) other = ap (cond (eq_by_cmp var_cmp q e.0) true) (stands-other-end q v x done other)

common-end : (v : Var) (x : VariableState) (done : Entries) → x.common ≡ true → common_entries (done ++ (v, x) ∷ []) ≡ common_entries done ++ (v, x) ∷ []
common-end v x done is = common-append done ((v, x) ∷ []) ∙ ap (λ b. common_entries done ++ cond b ((v, x) ∷ []) []) is

other-end : (v : Var) (x : VariableState) (done : Entries) → x.common ≡ false → common_entries (done ++ (v, x) ∷ []) ≡ common_entries done
other-end v x done is = common-append done ((v, x) ∷ []) ∙ ap (λ b. common_entries done ++ cond b ((v, x) ∷ []) []) is ∙ entries_end (common_entries done)
  where
    entries_end : (es : Entries) → es ++ [] ≡ es
    entries_end [] = refl
    entries_end (e ∷ es) = ap (λ (fs : Entries). e ∷ fs) (entries_end es)

pub record IsNext (left : Entries) : Type 0 where
  pub v : Var
  pub x : VariableState
  pub others : Entries
  pub is : left ≡ (v, x) ∷ others

pub next : (left : Entries) → 1 ≤ length (spelled left) → IsNext left
next [] some = absurd (omega (arith, some))
next (e ∷ left) some = record { v = e.0; x = e.1; others = left; is = refl }

module _ (bytes : List ℕ) (from to used : ℕ) (places : List ℕ) (es : Entries) (kept : IsKept bytes from to used places es) (more : from < used) where
  pub first : IsNext kept.left
  first = next kept.left (omega (arith, more, kept.used_is))

  all-there : es ≡ kept.done ++ (first.v, first.x) ∷ first.others
  all-there = kept.all ∙ ap (λ (ls : Entries). kept.done ++ ls) first.is

  stored-there : AllStored (kept.done ++ (first.v, first.x) ∷ first.others)
  stored-there = subst AllStored all-there kept.stored

  pub is-stored : IsStored first.v first.x
  is-stored = let all = stored-rest kept.done ((first.v, first.x) ∷ first.others) stored-there in all.0

  before : stands_in first.v kept.done ≡ false
  before = not-before first.v first.x kept.done first.others stored-there

  entry_long : length (entry_bytes (first.v, first.x)) ≡ cost first.v first.x.shape
  entry_long = length-entry first.v first.x is-stored.variable

  written-here : bytes ≡ spelled (common_entries kept.done) ++ (kept.gap ++ (entry_bytes (first.v, first.x) ++ (spelled first.others ++ kept.free)))
  written-here =
      kept.written
      ∙ ap (λ (ls : Entries). spelled (common_entries kept.done) ++ (kept.gap ++ (spelled ls ++ kept.free))) first.is
      ∙ ap (λ (b : List ℕ). spelled (common_entries kept.done) ++ (kept.gap ++ b)) (append_assoc (entry_bytes (first.v, first.x)) (spelled first.others) kept.free)

  pub bytes-here : drop from bytes ≡ entry_bytes (first.v, first.x) ++ (spelled first.others ++ kept.free)
  bytes-here =
      let a = spelled (common_entries kept.done) in
      let more = entry_bytes (first.v, first.x) ++ (spelled first.others ++ kept.free) in
      ap (drop from) (written-here ∙ sym (append_assoc a kept.gap more)) ∙ drop_at (a ++ kept.gap) more from (omega (arith, length-append a kept.gap, kept.from_is, kept.to_is))

  used-split : used ≡ from + cost first.v first.x.shape + length (spelled first.others)
  used-split = omega (arith, kept.used_is, ap (λ (ls : Entries). length (spelled ls)) first.is, length-append (entry_bytes (first.v, first.x)) (spelled first.others), entry_long)

  pub room-here : from + cost first.v first.x.shape ≤ used
  room-here = omega (arith, used-split)

  pub used-low : used ≤ length bytes
  used-low =
      let a = spelled (common_entries kept.done) in
      let e = entry_bytes (first.v, first.x) in
      let rest = spelled first.others ++ kept.free in
      omega (arith, ap (λ (b : List ℕ). length b) written-here, length-append a (kept.gap ++ (e ++ rest)), length-append kept.gap (e ++ rest), length-append e rest, length-append (spelled first.others) kept.free, entry_long, used-split, kept.from_is, kept.to_is)

  pub name-is : read_name (drop from bytes) ≡ first.v
  name-is = ap read_name bytes-here ∙ name-here first.v first.x (spelled first.others ++ kept.free) is-stored.variable

  pub shape-is : read_shape first.v (drop from bytes) ≡ first.x.shape
  shape-is = ap (read_shape first.v) bytes-here ∙ shape-here first.v first.x (spelled first.others ++ kept.free) is-stored.variable

  pub common-is : read_common (drop from bytes) ≡ first.x.common
  common-is = ap read_common bytes-here ∙ common-here first.v first.x (spelled first.others ++ kept.free)

  -- as the program reads them
  pub name-read : (v : Var) (b : List ℕ) → b ≡ bytes → v ≡ read_name (drop from b) → v ≡ first.v
  name-read v b same is = is ∙ ap (λ (c : List ℕ). read_name (drop from c)) same ∙ name-is

  pub legal-next : (v : Var) (b : List ℕ) → b ≡ bytes → v ≡ read_name (drop from b) → is_legal_name v ≡ true
  legal-next v b same is = ap is_legal_name (name-read v b same is) ∙ is-stored.variable.named

  pub size-is : (v : Var) (s : Shape) (b c : List ℕ) → b ≡ bytes → c ≡ bytes → v ≡ read_name (drop from b) → s ≡ read_shape v (drop from c) → cost v s ≡ cost first.v first.x.shape
  size-is v s b c same same_too name shape =
      let n = name-read v b same name in
      ap₂ cost n (shape ∙ ap₂ (λ (w : Var) (d : List ℕ). read_shape w (drop from d)) n same_too ∙ shape-is)

  all-next : es ≡ (kept.done ++ (first.v, first.x) ∷ []) ++ first.others
  all-next = all-there ∙ sym (append_assoc kept.done ((first.v, first.x) ∷ []) first.others)

  to-costs : to ≡ costs (common_entries kept.done)
  to-costs = kept.to_is ∙ length-spelled (common_entries kept.done) (stored-common kept.done (stored-front kept.done ((first.v, first.x) ∷ first.others) stored-there))

  same-name : (place : ℕ) (below : number_of first.v < 1144) → get_or (set places (number_of first.v) place) (number_of first.v) 0 ≡ place
  same-name place below = get_or-set_same places (number_of first.v) place 0 (omega (arith, below, kept.named))

  other-name : (place : ℕ) (q : Var) → is_legal_name q ≡ true → eq_by_cmp var_cmp q first.v ≡ false → get_or (set places (number_of first.v) place) (number_of q) 0 ≡ get_or places (number_of q) 0
  other-name place q legal t =
      get_or-set_other places (number_of first.v) (number_of q) place 0 (λ w. true≢false (sym (itself first.v) ∙ ap (λ (u : Var). eq_by_cmp var_cmp u first.v) (sym (number-back q first.v legal is-stored.variable.named w)) ∙ t))

  found-common : first.x.common ≡ true → number_of first.v < 1144 → (q : Var) → is_legal_name q ≡ true
      → get_or (set places (number_of first.v) (to + 1)) (number_of q) 0 ≡ cond (stands_in q (kept.done ++ (first.v, first.x) ∷ [])) (place_of q (common_entries (kept.done ++ (first.v, first.x) ∷ []))) (place_of q es)
  unfolding place_of
  found-common is below q legal = which (eq_by_cmp var_cmp q first.v) refl
    where
      which : (b : Bool) → eq_by_cmp var_cmp q first.v ≡ b
          → get_or (set places (number_of first.v) (to + 1)) (number_of q) 0 ≡ cond (stands_in q (kept.done ++ (first.v, first.x) ∷ [])) (place_from 1 q (common_entries (kept.done ++ (first.v, first.x) ∷ []))) (place_from 1 q es)
      which true t =
          let v = first.v in
          let e = tie q v t in
          let none = stands-common v kept.done before in
          let one_more : to + 1 ≡ 1 + costs (common_entries kept.done) = omega (arith, to-costs) in
          ap (λ (w : Var). get_or (set places (number_of v) (to + 1)) (number_of w) 0) e ∙ same-name (to + 1) below
          ∙ one_more ∙ sym (place-of-last v first.x 1 (common_entries kept.done) none)
          ∙ ap (place_from 1 v) (sym (common-end v first.x kept.done is))
          ∙ ap (λ b. cond b (place_from 1 v (common_entries (kept.done ++ (v, first.x) ∷ []))) (place_from 1 v es)) (sym (stands-end v first.x kept.done))
          ∙ ap (λ (w : Var). cond (stands_in w (kept.done ++ (v, first.x) ∷ [])) (place_from 1 w (common_entries (kept.done ++ (v, first.x) ∷ []))) (place_from 1 w es)) (sym e)
      which false t =
          other-name (to + 1) q legal t ∙ kept.found q legal
          ∙ ap₂ (λ (b : Bool) (n : ℕ). cond b n (place_from 1 q es)) (sym (stands-other-end q first.v first.x kept.done t))
          (sym (ap (place_from 1 q) (common-end first.v first.x kept.done is) ∙ place-before-last q first.v first.x 1 (common_entries kept.done) t))

  found-other : first.x.common ≡ false → number_of first.v < 1144 → (q : Var) → is_legal_name q ≡ true
      → get_or (set places (number_of first.v) 0) (number_of q) 0 ≡ cond (stands_in q (kept.done ++ (first.v, first.x) ∷ [])) (place_of q (common_entries (kept.done ++ (first.v, first.x) ∷ []))) (place_of q es)
  unfolding place_of
  found-other is below q legal = which (eq_by_cmp var_cmp q first.v) refl
    where
      which : (b : Bool) → eq_by_cmp var_cmp q first.v ≡ b
          → get_or (set places (number_of first.v) 0) (number_of q) 0 ≡ cond (stands_in q (kept.done ++ (first.v, first.x) ∷ [])) (place_from 1 q (common_entries (kept.done ++ (first.v, first.x) ∷ []))) (place_from 1 q es)
      which true t =
          let v = first.v in
          let e = tie q v t in
          ap (λ (w : Var). get_or (set places (number_of v) 0) (number_of w) 0) e ∙ same-name 0 below
          ∙ sym (nowhere v 1 (common_entries kept.done) (stands-common v kept.done before))
          ∙ ap (place_from 1 v) (sym (other-end v first.x kept.done is))
          ∙ ap (λ b. cond b (place_from 1 v (common_entries (kept.done ++ (v, first.x) ∷ []))) (place_from 1 v es)) (sym (stands-end v first.x kept.done))
          ∙ ap (λ (w : Var). cond (stands_in w (kept.done ++ (v, first.x) ∷ [])) (place_from 1 w (common_entries (kept.done ++ (v, first.x) ∷ []))) (place_from 1 w es)) (sym e)
      which false t =
          other-name 0 q legal t ∙ kept.found q legal
          ∙ ap₂ (λ (b : Bool) (n : ℕ). cond b n (place_from 1 q es)) (sym (stands-other-end q first.v first.x kept.done t)) (ap (place_from 1 q) (sym (other-end first.v first.x kept.done is)))

  -- an entry that goes
  pub kept-other : first.x.common ≡ false → number_of first.v < 1144 → IsKept bytes (from + cost first.v first.x.shape) to used (set places (number_of first.v) 0) es
  kept-other is below =
      let same = other-end first.v first.x kept.done is in
      let e = entry_bytes (first.v, first.x) in
      record {
        done = kept.done ++ (first.v, first.x) ∷ [];
        left = first.others;
        gap = kept.gap ++ e;
        free = kept.free;
        all = all-next;
        short = kept.short;
        stored = kept.stored;
        written = written-here ∙ ap₂ (λ (cs : Entries) (b : List ℕ). spelled cs ++ b) (sym same) (sym (append_assoc kept.gap e (spelled first.others ++ kept.free)));
        from_is = omega (arith, kept.from_is, length-append kept.gap e, entry_long);
        to_is = kept.to_is ∙ ap (λ (cs : Entries). length (spelled cs)) (sym same);
        used_is = used-split;
        named = length-set places (number_of first.v) 0 ∙ kept.named;
        found = found-other is below;
      }

  -- an entry that is moved down
  pub kept-common : first.x.common ≡ true → number_of first.v < 1144 → IsKept (copy_within bytes from (from + cost first.v first.x.shape) to) (from + cost first.v first.x.shape) (to + cost first.v first.x.shape) used (set places (number_of first.v) (to + 1)) es
  kept-common is below =
      let n = cost first.v first.x.shape in
      let a = spelled (common_entries kept.done) in
      let e = entry_bytes (first.v, first.x) in
      let rest = spelled first.others ++ kept.free in
      let same : spelled (common_entries (kept.done ++ (first.v, first.x) ∷ [])) ≡ a ++ e =
      ap spelled (common-end first.v first.x kept.done is) ∙ spelled-append (common_entries kept.done) ((first.v, first.x) ∷ []) ∙ ap (λ (b : List ℕ). a ++ b) (append_nothing e) in
      let closed : copy_within bytes from (from + n) to ≡ (a ++ e) ++ drop (to + n) bytes =
      gap-closed bytes a kept.gap e rest from to n written-here (sym kept.to_is) (omega (arith, length-append a kept.gap, kept.from_is, kept.to_is)) entry_long in
      let low : n ≤ length (kept.gap ++ e) = omega (arith, length-append kept.gap e, entry_long) in
      let after : drop (to + n) bytes ≡ drop n (kept.gap ++ e) ++ rest =
      ap₂ (λ (m : ℕ) (b : List ℕ). drop (m + n) b) kept.to_is written-here ∙ drop-append-add a (kept.gap ++ (e ++ rest)) n
      ∙ ap (drop n) (sym (append_assoc kept.gap e rest)) ∙ drop-append-le n (kept.gap ++ e) rest low in
      record {
        done = kept.done ++ (first.v, first.x) ∷ [];
        left = first.others;
        gap = drop n (kept.gap ++ e);
        free = kept.free;
        all = all-next;
        short = omega (arith, length-moved bytes from n to (omega (arith, kept.from_is)) (omega (arith, room-here, used-low)), kept.short);
        stored = kept.stored;
        written = closed ∙ ap₂ (λ (b c : List ℕ). b ++ c) (sym same) after;
        from_is = omega (arith, kept.from_is, length-drop n (kept.gap ++ e), length-append kept.gap e, entry_long);
        to_is = omega (arith, kept.to_is, ap (λ (b : List ℕ). length b) same, length-append a e, entry_long);
        used_is = used-split;
        named = length-set places (number_of first.v) (to + 1) ∙ kept.named;
        found = found-common is below;
      }
