-- The calls on one variable of a block, over its fields with no struct about them: what is read there, and what a write
-- leaves.
use Rattle.std.proofs.Common.{◌≡◌, ℕ, ◌+◌, ◌-◌, ◌*◌, ◌<◌, ◌≤◌, nat_lt, true, List, ◌∷◌, ◌++◌, length, take, drop, get_or, IsSome, is_some, IfSome, refl, ap, sym, subst, ◌∙◌, arith, append_assoc, length-append, length-drop}
use Rattle.std.specs.FinMap.{get, contains_key}
use Rattle.std.proofs.lemmas.List.{take_at, drop_at, drop-drop, take-append-le, drop-append-le}
use Rattle.b2_dec.specs.Number.{Number, IsNumber, zero_number}
use Rattle.b2_dec.specs.Packing.{packed}
use Rattle.b2_vars.specs.declared.name.Var.{Var}
use Rattle.b2_vars.specs.declared.shape.Shape.{Shape}
use Rattle.b2_vars.specs.Names.{is_legal_name}
use Rattle.b2_vars.specs.Shapes.{cost, overhead, number_cells, alpha_bytes}
use Rattle.b2_vars.specs.Variables.{VariableState, overwritten, bytes_from, with_number, with_bytes}
use Rattle.b2_vars.specs.Tables.{Entries, VarsState, costs, count_of, table_of, variable_at, shape_at, IsVariable, IsSound}
use Rattle.b2_vars.specs.Calls.{with_variable, with_change, with_bytes_of}
use Rattle.b2_vars.specs.Block.{BlockState, state_of, value_bytes, entry_bytes, packed_numbers, spelled, entries_in, read_shape, read_common, number_of, place_of, place_from, StandsAt, IsStored, AllStored, IsLaid}
use Rattle.b2_vars.proofs.Heads.{overhead-some}
use Rattle.b2_vars.proofs.Overwriting.{over-after, over-before}
use Rattle.b2_vars.proofs.PackedNumbers.{length-packed, length-numbers, number-bytes, number-at, numbers-set, all-set}
use Rattle.b2_vars.proofs.ReadEntries.{shape-here, common-here, after-head, length-values}
use Rattle.b2_vars.proofs.Standing.{IsAmong, among, get-among, place-stands, key-stands, length-spelled}
use Rattle.b2_vars.proofs.Laying.{Shows, entry-at, entry-room, is-stored, shows-written}
use Rattle.b2_vars.proofs.Cells.{variable_at-Some}
use Rattle.std.proofs.lemmas.Bool.Decides.{nat_tests}
use Rattle.b2_vars.proofs.StoredEntries.{costs-stored, each-variable, sound-stored}
use Rattle.b2_vars.proofs.Soundness.{number-kept, bytes-kept, sound-found}

module _ (block : List ℕ) (used : ℕ) (places : List ℕ) (laid : IsLaid block used places (entries_in used block)) (b : BlockState) (view : record { area = length block; entries = entries_in used block } ≡ b) where
  pub same-entries : entries_in used block ≡ b.entries
  same-entries = ap (λ (s : BlockState). s.entries) view

  pub same-area : length block ≡ b.area
  same-area = ap (λ (s : BlockState). s.area) view

  pub used-room : used ≤ length block
  used-room = omega (arith, laid.counted, ap (λ (bs : List ℕ). length bs) laid.written, length-append (spelled (entries_in used block)) laid.rest)

  pub laid-there : IsLaid block used places b.entries
  laid-there = subst (IsLaid block used places) same-entries laid

  pub used-costs : used ≡ costs b.entries
  used-costs = laid.counted ∙ length-spelled (entries_in used block) laid.stored ∙ ap costs same-entries

  pub stored-all : AllStored b.entries
  stored-all = laid-there.stored

  pub count-is : used ≡ count_of (table_of b.entries)
  count-is = used-costs ∙ costs-stored b.entries stored-all

  pub each-is : (q : Var) → IfSome (get (table_of b.entries) q) (IsVariable q)
  each-is = each-variable b.entries stored-all

  pub sound-is : IsSound b.area (count_of (table_of b.entries)) (table_of b.entries)
  sound-is = sound-stored b.area b.entries stored-all (omega (arith, used-room, used-costs, same-area))

  pub place-is : (v : Var) (n : ℕ) → is_legal_name v ≡ true → n ≡ number_of v → get_or places n 0 ≡ place_of v b.entries
  place-is v n legal is = ap (λ (k : ℕ). get_or places k 0) is ∙ laid-there.found v legal

  pub place-there : (v : Var) → nat_lt 0 (place_of v b.entries) ≡ contains_key (table_of b.entries) v
  unfolding place_of
  place-there v = place-stands v 1 b.entries (omega arith) ∙ sym (key-stands v b.entries)

  pub found-legal : (v : Var) → IsSome (get (table_of b.entries) v) → is_legal_name v ≡ true
  found-legal v found = let is = sound-found b.area (count_of (table_of b.entries)) (table_of b.entries) v sound-is found in is.named

  pub found-variable : (v : Var) → IsSome (get (table_of b.entries) v) → IsVariable v (variable_at v (table_of b.entries))
  found-variable v found = sound-found b.area (count_of (table_of b.entries)) (table_of b.entries) v sound-is found

  pub found-at : (v : Var) → IsSome (get (table_of b.entries) v) → StandsAt v (place_of v b.entries) b.entries
  found-at v found = record { is = refl; some = by (place_of v b.entries) (place-there v ∙ found) }
    where
      by : (n : ℕ) → nat_lt 0 n ≡ true → 1 ≤ n
      by n h = grind (arith, nat_tests)

  module _ (v : Var) (place : ℕ) (stands : StandsAt v place b.entries) where
    y : VariableState
    y = variable_at v (table_of b.entries)

    at-one : place_from 1 v b.entries ≡ place
    unfolding place_of
    at-one = sym stands.is

    pub found-among : IsAmong v 1 place b.entries
    found-among = among v 1 place b.entries (omega arith) at-one stands.some

    front : Entries
    front = found-among.front

    rest : Entries
    rest = found-among.rest

    pub variable-is : variable_at v (table_of b.entries) ≡ found-among.variable
    variable-is =
        variable_at-Some (table_of b.entries) v found-among.variable
        (ap (λ (es : Entries). get (table_of es) v) found-among.is ∙ get-among v found-among.variable found-among.front found-among.rest found-among.absent)

    pub there-is : IsSome (get (table_of b.entries) v)
    there-is = ap is_some (ap (λ (es : Entries). get (table_of es) v) found-among.is ∙ get-among v found-among.variable found-among.front found-among.rest found-among.absent)

    pub entries-are : b.entries ≡ found-among.front ++ (v, variable_at v (table_of b.entries)) ∷ found-among.rest
    entries-are = found-among.is ∙ ap (λ (x : VariableState). found-among.front ++ (v, x) ∷ found-among.rest) (sym variable-is)

    pub laid-around : IsLaid block used places (found-among.front ++ (v, variable_at v (table_of b.entries)) ∷ found-among.rest)
    laid-around = subst (IsLaid block used places) entries-are laid-there

    pub stored-there : IsStored v (variable_at v (table_of b.entries))
    stored-there = is-stored v (variable_at v (table_of b.entries)) found-among.front found-among.rest block used places laid-around

    pub starts-at : place - 1 ≡ costs found-among.front
    starts-at = omega (arith, found-among.place_is)

    pub bytes-there : drop (place - 1) block ≡ entry_bytes (v, variable_at v (table_of b.entries)) ++ (spelled found-among.rest ++ laid-around.rest)
    bytes-there = ap (λ (n : ℕ). drop n block) starts-at ∙ entry-at v (variable_at v (table_of b.entries)) found-among.front found-among.rest block used places laid-around

    pub cost-room : place - 1 + cost v (shape_at v (table_of b.entries)) ≤ used
    cost-room = omega (arith, starts-at, entry-room v (variable_at v (table_of b.entries)) found-among.front found-among.rest block used places laid-around)

    -- two bytes can say it
    pub place-small : place ≤ 4294967295
    place-small = omega (arith, cost-room, used-room, overhead-some v, laid.short)

    pub head-room : place - 1 + overhead v ≤ length block
    head-room = omega (arith, cost-room, used-room)

    pub shape-is : read_shape v (drop (place - 1) block) ≡ shape_at v (table_of b.entries)
    shape-is = ap (read_shape v) bytes-there ∙ shape-here v (variable_at v (table_of b.entries)) (spelled found-among.rest ++ laid-around.rest) stored-there.variable

    pub common-is : read_common (drop (place - 1) block) ≡ (variable_at v (table_of b.entries)).common
    common-is = ap read_common bytes-there ∙ common-here v (variable_at v (table_of b.entries)) (spelled found-among.rest ++ laid-around.rest)

    -- the values from where they start
    pub values-are : drop (place - 1 + overhead v) block ≡ packed_numbers (variable_at v (table_of b.entries)).numbers ++ ((variable_at v (table_of b.entries)).bytes ++ (spelled found-among.rest ++ laid-around.rest))
    values-are =
        sym (drop-drop (overhead v) (place - 1) block) ∙ ap (drop (overhead v)) bytes-there
        ∙ after-head v (variable_at v (table_of b.entries)) (spelled found-among.rest ++ laid-around.rest)
        ∙ append_assoc (packed_numbers (variable_at v (table_of b.entries)).numbers) (variable_at v (table_of b.entries)).bytes (spelled found-among.rest ++ laid-around.rest)

    pub number-is : (cell : ℕ) → cell < length (variable_at v (table_of b.entries)).numbers
        → take 8 (drop (place - 1 + overhead v + cell * 8) block) ≡ packed (get_or (variable_at v (table_of b.entries)).numbers cell zero_number)
    number-is cell below =
        ap (take 8) (sym (drop-drop (cell * 8) (place - 1 + overhead v) block) ∙ ap (drop (cell * 8)) values-are)
        ∙ number-bytes (variable_at v (table_of b.entries)).numbers cell ((variable_at v (table_of b.entries)).bytes ++ (spelled found-among.rest ++ laid-around.rest)) below

    pub number-legal : (cell : ℕ) → cell < length (variable_at v (table_of b.entries)).numbers → IsNumber (get_or (variable_at v (table_of b.entries)).numbers cell zero_number)
    number-legal cell below = number-at (variable_at v (table_of b.entries)).numbers cell below stored-there.numbers

    pub number-room : (cell : ℕ) → cell < length (variable_at v (table_of b.entries)).numbers → place - 1 + overhead v + cell * 8 + 8 ≤ used
    number-room cell below =
        omega (arith, cost-room, below, length-values v (variable_at v (table_of b.entries)) stored-there.variable, length-append (packed_numbers (variable_at v (table_of b.entries)).numbers) (variable_at v (table_of b.entries)).bytes, length-numbers (variable_at v (table_of b.entries)).numbers)

    -- the bytes from where they start
    pub bytes-start : number_cells v (shape_at v (table_of b.entries)) * 8 ≡ length (packed_numbers (variable_at v (table_of b.entries)).numbers)
    bytes-start = sym (length-numbers (variable_at v (table_of b.entries)).numbers ∙ ap (λ (n : ℕ). n * 8) stored-there.variable.numbers)

    pub bytes-are : drop (place - 1 + overhead v + number_cells v (shape_at v (table_of b.entries)) * 8) block ≡ (variable_at v (table_of b.entries)).bytes ++ (spelled found-among.rest ++ laid-around.rest)
    bytes-are =
        sym (drop-drop (number_cells v (shape_at v (table_of b.entries)) * 8) (place - 1 + overhead v) block)
        ∙ ap (drop (number_cells v (shape_at v (table_of b.entries)) * 8)) values-are
        ∙ drop_at (packed_numbers (variable_at v (table_of b.entries)).numbers) ((variable_at v (table_of b.entries)).bytes ++ (spelled found-among.rest ++ laid-around.rest)) (number_cells v (shape_at v (table_of b.entries)) * 8) (sym bytes-start)

    pub bytes-room : place - 1 + overhead v + number_cells v (shape_at v (table_of b.entries)) * 8 + length (variable_at v (table_of b.entries)).bytes ≤ used
    bytes-room =
        omega (arith, cost-room, bytes-start, length-values v (variable_at v (table_of b.entries)) stored-there.variable, length-append (packed_numbers (variable_at v (table_of b.entries)).numbers) (variable_at v (table_of b.entries)).bytes)

    -- as the program reads them
    pub shape-read : (s : Shape) (bs : List ℕ) → bs ≡ block → s ≡ read_shape v (drop (place - 1) bs) → s ≡ shape_at v (table_of b.entries)
    shape-read s bs same is = is ∙ ap (λ (c : List ℕ). read_shape v (drop (place - 1) c)) same ∙ shape-is

    pub start-is : (s : Shape) (bs : List ℕ) → bs ≡ block → s ≡ read_shape v (drop (place - 1) bs)
        → place - 1 + overhead v + number_cells v s * 8 ≡ place - 1 + overhead v + number_cells v (shape_at v (table_of b.entries)) * 8
    start-is s bs same is = ap (λ (t : Shape). place - 1 + overhead v + number_cells v t * 8) (shape-read s bs same is)

    pub all-bytes : take (alpha_bytes (shape_at v (table_of b.entries))) (drop (place - 1 + overhead v + number_cells v (shape_at v (table_of b.entries)) * 8) block) ≡ (variable_at v (table_of b.entries)).bytes
    all-bytes = ap (take (alpha_bytes (shape_at v (table_of b.entries)))) bytes-are ∙ take_at (variable_at v (table_of b.entries)).bytes (spelled found-among.rest ++ laid-around.rest) (alpha_bytes (shape_at v (table_of b.entries))) stored-there.variable.bytes

    -- a part of the bytes, as the block has it
    pub part-bytes : (from n : ℕ) → from + n ≤ length (variable_at v (table_of b.entries)).bytes
        → take n (drop (place - 1 + overhead v + number_cells v (shape_at v (table_of b.entries)) * 8 + from) block) ≡ bytes_from from n (variable_at v (table_of b.entries)).bytes
    part-bytes from n low =
        let x = variable_at v (table_of b.entries) in
        let more = spelled found-among.rest ++ laid-around.rest in
        let m : from + n - from ≡ n = omega arith in
        ap (take n) (sym (drop-drop from (place - 1 + overhead v + number_cells v x.shape * 8) block) ∙ ap (drop from) bytes-are ∙ drop-append-le from x.bytes more (omega (arith, low)))
        ∙ take-append-le n (drop from x.bytes) more (omega (arith, low, length-drop from x.bytes))
        ∙ ap (λ (k : ℕ). take k (drop from x.bytes)) (sym m)

    base : record { area = length block; table = table_of (found-among.front ++ (v, variable_at v (table_of b.entries)) ∷ found-among.rest) } ≡ state_of b
    base = λ i. record { area = same-area i; table = table_of (sym entries-are i) }

    -- WRITES
    pub number-set : (cell : ℕ) (n : Number) (at : ℕ) → at ≡ place - 1 + overhead v + cell * 8 → cell < length (variable_at v (table_of b.entries)).numbers → IsNumber n
        → Shows (overwritten at (packed n) block) used places (with_change v (with_number cell n) (state_of b))
    number-set cell n at is below legal =
        let x = variable_at v (table_of b.entries) in
        let low : cell * 8 + length (packed n) ≤ length (packed_numbers x.numbers) = omega (arith, below, length-packed n, length-numbers x.numbers) in
        let values : overwritten (cell * 8) (packed n) (value_bytes x) ≡ value_bytes (with_number cell n x) =
        over-before (packed_numbers x.numbers) x.bytes (packed n) (cell * 8) low ∙ ap (λ (ys : List ℕ). ys ++ x.bytes) (numbers-set x.numbers cell n below) in
        subst (λ (s : VarsState). Shows (overwritten at (packed n) block) used places (with_variable v (with_number cell n x) s)) base
        (shows-written v x found-among.front found-among.rest block used places laid-around (with_number cell n x) at (cell * 8) (packed n)
        (omega (arith, is, starts-at)) (omega (arith, low, length-append (packed_numbers x.numbers) x.bytes)) values refl refl
        (record { variable = number-kept v x cell n stored-there.variable; numbers = all-set x.numbers cell n stored-there.numbers legal }) found-among.absent)

    pub bytes-set : (from : ℕ) (w : List ℕ) (at : ℕ) → at ≡ place - 1 + overhead v + number_cells v (shape_at v (table_of b.entries)) * 8 + from → from + length w ≤ length (variable_at v (table_of b.entries)).bytes
        → Shows (overwritten at w block) used places (with_bytes_of v from (state_of b) w)
    bytes-set from w at is low =
        let x = variable_at v (table_of b.entries) in
        let values : overwritten (length (packed_numbers x.numbers) + from) w (value_bytes x) ≡ value_bytes (with_bytes from x w) = over-after (packed_numbers x.numbers) x.bytes w from low in
        subst (λ (s : VarsState). Shows (overwritten at w block) used places (with_variable v (with_bytes from x w) s)) base
        (shows-written v x found-among.front found-among.rest block used places laid-around (with_bytes from x w) at (length (packed_numbers x.numbers) + from) w
        (omega (arith, is, starts-at, bytes-start)) (omega (arith, low, length-append (packed_numbers x.numbers) x.bytes)) values refl refl
        (record { variable = bytes-kept v x from w stored-there.variable; numbers = stored-there.numbers }) found-among.absent)
