-- MAT SORT followed by MAT MOVE: the elements stand in order, equal ones as they stood.
use Rattle.std.proofs.Common.{◌≡◌, ◌≢◌, ◌<◌, ◌≤◌, ◌+◌, ◌-◌, ◌*◌, ◌/◌, ◌==◌, ◌||◌, ℕ, zero, suc, Bool, true, false, cond, not, nat_le, if◌then◌else◌, List, [], ◌∷◌, ◌++◌, length, get_or, take, drop, replicate, Option, None, Result, Ok, Err, refl, sym, ap, subst, ◌∙◌, arith, append_assoc, eq-eqb, zero-mul}
use Rattle.std.specs.FinMap as map
use Rattle.std.specs.List.{All, AllByRecursion, flat_map, take_while}
use Rattle.std.proofs.lemmas.Bool.{le-leb}
use Rattle.std.proofs.lemmas.Bool.Decides.{nat_tests}
use Rattle.std.proofs.lemmas.Nat.{le-div}
use Rattle.std.proofs.Math.Nat.{div-mul-le_self, mul-le-mul_right}
use Rattle.std.proofs.lemmas.List.{append-nil, take_all, drop_all, take_at, drop_at, drop-drop, length-append, length-take, length-drop, length-replicate}
use Rattle.std.proofs.lemmas.List.Elements.{recursion_from_All}
use Rattle.std.proofs.lemmas.List.FromFn.{length-range_with_len, get_or-range_with_len}
use Rattle.std.proofs.lemmas.List.Sorted.{All-permutation, length_permutation}
use Rattle.std.proofs.lemmas.List.Sums.{take_while-cons}
use Rattle.b2_base.specs.Byte as byte
use Rattle.b2_base.specs.declared.codes.TheConstants.{P43_SHAPES, X76_LOCATOR_OR_FIELD}
use Rattle.b2_alpha.specs.Values.{padded}
use Rattle.b2_matalpha.specs.Elements.{element_at, element_count}
use Rattle.b2_matalpha.specs.Locators.{places_read, received}
use Rattle.b2_matalpha.specs.Moves.{after_move, move_answer, moved_places, wanted_places}
use Rattle.b2_matalpha.specs.Sorts.{all_places, is_too_short, sorted_places}
use Rattle.b2_matalpha.proofs.MovingOn.{room_for}
use Rattle.b2_matalpha.proofs.Orders.{defined_are_sorted}
use Rattle.b2_matalpha.proofs.Receiving.{read_back}
use Rattle.std.specs.Option.{unwrap_or}
use Rattle.b2_vars.specs.Shapes.{scalar_shape}
use Rattle.b2_vars.specs.Tables.{Table, VarsState, shape_at, variable_at}
use Rattle.b2_vars.specs.Variables.{VariableState, fresh, overwritten, with_bytes}
use Rattle.b2_vars.specs.declared.name.Var.{Var}
use Rattle.b2_vars.proofs.EntriesAsMap.{get_other}
use Rattle.b2_vars.proofs.Overwriting.{overwritten-within}
use Rattle.b2_stmt_mat.specs.Arrays.{bytes_of, named_bytes, only, own_array}
use Rattle.b2_stmt_mat.specs.ByteArrays.{all_or_refused, has_no_room, moved_by, refusal_of, with_all}
use Rattle.b2_stmt_mat.specs.Laws.{MovedInOrder, SortedAreMoved, move_by_locators, sort_by_locators}
use Rattle.b2_stmt_mat.specs.declared.byte_arrays.ArraySort.{ArraySort}
use Rattle.b2_stmt_mat.proofs.ArraysThere.{some_length}
use Rattle.b2_stmt_mat.proofs.Written.{put_there}

-- the places that are sorted: as many as there are elements, each of one of them
sorted-length : (of : List ℕ) (len : ℕ) → length (sorted_places of len) ≡ element_count len of
sorted-length of len = length_permutation (all_places of len) (sorted_places of len) (defined_are_sorted of len).all ∙ length-range_with_len 1 (element_count len of)

each_sorted : (of : List ℕ) (len : ℕ) (P : ℕ → Type 0) → ((i : ℕ) → i < element_count len of → P (1 + i)) → All P (sorted_places of len)
each_sorted of len P each =
    All-permutation P (all_places of len) (sorted_places of len) (defined_are_sorted of len).all (λ k d low.
    let within : k < element_count len of = omega (arith, low, length-range_with_len 1 (element_count len of)) in
    subst P (sym (get_or-range_with_len 1 (element_count len of) k d within)) (each k within))

sorted-some : (of : List ℕ) (len : ℕ) → All (λ place. 0 < place) (sorted_places of len)
sorted-some of len = each_sorted of len (λ place. 0 < place) (λ i low. omega arith)

sorted-within : (of : List ℕ) (len : ℕ) → All (λ place. place ≤ element_count len of) (sorted_places of len)
sorted-within of len = each_sorted of len (λ place. place ≤ element_count len of) (λ i low. omega (arith, low))

-- a move takes all of them
all_pass : (n : ℕ) (places : List ℕ) → AllByRecursion (λ place. place ≤ n) places → take_while (λ place. nat_le place n) places ≡ places
all_pass n [] within = refl
all_pass n (p ∷ ps) within =
    take_while-cons (λ place. nat_le place n) p ps
    ∙ ap (λ (t : Bool). cond t (p ∷ take_while (λ place. nat_le place n) ps) []) (le-leb p n within.0)
    ∙ ap (λ (l : List ℕ). p ∷ l) (all_pass n ps within.1)

all_moved : (of : List ℕ) (len : ℕ) → moved_places of len (sorted_places of len) ≡ sorted_places of len
all_moved of len =
    all_pass (element_count len of) (sorted_places of len) (recursion_from_All (λ place. place ≤ element_count len of) (sorted_places of len) (sorted-within of len))

pub none_past : (of : List ℕ) (len : ℕ) → move_answer of len (sorted_places of len) ≡ Ok (length (sorted_places of len))
none_past of len =
    let places : List ℕ = sorted_places of len in
    ap (λ (l : List ℕ). if length l == length places then Ok (length places) else Err X76_LOCATOR_OR_FIELD) (all_moved of len)
    ∙ ap (λ (t : Bool). if t then Ok (length places) else Err X76_LOCATOR_OR_FIELD) (eq-eqb (length places) (length places) refl)

-- what was written as locators is looked at again, where there is room for it
pub all_wanted : (of : List ℕ) (len : ℕ) (locators into to : List ℕ) (to_len : ℕ) → locators ≡ received (sorted_places of len) into → 2 * element_count len of ≤ length into → element_count len of ≤ length to / to_len
    → wanted_places locators to_len to ≡ sorted_places of len
all_wanted of len locators into to to_len is room fits =
    let same : length (sorted_places of len) ≡ element_count len of = sorted-length of len in
    ap (λ (l : List ℕ). take (length to / to_len) (places_read l)) is
    ∙ ap (λ (l : List ℕ). take (length to / to_len) l) (read_back (sorted_places of len) into (sorted-some of len) (omega (arith, same, room)))
    ∙ take_all (length to / to_len) (sorted_places of len) (omega (arith, same, fits))

-- as many bytes as before stand where locators were received
pub length-received : (places into : List ℕ) → length (received places into) ≡ length into
length-received [] [] = refl
length-received [] (x ∷ []) = refl
length-received [] (x ∷ y ∷ rest) = refl
length-received (p ∷ ps) [] = refl
length-received (p ∷ ps) (x ∷ []) = refl
length-received (p ∷ ps) (x ∷ y ∷ rest) = ap (λ (n : ℕ). suc (suc n)) (length-received ps rest)

-- pieces of one length, one after another
length-padded : (n : ℕ) (xs : List ℕ) → length (padded n xs) ≡ n
length-padded n xs =
    let sum = length-append {A = ℕ} (take n xs) (replicate {A = ℕ} (n - length xs) byte.blank) in
    let front = length-take n xs in
    let blank = length-replicate {A = ℕ} (n - length xs) byte.blank in
    omega (arith, sum, front, blank)

piece : (f : ℕ → List ℕ) (len : ℕ) (places rest : List ℕ) (k : ℕ) → ((place : ℕ) → length (f place) ≡ len) → k < length places → take len (drop (k * len) (flat_map f places ++ rest)) ≡ f (get_or places k 0)
piece f len [] rest k wide low = absurd (omega (arith, low))
piece f len (p ∷ ps) rest zero wide low =
    ap (λ (n : ℕ). take len (drop n (flat_map f (p ∷ ps) ++ rest))) (zero-mul len)
    ∙ ap (λ (l : List ℕ). take len l) (append_assoc (f p) (flat_map f ps) rest)
    ∙ take_at (f p) (flat_map f ps ++ rest) len (wide p)
piece f len (p ∷ ps) rest (suc k) wide low =
    ap (λ (l : List ℕ). take len (drop (suc k * len) l)) (append_assoc (f p) (flat_map f ps) rest)
    ∙ ap (λ (l : List ℕ). take len l) (ap (λ (n : ℕ). drop n (f p ++ (flat_map f ps ++ rest))) (omega arith) ∙ sym (drop-drop (k * len) len (f p ++ (flat_map f ps ++ rest))))
    ∙ ap (λ (l : List ℕ). take len (drop (k * len) l)) (drop_at (f p) (flat_map f ps ++ rest) len (wide p))
    ∙ piece f len ps rest k wide (omega (arith, low))

length-pieces : (f : ℕ → List ℕ) (len : ℕ) (places : List ℕ) → ((place : ℕ) → length (f place) ≡ len) → length (flat_map f places) ≡ length places * len
length-pieces f len [] wide = omega arith
length-pieces f len (p ∷ ps) wide = omega (arith, length-append (f p) (flat_map f ps), wide p, length-pieces f len ps wide)

few_pieces : (n len total : ℕ) → n ≤ total / len → n * len ≤ total
few_pieces n len total fits = omega (arith, div-mul-le_self total len, mul-le-mul_right len fits)

-- an element is as long as all are
whole_element : (of : List ℕ) (len place : ℕ) → 0 < len → 0 < place → place ≤ element_count len of → padded len (element_at len of place) ≡ element_at len of place
whole_element of len place some first within =
    let low : place - 1 < element_count len of = omega (arith, first, within) in
    let inside : (place - 1) * len + len ≤ length of = room_for (place - 1) (length of) len some low in
    let rest : length (drop ((place - 1) * len) of) ≡ length of - (place - 1) * len = length-drop ((place - 1) * len) of in
    let long : length (element_at len of place) ≡ len = omega (arith, length-take len (drop ((place - 1) * len) of), rest, inside) in
    let none : len - length (element_at len of place) ≡ 0 = omega (arith, long) in
    ap (λ (n : ℕ). take len (element_at len of place) ++ replicate n byte.blank) none
    ∙ append-nil (take len (element_at len of place))
    ∙ take_all len (element_at len of place) (omega (arith, long))

-- what a move of all of them leaves: each element in its place
abbrev moved_all : List ℕ → ℕ → List ℕ → List ℕ
moved_all of len to = after_move of len (sorted_places of len) len to

abbrev pieces : List ℕ → ℕ → List ℕ
pieces of len = flat_map (λ place. padded len (element_at len of place)) (sorted_places of len)

moved_all_is : (of : List ℕ) (len : ℕ) (to : List ℕ) → moved_all of len to ≡ pieces of len ++ drop (length (sorted_places of len) * len) to
moved_all_is of len to = ap (λ (l : List ℕ). flat_map (λ place. padded len (element_at len of place)) l ++ drop (length l * len) to) (all_moved of len)

pub moved_fits : (of : List ℕ) (len : ℕ) (to : List ℕ) → element_count len of ≤ length to / len → length (moved_all of len to) ≤ length to
moved_fits of len to fits =
    let count : ℕ = length (sorted_places of len) in
    let whole : length (moved_all of len to) ≡ length (pieces of len) + length (drop (count * len) to) =
    ap length (moved_all_is of len to) ∙ length-append (pieces of len) (drop (count * len) to) in
    let front : length (pieces of len) ≡ count * len = length-pieces (λ place. padded len (element_at len of place)) len (sorted_places of len) (λ place. length-padded len (element_at len of place)) in
    let rest : length (drop (count * len) to) ≡ length to - count * len = length-drop (count * len) to in
    let room : count * len ≤ length to = subst (λ (n : ℕ). n * len ≤ length to) (sym (sorted-length of len)) (few_pieces (element_count len of) len (length to) fits) in
    omega (arith, whole, front, rest, room)

pub each_stands : (of : List ℕ) (len : ℕ) (to more : List ℕ) (k : ℕ) → 0 < len → k < length (sorted_places of len) → element_at len (moved_all of len to ++ more) (k + 1) ≡ element_at len of (get_or (sorted_places of len) k 0)
each_stands of len to more k some low =
    let places : List ℕ = sorted_places of len in
    let f : ℕ → List ℕ = λ place. padded len (element_at len of place) in
    let rest : List ℕ = drop (length places * len) to ++ more in
    ap (λ (l : List ℕ). take len (drop (((k + 1) - 1) * len) (l ++ more))) (moved_all_is of len to)
    ∙ ap (λ (l : List ℕ). take len (drop (((k + 1) - 1) * len) l)) (append_assoc (pieces of len) (drop (length places * len) to) more)
    ∙ ap (λ (n : ℕ). take len (drop (n * len) (pieces of len ++ rest))) (let e : (k + 1) - 1 ≡ k = omega arith in e)
    ∙ piece f len places rest k (λ place. length-padded len (element_at len of place)) low
    ∙ whole_element of len (get_or places k 0) some (sorted-some of len k 0 low) (sorted-within of len k 0 low)

-- MAT SORT had room for all locators where it ended without a code
had_room : (v : Var) (b : Bool) (bytes : List ℕ) (old : VarsState) → (all_or_refused v (if b then Err P43_SHAPES else Ok bytes) old).code ≡ None → b ≡ false
had_room v false bytes old is = refl
had_room v true bytes old is = cc

second_false : (x y : Bool) → (x || y) ≡ false → y ≡ false
second_false true y is = cc
second_false false y is = is

enough : (of into : List ℕ) (len : ℕ) → is_too_short of len into ≡ false → 2 * element_count len of ≤ length into
enough of into len is = grind (arith, nat_tests)

-- as many bytes as before in the place of all
all_over : (bytes old : List ℕ) → length bytes ≤ length old → overwritten 0 bytes old ≡ bytes ++ drop (length bytes) old
all_over bytes old fits = sym (overwritten-within 0 bytes old (omega (arith, fits)))

same_over : (bytes old : List ℕ) → length bytes ≡ length old → overwritten 0 bytes old ≡ bytes
same_over bytes old same =
    all_over bytes old (omega (arith, same)) ∙ ap (λ (l : List ℕ). bytes ++ l) (drop_all (length bytes) old (omega (arith, same))) ∙ append-nil bytes

-- what stands under another name
elsewhere : (v other : Var) (x : VariableState) (t : Table) → other ≢ v → variable_at other (map.insert t v x) ≡ variable_at other t
elsewhere v other x t apart = ap (λ (o : Option VariableState). unwrap_or o (fresh other (scalar_shape other) false)) (get_other t v other x apart)

-- a move by those locators, over what stands under the three names
moved_so : (a l b : Var) (s : VarsState) (x y : VariableState) (into : List ℕ) → variable_at a s.table ≡ x → variable_at b s.table ≡ y
    → (variable_at l s.table).bytes ≡ received (sorted_places (named_bytes x.bytes) x.shape.len) into → y.shape.len ≡ x.shape.len → 0 < x.shape.len
    → 2 * element_count x.shape.len (named_bytes x.bytes) ≤ length into → element_count x.shape.len (named_bytes x.bytes) ≤ length y.bytes / x.shape.len
    → MovedInOrder x.shape.len (named_bytes x.bytes) b (move_by_locators a l b s)
moved_so a l b s x y into is_a is_b is_l same some room fits =
    let of : List ℕ = named_bytes x.bytes in
    let len : ℕ = x.shape.len in
    let places : List ℕ = sorted_places of len in
    let wanted : moved_by (record { of = own_array a; locators = own_array l; to = own_array b }) (only s) ≡ places =
    ap (λ (z : VariableState). wanted_places (bytes_of l s.table) z.shape.len z.bytes) is_b
    ∙ ap (λ (n : ℕ). wanted_places (bytes_of l s.table) n y.bytes) same
    ∙ all_wanted of len (bytes_of l s.table) into y.bytes len is_l room fits in
    let made : List ℕ = after_move (named_bytes (bytes_of a s.table)) (shape_at a s.table).len (moved_by (record { of = own_array a; locators = own_array l; to = own_array b }) (only s)) (shape_at b s.table).len (bytes_of b s.table) in
    let made_is : made ≡ after_move of len places len y.bytes =
    ap (λ (z : VariableState). after_move (named_bytes z.bytes) z.shape.len (moved_by (record { of = own_array a; locators = own_array l; to = own_array b }) (only s)) (shape_at b s.table).len (bytes_of b s.table)) is_a
    ∙ ap (λ (ps : List ℕ). after_move of len ps (shape_at b s.table).len (bytes_of b s.table)) wanted
    ∙ ap (λ (z : VariableState). after_move of len places z.shape.len z.bytes) is_b
    ∙ ap (λ (n : ℕ). after_move of len places n y.bytes) same in
    let left : bytes_of b (move_by_locators a l b s).vars.table ≡ after_move of len places len y.bytes ++ drop (length (after_move of len places len y.bytes)) y.bytes =
    ap (λ (z : VariableState). z.bytes) (put_there s.table b (with_bytes 0 (variable_at b s.table) made))
    ∙ ap (λ (z : VariableState). overwritten 0 made z.bytes) is_b
    ∙ ap (λ (ys : List ℕ). overwritten 0 ys y.bytes) made_is
    ∙ all_over (after_move of len places len y.bytes) y.bytes (moved_fits of len y.bytes fits) in
    record {
      code =
          ap (λ (z : VariableState). refusal_of (move_answer (named_bytes z.bytes) z.shape.len (moved_by (record { of = own_array a; locators = own_array l; to = own_array b }) (only s)))) is_a
          ∙ ap (λ (ps : List ℕ). refusal_of (move_answer of len ps)) wanted
          ∙ ap (λ (r : Result ℕ ℕ). refusal_of r) (none_past of len);
      order = record {
        places = places;
        sorted = defined_are_sorted of len;
        each = λ k low.
            ap (λ (ys : List ℕ). element_at len ys (k + 1)) left ∙ each_stands of len y.bytes (drop (length (after_move of len places len y.bytes)) y.bytes) k some low;
      };
    }

pub sorted_are_moved : SortedAreMoved
sorted_are_moved a l b old there variable apart other same long is =
    let t : Table = old.table in
    let x : VariableState = variable_at a t in
    let of : List ℕ = named_bytes x.bytes in
    let len : ℕ = x.shape.len in
    let into : List ℕ = bytes_of l t in
    let asked : ArraySort = record { of = own_array a; to = own_array l } in
    let some : 0 < len = some_length a x.shape there.kind variable.value_length in
    let roomy : has_no_room asked (only old) ≡ false = had_room l (has_no_room asked (only old)) (received (sorted_places of len) into) old is in
    let room : 2 * element_count len of ≤ length into = enough of into len (second_false (not ((shape_at l t).len == 2)) (is_too_short of len into) roomy) in
    let after : VarsState = with_all l (received (sorted_places of len) into) old in
    let sorts : (sort_by_locators a l old).vars ≡ after = ap (λ (b : Bool). (all_or_refused l (if b then Err P43_SHAPES else Ok (received (sorted_places of len) into)) old).vars) roomy in
    let put : VariableState = with_bytes 0 (variable_at l t) (received (sorted_places of len) into) in
    let named : length of ≤ length x.bytes = omega (arith, length-take 65535 x.bytes) in
    subst (λ (s : VarsState). MovedInOrder len of b (move_by_locators a l b s)) (sym sorts)
    (moved_so a l b after x (variable_at b t) into (elsewhere l a put t apart) (elsewhere l b put t other)
    (ap (λ (z : VariableState). z.bytes) (put_there t l put) ∙ same_over (received (sorted_places of len) into) into (length-received (sorted_places of len) into))
    same some room
    (le-div (element_count len of) (length (bytes_of b t)) len some (omega (arith, div-mul-le_self (length of) len, named, long))))
