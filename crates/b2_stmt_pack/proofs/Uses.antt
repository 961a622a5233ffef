-- What statements on packed fields are for: what PACK put into an array comes back out of it.
use Rattle.std.proofs.Common.{◌≡◌, ◌≤◌, ℕ, ◌+◌, Bool, true, false, not, nat_lt, List, [], ◌∷◌, ◌++◌, length, drop, length-drop, length-append, Option, Some, None, Ok, if◌then◌else◌, refl, sym, ap, ◌∙◌, arith}
use Rattle.std.proofs.lemmas.List.{append_assoc}
use Rattle.std.proofs.lemmas.Bool.Decides.{nat_tests}
use Rattle.std.specs.FinMap as map
use Rattle.std.specs.Prelude.{is_some}
use Rattle.b2_base.specs.declared.codes.TheConstants.{P59_NO_ARRAY}
use Rattle.b2_dec.specs.Number.{Number}
use Rattle.b2_vars.specs.Answers.{code_if}
use Rattle.b2_vars.specs.Calls.{missing_code, with_bytes_of}
use Rattle.b2_vars.specs.Tables.{Table, VarsState, variable_at}
use Rattle.b2_vars.specs.Variables.{VariableState, overwritten, with_bytes}
use Rattle.b2_vars.specs.declared.name.Var.{Var}
use Rattle.b2_vars.proofs.Cells.{variable_at-Some}
use Rattle.b2_vars.proofs.EntriesAsMap.{get_put}
use Rattle.b2_vars.proofs.Overwriting.{overwritten-within}
use Rattle.b2_pack.specs.Images.{image_row}
use Rattle.b2_pack.specs.Laws.{AreSpelled}
use Rattle.b2_pack.specs.Packing.{image_code, numbers_bytes, numbers_code, with_front_bytes, with_image}
use Rattle.b2_pack.specs.Rows.{row_bytes, row_fits, row_length}
use Rattle.b2_pack.specs.Unpacking.{numbers_by_rows, numbers_in}
use Rattle.b2_pack.proofs.Returning.{numbers-back}
use Rattle.b2_pack.proofs.RowLemmas.{row_bytes-length}
use Rattle.b2_expr.specs.Answers.{TextAnswer, unless, ◌>>=◌}
use Rattle.b2_receiver.specs.Assigning.{unless_refused}
use Rattle.b2_receiver.specs.declared.receiver.Buffer.TheVariants as buffer_kind
use Rattle.b2_stmt_pack.specs.Buffers.{read_in, room_code, where_none}
use Rattle.b2_stmt_pack.specs.Laws.{NumbersComeBack}

-- numbers that have room take no more bytes than there are
room_by : (b c : Bool) (p q : ℕ) (o : Option ℕ) → (if b then Some p else (if c then Some q else o)) ≡ None → (b ≡ false) × (o ≡ None)
room_by true c p q o is = cc
room_by false true p q o is = cc
room_by false false p q o is = (refl, is)

inside : (room end : ℕ) → nat_lt room end ≡ false → end ≤ room
inside room end is = grind (arith, nat_tests)

have_room : (row : _) (at : ℕ) (xs : List Number) (room : ℕ) → at ≤ room → numbers_code row at xs room ≡ None → at + length (numbers_bytes row xs) ≤ room
have_room row at [] room small is = omega (arith, small)
have_room row at (x ∷ xs) room small is =
    let h = room_by (nat_lt room (at + row_length row)) (not (row_fits row x)) 70 71 (numbers_code row (at + row_length row) xs room) is in
    let e = inside room (at + row_length row) h.0 in
    let f = have_room row (at + row_length row) xs room e h.1 in
    let wide : length (row_bytes row x) ≡ row_length row = row_bytes-length row x in
    let whole : length (numbers_bytes row (x ∷ xs)) ≡ length (row_bytes row x) + length (numbers_bytes row xs) = length-append (row_bytes row x) (numbers_bytes row xs) in
    omega (arith, f, wide, whole)

-- they stand at the front of what they were written over
front_stands : (front bytes : List ℕ) → length front ≤ length bytes → overwritten 0 (with_front_bytes front bytes) bytes ≡ front ++ (drop (length front) bytes ++ drop (length (with_front_bytes front bytes)) bytes)
front_stands front bytes small =
    sym (overwritten-within 0 (with_front_bytes front bytes) bytes (omega (arith, small, length-append front (drop (length front) bytes), length-drop (length front) bytes)))
    ∙ append_assoc front (drop (length front) bytes) (drop (length (with_front_bytes front bytes)) bytes)

read_back : (row : _) (xs : List Number) (bytes : List ℕ) → AreSpelled row xs → numbers_code row 0 xs (length bytes) ≡ None → numbers_in row 0 (length xs) (overwritten 0 (with_front_bytes (numbers_bytes row xs) bytes) bytes) ≡ Ok xs
read_back row xs bytes spelled is =
    ap (numbers_in row 0 (length xs)) (front_stands (numbers_bytes row xs) bytes (let e = have_room row 0 xs (length bytes) (omega arith) is in omega (arith, e)))
    ∙ numbers-back row xs (drop (length (numbers_bytes row xs)) bytes ++ drop (length (with_front_bytes (numbers_bytes row xs) bytes)) bytes) spelled

-- what was put under a name is there
there_none : (o : Option VariableState) (x : VariableState) → o ≡ Some x → code_if (not (is_some o)) P59_NO_ARRAY ≡ None
there_none o x is = ap (λ (p : Option VariableState). code_if (not (is_some p)) P59_NO_ARRAY) is

put_there : (v : Var) (x : VariableState) (t : Table) → unless (missing_code v (map.insert t v x)) (variable_at v (map.insert t v x)).bytes ≡ Ok x.bytes
put_there v x t =
    ap (λ (o : Option ℕ). unless o (variable_at v (map.insert t v x)).bytes) (there_none (map.get (map.insert t v x) v) x (get_put t v x))
    ∙ ap (λ (y : VariableState). Ok y.bytes) (variable_at-Some (map.insert t v x) v x (get_put t v x))

-- with no code the buffer changed
no_code : (o p : Option ℕ) (old after : VarsState) → (unless_refused o old (unless_refused p old (record { vars = after; code = None }))).code ≡ None
    → (o ≡ None) × ((unless_refused o old (unless_refused p old (record { vars = after; code = None }))).vars ≡ after)
no_code None None old after is = (refl, refl)
no_code None (Some c) old after is = cc
no_code (Some c) p old after is = cc

room_there : (code : ℕ → Option ℕ) (o : Option ℕ) (bytes : List ℕ) → room_code code (unless o bytes >>= (λ (xs : List ℕ). Ok (length xs))) ≡ None → code (length bytes) ≡ None
room_there code None bytes is = is
room_there code (Some c) bytes is = cc

pub numbers_come_back : NumbersComeBack
numbers_come_back image row xs a old is spelled some none =
    let bytes : List ℕ = (variable_at a.var old.table).bytes in
    let code : ℕ → Option ℕ = λ n. image_code (image_row image) xs n in
    let made : List ℕ = where_none (code (length bytes)) (with_image (image_row image) xs bytes) bytes in
    let h = no_code (room_code code (unless (missing_code a.var old.table) bytes >>= (λ (xs : List ℕ). Ok (length xs)))) (missing_code a.var old.table) old (with_bytes_of a.var 0 old made) none in
    let fine : code (length bytes) ≡ None = room_there code (missing_code a.var old.table) bytes h.0 in
    let fits : numbers_code row 0 xs (length bytes) ≡ None = sym (ap (λ (r : Option _). image_code r xs (length bytes)) is) ∙ fine in
    let wrote : made ≡ with_front_bytes (numbers_bytes row xs) bytes = ap (λ (o : Option ℕ). where_none o (with_image (image_row image) xs bytes) bytes) fine ∙ ap (λ (r : Option _). with_image r xs bytes) is in
    ap (λ (s : VarsState). read_in (numbers_by_rows (image_row image) (length xs)) (buffer_kind.Array a) s) h.1
    ∙ ap (λ (t : TextAnswer). t >>= numbers_by_rows (image_row image) (length xs)) (put_there a.var (with_bytes 0 (variable_at a.var old.table) made) old.table)
    ∙ ap (λ (r : Option _). numbers_by_rows r (length xs) (overwritten 0 made bytes)) is
    ∙ ap (λ (ys : List ℕ). numbers_in row 0 (length xs) (overwritten 0 ys bytes)) wrote
    ∙ read_back row xs bytes spelled fits
