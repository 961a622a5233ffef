-- Statements on packed fields leave numbers.
use Rattle.std.proofs.Common.{ℕ, zero, suc, ◌+◌, ◌-◌, ◌^◌, ◌==◌, ◌&&◌, not, nat_le, nat_lt, Bool, true, false, if◌then◌else◌, List, [], ◌∷◌, length, map, take, drop, Option, Some, None, IfSome, Result, Ok, Err, IfOk, is_some, inl, inr}
use Rattle.std.specs.List.{All}
use Rattle.std.proofs.lemmas.Bool.{cases_Bool}
use Rattle.std.proofs.lemmas.List.Elements.{All-cons, All-head, All-nil, All-tail}
use Rattle.b2_base.specs.Lexical.{skip_blanks}
use Rattle.b2_base.specs.declared.codes.TheConstants.{P58_SPECIFICATION, X70_TOO_LITTLE, X73_NOT_A_NUMBER, X74_OTHER_KIND, X75_NOT_DECIMAL, X76_LOCATOR_OR_FIELD}
use Rattle.b2_dec.specs.Number.{Number, IsNumber}
use Rattle.b2_dec.specs.Rounding.{rnd}
use Rattle.b2_dec.specs.declared.number.Mode.TheVariants.{Round}
use Rattle.b2_dec.specs.declared.values.Kind.{Kind}
use Rattle.b2_dec.specs.declared.values.Kind.TheVariants as kind
use Rattle.b2_dec.specs.declared.values.Value.{Value}
use Rattle.b2_dec.specs.declared.values.Value.TheVariants as value_kind
use Rattle.b2_dec.proofs.TenLemmas.{ten_pos}
use Rattle.b2_dectext.specs.NumberText.{number_len, number_read}
use Rattle.b2_atom.specs.Tree.{Trees}
use Rattle.b2_vars.specs.Assigned.{Assigned}
use Rattle.b2_vars.specs.Tables.{VarsState}
use Rattle.b2_pack.specs.FieldValues.{as_value, number_or, packed_number, text_number}
use Rattle.b2_pack.specs.Images.{image_row}
use Rattle.b2_pack.specs.Nibbles.{decimal_after, nibbles}
use Rattle.b2_pack.specs.PackedNumbers.{unpacked}
use Rattle.b2_pack.specs.Packing.{fields_code, image_code, placed_fields, placed_from, with_image, with_values}
use Rattle.b2_pack.specs.Rows.{are_digits, digits_in, ends_in_sign, is_below_zero, number_of_row, row_length, within_range}
use Rattle.b2_pack.specs.Specification.{before_pairs, digits_row, ends_pairs, is_specification, pair_meant, specified_pairs}
use Rattle.b2_pack.specs.Unpacking.{before_items, fields_in, numbers_by_rows, numbers_in, values_in}
use Rattle.b2_access.specs.Lending.{SeenLent}
use Rattle.b2_access.specs.Partition.{setting_of}
use Rattle.b2_access.specs.Working.{stops, work_of}
use Rattle.b2_access.specs.declared.accesses.Access.{Access}
use Rattle.b2_access.specs.declared.accesses.Answer.{Answer}
use Rattle.b2_access.specs.declared.planned.Outcome.TheVariants as outcome
use Rattle.b2_access.specs.declared.private.Private.{Private}
use Rattle.b2_access.proofs.Choice.{either}
use Rattle.b2_access.proofs.Dispatch.{each_dispatch}
use Rattle.b2_access.proofs.Tables.{each_row}
use Rattle.b2_expr.specs.Answers.{Answer as NumberAnswer, TextAnswer, ◌>>=◌}
use Rattle.b2_expr.specs.Kinds.{suits}
use Rattle.b2_expr.specs.Scope.{Surroundings}
use Rattle.b2_expr.specs.Value.{context_of}
use Rattle.b2_expr.specs.Workspace.{WorkLeft, WorkState, refused, surroundings_of, unchanged, work_in}
use Rattle.b2_receiver.specs.Assigning.{buffer_bytes, bytes_changed, is_alpha_receiver, is_global_buffer}
use Rattle.b2_receiver.specs.Receivers.{any_receiver}
use Rattle.b2_receiver.specs.Receiving.{given_value}
use Rattle.b2_receiver.specs.declared.receiver.Buffer.{Buffer}
use Rattle.b2_receiver.specs.declared.receiver.Receiver.{Receiver}
use Rattle.b2_stmt_pack.specs.Buffers.{buffer_variables, packed_by, packs_to, read_from, read_in, room_code, room_in, where_none}
use Rattle.b2_stmt_pack.specs.Fields as fields
use Rattle.b2_stmt_pack.specs.Lists.{all_taken, each_of, each_takes, kind_of, number_of, takes_number, takes_value, value_of, value_to}
use Rattle.b2_stmt_pack.specs.Numbers as numbers
use Rattle.b2_stmt_pack.specs.Plan.{Changes, changes, changing_rows, does, ends, finish, is_refused, left_out, plan, works}
use Rattle.b2_stmt_file.specs.SavedNumbers.{GivesNumber, IsAnyNumber}
use Rattle.b2_stmt_file.proofs.NumbersGiven.{either_gives}
use Rattle.b2_stmt_file.proofs.Rounded.{rnd_gives}
use Rattle.b2_sched.specs.Numbers.{FinishingHolds, GlobalsHold, PlanningHolds, PrivateHolds}
use Rattle.b2_sched.proofs.NumbersAssigned.{KeepsNumbers, among_keeps, assign_number_holds, buffer_keeps, given_value_holds, then_holds, unless_keeps}
use Rattle.b2_sched.proofs.NumbersFinished.{finished_holds}
use Rattle.b2_sched.proofs.NumbersPut.{Keeps, WorkingHolds, changed_holds, planned_holds, test_keeps, work_of_holds, works_in}
use Rattle.b2_sched.proofs.NumbersRead.{read_is, unpacked_is}

-- a number in a field
or_gives : (code : ℕ) (o : Option Number) → IfSome o IsNumber → GivesNumber (number_or code o)
or_gives code None is = tt
or_gives code (Some x) is = is

text_gives : (bytes : List ℕ) → GivesNumber (text_number bytes)
text_gives bytes =
    let text = skip_blanks bytes in
    either_gives (number_len text == length text) (number_or X73_NOT_A_NUMBER (number_read text)) (Err X73_NOT_A_NUMBER) (or_gives X73_NOT_A_NUMBER (number_read text) (read_is text)) tt

range_gives : (r : NumberAnswer) → GivesNumber r → GivesNumber (within_range r)
range_gives (Ok x) is = is
range_gives (Err code) is = tt

row_gives : (row : _) (bytes : List ℕ) → GivesNumber (number_of_row row bytes)
row_gives row bytes =
    let ns = nibbles bytes in
    let made = rnd Round (is_below_zero row.sign row.digits ns) (decimal_after 0 (digits_in row.sign row.digits ns)) (10 ^ row.decimals) in
    let ended = if not (ends_in_sign row.sign row.digits ns) then Err X76_LOCATOR_OR_FIELD else within_range made in
    either_gives (not (are_digits row.sign row.digits ns)) (Err X75_NOT_DECIMAL) ended tt
    (either_gives (not (ends_in_sign row.sign row.digits ns)) (Err X76_LOCATOR_OR_FIELD) (within_range made) tt
    (range_gives made (rnd_gives Round (is_below_zero row.sign row.digits ns) (decimal_after 0 (digits_in row.sign row.digits ns)) (10 ^ row.decimals) (ten_pos row.decimals))))

-- and a value
as_value_is : (r : NumberAnswer) → GivesNumber r → IfOk (as_value r) IsAnyNumber
as_value_is (Ok x) is = is
as_value_is (Err code) is = tt

-- all that are read, where there is room for them
before_hold : {A : Type 0} (P : A → Type 0) (r : Result A ℕ) (rest : Result (List A) ℕ) → IfOk r P → IfOk rest (All P) → IfOk (before_items r rest) (All P)
before_hold P (Ok x) (Ok xs) is all = All-cons P x xs is all
before_hold P (Ok x) (Err code) is all = tt
before_hold P (Err code) rest is all = tt

where_room : {A : Type 0} (P : A → Type 0) (short : Bool) (code : ℕ) (r : Result A ℕ) → IfOk r P → IfOk (if short then Err code else r) P
where_room P true code r h = tt
where_room P false code r h = h

-- the fields that pairs mean, by their kinds
none_hold : (ks : List Kind) (bytes : List ℕ) → IfOk (values_in [] ks bytes) (All IsAnyNumber)
none_hold [] bytes = All-nil IsAnyNumber
none_hold (k ∷ ks) bytes = tt

one_more : (short : Bool) (one : Result Value ℕ) (rest : Result (List Value) ℕ) → IfOk one IsAnyNumber → IfOk rest (All IsAnyNumber) → IfOk (if short then Err X70_TOO_LITTLE else before_items one rest) (All IsAnyNumber)
one_more short one rest is all = where_room (All IsAnyNumber) short X70_TOO_LITTLE (before_items one rest) (before_hold IsAnyNumber one rest is all)

packed_is : (bytes : List ℕ) → IfOk (as_value (packed_number bytes)) IsAnyNumber
packed_is bytes = as_value_is (packed_number bytes) (or_gives X76_LOCATOR_OR_FIELD (unpacked bytes) (unpacked_is bytes))

-- By the first byte of a pair it skips, or it is a field of text, of digits, of a packed number or of an alpha value, or it means none. The
-- kinds stand here by their bytes, and the fields by what is read in them: their crate keeps their names to itself.
meant_hold : (sort width : ℕ) (ps : _) (bytes : List ℕ) → ((at : ℕ) (ks : List Kind) → IfOk (values_in (placed_from at ps) ks bytes) (All IsAnyNumber))
    → (at : ℕ) (ks : List Kind) → IfOk (values_in (placed_from at (before_pairs (pair_meant sort width) ps)) ks bytes) (All IsAnyNumber)
meant_hold sort width ps bytes more at [] = All-nil IsAnyNumber
meant_hold sort width ps bytes more at (kind.Number ∷ ks) =
    let part = take width (drop at bytes) in
    let rest = values_in (placed_from (at + width) ps) ks bytes in
    let short = nat_lt (length bytes) (at + width) in
    elim (cases_Bool (width == 0)) [
      | inl none ↦ rw none tt
      | inr some ↦ elim (cases_Bool (sort == 0)) [
        | inl is ↦ rw (some, is) (more (at + width) (kind.Number ∷ ks))
        | inr holds ↦ elim (cases_Bool (sort == 16)) [
          | inl is ↦ rw (some, holds, is) (one_more short (as_value (text_number part)) rest (as_value_is (text_number part) (text_gives part)) (more (at + width) ks))
          | inr no_text ↦ elim (cases_Bool (nat_le 80 sort && nat_le sort 89)) [
            | inl is ↦ rw (some, holds, no_text, is) (one_more short (as_value (number_of_row (digits_row (sort - 80) width) part)) rest (as_value_is (number_of_row (digits_row (sort - 80) width) part) (row_gives (digits_row (sort - 80) width) part)) (more (at + width) ks))
            | inr no_digits ↦ elim (cases_Bool ((sort == 96) && (width == 8))) [
              | inl is ↦ rw (some, holds, no_text, no_digits, is) (one_more (nat_lt (length bytes) (at + 8)) (as_value (packed_number (take 8 (drop at bytes)))) (values_in (placed_from (at + 8) ps) ks bytes) (packed_is (take 8 (drop at bytes))) (more (at + 8) ks))
              | inr not_packed ↦ elim (cases_Bool (sort == 160)) [
                | inl is ↦ rw (some, holds, no_text, no_digits, not_packed, is) (one_more short (Err X74_OTHER_KIND) rest tt (more (at + width) ks))
                | inr other ↦ rw (some, holds, no_text, no_digits, not_packed, other) tt
              ]
            ]
          ]
        ]
      ]
    ]
meant_hold sort width ps bytes more at (kind.Alpha ∷ ks) =
    let part = take width (drop at bytes) in
    let rest = values_in (placed_from (at + width) ps) ks bytes in
    let short = nat_lt (length bytes) (at + width) in
    elim (cases_Bool (width == 0)) [
      | inl none ↦ rw none tt
      | inr some ↦ elim (cases_Bool (sort == 0)) [
        | inl is ↦ rw (some, is) (more (at + width) (kind.Alpha ∷ ks))
        | inr holds ↦ elim (cases_Bool (sort == 16)) [
          | inl is ↦ rw (some, holds, is) (one_more short (Err X74_OTHER_KIND) rest tt (more (at + width) ks))
          | inr no_text ↦ elim (cases_Bool (nat_le 80 sort && nat_le sort 89)) [
            | inl is ↦ rw (some, holds, no_text, is) (one_more short (Err X74_OTHER_KIND) rest tt (more (at + width) ks))
            | inr no_digits ↦ elim (cases_Bool ((sort == 96) && (width == 8))) [
              | inl is ↦ rw (some, holds, no_text, no_digits, is) (one_more (nat_lt (length bytes) (at + 8)) (Err X74_OTHER_KIND) (values_in (placed_from (at + 8) ps) ks bytes) tt (more (at + 8) ks))
              | inr not_packed ↦ elim (cases_Bool (sort == 160)) [
                | inl is ↦ rw (some, holds, no_text, no_digits, not_packed, is) (one_more short (Ok (value_kind.Alpha part)) rest tt (more (at + width) ks))
                | inr other ↦ rw (some, holds, no_text, no_digits, not_packed, other) tt
              ]
            ]
          ]
        ]
      ]
    ]

pairs_hold : (text bytes : List ℕ) (at : ℕ) (ks : List Kind) → IfOk (values_in (placed_from at (specified_pairs text)) ks bytes) (All IsAnyNumber)
pairs_hold [] bytes at ks = none_hold ks bytes
pairs_hold (b ∷ []) bytes at ks = none_hold ks bytes
pairs_hold (sort ∷ width ∷ rest) bytes at ks =
    either (λ (ps : _). IfOk (values_in (placed_from at ps) ks bytes) (All IsAnyNumber)) (ends_pairs sort width) _ _ (none_hold ks bytes)
    (meant_hold sort width (specified_pairs rest) bytes (pairs_hold rest bytes) at ks)

numbers_hold : (row : _) (at n : ℕ) (bytes : List ℕ) → IfOk (numbers_in row at n bytes) (All IsNumber)
numbers_hold row at zero bytes = All-nil IsNumber
numbers_hold row at (suc n) bytes =
    let number = number_of_row row (take (row_length row) (drop at bytes)) in
    let rest = numbers_in row (at + row_length row) n bytes in
    where_room (All IsNumber) (nat_lt (length bytes) (at + row_length row)) X70_TOO_LITTLE (before_items number rest)
    (before_hold IsNumber number rest (row_gives row (take (row_length row) (drop at bytes))) (numbers_hold row (at + row_length row) n bytes))

rows_hold : (o : _) (n : ℕ) (bytes : List ℕ) → IfOk (numbers_by_rows o n bytes) (All IsNumber)
rows_hold None n bytes = tt
rows_hold (Some row) n bytes = numbers_hold row 0 n bytes

specified_hold : (b : Bool) (r : Result (List Value) ℕ) → IfOk r (All IsAnyNumber) → IfOk (if b then r else Err P58_SPECIFICATION) (All IsAnyNumber)
specified_hold true r h = h
specified_hold false r h = tt

fields_hold : (spec : List ℕ) (ks : List Kind) (bytes : List ℕ) → IfOk (fields_in spec ks bytes) (All IsAnyNumber)
fields_hold spec ks bytes = specified_hold (is_specification spec) (values_in (placed_fields spec) ks bytes) (pairs_hold spec bytes 0 ks)

-- what the bytes of a buffer are read as
after_any : {A B : Type 0} (P : B → Type 0) (r : Result A ℕ) (next : A → Result B ℕ) → ((x : A) → IfOk (next x) P) → IfOk (r >>= next) P
after_any P (Ok x) next h = h x
after_any P (Err code) next h = tt

read_holds : {A : Type 0} (P : A → Type 0) (read : List ℕ → Result A ℕ) → ((bytes : List ℕ) → IfOk (read bytes) P) → (of : Result Buffer ℕ) (e : Surroundings) → IfOk (read_from read of e) P
read_holds P read h of e =
    after_any P of (λ b. buffer_variables e b >>= (λ vars. read_in read b vars))
    (λ b. after_any P (buffer_variables e b) (λ vars. read_in read b vars) (λ vars. after_any P (buffer_bytes b vars) read h))

-- receivers that take what is theirs
each_holds : {A : Type 0} (P : A → Type 0) (one : A → Trees → WorkState → WorkLeft) → ((x : A) (t : Trees) → P x → Keeps (one x t)) → (ts : List Trees) (xs : List A) → All P xs → Keeps (each_takes one ts xs)
each_holds P one keeps [] xs all w h = h
each_holds P one keeps (t ∷ ts) [] all w h = h
each_holds P one keeps (t ∷ ts) (x ∷ xs) all w h = then_holds (one x t w) (each_takes one ts xs) (keeps x t (All-head P x xs all) w h) (each_holds P one keeps ts xs (All-tail P x xs all))

taken_hold : {A : Type 0} (P : A → Type 0) (one : A → Trees → WorkState → WorkLeft) → ((x : A) (t : Trees) → P x → Keeps (one x t)) → (ts : List Trees) (xs : Result (List A) ℕ) → IfOk xs (All P) → Keeps (all_taken one ts xs)
taken_hold P one keeps ts (Ok xs) all w h = each_holds P one keeps ts xs all w h
taken_hold P one keeps ts (Err code) all w h = h

number_holds : (x : Number) (t : Trees) → IsNumber x → Keeps (takes_number x t)
number_holds x t is w h = assign_number_holds (Ok x) t is w h

to_holds : (to : Result Receiver ℕ) (x : Value) → IsAnyNumber x → Keeps (value_to to x)
to_holds (Ok to) x is w h = test_keeps (suits (is_alpha_receiver to) x) (given_value to x w) (unchanged w) (given_value_holds to x is w h) h
to_holds (Err code) x is w h = h

value_holds : (x : Value) (t : Trees) → IsAnyNumber x → Keeps (takes_value x t)
value_holds x t is w h = to_holds (any_receiver (context_of w) t) x is w h

-- buffers that something is packed into
packed_keeps : (code : ℕ → Option ℕ) (change : List ℕ → List ℕ) (to : Buffer) → KeepsNumbers (packed_by code change to)
packed_keeps code change to old h =
    let all : List ℕ → List ℕ = λ bytes. where_none (code (length bytes)) (change bytes) bytes in
    unless_keeps (room_code code (room_in to old)) old (bytes_changed all to old) h (buffer_keeps all to old h)

packs_hold : {A : Type 0} (packed : A → Buffer → VarsState → Assigned) → ((xs : A) (to : Buffer) → KeepsNumbers (packed xs to)) → (to : Result Buffer ℕ) (xs : Result A ℕ) → Keeps (packs_to packed to xs)
packs_hold packed keeps (Ok to) (Ok xs) w h = among_keeps (is_global_buffer to) (packed xs to) (keeps xs to) w h
packs_hold packed keeps (Ok to) (Err code) w h = h
packs_hold packed keeps (Err code) xs w h = h

-- each statement
numbers_packs : (t : Trees) → Keeps (numbers.packs t)
numbers_packs t w h =
    let image = numbers.image_in t in
    let to = numbers.buffer_in (context_of w) t in
    let values = each_of (number_of (context_of w)) (numbers.items_in t) in
    test_keeps (is_some (image_row image)) (packs_to (numbers.numbers_packed image) to values w) (refused P58_SPECIFICATION w)
    (packs_hold (numbers.numbers_packed image) (λ xs b. packed_keeps (image_code (image_row image) xs) (with_image (image_row image) xs) b) to values w h) h

numbers_unpacks : (t : Trees) → Keeps (numbers.unpacks t)
numbers_unpacks t w h =
    let image = numbers.image_in t in
    let items = numbers.items_in t in
    let of = numbers.buffer_in (context_of w) t in
    let read = numbers_by_rows (image_row image) (length items) in
    test_keeps (is_some (image_row image)) (all_taken takes_number items (read_from read of (surroundings_of w)) w) (refused P58_SPECIFICATION w)
    (taken_hold IsNumber takes_number number_holds items (read_from read of (surroundings_of w)) (read_holds (All IsNumber) read (rows_hold (image_row image) (length items)) of (surroundings_of w)) w h) h

fields_pack : (spec : TextAnswer) (to : Result Buffer ℕ) (items : List Trees) → Keeps (fields.packs_by spec to items)
fields_pack (Ok spec) to items w h =
    let values = each_of (value_of (context_of w)) items in
    test_keeps (is_specification spec) (packs_to (fields.values_packed spec) to values w) (refused P58_SPECIFICATION w)
    (packs_hold (fields.values_packed spec) (λ xs b. packed_keeps (fields_code spec xs) (with_values (placed_fields spec) xs) b) to values w h) h
fields_pack (Err code) to items w h = h

fields_unpack : (spec : TextAnswer) (of : Result Buffer ℕ) (items : List Trees) → Keeps (fields.unpacks_by spec of items)
fields_unpack (Ok spec) of items w h =
    let read = fields_in spec (map kind_of items) in
    test_keeps (is_specification spec) (all_taken takes_value items (read_from read of (surroundings_of w)) w) (refused P58_SPECIFICATION w)
    (taken_hold IsAnyNumber takes_value value_holds items (read_from read of (surroundings_of w)) (read_holds (All IsAnyNumber) read (fields_hold spec (map kind_of items)) of (surroundings_of w)) w h) h
fields_unpack (Err code) of items w h = h

-- each statement, by its row
abbrev EachKeeps : Changes → Type 0
EachKeeps change = (t : Trees) → Keeps (change t)

changes_hold : (r : ℕ) → EachKeeps (changes r)
changes_hold r =
    each_row EachKeeps changing_rows left_out r (
      (λ t w h. numbers_packs t w h),
      (
        (λ t w h. numbers_unpacks t w h),
        (
          (λ t w h. fields_pack (fields.specification_in (context_of w) t) (fields.buffer_in (context_of w) t) (fields.items_in t) w h),
          ((λ t w h. fields_unpack (fields.specification_in (context_of w) t) (fields.buffer_in (context_of w) t) (fields.items_in t) w h), tt),
        ),
      ),
    ) (λ t w h. h)

pub fields_plan_numbers : (me : Private) (s : SeenLent) → PrivateHolds me → GlobalsHold s.globals → PlanningHolds (plan me s)
fields_plan_numbers me s h g =
    planned_holds me s (works me s) h g
    (each_dispatch is_refused stops (does me s) me s WorkingHolds tt tt
    (λ p is u. let w = work_in (setting_of me) s.home me.vars s.globals in changed_holds (changes u.row u.tree w) outcome.Next (work_of me) (changes_hold u.row u.tree w (works_in me s h g)) h.1))

pub fields_finish_numbers : (x : Access) (a : Answer) (me : Private) (s : SeenLent) → PrivateHolds me → GlobalsHold s.globals → FinishingHolds (finish x a me s)
fields_finish_numbers x a me s h g = finished_holds ends x a me s g (work_of_holds me h)
