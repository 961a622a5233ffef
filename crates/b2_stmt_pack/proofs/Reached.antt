-- A statement on packed fields changes the `@` variables only where it reaches a buffer or a receiver among them.
use Rattle.std.proofs.Common.{◌≡◌, ℕ, false, true≢false, List, [], ◌∷◌, length, map, is_some, Option, Some, None, Result, Ok, Err, refl}
use Rattle.b2_base.specs.declared.codes.TheConstants.{P58_SPECIFICATION}
use Rattle.b2_dec.specs.Number.{Number}
use Rattle.b2_dec.specs.declared.values.Value.{Value}
use Rattle.b2_atom.specs.Tree.{Trees}
use Rattle.b2_vars.specs.Assigned.{Assigned}
use Rattle.b2_vars.specs.Globals.{MayBecome}
use Rattle.b2_vars.specs.Tables.{VarsState}
use Rattle.b2_pack.specs.Images.{image_row}
use Rattle.b2_pack.specs.Packing.{fields_code, image_code, placed_fields, with_image, with_values}
use Rattle.b2_pack.specs.Specification.{is_specification}
use Rattle.b2_pack.specs.Unpacking.{fields_in, numbers_by_rows}
use Rattle.b2_expr.specs.Answers.{TextAnswer}
use Rattle.b2_expr.specs.Kinds.{suits}
use Rattle.b2_expr.specs.Value.{context_of}
use Rattle.b2_expr.specs.Workspace.{ChangesWhereReached, Reaches, WorkLeft, WorkState, counts_as_reached, refused, surroundings_of, unchanged}
use Rattle.b2_expr.proofs.Reached.{among_reaches, stay, then_reaches}
use Rattle.b2_receiver.specs.Assigning.{buffer_code, is_alpha_receiver, is_global_buffer, unless_refused, with_changed}
use Rattle.b2_receiver.specs.Receivers.{any_receiver}
use Rattle.b2_receiver.specs.Receiving.{given_value}
use Rattle.b2_receiver.specs.declared.receiver.Buffer.{Buffer}
use Rattle.b2_receiver.specs.declared.receiver.Receiver.{Receiver}
use Rattle.b2_receiver.proofs.Reached.{given_value_reaches, number_at_reaches}
use Rattle.b2_access.proofs.Choice.{either}
use Rattle.b2_access.proofs.Tables.{each_row}
use Rattle.b2_stmt_pack.specs.Buffers.{packed_by, packs_to, read_from, room_code, room_in, where_none}
use Rattle.b2_stmt_pack.specs.Fields as fields
use Rattle.b2_stmt_pack.specs.Lists.{all_taken, each_of, each_takes, kind_of, number_of, takes_number, takes_value, value_of, value_to}
use Rattle.b2_stmt_pack.specs.Numbers as numbers
use Rattle.b2_stmt_pack.specs.Plan.{Changes, changes, changing_rows, left_out}

-- packing changes nothing with a code
twice_refused : (o p : Option ℕ) (old after : VarsState) → counts_as_reached (unless_refused o old (unless_refused p old (record { vars = after; code = None }))).code ≡ false
    → (unless_refused o old (unless_refused p old (record { vars = after; code = None }))).vars ≡ old
twice_refused None None old after h = absurd (true≢false h)
twice_refused None (Some c) old after h = refl
twice_refused (Some c) p old after h = refl

packed_where_reached : (code : ℕ → Option ℕ) (change : List ℕ → List ℕ) (to : Buffer) → ChangesWhereReached (packed_by code change to)
packed_where_reached code change to old h =
    twice_refused (room_code code (room_in to old)) (buffer_code to old) old (with_changed (λ bytes. where_none (code (length bytes)) (change bytes) bytes) to old) h

packs_reach : {A : Type 0} (packed : A → Buffer → VarsState → Assigned) → ((xs : A) (to : Buffer) → ChangesWhereReached (packed xs to)) → (to : Result Buffer ℕ) (xs : Result A ℕ) → Reaches (packs_to packed to xs)
packs_reach packed same (Ok to) (Ok xs) w = among_reaches (is_global_buffer to) (packed xs to) (same xs to) w
packs_reach packed same (Ok to) (Err code) w = stay w.globals
packs_reach packed same (Err code) xs w = stay w.globals

-- receivers that take what is theirs
each_reaches : {A : Type 0} (one : A → Trees → WorkState → WorkLeft) → ((x : A) (t : Trees) → Reaches (one x t)) → (ts : List Trees) (xs : List A) → Reaches (each_takes one ts xs)
each_reaches one same [] xs w = stay w.globals
each_reaches one same (t ∷ ts) [] w = stay w.globals
each_reaches one same (t ∷ ts) (x ∷ xs) w = then_reaches w.globals (one x t w) (each_takes one ts xs) (same x t w) (each_reaches one same ts xs)

taken_reaches : {A : Type 0} (one : A → Trees → WorkState → WorkLeft) → ((x : A) (t : Trees) → Reaches (one x t)) → (ts : List Trees) (xs : Result (List A) ℕ) → Reaches (all_taken one ts xs)
taken_reaches one same ts (Ok xs) w = each_reaches one same ts xs w
taken_reaches one same ts (Err code) w = stay w.globals

number_reaches : (x : Number) (t : Trees) → Reaches (takes_number x t)
number_reaches x t w = number_at_reaches (Ok x) t w

to_reaches : (to : Result Receiver ℕ) (x : Value) → Reaches (value_to to x)
to_reaches (Ok to) x w = either (λ (r : WorkLeft). MayBecome w.globals r.work.globals) (suits (is_alpha_receiver to) x) (given_value to x w) (unchanged w) (given_value_reaches to x w) (stay w.globals)
to_reaches (Err code) x w = stay w.globals

value_reaches : (x : Value) (t : Trees) → Reaches (takes_value x t)
value_reaches x t w = to_reaches (any_receiver (context_of w) t) x w

-- each statement
numbers_packs : (t : Trees) → Reaches (numbers.packs t)
numbers_packs t w =
    let image = numbers.image_in t in
    let packed = packs_to (numbers.numbers_packed image) (numbers.buffer_in (context_of w) t) (each_of (number_of (context_of w)) (numbers.items_in t)) in
    either (λ (r : WorkLeft). MayBecome w.globals r.work.globals) (is_some (image_row image)) (packed w) (refused P58_SPECIFICATION w)
    (packs_reach (numbers.numbers_packed image) (λ xs to. packed_where_reached (image_code (image_row image) xs) (with_image (image_row image) xs) to) (numbers.buffer_in (context_of w) t) (each_of (number_of (context_of w)) (numbers.items_in t)) w)
    (stay w.globals)

numbers_unpacks : (t : Trees) → Reaches (numbers.unpacks t)
numbers_unpacks t w =
    let image = numbers.image_in t in
    let items = numbers.items_in t in
    let read = read_from (numbers_by_rows (image_row image) (length items)) (numbers.buffer_in (context_of w) t) (surroundings_of w) in
    either (λ (r : WorkLeft). MayBecome w.globals r.work.globals) (is_some (image_row image)) (all_taken takes_number items read w) (refused P58_SPECIFICATION w)
    (taken_reaches takes_number number_reaches items read w) (stay w.globals)

fields_pack : (spec : TextAnswer) (to : Result Buffer ℕ) (items : List Trees) → Reaches (fields.packs_by spec to items)
fields_pack (Ok spec) to items w =
    let values = each_of (value_of (context_of w)) items in
    either (λ (r : WorkLeft). MayBecome w.globals r.work.globals) (is_specification spec) (packs_to (fields.values_packed spec) to values w) (refused P58_SPECIFICATION w)
    (packs_reach (fields.values_packed spec) (λ xs b. packed_where_reached (fields_code spec xs) (with_values (placed_fields spec) xs) b) to values w) (stay w.globals)
fields_pack (Err code) to items w = stay w.globals

fields_unpack : (spec : TextAnswer) (of : Result Buffer ℕ) (items : List Trees) → Reaches (fields.unpacks_by spec of items)
fields_unpack (Ok spec) of items w =
    let read = read_from (fields_in spec (map kind_of items)) of (surroundings_of w) in
    either (λ (r : WorkLeft). MayBecome w.globals r.work.globals) (is_specification spec) (all_taken takes_value items read w) (refused P58_SPECIFICATION w)
    (taken_reaches takes_value value_reaches items read w) (stay w.globals)
fields_unpack (Err code) of items w = stay w.globals

-- each statement, by its row
abbrev EachReaches : Changes → Type 0
EachReaches change = (t : Trees) → Reaches (change t)

pub change_reaches : (r : ℕ) → EachReaches (changes r)
change_reaches r =
    each_row EachReaches changing_rows left_out r (
      (λ t w. numbers_packs t w),
      (
        (λ t w. numbers_unpacks t w),
        (
          (λ t w. fields_pack (fields.specification_in (context_of w) t) (fields.buffer_in (context_of w) t) (fields.items_in t) w),
          ((λ t w. fields_unpack (fields.specification_in (context_of w) t) (fields.buffer_in (context_of w) t) (fields.items_in t) w), tt),
        ),
      ),
    ) (λ t w. stay w.globals)
