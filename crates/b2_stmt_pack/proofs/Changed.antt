-- What packing into a buffer leaves, and how it ends.
use Rattle.std.proofs.Common.{◌≡◌, ℕ, List, length, Option, None, Result, Ok, Err, sym, ap, subst, ◌∙◌}
use Rattle.std.specs.Prelude.{OnOk, OnErr, Some}
use Rattle.std.specs.Result.{result_err}
use Rattle.b2_base.specs.declared.codes.Fault.{Fault}
use Rattle.b2_vars.specs.Answers.{AnswersOrFails}
use Rattle.b2_vars.specs.Tables.{VarsState}
use Rattle.b2_receiver.specs.Assigning.{ChangesBuffer, Ends, buffer_code, bytes_changed, unless_refused}
use Rattle.b2_receiver.specs.declared.receiver.Buffer.{Buffer}
use Rattle.b2_receiver.proofs.Changed.{changed_ends}
use Rattle.b2_vars.specs.Assigned.{Assigned}
use Rattle.b2_dec.specs.Number.{Number}
use Rattle.b2_dec.specs.declared.values.Value.{Value}
use Rattle.b2_pack.specs.Images.{image_row}
use Rattle.b2_pack.specs.Packing.{fields_code, image_code, placed_fields, with_image, with_values}
use Rattle.b2_stmt_pack.specs.Buffers.{packed_by, room_code, room_in, where_none}
use Rattle.b2_stmt_pack.specs.Fields.{values_packed}
use Rattle.b2_stmt_pack.specs.Numbers.{numbers_packed}

-- new bytes where packing has no code
pub new_or_old : (o : Option ℕ) (r : Result (Unit {0}) ℕ) (new made old : List ℕ) → result_err r ≡ o → OnOk r (new ≡ made) → OnErr r (new ≡ old) → new ≡ where_none o made old
new_or_old o (Ok done) new made old is ok err = ok ∙ ap (λ (c : Option ℕ). where_none c made old) is
new_or_old o (Err code) new made old is ok err = err ∙ ap (λ (c : Option ℕ). where_none c made old) is

-- the code of a buffer, and of what is packed into as many bytes
pub room_coded : (code : ℕ → Option ℕ) (room : Result ℕ ℕ) (n : ℕ) (o : Option ℕ) → Ok n ≡ room → o ≡ code n → room_code code room ≡ o
room_coded code room n o is coded = sym (ap (room_code code) is) ∙ sym coded

pub room_missing : (code : ℕ → Option ℕ) (room : Result ℕ ℕ) (c : ℕ) → Err c ≡ room → room_code code room ≡ Some c
room_missing code room c is = sym (ap (room_code code) is)

-- how packing ends where there is room, and where there is none
packed_put : (code : ℕ → Option ℕ) (change : List ℕ → List ℕ) (gives : List ℕ → List ℕ → Type 0) (to : Buffer) (old new : VarsState) (r : Result (Unit {0}) Fault)
    → room_code code (room_in to old) ≡ None → OnOk r (ChangesBuffer gives to old new) → AnswersOrFails (buffer_code to old) r → OnErr r (new ≡ old)
    → ((x y : List ℕ) → gives x y → y ≡ where_none (code (length x)) (change x) x) → Ends (packed_by code change to old) old new r
packed_put code change gives to old new r room ok coded err is =
    subst (λ (o : Option ℕ). Ends (unless_refused o old (bytes_changed (λ x. where_none (code (length x)) (change x) x) to old)) old new r) (sym room)
    (changed_ends (λ x. where_none (code (length x)) (change x) x) gives to old new r ok coded err is)

packed_refused : (code : ℕ → Option ℕ) (change : List ℕ → List ℕ) (to : Buffer) (old : VarsState) (c : ℕ) → room_code code (room_in to old) ≡ Some c
    → ((packed_by code change to old).code ≡ Some c) × (old ≡ (packed_by code change to old).vars)
packed_refused code change to old c room =
    let made : Assigned = bytes_changed (λ x. where_none (code (length x)) (change x) x) to old in
    (ap (λ (o : Option ℕ). (unless_refused o old made).code) room, sym (ap (λ (o : Option ℕ). (unless_refused o old made).vars) room))

pub numbers_put : (image : List ℕ) (xs : List Number) (gives : List ℕ → List ℕ → Type 0) (to : Buffer) (old new : VarsState) (r : Result (Unit {0}) Fault)
    → room_code (image_code (image_row image) xs) (room_in to old) ≡ None → OnOk r (ChangesBuffer gives to old new) → AnswersOrFails (buffer_code to old) r → OnErr r (new ≡ old)
    → ((x y : List ℕ) → gives x y → y ≡ where_none (image_code (image_row image) xs (length x)) (with_image (image_row image) xs x) x) → Ends (numbers_packed image xs to old) old new r
numbers_put image xs gives to old new r room ok coded err is = packed_put (image_code (image_row image) xs) (with_image (image_row image) xs) gives to old new r room ok coded err is

pub numbers_refused : (image : List ℕ) (xs : List Number) (to : Buffer) (old : VarsState) (c : ℕ) → room_code (image_code (image_row image) xs) (room_in to old) ≡ Some c
    → ((numbers_packed image xs to old).code ≡ Some c) × (old ≡ (numbers_packed image xs to old).vars)
numbers_refused image xs to old c room = packed_refused (image_code (image_row image) xs) (with_image (image_row image) xs) to old c room

pub values_put : (spec : List ℕ) (vs : List Value) (gives : List ℕ → List ℕ → Type 0) (to : Buffer) (old new : VarsState) (r : Result (Unit {0}) Fault)
    → room_code (fields_code spec vs) (room_in to old) ≡ None → OnOk r (ChangesBuffer gives to old new) → AnswersOrFails (buffer_code to old) r → OnErr r (new ≡ old)
    → ((x y : List ℕ) → gives x y → y ≡ where_none (fields_code spec vs (length x)) (with_values (placed_fields spec) vs x) x) → Ends (values_packed spec vs to old) old new r
values_put spec vs gives to old new r room ok coded err is = packed_put (fields_code spec vs) (with_values (placed_fields spec) vs) gives to old new r room ok coded err is

pub values_refused : (spec : List ℕ) (vs : List Value) (to : Buffer) (old : VarsState) (c : ℕ) → room_code (fields_code spec vs) (room_in to old) ≡ Some c
    → ((values_packed spec vs to old).code ≡ Some c) × (old ≡ (values_packed spec vs to old).vars)
values_refused spec vs to old c room = packed_refused (fields_code spec vs) (with_values (placed_fields spec) vs) to old c room
