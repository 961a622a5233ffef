-- What a call that changes the bytes of a buffer leaves, by what it makes of them.
use Rattle.std.proofs.Common.{◌≡◌, ℕ, ◌+◌, ◌-◌, List, take, length, Result, Ok, Err, ap, ◌∙◌, arith}
use Rattle.std.proofs.Math.Seq.{take-length}
use Rattle.std.specs.Prelude.{OnOk, OnErr}
use Rattle.b2_base.specs.declared.codes.Fault.{Fault}
use Rattle.b2_vars.specs.Answers.{AnswersOrFails}
use Rattle.b2_vars.specs.declared.name.Var.{Var}
use Rattle.b2_vars.specs.Calls.{ChangesPart, part_place, with_bytes_of}
use Rattle.b2_vars.specs.Tables.{Table, VarsState, variable_at}
use Rattle.b2_vars.specs.Variables.{bytes_from}
use Rattle.b2_receiver.specs.Assigning.{ChangesBuffer, Ends, buffer_code, bytes_changed, reached_by, with_changed}
use Rattle.b2_receiver.specs.declared.receiver.Buffer.{Buffer}
use Rattle.b2_receiver.specs.declared.receiver.Buffer.TheVariants as buffer_kind
use Rattle.b2_receiver.proofs.Ended.{ends_by}

same_state : (a b : VarsState) → a.area ≡ b.area → a.table ≡ b.table → a ≡ b
same_state a b p q = ap (λ (n : ℕ). record { area = n; table = a.table }) p ∙ ap (λ (t : Table). record { area = b.area; table = t }) q

-- bytes of one variable
part_changed : (f : List ℕ → List ℕ) (gives : List ℕ → List ℕ → Type 0) (v : Var) (from n : ℕ) (old new : VarsState) → ((x y : List ℕ) → gives x y → y ≡ f x) → ChangesPart gives v from n old new
    → new ≡ with_bytes_of v from old (f (bytes_from from n (variable_at v old.table).bytes))
part_changed f gives v from n old new is h =
    let so : h.1.0 ≡ f (bytes_from from n (variable_at v old.table).bytes) = is (bytes_from from n (variable_at v old.table).bytes) h.1.0 h.1.2 in
    same_state new (with_bytes_of v from old (f (bytes_from from n (variable_at v old.table).bytes))) h.0
    (h.1.3 ∙ ap (λ (y : List ℕ). (with_bytes_of v from old y).table) so)

all_bytes : (xs : List ℕ) → bytes_from 0 (length xs) xs ≡ xs
all_bytes xs = ap (λ (n : ℕ). take n xs) (let e : (0 + length xs) - 0 ≡ length xs = omega arith in e) ∙ take-length xs

buffer_changed : (f : List ℕ → List ℕ) (gives : List ℕ → List ℕ → Type 0) (to : Buffer) (old new : VarsState) → ((x y : List ℕ) → gives x y → y ≡ f x) → ChangesBuffer gives to old new
    → new ≡ with_changed f to old
buffer_changed f gives (buffer_kind.Value to) old new is h =
    part_changed f gives to.element.var (part_place to.element.var to.element.row to.element.column to.portion.from (reached_by to old).table) to.portion.count (reached_by to old) new is h
buffer_changed f gives (buffer_kind.Array a) old new is h =
    part_changed f gives a.var 0 (length (variable_at a.var old.table).bytes) old new is h
    ∙ ap (λ (xs : List ℕ). with_bytes_of a.var 0 old (f xs)) (all_bytes (variable_at a.var old.table).bytes)

-- and how it ended
pub changed_ends : (f : List ℕ → List ℕ) (gives : List ℕ → List ℕ → Type 0) (to : Buffer) (old new : VarsState) (r : Result (Unit {0}) Fault)
    → OnOk r (ChangesBuffer gives to old new) → AnswersOrFails (buffer_code to old) r → OnErr r (new ≡ old) → ((x y : List ℕ) → gives x y → y ≡ f x)
    → Ends (bytes_changed f to old) old new r
changed_ends f gives to old new (Ok done) ok coded err is = ends_by (buffer_code to old) old (with_changed f to old) new (Ok done) (buffer_changed f gives to old new is ok) coded err
changed_ends f gives to old new (Err e) ok coded err is = ends_by (buffer_code to old) old (with_changed f to old) new (Err e) ok coded err
