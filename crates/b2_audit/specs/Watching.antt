-- A store that is watched: it serves and lends as the store inside, and marks what partitions touch and write by that.
use Rattle.std.specs.Prelude.{◌≡◌, ℕ, List, [], Option, Some, None, refl}
use Rattle.std.proofs.Common.{ap, ◌∙◌}
use Rattle.b2_vars.specs.Globals.{unreached}
use Rattle.b2_vars.specs.Tables.{VarsState}
use Rattle.b2_access.specs.declared.accesses.Access.{Access}
use Rattle.b2_access.specs.declared.lending.At.{At}
use Rattle.b2_access.specs.declared.lending.At.TheVariants as at
use Rattle.b2_access.specs.declared.objects.Object.{Object}
use Rattle.b2_access.specs.Holding.{ChangesDeviceOrName}
pub use Rattle.b2_access.specs.Loans.{lent_objects, reached_objects}
use Rattle.b2_access.specs.Loans.{Loan, LoansGlobals, NotesReached, Noting, globals_objects, holder_of, lender_at, loan_touched, with_globals_at, with_globals_of}
use Rattle.b2_access.specs.Sharing.{ServingOf, IsLocal, KeepsListed, writes}
use Rattle.b2_access.specs.Store.{StoreState}
use Rattle.b2_access.specs.Touching.{touched}
use Rattle.b2_audit.specs.Marks.{Marks, marked, touch_all, write_all}

-- an access that may write an object for whose writers no room is kept: a device, or who holds it, or a name
abbrev pub GrowsMarks : Access → Type 0
GrowsMarks a = ChangesDeviceOrName a

-- serving, which marks what each access touches, whatever it is answered, and what it writes
abbrev pub watching : {M : Type 0} → (M → StoreState) → ServingOf M → ServingOf (M × Marks)
watching store serving m who a = record {
  after = ((serving m.0 who a).after, marked who (touched (store m.0) who a) (writes store serving m.0 who a) m.1);
  answer = (serving m.0 who a).answer;
}

-- lending, which marks what each loan touches, and what it writes where a receiver was reached
abbrev pub watched_loan : {M : Type 0} → (M → StoreState) → Loan M → Loan (M × Marks)
watched_loan store lending who home whose m left =
    (lending who home whose m.0 left, write_all who (reached_objects left.reached home whose (store m.0)) (touch_all who (loan_touched who home whose (store m.0)) m.1))

-- being told that one was reached, which marks what was written
abbrev pub watched_noting : {M : Type 0} → (M → StoreState) → Noting M → Noting (M × Marks)
watched_noting store noting who home whose m = (noting who home whose m.0, write_all who (lent_objects home whose (store m.0)) m.1)

pub watching_is_local : {M : Type 0} (store : M → StoreState) (serving : ServingOf M) → IsLocal store serving → IsLocal (λ (m : M × Marks). store m.0) (watching store serving)
watching_is_local store serving h = record {
  alike = λ who a m n agree. let by = h.alike who a m.0 n.0 agree in record { touches = by.touches; wrote = by.wrote; answers = by.answers; contents = by.contents };
  others = λ who a m o out. h.others who a m.0 o out;
  within = λ who a m o i. h.within who a m.0 o i;
}

pub watching_keeps_listed : {M : Type 0} (store : M → StoreState) (serving : ServingOf M) → KeepsListed store serving → KeepsListed (λ (m : M × Marks). store m.0) (watching store serving)
watching_keeps_listed store serving h who a m o listed = h who a m.0 o listed

pub watched_loan_globals : {M : Type 0} (store : M → StoreState) (lending : Loan M) → LoansGlobals store lending → LoansGlobals (λ (m : M × Marks). store m.0) (watched_loan store lending)
watched_loan_globals store lending h who home whose m left = h who home whose m.0 left

-- a loan leaves who holds a name, and so whose `@` variables it lends
lender_stays : (home : ℕ) (whose : At) (s : StoreState) (left : Option VarsState) → lender_at home whose (with_globals_at home whose s left) ≡ lender_at home whose s
lender_stays home at.None s left = refl
lender_stays home at.Home s left = refl
lender_stays home (at.Named n) s left = by (holder_of s n) left
  where
    by : (x : Option ℕ) (left : Option VarsState) → holder_of (with_globals_of x left s) n ≡ holder_of s n
    by None left = refl
    by (Some p) None = refl
    by (Some p) (Some w) = refl

pub watched_notes : {M : Type 0} (store : M → StoreState) (lending : Loan M) (noting : Noting M) → LoansGlobals store lending → NotesReached lending noting → NotesReached (watched_loan store lending) (watched_noting store noting)
watched_notes {M} store lending noting loans notes who home whose m left =
    let s = store m.0 in
    let seen = touch_all who (loan_touched who home whose s) m.1 in
    let same = ap (lender_at home whose) (loans who home whose m.0 (unreached left)) ∙ lender_stays home whose s left in
    ap (λ (x : Option ℕ). (noting who home whose (lending who home whose m.0 (unreached left)), write_all who (globals_objects x) seen)) same
    ∙ ap (λ (n : M). (n, write_all who (lent_objects home whose s) seen)) (notes who home whose m.0 left)
