-- Items that are put one after another, and receivers that take what is theirs.
use Rattle.std.proofs.Common.{◌≡◌, ◌<◌, ℕ, ◌+◌, List, [], ◌∷◌, ◌++◌, length, drop, get_or, Option, Some, None, Result, Ok, Err, refl, sym, ap, ◌∙◌}
use Rattle.std.proofs.lemmas.List.{append_assoc, append-nil}
use Rattle.b2_base.specs.Refusals.{IsRefused}
use Rattle.b2_base.specs.declared.codes.Fault.{Fault}
use Rattle.b2_base.specs.declared.codes.Fault.TheVariants as fault
use Rattle.b2_atom.specs.Tree.{Trees}
use Rattle.b2_pack.proofs.PackingLemmas.{cons_at}
use Rattle.b2_vars.specs.Assigned.{Assigned}
use Rattle.b2_vars.specs.Tables.{VarsState}
use Rattle.b2_receiver.specs.Assigning.{HasCode, is_global_buffer}
use Rattle.b2_receiver.specs.declared.receiver.Buffer.{Buffer}
use Rattle.b2_stmt_pack.specs.Buffers.{packs_to}
use Rattle.b2_expr.specs.Answers.{◌>>=◌}
use Rattle.b2_expr.specs.Workspace.{WorkState, WorkLeft, among, then_works, unless_coded}
use Rattle.b2_stmt_pack.specs.Lists.{each_of, each_takes, items_before, put_after}

-- one item that was put after others, and those that are left
ok_is : {A : Type 0} (xs ys : List A) → ◌≡◌ {A = Result (List A) ℕ} (Ok xs) (Ok ys) → xs ≡ ys
ok_is xs ys h = cc

put_before : {A : Type 0} (old new : List A) (x : A) (rest : Result (List A) ℕ) → old ++ x ∷ [] ≡ new → items_before new rest ≡ items_before old (rest >>= (λ xs. Ok (x ∷ xs)))
put_before old new x (Ok xs) is = ap Ok (sym (ap (λ (ys : List _). ys ++ xs) is) ∙ append_assoc old (x ∷ []) xs)
put_before old new x (Err code) is = refl

pub put_then : {A : Type 0} (one : Trees → Result A ℕ) (t : Trees) (ts : List Trees) (old new : List A) → put_after old (one t) ≡ Ok new → items_before new (each_of one ts) ≡ items_before old (each_of one (t ∷ ts))
put_then one t ts old new is = put_by (one t) (each_of one ts) old new is
  where
    put_by : {A : Type 0} (answer : Result A ℕ) (rest : Result (List A) ℕ) (old new : List A) → put_after old answer ≡ Ok new → items_before new rest ≡ items_before old (answer >>= (λ x. rest >>= (λ xs. Ok (x ∷ xs))))
    put_by (Ok x) rest old new is = put_before old new x rest (ok_is (old ++ x ∷ []) new is)
    put_by (Err code) rest old new is = cc

pub put_last : {A : Type 0} (one : Trees → Result A ℕ) (t : Trees) (old new : List A) → put_after old (one t) ≡ Ok new → items_before old (each_of one (t ∷ [])) ≡ Ok new
put_last one t old new is = sym (put_then one t [] old new is) ∙ ap Ok (append-nil new)

pub refused_then : {A : Type 0} (one : Trees → Result A ℕ) (t : Trees) (ts : List Trees) (old : List A) (code : ℕ) → one t ≡ Err code → items_before old (each_of one (t ∷ ts)) ≡ Err code
refused_then one t ts old code is = refused_by (one t) (each_of one ts) old code is
  where
    refused_by : {A : Type 0} (answer : Result A ℕ) (rest : Result (List A) ℕ) (old : List A) (code : ℕ) → answer ≡ Err code → items_before old (answer >>= (λ x. rest >>= (λ xs. Ok (x ∷ xs)))) ≡ Err code
    refused_by (Ok x) rest old code is = cc
    refused_by (Err c) rest old code is = cc

-- the first receiver, and the others
abbrev One : Type 0 → Type 0
One A = A → Trees → WorkState → WorkLeft

pub one_more : {A : Type 0} (one : One A) (x : A) (xs : List A) (t : Trees) (ts : List Trees) (old new : WorkState) (code : Option ℕ) → record { work = new; code = code } ≡ one x t old → code ≡ None
    → each_takes one ts xs new ≡ each_takes one (t ∷ ts) (x ∷ xs) old
one_more one x xs t ts old new code is none =
    sym (ap (λ (c : Option ℕ). unless_coded c new (each_takes one ts xs)) none) ∙ ap (λ (r : WorkLeft). then_works r (each_takes one ts xs)) is

pub one_coded : {A : Type 0} (one : One A) (x : A) (xs : List A) (t : Trees) (ts : List Trees) (old new : WorkState) (code : Option ℕ) (c : ℕ) → record { work = new; code = code } ≡ one x t old → code ≡ Some c
    → each_takes one (t ∷ ts) (x ∷ xs) old ≡ record { work = new; code = code }
one_coded one x xs t ts old new code c is some =
    sym (ap (λ (r : WorkLeft). then_works r (each_takes one ts xs)) is)
    ∙ ap (λ (o : Option ℕ). unless_coded o new (each_takes one ts xs)) some
    ∙ ap (λ (o : Option ℕ). record { work = new; code = o }) (sym some)

-- one that takes the next of those that are left, and the others
pub given_more : {A : Type 0} (one : One A) (xs : List A) (i : ℕ) (x : A) (t : Trees) (others next : List Trees) (old new : WorkState) (code : Option ℕ) (all : WorkLeft) → i < length xs → x ≡ get_or xs i x → others ≡ next
    → record { work = new; code = code } ≡ one x t old → code ≡ None → each_takes one (t ∷ others) (drop i xs) old ≡ all → each_takes one next (drop (i + 1) xs) new ≡ all
given_more one xs i x t others next old new code all below item is worked none given =
    sym (ap (λ (ts : List Trees). each_takes one ts (drop (i + 1) xs) new) is)
    ∙ one_more one x (drop (i + 1) xs) t others old new code worked none
    ∙ sym (ap (λ (ys : List _). each_takes one (t ∷ others) ys old) (cons_at xs i x below item))
    ∙ given

-- with a code of what is packed nothing is
pub packs_refused : {A : Type 0} (packed : A → Buffer → VarsState → Assigned) (of : Result Buffer ℕ) (to : Buffer) (answer : Result A ℕ) (f : Fault) (code : Option ℕ) (w : WorkState)
    → of ≡ Ok to → IsRefused answer f → HasCode f code → record { work = w; code = code } ≡ packs_to packed of answer w
packs_refused packed of to answer (fault.Code c) code w is refused coded =
    ap (λ (o : Option ℕ). record { work = w; code = o }) coded ∙ sym (ap (λ (b : Result Buffer ℕ). packs_to packed b answer w) is ∙ ap (λ (a : Result _ ℕ). packs_to packed (Ok to) a w) refused)
packs_refused packed of to answer fault.NoMemory code w is refused coded = absurd coded

-- without one, all of it
pub packs_done : {A : Type 0} (packed : A → Buffer → VarsState → Assigned) (of : Result Buffer ℕ) (to : Buffer) (answer : Result A ℕ) (xs : A) (w : WorkState) (left : WorkLeft)
    → of ≡ Ok to → answer ≡ Ok xs → left ≡ among (is_global_buffer to) (packed xs to) w → left ≡ packs_to packed of answer w
packs_done packed of to answer xs w left is all done =
    done ∙ sym (ap (λ (b : Result Buffer ℕ). packs_to packed b answer w) is ∙ ap (λ (a : Result _ ℕ). packs_to packed (Ok to) a w) all)
