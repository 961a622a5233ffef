-- What accesses touch and write is marked, by what they reach; and they write no text but the own.
use Rattle.std.specs.Prelude.{◌≡◌, ℕ, ◌==◌, Bool, true, false, List, [], ◌∷◌, ◌++◌, map, Option, Some, None, refl, if◌then◌else◌}
use Rattle.std.specs.Cmp.{unsigned_Decides}
use Rattle.std.proofs.Common.{sym, subst, inl, inr}
use Rattle.b2_access.specs.declared.objects.Object.{Object}
use Rattle.b2_access.specs.declared.objects.Object.TheVariants as object
use Rattle.b2_access.specs.declared.accesses.Access.{Access}
use Rattle.b2_access.specs.declared.accesses.Access.TheVariants as access
use Rattle.b2_access.specs.declared.accesses.Answer.{Answer}
use Rattle.b2_access.specs.declared.reached.TextUse.{TextUse}
use Rattle.b2_access.specs.declared.reached.TextUse.TheVariants as text
use Rattle.b2_access.specs.AccessRows.{holder_at, reach, row}
use Rattle.b2_access.specs.AnswerKinds.{stops}
use Rattle.b2_access.specs.Causes.{terminal_of}
use Rattle.b2_access.specs.Borrowers.{is_inside}
use Rattle.b2_access.specs.Reach.{DevicePart, DeviceReach, HoldFreed, HoldTaken, WithPlatter, WithPrinter, Reach, borrow_entered, borrows, device_objects, entered_objects, objects_reached, part_objects, terminal_objects, text_objects, variable_objects}
use Rattle.b2_access.specs.Store.{StoreState, IsIn}
use Rattle.b2_access.specs.Touching.{entered_in, touched, written_by}
use Rattle.b2_access.proofs.RowLaws.{either_left, either_right}
use Rattle.b2_access.proofs.RowAnswers.{written_is_reached}
use Rattle.b2_audit.specs.Steps.{IsPartition, IsTerminal, IsMarked, AreMarked, AccessesAreMarked, AccessesWriteOwnTexts}
use Rattle.b2_audit.proofs.CleanSteps.{in_both}

pub nothing : AreMarked []
nothing o i = absurd i

pub add : (x : Object) (xs : List Object) → IsMarked x → AreMarked xs → AreMarked (x ∷ xs)
add x xs is are o i = elim i [ inl e ↦ subst (λ (y : Object). IsMarked y) (sym e) is | inr j ↦ are o j ]

pub both_are : (xs ys : List Object) → AreMarked xs → AreMarked ys → AreMarked (xs ++ ys)
both_are xs ys are_xs are_ys o i = elim ((in_both o xs ys).0 i) [ inl j ↦ are_xs o j | inr j ↦ are_ys o j ]

terminal_is : (term : Option ℕ) → ((t : ℕ) → term ≡ Some t → IsTerminal t) → AreMarked (terminal_objects term)
terminal_is None at = nothing
terminal_is (Some t) at = add (object.Terminal t) [] (at t refl) nothing

text_is : (who : ℕ) (used : TextUse) → IsPartition who → AreMarked (text_objects who used)
text_is who text.Unused is = nothing
text_is who text.Read is = add (object.Text who) [] is nothing
text_is who text.Edited is = add (object.Borrow who) (object.Text who ∷ []) is (add (object.Text who) [] is nothing)

variables_are : (who : ℕ) (b : Bool) → IsPartition who → AreMarked (variable_objects who b)
variables_are who true is = add (object.Globals who) [] is nothing
variables_are who false is = nothing

part_is : (a : List ℕ) (p : DevicePart) → AreMarked (part_objects a p)
part_is a HoldTaken = add (object.Hog a) [] tt nothing
part_is a HoldFreed = add (object.Hog a) [] tt nothing
part_is a WithPlatter = add (object.Hog a) (object.Platter a ∷ []) tt (add (object.Platter a) [] tt nothing)
part_is a WithPrinter = add (object.Hog a) (object.Printer a ∷ []) tt (add (object.Printer a) [] tt nothing)

devices_are : (ds : List DeviceReach) → AreMarked (device_objects ds)
devices_are [] = nothing
devices_are (d ∷ ds) = both_are (part_objects d.address d.part) (device_objects ds) (part_is d.address d.part) (devices_are ds)

names_are : (ns : List (List ℕ)) → AreMarked (map object.Name ns)
names_are [] = nothing
names_are (n ∷ ns) = add (object.Name n) (map object.Name ns) tt (names_are ns)

borrowers_are : (homes : List ℕ) → ((h : ℕ) → is_inside h homes ≡ true → IsPartition h) → AreMarked (borrows homes)
borrowers_are [] each = nothing
borrowers_are (h ∷ homes) each =
    add (object.Borrow h) (borrows homes) (each h (either_left (h == h) (is_inside h homes) ((unsigned_Decides h h).1 refl))) (borrowers_are homes (λ g there. each g (either_right (h == g) (is_inside g homes) there)))

entered_are : (entered : Option (List ℕ)) (holder : Option ℕ) → ((p : ℕ) → holder ≡ Some p → IsPartition p) → AreMarked (entered_objects entered holder)
entered_are None holder is = nothing
entered_are (Some name) None is = add (object.Name name) [] tt nothing
entered_are (Some name) (Some g) is = add (object.Name name) (object.Text g ∷ object.Borrow g ∷ []) tt (add (object.Text g) (object.Borrow g ∷ []) (is g refl) (add (object.Borrow g) [] (is g refl) nothing))

reached_are : (who : ℕ) (holder : Option ℕ) (r : Reach) → IsPartition who → ((t : ℕ) → r.terminal ≡ Some t → IsTerminal t) → ((h : ℕ) → is_inside h r.borrowers ≡ true → IsPartition h) → ((p : ℕ) → holder ≡ Some p → IsPartition p) → AreMarked (objects_reached who holder r)
reached_are who holder r is at homes held =
    both_are (terminal_objects r.terminal) _ (terminal_is r.terminal at)
    (both_are (text_objects who r.text) _ (text_is who r.text is)
    (both_are (variable_objects who r.variables) _ (variables_are who r.variables is)
    (both_are (borrows r.borrowers) _ (borrowers_are r.borrowers homes)
    (both_are (device_objects r.devices) _ (devices_are r.devices)
    (both_are (entered_objects r.entered holder) _ (entered_are r.entered holder held) (names_are r.names))))))

-- what an access wrote it writes where nothing stops it
may_have_written : (x : Answer) (who : ℕ) (a : Access) (o : Object) → IsIn o (written_by x who a) → IsIn o ((row a).writes who (entered_in x))
may_have_written x who a o = by (stops x)
  where
    by : (b : Bool) → IsIn o (if b then [] else (row a).writes who (entered_in x)) → IsIn o ((row a).writes who (entered_in x))
    by true i = absurd i
    by false i = i

pub accesses_are_marked : AccessesAreMarked
accesses_are_marked s who a is at homes = (
  λ held. reached_are who (holder_at a s) (reach a) is at homes held,
  λ x held o i. reached_are who (entered_in x) (reach a) is at homes held o (written_is_reached a who (entered_in x) o (may_have_written x who a o i)),
)

-- of texts only the own is reached
no_terminal : (q : ℕ) (term : Option ℕ) → IsIn (object.Text q) (terminal_objects term) → ⊥
no_terminal q None i = i
no_terminal q (Some t) i = elim i [ inl e ↦ cc | inr none ↦ none ]

own_text : (who q : ℕ) (used : TextUse) → IsIn (object.Text q) (text_objects who used) → q ≡ who
own_text who q text.Unused i = absurd i
own_text who q text.Read i = elim i [ inl e ↦ cc | inr none ↦ absurd none ]
own_text who q text.Edited i = elim i [ inl e ↦ absurd (let bad : object.Text q ≡ object.Borrow who = e in cc) | inr j ↦ elim j [ inl e ↦ cc | inr none ↦ absurd none ] ]

no_variables : (who q : ℕ) (b : Bool) → IsIn (object.Text q) (variable_objects who b) → ⊥
no_variables who q true i = elim i [ inl e ↦ cc | inr none ↦ none ]
no_variables who q false i = i

no_borrower : (q : ℕ) (ps : List ℕ) → IsIn (object.Text q) (map object.Borrow ps) → ⊥
no_borrower q [] i = i
no_borrower q (p ∷ ps) i = elim i [ inl e ↦ cc | inr j ↦ no_borrower q ps j ]

no_part : (q : ℕ) (a : List ℕ) (p : DevicePart) → IsIn (object.Text q) (part_objects a p) → ⊥
no_part q a HoldTaken i = elim i [ inl e ↦ cc | inr none ↦ none ]
no_part q a HoldFreed i = elim i [ inl e ↦ cc | inr none ↦ none ]
no_part q a WithPlatter i = elim i [ inl e ↦ cc | inr j ↦ elim j [ inl e ↦ cc | inr none ↦ none ] ]
no_part q a WithPrinter i = elim i [ inl e ↦ cc | inr j ↦ elim j [ inl e ↦ cc | inr none ↦ none ] ]

no_device : (q : ℕ) (ds : List DeviceReach) → IsIn (object.Text q) (device_objects ds) → ⊥
no_device q [] i = i
no_device q (d ∷ ds) i = elim ((in_both (object.Text q) (part_objects d.address d.part) (device_objects ds)).0 i) [ inl j ↦ no_part q d.address d.part j | inr j ↦ no_device q ds j ]

no_name : (q : ℕ) (ns : List (List ℕ)) → IsIn (object.Text q) (map object.Name ns) → ⊥
no_name q [] i = i
no_name q (n ∷ ns) i = elim i [ inl e ↦ cc | inr j ↦ no_name q ns j ]

not_entered : (q : ℕ) (entered : Option (List ℕ)) (holder : Option ℕ) → entered ≡ None → IsIn (object.Text q) (entered_objects entered holder) → ⊥
not_entered q None holder none i = i
not_entered q (Some name) holder none i = cc

reaches_own_text : (who q : ℕ) (holder : Option ℕ) (r : Reach) → r.entered ≡ None → IsIn (object.Text q) (objects_reached who holder r) → q ≡ who
reaches_own_text who q holder r none i = elim ((in_both (object.Text q) (terminal_objects r.terminal) _).0 i) [
  | inl j ↦ absurd (no_terminal q r.terminal j)
  | inr j ↦ elim ((in_both (object.Text q) (text_objects who r.text) _).0 j) [
    | inl k ↦ own_text who q r.text k
    | inr k ↦ absurd (beside k)
  ]
]
  where
    devices_or_names : IsIn (object.Text q) (device_objects r.devices ++ (entered_objects r.entered holder ++ map object.Name r.names)) → ⊥
    devices_or_names i = elim ((in_both (object.Text q) (device_objects r.devices) _).0 i) [
      | inl d ↦ no_device q r.devices d
      | inr n ↦ elim ((in_both (object.Text q) (entered_objects r.entered holder) _).0 n) [ inl e ↦ not_entered q r.entered holder none e | inr n ↦ no_name q r.names n ]
    ]

    beside : IsIn (object.Text q) (variable_objects who r.variables ++ (borrows r.borrowers ++ (device_objects r.devices ++ (entered_objects r.entered holder ++ map object.Name r.names)))) → ⊥
    beside i = elim ((in_both (object.Text q) (variable_objects who r.variables) _).0 i) [
      | inl j ↦ no_variables who q r.variables j
      | inr j ↦ elim ((in_both (object.Text q) (borrows r.borrowers) _).0 j) [ inl k ↦ no_borrower q r.borrowers k | inr k ↦ devices_or_names k ]
    ]

-- who enters a text doesn't write it
entering_writes : (q : ℕ) (holder : Option ℕ) → IsIn (object.Text q) (borrow_entered holder) → ⊥
entering_writes q None i = i
entering_writes q (Some g) i = elim i [ inl e ↦ cc | inr none ↦ none ]

writes_own_text : (a : Access) (who q : ℕ) (holder : Option ℕ) → IsIn (object.Text q) ((row a).writes who holder) → q ≡ who
writes_own_text (access.Enter name mark) who q holder i = absurd (entering_writes q holder i)
writes_own_text a who q holder i = reaches_own_text who q holder (reach a) refl (written_is_reached a who holder (object.Text q) i)

pub accesses_write_own_texts : AccessesWriteOwnTexts
accesses_write_own_texts who q a x i = writes_own_text a who q (entered_in x) (may_have_written x who a (object.Text q) i)
