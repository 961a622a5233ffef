-- What the store does keeps numbers: an access leaves all `@` variables as they are or clears them, and what it answers are numbers; and a
-- loan puts back what it left.
use Rattle.std.proofs.Common.{◌≡◌, ℕ, ◌-◌, Bool, true, false, List, [], ◌∷◌, ◌++◌, length, Option, Some, None, IfSome, option_map, Result, Ok, Err, refl, sym, subst, ◌∙◌, inl, inr}
use Rattle.std.specs.List.{All}
use Rattle.std.proofs.lemmas.Bool.{false≢true}
use Rattle.std.proofs.lemmas.List.Elements.{All-cons, All-nil, All-take}
use Rattle.b2_base.specs.declared.files.Slot.{Slot}
use Rattle.b2_dec.specs.declared.values.Kind.{Kind}
use Rattle.b2_dec.specs.declared.values.Value.{Value}
use Rattle.b2_dec.specs.declared.values.Value.TheVariants as value_kind
use Rattle.b2_text.specs.Program.{TextState}
use Rattle.b2_vars.specs.Globals.{Globals}
use Rattle.b2_vars.specs.Tables.{VarsState}
use Rattle.b2_platter.specs.Own.{sectors_of}
use Rattle.b2_record.specs.Items.{AllStorable, IsStorable}
use Rattle.b2_record.proofs.ReadBack.{at-read}
use Rattle.b2_datafile.specs.Loading.{values_loaded}
use Rattle.b2_datafile.proofs.FromFunctions.{some-loaded}
use Rattle.b2_access.specs.AccessRows.{clears, clears_and_gives_back, clears_both, clears_own, clears_text, finds_in_image, gives_back, gives_back_from, gives_up, gives_up_if, holder_at, is_held_by, loaded_answer, row, says_or_refuses}
use Rattle.b2_access.specs.Answering.{can_answer}
use Rattle.b2_access.specs.Borrowers.{homes_marked, without}
use Rattle.b2_access.specs.Contents.{content_other, content_same}
use Rattle.b2_access.specs.Disks.{Loaded}
use Rattle.b2_access.specs.Loans.{globals_of, lender_at, lends, with_globals_of}
use Rattle.b2_access.specs.Objects.{Decided, same_object}
use Rattle.b2_access.specs.Reach.{borrows, objects_named}
use Rattle.b2_access.specs.Serving.{itself, performs, put_each, unless_stopped}
use Rattle.b2_access.specs.Sharing.{Gives}
use Rattle.b2_access.specs.Stopping.{first_other, first_there, inside_edited, stop, stop_by}
use Rattle.b2_access.specs.Store.{StoreState, ContentOf, IsIn, content, put}
use Rattle.b2_access.specs.Task.{AreIn, Put, Task, Look, Tell, Refuse, Missing, also_puts}
use Rattle.b2_access.specs.declared.accesses.Access.{Access}
use Rattle.b2_access.specs.declared.accesses.Access.TheVariants as access
use Rattle.b2_access.specs.declared.accesses.Answer.{Answer}
use Rattle.b2_access.specs.declared.accesses.Answer.TheVariants as answer
use Rattle.b2_access.specs.declared.lending.At.{At}
use Rattle.b2_access.specs.declared.lending.At.TheVariants as at
use Rattle.b2_access.specs.declared.objects.Object.{Object}
use Rattle.b2_access.specs.declared.objects.Object.TheVariants as object
use Rattle.b2_access.proofs.Locality.{serves_by_row}
use Rattle.b2_access.proofs.RowLaws.{leaves}
use Rattle.b2_access.proofs.Unwritten.{unwritten, writes_kind}
use Rattle.b2_machine.specs.Step.{lent_to_begin, seen_by}
use Rattle.b2_store.specs.DiskWork.{disks, serves}
use Rattle.b2_store.specs.FileWork.{raw_loaded, record_loaded}
use Rattle.b2_store.proofs.Answered.{loaded-is, raw-first}
use Rattle.b2_stmt_file.specs.SavedNumbers.{HoldsNumbers, IsAnyNumber}
use Rattle.b2_sched.proofs.NumbersAssigned.{empty_holds}
use Rattle.b2_sched.specs.Numbers.{AnswerHolds, GlobalsHold}

-- all `@` variables of a store hold numbers
abbrev pub StoreHolds : StoreState → Type 0
StoreHolds s = (p : ℕ) (vars : VarsState) → content s (object.Globals p) ≡ Some vars → HoldsNumbers vars

-- ---- what is put

-- the new ones of an object that has some
new_ones : (w vars : VarsState) (o : Option VarsState) → HoldsNumbers w → option_map (λ _. w) o ≡ Some vars → HoldsNumbers vars
new_ones w vars None new is = cc
new_ones w vars (Some old) new is = let same : w ≡ vars = cc in subst HoldsNumbers same new

put_globals : (p : ℕ) (w : VarsState) (s : StoreState) → HoldsNumbers w → StoreHolds s → StoreHolds (put (object.Globals p) w s)
put_globals p w s new held q vars = by (same_object (object.Globals q) (object.Globals p))
  where
    there : content (put (object.Globals p) w s) (object.Globals p) ≡ Some vars → HoldsNumbers vars
    there is = new_ones w vars (content s (object.Globals p)) new (sym (content_same (object.Globals p) w s) ∙ is)

    by : Decided (object.Globals q ≡ object.Globals p) → content (put (object.Globals p) w s) (object.Globals q) ≡ Some vars → HoldsNumbers vars
    by (inl e) is = let same : q ≡ p = cc in there (subst (λ (k : ℕ). content (put (object.Globals p) w s) (object.Globals k) ≡ Some vars) same is)
    by (inr apart) is = held q vars (sym (content_other (object.Globals p) (object.Globals q) w s apart) ∙ is)

-- a new content that holds numbers, where it is of `@` variables
abbrev PutKeeps : (o : Object) → ContentOf o → Type 0
PutKeeps (object.Globals p) w = HoldsNumbers w
PutKeeps o c = Unit {0}

put_keeps : (o : Object) (c : ContentOf o) (s : StoreState) → PutKeeps o c → StoreHolds s → StoreHolds (put o c s)
put_keeps (object.Globals p) c s new held = put_globals p c s new held
put_keeps o c s new held = held

-- so each that a task tells
abbrev EachPut : {written : List Object} → List (Put written) → Type 0
EachPut [] = Unit {0}
EachPut (p ∷ ps) = PutKeeps p.target p.value × EachPut ps

abbrev TaskKeeps : {reached written : List Object} → Task reached written → Type 0
TaskKeeps (Look o there next) = (c : Option (ContentOf o)) → TaskKeeps (next c)
TaskKeeps (Tell puts x) = EachPut puts
TaskKeeps (Refuse code) = Unit {0}
TaskKeeps Missing = Unit {0}

each_put : {written : List Object} (ps : List (Put written)) (s : StoreState) → EachPut ps → StoreHolds s → StoreHolds (put_each ps s)
each_put [] s new held = held
each_put (p ∷ ps) s new held = each_put ps (put p.target p.value s) new.1 (put_keeps p.target p.value s new.0 held)

performed : {reached written : List Object} (t : Task reached written) (s : StoreState) → TaskKeeps t → StoreHolds s → StoreHolds (performs t s).after
performed (Look o there next) s keeps held = performed (next (content s o)) s (keeps (content s o)) held
performed (Tell puts x) s keeps held = each_put puts s keeps held
performed (Refuse code) s keeps held = held
performed Missing s keeps held = held

also_keeps : {reached written : List Object} (o : Object) (there : IsIn o written) (c : ContentOf o) (t : Task reached written) → PutKeeps o c → TaskKeeps t → TaskKeeps (also_puts o there c t)
also_keeps o there c (Look x at next) new keeps = λ seen. also_keeps o there c (next seen) new (keeps seen)
also_keeps o there c (Tell puts x) new keeps = (new, keeps)
also_keeps o there c (Refuse code) new keeps = tt
also_keeps o there c Missing new keeps = tt

-- ---- CLEAR

gives_back_keeps : {reached written : List Object} (who : ℕ) (homes : List ℕ) (looked : AreIn (borrows homes) reached) (told : AreIn (borrows homes) written) (t : Task reached written) → TaskKeeps t → TaskKeeps (gives_back who homes looked told t)
gives_back_keeps who [] looked told t keeps = keeps
gives_back_keeps {reached} {written} who (h ∷ homes) looked told t keeps =
    let rest = gives_back who homes (λ o i. looked o (inr i)) (λ o i. told o (inr i)) t in
    by rest (gives_back_keeps who homes (λ o i. looked o (inr i)) (λ o i. told o (inr i)) t keeps)
  where
    by : (rest : Task reached written) → TaskKeeps rest → (c : Option (List ℕ)) → TaskKeeps (gives_back_from who h (told (object.Borrow h) (inl refl)) rest c)
    by rest kept None = kept
    by rest kept (Some parts) = also_keeps (object.Borrow h) (told (object.Borrow h) (inl refl)) (without who parts) rest tt kept

gives_up_keeps : {reached written : List Object} (who : ℕ) (name : Option (List ℕ)) (looked : AreIn (objects_named name) reached) (told : AreIn (objects_named name) written) (t : Task reached written) → TaskKeeps t → TaskKeeps (gives_up who name looked told t)
gives_up_keeps who None looked told t keeps = keeps
gives_up_keeps who (Some name) looked told t keeps = λ h. by (is_held_by who h)
  where
    by : (b : Bool) → TaskKeeps (gives_up_if b name (told (object.Name name) (inl refl)) t)
    by true = also_keeps (object.Name name) (told (object.Name name) (inl refl)) None t tt keeps
    by false = keeps

module _ (who homes : ℕ) (name : Option (List ℕ)) where
  both_cleared : (t : TextState) (o : Option VarsState) → TaskKeeps (clears_both who homes name t o)
  both_cleared t None = (tt, tt)
  both_cleared t (Some v) = (tt, (empty_holds v.area, tt))

  text_cleared : (o : Option TextState) → TaskKeeps (clears_text who homes name o)
  text_cleared None = tt
  text_cleared (Some t) = both_cleared t

  all_cleared : TaskKeeps (clears who homes name)
  all_cleared = gives_up_keeps who name _ _ (clears_and_gives_back who homes name) (gives_back_keeps who (homes_marked homes) _ _ (clears_own who homes name) text_cleared)

-- ---- no other access writes `@` variables

stopped_holds : (o : Option Answer) (g : Gives StoreState) (s : StoreState) → StoreHolds g.after → StoreHolds s → StoreHolds (unless_stopped o g s).after
stopped_holds None g s done held = done
stopped_holds (Some x) g s done held = held

-- so each access keeps numbers
other_served : (s : StoreState) (who : ℕ) (a : Access) → ((p : ℕ) → writes_kind a (object.Globals p) ≡ false) → StoreHolds s → StoreHolds (serves s who a).after
other_served s who a never held p vars is = held p vars (sym (leaves (row a) disks who s (object.Globals p) (unwritten who (holder_at a s) (object.Globals p) a (never p))) ∙ is)

pub served_holds : (s : StoreState) (who : ℕ) (a : Access) → StoreHolds s → StoreHolds (serves s who a).after
served_holds s who (access.ClearAll name homes) held =
    let a = access.ClearAll name homes in
    stopped_holds (stop who (row a).reach s) (performs (clears who homes name) s) s (performed (clears who homes name) s (all_cleared who homes name) held) held
served_holds s who a held = other_served s who a (λ p. refl) held

-- ---- what is answered

storable_number : (x : Value) → IsStorable x → IsAnyNumber x
storable_number (value_kind.Number x) is = is
storable_number (value_kind.Alpha bytes) is = tt

storable_numbers : (xs : List Value) → AllStorable xs → All IsAnyNumber xs
storable_numbers [] are = All-nil IsAnyNumber
storable_numbers (x ∷ xs) are = All-cons IsAnyNumber x xs (storable_number x are.0) (storable_numbers xs are.1)

-- the values that are loaded are the first of a record, at the place in a file and in sectors
loaded_holds : (slot : Slot) (kinds : List Kind) (image : List ℕ) (o : Option Loaded) → record_loaded slot kinds image ≡ Ok o → AnswerHolds (loaded_answer o)
loaded_holds slot kinds image None is = tt
loaded_holds slot kinds image (Some l) is =
    let r = (some-loaded image slot kinds (l.values, l.place) (loaded-is (values_loaded image slot kinds) l is)).3 in
    subst (All IsAnyNumber) (sym r.first_ones) (All-take IsAnyNumber (length kinds) r.values (storable_numbers r.values r.there.spelled.storable))

raw_holds : (n : ℕ) (kinds : List Kind) (image : List ℕ) (o : Option Loaded) → raw_loaded n kinds image ≡ Ok o → AnswerHolds (loaded_answer o)
raw_holds n kinds image None is = tt
raw_holds n kinds image (Some l) is =
    let f = raw-first n kinds image l is in
    let spelled = (at-read image n (sectors_of image - 1) f.read f.was).0 in
    subst (All IsAnyNumber) (sym f.first_ones) (All-take IsAnyNumber (length kinds) f.read.0 (storable_numbers f.read.0 spelled.storable))

module _ (s : StoreState) (addr : List ℕ) where
  found_holds : (r : Result (Option Loaded) ℕ) → ((o : Option Loaded) → r ≡ Ok o → AnswerHolds (loaded_answer o)) → AnswerHolds (performs (says_or_refuses addr loaded_answer r) s).answer
  found_holds (Ok o) each = each o refl
  found_holds (Err code) each = tt

  in_image : (finds : List ℕ → Result (Option Loaded) ℕ) → ((image : List ℕ) (o : Option Loaded) → finds image ≡ Ok o → AnswerHolds (loaded_answer o)) → (o : Option (List ℕ))
      → AnswerHolds (performs (finds_in_image addr answer.AtEnd loaded_answer finds o) s).answer
  in_image finds each None = tt
  in_image finds each (Some image) = found_holds (finds image) (each image)

  unless_first : (first inside : Option ℕ) (g : Gives StoreState) → AnswerHolds g.answer → AnswerHolds (unless_stopped (stop_by first inside) g s).answer
  unless_first (Some q) inside g h = tt
  unless_first None (Some q) g h = tt
  unless_first None None g h = h

-- none but the accesses that load answer values
abbrev loads_values : Access → Bool
loads_values (access.DataLoad slot kinds) = true
loads_values (access.RawLoad addr n kinds) = true
loads_values a = false

never_values : (a : Access) (values : List Value) (to : ℕ) → loads_values a ≡ false → can_answer a (answer.Values values to) ≡ false
never_values (access.DataLoad slot kinds) values to never = cc
never_values (access.RawLoad addr n kinds) values to never = cc
never_values a values to never = refl

other_answer : (a : Access) (x : Answer) → loads_values a ≡ false → can_answer a x ≡ true → AnswerHolds x
other_answer a (answer.Values values to) never can = absurd (false≢true (sym (never_values a values to never) ∙ can))
other_answer a x never can = tt

pub answered_holds : (s : StoreState) (who : ℕ) (a : Access) → AnswerHolds (serves s who a).answer
answered_holds s who (access.DataLoad slot kinds) =
    let a = access.DataLoad slot kinds in
    unless_first s slot.addr (first_other who (first_there (row a).reach s)) (inside_edited who (row a).reach.text s) _
    (in_image s slot.addr (record_loaded slot kinds) (loaded_holds slot kinds) (content s (object.Platter slot.addr)))
answered_holds s who (access.RawLoad addr n kinds) =
    let a = access.RawLoad addr n kinds in
    unless_first s addr (first_other who (first_there (row a).reach s)) (inside_edited who (row a).reach.text s) _
    (in_image s addr (raw_loaded n kinds) (raw_holds n kinds) (content s (object.Platter addr)))
answered_holds s who a = other_answer a (serves s who a).answer refl (serves_by_row disks s who a)

-- ---- loans

put_back : (o : Option ℕ) (left : Option VarsState) (s : StoreState) → IfSome left HoldsNumbers → StoreHolds s → StoreHolds (with_globals_of o left s)
put_back None left s new held = held
put_back (Some p) None s new held = held
put_back (Some p) (Some w) s new held = put_globals p w s new held

pub lent_holds : (who home : ℕ) (whose : At) (s : StoreState) (left : Globals) → GlobalsHold left → StoreHolds s → StoreHolds (lends who home whose s left)
lent_holds who home whose s left new held = put_back (lender_at home whose s) left.vars s new held

pub begun_holds : (who home : ℕ) (whose : At) (s : StoreState) (left : Globals) → GlobalsHold left → StoreHolds s → StoreHolds (lent_to_begin itself serves lends who home whose s left)
begun_holds who home at.None s left new held = held
begun_holds who home at.Home s left new held = lent_holds who home at.Home s left new held
begun_holds who home (at.Named n) s left new held = lent_holds who home (at.Named n) s left new held

found_there : (s : StoreState) (p : ℕ) (o : Option VarsState) → content s (object.Globals p) ≡ o → StoreHolds s → IfSome o HoldsNumbers
found_there s p None is held = tt
found_there s p (Some vars) is held = held p vars is

of_lender : (o : Option ℕ) (s : StoreState) → StoreHolds s → IfSome (globals_of o s) HoldsNumbers
of_lender None s held = tt
of_lender (Some p) s held = found_there s p (content s (object.Globals p)) refl held

pub seen_holds : (who home : ℕ) (whose : At) (s : StoreState) → StoreHolds s → GlobalsHold (seen_by who home whose s).globals
seen_holds who home whose s held = of_lender (lender_at home whose s) s held
