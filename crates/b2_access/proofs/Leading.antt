-- To whom names lead after an access: to whom they led before, or to the one that asked. And an answer leads to the holder of a name that
-- is touched.
use Rattle.std.specs.Prelude.{◌≡◌, ◌≢◌, ◌⊎◌, ℕ, ◌||◌, Bool, true, false, List, [], ◌∷◌, Option, Some, None, is_some, Result, Ok, Err, if◌then◌else◌, refl}
use Rattle.std.proofs.Common.{sym, ap, subst, ◌∙◌, inl, inr}
use Rattle.std.proofs.lemmas.Bool.{true≢false}
use Rattle.b2_text.specs.Program.{TextState}
use Rattle.b2_text.specs.declared.spots.Spot.{Spot}
use Rattle.b2_vars.specs.Tables.{VarsState}
use Rattle.b2_access.specs.declared.objects.Object.{Object}
use Rattle.b2_access.specs.declared.objects.Object.TheVariants as object
use Rattle.b2_access.specs.declared.accesses.Access.{Access}
use Rattle.b2_access.specs.declared.accesses.Access.TheVariants as access
use Rattle.b2_access.specs.declared.accesses.Answer.{Answer}
use Rattle.b2_access.specs.declared.accesses.Answer.TheVariants as answer
use Rattle.b2_access.specs.AccessRows.{LoadTask, clears, clears_and_gives_back, clears_both, clears_own, clears_text, disk_and_name, enters, enters_at, finds, gives_back, gives_back_from, gives_up, gives_up_if, holder_at, holds_name, is_held_by, is_held_by_other, loads, loads_and_gives_back, loads_and_gives_up, loads_from, loads_lines, loads_nothing, loads_text, mark_in, reach, row, stands_inside, takes_name}
use Rattle.b2_access.specs.Answering.{can_answer}
use Rattle.b2_access.specs.Borrowers.{homes_marked, without}
use Rattle.b2_access.specs.Contents.{content_other, content_same}
use Rattle.b2_access.specs.Disks.{DiskWork}
use Rattle.b2_access.specs.Homes.{AnswerIn}
use Rattle.b2_access.specs.Leading.{AnswersLeadToHolders, AnswersLeadToWhoIsPresent, HoldersStayPresent, NamesLeadToWhoAsks}
use Rattle.b2_access.specs.Objects.{same_object}
use Rattle.b2_access.specs.Reach.{borrows, objects_named}
use Rattle.b2_access.specs.Serving.{performs, put_each, serves, unless_stopped}
use Rattle.b2_access.specs.Sharing.{Gives}
use Rattle.b2_access.specs.Stopping.{first_other, first_there, inside_edited, stop_by}
use Rattle.b2_access.specs.Store.{ContentOf, StoreState, content, holder_of, put, IsIn}
use Rattle.b2_access.specs.Task.{Put, Task, Look, Tell, Refuse, Missing, AreIn, also_puts, in_left, in_right}
use Rattle.b2_access.proofs.Choice.{either}
use Rattle.b2_access.proofs.Locality.{serves_by_row}
use Rattle.b2_access.proofs.RowLaws.{keeps, leaves}
use Rattle.b2_access.proofs.Unwritten.{unwritten, writes_kind}

-- AN ANSWER leads nowhere but where a name is looked for, or a text is entered by one.
abbrev looks_for_name : Access → Bool
looks_for_name (access.FindPart name) = true
looks_for_name (access.Enter name mark) = true
looks_for_name a = false

no_holder : (a : Access) (p : ℕ) → looks_for_name a ≡ false → can_answer a (answer.Holder p) ≡ false
no_holder (access.FindPart name) p none = absurd (true≢false none)
no_holder (access.Enter name mark) p none = absurd (true≢false none)
no_holder a p none = refl

none_entered : (a : Access) (g : ℕ) (spot : Spot) → looks_for_name a ≡ false → can_answer a (answer.Entered g spot) ≡ false
none_entered (access.FindPart name) g spot none = absurd (true≢false none)
none_entered (access.Enter name mark) g spot none = absurd (true≢false none)
none_entered a g spot none = refl

leads_nowhere : (among : ℕ → Bool) (a : Access) (x : Answer) → looks_for_name a ≡ false → can_answer a x ≡ true → AnswerIn among x
leads_nowhere among a (answer.Holder p) none can = absurd (true≢false (sym can ∙ no_holder a p none))
leads_nowhere among a (answer.Entered g spot) none can = absurd (true≢false (sym can ∙ none_entered a g spot none))
leads_nowhere among a x none can = tt

-- and there to who holds the name
module _ (among : ℕ → Bool) (s : StoreState) where
  stopped_in : (first inside : Option ℕ) (g : Gives StoreState) → AnswerIn among g.answer → AnswerIn among (unless_stopped (stop_by first inside) g s).answer
  stopped_in (Some p) inside g is = tt
  stopped_in None (Some p) g is = tt
  stopped_in None None g is = is

  found : (name : List ℕ) (holder : Option ℕ) → ((p : ℕ) → holder ≡ Some p → among p ≡ true) → AnswerIn among (performs (finds name (Some holder)) s).answer
  found name None leads = tt
  found name (Some p) leads = leads p refl

  module _ (who : ℕ) (name : List ℕ) (mark : ℕ) where
    entered_at : (g : ℕ) (o : Option Spot) → among g ≡ true → AnswerIn among (performs (enters_at who name g o) s).answer
    entered_at g None is = tt
    entered_at g (Some spot) is = inside (content s (object.Borrow g))
      where
        inside : (parts : Option (List ℕ)) → AnswerIn among (performs (stands_inside who name g spot parts) s).answer
        inside None = is
        inside (Some parts) = is

    entered : (holder : Option ℕ) → ((p : ℕ) → holder ≡ Some p → among p ≡ true) → AnswerIn among (performs (enters who name mark holder) s).answer
    entered None leads = tt
    entered (Some g) leads = entered_at g (mark_in mark (content s (object.Text g))) (leads g refl)

pub answers_lead_to_holders : AnswersLeadToHolders
answers_lead_to_holders disks among who (access.FindPart name) s names =
    let a = access.FindPart name in
    stopped_in among s (first_other who (first_there (reach a) s)) (inside_edited who (reach a).text s) (performs ((row a).does disks who (holder_at a s)) s) (found among s name (holder_of s name) (λ p is. names name p (inl refl) (ap Some is)))
answers_lead_to_holders disks among who (access.Enter name mark) s names =
    let a = access.Enter name mark in
    stopped_in among s (first_other who (first_there (reach a) s)) (inside_edited who (reach a).text s) (performs ((row a).does disks who (holder_at a s)) s) (entered among s who name mark (holder_of s name) (λ p is. names name p (inl refl) (ap Some is)))
answers_lead_to_holders disks among who a s names = leads_nowhere among a (serves disks s who a).answer refl (serves_by_row disks s who a)

pub answers_lead_to_who_is_present : AnswersLeadToWhoIsPresent
answers_lead_to_who_is_present disks who a s present = answers_lead_to_holders disks (λ p. is_some (content s (object.Text p))) who a s (λ n p i leads. present n p leads)

-- A NAME leads to whom it led before, or to the one that asks: no other holder is put.
abbrev OwnName : ℕ → (o : Object) → ContentOf o → Type 0
OwnName who (object.Name n) c = (c ≡ None) ⊎ (c ≡ Some who)
OwnName who o c = Unit {0}

abbrev Leads : ℕ → ℕ → List ℕ → StoreState → StoreState → Type 0
Leads who q n s after = holder_of after n ≡ Some q → (holder_of s n ≡ Some q) ⊎ (q ≡ who)

some_same : (x y : Option ℕ) → Some x ≡ Some y → x ≡ y
some_same x y e = cc

holder_put : (n : List ℕ) (c : Option ℕ) (s : StoreState) → holder_of (put (object.Name n) c s) n ≡ c
holder_put n c s = some_same _ _ (content_same (object.Name n) c s)

holder_kept : (n m : List ℕ) (c : Option ℕ) (s : StoreState) → object.Name m ≢ object.Name n → holder_of (put (object.Name n) c s) m ≡ holder_of s m
holder_kept n m c s apart = some_same _ _ (content_other (object.Name n) (object.Name m) c s apart)

module _ (who q : ℕ) (n : List ℕ) where
  own_by : (c : Option ℕ) → (c ≡ None) ⊎ (c ≡ Some who) → c ≡ Some q → q ≡ who
  own_by c own is = elim own [ inl none ↦ (let clash : None ≡ Some q = sym none ∙ is in cc) | inr mine ↦ (let same : Some who ≡ Some q = sym mine ∙ is in cc) ]

  name_put : (m : List ℕ) (c : Option ℕ) (s : StoreState) → (c ≡ None) ⊎ (c ≡ Some who) → Leads who q n s (put (object.Name m) c s)
  name_put m c s own h = elim (same_object (object.Name n) (object.Name m)) [
    | inl e ↦ (let same : n ≡ m = cc in inr (own_by c own (sym (holder_put m c s) ∙ ap (holder_of (put (object.Name m) c s)) (sym same) ∙ h)))
    | inr apart ↦ inl (sym (holder_kept m n c s apart) ∙ h)
  ]

  one_put : (o : Object) (c : ContentOf o) (s : StoreState) → OwnName who o c → Leads who q n s (put o c s)
  one_put (object.Name m) c s own h = name_put m c s own h
  one_put o c s own h = inl h

  abbrev AllOwn : {ws : List Object} → List (Put ws) → Type 0
  AllOwn [] = Unit {0}
  AllOwn (p ∷ ps) = OwnName who p.target p.value × AllOwn ps

  each_put : {ws : List Object} (ps : List (Put ws)) (s : StoreState) → AllOwn ps → Leads who q n s (put_each ps s)
  each_put [] s own h = inl h
  each_put (p ∷ ps) s own h = elim (each_put ps (put p.target p.value s) own.1 h) [ inl before ↦ one_put p.target p.value s own.0 before | inr mine ↦ inr mine ]

  abbrev OwnNames : {ts ws : List Object} → Task ts ws → Type 0
  OwnNames (Look o there next) = (c : Option (ContentOf o)) → OwnNames (next c)
  OwnNames (Tell puts x) = AllOwn puts
  OwnNames (Refuse c) = Unit {0}
  OwnNames Missing = Unit {0}

  performed_leads : {ts ws : List Object} (t : Task ts ws) (s : StoreState) → OwnNames t → Leads who q n s (performs t s).after
  performed_leads (Look o there next) s own h = performed_leads (next (content s o)) s (own (content s o)) h
  performed_leads (Tell puts x) s own h = each_put puts s own h
  performed_leads (Refuse c) s own h = inl h
  performed_leads Missing s own h = inl h

  also_own : {ts ws : List Object} (o : Object) (there : IsIn o ws) (c : ContentOf o) (t : Task ts ws) → OwnName who o c → OwnNames t → OwnNames (also_puts o there c t)
  also_own o there c (Look x at next) mine own = λ seen. also_own o there c (next seen) mine (own seen)
  also_own o there c (Tell puts x) mine own = (mine, own)
  also_own o there c (Refuse code) mine own = tt
  also_own o there c Missing mine own = tt

  giving_up_own : {ts ws : List Object} (name : Option (List ℕ)) (looked : AreIn (objects_named name) ts) (told : AreIn (objects_named name) ws) (t : Task ts ws) → OwnNames t → OwnNames (gives_up who name looked told t)
  giving_up_own None looked told t own = own
  giving_up_own {ts} {ws} (Some name) looked told t own = λ c. by (is_held_by who c)
    where
      by : (held : Bool) → OwnNames (gives_up_if {reached = ts} {written = ws} held name (told (object.Name name) (inl refl)) t)
      by true = also_own (object.Name name) (told (object.Name name) (inl refl)) None t (inl refl) own
      by false = own

  giving_back_own : {ts ws : List Object} (homes : List ℕ) (looked : AreIn (borrows homes) ts) (told : AreIn (borrows homes) ws) (t : Task ts ws) → OwnNames t → OwnNames (gives_back who homes looked told t)
  giving_back_own [] looked told t own = own
  giving_back_own {ts} {ws} (g ∷ homes) looked told t own = λ c. by c (gives_back who homes (λ o i. looked o (inr i)) (λ o i. told o (inr i)) t) (giving_back_own homes (λ o i. looked o (inr i)) (λ o i. told o (inr i)) t own)
    where
      by : (c : Option (List ℕ)) (x : Task ts ws) → OwnNames x → OwnNames (gives_back_from who g (told (object.Borrow g) (inl refl)) x c)
      by None x rest = rest
      by (Some parts) x rest = also_own (object.Borrow g) (told (object.Borrow g) (inl refl)) (without who parts) x tt rest

  declaring_own : (name : List ℕ) (old : Option (List ℕ)) → OwnNames (takes_name who name old)
  declaring_own name old = giving_up_own old (λ o i. inr i) (λ o i. inr i) (holds_name who name old) (inr refl, tt)

  clearing_own : (homes : ℕ) (name : Option (List ℕ)) → OwnNames (clears who homes name)
  clearing_own homes name =
      let told = borrows (homes_marked homes) in
      giving_up_own name (λ o i. inr (inr (inr (in_right o told (objects_named name) i)))) (λ o i. inr (inr (in_right o told (objects_named name) i))) (clears_and_gives_back who homes name)
      (giving_back_own (homes_marked homes) (λ o i. inr (inr (inr (in_left o told (objects_named name) i)))) (λ o i. inr (inr (in_left o told (objects_named name) i))) (clears_own who homes name) text)
    where
      both : (t : TextState) (c : Option VarsState) → OwnNames (clears_both who homes name t c)
      both t None = (tt, tt)
      both t (Some v) = (tt, (tt, tt))

      text : (t : Option TextState) → OwnNames (clears_text who homes name t)
      text None = tt
      text (Some t) = both t

  loading_up_own : (homes : ℕ) (addr : List ℕ) (declared : Option (List ℕ)) (t : LoadTask who homes addr declared) → OwnNames t → OwnNames (loads_and_gives_up who homes addr declared t)
  loading_up_own homes addr declared t own =
      let told = borrows (homes_marked homes) in
      giving_up_own declared (λ o i. inr (inr (in_right o told (disk_and_name addr declared) (inr (inr i))))) (λ o i. inr (in_right o told (objects_named declared) i)) (loads_and_gives_back who homes addr declared t)
      (giving_back_own (homes_marked homes) (λ o i. inr (inr (in_left o told (disk_and_name addr declared) i))) (λ o i. inr (in_left o told (objects_named declared) i)) t own)

  loading_own : (homes : ℕ) (addr : List ℕ) (declared : Option (List ℕ)) (made : List ℕ → TextState → Result TextState ℕ) (image : Option (List ℕ)) → OwnNames (loads_from who homes addr declared made image)
  loading_own homes addr declared made None = loading_up_own homes addr declared (loads_nothing who homes addr declared) tt
  loading_own homes addr declared made (Some image) = into
    where
      by : (r : Result TextState ℕ) → OwnNames (loads who homes addr declared r)
      by (Ok t) = loading_up_own homes addr declared (loads_lines who homes addr declared t) (tt, tt)
      by (Err code) = tt

      into : (t : Option TextState) → OwnNames (loads_text who homes addr declared made image t)
      into None = loading_up_own homes addr declared (loads_nothing who homes addr declared) tt
      into (Some t) = by (made image t)

  -- where something stops an access, nothing changes
  unless_leads : (first inside : Option ℕ) (g : Gives StoreState) (s : StoreState) → Leads who q n s g.after → Leads who q n s (unless_stopped (stop_by first inside) g s).after
  unless_leads (Some p) inside g s later h = inl h
  unless_leads None (Some p) g s later h = inl h
  unless_leads None None g s later h = later h

  served_leads : (disks : DiskWork) (a : Access) (s : StoreState) → OwnNames ((row a).does disks who (holder_at a s)) → Leads who q n s (serves disks s who a).after
  served_leads disks a s own = unless_leads (first_other who (first_there (reach a) s)) (inside_edited who (reach a).text s) (performs ((row a).does disks who (holder_at a s)) s) s (performed_leads ((row a).does disks who (holder_at a s)) s own)

  kept_leads : (disks : DiskWork) (a : Access) (s : StoreState) → writes_kind a (object.Name n) ≡ false → Leads who q n s (serves disks s who a).after
  kept_leads disks a s never h = inl (sym (some_same _ _ (leaves (row a) disks who s (object.Name n) (unwritten who (holder_at a s) (object.Name n) a never))) ∙ h)

named_after : (disks : DiskWork) (who q : ℕ) (n : List ℕ) (a : Access) (s : StoreState) → Leads who q n s (serves disks s who a).after
named_after disks who q n (access.Declare name old) s h = served_leads who q n disks (access.Declare name old) s (λ c. either (OwnNames who q n) (is_held_by_other who c) _ _ tt (declaring_own who q n name old)) h
named_after disks who q n (access.ClearAll name homes) s h = served_leads who q n disks (access.ClearAll name homes) s (clearing_own who q n homes name) h
named_after disks who q n (access.LoadProgram addr name replace declared homes) s h =
    served_leads who q n disks (access.LoadProgram addr name replace declared homes) s (loading_own who q n homes addr declared (disks.load_program name replace)) h
named_after disks who q n a s h = kept_leads who q n disks a s refl h

pub names_lead_to_who_asks : NamesLeadToWhoAsks
names_lead_to_who_asks disks who a s n p leads = elim (named_after disks who p n a s (some_same _ _ leads)) [ inl before ↦ inl (ap Some before) | inr same ↦ inr same ]

pub holders_stay_present : HoldersStayPresent
holders_stay_present disks who a s mine present n p leads = elim (names_lead_to_who_asks disks who a s n p leads) [
  | inl before ↦ still p (present n p before)
  | inr same ↦ subst (λ (x : ℕ). is_some (content (serves disks s who a).after (object.Text x)) ≡ true) (sym same) (still who mine)
]
  where
    still : (x : ℕ) → is_some (content s (object.Text x)) ≡ true → is_some (content (serves disks s who a).after (object.Text x)) ≡ true
    still x is = keeps (row a) disks who s (object.Text x) is
