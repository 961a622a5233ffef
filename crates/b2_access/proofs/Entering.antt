-- What each access does to those who stand inside a text: how often the partition that asks is among them, and all others.
use Rattle.std.specs.Prelude.{◌≡◌, ◌≢◌, ◌≤◌, ℕ, ◌+◌, ◌-◌, ◌==◌, nat_lt, ◌||◌, Bool, true, false, List, [], ◌∷◌, ◌++◌, Option, Some, None, IsSome, is_some, Result, Ok, Err, option_map, if◌then◌else◌, refl}
use Rattle.std.specs.Cmp.{unsigned_Decides}
use Rattle.std.proofs.Common.{sym, ap, subst, ◌∙◌, inl, inr}
use Rattle.std.proofs.lemmas.Bool.{false≢true}
use Rattle.b2_text.specs.Program.{TextState, size_of, with_line, without as without_lines}
use Rattle.b2_text.specs.declared.spots.Spot.{Spot}
use Rattle.b2_vars.specs.Tables.{VarsState}
use Rattle.b2_access.specs.declared.objects.Object.TheVariants as object
use Rattle.b2_access.specs.declared.accesses.Access.{Access}
use Rattle.b2_access.specs.declared.accesses.Access.TheVariants as access
use Rattle.b2_access.specs.declared.accesses.Answer.{Answer}
use Rattle.b2_access.specs.declared.accesses.Answer.TheVariants as answer
use Rattle.b2_access.specs.AccessRows.{EditTask, LoadTask, becomes_text, clears, clears_own, clears_text, drops, edits, enters, enters_at, erases, holder_at, leaves, loads, loads_and_gives_up, loads_from, loads_lines, loads_nothing, loads_text, mark_in, puts_atoms, row, stands_inside, stays_text, clears_both, is_held_by}
use Rattle.b2_access.specs.AnswerKinds.{is_done}
use Rattle.b2_access.specs.Answering.{TellsOnly}
use Rattle.b2_access.specs.Borrowers.{homes_marked, is_inside, is_marked, times, without, without_last}
use Rattle.b2_access.specs.Contents.{content_other, content_same}
use Rattle.b2_access.specs.Disks.{DiskWork}
use Rattle.b2_access.specs.Entering.{AccessesEnterAsSaid, EntersAs, entered_after, inside, or_nobody}
use Rattle.b2_access.specs.Serving.{performs, serves, unless_stopped}
use Rattle.b2_access.specs.Sharing.{Gives}
use Rattle.b2_access.specs.Stopping.{first_other, first_there, inside_edited, stop_by}
use Rattle.b2_access.specs.Store.{StoreState, content, holder_of, put}
use Rattle.b2_access.specs.Task.{Refuse}
use Rattle.b2_access.proofs.Borrowers.{marked_inside, times_added, times_added_other, times_left, times_left_other, times_without, times_without_other}
use Rattle.b2_access.proofs.Holders.{given_back, given_back_from, given_up, performs_on, clears_first, drops_first, edits_first, gone, loads_first}
use Rattle.b2_access.proofs.Unwritten.{unwritten}
use Rattle.b2_access.proofs.RowLaws.{leaves as row_leaves}
use Rattle.b2_base.specs.declared.codes.TheConstants.{A01_TEXT_AREA}

either_same : {A : Type 0} (b : Bool) (x : A) → (if b then x else x) ≡ x
either_same true x = refl
either_same false x = refl

module _ (who g : ℕ) (s : StoreState) where
  abbrev here : StoreState → Option (List ℕ)
  here w = content w (object.Borrow g)

  -- where nothing changes
  stays : (a : Access) (x : Gives StoreState) → here x.after ≡ here s → ((k : ℕ) → entered_after a x.answer g k ≡ k) → EntersAs s who a g x
  stays a x same count = record {
    own = ap (λ (c : Option (List ℕ)). times who (or_nobody c)) same ∙ sym (count (times who (inside s g)));
    others = λ q apart. ap (λ (c : Option (List ℕ)). times q (or_nobody c)) same;
  }

  -- where an access is stopped
  unless : (a : Access) (first edited : Option ℕ) (x : Gives StoreState) → ((q k : ℕ) → entered_after a (answer.Wait q) g k ≡ k) → ((q k : ℕ) → entered_after a (answer.Locked q) g k ≡ k)
      → EntersAs s who a g x → EntersAs s who a g (unless_stopped (stop_by first edited) x s)
  unless a (Some q) edited x waits locks h = stays a (record { after = s; answer = answer.Wait q }) refl (waits q)
  unless a None (Some q) x waits locks h = stays a (record { after = s; answer = answer.Locked q }) refl (locks q)
  unless a None None x waits locks h = h

  -- where one list of them becomes another
  module _ (a : Access) (x : Answer) (h : ℕ) (parts new : List ℕ) (counts : ℕ → ℕ) (there : content s (object.Borrow h) ≡ Some parts) where
    abbrev changed : Gives StoreState
    changed = record { after = put (object.Borrow h) new s; answer = x }

    changes_at : (same : Bool) → (g == h) ≡ same → ((k : ℕ) → entered_after a x g k ≡ (if same then counts k else k)) → times who new ≡ counts (times who parts) → ((q : ℕ) → q ≢ who → times q new ≡ times q parts) → EntersAs s who a g changed
    changes_at true is count own others =
        let e : g ≡ h = (unsigned_Decides g h).0 is in
        let old : here s ≡ Some parts = subst (λ (y : ℕ). content s (object.Borrow y) ≡ Some parts) (sym e) there in
        let after : here changed.after ≡ Some new = subst (λ (y : ℕ). content changed.after (object.Borrow y) ≡ Some new) (sym e) (content_same (object.Borrow h) new s ∙ ap (option_map (λ _. new)) there) in
        record {
          own = ap (λ (c : Option (List ℕ)). times who (or_nobody c)) after ∙ own ∙ sym (ap (λ (c : Option (List ℕ)). counts (times who (or_nobody c))) old) ∙ sym (count (times who (inside s g)));
          others = λ q apart. ap (λ (c : Option (List ℕ)). times q (or_nobody c)) after ∙ others q apart ∙ sym (ap (λ (c : Option (List ℕ)). times q (or_nobody c)) old);
        }
    changes_at false is count own others =
        let apart : object.Borrow g ≢ object.Borrow h = λ e. let same : g ≡ h = cc in false≢true (sym is ∙ (unsigned_Decides g h).1 same) in
        stays a changed (content_other (object.Borrow h) (object.Borrow g) new s apart) count

    changes_one : ((k : ℕ) → entered_after a x g k ≡ (if g == h then counts k else k)) → times who new ≡ counts (times who parts) → ((q : ℕ) → q ≢ who → times q new ≡ times q parts) → EntersAs s who a g changed
    changes_one count own others = changes_at (g == h) refl count own others

  module _ (listed : IsSome (here s)) where
    -- what isn't listed isn't the one that is
    unlisted : (h n k : ℕ) → content s (object.Borrow h) ≡ None → (if g == h then n else k) ≡ k
    unlisted h n k none = by (g == h) refl
      where
        by : (b : Bool) → (g == h) ≡ b → (if b then n else k) ≡ k
        by true is = absurd (false≢true (sym (ap is_some (subst (λ (y : ℕ). content s (object.Borrow y) ≡ None) (sym ((unsigned_Decides g h).0 is)) none)) ∙ listed))
        by false is = refl

    -- ENTERING
    stands : (name : List ℕ) (mark h : ℕ) (spot : Spot) (c : Option (List ℕ)) → content s (object.Borrow h) ≡ c → EntersAs s who (access.Enter name mark) g (performs (stands_inside who name h spot c) s)
    stands name mark h spot None is = stays (access.Enter name mark) (record { after = s; answer = answer.Entered h spot }) refl (λ k. unlisted h (k + 1) k is)
    stands name mark h spot (Some parts) is =
        changes_one (access.Enter name mark) (answer.Entered h spot) h parts (parts ++ who ∷ []) (λ k. k + 1) is (λ k. refl) (times_added who parts) (λ q apart. times_added_other who q apart parts)

    enters_text : (name : List ℕ) (mark h : ℕ) (o : Option Spot) → EntersAs s who (access.Enter name mark) g (performs (enters_at who name h o) s)
    enters_text name mark h None = stays (access.Enter name mark) (performs (enters_at who name h None) s) refl (λ k. refl)
    enters_text name mark h (Some spot) = stands name mark h spot (content s (object.Borrow h)) refl

    enters_by : (name : List ℕ) (mark : ℕ) (holder : Option ℕ) → EntersAs s who (access.Enter name mark) g (performs (enters who name mark holder) s)
    enters_by name mark None = stays (access.Enter name mark) (record { after = s; answer = answer.NoPart }) refl (λ k. refl)
    enters_by name mark (Some h) = enters_text name mark h (mark_in mark (content s (object.Text h)))

    -- LEAVING
    leaves_once : (home : ℕ) (c : Option (List ℕ)) → content s (object.Borrow home) ≡ c → EntersAs s who (access.Leave home) g (performs (leaves who home c) s)
    leaves_once home None is = stays (access.Leave home) (gone s) refl (λ k. unlisted home (k - 1) k is)
    leaves_once home (Some parts) is =
        changes_one (access.Leave home) answer.Done home parts (without_last who parts) (λ k. k - 1) is (λ k. refl) (times_left who parts) (λ q apart. times_left_other who q apart parts)

  -- GIVING BACK: what the lists are then
  given_from : (h : ℕ) (c : Option (List ℕ)) (v : StoreState) → (h == g) ≡ false → here (given_back_from who h c v) ≡ here v
  given_from h None v other = refl
  given_from h (Some parts) v other =
      content_other (object.Borrow h) (object.Borrow g) (without who parts) v (λ e. let same : h ≡ g = cc in false≢true (sym other ∙ (unsigned_Decides h g).1 same))

  given_at : (homes : List ℕ) (v : StoreState) (parts x : List ℕ) → here s ≡ Some parts → here v ≡ Some x → here (given_back who homes s v) ≡ Some (if is_inside g homes then without who parts else x)
  given_at [] v parts x old at = at
  given_at (h ∷ homes) v parts x old at =
      by (h == g) refl
      (λ (w : StoreState) (y : List ℕ) (is : here w ≡ Some y). given_at homes w parts y old is)
    where
      by : (same : Bool) → (h == g) ≡ same → ((w : StoreState) (y : List ℕ) → here w ≡ Some y → here (given_back who homes s w) ≡ Some (if is_inside g homes then without who parts else y))
          → here (given_back who homes s (given_back_from who h (content s (object.Borrow h)) v)) ≡ Some (if same || is_inside g homes then without who parts else x)
      by true is later =
          let e : h ≡ g = (unsigned_Decides h g).0 is in
          let there : content s (object.Borrow h) ≡ Some parts = subst (λ (y : ℕ). content s (object.Borrow y) ≡ Some parts) (sym e) old in
          let now : here (put (object.Borrow h) (without who parts) v) ≡ Some (without who parts) =
          subst (λ (y : ℕ). content (put (object.Borrow y) (without who parts) v) (object.Borrow g) ≡ Some (without who parts)) (sym e) (content_same (object.Borrow g) (without who parts) v ∙ ap (option_map (λ _. without who parts)) at)
          in
          ap (λ (c : Option (List ℕ)). here (given_back who homes s (given_back_from who h c v))) there
          ∙ later (put (object.Borrow h) (without who parts) v) (without who parts) now
          ∙ ap Some (either_same (is_inside g homes) (without who parts))
      by false is later = later (given_back_from who h (content s (object.Borrow h)) v) x (given_from h (content s (object.Borrow h)) v is ∙ at)

  module _ (low : 1 ≤ g) (high : g ≤ 16) (parts : List ℕ) (old : here s ≡ Some parts) where
    -- none of the entries of who asks is left, where the text is marked
    gives : (a : Access) (homes : ℕ) (x : Gives StoreState) → here x.after ≡ Some (if is_inside g (homes_marked homes) then without who parts else parts) → ((k : ℕ) → entered_after a x.answer g k ≡ (if is_marked g homes then 0 else k))
        → EntersAs s who a g x
    gives a homes x now count =
        let is : here x.after ≡ Some (if is_marked g homes then without who parts else parts) = now ∙ ap (λ (b : Bool). Some (if b then without who parts else parts)) (marked_inside g homes low high) in
        let by = own_by (is_marked g homes) in
        record {
          own = ap (λ (c : Option (List ℕ)). times who (or_nobody c)) is ∙ by.0
              ∙ sym (ap (λ (c : Option (List ℕ)). if is_marked g homes then 0 else times who (or_nobody c)) old)
              ∙ sym (count (times who (inside s g)));
          others = λ q apart. ap (λ (c : Option (List ℕ)). times q (or_nobody c)) is ∙ by.1 q apart ∙ sym (ap (λ (c : Option (List ℕ)). times q (or_nobody c)) old);
        }
      where
        own_by : (b : Bool) → (times who (if b then without who parts else parts) ≡ (if b then 0 else times who parts)) × ((q : ℕ) → q ≢ who → times q (if b then without who parts else parts) ≡ times q parts)
        own_by true = (times_without who parts, λ q apart. times_without_other who q apart parts)
        own_by false = (refl, λ q apart. refl)

    back : (homes : ℕ) (v : StoreState) → here v ≡ here s → here (given_back who (homes_marked homes) s v) ≡ Some (if is_inside g (homes_marked homes) then without who parts else parts)
    back homes v same = given_at (homes_marked homes) v parts parts old (same ∙ old)

    -- an edit, with what it does to the text
    module _ (homes : ℕ) where
      edits_give : (a : Access) → ((k : ℕ) → entered_after a answer.Done g k ≡ (if is_marked g homes then 0 else k)) → (t : EditTask who homes) → TellsOnly is_done t
          → ((v : StoreState) → (performs_on t s v).answer ≡ answer.Done) → ((v : StoreState) → here (performs_on t s v).after ≡ here v) → EntersAs s who a g (performs (edits who homes t) s)
      edits_give a count t tells says leaves_them =
          let v = given_back who (homes_marked homes) s s in
          subst (λ (x : Gives StoreState). EntersAs s who a g x) (sym (edits_first who homes t s tells))
          (gives a homes (performs_on t s v) (leaves_them v ∙ back homes s refl) (λ k. ap (λ (x : Answer). entered_after a x g k) (says v) ∙ count k))

      stays_give : (a : Access) → ((k : ℕ) → entered_after a answer.Done g k ≡ (if is_marked g homes then 0 else k)) → EntersAs s who a g (performs (edits who homes (stays_text who homes)) s)
      stays_give a count = edits_give a count (stays_text who homes) (refl, refl) (λ v. refl) (λ v. refl)

      becomes_give : (a : Access) → ((k : ℕ) → entered_after a answer.Done g k ≡ (if is_marked g homes then 0 else k)) → (t : TextState) → EntersAs s who a g (performs (edits who homes (becomes_text who homes t)) s)
      becomes_give a count t = edits_give a count (becomes_text who homes t) (refl, refl) (λ v. refl) (λ v. refl)

      puts_give : (n : ℕ) (atoms : List ℕ) (t : Option TextState) → EntersAs s who (access.PutLine n (Some atoms) homes) g (performs (puts_atoms who homes n atoms t) s)
      puts_give n atoms None = stays_give (access.PutLine n (Some atoms) homes) (λ k. refl)
      puts_give n atoms (Some t) = by (nat_lt t.area (size_of (with_line n atoms t.lines)))
        where
          by : (full : Bool) → EntersAs s who (access.PutLine n (Some atoms) homes) g (performs (if full then Refuse A01_TEXT_AREA else edits who homes (becomes_text who homes (record t { lines = with_line n atoms t.lines }))) s)
          by true = stays (access.PutLine n (Some atoms) homes) (record { after = s; answer = answer.Refused A01_TEXT_AREA }) refl (λ k. refl)
          by false = becomes_give (access.PutLine n (Some atoms) homes) (λ k. refl) (record t { lines = with_line n atoms t.lines })

      erases_give : (a : Access) → ((k : ℕ) → entered_after a answer.Done g k ≡ (if is_marked g homes then 0 else k)) → (from to : ℕ) (t : Option TextState) → EntersAs s who a g (performs (erases who homes from to t) s)
      erases_give a count from to None = stays_give a count
      erases_give a count from to (Some t) = becomes_give a count (record t { lines = without_lines from to t.lines })

      -- giving up a name leaves them
      name_leaves : (name : Option (List ℕ)) → here (given_up who name s s) ≡ here s
      name_leaves None = refl
      name_leaves (Some name) = by (is_held_by who (content s (object.Name name)))
        where
          by : (own : Bool) → here (if own then put (object.Name name) None s else s) ≡ here s
          by true = refl
          by false = refl

      clears_give : (name : Option (List ℕ)) → EntersAs s who (access.ClearAll name homes) g (performs (clears who homes name) s)
      clears_give name =
          let v = given_back who (homes_marked homes) s (given_up who name s s) in
          let end = by (content s (object.Text who)) (content s (object.Globals who)) refl refl v in
          subst (λ (x : Gives StoreState). EntersAs s who (access.ClearAll name homes) g x) (sym (clears_first who homes name s))
          (gives (access.ClearAll name homes) homes (performs_on (clears_own who homes name) s v) (end.1 ∙ back homes (given_up who name s s) (name_leaves name)) (λ k. ap (λ (x : Answer). entered_after (access.ClearAll name homes) x g k) end.0))
        where
          both : (t : TextState) (c : Option VarsState) (v : StoreState) → ((performs_on (clears_both who homes name t c) s v).answer ≡ answer.Done) × (here (performs_on (clears_both who homes name t c) s v).after ≡ here v)
          both t None v = (refl, refl)
          both t (Some w) v = (refl, refl)

          by : (t : Option TextState) (c : Option VarsState) → content s (object.Text who) ≡ t → content s (object.Globals who) ≡ c → (v : StoreState)
              → ((performs_on (clears_text who homes name t) s v).answer ≡ answer.Done) × (here (performs_on (clears_text who homes name t) s v).after ≡ here v)
          by None c is_t is_c v = (refl, refl)
          by (Some t) c is_t is_c v = both t (content s (object.Globals who)) v

      -- a program that is loaded
      loads_give : (addr name : List ℕ) (replace : Bool) (declared : Option (List ℕ)) (t : LoadTask who homes addr declared) → TellsOnly is_done t → ((v : StoreState) → (performs_on t s v).answer ≡ answer.Done) → ((v : StoreState) → here (performs_on t s v).after ≡ here v)
          → EntersAs s who (access.LoadProgram addr name replace declared homes) g (performs (loads_and_gives_up who homes addr declared t) s)
      loads_give addr name replace declared t tells says leaves_them =
          let a = access.LoadProgram addr name replace declared homes in
          let v = given_back who (homes_marked homes) s (given_up who declared s s) in
          subst (λ (x : Gives StoreState). EntersAs s who a g x) (sym (loads_first who homes addr declared t s tells))
          (gives a homes (performs_on t s v) (leaves_them v ∙ back homes (given_up who declared s s) (name_leaves declared)) (λ k. ap (λ (x : Answer). entered_after a x g k) (says v)))

      loads_as_made : (addr name : List ℕ) (replace : Bool) (declared : Option (List ℕ)) (r : Result TextState ℕ) → EntersAs s who (access.LoadProgram addr name replace declared homes) g (performs (loads who homes addr declared r) s)
      loads_as_made addr name replace declared (Ok t) = loads_give addr name replace declared (loads_lines who homes addr declared t) (refl, refl) (λ v. refl) (λ v. refl)
      loads_as_made addr name replace declared (Err code) = stays (access.LoadProgram addr name replace declared homes) (record { after = s; answer = answer.Refused code }) refl (λ k. refl)

      loads_into : (addr name : List ℕ) (replace : Bool) (declared : Option (List ℕ)) (made : List ℕ → TextState → Result TextState ℕ) (image : List ℕ) (t : Option TextState)
          → EntersAs s who (access.LoadProgram addr name replace declared homes) g (performs (loads_text who homes addr declared made image t) s)
      loads_into addr name replace declared made image None = loads_give addr name replace declared (loads_nothing who homes addr declared) (refl, refl) (λ v. refl) (λ v. refl)
      loads_into addr name replace declared made image (Some t) = loads_as_made addr name replace declared (made image t)

      loads_at : (addr name : List ℕ) (replace : Bool) (declared : Option (List ℕ)) (made : List ℕ → TextState → Result TextState ℕ) (image : Option (List ℕ))
          → EntersAs s who (access.LoadProgram addr name replace declared homes) g (performs (loads_from who homes addr declared made image) s)
      loads_at addr name replace declared made None = loads_give addr name replace declared (loads_nothing who homes addr declared) (refl, refl) (λ v. refl) (λ v. refl)
      loads_at addr name replace declared made (Some image) = loads_into addr name replace declared made image (content s (object.Text who))

      drops_give : EntersAs s who (access.Drop homes) g (performs (drops who (homes_marked homes)) s)
      drops_give =
          let v = given_back who (homes_marked homes) s s in
          subst (λ (x : Gives StoreState). EntersAs s who (access.Drop homes) g x) (sym (drops_first who (homes_marked homes) s)) (gives (access.Drop homes) homes (gone v) (back homes s refl) (λ k. refl))

-- EACH ACCESS
some_here : (c : Option (List ℕ)) → IsSome c → (parts : List ℕ) × (c ≡ Some parts)
some_here None h = absurd (false≢true h)
some_here (Some parts) h = (parts, refl)

abbrev firsts : ℕ → Access → StoreState → Option ℕ
firsts who a s = first_other who (first_there (row a).reach s)

abbrev edited_by : ℕ → Access → StoreState → Option ℕ
edited_by who a s = inside_edited who (row a).reach.text s

pub accesses_enter_as_said : AccessesEnterAsSaid
accesses_enter_as_said disks who g (access.Enter name mark) s low high listed = enters_by who g s listed name mark (holder_of s name)
accesses_enter_as_said disks who g (access.Leave home) s low high listed = leaves_once who g s listed home (content s (object.Borrow home)) refl
accesses_enter_as_said disks who g (access.Drop homes) s low high listed =
    let old = some_here (content s (object.Borrow g)) listed in drops_give who g s low high old.0 old.1 homes
accesses_enter_as_said disks who g (access.PutLine line (Some atoms) homes) s low high listed =
    let a = access.PutLine line (Some atoms) homes in
    let old = some_here (content s (object.Borrow g)) listed in
    unless who g s a (firsts who a s) (edited_by who a s) (performs ((row a).does disks who None) s) (λ q k. refl) (λ q k. refl) (puts_give who g s low high old.0 old.1 homes line atoms (content s (object.Text who)))
accesses_enter_as_said disks who g (access.PutLine line None homes) s low high listed =
    let a = access.PutLine line None homes in
    let old = some_here (content s (object.Borrow g)) listed in
    unless who g s a (firsts who a s) (edited_by who a s) (performs ((row a).does disks who None) s) (λ q k. refl) (λ q k. refl) (erases_give who g s low high old.0 old.1 homes a (λ k. refl) line line (content s (object.Text who)))
accesses_enter_as_said disks who g (access.Erase from to homes) s low high listed =
    let a = access.Erase from to homes in
    let old = some_here (content s (object.Borrow g)) listed in
    unless who g s a (firsts who a s) (edited_by who a s) (performs ((row a).does disks who None) s) (λ q k. refl) (λ q k. refl) (erases_give who g s low high old.0 old.1 homes a (λ k. refl) from to (content s (object.Text who)))
accesses_enter_as_said disks who g (access.ClearAll name homes) s low high listed =
    let a = access.ClearAll name homes in
    let old = some_here (content s (object.Borrow g)) listed in
    unless who g s a (firsts who a s) (edited_by who a s) (performs ((row a).does disks who None) s) (λ q k. refl) (λ q k. refl) (clears_give who g s low high old.0 old.1 homes name)
accesses_enter_as_said disks who g (access.LoadProgram addr name replace declared homes) s low high listed =
    let a = access.LoadProgram addr name replace declared homes in
    let old = some_here (content s (object.Borrow g)) listed in
    unless who g s a (firsts who a s) (edited_by who a s) (performs ((row a).does disks who None) s) (λ q k. refl) (λ q k. refl)
    (loads_at who g s low high old.0 old.1 homes addr name replace declared (disks.load_program name replace) (content s (object.Platter addr)))
accesses_enter_as_said disks who g a s low high listed =
    stays who g s a (serves disks s who a) (row_leaves (row a) disks who s (object.Borrow g) (unwritten who (holder_at a s) (object.Borrow g) a refl)) (λ k. refl)
