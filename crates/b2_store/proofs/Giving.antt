-- Entering a text, leaving it and giving texts back: what is looked at is as it was, and what is put is what the rows have.
use Rattle.std.specs.Prelude.{◌≡◌, ℕ, suc, ◌<◌, ◌==◌, nat_lt, Bool, true, false, List, [], ◌∷◌, ◌++◌, Option, Some, None, is_some, Result, Ok, Err, if◌then◌else◌, refl}
use Rattle.std.specs.Cmp.{unsigned_Decides}
use Rattle.std.proofs.Common.{sym, ap, ◌∙◌, arith}
use Rattle.b2_base.specs.declared.codes.TheConstants.{A01_TEXT_AREA, P38_NO_DEFFN}
use Rattle.b2_text.specs.Program.{TextState, size_of, with_line, without as without_lines}
use Rattle.b2_text.specs.declared.spots.Spot.{Spot}
use Rattle.b2_vars.specs.Tables.{VarsState}
use Rattle.b2_access.specs.declared.accesses.Access.TheVariants as access
use Rattle.b2_access.specs.declared.accesses.Answer.{Answer}
use Rattle.b2_access.specs.declared.accesses.Answer.TheVariants as answer
use Rattle.b2_access.specs.declared.objects.Object.TheVariants as object
use Rattle.b2_access.specs.AccessRows.{becomes_text, clears, clears_both, clears_own, clears_text, edits, enters, enters_at, erases, leaves, loads, loads_from, loads_lines, loads_nothing, loads_text, mark_in, no_lines, puts_atoms, row, stands_inside, stays_text}
use Rattle.b2_access.specs.Borrowers.{all_partitions, homes_marked, is_marked, marked_among, without, without_last}
use Rattle.b2_access.specs.Contents.{row_other}
use Rattle.b2_access.specs.Rows.{NameRows, row_of, with_row}
use Rattle.b2_access.specs.Serving.{performs}
use Rattle.b2_access.specs.Sharing.{Gives}
use Rattle.b2_access.specs.Store.{StoreState, content, holder_of, put}
use Rattle.b2_access.specs.Task.{Refuse}
use Rattle.b2_access.proofs.Holders.{clears_first, drops_first, edits_first, given_back as back, given_back_from, given_up, gone, loads_first, performs_on}
use Rattle.b2_store.specs.DiskWork.{disks}
use Rattle.b2_store.specs.Cleared.{globals_cleared, globals_cleared_at, text_cleared, text_cleared_at}
use Rattle.b2_store.specs.Giving as giving
use Rattle.b2_store.specs.Inside as standing
use Rattle.b2_store.proofs.GivenRows.{InsideRows, back_by_rows, changed_at, given, given_back, given_by_rows, given_unless_refused, unless_by_rows, without_name}
use Rattle.b2_store.proofs.Naming.{names_left}

-- a store with other rows of those who stand inside, and of names
abbrev with_both : InsideRows → NameRows → StoreState → StoreState
with_both rows names s = record s { borrows = rows; names = names }

-- a store, and an answer
abbrev pub answered : Answer → StoreState → Gives StoreState
answered x s = record { after = s; answer = x }

-- PARTITIONS IN ORDER are each there once
abbrev AllAbove : ℕ → List ℕ → Type 0
AllAbove n [] = Unit {0}
AllAbove n (x ∷ xs) = (n < x) × AllAbove x xs

lower : (m n : ℕ) (xs : List ℕ) → m < n → AllAbove n xs → AllAbove m xs
lower m n [] less are = tt
lower m n (x ∷ xs) less are = let first = are.0 in (omega (arith, less, first), are.1)

among_above : (homes n : ℕ) (xs : List ℕ) → AllAbove n xs → AllAbove n (marked_among homes xs)
among_above homes n [] are = tt
among_above homes n (x ∷ xs) are = by (is_marked x homes) (among_above homes x xs are.1)
  where
    by : (b : Bool) → AllAbove x (marked_among homes xs) → AllAbove n ((if b then x ∷ [] else []) ++ marked_among homes xs)
    by true rest = (are.0, rest)
    by false rest = lower n x (marked_among homes xs) are.0 rest

marked_above : (homes : ℕ) → AllAbove 0 (homes_marked homes)
marked_above homes =
    among_above homes 0 all_partitions (omega arith, (omega arith, (omega arith, (omega arith, (omega arith, (omega arith, (omega arith, (omega arith, (omega arith, (omega arith, (omega arith, (omega arith, (omega arith, (omega arith, (omega arith, (omega arith, tt))))))))))))))))

-- GIVING BACK row by row
module _ (who : ℕ) (s : StoreState) where
  -- the rows of texts that aren't given back so far are as they were
  abbrev AreOld : InsideRows → List ℕ → Type 0
  AreOld rows [] = Unit {0}
  AreOld rows (h ∷ homes) = (row_of h rows ≡ row_of h s.borrows) × AreOld rows homes

  other_row : (h k : ℕ) (c : Option (List ℕ)) (rows : InsideRows) → h < k → row_of k (changed_at c (without who) h rows) ≡ row_of k rows
  other_row h k None rows less = refl
  other_row h k (Some parts) rows less =
      row_other (λ x. x == h) (λ x. x == k) (without who parts)
      (λ x is_h is_k. let one : x ≡ h = (unsigned_Decides x h).0 is_h in let two : x ≡ k = (unsigned_Decides x k).0 is_k in omega (arith, one, two, less)) rows

  still_old : (h n : ℕ) (c : Option (List ℕ)) (rows : InsideRows) (homes : List ℕ) → h < suc n → AllAbove n homes → AreOld rows homes → AreOld (changed_at c (without who) h rows) homes
  still_old h n c rows [] less above old = tt
  still_old h n c rows (k ∷ homes) less above old =
      let first = above.0 in
      (other_row h k c rows (omega (arith, less, first)) ∙ old.0, still_old h k c rows homes (omega (arith, less, first)) above.1 old.1)

  put_from : (h : ℕ) (c : Option (List ℕ)) (rows : InsideRows) (names : NameRows) → given_back_from who h c (with_both rows names s) ≡ with_both (changed_at c (without who) h rows) names s
  put_from h None rows names = refl
  put_from h (Some parts) rows names = refl

  backs : (n : ℕ) (homes : List ℕ) (rows : InsideRows) (names : NameRows) → AllAbove n homes → AreOld rows homes → back who homes s (with_both rows names s) ≡ with_both (given_back who homes rows) names s
  backs n [] rows names above old = refl
  backs n (h ∷ homes) rows names above old =
      ap (back who homes s) (put_from h (row_of h s.borrows) rows names)
      ∙ backs h homes (changed_at (row_of h s.borrows) (without who) h rows) names above.1 (still_old h h (row_of h s.borrows) rows homes (omega arith) above.1 old.1)
      ∙ ap (λ (c : Option (List ℕ)). with_both (given_back who homes (changed_at c (without who) h rows)) names s) (sym old.0)

  all_old : (homes : List ℕ) → AreOld s.borrows homes
  all_old [] = tt
  all_old (h ∷ homes) = (refl, all_old homes)

  given_with : (homes : ℕ) (names : NameRows) → back who (homes_marked homes) s (with_both s.borrows names s) ≡ with_both (given_back who (homes_marked homes) s.borrows) names s
  given_with homes names = backs 0 (homes_marked homes) s.borrows names (marked_above homes) (all_old (homes_marked homes))

  pub all_given : (homes : ℕ) (name : Option (List ℕ)) → back who (homes_marked homes) s (given_up who name s s) ≡ given who homes name s
  all_given homes name = ap (back who (homes_marked homes) s) (names_left who name s) ∙ given_with homes (without_name who name s.names)

  -- ENTERING AND LEAVING
  pub text_of_nobody : (name : List ℕ) (mark : ℕ) → holder_of s name ≡ None → ◌≡◌ {A = Gives StoreState} (record { after = s; answer = answer.NoPart }) (performs ((row (access.Enter name mark)).does disks who (holder_of s name)) s)
  text_of_nobody name mark none = sym (ap (λ (h : Option ℕ). performs (enters who name mark h) s) none)

  pub unmarked_text : (name : List ℕ) (mark g : ℕ) → holder_of s name ≡ Some g → mark_in mark (content s (object.Text g)) ≡ None
      → ◌≡◌ {A = Gives StoreState} (record { after = s; answer = answer.Refused P38_NO_DEFFN }) (performs ((row (access.Enter name mark)).does disks who (holder_of s name)) s)
  unmarked_text name mark g held none = sym (ap (λ (h : Option ℕ). performs (enters who name mark h) s) held ∙ ap (λ (o : Option Spot). performs (enters_at who name g o) s) none)

  stands : (name : List ℕ) (g : ℕ) (spot : Spot) (c : Option (List ℕ)) → ◌≡◌ {A = Gives StoreState} (record { after = standing.changed_at c (λ parts. parts ++ who ∷ []) g s; answer = answer.Entered g spot }) (performs (stands_inside who name g spot c) s)
  stands name g spot None = refl
  stands name g spot (Some parts) = refl

  pub entered_text : (name : List ℕ) (mark g : ℕ) (spot : Spot) → holder_of s name ≡ Some g → mark_in mark (content s (object.Text g)) ≡ Some spot
      → ◌≡◌ {A = Gives StoreState} (record { after = standing.entered who g s; answer = answer.Entered g spot }) (performs ((row (access.Enter name mark)).does disks who (holder_of s name)) s)
  entered_text name mark g spot held found =
      stands name g spot (content s (object.Borrow g)) ∙ sym (ap (λ (h : Option ℕ). performs (enters who name mark h) s) held ∙ ap (λ (o : Option Spot). performs (enters_at who name g o) s) found)

  leaves_by : (home : ℕ) (c : Option (List ℕ)) → gone (standing.changed_at c (without_last who) home s) ≡ performs (leaves who home c) s
  leaves_by home None = refl
  leaves_by home (Some parts) = refl

  pub left_text : (home : ℕ) → gone (standing.left who home s) ≡ performs ((row (access.Leave home)).does disks who None) s
  left_text home = leaves_by home (content s (object.Borrow home))

  pub dropped_texts : (homes : ℕ) → gone (standing.given_back who (homes_marked homes) s) ≡ performs ((row (access.Drop homes)).does disks who None) s
  dropped_texts homes = ap gone (back_by_rows who (homes_marked homes) s) ∙ sym (drops_first who (homes_marked homes) s ∙ ap gone (given_with homes s.names))

  -- EDITS: what is done to the text, and then given
  module _ (homes : ℕ) where
    abbrev then_given : Option (List ℕ) → Gives StoreState → Gives StoreState
    then_given name x = record { after = given_unless_refused who homes name x.answer x.after; answer = x.answer }

    stays : then_given None (performs (edits who 0 (stays_text who 0)) s) ≡ performs (edits who homes (stays_text who homes)) s
    stays = sym (edits_first who homes (stays_text who homes) s (refl, refl) ∙ ap gone (all_given homes None))

    becomes : (t : TextState) → then_given None (performs (edits who 0 (becomes_text who 0 t)) s) ≡ performs (edits who homes (becomes_text who homes t)) s
    becomes t = sym (edits_first who homes (becomes_text who homes t) s (refl, refl) ∙ ap (λ (v : StoreState). gone (record v { texts = with_row who v.texts t })) (all_given homes None))

    puts_given : (n : ℕ) (atoms : List ℕ) (t : Option TextState) → then_given None (performs (puts_atoms who 0 n atoms t) s) ≡ performs (puts_atoms who homes n atoms t) s
    puts_given n atoms None = stays
    puts_given n atoms (Some t) = by (nat_lt t.area (size_of (with_line n atoms t.lines)))
      where
        new : TextState
        new = record t { lines = with_line n atoms t.lines }

        by : (full : Bool) → then_given None (performs (if full then Refuse A01_TEXT_AREA else edits who 0 (becomes_text who 0 new)) s) ≡ performs (if full then Refuse A01_TEXT_AREA else edits who homes (becomes_text who homes new)) s
        by true = refl
        by false = becomes new

    erases_given : (from to : ℕ) (t : Option TextState) → then_given None (performs (erases who 0 from to t) s) ≡ performs (erases who homes from to t) s
    erases_given from to None = stays
    erases_given from to (Some t) = becomes (record t { lines = without_lines from to t.lines })

    clears_given : (name : Option (List ℕ)) → then_given name (performs (clears who 0 None) s) ≡ performs (clears who homes name) s
    clears_given name =
        sym (clears_first who homes name s ∙ ap (λ (w : StoreState). performs_on (clears_own who homes name) s w) (all_given homes name) ∙ by (content s (object.Text who)))
      where
        both : (t : TextState) (c : Option VarsState) → performs_on (clears_both who homes name t c) s (given who homes name s) ≡ then_given name (performs (clears_both who 0 None t c) s)
        both t None = refl
        both t (Some v) = refl

        by : (t : Option TextState) → performs_on (clears_text who homes name t) s (given who homes name s) ≡ then_given name (performs (clears_text who 0 None t) s)
        by None = refl
        by (Some t) = both t (content s (object.Globals who))

    module _ (addr : List ℕ) (declared : Option (List ℕ)) (made : List ℕ → TextState → Result TextState ℕ) where
      nothing_loaded : then_given declared (performs (loads_nothing who 0 addr None) s) ≡ performs (loads_text who homes addr declared made [] None) s
      nothing_loaded = sym (loads_first who homes addr declared (loads_nothing who homes addr declared) s (refl, refl) ∙ ap gone (all_given homes declared))

      loads_made : (r : Result TextState ℕ) → then_given declared (performs (loads who 0 addr None r) s) ≡ performs (loads who homes addr declared r) s
      loads_made (Ok t) = sym (loads_first who homes addr declared (loads_lines who homes addr declared t) s (refl, refl) ∙ ap (λ (v : StoreState). gone (record v { texts = with_row who v.texts t })) (all_given homes declared))
      loads_made (Err code) = refl

      loads_into : (image : List ℕ) (t : Option TextState) → then_given declared (performs (loads_text who 0 addr None made image t) s) ≡ performs (loads_text who homes addr declared made image t) s
      loads_into image None = nothing_loaded
      loads_into image (Some t) = loads_made (made image t)

      loads_given : (image : Option (List ℕ)) → then_given declared (performs (loads_from who 0 addr None made image) s) ≡ performs (loads_from who homes addr declared made image) s
      loads_given None = nothing_loaded
      loads_given (Some image) = loads_into image (content s (object.Text who))

    -- as the functions end
    pub line_put : (n : ℕ) (atoms : List ℕ) (m : StoreState) (x : Answer) → record { after = m; answer = x } ≡ performs ((row (access.PutLine n (Some atoms) 0)).does disks who None) s
        → ◌≡◌ {A = Gives StoreState} (record { after = giving.given_unless_refused who homes None x m; answer = x }) (performs ((row (access.PutLine n (Some atoms) homes)).does disks who None) s)
    line_put n atoms m x is = ap (answered x) (unless_by_rows who homes None x m) ∙ ap (then_given None) is ∙ puts_given n atoms (content s (object.Text who))

    pub lines_erased : (from to : ℕ) (m : StoreState) → gone m ≡ performs ((row (access.Erase from to 0)).does disks who None) s
        → gone (standing.given_back who (homes_marked homes) m) ≡ performs ((row (access.Erase from to homes)).does disks who None) s
    lines_erased from to m is = ap gone (back_by_rows who (homes_marked homes) m) ∙ ap (then_given None) is ∙ erases_given from to (content s (object.Text who))

    pub all_cleared : (name : Option (List ℕ)) (m : StoreState) → gone m ≡ performs ((row (access.ClearAll None 0)).does disks who None) s
        → gone (giving.given who homes name m) ≡ performs ((row (access.ClearAll name homes)).does disks who None) s
    all_cleared name m is = ap gone (given_by_rows who homes name m) ∙ ap (then_given name) is ∙ clears_given name

    pub program_loaded : (addr name : List ℕ) (replace : Bool) (declared : Option (List ℕ)) (m : StoreState) (x : Answer) → record { after = m; answer = x } ≡ performs ((row (access.LoadProgram addr name replace None 0)).does disks who None) s
        → ◌≡◌ {A = Gives StoreState} (record { after = giving.given_unless_refused who homes declared x m; answer = x }) (performs ((row (access.LoadProgram addr name replace declared homes)).does disks who None) s)
    program_loaded addr name replace declared m x is =
        ap (answered x) (unless_by_rows who homes declared x m) ∙ ap (then_given declared) is ∙ loads_given addr declared (disks.load_program name replace) (content s (object.Platter addr))

  -- LINES AND `@` VARIABLES GO, where the text is listed
  cleared_both : (t : TextState) (c : Option VarsState) → gone (globals_cleared_at c who (put (object.Text who) (no_lines t) s)) ≡ performs (clears_both who 0 None t c) s
  cleared_both t None = refl
  cleared_both t (Some v) = refl

  cleared_listed : (c : Option TextState) → is_some c ≡ true → gone (globals_cleared who (text_cleared_at c who s)) ≡ performs (clears_text who 0 None c) s
  cleared_listed None there = let never : false ≡ true = there in cc
  cleared_listed (Some t) there = cleared_both t (content s (object.Globals who))

  pub own_cleared : is_some (content s (object.Text who)) ≡ true → gone (globals_cleared who (text_cleared who s)) ≡ performs ((row (access.ClearAll None 0)).does disks who None) s
  own_cleared there = cleared_listed (content s (object.Text who)) there

  cleared_unlisted : (c : Option TextState) → is_some c ≡ false → gone (text_cleared_at c who s) ≡ performs (clears_text who 0 None c) s
  cleared_unlisted None none = refl
  cleared_unlisted (Some t) none = let never : true ≡ false = none in cc

  pub own_unlisted : is_some (content s (object.Text who)) ≡ false → gone (text_cleared who s) ≡ performs ((row (access.ClearAll None 0)).does disks who None) s
  own_unlisted none = cleared_unlisted (content s (object.Text who)) none
