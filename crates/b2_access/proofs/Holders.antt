-- Taking and freeing devices, device by device, giving up a name and giving texts back: what a task looks at is that of a store as it was,
-- and what it puts goes into another.
use Rattle.std.specs.Prelude.{◌≡◌, ℕ, Bool, true, false, List, [], ◌∷◌, map, Option, Some, None, refl, if◌then◌else◌}
use Rattle.std.proofs.Common.{ap, inl, inr, ◌∙◌}
use Rattle.std.proofs.lemmas.Bool.{false≢true}
use Rattle.b2_access.specs.declared.objects.Object.{Object}
use Rattle.b2_access.specs.declared.objects.Object.TheVariants as object
use Rattle.b2_access.specs.declared.accesses.Answer.{Answer}
use Rattle.b2_access.specs.declared.accesses.Answer.TheVariants as answer
use Rattle.b2_access.specs.AccessRows.{gives_up, gives_up_if, is_held_by, gives_back, gives_back_from, EditTask, LoadTask, clears, clears_and_gives_back, clears_own, disk_and_name, drops, drops_no_more, edits, loads_and_gives_back, loads_and_gives_up}
use Rattle.b2_access.specs.AnswerKinds.{is_done}
use Rattle.b2_access.specs.Answering.{TellsOnly}
use Rattle.b2_access.specs.Borrowers.{without, homes_marked}
use Rattle.b2_access.specs.Reach.{objects_named, borrows}
use Rattle.b2_access.specs.Serving.{performs, put_each}
use Rattle.b2_access.specs.Sharing.{Gives}
use Rattle.b2_access.specs.Store.{StoreState, ContentOf, IsIn, content, put}
use Rattle.b2_access.specs.Task.{AreIn, Put, Task, Look, Tell, Refuse, Missing, also_puts, put_wider, wider, in_left, in_right}
use Rattle.b2_access.proofs.RowAnswers.{of_giving_back, of_text}

abbrev pub performs_on : {reached written : List Object} → Task reached written → (looked onto : StoreState) → Gives StoreState
performs_on (Look o there next) s w = performs_on (next (content s o)) s w
performs_on (Tell puts x) s w = record { after = put_each puts w; answer = x }
performs_on (Refuse c) s w = record { after = w; answer = answer.Refused c }
performs_on Missing s w = record { after = w; answer = answer.NoPart }

pub performs_same : {ts ws : List Object} (t : Task ts ws) (s : StoreState) → performs t s ≡ performs_on t s s
performs_same (Look o there next) s = performs_same (next (content s o)) s
performs_same (Tell puts x) s = refl
performs_same (Refuse c) s = refl
performs_same Missing s = refl

each_wider : {ws : List Object} (o : Object) (ps : List (Put ws)) (w : StoreState) → put_each (map (put_wider o) ps) w ≡ put_each ps w
each_wider o [] w = refl
each_wider o (p ∷ ps) w = each_wider o ps (put p.target p.value w)

pub wider_same : {ts ws : List Object} (o : Object) (t : Task ts ws) (s w : StoreState) → performs_on (wider o t) s w ≡ performs_on t s w
wider_same o (Look x there next) s w = wider_same o (next (content s x)) s w
wider_same o (Tell puts x) s w = ap (gives x) (each_wider o puts w)
  where
    gives : Answer → StoreState → Gives StoreState
    gives x after = record { after = after; answer = x }
wider_same o (Refuse c) s w = refl
wider_same o Missing s w = refl

pub also_first : {ts ws : List Object} (o : Object) (there : IsIn o ws) (c : ContentOf o) (t : Task ts ws) (s w : StoreState) → TellsOnly is_done t
    → performs_on (also_puts o there c t) s w ≡ performs_on t s (put o c w)
also_first o there c (Look x at next) s w told = also_first o there c (next (content s x)) s w (told (content s x))
also_first o there c (Tell puts x) s w told = refl
also_first o there c (Refuse code) s w told = absurd (false≢true told)
also_first o there c Missing s w told = absurd (false≢true told)

-- a name is given up before the rest
abbrev pub given_up : ℕ → Option (List ℕ) → StoreState → StoreState → StoreState
given_up who None s w = w
given_up who (Some name) s w = if is_held_by who (content s (object.Name name)) then put (object.Name name) None w else w

pub gives_up_first : {ts ws : List Object} (who : ℕ) (name : Option (List ℕ)) (looked : AreIn (objects_named name) ts) (told : AreIn (objects_named name) ws) (t : Task ts ws) (s w : StoreState) → TellsOnly is_done t
    → performs_on (gives_up who name looked told t) s w ≡ performs_on t s (given_up who name s w)
gives_up_first who None looked told t s w h = refl
gives_up_first {ts} {ws} who (Some name) looked told t s w h = by (is_held_by who (content s (object.Name name)))
  where
    by : (own : Bool) → performs_on (gives_up_if {reached = ts} {written = ws} own name (told (object.Name name) (inl refl)) t) s w ≡ performs_on t s (if own then put (object.Name name) None w else w)
    by true = also_first (object.Name name) (told (object.Name name) (inl refl)) None t s w h
    by false = refl

-- and texts are given back before the rest
abbrev pub given_back_from : ℕ → ℕ → Option (List ℕ) → StoreState → StoreState
given_back_from who h None w = w
given_back_from who h (Some parts) w = put (object.Borrow h) (without who parts) w

abbrev pub given_back : ℕ → List ℕ → StoreState → StoreState → StoreState
given_back who [] s w = w
given_back who (h ∷ homes) s w = given_back who homes s (given_back_from who h (content s (object.Borrow h)) w)

pub gives_back_first : {ts ws : List Object} (who : ℕ) (homes : List ℕ) (looked : AreIn (borrows homes) ts) (told : AreIn (borrows homes) ws) (t : Task ts ws) (s w : StoreState) → TellsOnly is_done t
    → performs_on (gives_back who homes looked told t) s w ≡ performs_on t s (given_back who homes s w)
gives_back_first who [] looked told t s w h = refl
gives_back_first {ts} {ws} who (g ∷ homes) looked told t s w h = by (content s (object.Borrow g)) (gives_back who homes (λ o i. looked o (inr i)) (λ o i. told o (inr i)) t) rest (λ v. gives_back_first who homes (λ o i. looked o (inr i)) (λ o i. told o (inr i)) t s v h)
  where
    rest : TellsOnly is_done (gives_back who homes (λ o i. looked o (inr i)) (λ o i. told o (inr i)) t)
    rest = of_giving_back is_done who homes (λ o i. looked o (inr i)) (λ o i. told o (inr i)) t h

    by : (c : Option (List ℕ)) (x : Task ts ws) → TellsOnly is_done x → ((v : StoreState) → performs_on x s v ≡ performs_on t s (given_back who homes s v))
        → performs_on (gives_back_from who g (told (object.Borrow g) (inl refl)) x c) s w ≡ performs_on t s (given_back who homes s (given_back_from who g c w))
    by None x tells later = later w
    by (Some parts) x tells later = also_first (object.Borrow g) (told (object.Borrow g) (inl refl)) (without who parts) x s w tells ∙ later (put (object.Borrow g) (without who parts) w)

-- WHAT EDITS COME TO, and giving back: names are given up, texts given back, and then the rest is done
abbrev pub gone : StoreState → Gives StoreState
gone s = record { after = s; answer = answer.Done }

pub edits_first : (who homes : ℕ) (t : EditTask who homes) (s : StoreState) → TellsOnly is_done t → performs (edits who homes t) s ≡ performs_on t s (given_back who (homes_marked homes) s s)
edits_first who homes t s tells =
    performs_same (edits who homes t) s ∙ gives_back_first who (homes_marked homes) (λ o i. inr (inr (in_left o (borrows (homes_marked homes)) [] i))) (λ o i. inr i) t s s tells

pub clears_first : (who homes : ℕ) (name : Option (List ℕ)) (s : StoreState) → performs (clears who homes name) s ≡ performs_on (clears_own who homes name) s (given_back who (homes_marked homes) s (given_up who name s s))
clears_first who homes name s =
    let told = borrows (homes_marked homes) in
    let named = objects_named name in
    let own : TellsOnly is_done (clears_own who homes name) = of_text who homes name in
    performs_same (clears who homes name) s
    ∙ gives_up_first who name (λ o i. inr (inr (inr (in_right o told named i)))) (λ o i. inr (inr (in_right o told named i))) (clears_and_gives_back who homes name) s s
    (of_giving_back is_done who (homes_marked homes) (λ o i. inr (inr (inr (in_left o told named i)))) (λ o i. inr (inr (in_left o told named i))) (clears_own who homes name) own)
    ∙ gives_back_first who (homes_marked homes) (λ o i. inr (inr (inr (in_left o told named i)))) (λ o i. inr (inr (in_left o told named i))) (clears_own who homes name) s (given_up who name s s) own

pub loads_first : (who homes : ℕ) (addr : List ℕ) (declared : Option (List ℕ)) (t : LoadTask who homes addr declared) (s : StoreState) → TellsOnly is_done t
    → performs (loads_and_gives_up who homes addr declared t) s ≡ performs_on t s (given_back who (homes_marked homes) s (given_up who declared s s))
loads_first who homes addr declared t s tells =
    let told = borrows (homes_marked homes) in
    let named = objects_named declared in
    let rest = disk_and_name addr declared in
    performs_same (loads_and_gives_up who homes addr declared t) s
    ∙ gives_up_first who declared (λ o i. inr (inr (in_right o told rest (inr (inr i))))) (λ o i. inr (in_right o told named i)) (loads_and_gives_back who homes addr declared t) s s
    (of_giving_back is_done who (homes_marked homes) (λ o i. inr (inr (in_left o told rest i))) (λ o i. inr (in_left o told named i)) t tells)
    ∙ gives_back_first who (homes_marked homes) (λ o i. inr (inr (in_left o told rest i))) (λ o i. inr (in_left o told named i)) t s (given_up who declared s s) tells

pub drops_first : (who : ℕ) (homes : List ℕ) (s : StoreState) → performs (drops who homes) s ≡ gone (given_back who homes s s)
drops_first who homes s = performs_same (drops who homes) s ∙ gives_back_first who homes (λ o i. in_left o (borrows homes) [] i) (λ o i. i) (drops_no_more homes) s s (refl, refl)
