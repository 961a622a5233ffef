-- A unit by its row and its tree on its line, and what it does.
use Rattle.std.proofs.Common.{◌≡◌, ℕ, ◌==◌, ◌||◌, Bool, true, false, List, refl, ap, subst, sym, ◌∙◌, Option, Some, None, Result, IfOk, is_some, if◌then◌else◌}
use Rattle.std.specs.Option.{option_map_or}
use Rattle.b2_atom.specs.Tree.{Trees}
use Rattle.b2_atom.specs.declared.rows.TheConstants as row
use Rattle.b2_access.specs.Borrowers.{homes_entered}
use Rattle.b2_access.specs.Dispatch.{Here, permitted}
use Rattle.b2_access.specs.Lending.{SeenLent}
use Rattle.b2_access.specs.Placed.{Statement}
use Rattle.b2_access.specs.Planning.{Planning, asks, done, stays}
use Rattle.b2_flow.specs.declared.frame.Place.{Place}
use Rattle.b2_vars.specs.Globals.{Globals}
use Rattle.b2_access.specs.declared.accesses.Access.{Access}
use Rattle.b2_access.specs.declared.planned.Outcome.{Outcome}
use Rattle.b2_access.specs.declared.planned.Planned.TheVariants as planned
use Rattle.b2_access.specs.declared.private.Private.{Private}
use Rattle.b2_access.proofs.Dispatch.{may_stand}
use Rattle.b2_stmt.specs.Asked.{carried, is_still, still}
use Rattle.b2_flow.specs.Stacks.{entered_last}
use Rattle.b2_stmt.specs.Borrowing.{asks_of_others, asks_to_leave}
use Rattle.b2_stmt.specs.Calls.{goes_back}
use Rattle.b2_stmt.specs.declared.asked.Asked.{Asked}
use Rattle.b2_stmt.specs.Clearing.{asked_access, asks_access}
use Rattle.b2_stmt.specs.Marked.{ends_with_args, takes_args}
use Rattle.b2_stmt.specs.Plan.{acts, acts_unless, around, asked_by, by_access, does, is_refused, plans_asked, stops}

otherwise : {A : Type 0} (b : Bool) (x y : A) → b ≡ false → (if b then x else y) ≡ y
otherwise b x y is = ap (λ (c : Bool). if c then x else y) is

-- a statement that changes nothing, a DEFFN', and any other
chosen : {A : Type 0} (b : Bool) (x y : A) → b ≡ true → (if b then x else y) ≡ x
chosen b x y is = ap (λ (c : Bool). if c then x else y) is

pub still_there : (u : Statement) (h : Here) (me : Private) (s : SeenLent) → is_still u.row ≡ true → acts u h me s ≡ done s (stays me (still u.row u.tree h (around me s) s.home.lines))
still_there u h me s is = chosen (is_still u.row) _ _ is

pub taken_there : (u : Statement) (h : Here) (me : Private) (s : SeenLent) → is_still u.row ≡ false → u.row ≡ row.DEFFN_MARKED → acts u h me s ≡ ends_with_args (takes_args u.tree me s) me s
taken_there u h me s is same =
    let e : (u.row == row.DEFFN_MARKED) ≡ true = ap (λ (r : ℕ). r == row.DEFFN_MARKED) same in
    otherwise (is_still u.row) _ _ is ∙ chosen (u.row == row.DEFFN_MARKED) _ _ e

pub asked_there : (u : Statement) (h : Here) (me : Private) (s : SeenLent) → is_still u.row ≡ false → (u.row == row.DEFFN_MARKED) ≡ false → acts u h me s ≡ plans_asked (asked_by u h me s) h.place me s
asked_there u h me s is other = otherwise (is_still u.row) _ _ is ∙ otherwise (u.row == row.DEFFN_MARKED) _ _ other

-- RETURN, which changes the frames or asks for the text to be left that its call entered
pub returned_there : (u : Statement) (h : Here) (me : Private) (s : SeenLent) → u.row ≡ row.RETURN → acts u h me s ≡ by_access (asks_to_leave (entered_last me.stack)) s me (goes_back me)
returned_there u h me s is = ap (λ (r : ℕ). acts (record { row = r; tree = u.tree }) h me s) is

-- a statement that asks for no access by its row
first_no : (a b : Bool) → (a || b) ≡ false → a ≡ false
first_no true b is = cc
first_no false b is = refl

second_no : (a b : Bool) → (a || b) ≡ false → b ≡ false
second_no true b is = cc
second_no false b is = is

pub asks_nothing : (r : ℕ) (t : Trees) (declared : Option (List ℕ)) (homes : ℕ) → asks_access r ≡ false → asked_access r t declared homes ≡ None
asks_nothing r t declared homes is =
    let clear = r == row.CLEAR in
    let lines = r == row.CLEAR_P in
    let deffn = r == row.DEFFN in
    let select = r == row.SELECT_PART in
    let three : (clear || lines || deffn) ≡ false = first_no (clear || lines || deffn) select is in
    let two : (clear || lines) ≡ false = first_no (clear || lines) deffn three in
    otherwise clear _ _ (first_no clear lines two)
    ∙ otherwise lines _ _ (second_no clear lines two)
    ∙ otherwise deffn _ _ (second_no (clear || lines) deffn three)
    ∙ otherwise select _ _ (second_no (clear || lines || deffn) select is)

pub none_planned : (u : Statement) (h : Here) (me : Private) (s : SeenLent) → is_refused u.row (is_some h.place.line) ≡ false → asked_access u.row u.tree me.declared (homes_entered me.stack) ≡ None
    → permitted is_refused (stops me s) (does me s) u h ≡ acts u h me s
none_planned u h me s allowed none =
    may_stand is_refused (stops me s) (does me s) u h allowed ∙ ap (λ (o : Option Access). acts_unless o u h me s) none

pub quiet_there : (u : Statement) (h : Here) (me : Private) (s : SeenLent) → is_refused u.row (is_some h.place.line) ≡ false → asks_access u.row ≡ false
    → permitted is_refused (stops me s) (does me s) u h ≡ acts u h me s
quiet_there u h me s allowed quiet = none_planned u h me s allowed (asks_nothing u.row u.tree me.declared (homes_entered me.stack) quiet)

-- and one that asks for one
pub access_planned : (u : Statement) (h : Here) (me : Private) (s : SeenLent) (a : Access) → is_refused u.row (is_some h.place.line) ≡ false → asked_access u.row u.tree me.declared (homes_entered me.stack) ≡ Some a
    → permitted is_refused (stops me s) (does me s) u h ≡ asks s me a
access_planned u h me s a allowed is =
    may_stand is_refused (stops me s) (does me s) u h allowed ∙ ap (λ (o : Option Access). acts_unless o u h me s) is

-- what is asked of the private state is carried out, unless it asks for the text of another
pub planned_asked : {E : Type 0} (r : Result Outcome E) (access : Option Access) (after me stood : Private) (s : SeenLent) (left : Globals) (x y : Asked) (p : Place) → left ≡ s.globals → stood ≡ me → x ≡ y
    → ((t : SeenLent) → IfOk r (λ o. ◌≡◌ {A = Planning} (record { me = after; globals = t.globals; planned = option_map_or planned.Ask access (planned.Done o) }) (by_access (asks_of_others x p stood s.own.lines s.home.lines) t stood (carried x p stood s.own.lines s.home.lines))))
    → IfOk r (λ o. ◌≡◌ {A = Planning} (record { me = after; globals = left; planned = option_map_or planned.Ask access (planned.Done o) }) (plans_asked y p me s))
planned_asked r access after me stood s left x y p same_left same_me same h =
    let A : Globals → Asked → Private → Type 0 = λ g q m. IfOk r (λ o. ◌≡◌ {A = Planning} (record { me = after; globals = g; planned = option_map_or planned.Ask access (planned.Done o) }) (plans_asked q p m s)) in
    subst (λ (g : Globals). A g y me) (sym same_left) (subst (λ (m : Private). A s.globals y m) same_me (subst (λ (q : Asked). A s.globals q stood) same (h s)))
