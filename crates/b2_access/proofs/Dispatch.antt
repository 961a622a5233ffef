-- What comes of the statement at a place: what holds of each statement there holds of all; and it is what comes of the statement that
-- was found.
use Rattle.std.proofs.Common.{◌≡◌, ◌∙◌, ℕ, Bool, true, false, if◌then◌else◌, List, refl, sym, ap, Option, Some, None, Result, Ok, Err, IfOk, is_some}
use Rattle.b2_base.specs.declared.codes.TheConstants.{S26_PROGRAM_ONLY}
use Rattle.b2_flow.specs.declared.frame.Place.{Place}
use Rattle.b2_access.specs.Dispatch.{Here, dispatch, dispatch_at, here, permitted, units_on}
use Rattle.b2_access.specs.Lending.{SeenLent}
use Rattle.b2_access.specs.Placed.{Statement, line_named, statement_on, statement_placed}
use Rattle.b2_access.specs.declared.planned.Outcome.{Outcome}
use Rattle.b2_access.specs.declared.planned.Outcome.TheVariants as outcome
use Rattle.b2_access.specs.declared.private.Private.{Private}
use Rattle.b2_access.proofs.Choice.{either}

-- it holds where the partition is ready, or the statement is refused; and of what each statement does
at_unit : {A : Type 0} (refused : ℕ → Bool → Bool) (stops : Outcome → A) (does : Statement → Here → A) (F : A → Type 0) → F (stops outcome.Ready) → F (stops (outcome.Failed S26_PROGRAM_ONLY))
    → (o : Option Statement) (h : Here) → ((u : Statement) → F (does u h)) → F (dispatch_at refused stops does o h)
at_unit refused stops does F ready unmet None h each = ready
at_unit refused stops does F ready unmet (Some u) h each = either F (refused u.row (is_some h.place.line)) _ _ unmet (each u)

at_place : {A : Type 0} (refused : ℕ → Bool → Bool) (stops : Outcome → A) (does : Statement → Here → A) (F : A → Type 0) → F (stops outcome.Ready) → F (stops (outcome.Failed S26_PROGRAM_ONLY))
    → (o : Option Place) (me : Private) (s : SeenLent) → ((p : Place) → o ≡ Some p → (u : Statement) → F (does u (here p me s))) → F (dispatch refused stops does o me s)
at_place refused stops does F ready unmet None me s each = ready
at_place refused stops does F ready unmet (Some p) me s each = at_unit refused stops does F ready unmet (statement_placed p me.immediate s.home.lines) (here p me s) (each p refl)

pub each_dispatch : {A : Type 0} (refused : ℕ → Bool → Bool) (stops : Outcome → A) (does : Statement → Here → A) (me : Private) (s : SeenLent) (F : A → Type 0)
    → F (stops outcome.Ready) → F (stops (outcome.Failed S26_PROGRAM_ONLY)) → ((p : Place) → me.place ≡ Some p → (u : Statement) → F (does u (here p me s))) → F (dispatch refused stops does me.place me s)
each_dispatch refused stops does me s F ready unmet each = at_place refused stops does F ready unmet me.place me s each

-- where the statement at the place was found
pub found_dispatch : {A : Type 0} (refused : ℕ → Bool → Bool) (stops : Outcome → A) (does : Statement → Here → A) (p : Place) (me : Private) (s : SeenLent) (u : Statement)
    → me.place ≡ Some p → Some u ≡ statement_placed p me.immediate s.home.lines → permitted refused stops does u (here p me s) ≡ dispatch refused stops does me.place me s
found_dispatch refused stops does p me s u is is_unit =
    ap (λ (o : Option Statement). dispatch_at refused stops does o (here p me s)) is_unit ∙ sym (ap (λ (o : Option Place). dispatch refused stops does o me s) is)

-- where its line was looked up
pub line_dispatch : {A : Type 0} (refused : ℕ → Bool → Bool) (stops : Outcome → A) (does : Statement → Here → A) (p : Place) (me : Private) (s : SeenLent) (line : Option (List ℕ))
    → me.place ≡ Some p → line_named me.immediate s.home.lines p.line ≡ line
    → dispatch_at refused stops does (statement_on line p.unit) (record { place = p; units = units_on line }) ≡ dispatch refused stops does me.place me s
line_dispatch refused stops does p me s line is is_line =
    sym (ap (λ (l : Option (List ℕ)). dispatch_at refused stops does (statement_on l p.unit) (record { place = p; units = units_on l })) is_line)
    ∙ sym (ap (λ (o : Option Place). dispatch refused stops does o me s) is)

-- and may stand there, or not
chosen : {A : Type 0} (b c : Bool) (x y : A) → b ≡ c → (if b then x else y) ≡ (if c then x else y)
chosen b c x y is = ap (λ (a : Bool). if a then x else y) is

pub may_stand : {A : Type 0} (refused : ℕ → Bool → Bool) (stops : Outcome → A) (does : Statement → Here → A) (u : Statement) (h : Here) → refused u.row (is_some h.place.line) ≡ false
    → permitted refused stops does u h ≡ does u h
may_stand refused stops does u h is = chosen (refused u.row (is_some h.place.line)) false _ _ is

pub may_not_stand : {A : Type 0} (refused : ℕ → Bool → Bool) (stops : Outcome → A) (does : Statement → Here → A) (u : Statement) (h : Here) → refused u.row (is_some h.place.line) ≡ true
    → permitted refused stops does u h ≡ stops (outcome.Failed S26_PROGRAM_ONLY)
may_not_stand refused stops does u h is = chosen (refused u.row (is_some h.place.line)) true _ _ is

-- an answer that isn't want of memory
pub ok_map : {A E : Type 0} (r : Result A E) (P Q : A → Type 0) → ((x : A) → P x → Q x) → IfOk r P → IfOk r Q
ok_map (Ok x) P Q f h = f x h
ok_map (Err e) P Q f h = h
