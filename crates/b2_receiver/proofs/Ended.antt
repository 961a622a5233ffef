-- What an assignment left and how it ended.
use Rattle.std.proofs.Common.{◌≡◌, ◌∙◌, ℕ, ◌||◌, Bool, true, false, Option, None, Some, Result, Ok, Err, refl, sym, ap, subst, true≢false}
use Rattle.std.specs.Prelude.{IfOk, OnOk, OnErr, if◌then◌else◌}
use Rattle.b2_base.specs.declared.codes.Fault.{Fault}
use Rattle.b2_base.specs.declared.codes.Fault.TheVariants as fault
use Rattle.b2_vars.specs.Answers.{AnswersOrFails}
use Rattle.b2_vars.specs.Tables.{VarsState}
use Rattle.b2_vars.specs.Assigned.{Assigned}
use Rattle.b2_receiver.specs.Assigning.{AssignsAs, Ends, EndsWith, unless_refused}
use Rattle.b2_expr.specs.Workspace.{WorkState, among, counts_as_reached, on_globals, on_own}

-- a call that leaves something else, or refuses
pub ends_by : (o : Option ℕ) (old after new : VarsState) (r : Result (Unit {0}) Fault) → OnOk r (new ≡ after) → AnswersOrFails o r → OnErr r (new ≡ old)
    → Ends (unless_refused o old (record { vars = after; code = None })) old new r
ends_by o old after new (Ok done) ok coded err =
    subst (λ (c : Option ℕ). Ends (unless_refused c old (record { vars = after; code = None })) old new (Ok done)) (sym coded) (refl, ok)
ends_by o old after new (Err (fault.Code code)) ok coded err =
    subst (λ (c : Option ℕ). Ends (unless_refused c old (record { vars = after; code = None })) old new (Err (fault.Code code))) (sym coded) (refl, err)
ends_by o old after new (Err fault.NoMemory) ok coded err = err

-- as what is left and the code
pub ended_so : (a : Assigned) (old new : VarsState) (r : Result (Unit {0}) Fault) (code : Option ℕ) → Ends a old new r → EndsWith r code → record { vars = new; code = code } ≡ a
ended_so a old new (Ok done) code is ends = ap (λ (v : VarsState). record { vars = v; code = code }) is.1 ∙ ap (λ (o : Option ℕ). record { vars = a.vars; code = o }) (ends ∙ sym is.0)
ended_so a old new (Err (fault.Code c)) code is ends = ap (λ (v : VarsState). record { vars = v; code = code }) is.1 ∙ ap (λ (o : Option ℕ). record { vars = a.vars; code = o }) (ends ∙ sym is.0)
ended_so a old new (Err fault.NoMemory) code is ends = absurd ends

-- and of a workspace
pub worked_so : (a : Assigned) (w : WorkState) (new : VarsState) (r : Result (Unit {0}) Fault) (code : Option ℕ) → Ends a w.own new r → EndsWith r code → record { work = record w { own = new }; code = code } ≡ on_own a w
worked_so a w new r code is ends = ap (λ (b : Assigned). on_own b w) (ended_so a w.own new r code is ends)

-- and among the `@` variables, with whether a receiver was reached
pub lent_by : (a b : Assigned) (w : WorkState) (reached : Bool) → reached ≡ (w.globals.reached || counts_as_reached b.code) → b ≡ a
    → record { work = record w { globals = record { vars = Some b.vars; reached = reached } }; code = b.code } ≡ on_globals a w
lent_by a b w reached is same =
    ap (λ (r : Bool). record { work = record w { globals = record { vars = Some b.vars; reached = r } }; code = b.code }) is ∙ ap (λ (x : Assigned). on_globals x w) same

pub lent_so : (a : Assigned) (w : WorkState) (old new : VarsState) (reached : Bool) (r : Result (Unit {0}) Fault) (code : Option ℕ)
    → Ends a old new r → EndsWith r code → reached ≡ (w.globals.reached || counts_as_reached code)
    → record { work = record w { globals = record { vars = Some new; reached = reached } }; code = code } ≡ on_globals a w
lent_so a w old new reached r code is ends marks = lent_by a (record { vars = new; code = code }) w reached marks (ended_so a old new r code is ends)

-- and so wherever a change of variables assigns
pub own_does : {E : Type 0} → (does : VarsState → Assigned) (changes : VarsState → Result (Unit {0}) Fault → VarsState → Type 0) (w : WorkState) (new : VarsState) (global : Bool) (r : Result (Unit {0}) Fault) (ended : Result (Option ℕ) E)
    → global ≡ false → AssignsAs does changes → changes w.own r new → IfOk ended (λ code. EndsWith r code)
    → IfOk ended (λ code. record { work = record w { own = new }; code = code } ≡ among global does w)
own_does does changes w new true r ended own is met ends = absurd (true≢false own)
own_does does changes w new false r (Ok code) own is met ends = worked_so (does w.own) w new r code (is w.own r new met) ends
own_does does changes w new false r (Err e) own is met ends = ends

pub lent_does : (does : VarsState → Assigned) (changes : VarsState → Result (Unit {0}) Fault → VarsState → Type 0) (w : WorkState) (old new : VarsState) (global found reached : Bool) (r : Result (Unit {0}) Fault) (code : Option ℕ)
    → global ≡ true → found ≡ true → AssignsAs does changes → changes old r new → EndsWith r code → reached ≡ (w.globals.reached || counts_as_reached code)
    → record { work = record w { globals = record { vars = if found then Some new else None; reached = reached } }; code = code }
    ≡ among global does (record w { globals = record { vars = if found then Some old else None; reached = w.globals.reached } })
lent_does does changes w old new false found reached r code lent there is met ends marks = absurd (true≢false (sym lent))
lent_does does changes w old new true false reached r code lent there is met ends marks = absurd (true≢false (sym there))
lent_does does changes w old new true true reached r code lent there is met ends marks = lent_so (does old) w old new reached r code (is old r new met) ends marks
