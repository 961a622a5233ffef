-- What is listed stays so: over an access, over a loan, and over several of them.
use Rattle.std.proofs.Common.{◌≡◌, ℕ, sym, subst}
use Rattle.std.specs.Prelude.{Option, Some, None}
use Rattle.b2_vars.specs.Globals.{Globals}
use Rattle.b2_vars.specs.Tables.{VarsState}
use Rattle.b2_access.specs.Contents.{put_listed}
use Rattle.b2_access.specs.Loans.{Loan, LoansGlobals, lender_at, with_globals_of}
use Rattle.b2_access.specs.Sharing.{Gives, KeepsListed, ServingOf}
use Rattle.b2_access.specs.Store.{StoreState}
use Rattle.b2_access.specs.declared.accesses.Access.{Access}
use Rattle.b2_access.specs.declared.accesses.Answer.{Answer}
use Rattle.b2_access.specs.declared.lending.At.{At}
use Rattle.b2_access.specs.declared.objects.Object.TheVariants as object
use Rattle.b2_machine.specs.Stays.{KeepsAll}

pub same_kept : (s : StoreState) → KeepsAll s s
same_kept s o h = h

pub both_kept : (s t u : StoreState) → KeepsAll s t → KeepsAll t u → KeepsAll s u
both_kept s t u f g o h = g o (f o h)

left_kept : (x : Option ℕ) (left : Option VarsState) (s : StoreState) → KeepsAll s (with_globals_of x left s)
left_kept None left s o h = h
left_kept (Some p) None s o h = h
left_kept (Some p) (Some w) s o h = put_listed (object.Globals p) o w s h

pub lent_kept : {M : Type 0} (store : M → StoreState) (lending : Loan M) → LoansGlobals store lending → (who home : ℕ) (whose : At) (m : M) (left : Globals) → KeepsAll (store m) (store (lending who home whose m left))
lent_kept store lending law who home whose m left = subst (KeepsAll (store m)) (sym (law who home whose m left)) (left_kept (lender_at home whose (store m)) left.vars (store m))

pub served_kept : {M : Type 0} (store : M → StoreState) (serving : ServingOf M) → KeepsListed store serving → (who : ℕ) (a : Access) (m after : M) (x : Answer) → ◌≡◌ {A = Gives M} (record { after = after; answer = x }) (serving m who a)
    → KeepsAll (store m) (store after)
served_kept {M} store serving law who a m after x is = subst (λ (g : Gives M). KeepsAll (store m) (store g.after)) (sym is) (λ o. law who a m o)
