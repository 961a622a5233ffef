-- Whoever has a text keeps one over an access.
use Rattle.std.proofs.Common.{◌≡◌, ℕ, sym, subst}
use Rattle.std.specs.Prelude.{Result, Ok, Err, IfOk, OnOk}
use Rattle.b2_access.specs.Sharing.{Gives, KeepsListed, ServingOf}
use Rattle.b2_access.specs.Store.{StoreState}
use Rattle.b2_access.specs.declared.accesses.Access.{Access}
use Rattle.b2_access.specs.declared.accesses.Answer.{Answer}
use Rattle.b2_access.specs.declared.objects.Object.TheVariants as object
use Rattle.b2_world_tests.specs.Texts.{HasTexts, KeepsTexts}

pub texts_kept : (s t : StoreState) → KeepsTexts s t → HasTexts s → HasTexts t
texts_kept s t f h = (f 1 h.0, f 2 h.1)

pub served_kept : {M : Type 0} (store : M → StoreState) (serving : ServingOf M) → KeepsListed store serving → (who : ℕ) (a : Access) (m after : M) (x : Answer) → ◌≡◌ {A = Gives M} (record { after = after; answer = x }) (serving m who a)
    → KeepsTexts (store m) (store after)
served_kept {M} store serving law who a m after x is = subst (λ (g : Gives M). KeepsTexts (store m) (store g.after)) (sym is) (λ p. law who a m (object.Text p))

-- what holds where an answer is Ok
pub on_ok : {A E : Type 0} (r : Result A E) (P : A → Type 0) (Q : Type 0) → ((x : A) → P x → Q) → IfOk r P → OnOk r Q
on_ok (Ok x) P Q f h = f x h
on_ok (Err e) P Q f h = h
