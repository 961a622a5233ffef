-- An answer that stops an access, and a code, say nothing that would have to fit; and what a disk is asked fits where its work does.
use Rattle.std.proofs.Common.{◌≡◌, ℕ, List, Option, Some, None, Result, Ok, Err, refl, subst}
use Rattle.b2_access.specs.declared.accesses.Access.{Access}
use Rattle.b2_access.specs.declared.accesses.Access.TheVariants as access
use Rattle.b2_access.specs.declared.accesses.Answer.{Answer}
use Rattle.b2_access.specs.declared.accesses.Answer.TheVariants as answer
use Rattle.b2_access.specs.AccessRows.{becomes, changes_image, finds_in_image, says_or_refuses}
use Rattle.b2_access.specs.Fitting.{AnswerFits}
use Rattle.b2_access.specs.Serving.{performs, unless_stopped}
use Rattle.b2_access.specs.Sharing.{Gives}
use Rattle.b2_access.specs.Stopping.{stop_by}
use Rattle.b2_access.specs.Store.{StoreState}

wait_fits : (a : Access) (q : ℕ) → AnswerFits a (answer.Wait q)
wait_fits (access.DataNew addr old sectors name) q = tt
wait_fits (access.DataOpen addr name) q = tt
wait_fits (access.DataSave slot values) q = tt
wait_fits (access.DataEnd slot) q = tt
wait_fits (access.DataLoad slot kinds) q = tt
wait_fits (access.Skip slot way) q = tt
wait_fits (access.RawLoad addr at kinds) q = tt
wait_fits (access.BlockLoad addr at) q = tt
wait_fits a q = tt

lock_fits : (a : Access) (q : ℕ) → AnswerFits a (answer.Locked q)
lock_fits (access.DataNew addr old sectors name) q = tt
lock_fits (access.DataOpen addr name) q = tt
lock_fits (access.DataSave slot values) q = tt
lock_fits (access.DataEnd slot) q = tt
lock_fits (access.DataLoad slot kinds) q = tt
lock_fits (access.Skip slot way) q = tt
lock_fits (access.RawLoad addr at kinds) q = tt
lock_fits (access.BlockLoad addr at) q = tt
lock_fits a q = tt

code_fits : (a : Access) (c : ℕ) → AnswerFits a (answer.Refused c)
code_fits (access.DataNew addr old sectors name) c = tt
code_fits (access.DataOpen addr name) c = tt
code_fits (access.DataSave slot values) c = tt
code_fits (access.DataEnd slot) c = tt
code_fits (access.DataLoad slot kinds) c = tt
code_fits (access.Skip slot way) c = tt
code_fits (access.RawLoad addr at kinds) c = tt
code_fits (access.BlockLoad addr at) c = tt
code_fits a c = tt

-- so does what stops an access
pub stop_fits : (a : Access) (first inside : Option ℕ) (x : Answer) → stop_by first inside ≡ Some x → AnswerFits a x
stop_fits a (Some q) inside x is = let same : answer.Wait q ≡ x = cc in subst (AnswerFits a) same (wait_fits a q)
stop_fits a None (Some q) x is = let same : answer.Locked q ≡ x = cc in subst (AnswerFits a) same (lock_fits a q)
stop_fits a None None x is = cc

module _ (a : Access) (s : StoreState) where
  -- what fits unless the access is stopped fits
  pub unless_fits : (first inside : Option ℕ) (g : Gives StoreState) → AnswerFits a g.answer → AnswerFits a (unless_stopped (stop_by first inside) g s).answer
  unless_fits (Some q) inside g h = wait_fits a q
  unless_fits None (Some q) g h = lock_fits a q
  unless_fits None None g h = h

  -- what is made of an image, or looked for in it
  module _ (addr : List ℕ) (unlisted : Answer) (there : AnswerFits a unlisted) where
    pub change_fits : {New : Type 0} (image_of : New → List ℕ) (says : New → Answer) (made : List ℕ → Result New ℕ) (o : Option (List ℕ))
        → ((image : List ℕ) → o ≡ Some image → (n : New) → made image ≡ Ok n → AnswerFits a (says n))
        → AnswerFits a (performs (changes_image addr unlisted image_of says made o) s).answer
    change_fits image_of says made None each = there
    change_fits {New} image_of says made (Some image) each = by (made image) (λ n is. each image refl n is)
      where
        by : (r : Result New ℕ) → ((n : New) → r ≡ Ok n → AnswerFits a (says n)) → AnswerFits a (performs (becomes addr image_of says r) s).answer
        by (Ok n) one = one n refl
        by (Err code) one = code_fits a code

    pub finding_fits : {Found : Type 0} (says : Found → Answer) (finds : List ℕ → Result Found ℕ) (o : Option (List ℕ))
        → ((image : List ℕ) → o ≡ Some image → (f : Found) → finds image ≡ Ok f → AnswerFits a (says f))
        → AnswerFits a (performs (finds_in_image addr unlisted says finds o) s).answer
    finding_fits says finds None each = there
    finding_fits {Found} says finds (Some image) each = by (finds image) (λ f is. each image refl f is)
      where
        by : (r : Result Found ℕ) → ((f : Found) → r ≡ Ok f → AnswerFits a (says f)) → AnswerFits a (performs (says_or_refuses addr says r) s).answer
        by (Ok f) one = one f refl
        by (Err code) one = code_fits a code
