-- What is given where an access was served, by its answer: what became of the image that it changes, or what was found in one.
use Rattle.std.proofs.Common.{◌≡◌, ℕ, false, List, Option, Some, None, Result, Ok, Err, refl, sym, ap, subst, ◌∙◌}
use Rattle.std.specs.Option.{option_map}
use Rattle.b2_access.specs.declared.accesses.Answer.{Answer}
use Rattle.b2_access.specs.declared.objects.Object.TheVariants as object
use Rattle.b2_access.specs.AccessRows.{becomes, changes_image, finds_in_image, says_or_refuses}
use Rattle.b2_access.specs.AnswerKinds.{stops}
use Rattle.b2_access.specs.Contents.{content_same}
use Rattle.b2_access.specs.Serving.{performs, unless_stopped}
use Rattle.b2_access.specs.Sharing.{Gives}
use Rattle.b2_access.specs.Stopping.{stop_by}
use Rattle.b2_access.specs.Store.{StoreState, content}

-- an image has become another one, and something of that was told
pub record Became {New : Type 0} (addr : List ℕ) (image_of : New → List ℕ) (says : New → Answer) (made : Result New ℕ) (g : Gives StoreState) : Type 0 where
  pub new : New
  pub is : made ≡ Ok new
  pub told : g.answer ≡ says new
  pub there : content g.after (object.Platter addr) ≡ Some (image_of new)

-- something was found in an image, and told
pub record WasFound {Found : Type 0} (says : Found → Answer) (finds : Result Found ℕ) (g : Gives StoreState) : Type 0 where
  pub found : Found
  pub is : finds ≡ Ok found
  pub told : g.answer ≡ says found

module _ (s : StoreState) (addr image : List ℕ) (there : content s (object.Platter addr) ≡ Some image) (unlisted : Answer) where
  module _ {New : Type 0} (image_of : New → List ℕ) (says : New → Answer) where
    became : (r : Result New ℕ) → stops (performs (becomes addr image_of says r) s).answer ≡ false → Became addr image_of says r (performs (becomes addr image_of says r) s)
    became (Ok n) h = record { new = n; is = refl; told = refl; there = content_same (object.Platter addr) (image_of n) s ∙ ap (option_map (λ _. image_of n)) there }
    became (Err code) h = cc

    changed : (made : List ℕ → Result New ℕ) (o : Option (List ℕ)) → o ≡ Some image → stops (performs (changes_image addr unlisted image_of says made o) s).answer ≡ false
        → Became addr image_of says (made image) (performs (changes_image addr unlisted image_of says made o) s)
    changed made o is = subst (λ (x : Option (List ℕ)). stops (performs (changes_image addr unlisted image_of says made x) s).answer ≡ false → Became addr image_of says (made image) (performs (changes_image addr unlisted image_of says made x) s)) (sym is) (became (made image))

    pub changed-by : (made : List ℕ → Result New ℕ) (first inside : Option ℕ)
        → stops (unless_stopped (stop_by first inside) (performs (changes_image addr unlisted image_of says made (content s (object.Platter addr))) s) s).answer ≡ false
        → Became addr image_of says (made image) (unless_stopped (stop_by first inside) (performs (changes_image addr unlisted image_of says made (content s (object.Platter addr))) s) s)
    changed-by made (Some q) inside h = cc
    changed-by made None (Some q) h = cc
    changed-by made None None h = changed made (content s (object.Platter addr)) there h

  module _ {Found : Type 0} (says : Found → Answer) where
    found : (r : Result Found ℕ) → stops (performs (says_or_refuses addr says r) s).answer ≡ false → WasFound says r (performs (says_or_refuses addr says r) s)
    found (Ok f) h = record { found = f; is = refl; told = refl }
    found (Err code) h = cc

    looked : (finds : List ℕ → Result Found ℕ) (o : Option (List ℕ)) → o ≡ Some image → stops (performs (finds_in_image addr unlisted says finds o) s).answer ≡ false
        → WasFound says (finds image) (performs (finds_in_image addr unlisted says finds o) s)
    looked finds o is = subst (λ (x : Option (List ℕ)). stops (performs (finds_in_image addr unlisted says finds x) s).answer ≡ false → WasFound says (finds image) (performs (finds_in_image addr unlisted says finds x) s)) (sym is) (found (finds image))

    pub found-by : (finds : List ℕ → Result Found ℕ) (first inside : Option ℕ)
        → stops (unless_stopped (stop_by first inside) (performs (finds_in_image addr unlisted says finds (content s (object.Platter addr))) s) s).answer ≡ false
        → WasFound says (finds image) (unless_stopped (stop_by first inside) (performs (finds_in_image addr unlisted says finds (content s (object.Platter addr))) s) s)
    found-by finds (Some q) inside h = cc
    found-by finds None (Some q) h = cc
    found-by finds None None h = looked finds (content s (object.Platter addr)) there h

    -- and where nothing stops it, what is found is told
    tells : (finds : List ℕ → Result Found ℕ) (f : Found) (o : Option (List ℕ)) → o ≡ Some image → finds image ≡ Ok f → (performs (finds_in_image addr unlisted says finds o) s).answer ≡ says f
    tells finds f o is given =
        ap (λ (x : Option (List ℕ)). (performs (finds_in_image addr unlisted says finds x) s).answer) is ∙ ap (λ (r : Result Found ℕ). (performs (says_or_refuses addr says r) s).answer) given

    pub told-by : (finds : List ℕ → Result Found ℕ) (f : Found) (first : Option ℕ) → first ≡ None → finds image ≡ Ok f
        → (unless_stopped (stop_by first None) (performs (finds_in_image addr unlisted says finds (content s (object.Platter addr))) s) s).answer ≡ says f
    told-by finds f first none given =
        ap (λ (x : Option ℕ). (unless_stopped (stop_by x None) (performs (finds_in_image addr unlisted says finds (content s (object.Platter addr))) s) s).answer) none
        ∙ tells finds f (content s (object.Platter addr)) there given
