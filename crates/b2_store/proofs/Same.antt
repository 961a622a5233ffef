-- Rows of which one gets what it has, or of which none has the key, are as they were.
use Rattle.std.specs.Prelude.{◌≡◌, ℕ, ◌==◌, Bool, true, false, cond, List, [], ◌∷◌, Some, None, refl}
use Rattle.std.specs.Map.{lookup, set_value}
use Rattle.std.proofs.Common.{ap}
use Rattle.std.proofs.lemmas.Map.Steps.{set_value_same}
use Rattle.std.specs.Str.{bytes_eq}
use Rattle.b2_text.specs.Program.{TextState}
use Rattle.b2_access.specs.declared.objects.Object.TheVariants as object
use Rattle.b2_access.specs.Store.{StoreState, content, put}

pub with_same : {K X : Type 0} (test : K → Bool) (rows : List (K × X)) (x : X) → lookup test rows ≡ Some x → set_value test rows x ≡ rows
with_same test rows x is = set_value_same test rows x is

none_by : {K X : Type 0} (test : K → Bool) (e : K × X) (rows : List (K × X)) (x : X) → (lookup test rows ≡ None → set_value test rows x ≡ rows)
    → (b : Bool) → cond b (Some e.1) (lookup test rows) ≡ None → cond b ((e.0, x) ∷ rows) (e ∷ set_value test rows x) ≡ e ∷ rows
none_by test e rows x rest true h = absurd (cc)
none_by {K} {X} test e rows x rest false h = ap (λ (rs : List (K × X)). e ∷ rs) (rest h)

pub with_none : {K X : Type 0} (test : K → Bool) (rows : List (K × X)) (x : X) → lookup test rows ≡ None → set_value test rows x ≡ rows
with_none test [] x is = refl
with_none test (e ∷ rows) x is = none_by test e rows x (with_none test rows x) (test e.0) is

-- a store whose platter or text gets what it has is as it was
pub same_platter : (a image : List ℕ) (s : StoreState) → content s (object.Platter a) ≡ Some image → put (object.Platter a) image s ≡ s
same_platter a image s is = ap (λ (rows : List (List ℕ × List ℕ)). record s { platters = rows }) (with_same (λ k. bytes_eq k a) s.platters image is)

pub same_text : (p : ℕ) (t : TextState) (s : StoreState) → content s (object.Text p) ≡ Some t → put (object.Text p) t s ≡ s
same_text p t s is = ap (λ (rows : List (ℕ × TextState)). record s { texts = rows }) (with_same (λ k. k == p) s.texts t is)
