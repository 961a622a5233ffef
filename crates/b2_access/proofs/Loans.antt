-- A loan ends well: what it lent is as it left it, and all else stays.
use Rattle.std.specs.Prelude.{◌≡◌, ◌≢◌, ℕ, Option, Some, None, option_map, refl}
use Rattle.std.proofs.Common.{sym, ap, subst, ◌∙◌}
use Rattle.b2_vars.specs.Globals.{unreached}
use Rattle.b2_vars.specs.Tables.{VarsState}
use Rattle.b2_access.specs.declared.lending.At.{At}
use Rattle.b2_access.specs.declared.lending.At.TheVariants as at
use Rattle.b2_access.specs.declared.objects.Object.{Object}
use Rattle.b2_access.specs.declared.objects.Object.TheVariants as object
use Rattle.b2_access.specs.Contents.{content_other, content_same}
use Rattle.b2_access.specs.Loans.{EndsWell, Loan, LoansEndWell, LoansGlobals, globals_at, globals_of, left_at, lender_at, with_globals_at, with_globals_of}
use Rattle.b2_access.specs.Store.{StoreState, content}

-- where nothing is found, nothing changes
unfound_by : (x : Option ℕ) (s : StoreState) → with_globals_of x None s ≡ s
unfound_by None s = refl
unfound_by (Some p) s = refl

-- what isn't lent stays
others_by : (x : Option ℕ) (left : Option VarsState) (s : StoreState) (o : Object) → ((p : ℕ) → x ≡ Some p → o ≢ object.Globals p) → content (with_globals_of x left s) o ≡ content s o
others_by None left s o apart = refl
others_by (Some p) None s o apart = refl
others_by (Some p) (Some w) s o apart = content_other (object.Globals p) o w s (apart p refl)

-- who holds a name stays
pub same_lender : (home : ℕ) (whose : At) (x : Option ℕ) (left : Option VarsState) (s : StoreState) → lender_at home whose (with_globals_of x left s) ≡ lender_at home whose s
same_lender home at.None x left s = refl
same_lender home at.Home x left s = refl
same_lender home (at.Named n) None left s = refl
same_lender home (at.Named n) (Some p) None s = refl
same_lender home (at.Named n) (Some p) (Some w) s = refl

-- what is lent is what was left
again_by : (x : Option ℕ) (w : VarsState) (s : StoreState) → globals_of x (with_globals_of x (option_map (λ _. w) (globals_of x s)) s) ≡ option_map (λ _. w) (globals_of x s)
again_by None w s = refl
again_by (Some p) w s = by (content s (object.Globals p)) refl
  where
    by : (c : Option VarsState) → content s (object.Globals p) ≡ c → content (with_globals_of (Some p) (option_map (λ _. w) c) s) (object.Globals p) ≡ option_map (λ _. w) c
    by None is = is
    by (Some v) is = content_same (object.Globals p) w s ∙ ap (option_map (λ _. w)) is

module _ {M : Type 0} (store : M → StoreState) (lending : Loan M) (loans : LoansGlobals store lending) where
  abbrev after : ℕ → ℕ → At → M → VarsState → StoreState
  after who home whose m w = store (lending who home whose m (unreached (left_at home whose (store m) w)))

  ended : (who home : ℕ) (whose : At) (m : M) (w : VarsState) → after who home whose m w ≡ with_globals_at home whose (store m) (left_at home whose (store m) w)
  ended who home whose m w = loans who home whose m (unreached (left_at home whose (store m) w))

  pub loans_end_well : LoansEndWell store lending
  loans_end_well who home whose m w =
      let is = ended who home whose m w in
      let x = lender_at home whose (store m) in
      let left = left_at home whose (store m) w in
      record {
        unfound = λ none. is ∙ ap (λ (found : Option VarsState). with_globals_of x (option_map (λ _. w) found) (store m)) none ∙ unfound_by x (store m);
        others = λ o apart. ap (λ (s : StoreState). content s o) is ∙ others_by x left (store m) o apart;
        again = ap (globals_at home whose) is
            ∙ ap (λ (y : Option ℕ). globals_of y (with_globals_of x left (store m))) (same_lender home whose x left (store m))
            ∙ again_by x w (store m);
      }
