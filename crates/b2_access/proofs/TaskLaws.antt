-- What holds of every task: it goes alike in stores that agree on what is reached, leaves what isn't written, and keeps what is listed.
use Rattle.std.specs.Prelude.{◌≡◌, Bool, true, false, List, [], ◌∷◌, Option, IsSome, refl}
use Rattle.std.proofs.Common.{sym, subst, ◌∙◌}
use Rattle.std.proofs.lemmas.Bool.{false≢true}
use Rattle.b2_access.specs.declared.objects.Object.{Object}
use Rattle.b2_access.specs.declared.accesses.Answer.{Answer}
use Rattle.b2_access.specs.declared.accesses.Answer.TheVariants as answer
use Rattle.b2_access.specs.AnswerKinds.{holds_up, stops}
use Rattle.b2_access.specs.Answering.{TellsOnly}
use Rattle.b2_access.specs.Contents.{content_other, put_alike, put_listed}
use Rattle.b2_access.specs.Serving.{performs, put_each}
use Rattle.b2_access.specs.Store.{StoreState, ContentOf, content, IsIn, AgreeOn}
use Rattle.b2_access.specs.Task.{Put, Task, Look, Tell, Refuse, Missing}

puts_alike : {ws : List Object} (ps : List (Put ws)) (o : Object) (s t : StoreState) → content s o ≡ content t o → content (put_each ps s) o ≡ content (put_each ps t) o
puts_alike [] o s t same = same
puts_alike (p ∷ ps) o s t same = puts_alike ps o _ _ (put_alike p.target o p.value s t same)

puts_other : {ws : List Object} (ps : List (Put ws)) (o : Object) (s : StoreState) → (IsIn o ws → ⊥) → content (put_each ps s) o ≡ content s o
puts_other [] o s out = refl
puts_other {ws} (p ∷ ps) o s out = puts_other ps o _ out ∙ content_other p.target o p.value s (λ e. out (subst (λ (x : Object). IsIn x ws) (sym e) p.there))

puts_listed : {ws : List Object} (ps : List (Put ws)) (o : Object) (s : StoreState) → IsSome (content s o) → IsSome (content (put_each ps s) o)
puts_listed [] o s listed = listed
puts_listed (p ∷ ps) o s listed = puts_listed ps o _ (put_listed p.target o p.value s listed)

-- a task gives the same in two stores
pub record GivesAlike {ts ws : List Object} (x : Task ts ws) (s t : StoreState) : Type 0 where
  pub answers : (performs x s).answer ≡ (performs x t).answer
  pub contents : (o : Object) → content s o ≡ content t o → content (performs x s).after o ≡ content (performs x t).after o

pub gives_alike : {ts ws : List Object} (x : Task ts ws) (s t : StoreState) → AgreeOn ts s t → GivesAlike x s t
gives_alike (Look o there f) s t same =
    let P : Option (ContentOf o) → Type 0 = λ c. ((performs (f (content s o)) s).answer ≡ (performs (f c) t).answer) × ((x : Object) → content s x ≡ content t x → content (performs (f (content s o)) s).after x ≡ content (performs (f c) t).after x) in
    let h = gives_alike (f (content s o)) s t same in
    let at_s : P (content s o) = (h.answers, h.contents) in
    let all = subst P (same o there) at_s in
    record { answers = all.0; contents = all.1 }
gives_alike (Tell ps x) s t same = record { answers = refl; contents = λ o h. puts_alike ps o s t h }
gives_alike (Refuse c) s t same = record { answers = refl; contents = λ o h. h }
gives_alike Missing s t same = record { answers = refl; contents = λ o h. h }

pub leaves_others : {ts ws : List Object} (x : Task ts ws) (s : StoreState) (o : Object) → (IsIn o ws → ⊥) → content (performs x s).after o ≡ content s o
leaves_others (Look y there f) s o out = leaves_others (f (content s y)) s o out
leaves_others (Tell ps x) s o out = puts_other ps o s out
leaves_others (Refuse c) s o out = refl
leaves_others Missing s o out = refl

pub keeps_listed : {ts ws : List Object} (x : Task ts ws) (s : StoreState) (o : Object) → IsSome (content s o) → IsSome (content (performs x s).after o)
keeps_listed (Look y there f) s o listed = keeps_listed (f (content s y)) s o listed
keeps_listed (Tell ps x) s o listed = puts_listed ps o s listed
keeps_listed (Refuse c) s o listed = listed
keeps_listed Missing s o listed = listed

-- what a task gives that tells some answers alone
pub record IsTold {ts ws : List Object} (some : Answer → Bool) (x : Task ts ws) (s : StoreState) : Type 0 where
  pub says : some (performs x s).answer ≡ true
  pub goes_on : holds_up (performs x s).answer ≡ false
  pub unchanged : stops (performs x s).answer ≡ true → (performs x s).after ≡ s

not_held_up : (x : Answer) → stops x ≡ false → holds_up x ≡ false
not_held_up (answer.Wait q) e = e
not_held_up (answer.Locked q) e = e
not_held_up x e = refl

pub is_told : {ts ws : List Object} (some : Answer → Bool) (x : Task ts ws) (s : StoreState) → TellsOnly some x → IsTold some x s
is_told some (Look o there f) s h =
    let rest = is_told some (f (content s o)) s (h (content s o)) in
    record { says = rest.says; goes_on = rest.goes_on; unchanged = rest.unchanged }
is_told some (Tell ps x) s h = record { says = h.0; goes_on = not_held_up x h.1; unchanged = λ e. absurd (false≢true (sym h.1 ∙ e)) }
is_told some (Refuse c) s h = record { says = h; goes_on = refl; unchanged = λ e. refl }
is_told some Missing s h = record { says = h; goes_on = refl; unchanged = λ e. refl }
