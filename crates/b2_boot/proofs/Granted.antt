-- The steps that events grant.
use Rattle.std.proofs.Common.{◌≡◌, ℕ, ◌+◌, List, [], ◌∷◌, ◌++◌, refl, ap, ◌∙◌, arith}
use Rattle.b2_boot.specs.Boots.{BootState}
use Rattle.b2_boot.specs.Logs.{steps_asked, events_of, key_events, granted_by}
use Rattle.b2_boot.specs.declared.log.Event.{Event}
use Rattle.b2_boot.specs.declared.log_lines.Asked.{Asked}
use Rattle.b2_boot.specs.declared.log_lines.Asked.TheVariants as asked

pub granted_by-append : (b : BootState) (xs ys : List Event) → granted_by b (xs ++ ys) ≡ granted_by b xs + granted_by b ys
granted_by-append b [] ys = omega arith
granted_by-append b (x ∷ xs) ys = let h = granted_by-append b xs ys in omega arith

pub keys_grant_nothing : (b : BootState) (t : ℕ) (keys : List ℕ) → granted_by b (key_events t keys) ≡ 0
keys_grant_nothing b t [] = refl
keys_grant_nothing b t (k ∷ ks) = let h = keys_grant_nothing b t ks in omega arith

-- events grant what was asked for
pub events_grant : (b : BootState) (a : Asked) → granted_by b (events_of a) ≡ steps_asked b a
events_grant b (asked.Keys t keys) = keys_grant_nothing b t keys
events_grant b (asked.Special t n) = refl
events_grant b (asked.Front t p) = refl
events_grant b (asked.Halt p) = refl
events_grant b (asked.Reset p) = refl
events_grant b (asked.Turn p n) = omega arith
events_grant b (asked.Rounds n) = omega arith

-- the steps that the events of one more line grant
pub granted_more : (b : BootState) (es : List Event) (a : Asked) → granted_by b (es ++ events_of a) ≡ granted_by b es + steps_asked b a
granted_more b es a = granted_by-append b es (events_of a) ∙ ap (λ n. granted_by b es + n) (events_grant b a)
