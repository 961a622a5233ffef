-- What holds of the look-up of a loop.
use Rattle.std.proofs.Common.{◌≡◌, ◌∙◌, ℕ, Bool, true, false, ◌||◌, List, [], ◌∷◌, Option, if◌then◌else◌, refl, sym, ap}
use Rattle.std.specs.List.{filter, list_any}
use Rattle.std.proofs.lemmas.List.Sums.{take_while-cons}
use Rattle.b2_dec.specs.Number.{Number}
use Rattle.b2_flow.specs.declared.frame.Frame.{Frame}
use Rattle.b2_flow.specs.declared.frame.Frame.TheVariants.{For, Call}
use Rattle.b2_flow.specs.declared.frame.Place.{Place}
use Rattle.b2_flow.specs.declared.frame.Var2.{Var2}
use Rattle.b2_flow.specs.Frames.{is_loop, is_loop_of, is_call, is_same_variable}
use Rattle.b2_flow.specs.Stacks.{has_loop, from_loop}
use Rattle.b2_flow.proofs.Variables.{same_variable}

-- the loop on top, or one below it
pub has_loop-top : (v w : Var2) (limit step : Number) (body : Place) (below : List Frame) → has_loop v (For w limit step body ∷ below) ≡ (is_same_variable w v || has_loop v below)
has_loop-top v w limit step body below = ap (list_any (is_loop_of v)) (take_while-cons is_loop (For w limit step body) below)

pub hidden : (v : Var2) (back : Option Place) (entered : Option ℕ) (below : List Frame) → has_loop v (Call back entered ∷ below) ≡ false
hidden v back entered below = ap (list_any (is_loop_of v)) (take_while-cons is_loop (Call back entered) below)

pub new_found : (v : Var2) (limit step : Number) (body : Place) (below : List Frame) → has_loop v (For v limit step body ∷ below) ≡ true
new_found v limit step body below = has_loop-top v v limit step body below ∙ ap (λ (b : Bool). b || has_loop v below) (same_variable v)

pub new_kept : (v : Var2) (limit step : Number) (body : Place) (below : List Frame) → from_loop v (For v limit step body ∷ below) ≡ For v limit step body ∷ below
new_kept v limit step body below = ap (λ (b : Bool). if b then For v limit step body ∷ below else from_loop v below) (same_variable v)

calls_stay : (test : Bool) (v : Var2) (top : Frame) (below : List Frame) → is_call top ≡ false → (has_loop v below ≡ true → filter is_call (from_loop v below) ≡ filter is_call below)
    → (test || has_loop v below) ≡ true → filter is_call (if test then top ∷ below else from_loop v below) ≡ filter is_call (top ∷ below)
calls_stay true v top below plain stay found = refl
calls_stay false v top below plain stay found = rw plain (stay found)

pub no_call_dropped : (v : Var2) (frames : List Frame) → has_loop v frames ≡ true → filter is_call (from_loop v frames) ≡ filter is_call frames
no_call_dropped v [] found = cc
no_call_dropped v (Call back entered ∷ below) found = let none : true ≡ false = sym found ∙ hidden v back entered below in cc
no_call_dropped v (For w limit step body ∷ below) found =
    calls_stay (is_same_variable w v) v (For w limit step body) below refl (no_call_dropped v below) (sym (has_loop-top v w limit step body below) ∙ found)
