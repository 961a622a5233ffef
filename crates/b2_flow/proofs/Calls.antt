-- What holds of the look-up of a call.
use Rattle.std.proofs.Common.{◌≡◌, ℕ, true, false, List, [], ◌∷◌, ◌++◌, Option, None, refl}
use Rattle.std.specs.List.{list_all}
use Rattle.b2_flow.specs.declared.frame.Frame.{Frame}
use Rattle.b2_flow.specs.declared.frame.Frame.TheVariants.{For, Call}
use Rattle.b2_flow.specs.declared.frame.Place.{Place}
use Rattle.b2_flow.specs.Frames.{is_loop}
use Rattle.b2_flow.specs.Stacks.{entered_last, has_call, from_call}

pub call_found : (loops below : List Frame) (back : Option Place) (entered : Option ℕ) → has_call (loops ++ Call back entered ∷ below) ≡ true
call_found [] below back entered = refl
call_found (For v limit step body ∷ loops) below back entered = call_found loops below back entered
call_found (Call b e ∷ loops) below back entered = refl

pub call_undone : (loops below : List Frame) (back : Option Place) (entered : Option ℕ) → list_all is_loop loops ≡ true → from_call (loops ++ Call back entered ∷ below) ≡ Call back entered ∷ below
call_undone [] below back entered all = refl
call_undone (For v limit step body ∷ loops) below back entered all = call_undone loops below back entered all
call_undone (Call b e ∷ loops) below back entered all = cc

-- where there is no call none entered a text
pub no_call_left : (frames : List Frame) → has_call frames ≡ false → entered_last frames ≡ None
no_call_left [] none = refl
no_call_left (For v limit step body ∷ frames) none = no_call_left frames none
no_call_left (Call b e ∷ frames) none = cc
