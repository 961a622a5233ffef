-- The frame on top of a stack, and what RETURN and NEXT do by it.
use Rattle.std.proofs.Common.{◌≡◌, ◌∙◌, ℕ, ◌||◌, Bool, true, false, if◌then◌else◌, List, [], ◌∷◌, Option, Some, None, is_some, sym, ap, subst}
use Rattle.std.specs.List.{slice_get}
use Rattle.std.specs.Option.{option_map_or}
use Rattle.b2_base.specs.declared.codes.TheConstants.{P40_NO_FOR, P41_NO_CALL}
use Rattle.b2_dec.specs.Number.{Number}
use Rattle.b2_flow.specs.Stacks.{entered_last, from_call, from_loop, has_call, has_loop, top_loop, without_top_call}
use Rattle.b2_flow.specs.declared.frame.Frame.{Frame}
use Rattle.b2_flow.specs.declared.frame.Frame.TheVariants.{For, Call}
use Rattle.b2_flow.specs.declared.frame.Place.{Place}
use Rattle.b2_flow.specs.declared.frame.Var2.{Var2}
use Rattle.b2_flow.specs.Frames.{is_loop_of, is_same_variable}
use Rattle.b2_flow.proofs.Loops.{has_loop-top}
use Rattle.b2_access.specs.Jumps.{to_place}
use Rattle.b2_access.specs.Fast.{place_led}
use Rattle.b2_access.specs.Steering.{Steered, control_of, unsteered}
use Rattle.b2_access.specs.declared.placed.Found.{Found}
use Rattle.b2_access.specs.declared.planned.Outcome.TheVariants as outcome
use Rattle.b2_access.specs.declared.private.Private.{Private}
use Rattle.b2_stmt.specs.Calls.{back_from, goes_back}
use Rattle.b2_stmt.specs.Loops.{goes_round, nexts}
use Rattle.b2_stmt.specs.Fast.{LeadsBack, Steers}

-- where a call stands on top, RETURN leads to where it leads back
back_place : Option Frame → Option Place
back_place None = None
back_place (Some (For v limit step body)) = None
back_place (Some (Call back entered)) = back

entered_text : Option Frame → Option ℕ
entered_text None = None
entered_text (Some (For v limit step body)) = None
entered_text (Some (Call back entered)) = entered

back_by : (me : Private) (s : List Frame) (q : Place) → slice_get s 0 ≡ Some (Call (Some q) None)
    → (if has_call s then back_from to_place (from_call s) me else unsteered me (outcome.Failed P41_NO_CALL)) ≡ record { work = record (control_of me) { stack = without_top_call s }; outcome = outcome.Jump q }
unfolding back_place
back_by me [] q is = cc
back_by me (For v limit step body ∷ below) q is = cc
back_by me (Call back entered ∷ below) q is =
    ap (λ (o : Option Place). record { work = record (control_of me) { stack = below }; outcome = to_place o }) (ap back_place is)

pub goes_back_to : (me : Private) (q : Place) → slice_get me.stack 0 ≡ Some (Call (Some q) None)
    → goes_back me ≡ record { work = record (control_of me) { stack = without_top_call me.stack }; outcome = outcome.Jump q }
goes_back_to me q is = back_by me me.stack q is

entered_by : (s : List Frame) (q : Place) → slice_get s 0 ≡ Some (Call (Some q) None) → entered_last s ≡ None
unfolding entered_text
entered_by [] q is = cc
entered_by (For v limit step body ∷ below) q is = cc
entered_by (Call back entered ∷ below) q is = ap entered_text is

pub enters_none : (s : List Frame) (home : ℕ) (l : Option (ℕ × ℕ)) → LeadsBack l home (slice_get s 0) → is_some l ≡ true → entered_last s ≡ None
enters_none s home None leads is = cc
enters_none s home (Some x) leads is = entered_by s (place_led home x) leads

-- where the loop of a variable stands on top, it is found, and nothing is dropped
on_top_by : (s : List Frame) (v : Var2) → option_map_or (is_loop_of v) (slice_get s 0) false ≡ true → (has_loop v s ≡ true) × (from_loop v s ≡ s)
on_top_by [] v is = cc
on_top_by (Call back entered ∷ below) v is = cc
on_top_by (For w limit step body ∷ below) v is = (
  has_loop-top v w limit step body below ∙ ap (λ (b : Bool). b || has_loop v below) is,
  ap (λ (b : Bool). if b then For w limit step body ∷ below else from_loop v below) is,
)

-- and its parts are those of the frame
loop_parts : Option Frame → Option (Number × Number × Place)
loop_parts None = None
loop_parts (Some (For v limit step body)) = Some (limit, step, body)
loop_parts (Some (Call back entered)) = None

parts_by : (s : List Frame) (w : Var2) (limit step : Number) (body : Place) → slice_get s 0 ≡ Some (For w limit step body) → top_loop s ≡ Some (limit, step, body)
unfolding loop_parts
parts_by [] w limit step body is = cc
parts_by (Call back entered ∷ below) w limit step body is = cc
parts_by (For v l t b ∷ below) w limit step body is = ap loop_parts is

round_by : (me : Private) (v : Var2) (b : Bool) (s : List Frame) (p : Number × Number × Place) → b ≡ true → s ≡ me.stack → top_loop me.stack ≡ Some p
    → (if b then goes_round (top_loop s) v (record me { stack = s }) else unsteered me (outcome.Failed P40_NO_FOR)) ≡ goes_round (Some p) v me
round_by me v false s p is stack there = cc
round_by me v true s p is stack there =
    ap (λ (t : List Frame). goes_round (top_loop t) v (record me { stack = t })) stack
    ∙ ap (λ (o : Option (Number × Number × Place)). goes_round o v me) there

pub round_fast : (f : Found) (me after : Private) (l : Option (ℕ × ℕ)) (v w : Var2) (limit step : Number) (body : Place) → slice_get me.stack 0 ≡ Some (For w limit step body) → is_same_variable w v ≡ true
    → Steers l f me after (goes_round (Some (limit, step, body)) v me) → Steers l f me after (nexts v me)
round_fast f me after l v w limit step body top same h =
    let on_top = on_top_by me.stack v (ap (λ (o : Option Frame). option_map_or (is_loop_of v) o false) top ∙ same) in
    subst (λ (e : Steered). Steers l f me after e) (sym (round_by me v (has_loop v me.stack) (from_loop v me.stack) (limit, step, body) on_top.0 on_top.1 (parts_by me.stack w limit step body top))) h
