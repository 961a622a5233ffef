-- What RETURN and FOR change done fast, and where they lead.
use Rattle.std.proofs.Common.{◌≡◌, ◌∙◌, ℕ, ◌+◌, ◌<◌, ◌≤◌, nat_lt, Bool, true, false, if◌then◌else◌, List, [], ◌∷◌, length, refl, sym, ap, subst, Option, Some, None, Result, Ok, unwrap_or, arith}
use Rattle.std.proofs.lemmas.Bool.Decides.{nat_tests}
use Rattle.std.specs.List.{slice_get}
use Rattle.b2_base.specs.declared.codes.TheConstants.{A04_TOO_DEEP}
use Rattle.b2_flow.specs.Frames.{is_loop_of}
use Rattle.b2_flow.specs.Stacks.{from_first, from_loop, has_loop, most_frames, without_top_call, without_top_loop}
use Rattle.b2_flow.specs.declared.frame.Frame.{Frame}
use Rattle.b2_flow.specs.declared.frame.Frame.TheVariants.{For, Call}
use Rattle.b2_flow.specs.declared.frame.Place.{Place}
use Rattle.b2_flow.specs.declared.frame.Var2.{Var2}
use Rattle.b2_receiver.specs.Assigning.{assigned_number}
use Rattle.b2_access.specs.Found.{here_found}
use Rattle.b2_access.specs.JumpTargets.{is_done, lead_seen}
use Rattle.b2_access.specs.Fast.{lead_of, place_following, place_led}
use Rattle.b2_access.specs.Planning.{Ended}
use Rattle.b2_access.specs.Steering.{Steered, control_of, steered, unsteered}
use Rattle.b2_access.specs.declared.fast.Lead.{Lead}
use Rattle.b2_access.specs.declared.placed.Found.{Found}
use Rattle.b2_access.specs.declared.planned.Outcome.{Outcome}
use Rattle.b2_access.specs.declared.planned.Outcome.TheVariants as outcome
use Rattle.b2_access.specs.declared.private.Private.{Private}
use Rattle.b2_stmt.specs.Asked.{asks_loop, body_place, carried}
use Rattle.b2_stmt.specs.Calls.{goes_back}
use Rattle.b2_stmt.specs.Loops.{loop_begins, loop_element, made_loop, without_loop}
use Rattle.b2_stmt.specs.Fast.{BeginsOrNot, LeadsBack, LeadsBy, Steers}
use Rattle.b2_stmt.specs.declared.loops.Loop.{Loop}
use Rattle.b2_access.proofs.Led.{following_led}
use Rattle.b2_stmt.proofs.Tops.{goes_back_to}

-- what a lead says that is known
pub seen_done : (l : Lead) → is_done l ≡ true → lead_seen l ≡ Some (l.line, l.unit)
seen_done l is = ap (λ (b : Bool). if b then Some (l.line, l.unit) else None) is

-- where what is steered is known
pub steers_by : (f : Found) (me after : Private) (l : ℕ × ℕ) (d e : Steered) → e ≡ d → (steered me d).me ≡ after → LeadsBy (Some l) f d.outcome → Steers (Some l) f me after e
steers_by f me after l d e is same h = subst (λ (x : Steered). Steers (Some l) f me after x) (sym is) (same, h)

-- RETURN
pub back_fast : (f : Found) (me after : Private) (to : Lead) → LeadsBack (lead_seen to) f.place.home (slice_get me.stack 0) → is_done to ≡ true
    → after ≡ record me { stack = without_top_call me.stack } → Steers (lead_seen to) f me after (goes_back me)
back_fast f me after to leads there same =
    let seen = seen_done to there in
    let q = place_led f.place.home (to.line, to.unit) in
    let top : slice_get me.stack 0 ≡ Some (Call (Some q) None) = subst (λ (l : Option (ℕ × ℕ)). LeadsBack l f.place.home (slice_get me.stack 0)) seen leads in
    subst (λ (l : Option (ℕ × ℕ)). Steers l f me after (goes_back me)) (sym seen)
    (steers_by f me after (to.line, to.unit) (record { work = record (control_of me) { stack = without_top_call me.stack }; outcome = outcome.Jump q }) (goes_back me)
    (goes_back_to me q top) (sym same) refl)

-- without an old loop there is room where there was
from_first_short : (v : Var2) (s : List Frame) → length (from_first (is_loop_of v) s) ≤ length s
from_first_short v [] = omega arith
from_first_short v (x ∷ s) = by_test (is_loop_of v x) (from_first_short v s)
  where
    by_test : (b : Bool) → length (from_first (is_loop_of v) s) ≤ length s → length (if b then x ∷ s else from_first (is_loop_of v) s) ≤ length (x ∷ s)
    by_test true e = omega arith
    by_test false e = omega (arith, e)

top_loop_short : (s : List Frame) → length (without_top_loop s) ≤ length s
top_loop_short [] = omega arith
top_loop_short (For v limit step body ∷ s) = omega arith
top_loop_short (Call back entered ∷ s) = omega arith

pub still_room : (v : Var2) (s : List Frame) (n : ℕ) → length s < n → length (without_loop v s) < n
still_room v s n h = by_test (has_loop v s)
  where
    by_test : (b : Bool) → length (if b then without_top_loop (from_loop v s) else s) < n
    by_test true = let d = top_loop_short (from_loop v s) in let e = from_first_short v s in omega (arith, d, e, h)
    by_test false = h

-- FOR
room_there : (n : ℕ) → n < most_frames → nat_lt n most_frames ≡ true
room_there n h = grind (arith, nat_tests)

abbrev ended_next : Private → Ended
ended_next m = record { me = m; outcome = outcome.Next }

pub begun : (l : Loop) (body : Place) (me after : Private) → (assigned_number (loop_element l.var) l.from me.vars).code ≡ None → length (without_loop l.var me.stack) < most_frames
    → after ≡ record me { vars = (assigned_number (loop_element l.var) l.from me.vars).vars; stack = For l.var l.limit l.step body ∷ without_loop l.var me.stack }
    → steered me (loop_begins l body me) ≡ record { me = after; outcome = outcome.Next }
begun l body me after none room same =
    let a = assigned_number (loop_element l.var) l.from me.vars in
    let made = record me { vars = a.vars; stack = without_loop l.var me.stack } in
    ap (λ (code : Option ℕ). steered me (made_loop code l body (record me { vars = a.vars }))) none
    ∙ ap (λ (b : Bool). steered me (if b then record { work = record (control_of made) { stack = For l.var l.limit l.step body ∷ without_loop l.var me.stack }; outcome = outcome.Next } else unsteered made (outcome.Failed A04_TOO_DEEP))) (room_there (length (without_loop l.var me.stack)) room)
    ∙ ap (λ (m : Private). ended_next m) (sym same)

pub begin_fast : (f : Found) (me after : Private) (on : Lead) (l : Loop) (written : Result Loop ℕ) → written ≡ Ok l → lead_seen on ≡ lead_of (place_following f) → is_done on ≡ true
    → BeginsOrNot l (place_led f.place.home (on.line, on.unit)) me after true
    → Steers (lead_seen on) f me after (carried (asks_loop written (body_place (here_found f) f.home.now.lines)) f.place me f.own.now.lines f.home.now.lines)
begin_fast f me after on l written is follows there h =
    let seen = seen_done on there in
    let q = place_led f.place.home (on.line, on.unit) in
    let next : place_following f ≡ Some q = following_led f (on.line, on.unit) (sym follows ∙ seen) in
    let e : carried (asks_loop written (body_place (here_found f) f.home.now.lines)) f.place me f.own.now.lines f.home.now.lines ≡ loop_begins l q me =
    ap (λ (r : Result Loop ℕ). carried (asks_loop r (body_place (here_found f) f.home.now.lines)) f.place me f.own.now.lines f.home.now.lines) is
    ∙ ap (λ (o : Option Place). loop_begins l (unwrap_or o (record f.place { unit = f.place.unit + 1 })) me) next in
    subst (λ (k : Option (ℕ × ℕ)). Steers k f me after (carried (asks_loop written (body_place (here_found f) f.home.now.lines)) f.place me f.own.now.lines f.home.now.lines)) (sym seen)
    (steers_by f me after (on.line, on.unit) (loop_begins l q me) _ e (ap (λ (x : Ended). x.me) h)
    (subst (λ (o : Outcome). LeadsBy (Some (on.line, on.unit)) f o) (sym (ap (λ (x : Ended). x.outcome) h)) next))
