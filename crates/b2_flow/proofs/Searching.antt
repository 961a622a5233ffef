-- A step down the frames: what is found among the frames below the one on top.
use Rattle.std.proofs.Common.{◌≡◌, ◌+◌, ◌∙◌, Bool, true, false, cond, ◌||◌, if◌then◌else◌, List, [], ◌∷◌, ◌++◌, length, take, drop, reverse, refl, sym, ap, arith}
use Rattle.std.specs.List.{filter}
use Rattle.std.proofs.Math.Seq.{take-append_seam}
use Rattle.std.proofs.lemmas.List.{reverse-append, append-nil, take-append-le, take-append-drop}
use Rattle.std.proofs.lemmas.List.Elements.{filter-append}
use Rattle.b2_dec.specs.Number.{Number}
use Rattle.b2_flow.specs.declared.frame.Frame.{Frame}
use Rattle.b2_flow.specs.declared.frame.Frame.TheVariants.{For}
use Rattle.b2_flow.specs.declared.frame.Place.{Place}
use Rattle.b2_flow.specs.declared.frame.Var2.{Var2}
use Rattle.b2_flow.specs.Frames.{is_same_variable}
use Rattle.b2_flow.specs.Stacks.{has_loop, from_loop}
use Rattle.b2_flow.proofs.Loops.{has_loop-top}

-- the frame on top comes first
pub top_first : (rest below : List Frame) (top : Frame) → rest ≡ below ++ top ∷ [] → reverse rest ≡ top ∷ reverse below
top_first rest below top split = ap reverse split ∙ reverse-append below (top ∷ [])

-- a loop of another variable on top hides nothing
has_loop-other : (test : Bool) (v : Var2) (frames : List Frame) → test ≡ false → (test || has_loop v frames) ≡ has_loop v frames
has_loop-other true v frames e = cc
has_loop-other false v frames e = refl

pub has_loop-below : (v w : Var2) (limit step : Number) (body : Place) (frames : List Frame) → is_same_variable w v ≡ false → has_loop v (For w limit step body ∷ frames) ≡ has_loop v frames
has_loop-below v w limit step body frames other = has_loop-top v w limit step body frames ∙ has_loop-other (is_same_variable w v) v frames other

from_loop-other : (test : Bool) (v : Var2) (top : Frame) (frames : List Frame) → test ≡ false → (if test then top ∷ frames else from_loop v frames) ≡ from_loop v frames
from_loop-other true v top frames e = cc
from_loop-other false v top frames e = refl

pub from_loop-below : (v w : Var2) (limit step : Number) (body : Place) (frames : List Frame) → is_same_variable w v ≡ false → from_loop v (For w limit step body ∷ frames) ≡ from_loop v frames
from_loop-below v w limit step body frames other = from_loop-other (is_same_variable w v) v (For w limit step body) frames other

-- what stands below what stands at the bottom
pub take_below : (rest below frames : List Frame) (top : Frame) → rest ≡ below ++ top ∷ [] → length below + 1 ≡ length rest → take (length rest) frames ≡ rest → take (length below) frames ≡ below
take_below rest below frames top split longer lowest =
    let whole : frames ≡ rest ++ drop (length rest) frames = sym (take-append-drop (length rest) frames) ∙ ap (λ (xs : List Frame). xs ++ drop (length rest) frames) lowest in
    let first : take (length below) frames ≡ take (length below) (rest ++ drop (length rest) frames) = ap (take (length below)) whole in
    first ∙ (take-append-le (length below) rest (drop (length rest) frames) (omega (arith, longer)) ∙ (ap (take (length below)) split ∙ take-append_seam below (top ∷ [])))

-- what passes a test, from the top down
kept_top : (passes : Bool) (x : Frame) (kept : List Frame) → reverse (cond passes (x ∷ kept) kept) ≡ reverse kept ++ cond passes (x ∷ []) []
kept_top true x kept = reverse-append (x ∷ []) kept
kept_top false x kept = sym (append-nil (reverse kept))

pub filter_downward : (passes : Frame → Bool) (frames : List Frame) → reverse (filter passes frames) ≡ filter passes (reverse frames)
filter_downward passes [] = refl
filter_downward passes (x ∷ frames) =
    kept_top (passes x) x (filter passes frames)
    ∙ (ap (λ (kept : List Frame). kept ++ cond (passes x) (x ∷ []) []) (filter_downward passes frames)
    ∙ (sym (filter-append passes (reverse frames) (x ∷ [])) ∙ ap (filter passes) (sym (reverse-append (x ∷ []) frames))))
