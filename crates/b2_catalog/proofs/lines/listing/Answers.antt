use Rattle.std.proofs.Common.{◌≡◌, ◌+◌, ◌-◌, ◌<◌, ◌++◌, ℕ, List, ap, ◌∙◌, sym, arith, append_assoc}
use Rattle.std.specs.List.{flat_map, range_with_len}
use Rattle.b2_platter.specs.Layout.{layout_of}
use Rattle.b2_platter.specs.Image.{index_of, slots_of}
use Rattle.b2_platter.proofs.Ranges.{range-step}
use Rattle.b2_platter.proofs.Goodness.{Parts-of}
use Rattle.b2_catalog.specs.Listing.{head_line, slot_line, listing_of}
use Rattle.b2_catalog.proofs.lines.listing.Goals as goal

-- one more line
joined : (f : ℕ → List ℕ) (was now whole : List ℕ) (k n : ℕ) → k < n → was ++ flat_map f (range_with_len k (n - k)) ≡ whole → now ≡ was ++ f k → now ++ flat_map f (range_with_len (k + 1) (n - (k + 1))) ≡ whole
joined f was now whole k n h so is =
    ap (λ (xs : List ℕ). xs ++ flat_map f (range_with_len (k + 1) (n - (k + 1)))) is
    ∙ append_assoc was (f k) (flat_map f (range_with_len (k + 1) (n - (k + 1))))
    ∙ ap (λ (ks : List ℕ). was ++ flat_map f ks) (sym (range-step k n h)) ∙ so

pub index-k-end-requires : goal.index-k-end-requires
index-k-end-requires c = let parts = Parts-of (layout_of c.args.p.now) c.args.p.now c.image.ensures.good in rw c.image.ensures.value (omega arith)

pub loop-k-init : goal.loop-k-init
unfolding listing_of
loop-k-init c =
    rw (c.in_ok-push_head.ensures, c.index-k-end.ensures.value, c.image.ensures.value)
    (append_assoc c.args.into.now.items (head_line c.args.p.now) (flat_map (slot_line c.args.p.now) (slots_of (index_of c.args.p.now))))

pub loop-k-preserved : goal.loop-k-preserved
loop-k-preserved c =
    joined (slot_line c.args.p.now) c.loop-k.into.items c.push_slot.new.into.items _ c.loop-k.k _ (omega arith) c.loop-k.invariant c.in_ok-push_slot.ensures
