-- What a block shows after a step: the entries with which it is laid, and the variables that they stand for.
use Rattle.std.proofs.Common.{◌≡◌, ℕ, ◌+◌, ◌≤◌, false, List, ◌∷◌, ◌++◌, length, drop, ap, ap₂, sym, subst, ◌∙◌, arith, append_assoc, length-append}
use Rattle.std.proofs.lemmas.List.{drop_at}
use Rattle.b2_vars.specs.declared.name.Var.{Var}
use Rattle.b2_vars.specs.Shapes.{cost, overhead}
use Rattle.b2_vars.specs.Variables.{VariableState, overwritten}
use Rattle.b2_vars.specs.Tables.{Entries, VarsState, costs, table_of}
use Rattle.b2_vars.specs.Calls.{with_variable}
use Rattle.b2_vars.specs.Block.{head_bytes, value_bytes, entry_bytes, spelled, entries_in, place_of, stands_in, IsStored, AllStored, IsLaid}
use Rattle.b2_vars.proofs.Overwriting.{length-overwritten, over-after, over-before}
use Rattle.b2_vars.proofs.Heads.{length-head}
use Rattle.b2_vars.proofs.ReadEntries.{entries-laid, length-entry}
use Rattle.b2_vars.proofs.Standing.{spelled-append, length-spelled, table-other, stored-other, stored-here, stored-front, stored-rest, place-other}

-- the entries with which a block is laid, and what they stand for
pub record Shows (block : List ℕ) (used : ℕ) (places : List ℕ) (s : VarsState) : Type 0 where
  pub entries : Entries
  pub laid : IsLaid block used places entries
  pub state : record { area = length block; table = table_of entries } ≡ s

abbrev pub shown : List ℕ → ℕ → VarsState
shown block used = record { area = length block; table = table_of (entries_in used block) }

pub shows-laid : (block : List ℕ) (used : ℕ) (places : List ℕ) (s : VarsState) → Shows block used places s → IsLaid block used places (entries_in used block)
shows-laid block used places s h = subst (IsLaid block used places) (sym (entries-laid block used places h.entries h.laid)) h.laid

pub shows-state : (block : List ℕ) (used : ℕ) (places : List ℕ) (s : VarsState) → Shows block used places s → shown block used ≡ s
shows-state block used places s h = ap (λ (es : Entries). record { area = length block; table = table_of es }) (entries-laid block used places h.entries h.laid) ∙ h.state

places-kept : (v : Var) (x y : VariableState) (front rest : Entries) (q : Var) → cost v y.shape ≡ cost v x.shape → place_of q (front ++ (v, y) ∷ rest) ≡ place_of q (front ++ (v, x) ∷ rest)
unfolding place_of
places-kept v x y front rest q same = place-other v x y front rest 1 q same

-- a block's bytes around one entry
pub arranged : (v : Var) (x : VariableState) (front rest : Entries) (free : List ℕ)
    → spelled (front ++ (v, x) ∷ rest) ++ free ≡ spelled front ++ ((head_bytes v x.shape x.common ++ value_bytes x) ++ (spelled rest ++ free))
arranged v x front rest free =
    ap (λ (b : List ℕ). b ++ free) (spelled-append front ((v, x) ∷ rest))
    ∙ append_assoc (spelled front) (entry_bytes (v, x) ++ spelled rest) free
    ∙ ap (λ (b : List ℕ). spelled front ++ b) (append_assoc (entry_bytes (v, x)) (spelled rest) free)

-- how many they are
pub length-around : (v : Var) (x : VariableState) (front rest : Entries)
    → length (spelled (front ++ (v, x) ∷ rest)) ≡ length (spelled front) + (length (head_bytes v x.shape x.common) + length (value_bytes x)) + length (spelled rest)
length-around v x front rest =
    omega (arith, ap (λ (b : List ℕ). length b) (spelled-append front ((v, x) ∷ rest)), length-append (spelled front) (entry_bytes (v, x) ++ spelled rest), length-append (entry_bytes (v, x)) (spelled rest), length-append (head_bytes v x.shape x.common) (value_bytes x))

module _ (v : Var) (x : VariableState) (front rest : Entries) where
  module _ (block : List ℕ) (used : ℕ) (places : List ℕ) (laid : IsLaid block used places (front ++ (v, x) ∷ rest)) where
    pub here : block ≡ spelled front ++ ((head_bytes v x.shape x.common ++ value_bytes x) ++ (spelled rest ++ laid.rest))
    here = laid.written ∙ arranged v x front rest laid.rest

    -- where the entry starts
    pub starts : length (spelled front) ≡ costs front
    starts = length-spelled front (stored-front front ((v, x) ∷ rest) laid.stored)

    pub is-stored : IsStored v x
    is-stored = stored-here v x front rest laid.stored

    pub entry-at : drop (costs front) block ≡ entry_bytes (v, x) ++ (spelled rest ++ laid.rest)
    entry-at = ap (λ (b : List ℕ). drop (costs front) b) here ∙ drop_at (spelled front) (entry_bytes (v, x) ++ (spelled rest ++ laid.rest)) (costs front) starts

    pub entry-room : costs front + cost v x.shape + costs rest ≡ used
    entry-room =
        let n = length-entry v x is-stored.variable in
        omega (arith, laid.counted, length-around v x front rest, starts, n, length-append (head_bytes v x.shape x.common) (value_bytes x), length-spelled rest (all.2))
      where
        all : AllStored ((v, x) ∷ rest)
        all = stored-rest front ((v, x) ∷ rest) laid.stored

    -- values are written, and nothing else
    module _ (y : VariableState) (at k : ℕ) (w : List ℕ) (place : at ≡ costs front + (overhead v + k)) (room : k + length w ≤ length (value_bytes x)) (values : overwritten k w (value_bytes x) ≡ value_bytes y)
        (shape : y.shape ≡ x.shape) (common : y.common ≡ x.common) (stored : IsStored v y) where
      head : List ℕ
      head = head_bytes v x.shape x.common

      same_head : head_bytes v y.shape y.common ≡ head_bytes v x.shape x.common
      same_head = ap₂ (head_bytes v) shape common

      long_head : length (head_bytes v x.shape x.common) ≡ overhead v
      long_head = length-head v x.shape x.common

      written : overwritten at w block ≡ spelled (front ++ (v, y) ∷ rest) ++ laid.rest
      written =
          let more = spelled rest ++ laid.rest in
          let low : overhead v + k + length w ≤ length (head_bytes v x.shape x.common ++ value_bytes x) = omega (arith, room, long_head, length-append (head_bytes v x.shape x.common) (value_bytes x)) in
          let low_all : overhead v + k + length w ≤ length ((head_bytes v x.shape x.common ++ value_bytes x) ++ more) = omega (arith, low, length-append (head_bytes v x.shape x.common ++ value_bytes x) more) in
          ap₂ (λ (n : ℕ) (b : List ℕ). overwritten n w b) (place ∙ ap (λ (n : ℕ). n + (overhead v + k)) (sym starts)) here
          ∙ over-after (spelled front) ((head_bytes v x.shape x.common ++ value_bytes x) ++ more) w (overhead v + k) low_all
          ∙ ap (λ (b : List ℕ). spelled front ++ b) (over-before (head_bytes v x.shape x.common ++ value_bytes x) more w (overhead v + k) low
          ∙ ap (λ (b : List ℕ). b ++ more) (ap (λ (n : ℕ). overwritten (n + k) w (head_bytes v x.shape x.common ++ value_bytes x)) (sym long_head)
          ∙ over-after (head_bytes v x.shape x.common) (value_bytes x) w k room
          ∙ ap₂ (λ (a b : List ℕ). a ++ b) (sym same_head) values))
          ∙ sym (arranged v y front rest laid.rest)

      same_cost : cost v y.shape ≡ cost v x.shape
      same_cost = ap (cost v) shape

      counted : used ≡ length (spelled (front ++ (v, y) ∷ rest))
      counted =
          let same = ap (λ (b : List ℕ). length b) values in
          let heads = ap (λ (b : List ℕ). length b) same_head in
          omega (arith, laid.counted, length-around v x front rest, length-around v y front rest, same, heads, length-overwritten k w (value_bytes x))

      pub laid-written : IsLaid (overwritten at w block) used places (front ++ (v, y) ∷ rest)
      laid-written = record {
        rest = laid.rest;
        written = written;
        counted = counted;
        short = omega (arith, length-overwritten at w block, laid.short);
        stored = stored-other v x y front rest laid.stored stored;
        named = laid.named;
        found = λ q legal. laid.found q legal ∙ sym (places-kept v x y front rest q same_cost);
      }

      pub shows-written : stands_in v front ≡ false → Shows (overwritten at w block) used places (with_variable v y (record { area = length block; table = table_of (front ++ (v, x) ∷ rest) }))
      shows-written none = record {
        entries = front ++ (v, y) ∷ rest;
        laid = laid-written;
        state = λ i. record { area = length-overwritten at w block i; table = table-other v x y front rest none i };
      }
