-- A block of which a part is lent, over its fields with no struct about them: what the part has, and what is left when it
-- was written.
use Rattle.std.proofs.Common.{◌≡◌, ℕ, ◌+◌, ◌-◌, ◌<◌, ◌≤◌, List, [], ◌∷◌, ◌++◌, length, take, drop, set, map, ap, ap₂, sym, subst, ◌∙◌, arith, length-append, length-drop}
use Rattle.std.proofs.lemmas.List.{length-take-le, take_all}
use Rattle.b2_vars.specs.declared.name.Var.{Var}
use Rattle.b2_vars.specs.declared.shape.Shape.{Shape}
use Rattle.b2_vars.specs.Shapes.{cost, alpha_bytes}
use Rattle.b2_vars.specs.Variables.{VariableState, overwritten, bytes_from, with_bytes}
use Rattle.b2_vars.specs.Tables.{Entries, table_of, variable_at}
use Rattle.b2_vars.specs.Block.{BlockState, state_of, entries_in, read_shape, number_of, lowered, without, StandsAt, IsLaid}
use Rattle.b2_vars.specs.Calls.{with_bytes_of}
use Rattle.b2_vars.specs.BlockLending.{with_last}
use Rattle.b2_vars.proofs.Overwriting.{vec-overwritten, length-overwritten}
use Rattle.b2_vars.proofs.ReadEntries.{entries-laid}
use Rattle.b2_vars.proofs.Steps.{same-area, used-room, cost-room, bytes-room, shape-read, stored-there, found-among, laid-around, starts-at}
use Rattle.b2_vars.proofs.MovingLast.{lent-part, table-moved}
use Rattle.b2_vars.proofs.Changes.{lend-step}

module _ (block : List ℕ) (used : ℕ) (places : List ℕ) (laid : IsLaid block used places (entries_in used block)) (b : BlockState) (view : record { area = length block; entries = entries_in used block } ≡ b) (v : Var) (place : ℕ) (stands : StandsAt v place b.entries) where
  abbrev x : VariableState
  x = variable_at v (table_of b.entries)

  -- the block with the first bytes from the place on after all others
  abbrev pub turned : ℕ → List ℕ
  turned size = take (place - 1) block ++ (drop size (take (used - (place - 1)) (drop (place - 1) block)) ++ (take size (take (used - (place - 1)) (drop (place - 1) block)) ++ drop used block))

  pub alpha-is : (s : Shape) (bs : List ℕ) → bs ≡ block → s ≡ read_shape v (drop (place - 1) bs) → alpha_bytes s ≡ length (variable_at v (table_of b.entries)).bytes
  alpha-is s bs same is = ap alpha_bytes (shape-read block used places laid b view v place stands s bs same is) ∙ sym (stored-there block used places laid b view v place stands).variable.bytes

  pub bytes-low : length (variable_at v (table_of b.entries)).bytes ≤ used
  bytes-low = omega (arith, bytes-room block used places laid b view v place stands)

  -- the program's words once the entry was moved: the bytes, the places, and where the part starts
  pub record IsTurned (ts spots : List ℕ) (size n start len from : ℕ) : Type 0 where
    pub size_is : size ≡ cost v (variable_at v (table_of b.entries)).shape
    pub bytes_are : ts ≡ turned size
    pub places_are : spots ≡ set (map (lowered place size) places) n (used - size + 1)
    pub number_is : n ≡ number_of v
    pub below : n < 1144
    pub start_is : start + length (variable_at v (table_of b.entries)).bytes ≡ used + from
    pub low : from ≤ length (variable_at v (table_of b.entries)).bytes
    pub len_is : len ≡ length ts

  module _ (ts spots : List ℕ) (size n start len from : ℕ) (is : IsTurned ts spots size n start len from) where
    turned-is : ts ≡ turned (cost v x.shape)
    turned-is = is.bytes_are ∙ ap turned is.size_is

    spots-are : spots ≡ set (map (lowered place (cost v x.shape)) places) (number_of v) (used - cost v x.shape + 1)
    spots-are = is.places_are ∙ ap₂ (λ (s m : ℕ). set (map (lowered place s) places) m (used - s + 1)) is.size_is is.number_is

    pub length-turned : length ts ≡ length block
    length-turned =
        let at = place - 1 in
        let m = take (used - at) (drop at block) in
        let s = cost v x.shape in
        let room = cost-room block used places laid b view v place stands in
        let all = used-room block used places laid b view in
        let long : length m ≡ used - at = length-take-le (used - at) (drop at block) (omega (arith, room, all, length-drop at block)) in
        ap (λ (c : List ℕ). length c) turned-is
        ∙ omega (
          arith,
          room,
          all,
          long,
          length-append (take at block) (drop s m ++ (take s m ++ drop used block)),
          length-append (drop s m) (take s m ++ drop used block),
          length-append (take s m) (drop used block),
          length-take-le at block (omega (arith, room, all)),
          length-drop s m,
          length-take-le s m (omega (arith, room, long)),
          length-drop used block,
        )

    start-low : start ≤ length ts
    start-low = omega (arith, length-turned, used-room block used places laid b view, is.start_is, is.low)

    -- THE PART THAT IS LENT
    pub part-is : (k : ℕ) → from + k ≤ length (variable_at v (table_of b.entries)).bytes → bytes_from start k ts ≡ bytes_from from k (variable_at v (table_of b.entries)).bytes
    part-is k low =
        let f = found-among block used places laid b view v place stands in
        ap₂ (λ (i : ℕ) (c : List ℕ). take i (drop start c)) (omega arith) turned-is
        ∙ lent-part v x f.front f.rest block used places (laid-around block used places laid b view v place stands) f.absent (omega (arith, is.below, is.number_is)) (place - 1) from start k
        (starts-at block used places laid b view v place stands) is.start_is low

    -- AND THE BLOCK AFTER IT WAS WRITTEN
    abbrev pub written : List ℕ → List ℕ
    written w = take len ((take start ts ++ (w ++ drop (length w) (drop start ts))) ++ drop (length (take start ts ++ (w ++ drop (length w) (drop start ts)))) ts)

    written-is : (w : List ℕ) → written w ≡ overwritten start w ts
    written-is w = vec-overwritten start w ts len is.len_is start-low

    abbrev moved : List ℕ → Entries
    moved w = without v b.entries ++ (v, with_bytes from x w) ∷ []

    laid-written : (w : List ℕ) → IsLaid (written w) used spots (moved w)
    laid-written w =
        let bytes : written w ≡ overwritten start w (turned (cost v x.shape)) = written-is w ∙ ap (overwritten start w) turned-is in
        subst (λ (c : List ℕ). IsLaid c used spots (moved w)) (sym bytes)
        (subst (λ (p : List ℕ). IsLaid (overwritten start w (turned (cost v x.shape))) used p (moved w)) (sym spots-are)
        (lend-step block used places laid b view v place stands from start w (omega (arith, is.below, is.number_is)) is.start_is is.low))

    pub lent-invariant : (w : List ℕ) → IsLaid (written w) used spots (entries_in used (written w))
    lent-invariant w = subst (IsLaid (written w) used spots) (sym (entries-laid (written w) used spots (moved w) (laid-written w))) (laid-written w)

    pub lent-view : (w : List ℕ) → record { area = length (written w); entries = entries_in used (written w) } ≡ with_last v from b w
    lent-view w =
        let area : length (written w) ≡ b.area = ap (λ (c : List ℕ). length c) (written-is w) ∙ length-overwritten start w ts ∙ length-turned ∙ same-area block used places laid b view in
        λ i. record { area = area i; entries = entries-laid (written w) used spots (moved w) (laid-written w) i }

-- what the variables are then
pub state-last : (v : Var) (from : ℕ) (b : BlockState) (w : List ℕ) → state_of (with_last v from b w) ≡ with_bytes_of v from (state_of b) w
state-last v from b w = λ i. record { area = b.area; table = table-moved v (with_bytes from (variable_at v (table_of b.entries)) w) b.entries i }

-- a part that is all
pub whole-part : (n : ℕ) (bytes : List ℕ) → n ≡ length bytes → bytes_from 0 n bytes ≡ bytes
whole-part n bytes same =
    let m : 0 + n - 0 ≡ n = omega arith in
    ap (λ (k : ℕ). take k bytes) m ∙ take_all n bytes (omega (arith, same))
