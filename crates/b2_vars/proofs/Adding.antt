-- A block after a variable is put after the others, and before any is.
use Rattle.std.proofs.Common.{◌≡◌, ℕ, zero, suc, ◌+◌, ◌*◌, ◌<◌, ◌≤◌, Bool, true, false, List, [], ◌∷◌, ◌++◌, length, take, drop, get_or, set, replicate, refl, ap, ap₂, sym, ◌∙◌, arith, true≢false, append_assoc, length-append}
use Rattle.std.specs.Ordering.{eq_by_cmp}
use Rattle.std.proofs.lemmas.List.{take-append-drop, length-take-le, length-set, length-replicate, get_or-set_same, get_or-set_other}
use Rattle.b2_base.specs.Byte as byte
use Rattle.b2_vars.specs.declared.name.Var.{Var}
use Rattle.b2_vars.specs.declared.shape.Shape.{Shape}
use Rattle.b2_vars.specs.Names.{var_cmp, is_legal_name}
use Rattle.b2_vars.specs.Shapes.{cost, overhead, number_cells, alpha_bytes, has_dimensions, has_length}
use Rattle.b2_vars.specs.Variables.{VariableState, overwritten, fresh}
use Rattle.b2_vars.specs.Tables.{Entries, costs, table_of}
use Rattle.b2_vars.specs.Calls.{with_variable}
use Rattle.b2_vars.specs.Block.{head_bytes, entry_bytes, spelled, names, number_of, place_of, place_from, stands_in, IsStored, IsLaid}
use Rattle.b2_vars.proofs.Overwriting.{length-overwritten, over-at, over-after, over-two}
use Rattle.b2_vars.proofs.Heads.{length-head}
use Rattle.b2_vars.proofs.PackedNumbers.{zeros-packed, all-zero}
use Rattle.b2_vars.proofs.ReadEntries.{length-entry}
use Rattle.b2_vars.proofs.EntriesAsMap.{itself, tie}
use Rattle.b2_vars.proofs.NameNumbers.{number-back}
use Rattle.b2_vars.proofs.Standing.{spelled-append, length-spelled}
use Rattle.b2_vars.proofs.Places.{place-before-last, place-of-last, table-last, stored-last}
use Rattle.b2_vars.proofs.Laying.{Shows}
use Rattle.b2_vars.proofs.Soundness.{fresh-variable}

place-set : (v : Var) (x : VariableState) (es : Entries) (places : List ℕ) (at : ℕ) → is_legal_name v ≡ true → stands_in v es ≡ false → at ≡ 1 + costs es → number_of v < length places
    → ((q : Var) → is_legal_name q ≡ true → get_or places (number_of q) 0 ≡ place_of q es)
    → (q : Var) → is_legal_name q ≡ true → get_or (set places (number_of v) at) (number_of q) 0 ≡ place_of q (es ++ (v, x) ∷ [])
unfolding place_of
place-set v x es places at named none is below old q legal = by (eq_by_cmp var_cmp q v) refl
  where
    by : (b : Bool) → eq_by_cmp var_cmp q v ≡ b → get_or (set places (number_of v) at) (number_of q) 0 ≡ place_from 1 q (es ++ (v, x) ∷ [])
    by true t =
        let e = tie q v t in
        ap (λ (w : Var). get_or (set places (number_of v) at) (number_of w) 0) e ∙ get_or-set_same places (number_of v) at 0 below
        ∙ is ∙ sym (place-of-last v x 1 es none) ∙ ap (λ (w : Var). place_from 1 w (es ++ (v, x) ∷ [])) (sym e)
    by false t =
        get_or-set_other places (number_of v) (number_of q) at 0 (λ w. true≢false (sym (itself v) ∙ ap (λ (u : Var). eq_by_cmp var_cmp u v) (sym (number-back q v legal named w)) ∙ t))
        ∙ old q legal ∙ sym (place-before-last q v x 1 es t)

module _ (block : List ℕ) (used : ℕ) (places : List ℕ) (es : Entries) (laid : IsLaid block used places es) (v : Var) (x : VariableState) (none : stands_in v es ≡ false) (is : IsStored v x) (below : number_of v < 1144)
    (room : used + cost v x.shape ≤ length block) where
  entry : List ℕ
  entry = entry_bytes (v, x)

  free_room : length (entry_bytes (v, x)) ≤ length laid.rest
  free_room = omega (arith, room, laid.counted, ap (λ (b : List ℕ). length b) laid.written, length-append (spelled es) laid.rest, length-entry v x is.variable)

  more : spelled (es ++ (v, x) ∷ []) ≡ spelled es ++ entry_bytes (v, x)
  more = spelled-append es ((v, x) ∷ []) ∙ ap (λ (b : List ℕ). spelled es ++ b) (nothing_after (entry_bytes (v, x)))
    where
      nothing_after : (b : List ℕ) → b ++ [] ≡ b
      nothing_after [] = refl
      nothing_after (c ∷ b) = ap (λ (bs : List ℕ). c ∷ bs) (nothing_after b)

  written : overwritten used (entry_bytes (v, x)) block ≡ spelled (es ++ (v, x) ∷ []) ++ drop (length (entry_bytes (v, x))) laid.rest
  written =
      let w = entry_bytes (v, x) in
      let start : used ≡ length (spelled es) + 0 = omega (arith, laid.counted) in
      let cut : overwritten 0 w laid.rest ≡ w ++ drop (length w) laid.rest =
      ap (overwritten 0 w) (sym (take-append-drop (length w) laid.rest)) ∙ over-at 0 [] (take (length w) laid.rest) w (drop (length w) laid.rest) refl (length-take-le (length w) laid.rest free_room) in
      ap₂ (λ (n : ℕ) (b : List ℕ). overwritten n w b) start laid.written
      ∙ over-after (spelled es) laid.rest w 0 (omega (arith, free_room))
      ∙ ap (λ (b : List ℕ). spelled es ++ b) cut
      ∙ sym (append_assoc (spelled es) w (drop (length w) laid.rest)) ∙ ap (λ (b : List ℕ). b ++ drop (length w) laid.rest) (sym more)

  pub shows-added : Shows (overwritten used (entry_bytes (v, x)) block) (used + cost v x.shape) (set places (number_of v) (used + 1)) (with_variable v x (record { area = length block; table = table_of es }))
  shows-added = record {
    entries = es ++ (v, x) ∷ [];
    laid = record {
      rest = drop (length (entry_bytes (v, x))) laid.rest;
      written = written;
      counted = omega (arith, laid.counted, ap (λ (b : List ℕ). length b) more, length-append (spelled es) (entry_bytes (v, x)), length-entry v x is.variable);
      short = omega (arith, length-overwritten used (entry_bytes (v, x)) block, laid.short);
      stored = stored-last v x es laid.stored none is;
      named = length-set places (number_of v) (used + 1) ∙ laid.named;
      found = place-set v x es places (used + 1) is.variable.named none (omega (arith, laid.counted, length-spelled es laid.stored)) (omega (arith, below, laid.named)) laid.found;
    };
    state = λ i. record { area = length-overwritten used (entry_bytes (v, x)) block i; table = table-last v x es none i };
  }

pub fresh-stored : (v : Var) (s : Shape) (common : Bool) → is_legal_name v ≡ true → has_dimensions v s ≡ true → has_length v s ≡ true → IsStored v (fresh v s common)
fresh-stored v s common named dimensions value_length = record {
  variable = fresh-variable v s common named dimensions value_length;
  numbers = all-zero (number_cells v s);
}

-- an entry of zeros or blanks, written piece by piece
pub fresh-written : (v : Var) (s : Shape) (common : Bool) (at : ℕ) (block : List ℕ) → at + length (entry_bytes (v, fresh v s common)) ≤ length block
    → overwritten (at + overhead v + number_cells v s * 8) (replicate (alpha_bytes s) byte.blank) (overwritten (at + overhead v) (replicate (number_cells v s * 8) 0) (overwritten at (head_bytes v s common) block))
    ≡ overwritten at (entry_bytes (v, fresh v s common)) block
fresh-written v s common at block room =
    let head = head_bytes v s common in
    let numbers = replicate (number_cells v s * 8) 0 in
    let blanks = replicate (alpha_bytes s) byte.blank in
    let long : length head ≡ overhead v = length-head v s common in
    let wide : length numbers ≡ number_cells v s * 8 = length-replicate (number_cells v s * 8) 0 in
    let entry : entry_bytes (v, fresh v s common) ≡ (head ++ numbers) ++ blanks =
    ap (λ (b : List ℕ). head ++ (b ++ blanks)) (zeros-packed (number_cells v s)) ∙ sym (append_assoc head numbers blanks) in
    let all : length (entry_bytes (v, fresh v s common)) ≡ length head + length numbers + length blanks =
    ap (λ (b : List ℕ). length b) entry ∙ length-append (head ++ numbers) blanks ∙ ap (λ (n : ℕ). n + length blanks) (length-append head numbers) in
    let first : overwritten (at + overhead v) numbers (overwritten at head block) ≡ overwritten at (head ++ numbers) block =
    ap (λ (n : ℕ). overwritten (at + n) numbers (overwritten at head block)) (sym long) ∙ over-two at head numbers block (omega (arith, room, all)) in
    let place : at + overhead v + number_cells v s * 8 ≡ at + length (head ++ numbers) = omega (arith, long, wide, length-append head numbers) in
    ap₂ (λ (n : ℕ) (b : List ℕ). overwritten n blanks b) place first
    ∙ over-two at (head ++ numbers) blanks block (omega (arith, room, all, length-append head numbers))
    ∙ ap (λ (b : List ℕ). overwritten at b block) (sym entry)

-- nothing stands anywhere
no_place : (n k : ℕ) → get_or (replicate {A = ℕ} n 0) k 0 ≡ 0
no_place zero k = refl
no_place (suc n) zero = refl
no_place (suc n) (suc k) = no_place n k

pub laid-empty : (block places : List ℕ) → length block ≤ 4294967295 → places ≡ replicate names 0 → IsLaid block 0 places []
unfolding place_of
laid-empty block places short e = record {
  rest = block;
  written = refl;
  counted = refl;
  short = short;
  stored = tt;
  named = ap (λ (ns : List ℕ). length ns) e ∙ length-replicate {A = ℕ} names 0;
  found = λ q legal. ap (λ (ns : List ℕ). get_or ns (number_of q) 0) e ∙ no_place names (number_of q);
}
