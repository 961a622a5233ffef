-- What lines take after a change.
use Rattle.std.proofs.Common.{◌≡◌, ℕ, ◌+◌, ◌<◌, ◌≤◌, Bool, true, false, cond, List, [], ◌∷◌, refl, ap, arith, Option, Some, None, nat_cmp, Ordering, Less, Equal, Greater, is_eq}
use Rattle.std.proofs.lemmas.Bool.Decides.{nat_tests}
use Rattle.std.specs.Option.{option_map_or}
use Rattle.std.specs.List.{AllByRecursion}
use Rattle.std.specs.List.Sorted.{IsStrictlySortedBy}
use Rattle.std.specs.Map.{lookup, keys_of}
use Rattle.std.specs.BTreeMap.{is_at}
use Rattle.std.specs.Ordering.{match_ordering}
use Rattle.b2_text.specs.Program.{Lines, cost, size_of, cost_at, with_line}

part_by : (b : Bool) (e : ℕ × List ℕ) (es : Lines) (o : Option (List ℕ)) → option_map_or cost o 0 ≤ size_of es
    → option_map_or cost (cond b (Some e.1) o) 0 ≤ cost e.1 + size_of es
part_by true e es o h = omega arith
part_by false e es o h = omega (arith, h)

-- what a line takes is part of the size
pub cost_at-le : (n : ℕ) (es : Lines) → cost_at n es ≤ size_of es
cost_at-le n [] = omega arith
cost_at-le n (e ∷ es) = part_by (is_eq (nat_cmp n e.0)) e es (lookup (is_at (nat_cmp n)) es) (cost_at-le n es)

pub less : (n m : ℕ) → nat_cmp n m ≡ Less → n < m
less n m h = grind (arith, nat_tests)

not_at : (n m : ℕ) → n < m → is_eq (nat_cmp n m) ≡ false
not_at n m h = grind (arith, nat_tests)

skipped : (b : Bool) (a : List ℕ) (o : Option (List ℕ)) → b ≡ false → o ≡ None → cond b (Some a) o ≡ None
skipped true a o b_is o_is = cc
skipped false a o b_is o_is = o_is

none_above : (n m : ℕ) (es : Lines) → n < m → AllByRecursion (λ y. nat_cmp m y ≡ Less) (keys_of es) → lookup (is_at (nat_cmp n)) es ≡ None
none_above n m [] below above = refl
none_above n m (e ∷ es) below above =
    let first : n < e.0 = let h = less m e.0 above.0 in omega (arith, below, h) in
    skipped (is_eq (nat_cmp n e.0)) e.1 (lookup (is_at (nat_cmp n)) es) (not_at n e.0 first) (none_above n m es below above.1)

put_by : (o : Ordering) (n : ℕ) (a : List ℕ) (e : ℕ × List ℕ) (es rest : Lines) (there : Option (List ℕ))
    → (o ≡ Less → there ≡ None) → size_of rest + option_map_or cost there 0 ≡ size_of es + cost a
    → size_of (match_ordering o ((n, a) ∷ e ∷ es) ((e.0, a) ∷ es) (e ∷ rest)) + option_map_or cost (cond (is_eq o) (Some e.1) there) 0 ≡ cost e.1 + size_of es + cost a
put_by Less n a e es rest there none h = let zero_cost = ap (λ (o : Option (List ℕ)). option_map_or cost o 0) (none refl) in omega (arith, zero_cost)
put_by Equal n a e es rest there none h = omega arith
put_by Greater n a e es rest there none h = omega (arith, h)

-- a line that is put gives back what one of its number took
pub size_of-with_line : (n : ℕ) (a : List ℕ) (es : Lines) → IsStrictlySortedBy nat_cmp (keys_of es) → size_of (with_line n a es) + cost_at n es ≡ size_of es + cost a
unfolding IsStrictlySortedBy
size_of-with_line n a [] ordered = omega arith
size_of-with_line n a (e ∷ es) ordered =
    put_by (nat_cmp n e.0) n a e es (with_line n a es) (lookup (is_at (nat_cmp n)) es)
    (λ first. none_above n e.0 es (less n e.0 first) ordered.0)
    (size_of-with_line n a es ordered.1)
