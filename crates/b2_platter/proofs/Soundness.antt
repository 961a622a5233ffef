-- What a good image says of each slot, and of each two.
use Rattle.std.proofs.Common.{◌≡◌, ℕ, zero, suc, ◌+◌, ◌-◌, ◌*◌, ◌<◌, ◌≤◌, Bool, true, List, refl, subst, inl, inr, arith}
use Rattle.std.specs.List.{list_all, range_with_len}
use Rattle.std.proofs.lemmas.Bool.{and_parts, and_from}
use Rattle.b2_platter.specs.declared.layout.Layout.{Layout}
use Rattle.b2_platter.specs.Slot.{is_spelled}
use Rattle.b2_platter.specs.Image.{row, index_of, next_free}
use Rattle.b2_platter.specs.Checks.{is_sized, has_head, is_ordered, lies_in, each_two, differ_in_name, is_reachable, lie_apart, is_controlled, Good}
use Rattle.b2_platter.proofs.Ranges.{list_all-at, list_all-from, here}
use Rattle.b2_platter.proofs.Goodness.{Checked-from_Good, Good-from_Checked}

pub record Sound (layout : Layout) (image : List ℕ) : Type 0 where
  pub sized : is_sized image ≡ true
  pub head : has_head layout image ≡ true
  pub ordered : is_ordered layout image ≡ true
  pub lies : (k : ℕ) → 1 ≤ k → k < 16 * index_of image → lies_in layout (index_of image) (next_free layout image) (row image k) ≡ true
  pub spelled : (k : ℕ) → 1 ≤ k → k < 16 * index_of image → is_spelled layout (row image k) ≡ true
  pub names : (j k : ℕ) → 1 ≤ j → j < k → k < 16 * index_of image → differ_in_name (row image j) (row image k) ≡ true
  pub reached : (k : ℕ) → 1 ≤ k → k < 16 * index_of image → is_reachable image k ≡ true
  pub apart : (j k : ℕ) → 1 ≤ j → j < k → k < 16 * index_of image → lie_apart layout (row image j) (row image k) ≡ true
  pub controls : (k : ℕ) → 1 ≤ k → k < 16 * index_of image → is_controlled layout image (row image k) ≡ true

-- what a relation between each two of a range says
pub each_two-at : (r : ℕ → ℕ → Bool) (a n : ℕ) → each_two r (range_with_len a n) ≡ true → (j k : ℕ) → a ≤ j → j < k → k < a + n → r j k ≡ true
each_two-at r a zero h j k low order high = absurd (omega arith)
each_two-at r a (suc n) h j k low order high =
    let parts = and_parts (list_all (r a) (range_with_len (a + 1) n)) (each_two r (range_with_len (a + 1) n)) h in
    let first : (a ≡ j → r j k ≡ true) = λ e. subst (λ (m : ℕ). r m k ≡ true) e (list_all-at (r a) (a + 1) n parts.0 k (omega arith) (omega arith)) in
    let later : (a + 1 ≤ j → r j k ≡ true) = λ l. each_two-at r (a + 1) n parts.1 j k l order (omega arith) in
    elim (here a j low) [ inl e ↦ first e | inr l ↦ later l ]

pub each_two-from : (r : ℕ → ℕ → Bool) (a n : ℕ) → ((j k : ℕ) → a ≤ j → j < k → k < a + n → r j k ≡ true) → each_two r (range_with_len a n) ≡ true
each_two-from r a zero h = refl
each_two-from r a (suc n) h =
    and_from _ _ (list_all-from (r a) (a + 1) n (λ k low high. h a k (omega arith) (omega arith) (omega arith))) (each_two-from r (a + 1) n (λ j k low order high. h j k (omega arith) order (omega arith)))

pub Sound-from_Good : (layout : Layout) (image : List ℕ) → Good layout image → Sound layout image
Sound-from_Good layout image good =
    let c = Checked-from_Good layout image good in
    record {
      sized = c.sized;
      head = c.head;
      ordered = c.ordered;
      lies = λ k low high. list_all-at _ 1 (16 * index_of image - 1) c.files k low (omega arith);
      spelled = λ k low high. list_all-at _ 1 (16 * index_of image - 1) c.spelled k low (omega arith);
      names = λ j k low order high. each_two-at _ 1 (16 * index_of image - 1) c.names j k low order (omega arith);
      reached = λ k low high. list_all-at _ 1 (16 * index_of image - 1) c.reached k low (omega arith);
      apart = λ j k low order high. each_two-at _ 1 (16 * index_of image - 1) c.apart j k low order (omega arith);
      controls = λ k low high. list_all-at _ 1 (16 * index_of image - 1) c.controls k low (omega arith);
    }

pub Good-from_Sound : (layout : Layout) (image : List ℕ) → Sound layout image → Good layout image
Good-from_Sound layout image s =
    Good-from_Checked layout image (record {
      sized = s.sized;
      head = s.head;
      ordered = s.ordered;
      files = list_all-from _ 1 (16 * index_of image - 1) (λ k low high. s.lies k low (omega arith));
      spelled = list_all-from _ 1 (16 * index_of image - 1) (λ k low high. s.spelled k low (omega arith));
      names = each_two-from _ 1 (16 * index_of image - 1) (λ j k low order high. s.names j k low order (omega arith));
      reached = list_all-from _ 1 (16 * index_of image - 1) (λ k low high. s.reached k low (omega arith));
      apart = each_two-from _ 1 (16 * index_of image - 1) (λ j k low order high. s.apart j k low order (omega arith));
      controls = list_all-from _ 1 (16 * index_of image - 1) (λ k low high. s.controls k low (omega arith));
    })
