-- A good image passes each of the nine checks, and an image that does is good.
use Rattle.std.proofs.Common.{◌≡◌, ℕ, ◌*◌, ◌/◌, ◌≤◌, Bool, true, false, not, cond, List, length, Option, Some, None, refl, arith}
use Rattle.b2_platter.specs.declared.layout.Layout.{Layout}
use Rattle.std.proofs.lemmas.Bool.{and_parts, leb-true, eqb-true}
use Rattle.b2_platter.specs.Layout.{most_sectors}
use Rattle.b2_platter.specs.Image.{total_of}
use Rattle.b2_platter.specs.Checks.{is_sized, has_head, is_ordered, all_lie_in, all_spelled, all_differ, all_reached, all_apart, all_controlled, first_check, Good}
use Rattle.b2_platter.proofs.Rooms.{Parts, Parts-from}

pub record Checked (layout : Layout) (image : List ℕ) : Type 0 where
  pub sized : is_sized image ≡ true
  pub head : has_head layout image ≡ true
  pub ordered : is_ordered layout image ≡ true
  pub files : all_lie_in layout image ≡ true
  pub spelled : all_spelled layout image ≡ true
  pub names : all_differ image ≡ true
  pub reached : all_reached image ≡ true
  pub apart : all_apart layout image ≡ true
  pub controls : all_controlled layout image ≡ true

passed : (b : Bool) (n : ℕ) (rest : Option ℕ) → cond (not b) (Some n) rest ≡ None → (b ≡ true) × (rest ≡ None)
passed true n rest h = (refl, h)
passed false n rest h = cc

passes : (b : Bool) (n : ℕ) (rest : Option ℕ) → b ≡ true → rest ≡ None → cond (not b) (Some n) rest ≡ None
passes true n rest e h = h
passes false n rest e h = cc

pub Checked-from_Good : (layout : Layout) (image : List ℕ) → Good layout image → Checked layout image
unfolding first_check
Checked-from_Good layout image good =
    let one = passed (is_sized image) 1 _ good in
    let two = passed (has_head layout image) 2 _ one.1 in
    let three = passed (is_ordered layout image) 3 _ two.1 in
    let four = passed (all_lie_in layout image) 4 _ three.1 in
    let five = passed (all_spelled layout image) 5 _ four.1 in
    let six = passed (all_differ image) 6 _ five.1 in
    let seven = passed (all_reached image) 7 _ six.1 in
    let eight = passed (all_apart layout image) 8 _ seven.1 in
    let nine = passed (all_controlled layout image) 9 None eight.1 in
    record {
      sized = one.0;
      head = two.0;
      ordered = three.0;
      files = four.0;
      spelled = five.0;
      names = six.0;
      reached = seven.0;
      apart = eight.0;
      controls = nine.0;
    }

pub Good-from_Checked : (layout : Layout) (image : List ℕ) → Checked layout image → Good layout image
unfolding first_check
Good-from_Checked layout image c =
    passes _ 1 _ c.sized (passes _ 2 _ c.head (passes _ 3 _ c.ordered (passes _ 4 _ c.files (passes _ 5 _ c.spelled (passes _ 6 _ c.names (passes _ 7 _ c.reached (passes _ 8 _ c.apart (passes _ 9 _ c.controls refl))))))))

pub Parts-of : (layout : Layout) (image : List ℕ) → Good layout image → Parts layout image
Parts-of layout image good =
    let c = Checked-from_Good layout image good in Parts-from layout image c.sized c.head c.ordered

-- facts that `grind` can use
pub sectors_of_good : (layout : Layout) (image : List ℕ) → Good layout image → length image ≡ 256 * total_of layout image
sectors_of_good layout image good = (Parts-of layout image good).whole

pub least_of_good : (layout : Layout) (image : List ℕ) → Good layout image → 4096 ≤ length image
least_of_good layout image good = (Parts-of layout image good).least

pub most_of_good : (layout : Layout) (image : List ℕ) → Good layout image → total_of layout image ≤ most_sectors layout
unfolding has_head
most_of_good layout image good =
    let c = Checked-from_Good layout image good in
    let h = and_parts _ _ c.head in
    let h' = and_parts _ _ h.0 in
    let h'' = and_parts _ _ h'.0 in
    let front = and_parts _ _ h''.0 in
    let most : length image / 256 ≤ most_sectors layout = leb-true _ _ front.1 in
    let total : total_of layout image ≡ length image / 256 = eqb-true _ _ h'.1 in
    omega (arith, most, total)
