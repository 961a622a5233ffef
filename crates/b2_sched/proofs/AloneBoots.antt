-- The world of a boot and that of the boot with a group alone.
use Rattle.std.specs.Prelude.{◌≡◌, ℕ, ◌==◌, Bool, true, false, cond, List, [], ◌∷◌, filter, map, Option, Some, None, is_some, unwrap_or, refl}
use Rattle.std.proofs.Common.{sym, ap, subst, ◌∙◌}
use Rattle.b2_access.specs.Homes.{IsWithin, PlaceIn}
use Rattle.b2_access.specs.Partition.{starting_place}
use Rattle.b2_access.specs.Rows.{row_of}
use Rattle.b2_access.specs.Store.{content}
use Rattle.b2_access.specs.declared.objects.Object.{Object}
use Rattle.b2_access.specs.declared.objects.Object.TheVariants as object
use Rattle.b2_access.specs.declared.private.Private.{Private}
use Rattle.b2_audit.specs.Steps.{Group}
use Rattle.b2_boot.specs.Alone.{alone}
use Rattle.b2_boot.specs.Boots.{BootState}
use Rattle.b2_boot.specs.declared.boot.BootPartition.{BootPartition}
use Rattle.b2_store.specs.Start.{Areas, borrow_row, globals_row, text_row}
use Rattle.b2_sched.proofs.GroupRows.{is_it}
use Rattle.b2_sched.proofs.GroupRuns.{group_relies}
use Rattle.b2_sched.proofs.Numbers.{same_number}
use Rattle.b2_sched.specs.Groups.{CleanGroupsAreAsAlone, IsOutside, WorldsAlike}
use Rattle.b2_sched.specs.Start.{Images, areas_of, booted, private_row, starting_line, store_booted}

both_maps : {A B C : Type 0} (k : B → C) (f : A → B) (xs : List A) → map k (map f xs) ≡ map (λ x. k (f x)) xs
both_maps k f [] = refl
both_maps {C = C} k f (x ∷ xs) = ap (λ (ys : List C). k (f x) ∷ ys) (both_maps k f xs)

module _ (g : Group) (p : ℕ) where
  abbrev members : List BootPartition → List BootPartition
  members ps = filter (λ x. g x.number) ps

  module _ {X : Type 0} (h : BootPartition → X) where
    abbrev rows : List BootPartition → List (ℕ × X)
    rows ps = map (λ x. (x.number, h x)) ps

    nobody : (b : Bool) → ◌≡◌ {A = Option X} None (cond b None None)
    nobody true = refl
    nobody false = refl

    -- the row of a number among the members' is that among all, for a member, and there is none for another
    kept : (ps : List BootPartition) → row_of p (rows (members ps)) ≡ cond (g p) (row_of p (rows ps)) None
    kept [] = nobody (g p)
    kept (x ∷ xs) = by (x.number == p) refl (kept xs)
      where
        here : row_of p (rows (members xs)) ≡ cond (g p) (row_of p (rows xs)) None → (x.number == p) ≡ true → (b : Bool) → g p ≡ b → row_of p (rows (cond b (x ∷ members xs) (members xs))) ≡ cond b (row_of p (rows (x ∷ xs))) None
        here later e true is = ap (λ t. cond t (Some (h x)) (row_of p (rows (members xs)))) e ∙ sym (ap (λ t. cond t (Some (h x)) (row_of p (rows xs))) e)
        here later e false is = later ∙ ap (λ t. cond t (row_of p (rows xs)) None) is

        there : (x.number == p) ≡ false → (b : Bool) → row_of p (rows (cond b (x ∷ members xs) (members xs))) ≡ row_of p (rows (members xs))
        there e true = ap (λ t. cond t (Some (h x)) (row_of p (rows (members xs)))) e
        there e false = refl

        by : (b : Bool) → (x.number == p) ≡ b → row_of p (rows (members xs)) ≡ cond (g p) (row_of p (rows xs)) None → row_of p (rows (members (x ∷ xs))) ≡ cond (g p) (row_of p (rows (x ∷ xs))) None
        by true e later = ap (λ t. row_of p (rows (cond t (x ∷ members xs) (members xs)))) (ap g (same_number x.number p e)) ∙ here later e (g p) refl
        by false e later = there e (g x.number) ∙ later ∙ ap (λ t. cond (g p) (cond t (Some (h x)) (row_of p (rows xs))) None) (sym e)

    of_member : (ps : List BootPartition) → g p ≡ true → row_of p (rows ps) ≡ row_of p (rows (members ps))
    of_member ps is = sym (kept ps ∙ ap (λ t. cond t (row_of p (rows ps)) None) is)

    of_another : (ps : List BootPartition) → g p ≡ false → row_of p (rows (members ps)) ≡ None
    of_another ps is = kept ps ∙ ap (λ t. cond t (row_of p (rows ps)) None) is

  -- rows made of the areas of partitions
  areas_kept : {X : Type 0} (h : Areas → X) (ps : List BootPartition) → g p ≡ true → row_of p (map (λ a. (a.0, h a)) (map areas_of ps)) ≡ row_of p (map (λ a. (a.0, h a)) (map areas_of (members ps)))
  areas_kept h ps is =
      ap (row_of p) (both_maps (λ a. (a.0, h a)) areas_of ps) ∙ of_member (λ x. h (areas_of x)) ps is ∙ sym (ap (row_of p) (both_maps (λ a. (a.0, h a)) areas_of (members ps)))

  -- a member at the start names itself alone, also where it is at an immediate line
  first_unit : (q : ℕ) (line : Option (List ℕ)) → g q ≡ true → PlaceIn g (starting_place q line)
  first_unit q None member = tt
  first_unit q (Some line) member = member

  pub starts_within : (ps : List BootPartition) (me : Private) → g p ≡ true → row_of p (map private_row ps) ≡ Some me → IsWithin g me
  starts_within [] me member is = let clash : false ≡ true = ap (λ (o : Option Private). is_some o) is in cc
  starts_within (x ∷ xs) me member is = by (x.number == p) refl (λ found. starts_within xs me member found) is
    where
      is_member : (x.number == p) ≡ true → g x.number ≡ true
      is_member e = ap g (same_number x.number p e) ∙ member

      by : (b : Bool) → (x.number == p) ≡ b → (row_of p (map private_row xs) ≡ Some me → IsWithin g me) → cond b (Some (private_row x).1) (row_of p (map private_row xs)) ≡ Some me → IsWithin g me
      by true e later found = subst (λ (you : Private). IsWithin g you) (is_it (private_row x).1 me found) (record { part = is_member e; place = first_unit x.number (starting_line x.program) (is_member e); kept = tt; frames = tt })
      by false e later found = later found

pub in_group : (b : Bool) → (b ≡ false → ⊥) → b ≡ true
in_group true out = refl
in_group false out = absurd (out refl)

objects : (g : Group) (b : BootState) (images : Images) (o : Object) → (IsOutside g o → ⊥) → content (store_booted b images) o ≡ content (store_booted (alone g b) images) o
objects g b images (object.Text p) inside = areas_kept g p (λ a. (text_row a).1) b.partitions (in_group (g p) inside)
objects g b images (object.Borrow p) inside = areas_kept g p (λ a. (borrow_row a).1) b.partitions (in_group (g p) inside)
objects g b images (object.Globals p) inside = areas_kept g p (λ a. (globals_row a).1) b.partitions (in_group (g p) inside)
objects g b images (object.Terminal t) inside = refl
objects g b images o inside = refl

-- a name that nobody holds leads to nobody
pub held_by_nobody : (p : ℕ) → ◌≡◌ {A = Option (Option ℕ)} (Some None) (Some (Some p)) → ⊥
held_by_nobody p e = cc

pub starts_alike : (g : Group) (b : BootState) (images : Images) → WorldsAlike (IsOutside g) g [] (booted b images) (booted (alone g b) images)
starts_alike g b images = record {
  quotas = λ p member. ap (λ (o : Option ℕ). unwrap_or o 1) (of_member g p (λ (x : BootPartition). unwrap_or x.quota b.quota) b.partitions member);
  devices = λ p member printer a. refl;
  privates = record {
    members = λ p member. of_member g p (λ x. (private_row x).1) b.partitions member;
    absent = λ p out. of_another g p (λ x. (private_row x).1) b.partitions out;
    homes = λ p me member is. starts_within g p b.partitions me member is;
  };
  stores = λ o clear inside. objects g b images o inside;
  names = λ n p clear leads. absurd (held_by_nobody p leads);
}

pub as_alone : CleanGroupsAreAsAlone
as_alone g b images log clean =
    let after = group_relies g log (booted b images) (booted (alone g b) images) (starts_alike g b images) clean in
    (after.privates.members, λ o inside clear. after.stores o clear inside)
