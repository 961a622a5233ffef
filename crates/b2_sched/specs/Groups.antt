-- What a group of partitions can rely on.
use Rattle.std.specs.Prelude.{◌≡◌, ◌≢◌, ℕ, true, false, List, [], ◌∷◌, ◌++◌, Some, None}
use Rattle.b2_access.specs.declared.objects.Object.{Object}
use Rattle.b2_access.specs.declared.objects.Object.TheVariants as object
use Rattle.b2_access.specs.declared.private.Private.{Private}
use Rattle.b2_access.specs.Homes.{IsWithin}
use Rattle.b2_access.specs.Leading.{LeadsTo}
use Rattle.b2_access.specs.Rows.{row_of}
use Rattle.b2_access.specs.Store.{StoreState, IsIn, content}
use Rattle.b2_audit.specs.Steps.{Step, Group, foul, IsClean}
use Rattle.b2_language.specs.Languages.{ListAlike}
use Rattle.b2_boot.specs.Alone.{alone}
use Rattle.b2_boot.specs.Boots.{BootState}
use Rattle.b2_boot.specs.Quotas.{quota_at}
use Rattle.b2_boot.specs.declared.log.Event.{Event}
use Rattle.b2_sched.specs.Laws.{all_actions}
use Rattle.b2_sched.specs.Start.{Images, booted}
use Rattle.b2_sched.specs.Turns.{noted_by}
use Rattle.b2_sched.specs.World.{WorldState, Action, Key, Front, Halt, Reset, Turn, does, private_of, ran}

-- the steps of an action: those of a turn
abbrev pub steps_at : Action → WorldState → List Step
steps_at (Key t k) w = []
steps_at (Front t p) w = []
steps_at (Halt p) w = []
steps_at (Reset p) w = []
steps_at (Turn p n) w = noted_by w.devices p n (private_of p w) w.store

abbrev pub steps_along : List Action → WorldState → List Step
steps_along [] w = []
steps_along (a ∷ rest) w = steps_at a w ++ steps_along rest (does a w)

-- ALL STEPS OF A LOG, in order
abbrev pub steps_of : List Event → WorldState → List Step
steps_of log w = steps_along (all_actions w.quotas log) w

-- the objects of partitions outside a group, which two worlds need not have in common
abbrev pub IsOutside : Group → Object → Type 0
IsOutside g (object.Text p) = g p ≡ false
IsOutside g (object.Borrow p) = g p ≡ false
IsOutside g (object.Globals p) = g p ≡ false
IsOutside g o = ⊥

-- The own states of two worlds, of which the second has a group alone: members have the same in both, and name members alone as
-- homes.
pub record MembersAlike (g : Group) (ws vs : List (ℕ × Private)) : Type 0 where
  pub members : (p : ℕ) → g p ≡ true → row_of p ws ≡ row_of p vs
  pub absent : (p : ℕ) → g p ≡ false → row_of p vs ≡ None
  pub homes : (p : ℕ) (me : Private) → g p ≡ true → row_of p ws ≡ Some me → IsWithin g me

-- two stores have each object in common that isn't foul, and isn't of a family that is left out
abbrev pub StoresAlike : (Object → Type 0) → List Object → StoreState → StoreState → Type 0
StoresAlike out dirty s t = (o : Object) → (IsIn o dirty → ⊥) → (out o → ⊥) → content s o ≡ content t o

-- each name that isn't foul is held by a member, or by nobody
abbrev pub NamesLead : Group → List Object → StoreState → Type 0
NamesLead g dirty s = (n : List ℕ) (p : ℕ) → (IsIn (object.Name n) dirty → ⊥) → LeadsTo s n p → g p ≡ true

-- THE INVARIANT of a world and that of a group alone, where some objects are foul: members have the same quotas, and the tables of devices
-- list the same for them
pub record WorldsAlike (out : Object → Type 0) (g : Group) (dirty : List Object) (w v : WorldState) : Type 0 where
  pub quotas : (p : ℕ) → g p ≡ true → quota_at p w.quotas ≡ quota_at p v.quotas
  pub devices : (p : ℕ) → g p ≡ true → ListAlike p w.devices v.devices
  pub privates : MembersAlike g w.privates v.privates
  pub stores : StoresAlike out dirty w.store v.store
  pub names : NamesLead g dirty w.store

-- A group of partitions is clean where none of its steps touches what a step of another wrote before. Whatever a clean group has in
-- common with the group alone, it has so after any log, but for what others wrote.
abbrev pub GroupsRelyOnTheirOwn : Type 0
GroupsRelyOnTheirOwn = (g : Group) (log : List Event) (w v : WorldState) → WorldsAlike (IsOutside g) g [] w v → IsClean g (steps_of log w)
    → WorldsAlike (IsOutside g) g (foul g (steps_of log w)) (ran log w) (ran log v)

-- THE GROUP THEOREM: after any log each member of a clean group has the own state, and each object that no other wrote has the
-- contents, that they have in the world booted with the group alone under the same log. What belongs to others isn't compared.
abbrev pub CleanGroupsAreAsAlone : Type 0
CleanGroupsAreAsAlone = (g : Group) (b : BootState) (images : Images) (log : List Event) → IsClean g (steps_of log (booted b images))
    → ((p : ℕ) → g p ≡ true → private_of p (ran log (booted b images)) ≡ private_of p (ran log (booted (alone g b) images)))
    × ((o : Object) → (IsOutside g o → ⊥) → (IsIn o (foul g (steps_of log (booted b images))) → ⊥) → content (ran log (booted b images)).store o ≡ content (ran log (booted (alone g b) images)).store o)

-- No turn of a partition changes the text of another.
abbrev pub TurnsChangeTheirOwn : Type 0
TurnsChangeTheirOwn = (b : BootState) (images : Images) (log : List Event) (p n q : ℕ) → q ≢ p
    → content (does (Turn p n) (ran log (booted b images))).store (object.Text q) ≡ content (ran log (booted b images)).store (object.Text q)
