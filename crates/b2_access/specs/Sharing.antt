-- What a shared store is: how it serves, and that serving is local.
use Rattle.std.specs.Prelude.{◌≡◌, ℕ, List, IsSome}
use Rattle.b2_access.specs.declared.objects.Object.{Object}
use Rattle.b2_access.specs.declared.accesses.Access.{Access}
use Rattle.b2_access.specs.declared.accesses.Answer.{Answer}
use Rattle.b2_access.specs.Store.{StoreState, content, IsIn, AgreeOn}
use Rattle.b2_access.specs.Touching.{touched, written_by}

-- an answer, and what is meant after it
pub record Gives (M : Type 0) : Type 0 where
  pub after : M
  pub answer : Answer

-- a way of serving the accesses of partitions
abbrev pub ServingOf : Type 0 → Type 0
ServingOf M = M → ℕ → Access → Gives M

module _ {M : Type 0} (store : M → StoreState) (serving : ServingOf M) where
  -- the objects that an access writes
  abbrev pub writes : M → ℕ → Access → List Object
  writes m who a = written_by (serving m who a).answer who a

  -- an access is served alike from two meanings
  pub record ServesAlike (who : ℕ) (a : Access) (m n : M) : Type 0 where
    pub touches : touched (store m) who a ≡ touched (store n) who a
    pub wrote : writes m who a ≡ writes n who a
    pub answers : (serving m who a).answer ≡ (serving n who a).answer
    pub contents : AgreeOn (writes m who a) (store (serving m who a).after) (store (serving n who a).after)

  -- Two stores that agree on what an access touches serve it alike; all that it doesn't write stays; and what it writes it
  -- touches.
  pub record IsLocal : Type 0 where
    pub alike : (who : ℕ) (a : Access) (m n : M) → AgreeOn (touched (store m) who a) (store m) (store n) → ServesAlike who a m n
    pub others : (who : ℕ) (a : Access) (m : M) (o : Object) → (IsIn o (writes m who a) → ⊥) → content (store (serving m who a).after) o ≡ content (store m) o
    pub within : (who : ℕ) (a : Access) (m : M) (o : Object) → IsIn o (writes m who a) → IsIn o (touched (store m) who a)

  -- what is listed stays so
  abbrev pub KeepsListed : Type 0
  KeepsListed = (who : ℕ) (a : Access) (m : M) (o : Object) → IsSome (content (store m) o) → IsSome (content (store (serving m who a).after) o)
