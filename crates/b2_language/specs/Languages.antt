-- A language: which rows are built, what their statements plan, and how they finish; and what it owes its machine.
use Rattle.std.specs.Prelude.{◌≡◌, ℕ, Bool, List, false}
use Rattle.b2_atom.specs.declared.rows.TheConstants as row
use Rattle.b2_access.specs.Devices.{has_device}
use Rattle.b2_access.specs.LeftAlone.{LeaveTheRest}
use Rattle.b2_access.specs.Lending.{SeenLent}
use Rattle.b2_access.specs.OpenFiles.{FinishesKeepOpenFiles, PlansKeepOpenFiles}
use Rattle.b2_access.specs.OwnDevices.{PlansListed}
use Rattle.b2_access.specs.Planning.{Finishing, Planning}
use Rattle.b2_access.specs.LegalPlans.{PlansLegally}
use Rattle.b2_access.specs.declared.accesses.Access.{Access}
use Rattle.b2_access.specs.declared.accesses.Answer.{Answer}
use Rattle.b2_access.specs.declared.devices.Device.{Device}
use Rattle.b2_access.specs.declared.private.Private.{Private}

-- what the statements of a language do, by their rows
pub record Ways : Type 0 where
  pub built : ℕ → Bool
  pub plan : ℕ → Private → SeenLent → Planning
  pub finish : ℕ → Access → Answer → Private → SeenLent → Finishing

-- a statement leaves which partition it is
abbrev pub PlansKeepPart : (Private → SeenLent → Planning) → Type 0
PlansKeepPart plan = (me : Private) (s : SeenLent) → (plan me s).me.part ≡ me.part

abbrev pub FinishesKeepPart : (Access → Answer → Private → SeenLent → Finishing) → Type 0
FinishesKeepPart finish = (x : Access) (a : Answer) (me : Private) (s : SeenLent) → (finish x a me s).me.part ≡ me.part

-- WHAT A LANGUAGE OWES ITS MACHINE. LIST is the machine's own. What a statement asks for may be asked for; of its partition,
-- and of all others, it leaves alone what no statement changes, and which one it is.
pub record AreLawful (ways : Ways) : Type 0 where
  pub no_list : ways.built row.LIST ≡ false
  pub plans_legally : (r : ℕ) → PlansLegally (ways.plan r)
  pub leave_the_rest : (r : ℕ) → LeaveTheRest (ways.plan r) (ways.finish r)
  pub plans_keep_part : (r : ℕ) → PlansKeepPart (ways.plan r)
  pub finishes_keep_part : (r : ℕ) → FinishesKeepPart (ways.finish r)

-- And over the devices that there are: a statement of any row plans by the table, which lists what it asks for.
abbrev pub AskForListed : (List Device → Ways) → Type 0
AskForListed ways = (r : ℕ) → PlansListed (λ devices. (ways devices).plan r)

-- two tables list the same platters and the same printers for a partition
abbrev pub ListAlike : ℕ → List Device → List Device → Type 0
ListAlike who ds es = (printer : Bool) (a : List ℕ) → has_device printer who a ds ≡ has_device printer who a es

-- By that alone a statement of any row plans; which rows are built, and how a statement finishes, goes by no table.
pub record GoByListed (ways : List Device → Ways) : Type 0 where
  pub same_rows : (ds es : List Device) → (ways ds).built ≡ (ways es).built
  pub plans_alike : (r : ℕ) (ds es : List Device) (me : Private) (s : SeenLent) → ListAlike me.part ds es → (ways ds).plan r me s ≡ (ways es).plan r me s
  pub finishes_alike : (ds es : List Device) → (ways ds).finish ≡ (ways es).finish

-- Where the files that a partition has open are on platters that are listed for it, at their first sectors or after them, a statement of
-- any row leaves them so, as it plans, and as it finishes by an answer that fits an access to what is listed.
pub record KeepOpenFiles (ways : List Device → Ways) : Type 0 where
  pub as_planned : (r : ℕ) → PlansKeepOpenFiles (λ devices. (ways devices).plan r)
  pub as_finished : (devices : List Device) (r : ℕ) → FinishesKeepOpenFiles ((ways devices).finish r)
