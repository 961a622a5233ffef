-- What these statements plan: they end at once, or ask for an access at devices that the partition may use; and how they finish.
use Rattle.std.specs.Prelude.{◌≡◌, ℕ, ◌==◌, ◌&&◌, Bool, true, false, if◌then◌else◌, List, [], ◌∷◌, Option, Some, None, Result, Ok, Err, refl}
use Rattle.b2_base.specs.declared.codes.TheConstants.{P48_DEVICE, S26_PROGRAM_ONLY, S27_LEFT_OUT}
use Rattle.b2_atom.specs.Tree.{Trees}
use Rattle.b2_atom.specs.declared.rows.TheConstants as row
use Rattle.b2_access.specs.Lending.{SeenLent}
use Rattle.b2_access.specs.OwnDevices.{AreListed, is_device_for}
use Rattle.b2_access.specs.Placed.{Statement}
use Rattle.b2_access.specs.Reach.{to_free, to_take}
use Rattle.b2_access.specs.Working.{Working, planned_of as planned_by, stops}
use Rattle.b2_access.specs.declared.accesses.Access.{Access}
use Rattle.b2_access.specs.declared.accesses.Access.TheVariants as access
use Rattle.b2_access.specs.declared.devices.Device.{Device}
use Rattle.b2_access.specs.declared.planned.Outcome.TheVariants as outcome
use Rattle.b2_access.specs.declared.planned.Planned.{Planned}
use Rattle.b2_access.specs.declared.planned.Planned.TheVariants as planned
use Rattle.b2_access.specs.declared.private.Private.{Private}
use Rattle.b2_access.proofs.Choice.{either}
use Rattle.b2_access.proofs.Dispatch.{each_dispatch}
use Rattle.b2_drive.specs.Asking.{asks_or_fails}
use Rattle.b2_drive.proofs.Asked.{Fits}
use Rattle.b2_stmt_disk.specs.devices.Freeing.{asks_to_free, devices_to_free, frees_held, plans_to_free}
use Rattle.b2_stmt_disk.specs.devices.Held.{are_listed, those_listed}
use Rattle.b2_stmt_disk.specs.devices.Plan.{dispatch_of, does, is_refused, planned_of, works}
use Rattle.b2_stmt_disk.specs.devices.Selecting.{device_selected, selected}
use Rattle.b2_stmt_disk.specs.devices.Taking.{asks_to_take, devices_to_take}

-- devices that the table lists are those of an access that reaches who holds them
both : (a b : Bool) → (a && b) ≡ true → (a ≡ true) × (b ≡ true)
both true b h = (refl, h)
both false b h = cc

module _ (devices : List Device) (who : ℕ) where
  listed_to_take : (addrs : List (List ℕ)) → are_listed devices who addrs ≡ true → AreListed devices who (to_take addrs).devices
  listed_to_take [] h = tt
  listed_to_take (a ∷ addrs) h = let e = both (is_device_for who a devices) (are_listed devices who addrs) h in (e.0, listed_to_take addrs e.1)

  listed_to_free : (addrs : List (List ℕ)) → are_listed devices who addrs ≡ true → AreListed devices who (to_free addrs).devices
  listed_to_free [] h = tt
  listed_to_free (a ∷ addrs) h = let e = both (is_device_for who a devices) (are_listed devices who addrs) h in (e.0, listed_to_free addrs e.1)

  -- and so are those that are held and listed
  held_to_free : (held : List (List ℕ)) → AreListed devices who (to_free (those_listed devices who held)).devices
  held_to_free [] = tt
  held_to_free (a ∷ held) = by (is_device_for who a devices) refl (held_to_free held)
    where
      by : (b : Bool) → is_device_for who a devices ≡ b → AreListed devices who (to_free (those_listed devices who held)).devices
          → AreListed devices who (to_free (if b then a ∷ those_listed devices who held else those_listed devices who held)).devices
      by true is rest = (is, rest)
      by false is rest = rest

-- what holds of each refusal, of an end, and of each access that fits
module _ (devices : List Device) (me : Private) (F : Planned → Type 0) (next : F (planned.Done outcome.Next)) (failed : (code : ℕ) → F (planned.Done (outcome.Failed code)))
    (asks : (a : Access) → Fits devices me.part a → F (planned.Ask a)) where
  take_asked : (t : Trees) → F (asks_or_fails (asks_to_take devices me.part t))
  take_asked t = by (are_listed devices me.part (devices_to_take t)) refl
    where
      by : (b : Bool) → are_listed devices me.part (devices_to_take t) ≡ b → F (asks_or_fails (if b then Ok (access.OpenDevices (devices_to_take t)) else Err P48_DEVICE))
      by true is = asks (access.OpenDevices (devices_to_take t)) (record { listed = listed_to_take devices me.part (devices_to_take t) is; terminal = refl; homes = refl; legal = tt; kind = refl })
      by false is = failed P48_DEVICE

  free_asked : (addrs : List (List ℕ)) → F (asks_or_fails (asks_to_free devices me.part addrs))
  free_asked addrs = by (are_listed devices me.part addrs) refl
    where
      by : (b : Bool) → are_listed devices me.part addrs ≡ b → F (asks_or_fails (if b then Ok (access.CloseDevices addrs) else Err P48_DEVICE))
      by true is = asks (access.CloseDevices addrs) (record { listed = listed_to_free devices me.part addrs is; terminal = refl; homes = refl; legal = tt; kind = refl })
      by false is = failed P48_DEVICE

  held_asked : (held : List (List ℕ)) → AreListed devices me.part (to_free held).devices → F (frees_held held)
  held_asked [] are = next
  held_asked (a ∷ held) are = asks (access.CloseDevices (a ∷ held)) (record { listed = are; terminal = refl; homes = refl; legal = tt; kind = refl })

  freeing_asked : (named : Option (List (List ℕ))) → F (plans_to_free devices me named)
  freeing_asked None = held_asked (those_listed devices me.part me.held) (held_to_free devices me.part me.held)
  freeing_asked (Some addrs) = free_asked addrs

  each_asked : (u : Statement) → F (planned_of devices u me)
  each_asked u = either F (u.row == row.OPEN) _ _ (take_asked u.tree) (either F (u.row == row.CLOSE) _ _ (freeing_asked (devices_to_free u.tree)) (failed S27_LEFT_OUT))

  each_selected : (r : Result (List ℕ) ℕ) → F (planned.Done (selected r me).outcome)
  each_selected (Ok a) = next
  each_selected (Err code) = failed code

  Each : Working → Type 0
  Each k = F (planned_by k)

  each_statement : (u : Statement) → Each (dispatch_of devices u me)
  unfolding Each
  each_statement u = either Each (u.row == row.SELECT_PRINT) _ _ (each_selected (device_selected devices me.part u.tree)) (each_asked u)

-- so also of what the statement at a place plans
pub each_planned : (devices : List Device) (me : Private) (s : SeenLent) (F : Planned → Type 0) → F (planned.Done outcome.Next) → F (planned.Done outcome.Ready) → ((code : ℕ) → F (planned.Done (outcome.Failed code)))
    → ((a : Access) → Fits devices me.part a → F (planned.Ask a)) → F (planned_by (works devices me s))
unfolding Each
each_planned devices me s F next ready failed asks =
    each_dispatch is_refused stops (does devices me s) me s (λ (k : Working). F (planned_by k)) ready (failed S26_PROGRAM_ONLY) (λ p is u. each_statement devices me F next failed asks u)
