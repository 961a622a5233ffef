-- A statement plans by the devices that the table lists for its partition, and by nothing else of it.
use Rattle.std.specs.Prelude.{◌≡◌, ℕ, ◌==◌, ◌||◌, ◌&&◌, Bool, true, false, List, [], ◌∷◌, Option, Some, None, Result, Ok, Err, refl, if◌then◌else◌}
use Rattle.std.specs.Str.{bytes_eq}
use Rattle.std.proofs.Common.{ap, ◌∙◌}
use Rattle.b2_base.specs.declared.codes.TheConstants.{P48_DEVICE, S27_LEFT_OUT}
use Rattle.b2_atom.specs.declared.rows.TheConstants as row
use Rattle.b2_access.specs.Dispatch.{Here, dispatch}
use Rattle.b2_access.specs.Devices.{has_device, is_platter_for, is_printer_for}
use Rattle.b2_access.specs.OwnDevices.{is_device_for}
use Rattle.b2_access.specs.Partition.{terminal_address}
use Rattle.b2_access.specs.Placed.{Statement}
use Rattle.b2_access.specs.Working.{Ends, Plans, Working, as_planned, stops}
use Rattle.b2_access.specs.declared.accesses.Access.TheVariants as access
use Rattle.b2_access.specs.declared.devices.Device.{Device}
use Rattle.b2_access.specs.declared.planned.Outcome.TheVariants as outcome
use Rattle.b2_access.specs.declared.planned.Planned.{Planned}
use Rattle.b2_access.specs.declared.planned.Planned.TheVariants as planned
use Rattle.b2_access.specs.declared.private.Private.{Private}
use Rattle.b2_drive.specs.Asking.{asks_or_fails}
use Rattle.b2_stmt_disk.specs.devices.Freeing.{devices_to_free, frees_held, plans_to_free}
use Rattle.b2_stmt_disk.specs.devices.Held.{are_listed, those_listed}
use Rattle.b2_stmt_disk.specs.devices.Laws.{StatementsPlanByListed}
use Rattle.b2_stmt_disk.specs.devices.Plan.{dispatch_of, is_refused, planned_of}
use Rattle.b2_stmt_disk.specs.devices.Selecting.{device_if_shown, device_selected, selected}
use Rattle.b2_stmt_disk.specs.devices.Taking.{asks_to_take, devices_to_take}
use Rattle.b2_drive.specs.Drives.{address_selected}

module _ (ds es : List Device) (who : ℕ) (same : (printer : Bool) (a : List ℕ) → has_device printer who a ds ≡ has_device printer who a es) where
  same_device : (a : List ℕ) → is_device_for who a ds ≡ is_device_for who a es
  same_device a = ap (λ (b : Bool). b || is_printer_for who a ds) (same false a) ∙ ap (λ (b : Bool). is_platter_for who a es || b) (same true a)

  all_same : (addrs : List (List ℕ)) → are_listed ds who addrs ≡ are_listed es who addrs
  all_same [] = refl
  all_same (a ∷ addrs) = ap (λ (b : Bool). b && are_listed ds who addrs) (same_device a) ∙ ap (λ (b : Bool). is_device_for who a es && b) (all_same addrs)

  those_same : (held : List (List ℕ)) → those_listed ds who held ≡ those_listed es who held
  those_same [] = refl
  those_same (a ∷ held) =
      ap (λ (b : Bool). if b then a ∷ those_listed ds who held else those_listed ds who held) (same_device a)
      ∙ ap (λ (rest : List (List ℕ)). if is_device_for who a es then a ∷ rest else rest) (those_same held)

  shown_same : (o : Option (List ℕ)) → device_if_shown ds who o ≡ device_if_shown es who o
  shown_same None = refl
  shown_same (Some a) = ap (λ (b : Bool). if bytes_eq a terminal_address || b then Ok a else Err P48_DEVICE) (same true a)

module _ (ds es : List Device) (me : Private) (same : (printer : Bool) (a : List ℕ) → has_device printer me.part a ds ≡ has_device printer me.part a es) where
  freeing_same : (named : Option (List (List ℕ))) → plans_to_free ds me named ≡ plans_to_free es me named
  freeing_same None = ap frees_held (those_same ds es me.part same me.held)
  freeing_same (Some addrs) = ap (λ (b : Bool). asks_or_fails (if b then Ok (access.CloseDevices addrs) else Err P48_DEVICE)) (all_same ds es me.part same addrs)

  planned_same : (u : Statement) → planned_of ds u me ≡ planned_of es u me
  planned_same u =
      ap (λ (b : Bool). if u.row == row.OPEN then asks_or_fails (if b then Ok (access.OpenDevices (devices_to_take u.tree)) else Err P48_DEVICE) else (if u.row == row.CLOSE then plans_to_free ds me (devices_to_free u.tree) else planned.Done (outcome.Failed S27_LEFT_OUT))) (all_same ds es me.part same (devices_to_take u.tree))
      ∙ ap (λ (x : Planned). if u.row == row.OPEN then asks_or_fails (asks_to_take es me.part u.tree) else (if u.row == row.CLOSE then x else planned.Done (outcome.Failed S27_LEFT_OUT))) (freeing_same (devices_to_free u.tree))

  dispatch_same : (u : Statement) → dispatch_of ds u me ≡ dispatch_of es u me
  dispatch_same u =
      ap (λ (r : Result (List ℕ) ℕ). if u.row == row.SELECT_PRINT then Ends (selected r me) else Plans (planned_of ds u me)) (shown_same ds es me.part same (address_selected u.tree))
      ∙ ap (λ (x : Planned). if u.row == row.SELECT_PRINT then Ends (selected (device_selected es me.part u.tree) me) else Plans x) (planned_same u)

pub by_table : StatementsPlanByListed
by_table ds es me s same = ap (λ (does : Statement → Here → Working). as_planned me s (dispatch is_refused stops does me.place me s)) (λ i u h. dispatch_same ds es me same u i)
