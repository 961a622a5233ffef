use Rattle.std.proofs.Common.{[], refl}
use Rattle.b2_access.specs.Store.{StoreState}
use Rattle.b2_store.specs.Start.{store_at_start}
use Rattle.b2_store.proofs.KeptStart.{filled_as, same_rows}
use Rattle.b2_store.proofs.plain.PlainStoresEnds.new.Goals as goal

pub returns : goal.returns
returns c =
    let h = c.in_ok-texts.field-0 in
    let d = c.in_ok-devices.devices in
    let w = store_at_start c.args.b.now c.args.platters.items in
    let v : StoreState = record { texts = h.texts; borrows = h.borrows; globals = h.globals; terminals = d.terminals; printers = d.printers; platters = d.platters; hogs = d.hogs; names = [] } in
    let homes = c.in_ok-texts.ensures in
    let devices = c.in_ok-devices.ensures in
    record {
      at_start = filled_as v w c.in_ok-kept.kept c.in_ok-kept.ensures refl
          (same_rows v w homes.texts homes.borrows homes.globals devices.terminals devices.printers devices.platters devices.hogs refl);
    }
