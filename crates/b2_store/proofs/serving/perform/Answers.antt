use Rattle.std.proofs.Common.{sym, subst, ◌∙◌, ap}
use Rattle.b2_access.specs.declared.accesses.Access.TheVariants as access
use Rattle.b2_store.specs.Doing.{Does}
use Rattle.b2_store.proofs.serving.perform.Goals as goal

-- what a method does is what its access does
pub returns-in-Key-clause-done : goal.returns-in-Key-clause-done
returns-in-Key-clause-done g c = subst (λ a. Does c.args.who a (g.S.Lookups.state c.args.store.now) (g.S.Lookups.state c.take_key.new.store) c.take_key.result) (sym c.in-Key.is) (c.take_key.ensures c.args.who)

pub returns-in-Release-clause-done : goal.returns-in-Release-clause-done
returns-in-Release-clause-done g c = subst (λ a. Does c.args.who a (g.S.Lookups.state c.args.store.now) (g.S.Lookups.state c.release.new.store) c.release.result) (sym c.in-Release.is) (c.release.ensures c.args.who)

pub returns-in-None-clause-done : goal.returns-in-None-clause-done
returns-in-None-clause-done g c =
    let out = c.in-PutLine.is ∙ ap (λ atoms. access.PutLine c.in-PutLine.line atoms c.in-PutLine.homes) c.in-None.is in
    subst (λ a. Does c.args.who a (g.S.Lookups.state c.args.store.now) (g.S.Lookups.state c.erase.new.store) c.erase.result) (sym out) c.erase.ensures

pub returns-in-Erase-clause-done : goal.returns-in-Erase-clause-done
returns-in-Erase-clause-done g c = subst (λ a. Does c.args.who a (g.S.Lookups.state c.args.store.now) (g.S.Lookups.state c.erase-in-Erase.new.store) c.erase-in-Erase.result) (sym c.in-Erase.is) c.erase-in-Erase.ensures

pub returns-in-ClearAll-clause-done : goal.returns-in-ClearAll-clause-done
returns-in-ClearAll-clause-done g c =
    subst (λ a. Does c.args.who a (g.S.Lookups.state c.args.store.now) (g.S.Lookups.state c.clear_all.new.store) c.clear_all.result) (sym c.in-ClearAll.is) c.clear_all.ensures

pub returns-in-Limits-clause-done : goal.returns-in-Limits-clause-done
returns-in-Limits-clause-done g c = subst (λ a. Does c.args.who a (g.S.Lookups.state c.args.store.now) (g.S.Lookups.state c.args.store.now) c.limits.result) (sym c.in-Limits.is) (c.limits.ensures c.args.who)

pub returns-in-Scratch-clause-done : goal.returns-in-Scratch-clause-done
returns-in-Scratch-clause-done g c = subst (λ a. Does c.args.who a (g.S.Lookups.state c.args.store.now) (g.S.Lookups.state c.scratch.new.store) c.scratch.result) (sym c.in-Scratch.is) (c.scratch.ensures c.args.who)

pub returns-in-Format-clause-done : goal.returns-in-Format-clause-done
returns-in-Format-clause-done g c = subst (λ a. Does c.args.who a (g.S.Lookups.state c.args.store.now) (g.S.Lookups.state c.format.new.store) c.format.result) (sym c.in-Format.is) (c.format.ensures c.args.who)

pub returns-in-DataNew-clause-done : goal.returns-in-DataNew-clause-done
returns-in-DataNew-clause-done g c = subst (λ a. Does c.args.who a (g.S.Lookups.state c.args.store.now) (g.S.Lookups.state c.data_new.new.store) c.data_new.result) (sym c.in-DataNew.is) (c.data_new.ensures c.args.who)

pub returns-in-DataOpen-clause-done : goal.returns-in-DataOpen-clause-done
returns-in-DataOpen-clause-done g c = subst (λ a. Does c.args.who a (g.S.Lookups.state c.args.store.now) (g.S.Lookups.state c.args.store.now) c.data_open.result) (sym c.in-DataOpen.is) (c.data_open.ensures c.args.who)

pub returns-in-DataSave-clause-done : goal.returns-in-DataSave-clause-done
returns-in-DataSave-clause-done g c =
    let asked = c.in-DataSave.is ∙ ap (λ vs. access.DataSave c.in-DataSave.slot vs) (sym c.values.ensures) in
    subst (λ a. Does c.args.who a (g.S.Lookups.state c.args.store.now) (g.S.Lookups.state c.data_save.new.store) c.data_save.result) (sym asked) (c.data_save.ensures c.args.who)

pub returns-in-DataEnd-clause-done : goal.returns-in-DataEnd-clause-done
returns-in-DataEnd-clause-done g c = subst (λ a. Does c.args.who a (g.S.Lookups.state c.args.store.now) (g.S.Lookups.state c.data_end.new.store) c.data_end.result) (sym c.in-DataEnd.is) (c.data_end.ensures c.args.who)

pub returns-in-OpenDevices-clause-done : goal.returns-in-OpenDevices-clause-done
returns-in-OpenDevices-clause-done g c = subst (λ a. Does c.args.who a (g.S.Lookups.state c.args.store.now) (g.S.Lookups.state c.open_devices.new.store) c.open_devices.result) (sym c.in-OpenDevices.is) c.open_devices.ensures

pub returns-in-CloseDevices-clause-done : goal.returns-in-CloseDevices-clause-done
returns-in-CloseDevices-clause-done g c = subst (λ a. Does c.args.who a (g.S.Lookups.state c.args.store.now) (g.S.Lookups.state c.close_devices.new.store) c.close_devices.result) (sym c.in-CloseDevices.is) c.close_devices.ensures

pub returns-in-FindPart-clause-done : goal.returns-in-FindPart-clause-done
returns-in-FindPart-clause-done g c = subst (λ a. Does c.args.who a (g.S.Lookups.state c.args.store.now) (g.S.Lookups.state c.args.store.now) c.find_part.result) (sym c.in-FindPart.is) (c.find_part.ensures c.args.who)

pub returns-in-Leave-clause-done : goal.returns-in-Leave-clause-done
returns-in-Leave-clause-done g c = subst (λ a. Does c.args.who a (g.S.Lookups.state c.args.store.now) (g.S.Lookups.state c.leave.new.store) c.leave.result) (sym c.in-Leave.is) c.leave.ensures

pub returns-in-Drop-clause-done : goal.returns-in-Drop-clause-done
returns-in-Drop-clause-done g c = subst (λ a. Does c.args.who a (g.S.Lookups.state c.args.store.now) (g.S.Lookups.state c.give_texts_back.new.store) c.give_texts_back.result) (sym c.in-Drop.is) c.give_texts_back.ensures

pub returns-in-RawSave-clause-done : goal.returns-in-RawSave-clause-done
returns-in-RawSave-clause-done g c =
    let asked = c.in-RawSave.is ∙ ap (λ vs. access.RawSave c.in-RawSave.addr c.in-RawSave.at vs) (sym c.values-in-RawSave.ensures) in
    subst (λ a. Does c.args.who a (g.S.Lookups.state c.args.store.now) (g.S.Lookups.state c.raw_save.new.store) c.raw_save.result) (sym asked) (c.raw_save.ensures c.args.who)

pub returns-in-RawEnd-clause-done : goal.returns-in-RawEnd-clause-done
returns-in-RawEnd-clause-done g c = subst (λ a. Does c.args.who a (g.S.Lookups.state c.args.store.now) (g.S.Lookups.state c.raw_end.new.store) c.raw_end.result) (sym c.in-RawEnd.is) (c.raw_end.ensures c.args.who)

pub returns-in-BlockSave-clause-done : goal.returns-in-BlockSave-clause-done
returns-in-BlockSave-clause-done g c =
    let asked = c.in-BlockSave.is ∙ ap (λ bs. access.BlockSave c.in-BlockSave.addr c.in-BlockSave.at bs) (sym c.bytes-in-BlockSave.ensures) in
    subst (λ a. Does c.args.who a (g.S.Lookups.state c.args.store.now) (g.S.Lookups.state c.block_save.new.store) c.block_save.result) (sym asked) (c.block_save.ensures c.args.who)
