use Rattle.b2_access.specs.Working.{on_devices, on_files, plain}
use Rattle.b2_access.proofs.Working as form
use Rattle.b2_access.proofs.laws.law_finishes_are_put_back.Goals as goal

pub returns : goal.returns
returns c = (
  (
    form.put_back_whole plain form.plain_rest,
    λ way. (form.finishes_keep_none plain form.plain_frames way, form.finishes_within plain form.plain_frames way),
    form.finishes_keep_files plain form.plain_files,
    form.finishes_keep_held plain form.plain_devices,
  ),
  (
    form.put_back_whole on_files form.files_rest,
    λ way. (form.finishes_keep_none on_files form.files_frames way, form.finishes_within on_files form.files_frames way),
    form.finishes_keep_held on_files form.files_devices,
  ),
  (
    form.put_back_whole on_devices form.devices_rest,
    λ way. (form.finishes_keep_none on_devices form.devices_frames way, form.finishes_within on_devices form.devices_frames way),
    form.finishes_keep_files on_devices form.devices_files,
  ),
)
