use Rattle.b2_progfile.proofs.LiveFiles.{are-live-files, live-files-are}
use Rattle.b2_progfile.proofs.laws.live_files_are_listed.Goals as goal

pub returns : goal.returns
returns c = record { listed = are-live-files; one = live-files-are }
