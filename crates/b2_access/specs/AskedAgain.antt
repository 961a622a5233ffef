-- Where an answer says no more than that its access is to be asked for again.
use Rattle.std.specs.Prelude.{◌≡◌, ◌||◌, ℕ, true, false, None}
use Rattle.b2_access.specs.declared.accesses.Access.{Access}
use Rattle.b2_access.specs.declared.accesses.Access.TheVariants as access
use Rattle.b2_access.specs.declared.accesses.Answer.{Answer}
use Rattle.b2_access.specs.AnswerKinds.{delays, is_done, is_done_or_code, is_lock, is_of_entering, is_of_search}
use Rattle.b2_access.specs.Sharing.{ServingOf}
use Rattle.b2_access.specs.Views as view

-- Who asked sees it so: by the view of the access, where it has one, and else where it isn't one of the answers that come of it.
abbrev pub IsAskedAgain : Access → Answer → Type 0
IsAskedAgain (access.Show term bytes column) x = (view.column_shown (access.Show term bytes column) x ≡ None) × (view.line_came (access.Show term bytes column) x ≡ view.LineLater)
IsAskedAgain (access.PrintTo addr bytes column) x = view.column_printed (access.PrintTo addr bytes column) x ≡ None
IsAskedAgain (access.OpenDevices addrs) x = view.taking_came (access.OpenDevices addrs) x ≡ view.TakingLater
IsAskedAgain (access.CloseDevices addrs) x = view.devices_freed (access.CloseDevices addrs) x ≡ None
IsAskedAgain (access.ReadLine term) x = view.line_came (access.ReadLine term) x ≡ view.LineLater
IsAskedAgain (access.Insert term bytes) x = is_done x ≡ false
IsAskedAgain (access.Key term) x = view.key_came (access.Key term) x ≡ view.KeyLater
IsAskedAgain (access.Release term) x = view.handed_on (access.Release term) x ≡ false
IsAskedAgain (access.PutLine line atoms homes) x = (is_done_or_code x || is_lock x) ≡ false
IsAskedAgain (access.Erase from to homes) x = view.clear_came (access.Erase from to homes) x ≡ view.ClearLater
IsAskedAgain (access.ClearAll name homes) x = view.clear_came (access.ClearAll name homes) x ≡ view.ClearLater
IsAskedAgain (access.Enter name mark) x = is_of_entering x ≡ false
IsAskedAgain (access.Leave home) x = is_done x ≡ false
IsAskedAgain (access.Drop homes) x = is_done x ≡ false
IsAskedAgain (access.Declare name old) x = is_done_or_code x ≡ false
IsAskedAgain (access.FindPart name) x = is_of_search x ≡ false
IsAskedAgain (access.Limits addr name) x = view.limits_told (access.Limits addr name) x ≡ None
IsAskedAgain (access.ListDisk addr) x = view.listing_told (access.ListDisk addr) x ≡ None
IsAskedAgain (access.Scratch addr name) x = view.change_came (access.Scratch addr name) x ≡ view.ChangeLater
IsAskedAgain (access.Format addr index end) x = view.change_came (access.Format addr index end) x ≡ view.ChangeLater
IsAskedAgain (access.DataNew addr old sectors name) x = view.opening_came (access.DataNew addr old sectors name) x ≡ view.OpeningLater
IsAskedAgain (access.DataOpen addr name) x = view.opening_came (access.DataOpen addr name) x ≡ view.OpeningLater
IsAskedAgain (access.DataSave slot values) x = view.place_came (access.DataSave slot values) x ≡ view.PlaceLater
IsAskedAgain (access.DataEnd slot) x = view.place_came (access.DataEnd slot) x ≡ view.PlaceLater
IsAskedAgain (access.DataLoad slot kinds) x = view.loading_came (access.DataLoad slot kinds) x ≡ view.LoadingLater
IsAskedAgain (access.Skip slot way) x = view.place_came (access.Skip slot way) x ≡ view.PlaceLater
IsAskedAgain (access.SaveProgram addr old name from to) x = view.change_came (access.SaveProgram addr old name from to) x ≡ view.ChangeLater
IsAskedAgain (access.LoadProgram addr name replace declared homes) x = view.program_came (access.LoadProgram addr name replace declared homes) x ≡ view.ProgramLater
IsAskedAgain (access.RawSave addr at values) x = view.sectors_came (access.RawSave addr at values) x ≡ view.SectorsLater
IsAskedAgain (access.RawEnd addr at) x = view.sectors_came (access.RawEnd addr at) x ≡ view.SectorsLater
IsAskedAgain (access.RawLoad addr at kinds) x = view.raw_came (access.RawLoad addr at kinds) x ≡ view.RawLater
IsAskedAgain (access.BlockSave addr at bytes) x = view.sectors_came (access.BlockSave addr at bytes) x ≡ view.SectorsLater
IsAskedAgain (access.BlockLoad addr at) x = view.block_came (access.BlockLoad addr at) x ≡ view.BlockLater
IsAskedAgain (access.MovePlatter from to) x = view.change_came (access.MovePlatter from to) x ≡ view.ChangeLater
IsAskedAgain (access.MoveFile from name to) x = view.change_came (access.MoveFile from name to) x ≡ view.ChangeLater

-- That is so of no answer but those by which the step is repeated: another has to be waited for, or no key is there.
abbrev pub OnlyDelaysAreAskedAgain : {M : Type 0} → ServingOf M → Type 0
OnlyDelaysAreAskedAgain {M} serving = (m : M) (who : ℕ) (a : Access) → IsAskedAgain a (serving m who a).answer → delays (serving m who a).answer ≡ true
