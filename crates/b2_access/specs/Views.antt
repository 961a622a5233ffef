-- What came of an access, as those see it who asked for it: each view tells the answers that one kind of statement looks at, and no
-- others. So an access or an answer that comes later touches no statement that has nothing to do with it.
use Rattle.std.specs.Prelude.{ℕ, ◌+◌, Bool, true, false, List, Option, Some, None}
use Rattle.b2_base.specs.declared.files.Slot.{Slot}
use Rattle.b2_dec.specs.declared.values.Value.{Value}
use Rattle.b2_access.specs.declared.accesses.Access.{Access}
use Rattle.b2_access.specs.declared.accesses.Access.TheVariants as access
use Rattle.b2_access.specs.declared.accesses.Answer.{Answer}
use Rattle.b2_access.specs.declared.accesses.Answer.TheVariants as answer
use Rattle.b2_access.specs.Disks.{FourNumbers}

-- the column after what was shown, None where nothing was
abbrev pub column_shown : Access → Answer → Option ℕ
column_shown (access.Show term bytes column) answer.Done = Some column
column_shown x a = None

-- the column after what was printed at a printer, None where nothing was
abbrev pub column_printed : Access → Answer → Option ℕ
column_printed (access.PrintTo addr bytes column) answer.Done = Some column
column_printed x a = None

-- what came of taking devices: they are taken, or another holds one of them; or they are asked for again
pub data TakingCame : Type 0 where
  DevicesTaken : List (List ℕ) → TakingCame
  DeviceBusy : TakingCame
  TakingLater : TakingCame

abbrev pub taking_came : Access → Answer → TakingCame
taking_came (access.OpenDevices addrs) answer.Done = DevicesTaken addrs
taking_came (access.OpenDevices addrs) (answer.Wait q) = DeviceBusy
taking_came x a = TakingLater

-- the devices that were freed where they were the own, None where it is asked for again
abbrev pub devices_freed : Access → Answer → Option (List (List ℕ))
devices_freed (access.CloseDevices addrs) answer.Done = Some addrs
devices_freed x a = None

-- what came of asking for a key: a byte, a special function key, or none so far; or it is asked for again
pub data KeyCame : Type 0 where
  ByteTyped : ℕ → KeyCame
  KeyPressed : ℕ → KeyCame
  NoKey : KeyCame
  KeyLater : KeyCame

abbrev pub key_came : Access → Answer → KeyCame
key_came (access.Key term) (answer.Key b) = ByteTyped b
key_came (access.Key term) (answer.Special n) = KeyPressed n
key_came (access.Key term) answer.NoKeys = NoKey
key_came x a = KeyLater

-- whether the terminal was handed on; where it wasn't, it is asked for again
abbrev pub handed_on : Access → Answer → Bool
handed_on (access.Release term) answer.Done = true
handed_on x a = false

-- what came of asking for a line, before which a prompt is shown: that was shown, up to a column, a line was entered, or a special
-- function key ended the reading; or it is asked for again
pub data LineCame : Type 0 where
  PromptShown : ℕ → LineCame
  LineEntered : List ℕ → LineCame
  LineLeft : ℕ → LineCame
  LineLater : LineCame

abbrev pub line_came : Access → Answer → LineCame
line_came (access.Show term bytes column) answer.Done = PromptShown column
line_came (access.ReadLine term) (answer.Line line) = LineEntered line
line_came (access.ReadLine term) (answer.Special n) = LineLeft n
line_came x a = LineLater

-- what came of clearing a text: all of it is gone, or the lines that were named are, or another stands inside; or it is asked for again
pub data ClearCame : Type 0 where
  AllCleared : ClearCame
  LinesErased : ClearCame
  TextLocked : ClearCame
  ClearLater : ClearCame

abbrev pub clear_came : Access → Answer → ClearCame
clear_came (access.ClearAll name homes) answer.Done = AllCleared
clear_came (access.ClearAll name homes) (answer.Locked q) = TextLocked
clear_came (access.Erase from to homes) answer.Done = LinesErased
clear_came (access.Erase from to homes) (answer.Locked q) = TextLocked
clear_came x a = ClearLater

-- the four numbers that were told of a disk, and the listing of its index; None where it is asked for again
abbrev pub limits_told : Access → Answer → Option FourNumbers
limits_told (access.Limits addr name) (answer.Four a b c d) = Some (record { first = a; second = b; third = c; fourth = d })
limits_told x a = None

abbrev pub listing_told : Access → Answer → Option (List ℕ)
listing_told (access.ListDisk addr) (answer.Bytes bytes) = Some bytes
listing_told x a = None

-- what came of changing a disk: it was changed, or it was refused with a code; or it is asked for again
pub data ChangeCame : Type 0 where
  DiskChanged : ChangeCame
  ChangeRefused : ℕ → ChangeCame
  ChangeLater : ChangeCame

abbrev pub change_came : Access → Answer → ChangeCame
change_came (access.Scratch addr name) answer.Done = DiskChanged
change_came (access.Scratch addr name) (answer.Refused c) = ChangeRefused c
change_came (access.Format addr index end) answer.Done = DiskChanged
change_came (access.Format addr index end) (answer.Refused c) = ChangeRefused c
change_came (access.SaveProgram addr old name from to) answer.Done = DiskChanged
change_came (access.SaveProgram addr old name from to) (answer.Refused c) = ChangeRefused c
change_came (access.MovePlatter from to) answer.Done = DiskChanged
change_came (access.MovePlatter from to) (answer.Refused c) = ChangeRefused c
change_came (access.MoveFile from name to) answer.Done = DiskChanged
change_came (access.MoveFile from name to) (answer.Refused c) = ChangeRefused c
change_came x a = ChangeLater

-- what came of opening a data file: it is open, or it was refused with a code; or it is asked for again
pub data OpeningCame : Type 0 where
  FileOpened : Slot → OpeningCame
  OpeningRefused : ℕ → OpeningCame
  OpeningLater : OpeningCame

abbrev pub opening_came : Access → Answer → OpeningCame
opening_came (access.DataNew addr old sectors name) (answer.Opened slot) = FileOpened slot
opening_came (access.DataNew addr old sectors name) (answer.Refused c) = OpeningRefused c
opening_came (access.DataOpen addr name) (answer.Opened slot) = FileOpened slot
opening_came (access.DataOpen addr name) (answer.Refused c) = OpeningRefused c
opening_came x a = OpeningLater

-- what came of an access at the place in an open file: the file with its new place, or a code; or it is asked for again
abbrev pub moved_to : Slot → ℕ → Slot
moved_to slot place = record slot { pos = place }

pub data PlaceCame : Type 0 where
  PlaceMoved : Slot → PlaceCame
  PlaceRefused : ℕ → PlaceCame
  PlaceLater : PlaceCame

abbrev pub place_came : Access → Answer → PlaceCame
place_came (access.DataSave slot values) (answer.Moved place) = PlaceMoved (moved_to slot place)
place_came (access.DataSave slot values) (answer.Refused c) = PlaceRefused c
place_came (access.DataEnd slot) (answer.Moved place) = PlaceMoved (moved_to slot place)
place_came (access.DataEnd slot) (answer.Refused c) = PlaceRefused c
place_came (access.Skip slot way) (answer.Moved place) = PlaceMoved (moved_to slot place)
place_came (access.Skip slot way) (answer.Refused c) = PlaceRefused c
place_came x a = PlaceLater

-- what came of loading: values, and the file with the place after them, or its records end, or a code; or it is asked for again
pub data LoadingCame : Type 0 where
  ValuesLoaded : Slot → List Value → LoadingCame
  RecordsEnded : LoadingCame
  LoadingRefused : ℕ → LoadingCame
  LoadingLater : LoadingCame

abbrev pub loading_came : Access → Answer → LoadingCame
loading_came (access.DataLoad slot kinds) (answer.Values values place) = ValuesLoaded (moved_to slot place) values
loading_came (access.DataLoad slot kinds) answer.AtEnd = RecordsEnded
loading_came (access.DataLoad slot kinds) (answer.Refused c) = LoadingRefused c
loading_came x a = LoadingLater

-- what came of writing sectors by their number: they are written, up to the next one, or it was refused with a code; or it is asked for
-- again
pub data SectorsCame : Type 0 where
  SectorsWritten : ℕ → SectorsCame
  SectorsRefused : ℕ → SectorsCame
  SectorsLater : SectorsCame

abbrev pub sectors_came : Access → Answer → SectorsCame
sectors_came (access.RawSave addr at values) (answer.Moved next) = SectorsWritten next
sectors_came (access.RawSave addr at values) (answer.Refused c) = SectorsRefused c
sectors_came (access.RawEnd addr at) (answer.Moved next) = SectorsWritten next
sectors_came (access.RawEnd addr at) (answer.Refused c) = SectorsRefused c
sectors_came (access.BlockSave addr at bytes) (answer.Moved next) = SectorsWritten next
sectors_came (access.BlockSave addr at bytes) (answer.Refused c) = SectorsRefused c
sectors_came x a = SectorsLater

-- what came of loading a record from sectors by their number: values, and the sector after it, or an end mark is there, or a code; or it is
-- asked for again
pub data RawCame : Type 0 where
  RawLoaded : List Value → ℕ → RawCame
  RawEnded : RawCame
  RawRefused : ℕ → RawCame
  RawLater : RawCame

abbrev pub raw_came : Access → Answer → RawCame
raw_came (access.RawLoad addr at kinds) (answer.Values values next) = RawLoaded values next
raw_came (access.RawLoad addr at kinds) answer.AtEnd = RawEnded
raw_came (access.RawLoad addr at kinds) (answer.Refused c) = RawRefused c
raw_came x a = RawLater

-- what came of reading a sector by its number: its bytes, and the next sector, or a code; or it is asked for again
pub data BlockCame : Type 0 where
  BlockRead : List ℕ → ℕ → BlockCame
  BlockRefused : ℕ → BlockCame
  BlockLater : BlockCame

abbrev pub block_came : Access → Answer → BlockCame
block_came (access.BlockLoad addr at) (answer.Block bytes) = BlockRead bytes (at + 1)
block_came (access.BlockLoad addr at) (answer.Refused c) = BlockRefused c
block_came x a = BlockLater

-- what came of loading a program: its lines are in the text, or another stands inside that, or a code; or it is asked for again
pub data ProgramCame : Type 0 where
  ProgramLoaded : ProgramCame
  ProgramLocked : ProgramCame
  ProgramRefused : ℕ → ProgramCame
  ProgramLater : ProgramCame

abbrev pub program_came : Access → Answer → ProgramCame
program_came (access.LoadProgram addr name replace declared homes) answer.Done = ProgramLoaded
program_came (access.LoadProgram addr name replace declared homes) (answer.Locked q) = ProgramLocked
program_came (access.LoadProgram addr name replace declared homes) (answer.Refused c) = ProgramRefused c
program_came x a = ProgramLater
