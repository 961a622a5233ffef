-- Where an answer delays a step, what came of the access is to be asked for again.
use Rattle.std.specs.Prelude.{◌≡◌, ◌⊎◌, true, None, refl}
use Rattle.std.proofs.Common.{inl, inr}
use Rattle.b2_access.specs.declared.accesses.Access.{Access}
use Rattle.b2_access.specs.declared.accesses.Access.TheVariants as access
use Rattle.b2_access.specs.declared.accesses.Answer.{Answer}
use Rattle.b2_access.specs.declared.accesses.Answer.TheVariants as answer
use Rattle.b2_access.specs.AnswerKinds.{delays}
use Rattle.b2_access.specs.Views.{
  BlockLater,
  ChangeLater,
  ClearLater,
  KeyLater,
  LineLater,
  LoadingLater,
  NoKey,
  OpeningLater,
  PlaceLater,
  ProgramLater,
  RawLater,
  SectorsLater,
  DeviceBusy,
  TakingLater,
  block_came,
  change_came,
  clear_came,
  column_printed,
  column_shown,
  devices_freed,
  key_came,
  limits_told,
  line_came,
  listing_told,
  loading_came,
  opening_came,
  place_came,
  program_came,
  raw_came,
  sectors_came,
  taking_came,
}

pub none_shown : (x : Access) (a : Answer) → delays a ≡ true → column_shown x a ≡ None
none_shown (access.Show term bytes column) answer.Done h = cc
none_shown x a h = refl

pub none_printed : (x : Access) (a : Answer) → delays a ≡ true → column_printed x a ≡ None
none_printed (access.PrintTo addr bytes column) answer.Done h = cc
none_printed x a h = refl

pub none_freed : (x : Access) (a : Answer) → delays a ≡ true → devices_freed x a ≡ None
none_freed (access.CloseDevices addrs) answer.Done h = cc
none_freed x a h = refl

pub taking_delayed : (x : Access) (a : Answer) → delays a ≡ true → (taking_came x a ≡ DeviceBusy) ⊎ (taking_came x a ≡ TakingLater)
taking_delayed (access.OpenDevices addrs) answer.Done h = cc
taking_delayed (access.OpenDevices addrs) (answer.Wait q) h = inl refl
taking_delayed x a h = inr refl

pub key_delayed : (x : Access) (a : Answer) → delays a ≡ true → (key_came x a ≡ NoKey) ⊎ (key_came x a ≡ KeyLater)
key_delayed (access.Key term) (answer.Key b) h = cc
key_delayed (access.Key term) (answer.Special n) h = cc
key_delayed (access.Key term) answer.NoKeys h = inl refl
key_delayed x a h = inr refl

pub line_delayed : (x : Access) (a : Answer) → delays a ≡ true → line_came x a ≡ LineLater
line_delayed (access.Show term bytes column) answer.Done h = cc
line_delayed (access.ReadLine term) (answer.Line line) h = cc
line_delayed (access.ReadLine term) (answer.Special n) h = cc
line_delayed x a h = refl

pub clear_delayed : (x : Access) (a : Answer) → delays a ≡ true → clear_came x a ≡ ClearLater
clear_delayed (access.ClearAll name homes) answer.Done h = cc
clear_delayed (access.ClearAll name homes) (answer.Locked q) h = cc
clear_delayed (access.Erase from to homes) answer.Done h = cc
clear_delayed (access.Erase from to homes) (answer.Locked q) h = cc
clear_delayed x a h = refl

pub limits_delayed : (x : Access) (a : Answer) → delays a ≡ true → limits_told x a ≡ None
limits_delayed (access.Limits addr name) (answer.Four a b c d) h = cc
limits_delayed x a h = refl

pub listing_delayed : (x : Access) (a : Answer) → delays a ≡ true → listing_told x a ≡ None
listing_delayed (access.ListDisk addr) (answer.Bytes bytes) h = cc
listing_delayed x a h = refl

pub change_delayed : (x : Access) (a : Answer) → delays a ≡ true → change_came x a ≡ ChangeLater
change_delayed (access.Scratch addr name) answer.Done h = cc
change_delayed (access.Scratch addr name) (answer.Refused c) h = cc
change_delayed (access.Format addr index end) answer.Done h = cc
change_delayed (access.Format addr index end) (answer.Refused c) h = cc
change_delayed (access.SaveProgram addr old name from to) answer.Done h = cc
change_delayed (access.SaveProgram addr old name from to) (answer.Refused c) h = cc
change_delayed (access.MovePlatter from to) answer.Done h = cc
change_delayed (access.MovePlatter from to) (answer.Refused c) h = cc
change_delayed (access.MoveFile from name to) answer.Done h = cc
change_delayed (access.MoveFile from name to) (answer.Refused c) h = cc
change_delayed x a h = refl

pub opening_delayed : (x : Access) (a : Answer) → delays a ≡ true → opening_came x a ≡ OpeningLater
opening_delayed (access.DataNew addr old sectors name) (answer.Opened slot) h = cc
opening_delayed (access.DataNew addr old sectors name) (answer.Refused c) h = cc
opening_delayed (access.DataOpen addr name) (answer.Opened slot) h = cc
opening_delayed (access.DataOpen addr name) (answer.Refused c) h = cc
opening_delayed x a h = refl

pub place_delayed : (x : Access) (a : Answer) → delays a ≡ true → place_came x a ≡ PlaceLater
place_delayed (access.DataSave slot values) (answer.Moved place) h = cc
place_delayed (access.DataSave slot values) (answer.Refused c) h = cc
place_delayed (access.DataEnd slot) (answer.Moved place) h = cc
place_delayed (access.DataEnd slot) (answer.Refused c) h = cc
place_delayed (access.Skip slot way) (answer.Moved place) h = cc
place_delayed (access.Skip slot way) (answer.Refused c) h = cc
place_delayed x a h = refl

pub loading_delayed : (x : Access) (a : Answer) → delays a ≡ true → loading_came x a ≡ LoadingLater
loading_delayed (access.DataLoad slot kinds) (answer.Values values place) h = cc
loading_delayed (access.DataLoad slot kinds) answer.AtEnd h = cc
loading_delayed (access.DataLoad slot kinds) (answer.Refused c) h = cc
loading_delayed x a h = refl

pub sectors_delayed : (x : Access) (a : Answer) → delays a ≡ true → sectors_came x a ≡ SectorsLater
sectors_delayed (access.RawSave addr at values) (answer.Moved next) h = cc
sectors_delayed (access.RawSave addr at values) (answer.Refused c) h = cc
sectors_delayed (access.RawEnd addr at) (answer.Moved next) h = cc
sectors_delayed (access.RawEnd addr at) (answer.Refused c) h = cc
sectors_delayed (access.BlockSave addr at bytes) (answer.Moved next) h = cc
sectors_delayed (access.BlockSave addr at bytes) (answer.Refused c) h = cc
sectors_delayed x a h = refl

pub raw_delayed : (x : Access) (a : Answer) → delays a ≡ true → raw_came x a ≡ RawLater
raw_delayed (access.RawLoad addr at kinds) (answer.Values values next) h = cc
raw_delayed (access.RawLoad addr at kinds) answer.AtEnd h = cc
raw_delayed (access.RawLoad addr at kinds) (answer.Refused c) h = cc
raw_delayed x a h = refl

pub block_delayed : (x : Access) (a : Answer) → delays a ≡ true → block_came x a ≡ BlockLater
block_delayed (access.BlockLoad addr at) (answer.Block bytes) h = cc
block_delayed (access.BlockLoad addr at) (answer.Refused c) h = cc
block_delayed x a h = refl

pub program_delayed : (x : Access) (a : Answer) → delays a ≡ true → program_came x a ≡ ProgramLater
program_delayed (access.LoadProgram addr name replace declared homes) answer.Done h = cc
program_delayed (access.LoadProgram addr name replace declared homes) (answer.Locked q) h = cc
program_delayed (access.LoadProgram addr name replace declared homes) (answer.Refused c) h = cc
program_delayed x a h = refl
