-- Each answer that an access can have, but one that delays it, is seen by who asked.
use Rattle.std.proofs.Common.{◌≡◌, true, refl, sym}
use Rattle.std.proofs.lemmas.Bool.{true≢false}
use Rattle.b2_access.specs.declared.accesses.Access.{Access}
use Rattle.b2_access.specs.declared.accesses.Access.TheVariants as access
use Rattle.b2_access.specs.declared.accesses.Answer.{Answer}
use Rattle.b2_access.specs.declared.accesses.Answer.TheVariants as answer
use Rattle.b2_access.specs.AnswerKinds.{delays}
use Rattle.b2_access.specs.Answering.{AnswersByRow, can_answer}
use Rattle.b2_access.specs.AskedAgain.{IsAskedAgain, OnlyDelaysAreAskedAgain}
use Rattle.b2_access.specs.Sharing.{ServingOf}

-- an answer that delays does, one that the view tells isn't asked again, and any other the access can't have
only_delays : (a : Access) (x : Answer) → can_answer a x ≡ true → IsAskedAgain a x → delays x ≡ true
only_delays a (answer.Wait q) can again = refl
only_delays a answer.NoKeys can again = refl
only_delays (access.Show term bytes column) answer.Done can again = (let none = again.0 in cc)
only_delays (access.Show term bytes column) x can again = absurd (true≢false (sym can))
only_delays (access.PrintTo addr bytes column) answer.Done can again = cc
only_delays (access.PrintTo addr bytes column) x can again = absurd (true≢false (sym can))
only_delays (access.OpenDevices addrs) answer.Done can again = cc
only_delays (access.OpenDevices addrs) x can again = absurd (true≢false (sym can))
only_delays (access.CloseDevices addrs) answer.Done can again = cc
only_delays (access.CloseDevices addrs) x can again = absurd (true≢false (sym can))
only_delays (access.ReadLine term) (answer.Line bytes) can again = cc
only_delays (access.ReadLine term) (answer.Special n) can again = cc
only_delays (access.ReadLine term) x can again = absurd (true≢false (sym can))
only_delays (access.Insert term bytes) answer.Done can again = absurd (true≢false again)
only_delays (access.Insert term bytes) x can again = absurd (true≢false (sym can))
only_delays (access.Key term) (answer.Key b) can again = cc
only_delays (access.Key term) (answer.Special n) can again = cc
only_delays (access.Key term) x can again = absurd (true≢false (sym can))
only_delays (access.Release term) answer.Done can again = absurd (true≢false again)
only_delays (access.Release term) x can again = absurd (true≢false (sym can))
only_delays (access.PutLine line atoms homes) answer.Done can again = absurd (true≢false again)
only_delays (access.PutLine line atoms homes) (answer.Refused c) can again = absurd (true≢false again)
only_delays (access.PutLine line atoms homes) (answer.Locked q) can again = absurd (true≢false again)
only_delays (access.PutLine line atoms homes) x can again = absurd (true≢false (sym can))
only_delays (access.Erase from to homes) answer.Done can again = cc
only_delays (access.Erase from to homes) (answer.Locked q) can again = cc
only_delays (access.Erase from to homes) x can again = absurd (true≢false (sym can))
only_delays (access.ClearAll name homes) answer.Done can again = cc
only_delays (access.ClearAll name homes) (answer.Locked q) can again = cc
only_delays (access.ClearAll name homes) x can again = absurd (true≢false (sym can))
only_delays (access.Enter name mark) (answer.Entered g spot) can again = absurd (true≢false again)
only_delays (access.Enter name mark) answer.NoPart can again = absurd (true≢false again)
only_delays (access.Enter name mark) (answer.Refused c) can again = absurd (true≢false again)
only_delays (access.Enter name mark) x can again = absurd (true≢false (sym can))
only_delays (access.Leave home) answer.Done can again = absurd (true≢false again)
only_delays (access.Leave home) x can again = absurd (true≢false (sym can))
only_delays (access.Drop homes) answer.Done can again = absurd (true≢false again)
only_delays (access.Drop homes) x can again = absurd (true≢false (sym can))
only_delays (access.Declare name old) answer.Done can again = absurd (true≢false again)
only_delays (access.Declare name old) (answer.Refused c) can again = absurd (true≢false again)
only_delays (access.Declare name old) x can again = absurd (true≢false (sym can))
only_delays (access.FindPart name) (answer.Holder p) can again = absurd (true≢false again)
only_delays (access.FindPart name) answer.NoPart can again = absurd (true≢false again)
only_delays (access.FindPart name) x can again = absurd (true≢false (sym can))
only_delays (access.Limits addr name) (answer.Four k l m n) can again = cc
only_delays (access.Limits addr name) x can again = absurd (true≢false (sym can))
only_delays (access.ListDisk addr) (answer.Bytes bytes) can again = cc
only_delays (access.ListDisk addr) x can again = absurd (true≢false (sym can))
only_delays (access.Scratch addr name) answer.Done can again = cc
only_delays (access.Scratch addr name) (answer.Refused c) can again = cc
only_delays (access.Scratch addr name) x can again = absurd (true≢false (sym can))
only_delays (access.Format addr index end) answer.Done can again = cc
only_delays (access.Format addr index end) (answer.Refused c) can again = cc
only_delays (access.Format addr index end) x can again = absurd (true≢false (sym can))
only_delays (access.DataNew addr old sectors name) (answer.Opened slot) can again = cc
only_delays (access.DataNew addr old sectors name) (answer.Refused c) can again = cc
only_delays (access.DataNew addr old sectors name) x can again = absurd (true≢false (sym can))
only_delays (access.DataOpen addr name) (answer.Opened slot) can again = cc
only_delays (access.DataOpen addr name) (answer.Refused c) can again = cc
only_delays (access.DataOpen addr name) x can again = absurd (true≢false (sym can))
only_delays (access.DataSave slot values) (answer.Moved place) can again = cc
only_delays (access.DataSave slot values) (answer.Refused c) can again = cc
only_delays (access.DataSave slot values) x can again = absurd (true≢false (sym can))
only_delays (access.DataEnd slot) (answer.Moved place) can again = cc
only_delays (access.DataEnd slot) (answer.Refused c) can again = cc
only_delays (access.DataEnd slot) x can again = absurd (true≢false (sym can))
only_delays (access.DataLoad slot kinds) (answer.Values values place) can again = cc
only_delays (access.DataLoad slot kinds) answer.AtEnd can again = cc
only_delays (access.DataLoad slot kinds) (answer.Refused c) can again = cc
only_delays (access.DataLoad slot kinds) x can again = absurd (true≢false (sym can))
only_delays (access.Skip slot way) (answer.Moved place) can again = cc
only_delays (access.Skip slot way) (answer.Refused c) can again = cc
only_delays (access.Skip slot way) x can again = absurd (true≢false (sym can))
only_delays (access.SaveProgram addr old name from to) answer.Done can again = cc
only_delays (access.SaveProgram addr old name from to) (answer.Refused c) can again = cc
only_delays (access.SaveProgram addr old name from to) x can again = absurd (true≢false (sym can))
only_delays (access.LoadProgram addr name replace declared homes) answer.Done can again = cc
only_delays (access.LoadProgram addr name replace declared homes) (answer.Locked q) can again = cc
only_delays (access.LoadProgram addr name replace declared homes) (answer.Refused c) can again = cc
only_delays (access.LoadProgram addr name replace declared homes) x can again = absurd (true≢false (sym can))
only_delays (access.RawSave addr at values) (answer.Moved next) can again = cc
only_delays (access.RawSave addr at values) (answer.Refused c) can again = cc
only_delays (access.RawSave addr at values) x can again = absurd (true≢false (sym can))
only_delays (access.RawEnd addr at) (answer.Moved next) can again = cc
only_delays (access.RawEnd addr at) (answer.Refused c) can again = cc
only_delays (access.RawEnd addr at) x can again = absurd (true≢false (sym can))
only_delays (access.RawLoad addr at kinds) (answer.Values values next) can again = cc
only_delays (access.RawLoad addr at kinds) answer.AtEnd can again = cc
only_delays (access.RawLoad addr at kinds) (answer.Refused c) can again = cc
only_delays (access.RawLoad addr at kinds) x can again = absurd (true≢false (sym can))
only_delays (access.BlockSave addr at bytes) (answer.Moved next) can again = cc
only_delays (access.BlockSave addr at bytes) (answer.Refused c) can again = cc
only_delays (access.BlockSave addr at bytes) x can again = absurd (true≢false (sym can))
only_delays (access.BlockLoad addr at) (answer.Block bytes) can again = cc
only_delays (access.BlockLoad addr at) (answer.Refused c) can again = cc
only_delays (access.BlockLoad addr at) x can again = absurd (true≢false (sym can))
only_delays (access.MovePlatter from to) answer.Done can again = cc
only_delays (access.MovePlatter from to) (answer.Refused c) can again = cc
only_delays (access.MovePlatter from to) x can again = absurd (true≢false (sym can))
only_delays (access.MoveFile from name to) answer.Done can again = cc
only_delays (access.MoveFile from name to) (answer.Refused c) can again = cc
only_delays (access.MoveFile from name to) x can again = absurd (true≢false (sym can))

pub only_delays_are_asked_again : {M : Type 0} (serving : ServingOf M) → AnswersByRow serving → OnlyDelaysAreAskedAgain serving
only_delays_are_asked_again serving by_row m who a again = only_delays a (serving m who a).answer (by_row m who a) again
