-- What is shown of a file, and when each status comes.
use Rattle.std.specs.Prelude.{◌≡◌, ℕ, List}
use Rattle.b2_base.specs.Files.{IsFetched}
use Rattle.b2_base.specs.Seen.{ShelfSeen, SinkSeen}
use Rattle.b2_raw.specs.Report.{report_of}
use Rattle.b2_screen.specs.Shown.{screen_after}
use Rattle.b2_status.specs.Fetches.{FetchFails}
use Rattle.b2_status.specs.Puts.{PutEnds}
use Rattle.b2_status.specs.declared.status.Status.{Status}
use Rattle.b2_status.specs.declared.status.Status.TheVariants as status
use Rattle.b2_look.specs.Rows.{lines_shown}
use Rattle.b2_look.specs.declared.shows.View.{View}
use Rattle.b2_look.specs.declared.shows.View.TheVariants as view

-- how many bytes a file that is shown may have
abbrev pub file_limit : ℕ
file_limit = 67108864

-- the screen that a transcript leaves, and the report on an image, whatever is in the file
abbrev pub shown : View → List ℕ → List ℕ
shown view.Screen bytes = lines_shown (screen_after bytes)
shown view.Check bytes = report_of bytes

-- a file was read to its end, no file changed, and the put of what is shown of it ended the call
pub record IsPut (v : View) (name : List ℕ) (old new : ShelfSeen) (before after : SinkSeen) (s : Status) : Type 0 where
  pub bytes : List ℕ
  pub fetched : IsFetched old.files name file_limit bytes
  pub files : new.files ≡ old.files
  pub ends : PutEnds (shown v bytes) before after s

-- the fetch ended the call, or memory failed before the put: no file changed, and nothing was put
pub record IsUnread (name : List ℕ) (old new : ShelfSeen) (before after : SinkSeen) (s : Status) : Type 0 where
  pub fails : FetchFails name file_limit old new s
  pub files : new.files ≡ old.files
  pub sink : after ≡ before

-- when each status comes, over the name of the file, the shelf and the sink before and after
abbrev pub Shows : View → List ℕ → ShelfSeen → ShelfSeen → SinkSeen → SinkSeen → Status → Type 0
Shows v name old new before after status.Ok = IsPut v name old new before after status.Ok
Shows v name old new before after status.Usage = ⊥
Shows v name old new before after (status.Missing at) = IsUnread name old new before after (status.Missing at)
Shows v name old new before after (status.ReadFault at) = IsUnread name old new before after (status.ReadFault at)
Shows v name old new before after (status.TooLong at limit) = IsUnread name old new before after (status.TooLong at limit)
Shows v name old new before after (status.BadBoot check) = ⊥
Shows v name old new before after (status.BadLog line check) = ⊥
Shows v name old new before after (status.BadImage address check) = ⊥
Shows v name old new before after (status.WriteFault at) = IsPut v name old new before after (status.WriteFault at)
Shows v name old new before after status.NoMemory = IsUnread name old new before after status.NoMemory
Shows v name old new before after (status.KeepNoMemory at) = IsPut v name old new before after (status.KeepNoMemory at)
