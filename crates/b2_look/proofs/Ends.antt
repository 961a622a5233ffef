-- How the fetch and the put of a file that is shown end the call.
use Rattle.std.proofs.Common.{◌≡◌, ℕ, List}
use Rattle.b2_base.specs.Files.{IsFetched}
use Rattle.b2_base.specs.Seen.{ShelfSeen, SinkSeen}
use Rattle.b2_status.specs.Fetches.{FetchFails}
use Rattle.b2_status.specs.Puts.{PutEnds}
use Rattle.b2_status.specs.declared.status.Status.{Status}
use Rattle.b2_status.specs.declared.status.Status.TheVariants as status
use Rattle.b2_look.specs.Shows.{file_limit, shown, IsPut, IsUnread, Shows}
use Rattle.b2_look.specs.declared.shows.View.{View}

unread : (name : List ℕ) (old new : ShelfSeen) (before after : SinkSeen) (s : Status) → FetchFails name file_limit old new s → new.files ≡ old.files → after ≡ before → IsUnread name old new before after s
unread name old new before after s h same still = record { fails = h; files = same; sink = still }

-- a fetch that ends the call, and memory that failed after it
pub not_read : (v : View) (name : List ℕ) (old new : ShelfSeen) (before after : SinkSeen) (s : Status) → FetchFails name file_limit old new s → new.files ≡ old.files → after ≡ before
    → Shows v name old new before after s
not_read v name old new before after status.Ok h same still = absurd h
not_read v name old new before after status.Usage h same still = absurd h
not_read v name old new before after (status.Missing at) h same still = unread name old new before after (status.Missing at) h same still
not_read v name old new before after (status.ReadFault at) h same still = unread name old new before after (status.ReadFault at) h same still
not_read v name old new before after (status.TooLong at limit) h same still = unread name old new before after (status.TooLong at limit) h same still
not_read v name old new before after (status.BadBoot check) h same still = absurd h
not_read v name old new before after (status.BadLog line check) h same still = absurd h
not_read v name old new before after (status.BadImage address check) h same still = absurd h
not_read v name old new before after (status.WriteFault at) h same still = absurd h
not_read v name old new before after status.NoMemory h same still = unread name old new before after status.NoMemory h same still
not_read v name old new before after (status.KeepNoMemory at) h same still = absurd h

module _ (v : View) (name bytes : List ℕ) (old new : ShelfSeen) (before after : SinkSeen) where
  was_put : (s : Status) → IsFetched old.files name file_limit bytes → new.files ≡ old.files → PutEnds (shown v bytes) before after s → IsPut v name old new before after s
  was_put s fetched same h = record { bytes = bytes; fetched = fetched; files = same; ends = h }

  -- a put of what is shown of a file that was read
  pub put : (s : Status) → IsFetched old.files name file_limit bytes → new.files ≡ old.files → PutEnds (shown v bytes) before after s → Shows v name old new before after s
  put status.Ok fetched same h = was_put status.Ok fetched same h
  put (status.WriteFault at) fetched same h = was_put (status.WriteFault at) fetched same h
  put (status.KeepNoMemory at) fetched same h = was_put (status.KeepNoMemory at) fetched same h
  put s fetched same h = absurd h
