-- Kinds of answers.
use Rattle.std.specs.Prelude.{Bool, true, false}
use Rattle.b2_access.specs.declared.accesses.Answer.{Answer}
use Rattle.b2_access.specs.declared.accesses.Answer.TheVariants as answer

-- the answers that come before an access does anything
abbrev pub holds_up : Answer → Bool
holds_up (answer.Wait q) = true
holds_up (answer.Locked q) = true
holds_up x = false

abbrev pub is_wait : Answer → Bool
is_wait (answer.Wait q) = true
is_wait x = false

abbrev pub is_lock : Answer → Bool
is_lock (answer.Locked q) = true
is_lock x = false

-- the answers after which nothing was done
abbrev pub stops : Answer → Bool
stops (answer.Wait q) = true
stops (answer.Locked q) = true
stops answer.NoPart = true
stops (answer.Refused c) = true
stops x = false

-- the answers by which a step that is repeated doesn't count: another has to be waited for, or no key is there
abbrev pub delays : Answer → Bool
delays (answer.Wait q) = true
delays answer.NoKeys = true
delays x = false

-- it is done
abbrev pub is_done : Answer → Bool
is_done answer.Done = true
is_done x = false

-- it is done, or it was refused with a code
abbrev pub is_done_or_code : Answer → Bool
is_done_or_code answer.Done = true
is_done_or_code (answer.Refused c) = true
is_done_or_code x = false

-- what the reading of a line comes to
abbrev pub is_of_line : Answer → Bool
is_of_line (answer.Line bytes) = true
is_of_line (answer.Special n) = true
is_of_line answer.NoKeys = true
is_of_line x = false

-- what the reading of a key comes to
abbrev pub is_of_key : Answer → Bool
is_of_key (answer.Key b) = true
is_of_key (answer.Special n) = true
is_of_key answer.NoKeys = true
is_of_key x = false

-- what a disk is asked for
abbrev pub is_of_limits : Answer → Bool
is_of_limits (answer.Four a b c d) = true
is_of_limits x = false

abbrev pub is_of_listing : Answer → Bool
is_of_listing (answer.Bytes bytes) = true
is_of_listing x = false

-- what a data file is asked for, or a code
abbrev pub is_of_opening : Answer → Bool
is_of_opening (answer.Opened slot) = true
is_of_opening (answer.Refused c) = true
is_of_opening x = false

abbrev pub is_of_place : Answer → Bool
is_of_place (answer.Moved place) = true
is_of_place (answer.Refused c) = true
is_of_place x = false

abbrev pub is_of_loading : Answer → Bool
is_of_loading (answer.Values values place) = true
is_of_loading answer.AtEnd = true
is_of_loading (answer.Refused c) = true
is_of_loading x = false

-- the bytes of a sector, or a code
abbrev pub is_of_block : Answer → Bool
is_of_block (answer.Block bytes) = true
is_of_block (answer.Refused c) = true
is_of_block x = false

-- what the search for a name comes to
abbrev pub is_of_search : Answer → Bool
is_of_search (answer.Holder p) = true
is_of_search answer.NoPart = true
is_of_search x = false

-- what entering the text of another comes to
abbrev pub is_of_entering : Answer → Bool
is_of_entering (answer.Entered g spot) = true
is_of_entering answer.NoPart = true
is_of_entering (answer.Refused c) = true
is_of_entering x = false
