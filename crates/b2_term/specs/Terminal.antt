-- A terminal: keys that wait, the partition in front, the order in which it goes round, the line being typed, and all that was shown.
use Rattle.std.specs.Prelude.{◌≤◌, ℕ, ◌-◌, Bool, true, ◌&&◌, ◌==◌, nat_lt, not, List, [], ◌∷◌, ◌++◌, length, take, if◌then◌else◌}
use Rattle.b2_base.specs.Byte as byte
use Rattle.b2_base.specs.Lexical.{is_printable}
use Rattle.b2_term.specs.Orders.{next_in}
use Rattle.b2_term.specs.declared.KeyItem.{KeyItem}
use Rattle.b2_term.specs.declared.KeyItem.TheVariants.{Byte, Special}
use Rattle.b2_term.specs.declared.Read.{Read}
use Rattle.b2_term.specs.declared.Read.TheVariants as read

pub record TerminalState : Type 0 where
  pub queue : List KeyItem
  pub front : ℕ
  pub order : List ℕ
  pub line : List ℕ
  pub transcript : List ℕ

-- how many keys may wait, and how many bytes a typed line may have
abbrev pub queue_size : ℕ
queue_size = 128

abbrev pub line_size : ℕ
line_size = 256

-- what is shown where a line has no room, and what takes its last byte away
abbrev pub bell : ℕ
bell = 7

abbrev pub backspace : ℕ
backspace = 8

-- a key waits after the others, or is dropped where 128 wait
abbrev pub keyed : KeyItem → TerminalState → TerminalState
keyed k t = if nat_lt (length t.queue) queue_size then record t { queue = t.queue ++ k ∷ [] } else t

-- RETURN and each special function key end the reading of a line
abbrev pub ends_line : KeyItem → Bool
ends_line (Byte b) = b == byte.carriage_return
ends_line (Special n) = true

-- the line after a byte that doesn't end it: it is added where there is room, and a backspace takes the last away
abbrev pub typed : ℕ → List ℕ → List ℕ
typed b line =
    if is_printable b then (if nat_lt (length line) line_size then line ++ b ∷ [] else line)
    else (if b == backspace then take (length line - 1) line else line)

-- what is shown for that byte: itself, a bell where there is no room, and a backspace wipes the last byte
abbrev pub echo : ℕ → List ℕ → List ℕ
echo b line =
    if is_printable b then (if nat_lt (length line) line_size then b ∷ [] else bell ∷ [])
    else (if (b == backspace) && not (length line == 0) then backspace ∷ byte.blank ∷ backspace ∷ [] else [])

-- a line being typed, and the transcript
pub record Typing : Type 0 where
  pub line : List ℕ
  pub transcript : List ℕ

abbrev pub type_key : KeyItem → Typing → Typing
type_key (Byte b) t = record { line = typed b t.line; transcript = t.transcript ++ echo b t.line }
type_key (Special n) t = t

abbrev pub type_keys : List KeyItem → Typing → Typing
type_keys [] t = t
type_keys (k ∷ ks) t = type_keys ks (type_key k t)

-- bytes typed one after the other, none of which ends the line
abbrev pub type_bytes : List ℕ → Typing → Typing
type_bytes [] t = t
type_bytes (b ∷ bs) t = type_bytes bs (type_key (Byte b) t)

-- the terminal after bytes were typed into its line
abbrev pub with_typing : TerminalState → Typing → TerminalState
with_typing t now = record t { line = now.line; transcript = now.transcript }

abbrev pub inserted : List ℕ → TerminalState → TerminalState
inserted bytes t = with_typing t (type_bytes bytes (record { line = t.line; transcript = t.transcript }))

-- the keys before the first that ends the line
abbrev pub before_end : List KeyItem → List KeyItem
before_end [] = []
before_end (k ∷ ks) = if ends_line k then [] else k ∷ before_end ks

-- that key, and those after it
abbrev pub from_end : List KeyItem → List KeyItem
from_end [] = []
from_end (k ∷ ks) = if ends_line k then k ∷ ks else from_end ks

-- how the reading of a line ends
pub record Reading : Type 0 where
  pub answer : Read
  pub queue : List KeyItem
  pub line : List ℕ
  pub transcript : List ℕ

-- by the keys from the one that ends it on, after those before it were typed
abbrev pub ended : List KeyItem → Typing → Reading
ended [] t = record { answer = read.NoKeys; queue = []; line = t.line; transcript = t.transcript }
ended (Byte b ∷ ks) t = record { answer = read.Line t.line; queue = ks; line = []; transcript = t.transcript ++ byte.newline ∷ [] }
ended (Special n ∷ ks) t = record { answer = read.Special n; queue = ks; line = t.line; transcript = t.transcript }

-- the reading of a line from a queue
abbrev pub reading : List KeyItem → Typing → Reading
reading queue t = ended (from_end queue) (type_keys (before_end queue) t)

abbrev pub reading_at : TerminalState → Reading
reading_at t = reading t.queue (record { line = t.line; transcript = t.transcript })

-- the answer to the reading of a line
abbrev pub line_read : TerminalState → Read
line_read t = (reading_at t).answer

-- the terminal after the reading of a line
abbrev pub after_read : TerminalState → TerminalState
after_read t = record { queue = (reading_at t).queue; front = t.front; order = t.order; line = (reading_at t).line; transcript = (reading_at t).transcript }

-- the terminal after its front handed it on: the one that comes next in the order is in front
abbrev pub released : TerminalState → TerminalState
released t = record t { front = next_in t.order t.front }

-- a line that was read has at most 256 bytes
abbrev pub IsShortLine : Read → Type 0
IsShortLine (read.Line bytes) = length bytes ≤ line_size
IsShortLine (read.Special n) = Unit {0}
IsShortLine read.NoKeys = Unit {0}
