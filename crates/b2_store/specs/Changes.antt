-- A key at a terminal, and a partition in front of it.
use Rattle.std.specs.Prelude.{ℕ, Bool, nat_lt, length, Option, Some, None}
use Rattle.b2_term.specs.Terminal.{TerminalState, keyed, queue_size}
use Rattle.b2_term.specs.declared.KeyItem.{KeyItem}
use Rattle.b2_access.specs.declared.objects.Object.TheVariants as object
use Rattle.b2_access.specs.Store.{StoreState, content, put}

-- a terminal changes, where it is listed
abbrev pub with_terminal : Option TerminalState → ℕ → (TerminalState → TerminalState) → StoreState → StoreState
with_terminal None t f s = s
with_terminal (Some x) t f s = put (object.Terminal t) (f x) s

abbrev pub keyed_at : ℕ → KeyItem → StoreState → StoreState
keyed_at t k s = with_terminal (content s (object.Terminal t)) t (keyed k) s

abbrev pub front_at : ℕ → ℕ → StoreState → StoreState
front_at t p s = with_terminal (content s (object.Terminal t)) t (λ x. record x { front = p }) s

-- whether a terminal has room for a key, None where it isn't listed
abbrev pub room_at : Option TerminalState → Option Bool
room_at None = None
room_at (Some x) = Some (nat_lt (length x.queue) queue_size)
