-- A store as it starts: empty texts, nobody inside, no `@` variables, idle terminals, printers that printed nothing, the platters of
-- the boot, and nobody who holds a device or a name.
use Rattle.std.specs.Prelude.{ℕ, Bool, List, [], ◌∷◌, ◌++◌, map, Option, None}
use Rattle.b2_text.specs.Program.{TextState}
use Rattle.b2_vars.specs.Tables.{VarsState}
use Rattle.b2_term.specs.Orders.{is_order}
use Rattle.b2_term.specs.Terminal.{TerminalState}
use Rattle.b2_access.specs.Partition.{no_variables}
use Rattle.b2_access.specs.Store.{StoreState}
use Rattle.b2_store.specs.declared.boot.StoreBoot.{StoreBoot}

-- a partition, the area of its text, and that of its `@` variables
abbrev pub Areas : Type 0
Areas = ℕ × ℕ × ℕ

abbrev pub text_row : Areas → ℕ × TextState
text_row p = (p.0, record { area = p.1; lines = [] })

abbrev pub borrow_row : Areas → ℕ × List ℕ
borrow_row p = (p.0, [])

abbrev pub globals_row : Areas → ℕ × VarsState
globals_row p = (p.0, no_variables p.2)

-- a terminal, the partition in front of it, and the order in which it goes round, which has a partition, and none twice
abbrev pub Round : Type 0
Round = ℕ × ℕ × List ℕ

abbrev pub has_order : Round → Bool
has_order t = is_order t.2

abbrev pub idle_row : Round → ℕ × TerminalState
idle_row t = (t.0, record { queue = []; front = t.1; order = t.2; line = []; transcript = [] })

-- contents at their keys, one after the other
abbrev pub with_keys : {K X : Type 0} → List K → List X → List (K × X)
with_keys [] xs = []
with_keys (k ∷ ks) [] = []
with_keys (k ∷ ks) (x ∷ xs) = (k, x) ∷ with_keys ks xs

-- a printer that printed nothing
abbrev pub blank_row : List ℕ → List ℕ × List ℕ
blank_row address = (address, [])

-- a device that nobody holds
abbrev pub free_row : List ℕ → List ℕ × Option ℕ
free_row address = (address, None)

abbrev pub store_at_start : StoreBoot → List (List ℕ) → StoreState
store_at_start b images = record {
  texts = map text_row b.partitions.items;
  borrows = map borrow_row b.partitions.items;
  globals = map globals_row b.partitions.items;
  terminals = map idle_row b.terminals.items;
  printers = map blank_row b.printers.items;
  platters = with_keys b.platters.items images;
  hogs = map free_row b.printers.items ++ map free_row b.platters.items;
  names = [];
}
