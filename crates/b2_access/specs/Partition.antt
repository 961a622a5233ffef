-- What a partition has for itself.
use Rattle.std.specs.Prelude.{◌≡◌, ℕ, Bool, true, false, not, List, [], ◌∷◌, ◌++◌, Option, Some, None, is_some, replicate, codes}
use Rattle.std.specs.Option.{option_map_or}
use Rattle.std.specs.FinMap as map
use Rattle.b2_base.specs.Byte as byte
use Rattle.b2_base.specs.declared.files.Slot.{Slot}
use Rattle.b2_dec.specs.declared.number.Mode.TheVariants.{Round}
use Rattle.b2_flow.specs.declared.frame.Place.{Place}
use Rattle.b2_vars.specs.Tables.{VarsState}
use Rattle.b2_access.specs.declared.private.Private.{Private}
use Rattle.b2_vars.specs.declared.setting.Setting.{Setting}

-- the address of the terminal
abbrev pub terminal_address : List ℕ
terminal_address = codes "005"

-- what is shown where a partition becomes ready
abbrev pub ready_text : List ℕ
ready_text = codes "READY" ++ byte.newline ∷ byte.colon ∷ []

-- no variables, in an area
abbrev pub no_variables : ℕ → VarsState
no_variables area = record { area = area; table = map.empty }

-- no data file is open
abbrev pub no_files : List (Option Slot)
no_files = replicate 16 None

-- where a partition starts: at the first unit of an immediate line, or ready where it has none
abbrev pub starting_place : ℕ → Option (List ℕ) → Option Place
starting_place p None = None
starting_place p (Some line) = Some (record { home = p; line = None; unit = 0 })

-- what waits to be shown then: `READY`, a newline and `:`, and nothing where a line is to run
abbrev pub greeting : Option (List ℕ) → Option (List ℕ × List ℕ)
greeting None = Some (terminal_address, ready_text)
greeting (Some line) = None

-- a partition as it starts, with an immediate line or none
abbrev pub at_start : ℕ → ℕ → ℕ → Option (List ℕ) → Option (List ℕ) → Private
at_start p t area line disk = record {
  part = p;
  term = t;
  mode = Round;
  place = starting_place p line;
  kept = None;
  immediate = line;
  vars = no_variables area;
  stack = [];
  slots = no_files;
  held = [];
  print = terminal_address;
  disk = disk;
  boot_disk = disk;
  global = None;
  declared = None;
  term_column = 0;
  print_column = 0;
  last = 0;
  at_end = false;
  next_data = None;
  args = None;
  halt = false;
  reset = false;
  pending = greeting line;
  numbered = None;
  literal = None;
  prompted = false;
  pass = 0;
}

-- it is ready where it has no place
abbrev pub is_ready : Private → Bool
is_ready me = not (is_some me.place)

-- it runs program text where its place is in a numbered line
abbrev pub runs_program : Private → Bool
runs_program me = option_map_or (λ (p : Place). is_some p.line) me.place false

-- no place is kept while program text runs
abbrev pub KeepsNone : Private → Type 0
KeepsNone me = runs_program me ≡ true → me.kept ≡ None

-- no loop and no call is left, no arguments wait for a DEFFN', and no place is kept for CONTINUE
abbrev pub without_frames : Private → Private
without_frames me = record me { stack = []; kept = None; args = None }

-- what its expressions look at beside its variables and a text
abbrev pub setting_of : Private → Setting
setting_of me = record { mode = me.mode; last = me.last; part = me.part; term = me.term }
