-- A program text as it lies in a block of bytes: its lines one after another, in order of their numbers, and an index of them.
use Rattle.std.specs.Prelude.{◌≡◌, All, ℕ, ◌+◌, ◌-◌, ◌*◌, ◌/◌, ◌%◌, ◌<◌, ◌≤◌, ◌==◌, ◌||◌, Bool, false, List, [], ◌∷◌, ◌++◌, length, map, min, take, drop, get_or, is_some, if◌then◌else◌}
use Rattle.std.specs.List.Sorted.{IsStrictlySortedBy}
use Rattle.std.specs.Map.{keys_of}
use Rattle.std.specs.Ordering.{nat_cmp}
use Rattle.b2_atom.specs.Lines.{KeepsUnits, units_of}
use Rattle.b2_atom.specs.declared.spans.Span.{Span}
use Rattle.b2_atom.specs.declared.words.TheConstants.{DEFFN, DEFFN_PRIME}
use Rattle.b2_text.specs.Program.{Lines, cost}
use Rattle.b2_text.specs.Spots.{unit_of, data_in}
use Rattle.b2_text.specs.declared.block.LinePlace.{LinePlace}

-- a unit that begins with DEFFN or DEFFN'
abbrev pub is_opener : List ℕ → Bool
is_opener [] = false
is_opener (b ∷ bs) = b == DEFFN || b == DEFFN_PRIME

-- a line that begins with DEFFN or DEFFN'
abbrev pub is_opening : List ℕ → Bool
is_opening atoms = is_opener (unit_of 0 atoms)

-- a line in which a DATA stands
abbrev pub holds_data : List ℕ → Bool
holds_data atoms = is_some (data_in 0 atoms)

-- what kind of line: 1 where it begins with DEFFN or DEFFN', and 2 where a DATA stands in it
abbrev pub kind : List ℕ → ℕ
kind atoms = (if is_opening atoms then 1 else 0) + (if holds_data atoms then 2 else 0)

-- what stands before the atoms of a line: its number in two bytes, how many atom bytes and units it has, and its kind
abbrev pub heading : ℕ → List ℕ → List ℕ
heading n atoms = n / 256 ∷ n % 256 ∷ length atoms ∷ length (units_of atoms) ∷ kind atoms ∷ []

-- the units of lines
abbrev pub units_in : Lines → ℕ
units_in [] = 0
units_in (l ∷ ls) = length (units_of l.1) + units_in ls

-- the spans of all units of lines, one line after another
abbrev pub AreSpansOf : Lines → List Span → Type 0
AreSpansOf [] spans = spans ≡ []
AreSpansOf (l ∷ ls) spans = KeepsUnits l.1 (take (length (units_of l.1)) spans) × AreSpansOf ls (drop (length (units_of l.1)) spans)

-- lines one after another
abbrev pub spelled : Lines → List ℕ
spelled [] = []
spelled (l ∷ ls) = heading l.0 l.1 ++ (l.1 ++ spelled ls)

-- where a line lies, and where its units do
abbrev pub place_of : ℕ → ℕ → ℕ → List ℕ → LinePlace
place_of p u n atoms = record { number = n; start = p; first = u; width = length atoms; units = length (units_of atoms) }

-- where they lie from a place on, and their units from another on
abbrev pub places_of : ℕ → ℕ → Lines → List LinePlace
places_of p u [] = []
places_of p u (l ∷ ls) = place_of p u l.0 l.1 ∷ places_of (p + cost l.1) (u + length (units_of l.1)) ls

-- the line that lies at a place
abbrev pub line_placed : List ℕ → LinePlace → ℕ × List ℕ
line_placed block s = (s.number, take s.width (drop (s.start + 5) block))

abbrev pub lines_laid : List ℕ → List LinePlace → Lines
lines_laid block places = map (line_placed block) places

-- the block is what the lines spell, and the index says where they lie
pub record IsLaid (block : List ℕ) (places : List LinePlace) : Type 0 where
  pub spelled_is : block ≡ spelled (lines_laid block places)
  pub places_are : places ≡ places_of 0 0 (lines_laid block places)

-- what a text keeps within its area: the block and the index of its lines, whose numbers ascend, and the spans of all their units
pub record IsKept (area : ℕ) (block : List ℕ) (places : List LinePlace) (units : List Span) : Type 0 where
  pub laid : IsLaid block places
  pub ordered : IsStrictlySortedBy nat_cmp (keys_of (lines_laid block places))
  pub small : All (λ n. n ≤ 9999) (keys_of (lines_laid block places))
  pub spans : AreSpansOf (lines_laid block places) units
  pub fits : length block ≤ area

-- and memory for whatever lines the area can hold: a byte for each byte of it, a place for each six, since a line takes at least
-- six, and two spans for each three, since no line has more units
pub record IsRoomy (area bytes places units : ℕ) : Type 0 where
  pub few : area ≤ 65535
  pub for_bytes : area ≤ bytes
  pub for_places : area / 6 ≤ places
  pub for_units : area * 2 / 3 ≤ units

-- a place some bytes and some units further on, and as much before
abbrev pub raised : ℕ → ℕ → LinePlace → LinePlace
raised by more s = record s { start = min (s.start + by) 65535; first = min (s.first + more) 65535 }

abbrev pub lowered : ℕ → ℕ → LinePlace → LinePlace
lowered by less s = record s { start = s.start - by; first = s.first - less }

abbrev pub no_place : LinePlace
no_place = record { number = 0; start = 0; first = 0; width = 0; units = 0 }

abbrev pub number_at : List LinePlace → ℕ → ℕ
number_at places i = (get_or places i no_place).number

-- the numbers of an index ascend
abbrev pub IsAscending : List LinePlace → Type 0
IsAscending places = (i j : ℕ) → i < j → j < length places → number_at places i < number_at places j

-- the numbers before a place of the index are less than n, and those from it on are not
pub record IsPlaceOf (n : ℕ) (places : List LinePlace) (i : ℕ) : Type 0 where
  pub within : i ≤ length places
  pub below : (k : ℕ) → k < i → number_at places k < n
  pub above : (k : ℕ) → i ≤ k → k < length places → n ≤ number_at places k

-- a search of a number has come so far
pub record Between (n low high : ℕ) (places : List LinePlace) : Type 0 where
  pub order : low ≤ high
  pub within : high ≤ length places
  pub below : (k : ℕ) → k < low → number_at places k < n
  pub above : (k : ℕ) → high ≤ k → k < length places → n ≤ number_at places k
