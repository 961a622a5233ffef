-- Lists of the numbers of those lines of which something holds, ascending.
use Rattle.std.specs.Prelude.{◌≡◌, ℕ, ◌/◌, ◌<◌, ◌≤◌, Bool, nat_lt, not, List, [], ◌∷◌, ◌++◌, filter, length, get_or, if◌then◌else◌}
use Rattle.std.specs.Map.{keys_of}
use Rattle.b2_text.specs.Program.{Lines, is_within}
use Rattle.b2_text.specs.Blocks.{is_opening, holds_data}

-- the lines of which something holds
abbrev pub lines_where : (List ℕ → Bool) → Lines → Lines
lines_where test lines = filter (λ l. test l.1) lines

-- and their numbers
abbrev pub numbers_where : (List ℕ → Bool) → Lines → List ℕ
numbers_where test lines = keys_of (lines_where test lines)

-- what a text keeps beside its lines: the numbers of those that begin with DEFFN or DEFFN', and of those in which a DATA
-- stands; and memory for as many as its area can hold, since such a line takes at least seven bytes
pub record IsListed (area : ℕ) (lines : Lines) (openers datas : List ℕ) (opener_places data_places : ℕ) : Type 0 where
  pub opening : openers ≡ numbers_where is_opening lines
  pub holding : datas ≡ numbers_where holds_data lines
  pub for_openers : area / 7 ≤ opener_places
  pub for_datas : area / 7 ≤ data_places

-- the numbers of a list below one, and above one
abbrev pub lesser : ℕ → List ℕ → List ℕ
lesser n numbers = filter (λ m. nat_lt m n) numbers

abbrev pub greater : ℕ → List ℕ → List ℕ
greater n numbers = filter (λ m. nat_lt n m) numbers

-- a list in which a number stands, or doesn't, and all others as before
abbrev pub with_member : Bool → ℕ → List ℕ → List ℕ
with_member stands n numbers = lesser n numbers ++ ((if stands then n ∷ [] else []) ++ greater n numbers)

-- without the numbers from one to another
abbrev pub without_members : ℕ → ℕ → List ℕ → List ℕ
without_members from to numbers = filter (λ m. not (is_within from to m)) numbers

-- the numbers before a place of a list are less than n, and those from it on are not
pub record IsRankOf (n : ℕ) (numbers : List ℕ) (i : ℕ) : Type 0 where
  pub within : i ≤ length numbers
  pub less : (k : ℕ) → k < i → get_or numbers k 0 < n
  pub rest : (k : ℕ) → i ≤ k → k < length numbers → n ≤ get_or numbers k 0
