-- Lists of partitions, as the command line names a group and as the summary tells who is apart: numbers from 1 to 16 that ascend,
-- joined by commas.
use Rattle.std.specs.Prelude.{◌≡◌, ◌≢◌, ℕ, ◌+◌, ◌-◌, ◌&&◌, ◌==◌, nat_le, nat_lt, true, List, [], ◌∷◌, ◌++◌, codes, Option, Some, None, option_map, option_and_then, if◌then◌else◌}
use Rattle.std.specs.Fmt.{decimal}
use Rattle.std.specs.List.{list_all}
use Rattle.b2_base.specs.Byte as byte
use Rattle.b2_base.specs.Lexical.{is_digit}
use Rattle.b2_base.specs.Pieces.{pieces}
use Rattle.b2_base.specs.Places.{part_of}
use Rattle.b2_boot.specs.Boots.{Ascends}

-- numbers joined by commas
abbrev pub each_after_comma : List ℕ → List ℕ
each_after_comma [] = []
each_after_comma (n ∷ ns) = byte.comma ∷ decimal n ++ each_after_comma ns

abbrev pub by_commas : List ℕ → List ℕ
by_commas [] = []
by_commas (n ∷ ns) = decimal n ++ each_after_comma ns

-- a list that is told: `-` where it is empty
abbrev pub list_or_dash : List ℕ → List ℕ
list_or_dash [] = codes "-"
list_or_dash (n ∷ ns) = by_commas (n ∷ ns)

-- the partition that a piece spells: a number from 1 to 16 without zeros before
abbrev pub part_in : List ℕ → Option ℕ
part_in (d ∷ []) = if is_digit d then part_of (d - byte.digit_0) else None
part_in (d ∷ e ∷ []) = if (d == byte.digit_0 + 1) && is_digit e then part_of (10 + (e - byte.digit_0)) else None
part_in piece = None

-- the partitions that pieces spell, each above the one before
abbrev pub parts_above : ℕ → List (List ℕ) → Option (List ℕ)
parts_above last [] = Some []
parts_above last (w ∷ ws) = option_and_then (λ p. if nat_lt last p then option_map (λ ps. p ∷ ps) (parts_above p ws) else None) (part_in w)

-- THE PARTITIONS THAT A WORD LISTS
abbrev pub listed_parts : List ℕ → Option (List ℕ)
listed_parts word = parts_above 0 (pieces byte.comma word)

-- A WORD LISTS PARTITIONS: at least one, each from 1 to 16 and above the one before, joined by commas.
pub record Lists (word parts : List ℕ) : Type 0 where
  pub spelled : word ≡ by_commas parts
  pub some : parts ≢ []
  pub ascending : Ascends 0 parts
  pub within : list_all (λ p. nat_le p 16) parts ≡ true
