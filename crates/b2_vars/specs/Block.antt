-- The block of bytes that holds the variables: each is an entry of its name, its shape and its values, and a table says
-- where the entry of a name starts.
use Rattle.std.specs.Prelude.{◌≡◌, ℕ, zero, suc, ◌+◌, ◌-◌, ◌*◌, ◌/◌, ◌%◌, ◌≤◌, nat_le, nat_lt, Bool, true, false, ◌==◌, List, [], ◌∷◌, ◌++◌, length, take, drop, get_or, Option, None, Some, ⊤, if◌then◌else◌, refl}
use Rattle.std.specs.Option.{unwrap_or}
use Rattle.std.specs.Ordering.{eq_by_cmp}
use Rattle.std.specs.Coded.{Coded, code_by, coded×, coded_ℕ, coded_list}
use Rattle.b2_dec.specs.Number.{Number, IsNumber, zero_number}
use Rattle.b2_dec.specs.Packing.{packed, pairs_value}
use Rattle.b2_vars.specs.declared.name.Var.{Var}
use Rattle.b2_vars.specs.declared.shape.Shape.{Shape}
use Rattle.b2_vars.specs.Names.{var_cmp, coded_var, is_legal_name}
use Rattle.b2_vars.specs.Shapes.{overhead, cost, number_cells, alpha_bytes}
use Rattle.b2_vars.specs.Variables.{VariableState, coded_variable}
use Rattle.b2_vars.specs.Tables.{Entries, VarsState, IsVariable, table_of}

-- an area of bytes, and the entries of its block in their order
pub record BlockState : Type 0 where
  pub area : ℕ
  pub entries : Entries

abbrev pub coded_block : Coded BlockState
coded_block =
    code_by (ℕ × Entries) (coded× coded_ℕ (coded_list (coded× coded_var coded_variable))) (λ b. (b.area, b.entries)) (λ p. record { area = p.0; entries = p.1 }) (λ _. refl)

-- the variables in a block, as the contracts of calls see them
abbrev pub state_of : BlockState → VarsState
state_of b = record { area = b.area; table = table_of b.entries }

-- how many names there are
abbrev pub names : ℕ
names = 1144

-- 1 for an array and 2 for alpha
abbrev pub kind_of : Var → ℕ
kind_of v = (if v.array then 1 else 0) + (if v.alpha then 2 else 0)

-- a digit counted from 1, and 0 where there is none
abbrev pub digit_number : Option ℕ → ℕ
digit_number None = 0
digit_number (Some digit) = digit - 47

-- the number of a name, below the number of names
abbrev pub number_of : Var → ℕ
number_of v = ((v.letter - 65) * 11 + digit_number v.digit) * 4 + kind_of v

-- AN ENTRY IN BYTES: letter, digit or 0, its flags, and 0
abbrev pub name_bytes : Var → Bool → List ℕ
name_bytes v common = v.letter ∷ unwrap_or v.digit 0 ∷ (kind_of v + (if common then 4 else 0)) ∷ 0 ∷ []

-- the length of alpha values
abbrev pub length_bytes : Var → Shape → List ℕ
length_bytes v s = if v.alpha then s.len ∷ [] else []

-- a number in two bytes, the high one first
abbrev pub two_bytes : ℕ → List ℕ
two_bytes n = n / 256 ∷ n % 256 ∷ []

-- the rows and columns of an array
abbrev pub dimension_bytes : Var → Shape → List ℕ
dimension_bytes v s = if v.array then two_bytes s.rows ++ two_bytes s.cols else []

-- all before the values
abbrev pub head_bytes : Var → Shape → Bool → List ℕ
head_bytes v s common = name_bytes v common ++ (length_bytes v s ++ dimension_bytes v s)

abbrev pub packed_numbers : List Number → List ℕ
packed_numbers [] = []
packed_numbers (x ∷ xs) = packed x ++ packed_numbers xs

-- the values along rows: an alpha variable has no numbers, and one of numbers no bytes
abbrev pub value_bytes : VariableState → List ℕ
value_bytes x = packed_numbers x.numbers ++ x.bytes

abbrev pub entry_bytes : Var × VariableState → List ℕ
entry_bytes e = head_bytes e.0 e.1.shape e.1.common ++ value_bytes e.1

-- entries one after another
abbrev pub spelled : Entries → List ℕ
spelled [] = []
spelled (e ∷ es) = entry_bytes e ++ spelled es

-- WHAT BYTES SAY: the name with which an entry begins
abbrev pub read_digit : ℕ → Option ℕ
read_digit b = if b == 0 then None else Some b

abbrev pub read_name : List ℕ → Var
read_name b = record { letter = get_or b 0 0; digit = read_digit (get_or b 1 0); alpha = get_or b 2 0 / 2 % 2 == 1; array = get_or b 2 0 % 2 == 1 }

-- whether it is common
abbrev pub read_common : List ℕ → Bool
read_common b = nat_le 4 (get_or b 2 0)

-- its shape
abbrev pub read_two : List ℕ → ℕ → ℕ
read_two b at = get_or b at 0 * 256 + get_or b (at + 1) 0

abbrev pub read_dimension : Var → List ℕ → ℕ → ℕ
read_dimension v b at = if v.array then read_two b (if v.alpha then at + 1 else at) else 0

abbrev pub read_shape : Var → List ℕ → Shape
read_shape v b = record { rows = read_dimension v b 4; cols = read_dimension v b 6; len = if v.alpha then get_or b 4 0 else 0 }

-- the number of these signs, this size of the exponent and these digits
abbrev pub number_from : ℕ → ℕ → ℕ → Number
number_from signs size coef =
    if coef == 0 then zero_number else record { neg = signs % 2 == 1; coef = coef; place = if nat_le 8 signs then 99 - size else 99 + size }

-- the number that eight bytes hold, where they hold one
unfoldable pub unpacked : List ℕ → Number
unpacked b =
    let digits = pairs_value 0 b % 1000000000000000 in
    number_from (get_or b 0 0 / 16) (digits / 10000000000000) (digits % 10000000000000)

abbrev pub read_numbers : ℕ → List ℕ → List Number
read_numbers zero b = []
read_numbers (suc n) b = unpacked (take 8 b) ∷ read_numbers n (drop 8 b)

-- its values
abbrev pub read_variable : Var → Shape → Bool → List ℕ → VariableState
read_variable v s common b =
    record { shape = s; common = common; numbers = read_numbers (number_cells v s) b; bytes = take (alpha_bytes s) (drop (number_cells v s * 8) b) }

abbrev pub read_entry_of : Var → List ℕ → Var × VariableState
read_entry_of v b = (v, read_variable v (read_shape v b) (read_common b) (drop (overhead v) b))

unfoldable pub read_entry : List ℕ → Var × VariableState
read_entry b = read_entry_of (read_name b) b

-- at most n entries, one after another
unfoldable pub read_entries : ℕ → List ℕ → Entries
read_entries zero b = []
read_entries (suc n) [] = []
read_entries (suc n) (x ∷ b) = let e = read_entry (x ∷ b) in e ∷ read_entries n (drop (cost e.0 e.1.shape) (x ∷ b))

-- the entries in the used bytes of a block
unfoldable pub entries_in : ℕ → List ℕ → Entries
entries_in used block = read_entries used (take used block)

-- WHERE A NAME STANDS: its entry's first byte, counted from 1, and 0 where there is none
abbrev pub place_from : ℕ → Var → Entries → ℕ
place_from at v [] = 0
place_from at v (e ∷ es) = if eq_by_cmp var_cmp v e.0 then at else place_from (at + cost e.0 e.1.shape) v es

unfoldable pub place_of : Var → Entries → ℕ
place_of v es = place_from 1 v es

-- a place past another, lower by as many bytes
abbrev pub lowered : ℕ → ℕ → ℕ → ℕ
lowered past by place = if nat_lt past place then place - by else place

-- the entries but those of a name
abbrev pub without : Var → Entries → Entries
without v [] = []
without v (e ∷ es) = if eq_by_cmp var_cmp v e.0 then without v es else e ∷ without v es

-- whether a name stands among entries
abbrev pub stands_in : Var → Entries → Bool
stands_in v [] = false
stands_in v (e ∷ es) = if eq_by_cmp var_cmp v e.0 then true else stands_in v es

abbrev pub AllNumbers : List Number → Type 0
AllNumbers [] = ⊤
AllNumbers (x ∷ xs) = IsNumber x × AllNumbers xs

-- an entry that stands in a block
pub record IsStored (v : Var) (x : VariableState) : Type 0 where
  pub variable : IsVariable v x
  pub numbers : AllNumbers x.numbers

-- each entry does, and no name stands in two of them
abbrev pub AllStored : Entries → Type 0
AllStored [] = ⊤
AllStored (e ∷ es) = IsStored e.0 e.1 × (stands_in e.0 es ≡ false) × AllStored es

-- A block begins with its entries, which are all the bytes in use, and the table has the place of each name. A place takes four
-- bytes, so a block has no more than these can count.
pub record IsLaid (block : List ℕ) (used : ℕ) (places : List ℕ) (es : Entries) : Type 0 where
  pub rest : List ℕ
  pub written : block ≡ spelled es ++ rest
  pub counted : used ≡ length (spelled es)
  pub short : length block ≤ 4294967295
  pub stored : AllStored es
  pub named : length places ≡ names
  pub found : (v : Var) → is_legal_name v ≡ true → get_or places (number_of v) 0 ≡ place_of v es

-- the entry of a name starts at this place, counted from 1
pub record StandsAt (v : Var) (place : ℕ) (es : Entries) : Type 0 where
  pub is : place ≡ place_of v es
  pub some : 1 ≤ place

-- the entries of common variables
abbrev pub common_entries : Entries → Entries
common_entries [] = []
common_entries (e ∷ es) = if e.1.common then e ∷ common_entries es else common_entries es

-- The entries before a place were looked at: those of common variables stand first, up to another place, and the others
-- are gone. The rest stand where they stood.
pub record IsKept (bytes : List ℕ) (from to used : ℕ) (places : List ℕ) (es : Entries) : Type 0 where
  pub done : Entries
  pub left : Entries
  pub gap : List ℕ
  pub free : List ℕ
  pub all : es ≡ done ++ left
  pub short : length bytes ≤ 4294967295
  pub stored : AllStored es
  pub written : bytes ≡ spelled (common_entries done) ++ (gap ++ (spelled left ++ free))
  pub from_is : from ≡ to + length gap
  pub to_is : to ≡ length (spelled (common_entries done))
  pub used_is : used ≡ from + length (spelled left)
  pub named : length places ≡ names
  pub found : (v : Var) → is_legal_name v ≡ true → get_or places (number_of v) 0 ≡ (if stands_in v done then place_of v (common_entries done) else place_of v es)
