-- What is read where entries stand: each entry is read back, and so are all.
use Rattle.std.proofs.Common.{◌≡◌, ℕ, zero, suc, ◌+◌, ◌*◌, ◌/◌, ◌%◌, ◌≤◌, ◌==◌, ◌&&◌, Bool, true, false, cond, nat_le, List, [], ◌∷◌, ◌++◌, length, take, drop, get_or, Option, Some, None, refl, ap, ap₂, sym, ◌∙◌, arith, true≢false, append_assoc, length-append, div-add-mod'}
use Rattle.std.specs.Option.{unwrap_or, option_map_or}
use Rattle.std.proofs.lemmas.Bool.Decides.{nat_tests}
use Rattle.std.proofs.lemmas.List.{take_at, drop_at}
use Rattle.b2_base.specs.Lexical.{is_digit, is_letter}
use Rattle.b2_vars.specs.declared.name.Var.{Var}
use Rattle.b2_vars.specs.declared.shape.Shape.{Shape}
use Rattle.b2_vars.specs.Names.{is_legal_name}
use Rattle.b2_vars.specs.Shapes.{overhead, cost, size_of, cells, number_cells, alpha_bytes, has_length, has_dimensions, is_up_to}
use Rattle.b2_vars.specs.Variables.{VariableState}
use Rattle.b2_vars.specs.Tables.{Entries, IsVariable}
use Rattle.b2_vars.specs.Block.{kind_of, name_bytes, length_bytes, two_bytes, dimension_bytes, head_bytes, packed_numbers, value_bytes, entry_bytes, spelled, read_digit, read_name, read_common, read_two, read_dimension, read_shape, read_variable, read_entry_of, read_entry, read_entries, read_numbers, entries_in, IsStored, AllStored, IsLaid}
use Rattle.b2_vars.proofs.Heads.{length-head}
use Rattle.b2_vars.proofs.PackedNumbers.{length-numbers, numbers-read}
use Rattle.b2_vars.proofs.Costs.{is_zero, no_dimensions}

-- FLAGS
abbrev pub flags : Bool → Bool → Bool → ℕ
flags array alpha common = cond array 1 0 + cond alpha 2 0 + cond common 4 0

array-read : (array alpha common : Bool) → (flags array alpha common % 2 == 1) ≡ array
array-read true true true = refl
array-read true true false = refl
array-read true false true = refl
array-read true false false = refl
array-read false true true = refl
array-read false true false = refl
array-read false false true = refl
array-read false false false = refl

alpha-read : (array alpha common : Bool) → (flags array alpha common / 2 % 2 == 1) ≡ alpha
alpha-read true true true = refl
alpha-read true true false = refl
alpha-read true false true = refl
alpha-read true false false = refl
alpha-read false true true = refl
alpha-read false true false = refl
alpha-read false false true = refl
alpha-read false false false = refl

common-read : (array alpha common : Bool) → nat_le 4 (flags array alpha common) ≡ common
common-read true true true = refl
common-read true true false = refl
common-read true false true = refl
common-read true false false = refl
common-read false true true = refl
common-read false true false = refl
common-read false false true = refl
common-read false false false = refl

-- NAMES
some_digit : (d : ℕ) → is_digit d ≡ true → (d == 0) ≡ false
some_digit d is = grind (arith, nat_tests)

digit-read : (d : Option ℕ) → option_map_or is_digit d true ≡ true → read_digit (unwrap_or d 0) ≡ d
digit-read None is = refl
digit-read (Some d) is = ap (λ b. cond b None (Some d)) (some_digit d is)

right_true : (a b : Bool) → a && b ≡ true → b ≡ true
right_true true b p = p
right_true false b p = absurd (true≢false (sym p))

pub name-read : (v : Var) (common : Bool) (b : List ℕ) → is_legal_name v ≡ true → read_name (name_bytes v common ++ b) ≡ v
name-read v common b legal =
    let digit = digit-read v.digit (right_true (is_letter v.letter) _ legal) in
    let alpha = alpha-read v.array v.alpha common in
    let array = array-read v.array v.alpha common in
    λ i. record { letter = v.letter; digit = digit i; alpha = alpha i; array = array i }

pub flag-read : (v : Var) (common : Bool) (b : List ℕ) → read_common (name_bytes v common ++ b) ≡ common
flag-read v common b = common-read v.array v.alpha common

-- SHAPES
joined : (n : ℕ) → n / 256 * 256 + n % 256 ≡ n
joined n = div-add-mod' n 256

abbrev pub head_of : ℕ → ℕ → ℕ → Bool → Bool → ℕ → ℕ → ℕ → List ℕ
head_of l d f alpha array len rows cols = (l ∷ d ∷ f ∷ 0 ∷ []) ++ (cond alpha (len ∷ []) [] ++ cond array (two_bytes rows ++ two_bytes cols) [])

rows-read : (l d f : ℕ) (alpha array : Bool) (len rows cols : ℕ) (b : List ℕ) → cond array (read_two (head_of l d f alpha array len rows cols ++ b) (cond alpha 5 4)) 0 ≡ cond array rows 0
rows-read l d f true true len rows cols b = joined rows
rows-read l d f false true len rows cols b = joined rows
rows-read l d f true false len rows cols b = refl
rows-read l d f false false len rows cols b = refl

cols-read : (l d f : ℕ) (alpha array : Bool) (len rows cols : ℕ) (b : List ℕ) → cond array (read_two (head_of l d f alpha array len rows cols ++ b) (cond alpha 7 6)) 0 ≡ cond array cols 0
cols-read l d f true true len rows cols b = joined cols
cols-read l d f false true len rows cols b = joined cols
cols-read l d f true false len rows cols b = refl
cols-read l d f false false len rows cols b = refl

len-read : (l d f : ℕ) (alpha array : Bool) (len rows cols : ℕ) (b : List ℕ) → cond alpha (get_or (head_of l d f alpha array len rows cols ++ b) 4 0) 0 ≡ cond alpha len 0
len-read l d f true array len rows cols b = refl
len-read l d f false array len rows cols b = refl

left_true : (a b : Bool) → a && b ≡ true → a ≡ true
left_true true b p = refl
left_true false b p = absurd (true≢false (sym p))

-- a dimension and a length that aren't there are 0
kept : (b : Bool) (n : ℕ) → (b ≡ false → n ≡ 0) → cond b n 0 ≡ n
kept true n h = refl
kept false n h = sym (h refl)

pub no_length : (v : Var) (s : Shape) → has_length v s ≡ true → v.alpha ≡ false → s.len ≡ 0
no_length v s is e = is_zero s.len (sym (ap (λ b. cond b (is_up_to 124 s.len) (s.len == 0)) e) ∙ is)

pub shape-read : (v : Var) (s : Shape) (common : Bool) (b : List ℕ) → has_dimensions v s ≡ true → has_length v s ≡ true → read_shape v (head_bytes v s common ++ b) ≡ s
shape-read v s common b dimensions value_length =
    let l = v.letter in
    let d = unwrap_or v.digit 0 in
    let f = kind_of v + cond common 4 0 in
    let none = λ (e : v.array ≡ false). no_dimensions v s e dimensions in
    let rows : read_dimension v (head_bytes v s common ++ b) 4 ≡ s.rows = rows-read l d f v.alpha v.array s.len s.rows s.cols b ∙ kept v.array s.rows (λ e. is_zero s.rows (left_true _ _ (none e))) in
    let cols : read_dimension v (head_bytes v s common ++ b) 6 ≡ s.cols = cols-read l d f v.alpha v.array s.len s.rows s.cols b ∙ kept v.array s.cols (λ e. is_zero s.cols (right_true _ _ (none e))) in
    let len = len-read l d f v.alpha v.array s.len s.rows s.cols b ∙ kept v.alpha s.len (no_length v s value_length) in
    λ i. record { rows = rows i; cols = cols i; len = len i }

-- ENTRIES
times_zero : (n : ℕ) → n * 0 ≡ 0
times_zero n = omega arith

pub sizes : (v : Var) (s : Shape) → has_length v s ≡ true → number_cells v s * 8 + alpha_bytes s ≡ size_of v s
sizes v s is = by v.alpha refl
  where
    by : (b : Bool) → v.alpha ≡ b → number_cells v s * 8 + alpha_bytes s ≡ size_of v s
    by true e = omega (arith, ap (λ b. cond b 0 (cells s)) e, ap (λ b. cond b (alpha_bytes s) (cells s * 8)) e)
    by false e =
        let none : alpha_bytes s ≡ 0 = ap (λ n. cells s * n) (no_length v s is e) ∙ times_zero (cells s) in
        omega (arith, none, ap (λ b. cond b 0 (cells s)) e, ap (λ b. cond b (alpha_bytes s) (cells s * 8)) e)

pub length-values : (v : Var) (x : VariableState) → IsVariable v x → length (value_bytes x) ≡ size_of v x.shape
length-values v x is =
    omega (arith, length-append (packed_numbers x.numbers) x.bytes, length-numbers x.numbers, is.numbers, is.bytes, sizes v x.shape is.value_length)

pub length-entry : (v : Var) (x : VariableState) → IsVariable v x → length (entry_bytes (v, x)) ≡ cost v x.shape
length-entry v x is =
    omega (arith, length-append (head_bytes v x.shape x.common) (value_bytes x), length-head v x.shape x.common, length-values v x is)

-- the values after what stands before them
pub after-head : (v : Var) (x : VariableState) (b : List ℕ) → drop (overhead v) (entry_bytes (v, x) ++ b) ≡ value_bytes x ++ b
after-head v x b =
    ap (drop (overhead v)) (append_assoc (head_bytes v x.shape x.common) (value_bytes x) b)
    ∙ drop_at (head_bytes v x.shape x.common) (value_bytes x ++ b) (overhead v) (length-head v x.shape x.common)

pub shape-here : (v : Var) (x : VariableState) (b : List ℕ) → IsVariable v x → read_shape v (entry_bytes (v, x) ++ b) ≡ x.shape
shape-here v x b is =
    ap (read_shape v) (append_assoc (head_bytes v x.shape x.common) (value_bytes x) b) ∙ shape-read v x.shape x.common (value_bytes x ++ b) is.dimensions is.value_length

pub common-here : (v : Var) (x : VariableState) (b : List ℕ) → read_common (entry_bytes (v, x) ++ b) ≡ x.common
common-here v x b = flag-read v x.common ((length_bytes v x.shape ++ dimension_bytes v x.shape) ++ value_bytes x ++ b)

pub name-here : (v : Var) (x : VariableState) (b : List ℕ) → IsVariable v x → read_name (entry_bytes (v, x) ++ b) ≡ v
name-here v x b is = name-read v x.common ((length_bytes v x.shape ++ dimension_bytes v x.shape) ++ value_bytes x ++ b) is.named

variable-here : (v : Var) (x : VariableState) (b : List ℕ) → IsStored v x → read_variable v x.shape x.common (value_bytes x ++ b) ≡ x
variable-here v x b is =
    let s = x.shape in
    let joined = append_assoc (packed_numbers x.numbers) x.bytes b in
    let numbers : read_numbers (number_cells v s) (value_bytes x ++ b) ≡ x.numbers =
    ap₂ read_numbers (sym is.variable.numbers) joined ∙ numbers-read x.numbers (x.bytes ++ b) is.numbers in
    let rest : drop (number_cells v s * 8) (value_bytes x ++ b) ≡ x.bytes ++ b =
    ap (drop (number_cells v s * 8)) joined ∙ drop_at (packed_numbers x.numbers) (x.bytes ++ b) (number_cells v s * 8) (length-numbers x.numbers ∙ ap (λ (n : ℕ). n * 8) is.variable.numbers) in
    let bytes : take (alpha_bytes s) (drop (number_cells v s * 8) (value_bytes x ++ b)) ≡ x.bytes =
    ap (take (alpha_bytes s)) rest ∙ take_at x.bytes b (alpha_bytes s) is.variable.bytes in
    λ i. record { shape = s; common = x.common; numbers = numbers i; bytes = bytes i }

pub entry-here : (v : Var) (x : VariableState) (b : List ℕ) → IsStored v x → read_entry (entry_bytes (v, x) ++ b) ≡ (v, x)
unfolding read_entry
entry-here v x b is =
    let bs = entry_bytes (v, x) ++ b in
    ap (λ (w : Var). read_entry_of w bs) (name-here v x b is.variable)
    ∙ ap (λ (s : Shape). (v, read_variable v s (read_common bs) (drop (overhead v) bs))) (shape-here v x b is.variable)
    ∙ ap (λ (c : Bool). (v, read_variable v x.shape c (drop (overhead v) bs))) (common-here v x b)
    ∙ ap (λ (ys : List ℕ). (v, read_variable v x.shape x.common ys)) (after-head v x b)
    ∙ ap (λ (y : VariableState). (v, y)) (variable-here v x b is)

pub entries-here : (n : ℕ) (es : Entries) → AllStored es → length es ≤ n → read_entries n (spelled es) ≡ es
unfolding read_entries
entries-here zero [] all few = refl
entries-here (suc n) [] all few = refl
entries-here zero (e ∷ es) all few = absurd (omega arith)
entries-here (suc n) (e ∷ es) all few =
    let is = all.0 in
    let first = entry-here e.0 e.1 (spelled es) is in
    ap (λ (y : Var × VariableState). y ∷ read_entries n (drop (cost y.0 y.1.shape) (entry_bytes e ++ spelled es))) first
    ∙ ap (λ (ys : List ℕ). e ∷ read_entries n ys) (drop_at (entry_bytes e) (spelled es) (cost e.0 e.1.shape) (length-entry e.0 e.1 is.variable))
    ∙ ap (λ (ys : Entries). e ∷ ys) (entries-here n es all.2 (omega arith))

fewer : (es : Entries) → length es ≤ length (spelled es)
fewer [] = omega arith
fewer (e ∷ es) = omega (arith, fewer es, length-append (entry_bytes e) (spelled es), length-append (head_bytes e.0 e.1.shape e.1.common) (value_bytes e.1), length-append (name_bytes e.0 e.1.common) (length_bytes e.0 e.1.shape ++ dimension_bytes e.0 e.1.shape))

-- the entries with which a block is laid are those that are read
pub entries-laid : (block : List ℕ) (used : ℕ) (places : List ℕ) (es : Entries) → IsLaid block used places es → entries_in used block ≡ es
unfolding entries_in
entries-laid block used places es laid =
    ap (λ (b : List ℕ). read_entries used (take used b)) laid.written
    ∙ ap (read_entries used) (take_at (spelled es) laid.rest used (sym laid.counted))
    ∙ entries-here used es laid.stored (omega (arith, laid.counted, fewer es))
