-- The shapes of variables: which are allowed, what they take, and where a value stands in one.
use Rattle.std.specs.Prelude.{ℕ, ◌+◌, ◌-◌, ◌*◌, max, Bool, ◌&&◌, ◌==◌, nat_le, if◌then◌else◌}
use Rattle.b2_vars.specs.declared.name.Var.{Var}
use Rattle.b2_vars.specs.declared.shape.Shape.{Shape}

-- from 1 to the most
abbrev pub is_up_to : ℕ → ℕ → Bool
is_up_to most n = nat_le 1 n && nat_le n most

-- a scalar has no dimensions; an array has one of up to 4,000, or two of up to 255 each
abbrev pub has_dimensions : Var → Shape → Bool
has_dimensions v s =
    if v.array then (if s.cols == 0 then is_up_to 4000 s.rows else (is_up_to 255 s.rows && is_up_to 255 s.cols))
    else (s.rows == 0 && s.cols == 0)

-- an alpha value is from 1 to 124 bytes long, a number has no length
abbrev pub has_length : Var → Shape → Bool
has_length v s = if v.alpha then is_up_to 124 s.len else s.len == 0

abbrev pub is_same_shape : Shape → Shape → Bool
is_same_shape a b = a.rows == b.rows && (a.cols == b.cols && a.len == b.len)

-- a scalar that is made by its first use: a number, or 16 bytes
abbrev pub scalar_shape : Var → Shape
scalar_shape v = record { rows = 0; cols = 0; len = if v.alpha then 16 else 0 }

-- how many values a shape has; a dimension that isn't there counts as one
abbrev pub cells : Shape → ℕ
cells s = max 1 s.rows * max 1 s.cols

-- how many of them are numbers
abbrev pub number_cells : Var → Shape → ℕ
number_cells v s = if v.alpha then 0 else cells s

-- how many bytes its alpha values have, none for numbers
abbrev pub alpha_bytes : Shape → ℕ
alpha_bytes s = cells s * s.len

-- what its values take: 8 for each number, and each byte of an alpha value
abbrev pub size_of : Var → Shape → ℕ
size_of v s = if v.alpha then alpha_bytes s else cells s * 8

-- what a variable takes beside its values
abbrev pub overhead : Var → ℕ
overhead v = if v.alpha then (if v.array then 9 else 5) else (if v.array then 8 else 4)

-- what a variable takes: a number 12, an alpha value 5 and its length, an array of numbers 8 and 8 for each, an alpha
-- array 9 and a length for each
abbrev pub cost : Var → Shape → ℕ
cost v s = overhead v + size_of v s

-- a subscript is 0 for a dimension that isn't there, and else from 1 to its size
abbrev pub is_subscript : ℕ → ℕ → Bool
is_subscript size k = if size == 0 then k == 0 else is_up_to size k

abbrev pub has_cell : Shape → ℕ → ℕ → Bool
has_cell s r c = is_subscript s.rows r && is_subscript s.cols c

-- the place of a value along rows, counted from 0
abbrev pub cell_at : Shape → ℕ → ℕ → ℕ
cell_at s r c = (r - 1) * max 1 s.cols + (c - 1)
