-- The length after a name without dimensions: a sum whose first operand begins with no parenthesis. It has rows of its own, and
-- its value is that of the same sum.
use Rattle.std.specs.Prelude.{◌≡◌, ◌==◌, true, false, if◌then◌else◌}
use Rattle.b2_base.specs.Byte as byte
use Rattle.b2_base.specs.Lexical.{first}
use Rattle.b2_atom.specs.Words.{Text}
use Rattle.b2_atom.specs.Tree.{Trees}
use Rattle.b2_atom.specs.Tree.Trees.{Done, In}
use Rattle.b2_atom.specs.declared.rows.TheConstants as row
use Rattle.b2_rows.specs.Rows.{after_phrase, is_phrase, tree_at}
use Rattle.b2_expr.specs.Answers.{Answer}
use Rattle.b2_expr.specs.Scope.{Context}
use Rattle.b2_expr.specs.Value.{value}
use Rattle.b2_expr.specs.declared.operators.Level.TheVariants as level

-- a tree with something else in its first branch
abbrev pub in_first : (Trees → Trees) → Trees → Trees
in_first change (In n a more) = In n (change a) more
in_first change t = t

-- an operand: a number that is written out, or one that begins with a name or a word, which is none in parentheses
abbrev pub as_operand : Trees → Trees
as_operand (In n a end) = if n == 1 then In 1 a Done else In 0 (In 0 a Done) Done
as_operand t = t

-- a sign and a power, or a power alone
abbrev pub as_signed : Trees → Trees
as_signed (In n sign power) = In 1 sign power
as_signed t = t

abbrev pub as_factor : Trees → Trees
as_factor (In n a end) = if n == 1 then as_signed a else In 0 Done (In 2 (in_first as_operand a) Done)
as_factor t = t

-- the tree of the sum: of its first product the first factor stands otherwise
abbrev pub as_sum : Trees → Trees
as_sum t = in_first (in_first as_factor) t

abbrev pub length_value : Context → Trees → Answer
length_value s t = value s level.Sum (as_sum t)

-- where no parenthesis stands first, a length is read where a sum is, has its value and leaves the same rest
abbrev pub LengthsAreSums : Type 0
LengthsAreSums =
    (s : Context) (t : Text) → (first t == byte.opening) ≡ false → is_phrase row.LENGTH t ≡ true
    → (is_phrase row.SUM t ≡ true) × (length_value s (tree_at row.LENGTH t) ≡ value s level.Sum (tree_at row.SUM t)) × (after_phrase row.LENGTH t ≡ after_phrase row.SUM t)
