-- Expressions and receivers of either kind, by their rows.
use Rattle.std.proofs.Common.{◌≡◌, true, false, refl, ap}
use Rattle.b2_dec.specs.declared.values.Kind.TheVariants as kind
use Rattle.b2_atom.specs.Words.{Text}
use Rattle.b2_atom.specs.Grammar.{row_items, starts}
use Rattle.b2_atom.specs.declared.words.Origin.TheVariants.{Atoms}
use Rattle.b2_atom.specs.declared.rows.TheConstants as row
use Rattle.b2_atom.specs.declared.forms.Start.TheVariants as start
use Rattle.b2_rows.specs.Choices.{ReadAs, first_branch, second_branch}
use Rattle.b2_rows.specs.Rows.{is_phrase, tree_at, after_phrase}
use Rattle.b2_rows.proofs.Choices.{either_first, either_second}
use Rattle.b2_expr.specs.Scope.{Context}
use Rattle.b2_stmt_pack.specs.Lists.{bytes_value, kind_of, number_value, value_of}

-- an expression of either kind
alpha_read : (t : Text) → is_phrase row.OPERAND_OF_ANY_KIND t ≡ true → starts Atoms start.Alpha t ≡ true → ReadAs row.OPERAND_OF_ANY_KIND row.ALPHA first_branch t
unfolding row_items
alpha_read t ok is = either_first row.OPERAND_OF_ANY_KIND row.ALPHA row.SUM start.Alpha t refl ok is

number_read : (t : Text) → is_phrase row.OPERAND_OF_ANY_KIND t ≡ true → starts Atoms start.Alpha t ≡ false → ReadAs row.OPERAND_OF_ANY_KIND row.SUM second_branch t
unfolding row_items
number_read t ok is = either_second row.OPERAND_OF_ANY_KIND row.ALPHA row.SUM start.Alpha t refl ok is

pub alpha_here : (t : Text) → is_phrase row.OPERAND_OF_ANY_KIND t ≡ true → starts Atoms start.Alpha t ≡ true → is_phrase row.ALPHA t ≡ true
alpha_here t ok is = ReadAs.part (alpha_read t ok is)

pub alpha_is : (s : Context) (t : Text) → is_phrase row.OPERAND_OF_ANY_KIND t ≡ true → starts Atoms start.Alpha t ≡ true → value_of s (tree_at row.OPERAND_OF_ANY_KIND t) ≡ bytes_value s (tree_at row.ALPHA t)
alpha_is s t ok is = ap (value_of s) (ReadAs.tree (alpha_read t ok is))

pub alpha_rest : (t : Text) → is_phrase row.OPERAND_OF_ANY_KIND t ≡ true → starts Atoms start.Alpha t ≡ true → after_phrase row.OPERAND_OF_ANY_KIND t ≡ after_phrase row.ALPHA t
alpha_rest t ok is = ReadAs.rest (alpha_read t ok is)

pub number_here : (t : Text) → is_phrase row.OPERAND_OF_ANY_KIND t ≡ true → starts Atoms start.Alpha t ≡ false → is_phrase row.SUM t ≡ true
number_here t ok is = ReadAs.part (number_read t ok is)

pub number_is : (s : Context) (t : Text) → is_phrase row.OPERAND_OF_ANY_KIND t ≡ true → starts Atoms start.Alpha t ≡ false → value_of s (tree_at row.OPERAND_OF_ANY_KIND t) ≡ number_value s (tree_at row.SUM t)
number_is s t ok is = ap (value_of s) (ReadAs.tree (number_read t ok is))

pub number_rest : (t : Text) → is_phrase row.OPERAND_OF_ANY_KIND t ≡ true → starts Atoms start.Alpha t ≡ false → after_phrase row.OPERAND_OF_ANY_KIND t ≡ after_phrase row.SUM t
number_rest t ok is = ReadAs.rest (number_read t ok is)

-- the kind of a receiver
pub alpha_kind : (t : Text) → is_phrase row.RECEIVER t ≡ true → starts Atoms start.Alpha t ≡ true → kind_of (tree_at row.RECEIVER t) ≡ kind.Alpha
unfolding row_items
alpha_kind t ok is = ap kind_of (ReadAs.tree (either_first row.RECEIVER row.ALPHA_RECEIVER row.NUMERIC_RECEIVER start.Alpha t refl ok is))

pub number_kind : (t : Text) → is_phrase row.RECEIVER t ≡ true → starts Atoms start.Alpha t ≡ false → kind_of (tree_at row.RECEIVER t) ≡ kind.Number
unfolding row_items
number_kind t ok is = ap kind_of (ReadAs.tree (either_second row.RECEIVER row.ALPHA_RECEIVER row.NUMERIC_RECEIVER start.Alpha t refl ok is))
