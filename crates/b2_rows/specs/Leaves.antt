-- What is typed by hand at a text of a unit: whether it stands there, its token, and what stands after it.
use Rattle.std.specs.Prelude.{ℕ, ◌==◌, ◌&&◌, nat_le, nat_lt, Bool, [], length, take, drop, get_or}
use Rattle.b2_base.specs.Lexical.{all_printable, first, is_decimal}
use Rattle.b2_atom.specs.Words.{Text}
use Rattle.b2_atom.specs.Tokens.{Token}
use Rattle.b2_atom.specs.Tokens.Token.{Plain, Lined}
use Rattle.b2_atom.specs.Tree.{Trees}
use Rattle.b2_atom.specs.Tree.Trees.{Put}
use Rattle.b2_atom.specs.Leaves.{leaf_width}
use Rattle.b2_atom.specs.declared.words.TheConstants as word
use Rattle.b2_atom.specs.declared.words.Origin.TheVariants.{Atoms}
use Rattle.b2_atom.specs.declared.forms.Leaf.{Leaf}
use Rattle.b2_atom.specs.declared.forms.Leaf.TheVariants as leaf

-- a line number: FF and two bytes of decimal digits
abbrev pub is_line_number : Text → Bool
is_line_number t = nat_le 3 (length t) && (first t == word.LINE_MARK && (is_decimal (get_or t 1 0) && is_decimal (get_or t 2 0)))

-- whether a leaf stands at a text
abbrev pub is_leaf : Leaf → Text → Bool
is_leaf leaf.LineNumber t = is_line_number t
is_leaf leaf.Text t = all_printable t
is_leaf k t = nat_lt 0 (leaf_width Atoms k t)

-- how many bytes it takes
abbrev pub leaf_size : Leaf → Text → ℕ
leaf_size leaf.LineNumber t = 3
leaf_size leaf.Text t = length t
leaf_size k t = leaf_width Atoms k t

-- the bytes of one that isn't a line number or free text
abbrev pub leaf_bytes : Leaf → Text → Text
leaf_bytes k t = take (leaf_width Atoms k t) t

-- its token: the two bytes of a line number, and else its bytes as they stand
abbrev pub leaf_token : Leaf → Text → Token
leaf_token leaf.LineNumber t = Lined (get_or t 1 0) (get_or t 2 0)
leaf_token leaf.Text t = Plain leaf.Text t
leaf_token k t = Plain k (leaf_bytes k t)

-- what stands after it
abbrev pub after_leaf : Leaf → Text → Text
after_leaf leaf.Text t = []
after_leaf k t = drop (leaf_size k t) t

-- its token before a tree; free text that is empty gives none
abbrev pub put_leaf : Leaf → Text → Trees → Trees
put_leaf leaf.Text [] a = a
put_leaf k t a = Put (leaf_token k t) a
