-- Operands of either kind with commas between them, at a text of a unit.
use Rattle.std.specs.Prelude.{Bool, List, ◌∷◌, drop, if◌then◌else◌}
use Rattle.b2_base.specs.Byte as byte
use Rattle.b2_atom.specs.Words.{Text}
use Rattle.b2_atom.specs.Tree.{Trees, also}
use Rattle.b2_atom.specs.Tree.Trees.{In}
use Rattle.b2_atom.specs.Grammar.{starts}
use Rattle.b2_atom.specs.declared.words.Origin.TheVariants.{Atoms}
use Rattle.b2_atom.specs.declared.rows.TheConstants as row
use Rattle.b2_atom.specs.declared.forms.Start.TheVariants as start
use Rattle.b2_rows.specs.Rows.{tree_at, after_phrase, is_list, list_at, after_list}
use Rattle.b2_rows.specs.Optional.{maybe_tree}
use Rattle.b2_rows.specs.CommaLists.{further_listed}

-- whether further operands stand at a text, and what stands after them
abbrev pub are_operands : Text → Bool
are_operands t = is_list (start.Code byte.comma) row.COMMA_OPERAND t

abbrev pub after_operands : Text → Text
after_operands t = after_list (start.Code byte.comma) row.COMMA_OPERAND t

abbrev pub past_operand : Text → Text
past_operand t = after_phrase row.OPERAND_OF_ANY_KIND t

-- a semicolon, or none
abbrev pub joint_at : Text → Trees
joint_at t = maybe_tree (start.Code byte.semicolon) row.SEMICOLON t

-- the further operands at a text, before a joint
abbrev pub further_at : Trees → Text → List Trees
further_at joint t = further_listed (also (list_at (start.Code byte.comma) row.COMMA_OPERAND t) joint)

-- the operands at a text, with the joint that ends them
abbrev pub end_joint : Text → Trees
end_joint t = joint_at (after_operands (past_operand t))

abbrev pub operands_at : Text → List Trees
operands_at t = tree_at row.OPERAND_OF_ANY_KIND t ∷ further_at (end_joint t) (past_operand t)

-- their tree
abbrev pub operands_tree : Text → Trees
operands_tree t = In 2 (tree_at row.OPERAND_OF_ANY_KIND t) (also (list_at (start.Code byte.comma) row.COMMA_OPERAND (past_operand t)) (end_joint t))

-- whether the image of PRINTUSING is named by a line, what stands after it, and the items after its comma
abbrev pub image_is_named : Text → Bool
image_is_named t = starts Atoms start.Line (drop 1 t)

abbrev pub after_image : Text → Text
after_image t = if image_is_named t then after_phrase row.LINE_NUMBER (drop 1 t) else after_phrase row.IMAGE_LITERAL (drop 1 t)

abbrev pub items_text : Text → Text
items_text t = drop 1 (after_image t)
