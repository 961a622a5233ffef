-- IF END by its row: its line.
use Rattle.std.proofs.Common.{◌≡◌, ℕ, true, false, List, [], ◌∷◌, drop, get_or, Option, Some, None, refl, ap}
use Rattle.b2_base.specs.declared.codes.TheConstants.{S15_LINE_NUMBER}
use Rattle.b2_atom.specs.Words.{Text}
use Rattle.b2_atom.specs.Grammar.{row_items}
use Rattle.b2_atom.specs.Units.{TreeUnit}
use Rattle.b2_atom.specs.declared.words.TheConstants as word
use Rattle.b2_atom.specs.declared.rows.TheConstants as row
use Rattle.b2_atom.specs.declared.forms.Leaf.TheVariants as leaf
use Rattle.b2_atom.specs.declared.forms.Item.{Item}
use Rattle.b2_atom.specs.declared.forms.Item.TheVariants.{Word, Typed}
use Rattle.b2_rows.specs.Following.{after_false, tree_units}
use Rattle.b2_rows.specs.Leaves.{is_leaf}
use Rattle.b2_rows.specs.Rows.{is_phrase, tree_at}
use Rattle.b2_rows.specs.Values.{line_of}
use Rattle.b2_rows.specs.declared.following.Goal.TheVariants as goal
use Rattle.b2_rows.proofs.RowsRead.{stands_of}
use Rattle.b2_access.specs.Dispatch.{units_on}
use Rattle.b2_stmt_file.specs.Ending.{end_goal}

abbrev end_items : List Item
end_items = Word word.IF ∷ Word word.END ∷ Word word.THEN ∷ Typed leaf.LineNumber S15_LINE_NUMBER ∷ []

end_row : row_items row.IF_END ≡ end_items
unfolding row_items
end_row = refl

abbrev pub line_text : Text → Text
line_text t = drop 1 (drop 1 (drop 1 t))

pub end_line : (t : Text) → is_phrase row.IF_END t ≡ true → is_leaf leaf.LineNumber (line_text t) ≡ true
end_line t ok = (stands_of row.IF_END end_items t end_row ok).0.1.1.1.0

pub end_true : (k : ℕ) (us : List TreeUnit) (t : Text) → is_phrase row.IF_END t ≡ true → end_goal true k us (tree_at row.IF_END t) ≡ goal.Line (line_of (get_or (line_text t) 1 0) (get_or (line_text t) 2 0))
end_true k us t ok = ap (end_goal true k us) (stands_of row.IF_END end_items t end_row ok).1

pub end_false : (k : ℕ) (us : List TreeUnit) (t : Text) → is_phrase row.IF_END t ≡ true → end_goal false k us (tree_at row.IF_END t) ≡ after_false k us
end_false k us t ok = ap (end_goal false k us) (stands_of row.IF_END end_items t end_row ok).1

-- the units of a line that is there, and of none
pub units_there : (k : ℕ) (o : Option Text) (line : Text) → Some line ≡ o → after_false k (tree_units line) ≡ after_false k (units_on o)
units_there k o line is = ap (λ (x : Option Text). after_false k (units_on x)) is

pub no_units : (k : ℕ) (o : Option Text) → None ≡ o → goal.NextLine ≡ after_false k (units_on o)
no_units k o is = ap (λ (x : Option Text). after_false k (units_on x)) is
