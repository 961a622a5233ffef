-- $BREAK, by its row.
use Rattle.std.proofs.Common.{◌≡◌, ℕ, Bool, true, false, if◌then◌else◌, List, [], ◌∷◌, drop, Result, Ok, refl, ap, ◌∙◌}
use Rattle.b2_atom.specs.Words.{Text}
use Rattle.b2_atom.specs.Tokens.Token.{Coded}
use Rattle.b2_atom.specs.Tree.{Trees}
use Rattle.b2_atom.specs.Tree.Trees.{Done, Put, In}
use Rattle.b2_atom.specs.Grammar.{row_items, starts}
use Rattle.b2_atom.specs.declared.words.Origin.TheVariants.{Atoms}
use Rattle.b2_atom.specs.declared.words.TheConstants as word
use Rattle.b2_atom.specs.declared.rows.TheConstants as row
use Rattle.b2_atom.specs.declared.forms.Start.TheVariants as start
use Rattle.b2_atom.specs.declared.forms.Item.{Item}
use Rattle.b2_atom.specs.declared.forms.Item.TheVariants.{Word, Maybe}
use Rattle.b2_rows.specs.Rows.{is_phrase, tree_at}
use Rattle.b2_rows.proofs.RowsRead.{stands_of}
use Rattle.b2_expr.specs.Answers.{◌>>=◌}
use Rattle.b2_expr.specs.Functions.{whole_between}
use Rattle.b2_expr.specs.Scope.{Context}
use Rattle.b2_expr.specs.Value.{value}
use Rattle.b2_expr.specs.declared.operators.Level.TheVariants as level
use Rattle.b2_stmt.specs.Breaks.{turns_to_pass}
use Rattle.b2_stmt.proofs.BranchRows.{taken_way}

abbrev break_items : List Item
break_items = Word word.DOLLAR_BREAK ∷ Maybe start.Numeric row.SUM ∷ []

break_row : row_items row.BREAK ≡ break_items
unfolding row_items
break_row = refl

pub break_sum : (t : Text) → is_phrase row.BREAK t ≡ true → starts Atoms start.Numeric (drop 1 t) ≡ true → is_phrase row.SUM (drop 1 t) ≡ true
break_sum t ok is = (taken_way (starts Atoms start.Numeric (drop 1 t)) _ _ is (stands_of row.BREAK break_items t break_row ok).0.1).0

break_by : (s : Context) (b c : Bool) (a : Trees) → b ≡ c
    → turns_to_pass s (Put (Coded word.DOLLAR_BREAK) (if b then In 1 a Done else In 0 Done Done)) ≡ (if c then (value s level.Sum a >>= (λ x. whole_between 0 255 x)) else Ok 0)
break_by s true true a is = refl
break_by s false false a is = refl
break_by s true false a is = cc
break_by s false true a is = cc

pub break_with : (s : Context) (t : Text) → is_phrase row.BREAK t ≡ true → starts Atoms start.Numeric (drop 1 t) ≡ true
    → turns_to_pass s (tree_at row.BREAK t) ≡ (value s level.Sum (tree_at row.SUM (drop 1 t)) >>= (λ x. whole_between 0 255 x))
break_with s t ok is =
    ap (turns_to_pass s) (stands_of row.BREAK break_items t break_row ok).1 ∙ break_by s (starts Atoms start.Numeric (drop 1 t)) true (tree_at row.SUM (drop 1 t)) is

pub break_without : (s : Context) (t : Text) → is_phrase row.BREAK t ≡ true → starts Atoms start.Numeric (drop 1 t) ≡ false → turns_to_pass s (tree_at row.BREAK t) ≡ Ok 0
break_without s t ok is =
    ap (turns_to_pass s) (stands_of row.BREAK break_items t break_row ok).1 ∙ break_by s (starts Atoms start.Numeric (drop 1 t)) false (tree_at row.SUM (drop 1 t)) is
