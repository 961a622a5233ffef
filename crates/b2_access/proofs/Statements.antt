-- A statement by its row and its tree, from what is known of each; and how many a line has.
use Rattle.std.proofs.Common.{◌≡◌, ◌≤◌, ◌∙◌, ℕ, ap, refl, true, length, Option, Some, None, option_map, arith}
use Rattle.b2_atom.specs.Words.{Text}
use Rattle.b2_atom.specs.Lines.{is_line}
use Rattle.b2_atom.specs.Tree.{Trees}
use Rattle.b2_atom.specs.Units.{TreeUnit}
use Rattle.b2_atom.proofs.lines.Units.{few_units}
use Rattle.b2_rows.specs.Following.{tree_units}
use Rattle.b2_rows.proofs.LineTrees.{count_is}
use Rattle.b2_access.specs.Placed.{Statement, statement_of}

some_is : {A : Type 0} (x y : A) → Some x ≡ Some y → x ≡ y
some_is x y h = cc

both : (r : ℕ) (t : Trees) (u : TreeUnit) → r ≡ u.row → t ≡ u.tree → ◌≡◌ {A = Statement} (record { row = r; tree = t }) (statement_of u)
both r t u is_r is_t = ap (λ (x : ℕ). record { row = x; tree = t }) is_r ∙ ap (λ (x : Trees). record { row = u.row; tree = x }) is_t

pub statement_is : {A : Type 0} (rows : A → ℕ) (trees : A → Trees) (o : Option A) (v : Option TreeUnit) → option_map rows o ≡ option_map (λ u. u.row) v → option_map trees o ≡ option_map (λ u. u.tree) v
    → option_map (λ u. record { row = rows u; tree = trees u }) o ≡ option_map statement_of v
statement_is rows trees None None is_r is_t = refl
statement_is rows trees None (Some v) is_r is_t = cc
statement_is rows trees (Some u) None is_r is_t = cc
statement_is rows trees (Some u) (Some v) is_r is_t = ap Some (both (rows u) (trees u) v (some_is _ _ is_r) (some_is _ _ is_t))

-- a line has at most 255
pub few : (line : Text) → is_line line ≡ true → length (tree_units line) ≤ 255
few line h = let e = count_is line h in let f = few_units line h in omega (arith, e, f)
