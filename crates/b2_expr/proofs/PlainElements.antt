-- An element of the array of a plain name: its subscripts, its number, and what stands after it.
use Rattle.std.proofs.Common.{◌≡◌, ◌<◌, ℕ, ◌==◌, ◌&&◌, Bool, true, false, if◌then◌else◌, length, drop, get_or, Option, Some, None, Result, Ok, Err, refl, ap, ◌∙◌, subst, arith, length-drop}
use Rattle.std.specs.Option.{option_map_or}
use Rattle.b2_base.specs.Byte as byte
use Rattle.b2_base.specs.Lexical.{first, is_digit, is_letter}
use Rattle.b2_dec.specs.Number.{Number}
use Rattle.b2_vars.specs.Names.{is_legal_name}
use Rattle.b2_vars.specs.declared.name.Var.{Var}
use Rattle.b2_atom.specs.Words.{Text}
use Rattle.b2_atom.specs.declared.rows.TheConstants as row
use Rattle.b2_atom.specs.declared.forms.Start.TheVariants as start
use Rattle.b2_atom.specs.declared.forms.Leaf.TheVariants as leaf
use Rattle.b2_rows.specs.Rows.{is_phrase, tree_at, after_phrase}
use Rattle.b2_rows.specs.Leaves.{leaf_bytes}
use Rattle.b2_rows.specs.Optional.{maybe_phrase, maybe_tree, after_maybe}
use Rattle.b2_rows.specs.Values.{variable_name}
use Rattle.b2_rows.specs.declared.leaves.Name.{Name}
use Rattle.b2_rows.specs.declared.operands.Operand.TheVariants as kind
use Rattle.b2_rows.proofs.Levels.{part_no_longer}
use Rattle.b2_expr.specs.Answers.{Answer, ◌>>=◌}
use Rattle.b2_expr.specs.Functions.{column_written, subscript}
use Rattle.b2_expr.specs.Named.{after_name, number_there, plain_array, plain_width, variable_of}
use Rattle.b2_expr.specs.Scope.{Context}
use Rattle.b2_expr.specs.Value.{element_number, operand, second, subscripts, value}
use Rattle.b2_expr.specs.declared.named.NameKind.TheVariants as name_kind
use Rattle.b2_expr.specs.declared.named.Subscripts.{Subscripts}
use Rattle.b2_expr.specs.declared.operators.Level.TheVariants as level
use Rattle.b2_expr.proofs.Names.{branch_is, column_part, located_is, located_rest, located_subscripts, no_second, no_second_rest, number_leaf, row_part, row_shorter, second_is, second_part, second_rest, second_shorter, subscripts_is, subscripts_rest, subscripts_tree, variable_array}
use Rattle.b2_expr.proofs.PlainNames.{cell_number, first_of_rest, name_is, plain_name, width_is}

-- the name is a legal one
legal_by : (letter b : ℕ) (d : Bool) → is_letter letter ≡ true → is_digit b ≡ d → (is_letter letter && option_map_or is_digit (if d then Some b else None) true) ≡ true
legal_by letter b true h is = ap (λ (x : Bool). x && is_digit b) h ∙ is
legal_by letter b false h is = ap (λ (x : Bool). x && true) h

pub plain_legal : (letter b : ℕ) → is_letter letter ≡ true → is_legal_name (plain_array letter b) ≡ true
plain_legal letter b h = legal_by letter b (is_digit b) h refl

-- the number at subscripts
abbrev pub number_in : Context → Text → ℕ → ℕ → Answer
number_in e t r c = number_there (record { vars = e.around.own; element = record { global = false; var = plain_array (first t) (get_or t 1 0); row = r; column = c } })

-- a row and a column by their numbers
abbrev places : Number → Option Number → Subscripts
places r c = record { row = subscript r; column = column_written c }

-- where its subscripts stand
abbrev pub inside : Text → Text
inside t = drop 1 (drop (plain_width t) t)

module _ (t : Text) (ok : is_phrase row.VARIABLE t ≡ true) (h : is_letter (first t) ≡ true) (opening : (first (drop (plain_width t) t) == byte.opening) ≡ true) where
  after_is : after_name name_kind.Number t ≡ drop (plain_width t) t
  after_is = ap (λ (n : ℕ). drop n t) (width_is t (number_leaf t ok) h)

  opened : (first (after_name name_kind.Number t) == byte.opening) ≡ true
  opened = ap (λ (u : Text). first u == byte.opening) after_is ∙ opening

  there : maybe_phrase (start.Code byte.opening) row.SUBSCRIPTS (drop (plain_width t) t) ≡ true
  there = subst (λ (u : Text). maybe_phrase (start.Code byte.opening) row.SUBSCRIPTS u ≡ true) after_is (located_subscripts name_kind.Number t ok)

  pub row_here : is_phrase row.SUM (drop 1 (drop (plain_width t) t)) ≡ true
  row_here = row_part (drop (plain_width t) t) there opening

  pub column_here : (first (after_phrase row.SUM (drop 1 (drop (plain_width t) t))) == byte.comma) ≡ true → is_phrase row.SUM (drop 1 (after_phrase row.SUM (drop 1 (drop (plain_width t) t)))) ≡ true
  column_here is = second_part (after_phrase row.SUM (inside t)) (column_part (drop (plain_width t) t) there opening) is

  pub inside_shorter : length (drop 1 (drop (plain_width t) t)) < length t
  inside_shorter = let a = row_shorter (drop (plain_width t) t) opening in omega (arith, a, length-drop (plain_width t) t)

  pub column_inside : (first (after_phrase row.SUM (drop 1 (drop (plain_width t) t))) == byte.comma) ≡ true → length (drop 1 (after_phrase row.SUM (drop 1 (drop (plain_width t) t)))) < length t
  column_inside is =
      let a = second_shorter (after_phrase row.SUM (inside t)) is in let b = part_no_longer row.SUM (inside t) in let d = inside_shorter in omega (arith, a, b, d)

  variable_is : variable_of (plain_name t) true ≡ plain_array (first t) (get_or t 1 0)
  variable_is = ap (λ (b : ℕ). plain_array (first t) b) (first_of_rest t)

  -- what it is by its subscripts
  by_places : (e : Context) → operand e kind.Variable (tree_at row.VARIABLE t) ≡ (subscripts e (maybe_tree (start.Code byte.opening) row.SUBSCRIPTS (drop (plain_width t) t)) >>= (λ at. number_in e t at.row at.column))
  by_places e =
      variable_array e t ok opened
      ∙ ap element_number (located_is e name_kind.Number t ok)
      ∙ ap (λ (b : Bool). cell_number e (variable_name false (leaf_bytes leaf.Name t)) b (subscripts e (subscripts_tree name_kind.Number t))) (branch_is (after_name name_kind.Number t) ∙ opened)
      ∙ ap (λ (u : Text). cell_number e (variable_name false (leaf_bytes leaf.Name t)) true (subscripts e (maybe_tree (start.Code byte.opening) row.SUBSCRIPTS u))) after_is
      ∙ ap (λ (name : Name). cell_number e name true (subscripts e (maybe_tree (start.Code byte.opening) row.SUBSCRIPTS (drop (plain_width t) t)))) (name_is t (number_leaf t ok) h)
      ∙ by_cell (subscripts e (maybe_tree (start.Code byte.opening) row.SUBSCRIPTS (drop (plain_width t) t)))
    where
      by_cell : (found : Result Subscripts ℕ) → cell_number e (plain_name t) true found ≡ (found >>= (λ at. number_in e t at.row at.column))
      by_cell (Ok at) = ap (λ (v : Var). number_there (record { vars = e.around.own; element = record { global = false; var = v; row = at.row; column = at.column } })) variable_is
      by_cell (Err code) = refl

  pub one_is : (e : Context) → (first (after_phrase row.SUM (drop 1 (drop (plain_width t) t))) == byte.comma) ≡ false
      → operand e kind.Variable (tree_at row.VARIABLE t) ≡ (value e level.Sum (tree_at row.SUM (drop 1 (drop (plain_width t) t))) >>= (λ r. number_in e t (subscript r) 0))
  one_is e none =
      by_places e
      ∙ ap (λ (found : Result Subscripts ℕ). found >>= (λ at. number_in e t at.row at.column)) (subscripts_is e (drop (plain_width t) t) there opening)
      ∙ by_row (value e level.Sum (tree_at row.SUM (inside t)))
    where
      by_row : (a : Answer) → ((a >>= (λ r. second e (maybe_tree (start.Code byte.comma) row.COMMA_NUMBER (after_phrase row.SUM (inside t))) >>= (λ c. Ok (places r c)))) >>= (λ at. number_in e t at.row at.column))
          ≡ (a >>= (λ r. number_in e t (subscript r) 0))
      by_row (Ok r) = ap (λ (y : Result (Option Number) ℕ). (y >>= (λ c. Ok (places r c))) >>= (λ at. number_in e t at.row at.column)) (no_second e (after_phrase row.SUM (inside t)) none)
      by_row (Err code) = refl

  pub two_is : (e : Context) → (first (after_phrase row.SUM (drop 1 (drop (plain_width t) t))) == byte.comma) ≡ true
      → operand e kind.Variable (tree_at row.VARIABLE t)
      ≡ (value e level.Sum (tree_at row.SUM (drop 1 (drop (plain_width t) t))) >>= (λ r. value e level.Sum (tree_at row.SUM (drop 1 (after_phrase row.SUM (drop 1 (drop (plain_width t) t))))) >>= (λ c. number_in e t (subscript r) (subscript c))))
  two_is e is =
      by_places e
      ∙ ap (λ (found : Result Subscripts ℕ). found >>= (λ at. number_in e t at.row at.column)) (subscripts_is e (drop (plain_width t) t) there opening)
      ∙ by_row (value e level.Sum (tree_at row.SUM (inside t)))
    where
      by_column : (r : Number) (b : Answer) → (((b >>= (λ x. Ok (Some x))) >>= (λ c. Ok (places r c))) >>= (λ at. number_in e t at.row at.column)) ≡ (b >>= (λ c. number_in e t (subscript r) (subscript c)))
      by_column r (Ok c) = refl
      by_column r (Err code) = refl

      by_row : (a : Answer) → ((a >>= (λ r. second e (maybe_tree (start.Code byte.comma) row.COMMA_NUMBER (after_phrase row.SUM (inside t))) >>= (λ c. Ok (places r c)))) >>= (λ at. number_in e t at.row at.column))
          ≡ (a >>= (λ r. value e level.Sum (tree_at row.SUM (drop 1 (after_phrase row.SUM (inside t)))) >>= (λ c. number_in e t (subscript r) (subscript c))))
      by_row (Ok r) =
          ap (λ (y : Result (Option Number) ℕ). (y >>= (λ c. Ok (places r c))) >>= (λ at. number_in e t at.row at.column))
          (second_is e (after_phrase row.SUM (inside t)) (column_part (drop (plain_width t) t) there opening) is)
          ∙ by_column r (value e level.Sum (tree_at row.SUM (drop 1 (after_phrase row.SUM (inside t)))))
      by_row (Err code) = refl

  -- and what stands after it
  by_rest : after_phrase row.VARIABLE t ≡ drop 1 (after_maybe (start.Code byte.comma) row.COMMA_NUMBER (after_phrase row.SUM (inside t)))
  by_rest =
      located_rest name_kind.Number t ok
      ∙ ap (after_maybe (start.Code byte.opening) row.SUBSCRIPTS) after_is
      ∙ subscripts_rest (drop (plain_width t) t) there opening

  pub one_rest : (first (after_phrase row.SUM (drop 1 (drop (plain_width t) t))) == byte.comma) ≡ false → after_phrase row.VARIABLE t ≡ drop 1 (after_phrase row.SUM (drop 1 (drop (plain_width t) t)))
  one_rest none = by_rest ∙ ap (drop 1) (no_second_rest (after_phrase row.SUM (inside t)) none)

  pub two_rest : (first (after_phrase row.SUM (drop 1 (drop (plain_width t) t))) == byte.comma) ≡ true → after_phrase row.VARIABLE t ≡ drop 1 (after_phrase row.SUM (drop 1 (after_phrase row.SUM (drop 1 (drop (plain_width t) t)))))
  two_rest is = by_rest ∙ ap (drop 1) (second_rest (after_phrase row.SUM (inside t)) (column_part (drop (plain_width t) t) there opening) is)
