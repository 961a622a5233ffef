-- The truth of conditions, by their trees.
use Rattle.std.specs.Prelude.{ℕ, ◌==◌, Bool, Result, Ok, Err, if◌then◌else◌}
use Rattle.std.specs.Ordering.{int_cmp}
use Rattle.b2_base.specs.declared.codes.TheConstants.{S21_COMPARISON}
use Rattle.b2_dec.specs.Number.{value as size_of_number}
use Rattle.b2_alpha.specs.Relations.{holds, order_of}
use Rattle.b2_atom.specs.Tokens.Token.{Plain}
use Rattle.b2_atom.specs.Tree.{Trees}
use Rattle.b2_atom.specs.Tree.Trees.{Put, In}
use Rattle.b2_rows.specs.Links.{token_code}
use Rattle.b2_rows.specs.Values.{relation_of}
use Rattle.b2_expr.specs.Answers.{◌>>=◌}
use Rattle.b2_expr.specs.Operators.{joined_condition}
use Rattle.b2_expr.specs.Scope.{Context}
use Rattle.b2_expr.specs.Value.{value, text}
use Rattle.b2_expr.specs.declared.operators.Level.TheVariants as level

-- two alpha expressions compared by their bytes
abbrev pub compared_text : Context → Trees → Result Bool ℕ
compared_text s (In n a (Put (Plain k sign) (In m b end))) = text s a >>= (λ x. text s b >>= (λ y. Ok (holds (relation_of sign) (order_of x y))))
compared_text s t = Err S21_COMPARISON

-- two numeric expressions compared by their values
abbrev pub compared_numbers : Context → Trees → Result Bool ℕ
compared_numbers s (In n a (Put (Plain k sign) (In m b end))) =
    value s level.Sum a >>= (λ x. value s level.Sum b >>= (λ y. Ok (holds (relation_of sign) (int_cmp (size_of_number x) (size_of_number y)))))
compared_numbers s t = Err S21_COMPARISON

abbrev pub compared : Context → Trees → Result Bool ℕ
compared s (In n a end) = if n == 1 then compared_text s a else compared_numbers s a
compared s t = Err S21_COMPARISON

-- a condition, joined to further comparisons from the left, all of which are evaluated
abbrev pub further_condition : Context → Result Bool ℕ → Trees → Result Bool ℕ
further_condition s x (In n (Put word (In m a end)) more) =
    further_condition s (x >>= (λ p. compared s a >>= (λ q. Ok (joined_condition (token_code word) p q)))) more
further_condition s x t = x

unfoldable pub truth : Context → Trees → Result Bool ℕ
truth s (In n a more) = further_condition s (compared s a) more
truth s t = Err S21_COMPARISON
