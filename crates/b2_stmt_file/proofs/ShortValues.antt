-- The values of a record that is saved are such as a record may have.
use Rattle.std.proofs.Common.{◌≡◌, ◌&&◌, ℕ, zero, suc, ◌+◌, ◌==◌, Bool, true, false, if◌then◌else◌, List, [], ◌∷◌, ◌++◌, Result, Ok, Err, refl, ap}
use Rattle.std.specs.List.{list_all}
use Rattle.b2_base.specs.declared.codes.TheConstants.{X72_TOO_LONG}
use Rattle.b2_dec.specs.declared.values.Value.{Value}
use Rattle.b2_dec.specs.declared.values.Value.TheVariants as value_kind
use Rattle.b2_atom.specs.Tree.{Trees}
use Rattle.b2_atom.specs.Tree.Trees.{In}
use Rattle.b2_vars.specs.Shapes.{cells}
use Rattle.b2_vars.specs.Tables.{VarsState, shape_at}
use Rattle.b2_access.specs.Touching.{is_short}
use Rattle.b2_access.proofs.Choice.{either}
use Rattle.b2_expr.specs.Answers.{◌>>=◌}
use Rattle.b2_expr.specs.Scope.{Context}
use Rattle.b2_expr.specs.Value.{text, value}
use Rattle.b2_expr.specs.declared.operators.Level.TheVariants as level
use Rattle.b2_receiver.specs.Receivers.{whole_array}
use Rattle.b2_receiver.specs.declared.receiver.Array.{Array}
use Rattle.b2_stmt_file.specs.Elements.{array_values, array_variables, cell_of, element_recorded, recorded, then_values, value_in, values_from}
use Rattle.b2_stmt_file.specs.SavedValues.{all_saved, array_saved, item_saved, operand_saved}

abbrev pub AreShort : Result (List Value) ℕ → Type 0
AreShort (Ok xs) = list_all is_short xs ≡ true
AreShort (Err c) = Unit {0}

Short : Result (List Value) ℕ → Type 0
Short r = AreShort r

one_by : (x : Value) (b : Bool) → is_short x ≡ b → AreShort (if b then Ok (x ∷ []) else Err X72_TOO_LONG)
one_by x true is = ap (λ (b : Bool). b && true) is
one_by x false is = tt

one_short : (x : Value) → AreShort (recorded x)
one_short x = one_by x (is_short x) refl

both_step : (c r s : Bool) → (c && r) ≡ true → (r ≡ true → s ≡ true) → (c && s) ≡ true
both_step true r s a f = f a
both_step false r s a f = cc

both_short : (xs ys : List Value) → list_all is_short xs ≡ true → list_all is_short ys ≡ true → list_all is_short (xs ++ ys) ≡ true
both_short [] ys a b = b
both_short (x ∷ xs) ys a b = both_step (is_short x) (list_all is_short xs) (list_all is_short (xs ++ ys)) a (λ h. both_short xs ys h b)

then_short : (a b : Result (List Value) ℕ) → AreShort a → AreShort b → AreShort (then_values a b)
then_short (Err c) b x y = tt
then_short (Ok xs) (Err c) x y = tt
then_short (Ok xs) (Ok ys) x y = both_short xs ys x y

after : {A : Type 0} (r : Result A ℕ) (next : A → Result (List Value) ℕ) → ((x : A) → AreShort (next x)) → AreShort (r >>= next)
after (Ok x) next h = h x
after (Err c) next h = tt

from_short : (vars : VarsState) (a : Array) (k n : ℕ) → AreShort (values_from vars a k n)
from_short vars a k zero = refl
from_short vars a k (suc n) = then_short (element_recorded vars a k) (values_from vars a (k + 1) n) (after (value_in (cell_of vars a k)) recorded one_short) (from_short vars a (k + 1) n)

array_short : (e : Context) (t : Trees) → AreShort (array_saved e t)
array_short e t =
    after (whole_array e.around t) (λ a. array_variables e.around a >>= (λ vars. array_values vars a))
    (λ a. after (array_variables e.around a) (λ vars. array_values vars a) (λ vars. from_short vars a 0 (cells (shape_at a.var vars.table))))

operand_short : (e : Context) (t : Trees) → Short (operand_saved e t)
unfolding Short
operand_short e (In n t end) =
    either Short (n == 1) _ _ (after (text e t) (λ bytes. recorded (value_kind.Alpha bytes)) (λ bytes. one_short (value_kind.Alpha bytes)))
    (after (value e level.Sum t) (λ x. recorded (value_kind.Number x)) (λ x. one_short (value_kind.Number x)))
operand_short e t = tt

item_short : (e : Context) (t : Trees) → Short (item_saved e t)
unfolding Short
item_short e (In n t end) = either Short (n == 1) _ _ (array_short e t) (operand_short e t)
item_short e t = tt

pub all_short : (e : Context) (ts : List Trees) → AreShort (all_saved e ts)
unfolding Short
all_short e [] = refl
all_short e (t ∷ ts) = then_short (item_saved e t) (all_saved e ts) (item_short e t) (all_short e ts)
