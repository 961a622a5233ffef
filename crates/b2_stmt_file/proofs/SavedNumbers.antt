-- Each number of a record that is saved is one as the machine has them, where those of the variables are.
use Rattle.std.proofs.Common.{ℕ, zero, suc, ◌+◌, ◌==◌, Bool, true, false, if◌then◌else◌, List, [], ◌∷◌, Result, Ok, Err, IfOk, subst}
use Rattle.std.specs.List.{All}
use Rattle.std.proofs.lemmas.List.Elements.{All-append, All-cons, All-nil}
use Rattle.b2_base.specs.declared.codes.TheConstants.{X72_TOO_LONG}
use Rattle.b2_dec.specs.Number.{IsNumber}
use Rattle.b2_dec.specs.declared.values.Value.{Value}
use Rattle.b2_dec.specs.declared.values.Value.TheVariants as value_kind
use Rattle.b2_atom.specs.Tree.{Trees}
use Rattle.b2_atom.specs.Tree.Trees.{In}
use Rattle.b2_vars.specs.Shapes.{cells}
use Rattle.b2_vars.specs.Tables.{VarsState, shape_at}
use Rattle.b2_access.specs.Touching.{is_short}
use Rattle.b2_access.specs.declared.accesses.Access.{Access}
use Rattle.b2_access.specs.declared.accesses.Access.TheVariants as access
use Rattle.b2_access.specs.declared.planned.Planned.TheVariants as planned
use Rattle.b2_access.proofs.Working.{as_it_comes}
use Rattle.b2_expr.specs.Answers.{◌>>=◌, Answer, TextAnswer}
use Rattle.b2_expr.specs.Named.{Cell}
use Rattle.b2_expr.specs.Scope.{Context}
use Rattle.b2_expr.specs.Value.{element_number, text, text_of_cell, value}
use Rattle.b2_expr.specs.declared.operators.Level.TheVariants as level
use Rattle.b2_receiver.specs.Receivers.{whole_array}
use Rattle.b2_receiver.specs.declared.receiver.Array.{Array}
use Rattle.b2_stmt_file.specs.Elements.{alpha_value, array_values, array_variables, cell_of, element_recorded, name_of, number_value, recorded, then_values, value_in, values_from}
use Rattle.b2_stmt_file.specs.Plan.{works}
use Rattle.b2_stmt_file.specs.SavedNumbers.{GivesNumber, HoldsNumbers, IsAnyNumber, SavedNumbersAreNumbers, SavesNumbers}
use Rattle.b2_stmt_file.specs.SavedValues.{all_saved, array_saved, item_saved, operand_saved}
use Rattle.b2_stmt_file.proofs.NumbersOfExpressions.{LooksAtNumbers, place_gives, statement_looks_at_numbers, value_gives, variables_hold}
use Rattle.b2_stmt_file.proofs.Planned.{SavesItems, each_saving_planned, looked_at}

-- the values of an answer, where there are some
AreNumbers : Result (List Value) ℕ → Type 0
AreNumbers r = IfOk r (λ xs. All IsAnyNumber xs)

one_by : (x : Value) (b : Bool) → IsAnyNumber x → AreNumbers (if b then Ok (x ∷ []) else Err X72_TOO_LONG)
unfolding AreNumbers
one_by x true is = All-cons IsAnyNumber x [] is (All-nil IsAnyNumber)
one_by x false is = tt

one_saved : (x : Value) → IsAnyNumber x → AreNumbers (recorded x)
one_saved x is = one_by x (is_short x) is

then_saved : (a b : Result (List Value) ℕ) → AreNumbers a → AreNumbers b → AreNumbers (then_values a b)
unfolding AreNumbers
then_saved (Err c) b x y = tt
then_saved (Ok xs) (Err c) x y = tt
then_saved (Ok xs) (Ok ys) x y = All-append IsAnyNumber xs ys x y

after : {A : Type 0} (Holds : A → Type 0) (r : Result A ℕ) (next : A → Result (List Value) ℕ) → IfOk r Holds → ((x : A) → Holds x → AreNumbers (next x)) → AreNumbers (r >>= next)
unfolding AreNumbers
after Holds (Ok x) next is h = h x is
after Holds (Err c) next is h = tt

whatever : {A : Type 0} (r : Result A ℕ) (next : A → Result (List Value) ℕ) → ((x : A) → AreNumbers (next x)) → AreNumbers (r >>= next)
unfolding AreNumbers
whatever (Ok x) next h = h x
whatever (Err c) next h = tt

-- the elements of an array
pub number_valued : (r : Answer) → GivesNumber r → IfOk (r >>= (λ x. Ok (value_kind.Number x))) IsAnyNumber
number_valued (Ok x) is = is
number_valued (Err c) is = tt

pub alpha_valued : (r : TextAnswer) → IfOk (r >>= (λ bytes. Ok (value_kind.Alpha bytes))) IsAnyNumber
alpha_valued (Ok bytes) = tt
alpha_valued (Err c) = tt

valued_by : (alpha : Bool) (x y : Result Value ℕ) → IfOk x IsAnyNumber → IfOk y IsAnyNumber → IfOk (if alpha then x else y) IsAnyNumber
valued_by true x y p q = p
valued_by false x y p q = q

value_held : (p : Cell) → HoldsNumbers p.vars → IfOk (value_in p) IsAnyNumber
value_held p held =
    valued_by p.element.var.alpha (alpha_value p) (number_value p) (alpha_valued (text_of_cell (Ok p))) (number_valued (element_number (Ok p)) (place_gives (Ok p) held))

from_saved : (vars : VarsState) (a : Array) (k n : ℕ) → HoldsNumbers vars → AreNumbers (values_from vars a k n)
unfolding AreNumbers
from_saved vars a k zero held = All-nil IsAnyNumber
from_saved vars a k (suc n) held =
    then_saved (element_recorded vars a k) (values_from vars a (k + 1) n) (after IsAnyNumber (value_in (cell_of vars a k)) recorded (value_held (cell_of vars a k) held) one_saved) (from_saved vars a (k + 1) n held)

-- an item
module _ (e : Context) (h : LooksAtNumbers e) where
  array_gives : (t : Trees) → AreNumbers (array_saved e t)
  array_gives t =
      whatever (whole_array e.around t) (λ a. array_variables e.around a >>= (λ vars. array_values vars a))
      (λ a. after HoldsNumbers (array_variables e.around a) (λ vars. array_values vars a) (variables_hold e.around (name_of a) h.own h.globals)
      (λ vars held. from_saved vars a 0 (cells (shape_at a.var vars.table)) held))

  by_branch : (b : Bool) (x y : Result (List Value) ℕ) → AreNumbers x → AreNumbers y → AreNumbers (if b then x else y)
  by_branch true x y p q = p
  by_branch false x y p q = q

  operand_gives : (t : Trees) → AreNumbers (operand_saved e t)
  unfolding AreNumbers
  operand_gives (In n t end) =
      by_branch (n == 1) (text e t >>= (λ bytes. recorded (value_kind.Alpha bytes))) (value e level.Sum t >>= (λ x. recorded (value_kind.Number x)))
      (whatever (text e t) (λ bytes. recorded (value_kind.Alpha bytes)) (λ bytes. one_saved (value_kind.Alpha bytes) tt))
      (after IsNumber (value e level.Sum t) (λ x. recorded (value_kind.Number x)) (value_gives e h level.Sum t) (λ x is. one_saved (value_kind.Number x) is))
  operand_gives t = tt

  item_gives : (t : Trees) → AreNumbers (item_saved e t)
  unfolding AreNumbers
  item_gives (In n t end) = by_branch (n == 1) (array_saved e t) (operand_saved e t) (array_gives t) (operand_gives t)
  item_gives t = tt

  all_give : (ts : List Trees) → AreNumbers (all_saved e ts)
  unfolding AreNumbers
  all_give [] = All-nil IsAnyNumber
  all_give (t ∷ ts) = then_saved (item_saved e t) (all_saved e ts) (item_gives t) (all_give ts)

  saved_numbers : (a : Access) → SavesItems e a → SavesNumbers (planned.Ask a)
  unfolding AreNumbers
  saved_numbers (access.DataSave slot values) of = subst AreNumbers of.1 (all_give of.0)
  saved_numbers a of = tt

pub saved_numbers_are_numbers : SavedNumbersAreNumbers
saved_numbers_are_numbers devices me s own globals =
    let looks = statement_looks_at_numbers (looked_at me s).around own globals in
    as_it_comes SavesNumbers me s (works devices me s) (each_saving_planned devices me s SavesNumbers tt (λ p g is. tt) (λ code. tt) (λ addr a listed is legal of. saved_numbers (looked_at me s) looks a of))
