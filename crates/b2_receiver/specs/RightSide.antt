-- The right side of an alpha assignment: a first operand, and operations with an operand each, by its tree; and what it makes of
-- the bytes of a receiver.
use Rattle.std.specs.Borrow.{Bor}
use Rattle.std.specs.Prelude.{◌≡◌, ℕ, ◌%◌, ◌==◌, Bool, List, [], ◌∷◌, ◌++◌, length, Option, Some, None, Result, Ok, Err, if◌then◌else◌}
use Rattle.b2_base.specs.Lexical.{first, hex_value}
use Rattle.b2_base.specs.Refusals.{IsRefused}
use Rattle.b2_base.specs.declared.codes.Fault.{Fault}
use Rattle.b2_base.specs.declared.codes.TheConstants.{S18_ALPHA, X75_NOT_DECIMAL}
use Rattle.b2_alpha.specs.Values.{padded}
use Rattle.b2_alpha.specs.Bits.{joined_by}
use Rattle.b2_alpha.specs.Sums.{are_decimal, binary_difference, binary_sum, bytewise_difference, bytewise_sum, decimal_difference, decimal_sum}
use Rattle.b2_atom.specs.Words.{Text}
use Rattle.b2_atom.specs.Tree.{Trees}
use Rattle.b2_atom.specs.Tree.Trees.{Done, Put, In}
use Rattle.b2_atom.specs.Grammar.{starts}
use Rattle.b2_atom.specs.declared.words.Origin.TheVariants.{Atoms}
use Rattle.b2_atom.specs.declared.words.TheConstants as word
use Rattle.b2_atom.specs.declared.rows.TheConstants as row
use Rattle.b2_atom.specs.declared.forms.Start.{Start}
use Rattle.b2_atom.specs.declared.forms.Start.TheVariants as start
use Rattle.b2_rows.specs.Rows.{is_phrase, tree_at, after_phrase}
use Rattle.b2_rows.specs.Links.{token_code}
use Rattle.b2_expr.specs.Answers.{TextAnswer, ◌>>=◌}
use Rattle.b2_expr.specs.Scope.{Context}
use Rattle.b2_expr.specs.Value.{text, token_text}
use Rattle.b2_receiver.specs.declared.operations.AlphaOperator.{AlphaOperator}
use Rattle.b2_receiver.specs.declared.operations.AlphaOperator.TheVariants as op
use Rattle.b2_receiver.specs.declared.operations.Operation.{Operation}
use Rattle.b2_receiver.specs.declared.operations.RightSide.{RightSide}

-- a first operand where one is written, and operations from the left
pub record Side : Type 0 where
  pub first : Option (List ℕ)
  pub operations : List Operation

-- what the code keeps of it
abbrev pub side_seen : RightSide → Side
side_seen r = record { first = r.first; operations = r.operations.items }

-- the operator of a word: AND, OR and XOR are digits of BOOL
abbrev pub operator_of : ℕ → AlphaOperator
operator_of c =
    if c == word.AND then op.Bool 8
    else (if c == word.OR then op.Bool 14
    else (if c == word.XOR then op.Bool 6
    else (if c == word.ADD then op.Add
    else (if c == word.ADDC then op.Addc
    else (if c == word.SUB then op.Sub
    else (if c == word.SUBC then op.Subc
    else (if c == word.DAC then op.Dac
    else op.Dsc)))))))

-- an operator with the value of its operand
abbrev pub with_operand : AlphaOperator → TextAnswer → Result Operation ℕ
with_operand o x = x >>= (λ bytes. Ok (record { operator = o; operand = bytes }))

-- BOOL and its digit
unfoldable pub digit_operation : Context → Trees → Result Operation ℕ
digit_operation s (Put word (Put digit (In n a end))) = with_operand (op.Bool (hex_value (first (token_text digit)))) (text s a)
digit_operation s t = Err S18_ALPHA

-- any other
unfoldable pub word_operation : Context → Trees → Result Operation ℕ
word_operation s (In k (Put word (In n a end)) close) = with_operand (operator_of (token_code word)) (text s a)
word_operation s t = Err S18_ALPHA

unfoldable pub operation : Context → Trees → Result Operation ℕ
operation s (In n a end) = if n == 1 then digit_operation s a else word_operation s a
operation s t = Err S18_ALPHA

-- an operation after others, and as many as follow
abbrev pub then_operation : Context → Result (List Operation) ℕ → Trees → Result (List Operation) ℕ
then_operation s x a = x >>= (λ os. operation s a >>= (λ o. Ok (os ++ o ∷ [])))

unfoldable pub further_operations : Context → Result (List Operation) ℕ → Trees → Result (List Operation) ℕ
further_operations s x (In n a more) = if n == 1 then further_operations s (then_operation s x a) more else x
further_operations s x t = x

-- a first operand and operations or none, and operations alone, of which there is one at least
abbrev pub side_of : Option (List ℕ) → Result (List Operation) ℕ → Result Side ℕ
side_of first x = x >>= (λ os. Ok (record { first = first; operations = os }))

unfoldable pub first_and_operations : Context → Trees → Result Side ℕ
first_and_operations s (In n a more) = text s a >>= (λ x. side_of (Some x) (further_operations s (Ok []) more))
first_and_operations s t = Err S18_ALPHA

unfoldable pub operations_alone : Context → Trees → Result Side ℕ
operations_alone s (In n a more) = side_of None (further_operations s (then_operation s (Ok []) a) more)
operations_alone s t = Err S18_ALPHA

unfoldable pub right_side : Context → Trees → Result Side ℕ
right_side s (In n a end) = if n == 1 then first_and_operations s a else operations_alone s a
right_side s t = Err S18_ALPHA

-- what operations begin with
abbrev pub operation_start : Start
operation_start = start.Among word.AND word.DSC

-- whether the right side is read at a text, its tree as it is the end of an assignment's, and what is left after it
unfoldable pub is_right_side : Text → Bool
is_right_side t = if starts Atoms start.Alpha t then is_phrase row.FIRST_AND_OPERATIONS t else is_phrase row.OPERATIONS t

unfoldable pub right_side_tree : Text → Trees
right_side_tree t = if starts Atoms start.Alpha t then In 1 (tree_at row.FIRST_AND_OPERATIONS t) Done else In 0 (tree_at row.OPERATIONS t) Done

unfoldable pub after_right_side : Text → Text
after_right_side t = if starts Atoms start.Alpha t then after_phrase row.FIRST_AND_OPERATIONS t else after_phrase row.OPERATIONS t

-- what an operator makes of the bytes of a receiver: under BOOL the operand stands at the left of them, under the others at
-- the right; of a digit its last four bits count
abbrev pub operated : AlphaOperator → List ℕ → List ℕ → TextAnswer
operated (op.Bool digit) to operand = Ok (joined_by (digit % 16) to operand)
operated op.Add to operand = Ok (bytewise_sum to operand)
operated op.Addc to operand = Ok (binary_sum to operand)
operated op.Sub to operand = Ok (bytewise_difference to operand)
operated op.Subc to operand = Ok (binary_difference to operand)
operated op.Dac to operand = if are_decimal to operand then Ok (decimal_sum to operand) else Err X75_NOT_DECIMAL
operated op.Dsc to operand = if are_decimal to operand then Ok (decimal_difference to operand) else Err X75_NOT_DECIMAL

-- the bytes that are made, and the code where an operation refuses
pub record SideResult : Type 0 where
  pub bytes : List ℕ
  pub code : Option ℕ

-- where an operation refuses, what was made before it stays
abbrev pub made_then : List ℕ → TextAnswer → (List ℕ → SideResult) → SideResult
made_then to (Ok bytes) next = next bytes
made_then to (Err code) next = record { bytes = to; code = Some code }

abbrev pub made_by : List Operation → List ℕ → SideResult
made_by [] to = record { bytes = to; code = None }
made_by (o ∷ os) to = made_then to (operated o.operator to o.operand) (made_by os)

-- the first operand, padded with blanks or cut
abbrev pub started : Option (List ℕ) → List ℕ → List ℕ
started None to = to
started (Some bytes) to = padded (length to) bytes

abbrev pub side_made : Side → List ℕ → SideResult
side_made side to = made_by side.operations (started side.first to)

-- operations that are put after others and what is left of the text, or a code
abbrev pub PutsOperations : Result (List Operation) ℕ → Text → List Operation → Result (Bor Text) Fault → Type 0
PutsOperations answer rest new (Ok left) = (answer ≡ Ok new) × (left.now ≡ rest)
PutsOperations answer rest new (Err f) = IsRefused answer f

-- a right side and what is left of the text, or a code
abbrev pub GivesSide : Result Side ℕ → Text → Result (RightSide × Bor Text) Fault → Type 0
GivesSide answer rest (Ok p) = (answer ≡ Ok (side_seen p.0)) × (p.1.now ≡ rest)
GivesSide answer rest (Err f) = IsRefused answer f

-- one at a cursor, which then stands after it; or a code, and then the cursor is as before
abbrev pub GivesSideAt : Result Side ℕ → Text → Text → Text → Result RightSide Fault → Type 0
GivesSideAt answer rest old new (Ok side) = (answer ≡ Ok (side_seen side)) × (new ≡ rest)
GivesSideAt answer rest old new (Err f) = IsRefused answer f × (new ≡ old)
