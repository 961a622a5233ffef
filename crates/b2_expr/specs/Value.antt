-- The values of numeric and of alpha expressions, by their trees.
use Rattle.std.specs.Prelude.{ℕ, zero, suc, ◌-◌, ◌==◌, Bool, true, false, List, [], ◌∷◌, length, take, drop, Option, Some, None, Result, Ok, Err, option_map, if◌then◌else◌}
use Rattle.b2_base.specs.Lexical.{first}
use Rattle.b2_base.specs.declared.codes.TheConstants.{A04_TOO_DEEP, P38_NO_DEFFN, S17_NUMERIC, S18_ALPHA}
use Rattle.b2_dec.specs.Number.{Number}
use Rattle.b2_dec.specs.declared.number.Mode.{Mode}
use Rattle.b2_dectext.specs.NumberText.{number_len, number_value}
use Rattle.b2_alpha.specs.Values.{value_of}
use Rattle.b2_atom.specs.Words.{Text}
use Rattle.b2_atom.specs.Tokens.{Token}
use Rattle.b2_atom.specs.Tokens.Token.{Coded, Short, Plain, Lined}
use Rattle.b2_atom.specs.Tree.{Trees}
use Rattle.b2_atom.specs.Tree.Trees.{Done, Put, In}
use Rattle.b2_atom.specs.declared.rows.TheConstants as row
use Rattle.b2_rows.specs.Rows.{tree_at}
use Rattle.b2_rows.specs.Links.{token_code, first_code}
use Rattle.b2_rows.specs.Values.{variable_name, literal_of, hex_byte_of, relation_of}
use Rattle.b2_rows.specs.declared.leaves.Name.{Name}
use Rattle.b2_text.specs.Program.{TextState}
use Rattle.b2_text.specs.Spots.{unit_at, is_function, first_opening}
use Rattle.b2_expr.specs.Answers.{Answer, TextAnswer, ◌>>=◌, or_code}
use Rattle.b2_expr.specs.Functions.{whole_number, subscript, column_written, whole_between, of_one, of_two, extreme, of_text, position_of, count_or, number_of, binary_bytes, joined_text, fixed}
use Rattle.b2_expr.specs.Named.{Cell, variable_of, variables_of, number_there, bytes_there}
use Rattle.b2_expr.specs.Operators.{joined, under_sign}
use Rattle.b2_expr.specs.Scope.{Surroundings, Context, surroundings, hidden_by, kept_number}
use Rattle.b2_expr.specs.Workspace.{WorkState, surroundings_of}
use Rattle.b2_expr.specs.declared.scope.Parameter.{Parameter}
use Rattle.b2_expr.specs.declared.scope.Scope.{Scope}
use Rattle.b2_expr.specs.declared.named.Subscripts.{Subscripts}
use Rattle.b2_expr.specs.declared.operators.Level.{Level}
use Rattle.b2_expr.specs.declared.operators.Level.TheVariants as level
use Rattle.b2_rows.specs.declared.operands.Operand.{Operand}
use Rattle.b2_rows.specs.declared.operands.Operand.TheVariants as kind
use Rattle.b2_rows.specs.declared.operands.AlphaOperand.{AlphaOperand}
use Rattle.b2_rows.specs.declared.operands.AlphaOperand.TheVariants as alpha_kind

-- the level of what the operators of a level join
abbrev pub item_level : Level → Level
item_level level.Sum = level.Product
item_level level.Product = level.Factor
item_level level.Factor = level.Power
item_level level.Power = level.Operand
item_level level.Operand = level.Operand

-- the kinds of operands after a number that is written out, in the order of the table; what is none of them is a variable
abbrev pub other_kinds : List Operand
other_kinds = kind.Parentheses ∷ kind.Function ∷ kind.OfOne ∷ kind.OfTwo ∷ kind.OfMore ∷ kind.OfAlpha ∷ kind.Position ∷ kind.Value ∷ kind.KeptNumber ∷ []

abbrev pub other_alpha_kinds : List AlphaOperand
other_alpha_kinds = alpha_kind.StringPart ∷ alpha_kind.Hex ∷ alpha_kind.Binary ∷ []

-- the bytes of further pairs of hexadecimal digits
abbrev pub pair_bytes : Trees → List ℕ
pair_bytes (In n (Put (Plain k pair) end) more) = hex_byte_of pair ∷ pair_bytes more
pair_bytes t = []

-- the bytes of a value from the x-th on, and y of them, or all where no count is written
abbrev pub counted_bytes : List ℕ → Option Number → TextAnswer
counted_bytes bytes None = Ok bytes
counted_bytes bytes (Some y) = whole_between 1 (length bytes) y >>= (λ n. Ok (take n bytes))

abbrev pub bytes_of_part : List ℕ → Number → Option Number → TextAnswer
bytes_of_part bytes x y = whole_between 1 (length bytes) x >>= (λ s. counted_bytes (drop (s - 1) bytes) y)

-- a sign before a number, where one is written
abbrev pub signed_by : Mode → ℕ → ℕ → Number → Answer
signed_by mode n c x = if n == 1 then under_sign mode c x else Ok x

-- a number that is written out
abbrev pub literal_value : Text → Answer
literal_value text = if number_len text == 0 then Err S17_NUMERIC else number_value text

abbrev pub literal_number : Trees → Answer
literal_number (Put (Plain k text) end) = literal_value text
literal_number t = Err S17_NUMERIC

-- the last code, the partition or the terminal
abbrev pub kept_value : Surroundings → Trees → Answer
kept_value e (Put word end) = whole_number (kept_number e (token_code word))
kept_value e t = Err S17_NUMERIC

-- bytes in quotes
abbrev pub literal_bytes : Trees → TextAnswer
literal_bytes (Put (Plain k text) end) = Ok (literal_of text)
literal_bytes t = Err S18_ALPHA

-- bytes by their hexadecimal digits
abbrev pub pairs_of : Trees → TextAnswer
pairs_of (Put (Plain k pair) more) = Ok (hex_byte_of pair ∷ pair_bytes more)
pairs_of t = Err S18_ALPHA

abbrev pub hex_bytes : Trees → TextAnswer
hex_bytes (Put word (In n pairs close)) = pairs_of pairs
hex_bytes t = Err S18_ALPHA

-- the text of a token, and the branch that a tree takes first
abbrev pub token_text : Token → Text
token_text (Coded c) = []
token_text (Short c) = []
token_text (Plain k text) = text
token_text (Lined high low) = []

abbrev pub branch_of : Trees → ℕ
branch_of Done = 0
branch_of (Put token more) = 0
branch_of (In n a more) = n

-- the element that a name and its subscripts stand for: X77 comes at the name, before the subscripts
abbrev pub element : Surroundings → Name → ℕ → Result Subscripts ℕ → Result Cell ℕ
element e name n subscripts =
    variables_of e name >>= (λ vars. subscripts >>= (λ at. Ok (record {
      vars = vars;
      element = record { global = name.global; var = variable_of name (n == 1); row = at.row; column = at.column };
    })))

-- a number that a name stands for: the parameter of the name, and else what the variable has
abbrev pub hidden_or : Option Number → Answer → Answer
hidden_or (Some x) answer = Ok x
hidden_or None answer = answer

abbrev pub element_number : Result Cell ℕ → Answer
element_number place = place >>= number_there

abbrev pub named_number : Context → Name → ℕ → Result Subscripts ℕ → Answer
named_number s name n subscripts = hidden_or (if n == 1 then None else hidden_by s.parameter name) (element_number (element s.around name n subscripts))

-- the value of an alpha variable: its bytes but the blanks at their end
abbrev pub text_of_cell : Result Cell ℕ → TextAnswer
text_of_cell cell = cell >>= bytes_there >>= (λ bytes. Ok (value_of bytes))

abbrev pub named_text : Context → Name → ℕ → Result Subscripts ℕ → TextAnswer
named_text s name n subscripts = text_of_cell (element s.around name n subscripts)

unfoldable mutual
  -- a row of a level of operators
  pub value : Context → Level → Trees → Answer
  value s level.Sum (In n a more) = further s level.Sum (value s level.Product a) more
  value s level.Product (In n a more) = further s level.Product (value s level.Factor a) more
  value s level.Factor (In n sign (In m a end)) = value s level.Power a >>= signed_by s.around.mode n (first_code sign)
  value s level.Power (In n a more) = further s level.Power (value s level.Operand a) more
  value s level.Operand (In n a end) = if n == 1 then operand s kind.Number a else choice s other_kinds a
  value s l t = Err S17_NUMERIC

  -- a number, joined to further items from the left
  pub further : Context → Level → Answer → Trees → Answer
  further s l x (In n (In k operator (In m a end)) more) = further s l (x >>= (λ v. value s (item_level l) a >>= joined s.around.mode (first_code operator) v)) more
  further s l x (In n (Put token (In m a end)) more) = further s l (x >>= (λ v. value s (item_level l) a >>= joined s.around.mode (token_code token) v)) more
  further s l x t = x

  -- an operand of one of these kinds, or a variable
  pub choice : Context → List Operand → Trees → Answer
  choice s (k ∷ ks) (In n a end) = if n == 1 then operand s k a else choice s ks a
  choice s ks (Put token more) = named_number s (variable_name false (token_text token)) (branch_of more) (subscripts s more)
  choice s ks t = Err S17_NUMERIC

  pub operand : Context → Operand → Trees → Answer
  operand s kind.Number t = literal_number t
  operand s kind.Parentheses (Put opening (In n a end)) = value s level.Sum a
  operand s kind.Function (Put word (Put (Plain k name) (Put opening (In n a end)))) = value s level.Sum a >>= s.call (first name)
  operand s kind.OfOne (Put word (In n a end)) = value s level.Sum a >>= of_one (token_code word)
  operand s kind.OfTwo (Put word (In n (In m a (Put comma (In k b end))) close)) =
      value s level.Sum a >>= (λ x. value s level.Sum b >>= of_two s.around.mode (token_code word) x)
  operand s kind.OfMore (Put word (In n (In m a more) close)) = extremes s (token_code word) (value s level.Sum a) more
  operand s kind.OfAlpha (Put word (In n a end)) = text s a >>= of_text (token_code word)
  operand s kind.Position (Put word (In n (In m a (Put (Plain k sign) (In l b end))) close)) =
      text s a >>= (λ x. text s b >>= position_of (relation_of sign) x)
  operand s kind.Value (Put word (In n (In m a count) close)) =
      text s a >>= (λ x. second s count >>= count_or 1 1 4 >>= number_of x)
  operand s kind.KeptNumber t = kept_value s.around t
  operand s kind.Variable (Put token more) = named_number s (variable_name false (token_text token)) (branch_of more) (subscripts s more)
  operand s k t = Err S17_NUMERIC

  -- the greatest or the least of a number and further ones
  pub extremes : Context → ℕ → Answer → Trees → Answer
  extremes s c x (Put comma (In n a more)) = extremes s c (x >>= (λ v. value s level.Sum a >>= (λ w. Ok (extreme c v w)))) more
  extremes s c x (In n a end) = if n == 1 then extremes s c x a else x
  extremes s c x t = x

  -- a number after a comma, where one is written
  pub second : Context → Trees → Result (Option Number) ℕ
  second s (In n (Put comma (In m a end)) more) = value s level.Sum a >>= (λ x. Ok (Some x))
  second s t = Ok None

  -- the row and the column of subscripts, 0 where there is none
  pub subscripts : Context → Trees → Result Subscripts ℕ
  subscripts s (In n (Put opening (In m (In k a column) close)) end) =
      value s level.Sum a >>= (λ r. second s column >>= (λ c. Ok (record { row = subscript r; column = column_written c })))
  subscripts s t = Ok (record { row = 0; column = 0 })

  -- an alpha expression
  pub text : Context → Trees → TextAnswer
  text s (In n a more) = further_text s (text_row s a >>= joined_text []) more
  text s t = Err S18_ALPHA

  pub further_text : Context → TextAnswer → Trees → TextAnswer
  further_text s x (In n (Put sign (In m a end)) more) = further_text s (x >>= (λ v. text_row s a >>= joined_text v)) more
  further_text s x t = x

  -- an alpha operand
  pub text_row : Context → Trees → TextAnswer
  text_row s (In n a end) = if n == 1 then text_operand s alpha_kind.Literal a else text_choice s other_alpha_kinds a
  text_row s t = Err S18_ALPHA

  -- one that is of one of these kinds, or a variable
  pub text_choice : Context → List AlphaOperand → Trees → TextAnswer
  text_choice s (k ∷ ks) (In n a end) = if n == 1 then text_operand s k a else text_choice s ks a
  text_choice s ks (Put token more) = named_text s (variable_name true (token_text token)) (branch_of more) (subscripts s more)
  text_choice s ks t = Err S18_ALPHA

  pub text_operand : Context → AlphaOperand → Trees → TextAnswer
  text_operand s alpha_kind.Literal t = literal_bytes t
  text_operand s alpha_kind.StringPart (Put word (In n (In m (Put token more) (Put comma (In l a count))) close)) =
      element s.around (variable_name true (token_text token)) (branch_of more) (subscripts s more) >>= bytes_there >>= (λ bytes. value s level.Sum a >>= (λ from. second s count >>= bytes_of_part bytes from))
  text_operand s alpha_kind.Hex t = hex_bytes t
  text_operand s alpha_kind.Binary (Put word (In n (In m a count) close)) =
      value s level.Sum a >>= (λ x. second s count >>= count_or 1 1 4 >>= (λ n. binary_bytes n (fixed x)))
  text_operand s alpha_kind.Variable (Put token more) = named_text s (variable_name true (token_text token)) (branch_of more) (subscripts s more)
  text_operand s k t = Err S18_ALPHA

-- the element that a name with subscripts or none stands for
abbrev pub located : Context → Bool → Trees → Result Cell ℕ
located s alpha (Put token more) = element s.around (variable_name alpha (token_text token)) (branch_of more) (subscripts s more)
located s alpha t = Err (if alpha then S18_ALPHA else S17_NUMERIC)

-- the tree of the function of a name, P38 where the text has none
abbrev pub function_tree : ℕ → TextState → Result Trees ℕ
function_tree name home = or_code P38_NO_DEFFN (option_map (λ spot. tree_at row.DEFFN (unit_at spot home.lines)) (first_opening (is_function name) home.lines))

-- what a function gives whose parameter has a value
abbrev pub applied : (Parameter → Context) → Number → Trees → Answer
applied s x (Put deffn (In n (Put (Plain k name) (Put opening (In m (Put (Plain j parameter) end) (Put close (Put equals (In i a last)))))) more)) =
    value (s (record { name = variable_name false parameter; value = x })) level.Sum a
applied s x t = Err S17_NUMERIC

-- what the function of a name gives for an argument, where `room` more calls may open: A04 where none may
unfoldable pub called : Surroundings → ℕ → ℕ → Number → Answer
called e zero name x = function_tree name e.home >>= (λ t. Err A04_TOO_DEEP)
called e (suc room) name x = function_tree name e.home >>= applied (λ p. record { around = e; parameter = Some p; call = called e room }) x

-- what an expression looks at that stands somewhere
abbrev pub context : Scope → Context
context s = record { around = surroundings s.env.now; parameter = s.parameter; call = called (surroundings s.env.now) s.room }

-- and one of a statement, in which at most 16 calls may be open
abbrev pub in_statement : Surroundings → Context
in_statement e = record { around = e; parameter = None; call = called e 16 }

-- what the expressions of a statement look at in its workspace
abbrev pub context_of : WorkState → Context
context_of w = in_statement (surroundings_of w)
