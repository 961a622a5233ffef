-- The values of numeric expressions are numbers, where those of the variables are that they look at.
use Rattle.std.proofs.Common.{◌≡◌, ℕ, zero, suc, ◌==◌, Bool, true, false, if◌then◌else◌, List, ◌∷◌, length, get_or, Option, Some, None, IfSome, Result, Ok, Err, IfOk, refl, sym, subst, inl, inr}
use Rattle.std.specs.FinMap as map
use Rattle.std.specs.List.{All}
use Rattle.std.proofs.lemmas.Bool.{cases_lt}
use Rattle.std.proofs.lemmas.List.{get_or_past}
use Rattle.std.proofs.lemmas.List.Elements.{All-get_or}
use Rattle.b2_base.specs.Lexical.{first}
use Rattle.b2_base.specs.declared.codes.TheConstants.{A04_TOO_DEEP, X77_NO_PARTITION}
use Rattle.b2_dec.specs.Number.{Number, zero_number, IsNumber}
use Rattle.b2_alpha.specs.Relations.{found_place}
use Rattle.b2_atom.specs.Tokens.Token.{Plain}
use Rattle.b2_atom.specs.Tree.{Trees}
use Rattle.b2_atom.specs.Tree.Trees.{Put, In}
use Rattle.b2_rows.specs.Links.{token_code, first_code}
use Rattle.b2_rows.specs.Values.{variable_name, relation_of}
use Rattle.b2_rows.specs.declared.leaves.Name.{Name}
use Rattle.b2_rows.specs.declared.operands.Operand.{Operand}
use Rattle.b2_rows.specs.declared.operands.Operand.TheVariants as kind
use Rattle.b2_vars.specs.Calls.{get_code}
use Rattle.b2_vars.specs.Shapes.{cell_at}
use Rattle.b2_vars.specs.Tables.{VarsState, shape_at}
use Rattle.b2_vars.specs.Variables.{VariableState, number_at}
use Rattle.b2_expr.specs.Answers.{Answer, ◌>>=◌, or_code, unless}
use Rattle.b2_expr.specs.Functions.{count_or, extreme, number_of, of_one, of_text, of_two, position_of}
use Rattle.b2_expr.specs.Named.{Cell, number_there, variable_of, variables_of}
use Rattle.b2_expr.specs.Operators.{joined}
use Rattle.b2_expr.specs.Scope.{Context, Surroundings, hidden_by, is_same_name, kept_number}
use Rattle.b2_expr.specs.Value.{applied, branch_of, called, choice, element, element_number, extremes, function_tree, further, hidden_or, in_statement, item_level, kept_value, literal_number, named_number, operand, other_kinds, second, signed_by, subscripts, text, token_text, value}
use Rattle.b2_expr.specs.declared.named.Subscripts.{Subscripts}
use Rattle.b2_expr.specs.declared.operators.Level.{Level}
use Rattle.b2_expr.specs.declared.operators.Level.TheVariants as level
use Rattle.b2_expr.specs.declared.scope.Parameter.{Parameter}
use Rattle.b2_stmt_file.specs.SavedNumbers.{GivesNumber, HoldsNumbers}
use Rattle.b2_stmt_file.proofs.NumbersGiven.{either_gives, extreme_is_number, joined_gives, literal_gives, number_of_gives, number_then, of_one_gives, of_two_gives, signed_gives, then_gives, whole_gives}
use Rattle.b2_stmt_file.proofs.Rounded.{zero_is_number}

-- a number that a variable has
one_held : (xs : List Number) (cell : ℕ) → All IsNumber xs → IsNumber (get_or xs cell zero_number)
one_held xs cell all = elim (cases_lt cell (length xs)) [
  | inl below ↦ All-get_or IsNumber xs cell zero_number below all
  | inr above ↦ subst IsNumber (sym (get_or_past xs cell zero_number above)) zero_is_number
]

pub number_held : (cell : ℕ) (o : Option VariableState) → IfSome o (λ x. All IsNumber x.numbers) → IsNumber (number_at cell o)
number_held cell None held = zero_is_number
number_held cell (Some x) held = one_held x.numbers cell held

unless_gives : (code : Option ℕ) (x : Number) → IsNumber x → GivesNumber (unless code x)
unless_gives None x is = is
unless_gives (Some code) x is = tt

pub there_gives : (l : Cell) → HoldsNumbers l.vars → GivesNumber (number_there l)
there_gives l held =
    let cell = cell_at (shape_at l.element.var l.vars.table) l.element.row l.element.column in
    unless_gives (get_code l.element.var l.element.row l.element.column l.vars.table) (number_at cell (map.get l.vars.table l.element.var))
    (number_held cell (map.get l.vars.table l.element.var) (held l.element.var))

pub place_gives : (r : Result Cell ℕ) → IfOk r (λ l. HoldsNumbers l.vars) → GivesNumber (element_number r)
place_gives (Ok l) held = there_gives l held
place_gives (Err code) held = tt

-- what an expression looks at has numbers
pub record LooksAtNumbers (s : Context) : Type 0 where
  pub own : HoldsNumbers s.around.own
  pub globals : IfSome s.around.globals HoldsNumbers
  pub parameter : IfSome s.parameter (λ p. IsNumber p.value)
  pub call : (name : ℕ) (x : Number) → IsNumber x → GivesNumber (s.call name x)

-- the variables of a name
lent_hold : (o : Option VarsState) → IfSome o HoldsNumbers → IfOk (or_code X77_NO_PARTITION o) HoldsNumbers
lent_hold None held = tt
lent_hold (Some vars) held = held

by_global : (b : Bool) (own : VarsState) (o : Option VarsState) → HoldsNumbers own → IfSome o HoldsNumbers → IfOk (if b then or_code X77_NO_PARTITION o else Ok own) HoldsNumbers
by_global true own o h k = lent_hold o k
by_global false own o h k = h

pub variables_hold : (e : Surroundings) (name : Name) → HoldsNumbers e.own → IfSome e.globals HoldsNumbers → IfOk (variables_of e name) HoldsNumbers
variables_hold e name h k = by_global name.global e.own e.globals h k

-- an element of them
abbrev cell_in : Name → ℕ → VarsState → Subscripts → Cell
cell_in name n vars at = record { vars = vars; element = record { global = name.global; var = variable_of name (n == 1); row = at.row; column = at.column } }

placed_in : (vars : VarsState) (name : Name) (n : ℕ) (at : Result Subscripts ℕ) → HoldsNumbers vars → IfOk (at >>= (λ at. Ok (cell_in name n vars at))) (λ l. HoldsNumbers l.vars)
placed_in vars name n (Ok at) held = held
placed_in vars name n (Err code) held = tt

placed_among : (vars : Result VarsState ℕ) (name : Name) (n : ℕ) (at : Result Subscripts ℕ) → IfOk vars HoldsNumbers
    → IfOk (vars >>= (λ vars. at >>= (λ at. Ok (cell_in name n vars at)))) (λ l. HoldsNumbers l.vars)
placed_among (Ok vars) name n at held = placed_in vars name n at held
placed_among (Err code) name n at held = tt

-- a parameter, or an element
hidden_gives : (o : Option Number) (a : Answer) → IfSome o IsNumber → GivesNumber a → GivesNumber (hidden_or o a)
hidden_gives None a h k = k
hidden_gives (Some x) a h k = h

same_parameter : (b : Bool) (x : Number) → IsNumber x → IfSome (if b then Some x else None) IsNumber
same_parameter true x is = is
same_parameter false x is = tt

parameter_gives : (o : Option Parameter) (name : Name) → IfSome o (λ p. IsNumber p.value) → IfSome (hidden_by o name) IsNumber
parameter_gives None name h = tt
parameter_gives (Some p) name h = same_parameter (is_same_name p.name name) p.value h

unhidden : (b : Bool) (o : Option Number) → IfSome o IsNumber → IfSome (if b then None else o) IsNumber
unhidden true o h = tt
unhidden false o h = h

named_gives : (s : Context) → LooksAtNumbers s → (name : Name) (n : ℕ) (at : Result Subscripts ℕ) → GivesNumber (named_number s name n at)
named_gives s h name n at =
    hidden_gives (if n == 1 then None else hidden_by s.parameter name) (element_number (element s.around name n at))
    (unhidden (n == 1) (hidden_by s.parameter name) (parameter_gives s.parameter name h.parameter))
    (place_gives (element s.around name n at) (placed_among (variables_of s.around name) name n at (variables_hold s.around name h.own h.globals)))

-- numbers that are written out, and those that are kept
literal_number_gives : (t : Trees) → GivesNumber (literal_number t)
literal_number_gives (Put (Plain k text) end) = literal_gives text
literal_number_gives t = tt

kept_gives : (e : Surroundings) (t : Trees) → GivesNumber (kept_value e t)
kept_gives e (Put word end) = whole_gives (kept_number e (token_code word))
kept_gives e t = tt

mutual
  unfolding value further choice operand extremes

  pub value_gives : (s : Context) → LooksAtNumbers s → (l : Level) (t : Trees) → GivesNumber (value s l t)
  value_gives s h level.Sum (In n a more) = further_gives s h level.Sum (value s level.Product a) more (value_gives s h level.Product a)
  value_gives s h level.Product (In n a more) = further_gives s h level.Product (value s level.Factor a) more (value_gives s h level.Factor a)
  value_gives s h level.Factor (In n sign (In m a end)) =
      number_then (value s level.Power a) (signed_by s.around.mode n (first_code sign)) (value_gives s h level.Power a) (signed_gives s.around.mode n (first_code sign))
  value_gives s h level.Power (In n a more) = further_gives s h level.Power (value s level.Operand a) more (value_gives s h level.Operand a)
  value_gives s h level.Operand (In n a end) = either_gives (n == 1) (operand s kind.Number a) (choice s other_kinds a) (operand_gives s h kind.Number a) (choice_gives s h other_kinds a)
  value_gives s h l t = tt

  further_gives : (s : Context) → LooksAtNumbers s → (l : Level) (x : Answer) (t : Trees) → GivesNumber x → GivesNumber (further s l x t)
  further_gives s h l x (In n (In k operator (In m a end)) more) is =
      further_gives s h l (x >>= (λ v. value s (item_level l) a >>= joined s.around.mode (first_code operator) v)) more
      (number_then x (λ v. value s (item_level l) a >>= joined s.around.mode (first_code operator) v) is
      (λ v is_v. then_gives (value s (item_level l) a) (joined s.around.mode (first_code operator) v) (joined_gives s.around.mode (first_code operator) v)))
  further_gives s h l x (In n (Put token (In m a end)) more) is =
      further_gives s h l (x >>= (λ v. value s (item_level l) a >>= joined s.around.mode (token_code token) v)) more
      (number_then x (λ v. value s (item_level l) a >>= joined s.around.mode (token_code token) v) is
      (λ v is_v. then_gives (value s (item_level l) a) (joined s.around.mode (token_code token) v) (joined_gives s.around.mode (token_code token) v)))
  further_gives s h l x t is = is

  choice_gives : (s : Context) → LooksAtNumbers s → (ks : List Operand) (t : Trees) → GivesNumber (choice s ks t)
  choice_gives s h (k ∷ ks) (In n a end) = either_gives (n == 1) (operand s k a) (choice s ks a) (operand_gives s h k a) (choice_gives s h ks a)
  choice_gives s h ks (Put token more) = named_gives s h (variable_name false (token_text token)) (branch_of more) (subscripts s more)
  choice_gives s h ks t = tt

  operand_gives : (s : Context) → LooksAtNumbers s → (k : Operand) (t : Trees) → GivesNumber (operand s k t)
  operand_gives s h kind.Number t = literal_number_gives t
  operand_gives s h kind.Parentheses (Put opening (In n a end)) = value_gives s h level.Sum a
  operand_gives s h kind.Function (Put word (Put (Plain k name) (Put opening (In n a end)))) =
      number_then (value s level.Sum a) (s.call (first name)) (value_gives s h level.Sum a) (h.call (first name))
  operand_gives s h kind.OfOne (Put word (In n a end)) = number_then (value s level.Sum a) (of_one (token_code word)) (value_gives s h level.Sum a) (of_one_gives (token_code word))
  operand_gives s h kind.OfTwo (Put word (In n (In m a (Put comma (In k b end))) close)) =
      then_gives (value s level.Sum a) (λ x. value s level.Sum b >>= of_two s.around.mode (token_code word) x)
      (λ x. then_gives (value s level.Sum b) (of_two s.around.mode (token_code word) x) (of_two_gives s.around.mode (token_code word) x))
  operand_gives s h kind.OfMore (Put word (In n (In m a more) close)) = extremes_give s h (token_code word) (value s level.Sum a) more (value_gives s h level.Sum a)
  operand_gives s h kind.OfAlpha (Put word (In n a end)) = then_gives (text s a) (of_text (token_code word)) (λ bytes. whole_gives _)
  operand_gives s h kind.Position (Put word (In n (In m a (Put (Plain k sign) (In l b end))) close)) =
      then_gives (text s a) (λ x. text s b >>= position_of (relation_of sign) x) (λ x. then_gives (text s b) (position_of (relation_of sign) x) (λ y. whole_gives (found_place x (relation_of sign) (first y))))
  operand_gives s h kind.Value (Put word (In n (In m a count) close)) =
      then_gives (text s a) (λ x. second s count >>= count_or 1 1 4 >>= number_of x) (λ x. then_gives (second s count >>= count_or 1 1 4) (number_of x) (number_of_gives x))
  operand_gives s h kind.KeptNumber t = kept_gives s.around t
  operand_gives s h kind.Variable (Put token more) = named_gives s h (variable_name false (token_text token)) (branch_of more) (subscripts s more)
  operand_gives s h k t = tt

  extremes_give : (s : Context) → LooksAtNumbers s → (c : ℕ) (x : Answer) (t : Trees) → GivesNumber x → GivesNumber (extremes s c x t)
  extremes_give s h c x (Put comma (In n a more)) is =
      extremes_give s h c (x >>= (λ v. value s level.Sum a >>= (λ w. Ok (extreme c v w)))) more
      (number_then x (λ v. value s level.Sum a >>= (λ w. Ok (extreme c v w))) is
      (λ v is_v. number_then (value s level.Sum a) (λ w. Ok (extreme c v w)) (value_gives s h level.Sum a) (λ w is_w. extreme_is_number c v w is_v is_w)))
  extremes_give s h c x (In n a end) is = either_gives (n == 1) (extremes s c x a) x (extremes_give s h c x a is) is
  extremes_give s h c x t is = is

-- what a function gives whose parameter has a value
applied_gives : (s : Parameter → Context) (x : Number) → ((p : Parameter) → p.value ≡ x → LooksAtNumbers (s p)) → (t : Trees) → GivesNumber (applied s x t)
applied_gives s x h (Put deffn (In n (Put (Plain k name) (Put opening (In m (Put (Plain j parameter) end) (Put close (Put equals (In i a last)))))) more)) =
    let p : Parameter = record { name = variable_name false parameter; value = x } in
    value_gives (s p) (h p refl) level.Sum a
applied_gives s x h t = tt

pub called_gives : (e : Surroundings) → HoldsNumbers e.own → IfSome e.globals HoldsNumbers → (room name : ℕ) (x : Number) → IsNumber x → GivesNumber (called e room name x)
unfolding called
called_gives e own globals zero name x is = then_gives (function_tree name e.home) (λ t. Err A04_TOO_DEEP) (λ t. tt)
called_gives e own globals (suc room) name x is =
    let within : Parameter → Context = λ p. record { around = e; parameter = Some p; call = called e room } in
    then_gives (function_tree name e.home) (applied within x)
    (applied_gives within x (λ p same. record { own = own; globals = globals; parameter = subst IsNumber (sym same) is; call = called_gives e own globals room }))

-- so it is of a statement
pub statement_looks_at_numbers : (e : Surroundings) → HoldsNumbers e.own → IfSome e.globals HoldsNumbers → LooksAtNumbers (in_statement e)
statement_looks_at_numbers e own globals = record { own = own; globals = globals; parameter = tt; call = called_gives e own globals 16 }
