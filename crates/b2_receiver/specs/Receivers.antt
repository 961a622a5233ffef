-- Receivers by their trees: what each names, or its first code.
use Rattle.std.specs.Prelude.{◌≡◌, ℕ, ◌-◌, ◌==◌, Bool, true, false, length, Option, Some, None, Result, Ok, Err, if◌then◌else◌}
use Rattle.b2_base.specs.declared.codes.TheConstants.{S20_VARIABLE}
use Rattle.b2_dec.specs.Number.{Number}
use Rattle.b2_dec.specs.declared.values.Kind.{Kind}
use Rattle.b2_dec.specs.declared.values.Kind.TheVariants as kind
use Rattle.b2_vars.specs.declared.name.Var.{Var}
use Rattle.b2_vars.specs.Names.{is_legal_name}
use Rattle.b2_vars.specs.Calls.{missing_code}
use Rattle.b2_atom.specs.Words.{Text}
use Rattle.b2_atom.specs.Tree.{Trees}
use Rattle.b2_atom.specs.Tree.Trees.{Put, In}
use Rattle.b2_atom.specs.declared.rows.TheConstants as row
use Rattle.b2_atom.specs.declared.forms.Leaf.{Leaf}
use Rattle.b2_atom.specs.declared.forms.Leaf.TheVariants as leaf
use Rattle.b2_rows.specs.Values.{variable_name}
use Rattle.b2_rows.specs.declared.leaves.Name.{Name}
use Rattle.b2_expr.specs.Answers.{◌>>=◌, unless}
use Rattle.b2_expr.specs.Functions.{whole_between}
use Rattle.b2_expr.specs.Named.{element_there, variable_of, variables_of, bytes_there}
use Rattle.b2_expr.specs.Scope.{Surroundings, Context}
use Rattle.b2_expr.specs.Value.{value, second, located, token_text}
use Rattle.b2_expr.specs.declared.operators.Level.TheVariants as level
use Rattle.b2_expr.specs.declared.named.Element.{Element}
use Rattle.b2_receiver.specs.declared.receiver.Portion.{Portion}
use Rattle.b2_receiver.specs.declared.receiver.AlphaReceiver.{AlphaReceiver}
use Rattle.b2_receiver.specs.declared.receiver.Receiver.{Receiver}
use Rattle.b2_receiver.specs.declared.receiver.Receiver.TheVariants as receiver_kind
use Rattle.b2_receiver.specs.declared.receiver.Array.{Array}
use Rattle.b2_receiver.specs.declared.receiver.Buffer.{Buffer}
use Rattle.b2_receiver.specs.declared.receiver.Buffer.TheVariants as buffer_kind

-- how many bytes are named of those that are left: as many as are written, or all
abbrev pub portion_count : ℕ → Option Number → Result ℕ ℕ
portion_count left None = Ok left
portion_count left (Some y) = whole_between 1 left y

-- of n bytes those from the x-th on, and y of them, or all where no count is written: P34 where they aren't all there
abbrev pub portion_of : ℕ → Number → Option Number → Result Portion ℕ
portion_of n x y = whole_between 1 n x >>= (λ s. portion_count (n - (s - 1)) y >>= (λ k. Ok (record { from = s - 1; count = k })))

-- a number: P59 and P57 where its value would have them
unfoldable pub number_receiver : Context → Trees → Result Element ℕ
number_receiver s t = located s false t >>= element_there

-- all bytes of an alpha value
unfoldable pub whole_value : Context → Trees → Result AlphaReceiver ℕ
whole_value s t = located s true t >>= (λ p. bytes_there p >>= (λ bytes. Ok (record { element = p.element; portion = record { from = 0; count = length bytes } })))

-- the bytes of it that STR names: P34 after all its operands
unfoldable pub part_receiver : Context → Trees → Result AlphaReceiver ℕ
part_receiver s (Put word (In n (In m a (Put comma (In l from count))) close)) =
    whole_value s a >>= (λ whole. value s level.Sum from >>= (λ x. second s count >>= (λ y. portion_of whole.portion.count x y >>= (λ portion. Ok (record whole { portion = portion })))))
part_receiver s t = Err S20_VARIABLE

unfoldable pub alpha_receiver : Context → Trees → Result AlphaReceiver ℕ
alpha_receiver s (In n a end) = if n == 1 then part_receiver s a else whole_value s a
alpha_receiver s t = Err S20_VARIABLE

-- one of either kind
unfoldable pub any_receiver : Context → Trees → Result Receiver ℕ
any_receiver s (In n a end) =
    if n == 1 then alpha_receiver s a >>= (λ x. Ok (receiver_kind.Alpha x)) else number_receiver s a >>= (λ x. Ok (receiver_kind.Number x))
any_receiver s t = Err S20_VARIABLE

-- the array of a name: P59 where it isn't there
abbrev pub array_there : Surroundings → Name → Result Array ℕ
array_there e name = variables_of e name >>= (λ vars. unless (missing_code (variable_of name true) vars.table) (record { global = name.global; var = variable_of name true }))

-- the row of a whole array, with empty parentheses after its name, and whether it has a `$`
abbrev pub array_row : Kind → ℕ
array_row kind.Number = row.NUMERIC_ARRAY
array_row kind.Alpha = row.ALPHA_ARRAY

abbrev pub is_alpha_array : Kind → Bool
is_alpha_array kind.Number = false
is_alpha_array kind.Alpha = true

abbrev pub array_leaf : Kind → Leaf
array_leaf kind.Number = leaf.Name
array_leaf kind.Alpha = leaf.AlphaName

unfoldable pub array_receiver : Surroundings → Bool → Trees → Result Array ℕ
array_receiver e alpha (Put token more) = array_there e (variable_name alpha (token_text token))
array_receiver e alpha t = Err S20_VARIABLE

-- an array of either kind
unfoldable pub whole_array : Surroundings → Trees → Result Array ℕ
whole_array e (In n a end) = array_receiver e (n == 1) a
whole_array e t = Err S20_VARIABLE

-- an alpha receiver, or an alpha array
unfoldable pub buffer_variable : Context → Trees → Result Buffer ℕ
buffer_variable s (In n a end) =
    if n == 1 then array_receiver s.around true a >>= (λ x. Ok (buffer_kind.Array x)) else whole_value s a >>= (λ x. Ok (buffer_kind.Value x))
buffer_variable s t = Err S20_VARIABLE

unfoldable pub buffer : Context → Trees → Result Buffer ℕ
buffer s (In n a end) = if n == 1 then part_receiver s a >>= (λ x. Ok (buffer_kind.Value x)) else buffer_variable s a
buffer s t = Err S20_VARIABLE

-- what is known of the names in them
abbrev pub IsNumeric : Var → Type 0
IsNumeric v = (is_legal_name v ≡ true) × (v.alpha ≡ false)

abbrev pub IsAlpha : Var → Type 0
IsAlpha v = (is_legal_name v ≡ true) × (v.alpha ≡ true)

abbrev pub IsNamed : Receiver → Type 0
IsNamed (receiver_kind.Number e) = IsNumeric e.var
IsNamed (receiver_kind.Alpha to) = IsAlpha to.element.var

abbrev pub IsArray : Var → Type 0
IsArray v = (is_legal_name v ≡ true) × (v.array ≡ true)

abbrev pub IsBuffer : Buffer → Type 0
IsBuffer (buffer_kind.Value to) = IsAlpha to.element.var
IsBuffer (buffer_kind.Array a) = IsAlpha a.var

-- a receiver that is taken at a cursor, which then stands after it; or its code, and then the cursor is as before
abbrev pub GivesAt : {A : Type 0} → Result A ℕ → Text → Text → Text → Result A ℕ → Type 0
GivesAt answer rest old new (Ok x) = (answer ≡ Ok x) × (new ≡ rest)
GivesAt answer rest old new (Err code) = (answer ≡ Err code) × (new ≡ old)
