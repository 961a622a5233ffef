-- Lists with commas between their items: what the items are, and what each of them takes.
use Rattle.std.specs.Borrow.{Bor}
use Rattle.std.specs.Prelude.{◌≡◌, ℕ, ◌==◌, List, [], ◌∷◌, ◌++◌, Result, Ok, Err, if◌then◌else◌}
use Rattle.b2_base.specs.Refusals.{IsRefused}
use Rattle.b2_base.specs.declared.codes.Fault.{Fault}
use Rattle.b2_base.specs.declared.codes.TheConstants.{S17_NUMERIC}
use Rattle.b2_dec.specs.Number.{Number}
use Rattle.b2_dec.specs.declared.values.Kind.{Kind}
use Rattle.b2_dec.specs.declared.values.Kind.TheVariants as kind
use Rattle.b2_dec.specs.declared.values.Value.{Value}
use Rattle.b2_dec.specs.declared.values.Value.TheVariants as value_kind
use Rattle.b2_atom.specs.Tree.{Trees, also}
use Rattle.b2_atom.specs.Tree.Trees.{Done, In}
use Rattle.b2_atom.specs.Words.{Text}
use Rattle.b2_rows.specs.CommaLists.{commas, further_listed}
use Rattle.b2_rows.specs.Rows.{after_phrase, list_at, tree_at}
use Rattle.b2_expr.specs.Answers.{Answer, ◌>>=◌}
use Rattle.b2_expr.specs.Kinds.{suits}
use Rattle.b2_expr.specs.Scope.{Context}
use Rattle.b2_expr.specs.Value.{context_of, text, value}
use Rattle.b2_expr.specs.Workspace.{WorkState, WorkLeft, refused, then_works, unchanged}
use Rattle.b2_expr.specs.declared.operators.Level.TheVariants as level
use Rattle.b2_receiver.specs.Assigning.{is_alpha_receiver}
use Rattle.b2_receiver.specs.Receivers.{any_receiver}
use Rattle.b2_receiver.specs.Receiving.{assign_number_at, given_value}
use Rattle.b2_receiver.specs.declared.receiver.Receiver.{Receiver}

-- the items at a text, by their row and by that of a comma and an item
abbrev pub others_at : ℕ → Text → List Trees
others_at more t = further_listed (also (list_at commas more t) Done)

abbrev pub items_at : ℕ → ℕ → Text → List Trees
items_at more item t = tree_at item t ∷ others_at more (after_phrase item t)

-- what each of them is, or the first code from the left
abbrev pub each_of : {A : Type 0} → (Trees → Result A ℕ) → List Trees → Result (List A) ℕ
each_of one [] = Ok []
each_of one (t ∷ ts) = one t >>= (λ x. each_of one ts >>= (λ xs. Ok (x ∷ xs)))

-- a number, and a value of either kind
abbrev pub number_of : Context → Trees → Answer
number_of s t = value s level.Sum t

abbrev pub bytes_value : Context → Trees → Result Value ℕ
bytes_value s t = text s t >>= (λ bytes. Ok (value_kind.Alpha bytes))

abbrev pub number_value : Context → Trees → Result Value ℕ
number_value s t = value s level.Sum t >>= (λ x. Ok (value_kind.Number x))

abbrev pub value_of : Context → Trees → Result Value ℕ
value_of s (In n t end) = if n == 1 then bytes_value s t else number_value s t
value_of s t = Err S17_NUMERIC

-- the kind of a receiver, as it is written
abbrev pub kind_of : Trees → Kind
kind_of (In n t end) = if n == 1 then kind.Alpha else kind.Number
kind_of t = kind.Number

-- each receiver takes what is its own, from left to right, among the variables as they then are, up to one with a code
abbrev pub each_takes : {A : Type 0} → (A → Trees → WorkState → WorkLeft) → List Trees → List A → WorkState → WorkLeft
each_takes one [] xs w = unchanged w
each_takes one (t ∷ ts) [] w = unchanged w
each_takes one (t ∷ ts) (x ∷ xs) w = then_works (one x t w) (each_takes one ts xs)

abbrev pub takes_number : Number → Trees → WorkState → WorkLeft
takes_number x t w = assign_number_at (Ok x) t w

-- a value of another kind changes nothing
abbrev pub value_to : Result Receiver ℕ → Value → WorkState → WorkLeft
value_to (Ok to) x w = if suits (is_alpha_receiver to) x then given_value to x w else unchanged w
value_to (Err code) x w = refused code w

abbrev pub takes_value : Value → Trees → WorkState → WorkLeft
takes_value x t w = value_to (any_receiver (context_of w) t) x w

-- all that was read goes to receivers, where it has no code
abbrev pub all_taken : {A : Type 0} → (A → Trees → WorkState → WorkLeft) → List Trees → Result (List A) ℕ → WorkState → WorkLeft
all_taken one ts (Ok xs) w = each_takes one ts xs w
all_taken one ts (Err code) w = refused code w

-- items before others, or the code in the place of those
abbrev pub items_before : {A : Type 0} → List A → Result (List A) ℕ → Result (List A) ℕ
items_before xs answer = answer >>= (λ ys. Ok (xs ++ ys))

-- an item that is put after others, and what is left of the text; or its code
abbrev pub put_after : {A : Type 0} → List A → Result A ℕ → Result (List A) ℕ
put_after xs answer = answer >>= (λ x. Ok (xs ++ x ∷ []))

abbrev pub PutsOne : {A : Type 0} → Result A ℕ → Text → List A → List A → Result (Bor Text) Fault → Type 0
PutsOne answer rest old new (Ok left) = (put_after old answer ≡ Ok new) × (left.now ≡ rest)
PutsOne answer rest old new (Err f) = IsRefused answer f
