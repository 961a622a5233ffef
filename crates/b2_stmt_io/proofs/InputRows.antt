-- INPUT by its rows: its prompt, its receivers, and the kinds of them.
use Rattle.std.proofs.Common.{◌≡◌, ℕ, true, false, List, [], ◌∷◌, drop, Ok, refl, ap, ◌∙◌}
use Rattle.b2_base.specs.Lexical.{skip_blanks}
use Rattle.b2_alpha.specs.Values.{value_of}
use Rattle.b2_atom.specs.Words.{Text}
use Rattle.b2_atom.specs.Tokens.Token.{Coded}
use Rattle.b2_atom.specs.Tree.{Trees, also}
use Rattle.b2_atom.specs.Tree.Trees.{Done, Put, In}
use Rattle.b2_atom.specs.Grammar.{row_items, starts}
use Rattle.b2_atom.specs.declared.words.Origin.TheVariants.{Atoms}
use Rattle.b2_atom.specs.declared.words.TheConstants as word
use Rattle.b2_atom.specs.declared.rows.TheConstants as row
use Rattle.b2_atom.specs.declared.forms.Start.TheVariants as start
use Rattle.b2_atom.specs.declared.forms.Item.{Item}
use Rattle.b2_atom.specs.declared.forms.Item.TheVariants.{Word, Part, Maybe, Many}
use Rattle.b2_rows.specs.Choices.{ReadAs, first_branch, second_branch}
use Rattle.b2_rows.specs.Rows.{is_phrase, tree_at, list_at}
use Rattle.b2_rows.specs.Optional.{maybe_phrase, maybe_tree}
use Rattle.b2_rows.proofs.Choices.{either_first, either_second}
use Rattle.b2_rows.proofs.RowsRead.{stands_of}
use Rattle.b2_stmt_io.specs.Inputs.{take_parts, takes_part, takes_parts, takes_some}
use Rattle.b2_stmt_io.specs.LineReading.{after_prompt, prompt_of, prompt_there}
use Rattle.b2_rows.specs.CommaLists.{all_listed, commas, are_others, past_first, receivers_at}
use Rattle.b2_expr.specs.Workspace.{WorkState}
use Rattle.b2_receiver.specs.Receiving.{assign_bytes_at, assign_number_at}
use Rattle.b2_stmt_io.specs.TypedText.{typed_parts, typed_number}
use Rattle.b2_stmt_io.proofs.LeftOut.{maybe_put, maybe_then}
use Rattle.b2_stmt_io.proofs.PromptRows.{after_is, prompt_is, quoted, rest_at}

-- a receiver of either kind
alpha_read : (t : Text) → is_phrase row.RECEIVER t ≡ true → starts Atoms start.Alpha t ≡ true → ReadAs row.RECEIVER row.ALPHA_RECEIVER first_branch t
unfolding row_items
alpha_read t ok is = either_first row.RECEIVER row.ALPHA_RECEIVER row.NUMERIC_RECEIVER start.Alpha t refl ok is

number_read : (t : Text) → is_phrase row.RECEIVER t ≡ true → starts Atoms start.Alpha t ≡ false → ReadAs row.RECEIVER row.NUMERIC_RECEIVER second_branch t
unfolding row_items
number_read t ok is = either_second row.RECEIVER row.ALPHA_RECEIVER row.NUMERIC_RECEIVER start.Alpha t refl ok is

pub alpha_here : (t : Text) → is_phrase row.RECEIVER t ≡ true → starts Atoms start.Alpha t ≡ true → is_phrase row.ALPHA_RECEIVER t ≡ true
alpha_here t ok is = ReadAs.part (alpha_read t ok is)

pub alpha_is : (part : List ℕ) (t : Text) (w : WorkState) → is_phrase row.RECEIVER t ≡ true → starts Atoms start.Alpha t ≡ true
    → takes_some part (tree_at row.RECEIVER t) w ≡ assign_bytes_at (Ok (value_of (skip_blanks part))) (tree_at row.ALPHA_RECEIVER t) w
alpha_is part t w ok is = ap (λ (u : Trees). takes_some part u w) (ReadAs.tree (alpha_read t ok is))

pub number_here : (t : Text) → is_phrase row.RECEIVER t ≡ true → starts Atoms start.Alpha t ≡ false → is_phrase row.NUMERIC_RECEIVER t ≡ true
number_here t ok is = ReadAs.part (number_read t ok is)

pub number_is : (part : List ℕ) (t : Text) (w : WorkState) → is_phrase row.RECEIVER t ≡ true → starts Atoms start.Alpha t ≡ false
    → takes_some part (tree_at row.RECEIVER t) w ≡ assign_number_at (typed_number part) (tree_at row.NUMERIC_RECEIVER t) w
number_is part t w ok is = ap (λ (u : Trees). takes_some part u w) (ReadAs.tree (number_read t ok is))

-- INPUT
abbrev input_items : List Item
input_items = Word word.INPUT ∷ Maybe quoted row.PROMPT ∷ Part row.RECEIVER ∷ Many commas row.COMMA_RECEIVER ∷ []

input_row : row_items row.INPUT ≡ input_items
unfolding row_items
input_row = refl

input_stands : (t : Text) → is_phrase row.INPUT t ≡ true → (maybe_phrase quoted row.PROMPT (drop 1 t) ≡ true) × ((is_phrase row.RECEIVER (rest_at t) ≡ true) × ((are_others (past_first (rest_at t)) ≡ true) × Unit {0}))
input_stands t ok =
    maybe_then quoted row.PROMPT (drop 1 t) (λ u. (is_phrase row.RECEIVER u ≡ true) × ((are_others (past_first u) ≡ true) × Unit {0})) (stands_of row.INPUT input_items t input_row ok).0.1

pub input_prompt : (t : Text) → is_phrase row.INPUT t ≡ true → maybe_phrase quoted row.PROMPT (drop 1 t) ≡ true
input_prompt t ok = (input_stands t ok).0

pub input_receiver : (t : Text) → is_phrase row.INPUT t ≡ true → is_phrase row.RECEIVER (rest_at t) ≡ true
input_receiver t ok = (input_stands t ok).1.0

pub input_list : (t : Text) → is_phrase row.INPUT t ≡ true → are_others (past_first (rest_at t)) ≡ true
input_list t ok = (input_stands t ok).1.1.0

abbrev receivers_tree : Text → Trees
receivers_tree u = In 2 (tree_at row.RECEIVER u) (also (list_at commas row.COMMA_RECEIVER (past_first u)) Done)

input_tree : (t : Text) → is_phrase row.INPUT t ≡ true → tree_at row.INPUT t ≡ Put (Coded word.INPUT) (also (maybe_tree quoted row.PROMPT (drop 1 t)) (receivers_tree (rest_at t)))
input_tree t ok =
    (stands_of row.INPUT input_items t input_row ok).1
    ∙ ap (λ (a : Trees). Put (Coded word.INPUT) a) (maybe_put quoted row.PROMPT (drop 1 t) receivers_tree)

pub input_shows : (t : Text) → is_phrase row.INPUT t ≡ true → prompt_of (tree_at row.INPUT t) ≡ prompt_there (maybe_tree quoted row.PROMPT (drop 1 t))
input_shows t ok = ap prompt_of (input_tree t ok) ∙ prompt_is word.INPUT (drop 1 t) (receivers_tree (rest_at t))

input_to : (t : Text) → is_phrase row.INPUT t ≡ true → all_listed (after_prompt (tree_at row.INPUT t)) ≡ receivers_at (rest_at t)
input_to t ok = ap (λ (a : Trees). all_listed (after_prompt a)) (input_tree t ok) ∙ ap all_listed (after_is word.INPUT (drop 1 t) (receivers_tree (rest_at t)))

pub input_is : (line : List ℕ) (t : Text) (w : WorkState) → is_phrase row.INPUT t ≡ true
    → takes_parts line (tree_at row.INPUT t) w ≡ take_parts takes_part (receivers_at (rest_at t)) (typed_parts line) w
input_is line t w ok = ap (λ (ts : List Trees). take_parts takes_part ts (typed_parts line) w) (input_to t ok)
