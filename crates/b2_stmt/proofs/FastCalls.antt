-- GOSUB' and DEFFN' done fast: what a call comes to, and what taking a number alone comes to.
use Rattle.std.proofs.Common.{◌≡◌, ◌∙◌, ℕ, zero, suc, ◌==◌, ◌&&◌, ◌||◌, nat_lt, not, is_some, Bool, true, false, if◌then◌else◌, List, [], ◌∷◌, drop, get_or, refl, sym, ap, subst, Option, Some, None, Result, Ok, arith}
use Rattle.std.proofs.lemmas.Bool.Decides.{nat_tests}
use Rattle.std.specs.FinMap as map
use Rattle.b2_base.specs.Byte as byte
use Rattle.b2_base.specs.Lexical.{first, is_letter}
use Rattle.b2_base.specs.declared.codes.TheConstants.{A04_TOO_DEEP, P35_ARGUMENTS}
use Rattle.b2_dec.specs.Number.{Number}
use Rattle.b2_dec.specs.declared.values.Value.{Value}
use Rattle.b2_dec.specs.declared.values.Value.TheVariants as value
use Rattle.b2_atom.specs.Grammar.{is_among, starts}
use Rattle.b2_atom.specs.Leaves.{is_alpha_name}
use Rattle.b2_atom.specs.Tree.{Trees}
use Rattle.b2_atom.specs.Words.{Text}
use Rattle.b2_atom.specs.declared.forms.Start.TheVariants as start
use Rattle.b2_atom.specs.declared.rows.TheConstants as row
use Rattle.b2_atom.specs.declared.words.Origin.TheVariants.{Atoms}
use Rattle.b2_atom.specs.declared.words.TheConstants as word
use Rattle.b2_rows.specs.Choices.{ReadAs, second_branch}
use Rattle.b2_rows.specs.CommaLists.{receivers_at}
use Rattle.b2_rows.specs.Rows.{after_phrase, is_phrase, tree_at}
use Rattle.b2_text.specs.Spots.{or_else}
use Rattle.b2_vars.specs.Answers.{first_of}
use Rattle.b2_vars.specs.Calls.{full, get_code, no_array, no_cell, set_code, with_change, with_scalar}
use Rattle.b2_vars.specs.Names.{scalar_named}
use Rattle.b2_vars.specs.Shapes.{cell_at}
use Rattle.b2_vars.specs.Tables.{VarsState, shape_at}
use Rattle.b2_vars.specs.Variables.{number_at, with_number}
use Rattle.b2_vars.specs.declared.name.Var.{Var}
use Rattle.b2_flow.specs.Stacks.{has_room}
use Rattle.b2_flow.specs.declared.frame.Frame.TheVariants.{Call}
use Rattle.b2_flow.specs.declared.frame.Place.{Place}
use Rattle.b2_expr.specs.Answers.{◌>>=◌, unless}
use Rattle.b2_expr.specs.Named.{Cell, counted_digit, number_there, plain_width}
use Rattle.b2_expr.specs.Scope.{Context}
use Rattle.b2_expr.specs.Value.{context_of}
use Rattle.b2_expr.specs.Workspace.{WorkState, WorkLeft, on_own, refused, then_works}
use Rattle.b2_expr.specs.declared.named.Element.{Element}
use Rattle.b2_expr.proofs.PlainNames.{lettered_width, receiver_located, receiver_rest}
use Rattle.b2_receiver.specs.Assigning.{unless_refused}
use Rattle.b2_receiver.specs.Receivers.{any_receiver, number_receiver}
use Rattle.b2_receiver.specs.declared.receiver.Receiver.{Receiver}
use Rattle.b2_receiver.specs.declared.receiver.Receiver.TheVariants as receiver_kind
use Rattle.b2_receiver.proofs.ReceiverLists.{no_items}
use Rattle.b2_receiver.proofs.ReceiverRows.{number_is as number_is_there}
use Rattle.b2_access.specs.JumpTargets.{is_done, lead_seen}
use Rattle.b2_access.specs.Partition.{setting_of}
use Rattle.b2_access.specs.Fast.{lead_of, place_following, place_led}
use Rattle.b2_access.specs.Planning.{done}
use Rattle.b2_access.specs.Steering.{Steered, control_of, steered, unsteered}
use Rattle.b2_access.specs.Working.{work_of}
use Rattle.b2_access.specs.declared.fast.Lead.{Lead}
use Rattle.b2_access.specs.declared.placed.Found.{Found}
use Rattle.b2_access.specs.declared.planned.Outcome.TheVariants as outcome
use Rattle.b2_access.specs.declared.private.Private.{Private}
use Rattle.b2_stmt.specs.Asked.{asks_mark, carried}
use Rattle.b2_stmt.specs.Borrowing.{asks_of_others, asks_to_enter}
use Rattle.b2_stmt.specs.Marked.{args_taken, calls_into, calls_mark, ends_taken, ends_with_args, mark_in, mark_place, take_each, takes_args, takes_value, takes_values, value_to, values_fit}
use Rattle.b2_stmt.specs.Arguments.{past_number}
use Rattle.b2_stmt.specs.Fast.{IsMarkLed, Steers, TakesOrNot, seen_fast}
use Rattle.b2_expr.specs.Kinds.{suits}
use Rattle.b2_access.proofs.Led.{following_led}
use Rattle.b2_stmt.proofs.MarkRows.{number_read, kind_is, parameters_are, parameters_first}
use Rattle.b2_stmt.proofs.Steered.{seen_done, steers_by}

-- GOSUB': where its DEFFN' stands
abbrev place_called : Found → Private → ℕ → Option Place
place_called f me n = mark_place n f.place me.part f.own.now.lines f.home.now.lines

found_at_home : (f : Found) (me : Private) (to : Lead) (n : ℕ) → IsMarkLed (lead_seen to) n f → is_done to ≡ true → place_called f me n ≡ Some (place_led f.place.home (to.line, to.unit))
found_at_home f me to n leads there =
    ap (λ (o : Option Place). or_else o (mark_in me.part n f.own.now.lines)) (subst (λ (l : Option (ℕ × ℕ)). IsMarkLed l n f) (seen_done to there) leads)

pub enters_none : (f : Found) (me : Private) (to : Lead) (n : ℕ) (answer : Result (List Value) ℕ) (args : List Value) (back : Option Place) → answer ≡ Ok args → IsMarkLed (lead_seen to) n f → is_done to ≡ true
    → asks_of_others (asks_mark n answer back) f.place me f.own.now.lines f.home.now.lines ≡ None
enters_none f me to n answer args back is leads there =
    ap (λ (r : Result (List Value) ℕ). asks_of_others (asks_mark n r back) f.place me f.own.now.lines f.home.now.lines) is
    ∙ ap (λ (o : Option Place). asks_to_enter n o me) (found_at_home f me to n leads there)

abbrev called : Private → Place → List Value → Place → Steered
called me q args back = record { work = record (control_of me) { work = record (work_of me) { args = Some args }; stack = Call (Some back) None ∷ me.stack }; outcome = outcome.Jump q }

pub call_steers : (f : Found) (me after : Private) (on to : Lead) (n : ℕ) (answer : Result (List Value) ℕ) (args : List Value) → answer ≡ Ok args → lead_seen on ≡ lead_of (place_following f) → is_done on ≡ true
    → IsMarkLed (lead_seen to) n f → is_done to ≡ true → has_room me.stack ≡ true
    → after ≡ record me { stack = Call (Some (place_led f.place.home (on.line, on.unit))) None ∷ me.stack; args = Some args }
    → Steers (lead_seen to) f me after (carried (asks_mark n answer (place_following f)) f.place me f.own.now.lines f.home.now.lines)
call_steers f me after on to n answer args is follows there leads at_home room same =
    let seen = seen_done to at_home in
    let q = place_led f.place.home (to.line, to.unit) in
    let back = place_led f.place.home (on.line, on.unit) in
    let next : place_following f ≡ Some back = following_led f (on.line, on.unit) (sym follows ∙ seen_done on there) in
    let e : carried (asks_mark n answer (place_following f)) f.place me f.own.now.lines f.home.now.lines ≡ called me q args back =
    ap (λ (r : Result (List Value) ℕ). carried (asks_mark n r (place_following f)) f.place me f.own.now.lines f.home.now.lines) is
    ∙ ap (λ (o : Option Place). calls_mark o args (place_following f) me) (found_at_home f me to n leads at_home)
    ∙ ap (λ (o : Option Place). calls_into None q args o me) next
    ∙ ap (λ (b : Bool). if b then called me q args back else unsteered me (outcome.Failed A04_TOO_DEEP)) room in
    subst (λ (l : Option (ℕ × ℕ)). Steers l f me after (carried (asks_mark n answer (place_following f)) f.place me f.own.now.lines f.home.now.lines)) (sym seen)
    (steers_by f me after (to.line, to.unit) (called me q args back) _ e (sym same) refl)

-- a plain name with `)` after it
first_there : (n : ℕ) (t : Text) → first (drop n t) ≡ get_or t n 0
first_there zero [] = refl
first_there zero (b ∷ t) = refl
first_there (suc n) [] = refl
first_there (suc n) (b ∷ t) = first_there n t

none_of_three : (a b c : Bool) → a ≡ false → b ≡ false → c ≡ false → (a || b || c) ≡ false
none_of_three a b c p q r = ap (λ (x : Bool). x || b || c) p ∙ ap (λ (x : Bool). x || c) q ∙ r

never : (b : Bool) → (b && byte.closing == byte.dollar) ≡ false
never true = refl
never false = refl

no_quote : (b : ℕ) → is_letter b ≡ true → (b == byte.quote) ≡ false
no_quote b h = grind (arith, nat_tests)

no_word : (b : ℕ) → is_letter b ≡ true → is_among word.HEX_OPEN word.BIN_OPEN b ≡ false
no_word b h = grind (arith, nat_tests)

no_dollar : (t : Text) → is_letter (first t) ≡ true → get_or t (plain_width t) 0 ≡ byte.closing → is_alpha_name Atoms t ≡ false
no_dollar t h is =
    ap (λ (n : ℕ). nat_lt 0 n && get_or t n 0 == byte.dollar) (lettered_width t h)
    ∙ ap (λ (b : ℕ). nat_lt 0 (plain_width t) && b == byte.dollar) is
    ∙ never (nat_lt 0 (plain_width t))

no_alpha : (t : Text) → is_letter (first t) ≡ true → get_or t (plain_width t) 0 ≡ byte.closing → starts Atoms start.Alpha t ≡ false
unfolding starts
no_alpha t h is = none_of_three (first t == byte.quote) (is_among word.HEX_OPEN word.BIN_OPEN (first t)) (is_alpha_name Atoms t) (no_quote (first t) h) (no_word (first t) h) (no_dollar t h is)

-- the receiver
abbrev scalar_at : Text → Var
scalar_at t = scalar_named (first t) (counted_digit (get_or t 1 0))

abbrev element_at : Text → Element
element_at t = record { global = false; var = scalar_at t; row = 0; column = 0 }

module _ (t : Text) (ok : is_phrase row.RECEIVER t ≡ true) (h : is_letter (first t) ≡ true) (is : get_or t (plain_width t) 0 ≡ byte.closing) where
  read : ReadAs row.RECEIVER row.NUMERIC_RECEIVER second_branch t
  read = number_read t ok (no_alpha t h is)

  after_name : first (drop (plain_width t) t) ≡ byte.closing
  after_name = first_there (plain_width t) t ∙ is

  alone : (first (drop (plain_width t) t) == byte.opening) ≡ false
  alone = ap (λ (b : ℕ). b == byte.opening) after_name

  past : after_phrase row.RECEIVER t ≡ drop (plain_width t) t
  past = ReadAs.rest read ∙ receiver_rest t (ReadAs.part read) h alone

  only : receivers_at t ≡ tree_at row.RECEIVER t ∷ []
  only = ap (λ (ts : List Trees). tree_at row.RECEIVER t ∷ ts) (no_items (after_phrase row.RECEIVER t) (ap (λ (u : Text). first u == byte.comma) past ∙ ap (λ (b : ℕ). b == byte.comma) after_name))

  located_number : (e : Context) → get_code (scalar_at t) 0 0 e.around.own.table ≡ None → number_receiver e (tree_at row.NUMERIC_RECEIVER t) ≡ Ok (element_at t)
  located_number e none =
      number_is_there e (tree_at row.NUMERIC_RECEIVER t)
      ∙ ap (λ (place : Result Cell ℕ). place >>= (λ p. number_there p >>= (λ (x : Number). Ok p.element))) (receiver_located e t (ReadAs.part read) h alone)
      ∙ ap (λ (code : Option ℕ). unless code (number_at (cell_at (shape_at (scalar_at t) e.around.own.table) 0 0) (map.get e.around.own.table (scalar_at t))) >>= (λ (x : Number). Ok (element_at t))) none

  receiver : (e : Context) → get_code (scalar_at t) 0 0 e.around.own.table ≡ None → any_receiver e (tree_at row.RECEIVER t) ≡ Ok (receiver_kind.Number (element_at t))
  unfolding any_receiver
  receiver e none =
      ap (any_receiver e) (ReadAs.tree read)
      ∙ ap (λ (r : Result Element ℕ). r >>= (λ (x : Element). Ok (receiver_kind.Number x))) (located_number e none)

  fits : (x : Number) → values_fit (tree_at row.RECEIVER t ∷ []) (value.Number x ∷ []) ≡ true
  fits x = ap (λ (b : Bool). suits b (value.Number x) && true) (kind_is t ok ∙ no_alpha t h is)

-- the codes of setting a scalar, and of reaching it, which are among them
uncoded : (code : Option ℕ) → true ≡ not (is_some code) → code ≡ None
uncoded None h = refl
uncoded (Some c) h = cc

front : (a b c : Option ℕ) → first_of (a ∷ b ∷ c ∷ []) ≡ None → first_of (a ∷ b ∷ []) ≡ None
front None None c h = refl
front None (Some x) c h = h
front (Some x) b c h = h

reached : (v : Var) (s : VarsState) → set_code v 0 0 s ≡ None → get_code v 0 0 s.table ≡ None
reached v s h = front (no_array v s.table) (no_cell v 0 0 s.table) (full s.area (with_scalar v s).table) h

-- what it leaves
abbrev with_number_in : Var → Number → VarsState → VarsState
with_number_in v x s = with_change v (with_number (cell_at (shape_at v s.table) 0 0) x) (with_scalar v s)

abbrev left_by : WorkState → VarsState → WorkLeft
left_by w vars = record { work = record w { own = vars }; code = None }

one_taken : (w : WorkState) (t : Text) (x : Number) → is_phrase row.RECEIVER t ≡ true → is_letter (first t) ≡ true → get_or t (plain_width t) 0 ≡ byte.closing → set_code (scalar_at t) 0 0 w.own ≡ None
    → takes_value (tree_at row.RECEIVER t) (value.Number x) w ≡ left_by w (with_number_in (scalar_at t) x w.own)
one_taken w t x ok h is none =
    ap (λ (to : Result Receiver ℕ). value_to to (value.Number x) w) (receiver t ok h is (context_of w) (reached (scalar_at t) w.own none))
    ∙ ap (λ (code : Option ℕ). on_own (unless_refused code w.own (record { vars = with_number_in (scalar_at t) x w.own; code = None })) w) none

all_taken : (w : WorkState) (t : Text) (x : Number) → is_phrase row.RECEIVER t ≡ true → is_letter (first t) ≡ true → get_or t (plain_width t) 0 ≡ byte.closing → set_code (scalar_at t) 0 0 w.own ≡ None
    → takes_values (receivers_at t) (value.Number x ∷ []) w ≡ left_by w (with_number_in (scalar_at t) x w.own)
all_taken w t x ok h is none =
    ap (λ (ts : List Trees). takes_values ts (value.Number x ∷ []) w) (only t ok h is)
    ∙ ap (λ (b : Bool). if b then take_each takes_value (tree_at row.RECEIVER t ∷ []) (value.Number x ∷ []) w else refused P35_ARGUMENTS w) (fits t ok h is x)
    ∙ ap (λ (r : WorkLeft). then_works r (take_each takes_value [] [])) (one_taken w t x ok h is none)

abbrev name_at : Text → Text
name_at t = drop 1 (past_number t)

pub number_taken : (f : Found) (me after : Private) (x : Number) (vars : VarsState) (b : Bool) → is_phrase row.DEFFN_MARKED f.unit.now.bytes.now ≡ true → (first (past_number f.unit.now.bytes.now) == byte.opening) ≡ true
    → is_letter (first (name_at f.unit.now.bytes.now)) ≡ true → get_or (name_at f.unit.now.bytes.now) (plain_width (name_at f.unit.now.bytes.now)) 0 ≡ byte.closing → me.args ≡ Some (value.Number x ∷ [])
    → b ≡ true → b ≡ not (is_some (set_code (scalar_at (name_at f.unit.now.bytes.now)) 0 0 me.vars))
    → vars ≡ with_number_in (scalar_at (name_at f.unit.now.bytes.now)) x me.vars → after ≡ record me { vars = vars; args = None }
    → TakesOrNot f me after true
number_taken f me after x vars b ok opening h is args made room set same =
    let t = f.unit.now.bytes.now in
    let s = seen_fast f in
    let w : WorkState = record { own = me.vars; globals = s.globals; setting = setting_of me; home = s.home } in
    let none = uncoded (set_code (scalar_at (name_at t)) 0 0 me.vars) (sym made ∙ room) in
    let r : takes_args (tree_at row.DEFFN_MARKED t) me s ≡ left_by w vars =
    ap (λ (o : Option (List Value)). args_taken o (tree_at row.DEFFN_MARKED t) w) args
    ∙ ap (λ (ts : List Trees). takes_values ts (value.Number x ∷ []) w) (parameters_are t ok opening)
    ∙ all_taken w (name_at t) x (parameters_first t ok opening) h is none
    ∙ ap (left_by w) (sym set) in
    ap (λ (l : WorkLeft). ends_with_args l me s) r
    ∙ ap (λ (o : Option (List Value)). done s (steered me (ends_taken o (left_by w vars) me))) args
    ∙ ap (λ (m : Private). done s (record { me = m; outcome = outcome.Next })) (sym same)
