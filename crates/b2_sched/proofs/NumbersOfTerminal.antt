-- Statements at the terminal leave numbers: what is typed as a number is one.
use Rattle.std.proofs.Common.{ℕ, ◌==◌, List, [], ◌∷◌, length, drop, Option, Some, None, IfSome, Ok, Err}
use Rattle.b2_alpha.specs.Values.{value_of}
use Rattle.b2_base.specs.Lexical.{skip_blanks}
use Rattle.b2_base.specs.declared.codes.TheConstants.{X73_NOT_A_NUMBER}
use Rattle.b2_dec.specs.Number.{Number, IsNumber}
use Rattle.b2_dectext.specs.NumberText.{number_len, number_read}
use Rattle.b2_atom.specs.Tokens.Token.{Plain}
use Rattle.b2_atom.specs.Tree.{Trees}
use Rattle.b2_atom.specs.Tree.Trees.{Put, In}
use Rattle.b2_atom.specs.declared.rows.TheConstants as row
use Rattle.b2_flow.specs.declared.frame.Place.{Place}
use Rattle.b2_rows.specs.CommaLists.{all_listed}
use Rattle.b2_rows.specs.Values.{image_of}
use Rattle.b2_expr.specs.Answers.{Answer as NumberAnswer, TextAnswer}
use Rattle.b2_expr.specs.Value.{context_of, text, value}
use Rattle.b2_expr.specs.Workspace.{changed_by, unchanged, work_in}
use Rattle.b2_expr.specs.declared.operators.Level.TheVariants as level
use Rattle.b2_receiver.specs.Receiving.{assign_bytes_at, assign_number_at}
use Rattle.b2_access.specs.Lending.{SeenLent}
use Rattle.b2_access.specs.KeyLiterals.{typed_by_mark}
use Rattle.b2_access.specs.Partition.{setting_of}
use Rattle.b2_access.specs.Placed.{Statement}
use Rattle.b2_access.specs.Showing.{shown_or_printed, shown_or_printed_where}
use Rattle.b2_access.specs.Views.{LineCame, PromptShown, LineEntered, LineLeft, LineLater, column_printed, column_shown, key_came, line_came}
use Rattle.b2_access.specs.Working.{stops, work_of}
use Rattle.b2_access.specs.declared.accesses.Access.{Access}
use Rattle.b2_access.specs.declared.accesses.Answer.{Answer}
use Rattle.b2_access.specs.declared.devices.Device.{Device}
use Rattle.b2_access.specs.declared.planned.Outcome.{Outcome}
use Rattle.b2_access.specs.declared.planned.Outcome.TheVariants as outcome
use Rattle.b2_access.specs.declared.private.Private.{Private}
use Rattle.b2_access.proofs.Choice.{either}
use Rattle.b2_access.proofs.Dispatch.{each_dispatch}
use Rattle.b2_stmt_io.specs.Converting.{converts, converts_bytes, converts_number, image_from, number_from}
use Rattle.b2_stmt_io.specs.Inputs.{take_parts, takes_part, takes_parts, takes_some, takes_typed}
use Rattle.b2_stmt_io.specs.Keys.{assigns_key, key_byte, key_goes, with_key}
use Rattle.b2_stmt_io.specs.LineReading.{after_prompt, line_answered_by, receiver_of, takes_line as takes_whole, types}
use Rattle.b2_stmt_io.specs.Plan.{does, ended_of, ends, finish, finish_printing, finishes, is_refused, plan, printing_ends, repeats, takes_line, works}
use Rattle.b2_stmt_io.specs.TypedText.{or_no_number, typed_number, typed_parts}
use Rattle.b2_stmt_io.proofs.Planned.{each_ended}
use Rattle.b2_stmt_file.specs.SavedNumbers.{GivesNumber}
use Rattle.b2_stmt_file.proofs.NumbersGiven.{either_gives}
use Rattle.b2_sched.specs.Numbers.{FinishingHolds, GlobalsHold, PlanningHolds, PrivateHolds}
use Rattle.b2_sched.proofs.NumbersAssigned.{assign_bytes_holds, assign_number_holds, then_holds}
use Rattle.b2_sched.proofs.NumbersFinished.{WorkedHolds, finished_holds}
use Rattle.b2_sched.proofs.NumbersPut.{Keeps, WorkingHolds, changed_holds, planned_holds, test_keeps, work_of_holds, works_in}
use Rattle.b2_sched.proofs.NumbersRead.{read_is}

-- a number that is typed
or_none_gives : (o : Option Number) → IfSome o IsNumber → GivesNumber (or_no_number o)
or_none_gives None is = tt
or_none_gives (Some x) is = is

typed_gives : (line : List ℕ) → GivesNumber (typed_number line)
typed_gives line =
    let text = skip_blanks line in
    either_gives (length (skip_blanks (drop (number_len text) text)) == 0) (or_no_number (number_read text)) (Err X73_NOT_A_NUMBER) (or_none_gives (number_read text) (read_is text)) tt

-- CONVERT
number_from_holds : (x : TextAnswer) (receiver : Trees) → Keeps (number_from x receiver)
number_from_holds (Ok bytes) receiver w h = assign_number_holds (typed_number bytes) receiver (typed_gives bytes) w h
number_from_holds (Err code) receiver w h = h

image_from_holds : (x : NumberAnswer) (image : List ℕ) (receiver : Trees) → Keeps (image_from x image receiver)
image_from_holds (Ok x) image receiver w h = assign_bytes_holds _ receiver w h
image_from_holds (Err code) image receiver w h = h

bytes_converted : (t : Trees) → Keeps (converts_bytes t)
bytes_converted (In n bytes (Put to (In m receiver end))) w h = number_from_holds (text (context_of w) bytes) receiver w h
bytes_converted t w h = h

number_converted : (t : Trees) → Keeps (converts_number t)
number_converted (In n x (Put to (In m receiver (Put comma (Put opening (Put (Plain k image) end)))))) w h = image_from_holds (value (context_of w) level.Sum x) (image_of image) receiver w h
number_converted t w h = h

converts_hold : (t : Trees) → Keeps (converts t)
converts_hold (Put word (In n t end)) w h = test_keeps (n == 1) (converts_bytes t w) (converts_number t w) (bytes_converted t w h) (number_converted t w h)
converts_hold t w h = h

pub terminal_plan_numbers : (devices : List Device) (me : Private) (s : SeenLent) → PrivateHolds me → GlobalsHold s.globals → PlanningHolds (plan devices me s)
terminal_plan_numbers devices me s h g =
    planned_holds me s (works devices me s) h g
    (each_dispatch is_refused stops (does devices me s) me s WorkingHolds tt tt
    (λ p is u. let w = work_in (setting_of me) s.home me.vars s.globals in
    either WorkingHolds (u.row == row.CONVERT) _ _ (changed_holds (converts u.tree w) outcome.Next (work_of me) (converts_hold u.tree w (works_in me s h g)) h.1) tt))

-- INPUT and LINPUT
some_holds : (part : List ℕ) (t : Trees) → Keeps (takes_some part t)
some_holds part (In n receiver end) w h =
    test_keeps (n == 1) (assign_bytes_at (Ok (value_of (skip_blanks part))) receiver w) (assign_number_at (typed_number part) receiver w)
    (assign_bytes_holds (Ok (value_of (skip_blanks part))) receiver w h) (assign_number_holds (typed_number part) receiver (typed_gives part) w h)
some_holds part t w h = h

part_holds : (t : Trees) (part : List ℕ) → Keeps (takes_part t part)
part_holds t part w h = test_keeps (length (skip_blanks part) == 0) (unchanged w) (takes_some part t w) h (some_holds part t w h)

parts_hold : (ts : List Trees) (parts : List (List ℕ)) → Keeps (take_parts takes_part ts parts)
parts_hold [] parts w h = h
parts_hold (t ∷ ts) [] w h = h
parts_hold (t ∷ ts) (part ∷ parts) w h = then_holds (takes_part t part w) (take_parts takes_part ts parts) (part_holds t part w h) (parts_hold ts parts)

typed_holds : (r : ℕ) (line : List ℕ) (t : Trees) → Keeps (takes_typed r line t)
typed_holds r line t w h =
    test_keeps (r == row.LINPUT) (takes_whole line t w) (takes_parts line t w) (assign_bytes_holds (Ok line) (receiver_of (after_prompt t)) w h) (parts_hold (all_listed (after_prompt t)) (typed_parts line) w h)

types_hold : (o : Option (List ℕ)) (me : Private) → PrivateHolds me → WorkedHolds (types o me)
types_hold None me h = work_of_holds me h
types_hold (Some text) me h = work_of_holds me h

line_holds : (r : ℕ) (t : Trees) (p : Place) (x : Access) (a : Answer) (me : Private) (s : SeenLent) → PrivateHolds me → GlobalsHold s.globals → WorkedHolds (takes_line r t p x a me s)
line_holds r t p x a me s h g = by (line_came x a)
  where
    by : (c : LineCame) → WorkedHolds (line_answered_by (λ line vars. changed_by (takes_typed r line t (work_in (setting_of me) s.home vars s.globals))) c s.own.lines me)
    by (PromptShown column) = work_of_holds me h
    by (LineEntered line) = let k = typed_holds r line t (work_in (setting_of me) s.home me.vars s.globals) (works_in me s h g) in (k.0, k.1, h.1)
    by (LineLeft n) = types_hold (typed_by_mark n s.own.lines) me h
    by LineLater = work_of_holds me h

-- KEYIN
assigns_hold : (key : ℕ) (t : Trees) → Keeps (assigns_key key t)
assigns_hold key (Put word (In n receiver lines)) w h = assign_bytes_holds (Ok (key ∷ [])) receiver w h
assigns_hold key t w h = h

key_holds : (key : Option ℕ) (goes : Outcome) (t : Trees) (me : Private) (s : SeenLent) → PrivateHolds me → GlobalsHold s.globals → WorkedHolds (with_key key goes t me s)
key_holds None goes t me s h g = work_of_holds me h
key_holds (Some key) goes t me s h g = let w = work_in (setting_of me) s.home me.vars s.globals in changed_holds (assigns_key key t w) goes (work_of me) (assigns_hold key t w (works_in me s h g)) h.1

-- PRINT and PRINTUSING
shown_where_holds : (at_terminal at_printer : Option ℕ) (me : Private) → PrivateHolds me → WorkedHolds (shown_or_printed_where at_terminal at_printer me)
shown_where_holds (Some column) printed me h = work_of_holds me h
shown_where_holds None (Some column) me h = work_of_holds me h
shown_where_holds None None me h = work_of_holds me h

shown_holds : (x : Access) (a : Answer) (me : Private) → PrivateHolds me → WorkedHolds (shown_or_printed x a me)
shown_holds x a me h = shown_where_holds (column_shown x a) (column_printed x a) me h

-- how each finishes
statement_holds : (u : Statement) (p : Place) (x : Access) (a : Answer) (me : Private) (s : SeenLent) → PrivateHolds me → GlobalsHold s.globals → WorkedHolds (ended_of u p x a me s)
statement_holds u p x a me s h g =
    each_ended WorkedHolds x a me s (shown_holds x a me h) (work_of_holds me h) (work_of_holds me h) u p
    (key_holds (key_byte (key_came x a)) (key_goes (key_came x a) s.home.lines p u.tree) u.tree me s h g) (λ r. line_holds r u.tree p x a me s h g)

pub terminal_finish_numbers : (x : Access) (a : Answer) (me : Private) (s : SeenLent) → PrivateHolds me → GlobalsHold s.globals → FinishingHolds (finish x a me s)
terminal_finish_numbers x a me s h g =
    finished_holds ends x a me s g
    (each_dispatch is_refused (repeats me) (finishes x a me s) me s WorkedHolds (work_of_holds me h) (work_of_holds me h) (λ p is u. statement_holds u p x a me s h g))

pub printing_finish_numbers : (x : Access) (a : Answer) (me : Private) (s : SeenLent) → PrivateHolds me → GlobalsHold s.globals → FinishingHolds (finish_printing x a me s)
printing_finish_numbers x a me s h g = finished_holds printing_ends x a me s g (shown_holds x a me h)
