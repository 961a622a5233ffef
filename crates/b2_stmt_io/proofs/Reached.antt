-- A statement at the terminal changes the `@` variables only where it reaches a receiver among them.
use Rattle.std.proofs.Common.{◌==◌, ℕ, List, [], ◌∷◌, length, Option, Some, None, Ok, Err, subst, sym}
use Rattle.b2_alpha.specs.Values.{value_of}
use Rattle.b2_base.specs.Lexical.{skip_blanks}
use Rattle.b2_atom.specs.Tokens.Token.{Coded, Short, Lined, Plain}
use Rattle.b2_atom.specs.Tree.{Trees}
use Rattle.b2_atom.specs.Tree.Trees.{Done, Put, In}
use Rattle.b2_atom.specs.declared.rows.TheConstants as row
use Rattle.b2_flow.specs.declared.frame.Place.{Place}
use Rattle.b2_rows.specs.CommaLists.{all_listed}
use Rattle.b2_rows.specs.Values.{image_of}
use Rattle.b2_vars.specs.Globals.{Globals, MayBecome}
use Rattle.b2_expr.specs.Answers.{Answer as NumberAnswer, TextAnswer}
use Rattle.b2_expr.specs.Value.{context_of, text, value}
use Rattle.b2_expr.specs.Workspace.{Reaches, WorkLeft, changed_by, work_in}
use Rattle.b2_expr.specs.declared.operators.Level.TheVariants as level
use Rattle.b2_expr.proofs.Reached.{stay, then_reaches}
use Rattle.b2_print.specs.Imaged.{converted}
use Rattle.b2_receiver.specs.Receiving.{assign_bytes_at, assign_number_at}
use Rattle.b2_receiver.proofs.Reached.{bytes_at_reaches, number_at_reaches}
use Rattle.b2_access.specs.Lending.{SeenLent}
use Rattle.b2_access.specs.Partition.{setting_of}
use Rattle.b2_access.specs.Placed.{Statement}
use Rattle.b2_access.specs.Showing.{shown_or_printed}
use Rattle.b2_access.specs.KeyLiterals.{typed_by_mark}
use Rattle.b2_access.specs.Views.{LineCame, PromptShown, LineEntered, LineLeft, LineLater, key_came, line_came}
use Rattle.b2_access.specs.Working.{EachReaches, PlansEachReach, Worked, Working, globals_after, plain, stops, told_of_globals}
use Rattle.b2_access.specs.declared.accesses.Access.{Access}
use Rattle.b2_access.specs.declared.accesses.Answer.{Answer}
use Rattle.b2_access.specs.declared.devices.Device.{Device}
use Rattle.b2_access.specs.declared.planned.Outcome.{Outcome}
use Rattle.b2_access.specs.declared.private.Private.{Private}
use Rattle.b2_access.proofs.Choice.{either}
use Rattle.b2_access.proofs.Dispatch.{each_dispatch}
use Rattle.b2_stmt_io.specs.Converting.{converts, converts_bytes, converts_number, image_from, number_from}
use Rattle.b2_stmt_io.specs.Inputs.{take_parts, takes_part, takes_parts, takes_some, takes_typed}
use Rattle.b2_stmt_io.specs.Keys.{assigns_key, key_byte, key_goes, with_key}
use Rattle.b2_stmt_io.specs.LineReading.{after_prompt, line_answered_by, receiver_of, takes_line as takes_whole, types}
use Rattle.b2_stmt_io.specs.Plan.{does, ended_of, ends, finishes, is_refused, printing_ends, repeats, takes_line, works}
use Rattle.b2_stmt_io.specs.TypedText.{typed_number, typed_parts}
use Rattle.b2_stmt_io.proofs.Entered.{shown_tells_nothing}
use Rattle.b2_stmt_io.proofs.Planned.{each_ended}

-- CONVERT
number_from_reaches : (x : TextAnswer) (receiver : Trees) → Reaches (number_from x receiver)
number_from_reaches (Ok bytes) receiver = number_at_reaches (typed_number bytes) receiver
number_from_reaches (Err code) receiver = λ w. stay w.globals

image_from_reaches : (x : NumberAnswer) (image : List ℕ) (receiver : Trees) → Reaches (image_from x image receiver)
image_from_reaches (Ok x) image receiver = bytes_at_reaches (converted image x) receiver
image_from_reaches (Err code) image receiver = λ w. stay w.globals

bytes_converted : (t : Trees) → Reaches (converts_bytes t)
bytes_converted Done w = stay w.globals
bytes_converted (Put v t) w = stay w.globals
bytes_converted (In n bytes Done) w = stay w.globals
bytes_converted (In n bytes (In m a t)) w = stay w.globals
bytes_converted (In n bytes (Put to Done)) w = stay w.globals
bytes_converted (In n bytes (Put to (Put v t))) w = stay w.globals
bytes_converted (In n bytes (Put to (In m receiver end))) w = number_from_reaches (text (context_of w) bytes) receiver w

number_converted : (t : Trees) → Reaches (converts_number t)
number_converted Done w = stay w.globals
number_converted (Put v t) w = stay w.globals
number_converted (In n x Done) w = stay w.globals
number_converted (In n x (In m a t)) w = stay w.globals
number_converted (In n x (Put to Done)) w = stay w.globals
number_converted (In n x (Put to (Put v t))) w = stay w.globals
number_converted (In n x (Put to (In m receiver Done))) w = stay w.globals
number_converted (In n x (Put to (In m receiver (In k a t)))) w = stay w.globals
number_converted (In n x (Put to (In m receiver (Put comma Done)))) w = stay w.globals
number_converted (In n x (Put to (In m receiver (Put comma (In k a t))))) w = stay w.globals
number_converted (In n x (Put to (In m receiver (Put comma (Put opening Done))))) w = stay w.globals
number_converted (In n x (Put to (In m receiver (Put comma (Put opening (In k a t)))))) w = stay w.globals
number_converted (In n x (Put to (In m receiver (Put comma (Put opening (Put (Coded c) end)))))) w = stay w.globals
number_converted (In n x (Put to (In m receiver (Put comma (Put opening (Put (Short c) end)))))) w = stay w.globals
number_converted (In n x (Put to (In m receiver (Put comma (Put opening (Put (Lined high low) end)))))) w = stay w.globals
number_converted (In n x (Put to (In m receiver (Put comma (Put opening (Put (Plain k image) end)))))) w = image_from_reaches (value (context_of w) level.Sum x) (image_of image) receiver w

converts_reach : (t : Trees) → Reaches (converts t)
converts_reach Done w = stay w.globals
converts_reach (In n a t) w = stay w.globals
converts_reach (Put word Done) w = stay w.globals
converts_reach (Put word (Put v t)) w = stay w.globals
converts_reach (Put word (In n t end)) w = either (λ (r : WorkLeft). MayBecome w.globals r.work.globals) (n == 1) (converts_bytes t w) (converts_number t w) (bytes_converted t w) (number_converted t w)

pub plans_reach : (devices : List Device) → PlansEachReach (works devices)
plans_reach devices me s =
    let F : Working → Type 0 = λ k. MayBecome s.globals (globals_after (told_of_globals k) s.globals) in
    each_dispatch is_refused stops (does devices me s) me s F (stay s.globals) (stay s.globals) (λ p is u.
    either F (u.row == row.CONVERT) _ _ (converts_reach u.tree (work_in (setting_of me) s.home me.vars s.globals)) (stay s.globals))

-- INPUT and LINPUT
some_reaches : (part : List ℕ) (t : Trees) → Reaches (takes_some part t)
some_reaches part Done w = stay w.globals
some_reaches part (Put v t) w = stay w.globals
some_reaches part (In n receiver end) w =
    either (λ (r : WorkLeft). MayBecome w.globals r.work.globals) (n == 1) (assign_bytes_at (Ok (value_of (skip_blanks part))) receiver w) (assign_number_at (typed_number part) receiver w)
    (bytes_at_reaches (Ok (value_of (skip_blanks part))) receiver w) (number_at_reaches (typed_number part) receiver w)

part_reaches : (t : Trees) (part : List ℕ) → Reaches (takes_part t part)
part_reaches t part w = either (λ (r : WorkLeft). MayBecome w.globals r.work.globals) (length (skip_blanks part) == 0) _ (takes_some part t w) (stay w.globals) (some_reaches part t w)

parts_reach : (ts : List Trees) (parts : List (List ℕ)) → Reaches (take_parts takes_part ts parts)
parts_reach [] parts = λ w. stay w.globals
parts_reach (t ∷ ts) [] = λ w. stay w.globals
parts_reach (t ∷ ts) (part ∷ parts) = λ w. then_reaches w.globals (takes_part t part w) (take_parts takes_part ts parts) (part_reaches t part w) (parts_reach ts parts)

typed_reaches : (r : ℕ) (line : List ℕ) (t : Trees) → Reaches (takes_typed r line t)
typed_reaches r line t w =
    either (λ (left : WorkLeft). MayBecome w.globals left.work.globals) (r == row.LINPUT) (takes_whole line t w) (takes_parts line t w)
    (bytes_at_reaches (Ok line) (receiver_of (after_prompt t)) w) (parts_reach (all_listed (after_prompt t)) (typed_parts line) w)

-- what a statement tells of them as it finishes
abbrev Tells : Globals → Worked → Type 0
Tells g w = MayBecome g (globals_after w.work.globals g)

types_stay : (o : Option (List ℕ)) (me : Private) (g : Globals) → Tells g (types o me)
types_stay None me g = stay g
types_stay (Some text) me g = stay g

line_reaches : (r : ℕ) (t : Trees) (p : Place) (x : Access) (a : Answer) (me : Private) (s : SeenLent) → Tells s.globals (takes_line r t p x a me s)
line_reaches r t p x a me s = by (line_came x a)
  where
    by : (c : LineCame) → Tells s.globals (line_answered_by (λ line vars. changed_by (takes_typed r line t (work_in (setting_of me) s.home vars s.globals))) c s.own.lines me)
    by (PromptShown column) = stay s.globals
    by (LineEntered line) = typed_reaches r line t (work_in (setting_of me) s.home me.vars s.globals)
    by (LineLeft n) = types_stay (typed_by_mark n s.own.lines) me s.globals
    by LineLater = stay s.globals

assigns_reach : (key : ℕ) (t : Trees) → Reaches (assigns_key key t)
assigns_reach key Done w = stay w.globals
assigns_reach key (In n a t) w = stay w.globals
assigns_reach key (Put word Done) w = stay w.globals
assigns_reach key (Put word (Put v t)) w = stay w.globals
assigns_reach key (Put word (In n receiver lines)) w = bytes_at_reaches (Ok (key ∷ [])) receiver w

key_reaches : (key : Option ℕ) (goes : Outcome) (t : Trees) (me : Private) (s : SeenLent) → Tells s.globals (with_key key goes t me s)
key_reaches None goes t me s = stay s.globals
key_reaches (Some key) goes t me s = assigns_reach key t (work_in (setting_of me) s.home me.vars s.globals)

shown_stays : (x : Access) (a : Answer) (me : Private) (g : Globals) → Tells g (shown_or_printed x a me)
shown_stays x a me g = subst (λ (o : Option Globals). MayBecome g (globals_after o g)) (sym (shown_tells_nothing x a me)) (stay g)

statement_reaches : (u : Statement) (p : Place) (x : Access) (a : Answer) (me : Private) (s : SeenLent) → Tells s.globals (ended_of u p x a me s)
statement_reaches u p x a me s =
    each_ended (Tells s.globals) x a me s (shown_stays x a me s.globals) (stay s.globals) (stay s.globals) u p
    (key_reaches (key_byte (key_came x a)) (key_goes (key_came x a) s.home.lines p u.tree) u.tree me s) (λ r. line_reaches r u.tree p x a me s)

pub finishes_reach : EachReaches plain ends
finishes_reach x a me s = each_dispatch is_refused (repeats me) (finishes x a me s) me s (Tells s.globals) (stay s.globals) (stay s.globals) (λ p is u. statement_reaches u p x a me s)

pub printing_reaches : EachReaches plain printing_ends
printing_reaches x a me s = shown_stays x a me s.globals
