-- GOSUB', which calls the DEFFN' of a number, and DEFFN', which takes what the call passes.
use Rattle.std.specs.Prelude.{ℕ, ◌==◌, ◌&&◌, Bool, true, false, List, [], ◌∷◌, Option, None, Some, Result, Ok, Err, if◌then◌else◌}
use Rattle.std.specs.Option.{option_map}
use Rattle.b2_base.specs.declared.codes.TheConstants.{A04_TOO_DEEP, P35_ARGUMENTS, P38_NO_DEFFN}
use Rattle.b2_dec.specs.declared.values.Value.{Value}
use Rattle.b2_atom.specs.Tokens.Token.{Plain}
use Rattle.b2_atom.specs.Tree.{Trees}
use Rattle.b2_atom.specs.Tree.Trees.{Put, In}
use Rattle.b2_rows.specs.Values.{small_of}
use Rattle.b2_flow.specs.Stacks.{has_room}
use Rattle.b2_flow.specs.declared.frame.Frame.TheVariants.{Call}
use Rattle.b2_flow.specs.declared.frame.Place.{Place}
use Rattle.b2_text.specs.Program.{Lines}
use Rattle.b2_text.specs.Spots.{first_opening, is_mark, or_else}
use Rattle.b2_text.specs.declared.spots.Spot.{Spot}
use Rattle.b2_access.specs.Lending.{SeenLent}
use Rattle.b2_receiver.specs.Assigning.{is_alpha_receiver}
use Rattle.b2_receiver.specs.Receivers.{any_receiver}
use Rattle.b2_expr.specs.Value.{context_of}
use Rattle.b2_expr.specs.Workspace.{WorkState, WorkLeft, refused, then_works, unchanged, work_in}
use Rattle.b2_receiver.specs.Receiving.{given_value}
use Rattle.b2_receiver.specs.declared.receiver.Receiver.{Receiver}
use Rattle.b2_access.specs.Partition.{setting_of}
use Rattle.b2_access.specs.declared.planned.Outcome.TheVariants as outcome
use Rattle.b2_access.specs.declared.private.Private.{Private}
use Rattle.b2_rows.specs.CommaLists.{all_listed}
use Rattle.b2_expr.specs.Kinds.{suits}
use Rattle.b2_access.specs.Planning.{Planning, done, goes_or}
use Rattle.b2_access.specs.Steering.{Steered, control_of, steered, unsteered}
use Rattle.b2_access.specs.Working.{work_of}

-- the number that is called
abbrev pub number_called : Trees → ℕ
number_called (Put word (Put (Plain k digits) more)) = small_of digits
number_called t = 0

-- where its DEFFN' stands: in the text at home, and else in the own text
abbrev pub place_in : ℕ → Spot → Place
place_in part spot = record { home = part; line = Some spot.line; unit = spot.unit }

abbrev pub mark_in : ℕ → ℕ → Lines → Option Place
mark_in part n lines = option_map (place_in part) (first_opening (is_mark n) lines)

abbrev pub mark_place : ℕ → Place → ℕ → Lines → Lines → Option Place
mark_place n p part own home = or_else (mark_in p.home n home) (mark_in part n own)

-- a call of it, which leads back to another place, passes values, and may have entered a text; A04 where there is no room for a frame
abbrev pub calls_into : Option ℕ → Place → List Value → Option Place → Private → Steered
calls_into entered q args back me =
    if has_room me.stack then record { work = record (control_of me) { work = record (work_of me) { args = Some args }; stack = Call back entered ∷ me.stack }; outcome = outcome.Jump q }
    else unsteered me (outcome.Failed A04_TOO_DEEP)

-- where it stands in neither text: P38 where no partition is selected; else its text is entered, and A04 where there is no room for a frame
abbrev pub code_of_none : Option (List ℕ) → ℕ
code_of_none None = P38_NO_DEFFN
code_of_none (Some name) = A04_TOO_DEEP

abbrev pub calls_mark : Option Place → List Value → Option Place → Private → Steered
calls_mark None args back me = unsteered me (outcome.Failed (code_of_none me.global))
calls_mark (Some q) args back me = calls_into None q args back me

-- the receivers of DEFFN'; none where it has no parentheses
abbrev pub receivers_in : Trees → List Trees
receivers_in (Put opening (In n receivers end)) = all_listed receivers
receivers_in t = []

abbrev pub tail_receivers : Trees → List Trees
tail_receivers (In n (In m tail end) more) = if m == 1 then [] else receivers_in tail
tail_receivers t = []

abbrev pub parameters_of : Trees → List Trees
parameters_of (Put word (Put number tail)) = tail_receivers tail
parameters_of t = []

-- whether there are as many values as receivers, each of its receiver's kind
abbrev pub takes_bytes : Trees → Bool
takes_bytes (In n receiver end) = n == 1
takes_bytes t = false

abbrev pub values_fit : List Trees → List Value → Bool
values_fit [] [] = true
values_fit (t ∷ ts) (x ∷ xs) = suits (takes_bytes t) x && values_fit ts xs
values_fit ts xs = false

-- a receiver takes a value; it is located among the variables as they then are
abbrev pub value_to : Result Receiver ℕ → Value → WorkState → WorkLeft
value_to (Ok to) x w = if suits (is_alpha_receiver to) x then given_value to x w else unchanged w
value_to (Err code) x w = refused code w

abbrev pub takes_value : Trees → Value → WorkState → WorkLeft
takes_value t x w = value_to (any_receiver (context_of w) t) x w

-- receivers from left to right, up to one with a code
abbrev pub take_each : (Trees → Value → WorkState → WorkLeft) → List Trees → List Value → WorkState → WorkLeft
take_each one [] xs w = unchanged w
take_each one (t ∷ ts) [] w = unchanged w
take_each one (t ∷ ts) (x ∷ xs) w = then_works (one t x w) (take_each one ts xs)

-- number and kinds are compared as a whole before any receiver takes its value
abbrev pub takes_values : List Trees → List Value → WorkState → WorkLeft
takes_values ts xs w = if values_fit ts xs then take_each takes_value ts xs w else refused P35_ARGUMENTS w

-- the values are used up, also where a receiver has a code
abbrev pub used_up : WorkLeft → Private → Steered
used_up r me = record { work = record (control_of me) { work = record (work_of me) { vars = r.work.own; args = None } }; outcome = goes_or outcome.Next r.code }

-- DEFFN': where no call waits for it, nothing
abbrev pub args_taken : Option (List Value) → Trees → WorkState → WorkLeft
args_taken None t w = unchanged w
args_taken (Some xs) t w = takes_values (parameters_of t) xs w

abbrev pub ends_taken : Option (List Value) → WorkLeft → Private → Steered
ends_taken None r me = unsteered me outcome.Next
ends_taken (Some xs) r me = used_up r me

abbrev pub ends_with_args : WorkLeft → Private → SeenLent → Planning
ends_with_args r me s = done (record s { globals = r.work.globals }) (steered me (ends_taken me.args r me))

abbrev pub takes_args : Trees → Private → SeenLent → WorkLeft
takes_args t me s = args_taken me.args t (work_in (setting_of me) s.home me.vars s.globals)
