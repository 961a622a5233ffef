-- INPUT and LINPUT: a prompt, and then a line.
use Rattle.std.specs.Prelude.{ℕ, Bool, true, List, [], ◌++◌, codes, Option, Some, None, Ok, if◌then◌else◌}
use Rattle.b2_atom.specs.Tokens.Token.{Plain}
use Rattle.b2_atom.specs.Tree.{Trees}
use Rattle.b2_atom.specs.Tree.Trees.{Done, Put, In}
use Rattle.b2_rows.specs.Values.{literal_of}
use Rattle.b2_text.specs.Program.{Lines}
use Rattle.b2_vars.specs.Tables.{VarsState}
use Rattle.b2_vars.specs.Assigned.{Changed}
use Rattle.b2_access.specs.declared.accesses.Access.{Access}
use Rattle.b2_access.specs.declared.accesses.Access.TheVariants as access
use Rattle.b2_access.specs.declared.accesses.Answer.{Answer}
use Rattle.b2_access.specs.declared.planned.Outcome.TheVariants as outcome
use Rattle.b2_access.specs.declared.private.Private.{Private}
use Rattle.b2_access.specs.KeyLiterals.{typed_by_mark}
use Rattle.b2_access.specs.Views.{LineCame, PromptShown, LineEntered, LineLeft, line_came}
use Rattle.b2_access.specs.Working.{Worked, leaves, with_variables, work_of}
use Rattle.b2_receiver.specs.Receiving.{assign_bytes_at}
use Rattle.b2_expr.specs.Workspace.{WorkState, WorkLeft}
use Rattle.b2_stmt_io.specs.Outlets.{shows_from}
use Rattle.b2_stmt_io.specs.declared.outlets.Outlet.TheVariants as outlet

-- the text of a prompt, no bytes where none is written
abbrev pub prompt_bytes : Trees → List ℕ
prompt_bytes (In n (Put (Plain k text) end) comma) = literal_of text
prompt_bytes t = []

abbrev pub prompt_there : Trees → List ℕ
prompt_there (In n prompt more) = prompt_bytes prompt
prompt_there t = []

abbrev pub prompt_of : Trees → List ℕ
prompt_of (Put word more) = prompt_there more
prompt_of t = []

-- what stands after the prompt
abbrev pub after_prompt : Trees → Trees
after_prompt (Put word (In n prompt more)) = more
after_prompt t = Done

-- the prompt is shown at the terminal, whatever PRINT shows at, with `? ` after it, and once it was shown a line is read
abbrev pub asks_line : Bool → ℕ → ℕ → List ℕ → Access
asks_line prompted column term prompt = if prompted then access.ReadLine term else shows_from (outlet.Terminal term column) (prompt ++ codes "? ")

-- the receiver of LINPUT, which takes all bytes of a line
abbrev pub receiver_of : Trees → Trees
receiver_of (In n receiver end) = receiver
receiver_of t = Done

abbrev pub takes_line : List ℕ → Trees → WorkState → WorkLeft
takes_line line t w = assign_bytes_at (Ok line) (receiver_of (after_prompt t)) w

-- the prompt was shown, and the terminal is at this column
abbrev pub prompted : ℕ → Private → Worked
prompted column me = record { work = record (work_of me) { term_column = column; prompted = true }; outcome = outcome.Repeat }

-- a special function key has its literal typed in the next step, where it has one
abbrev pub types : Option (List ℕ) → Private → Worked
types None me = leaves me outcome.Repeat
types (Some text) me = record { work = record (work_of me) { literal = Some text }; outcome = outcome.Repeat }

-- the line that was entered, None where none was
abbrev pub entered : LineCame → Option (List ℕ)
entered (LineEntered line) = Some line
entered c = None

-- how they finish where none was: the prompt was shown, or a special function key was pressed; else the step is repeated
abbrev pub unread : LineCame → Lines → Private → Worked
unread (PromptShown column) own me = prompted column me
unread (LineLeft n) own me = types (typed_by_mark n own) me
unread c own me = leaves me outcome.Repeat

-- and with a line, which is taken
abbrev pub line_answered_by : (List ℕ → VarsState → Changed) → LineCame → Lines → Private → Worked
line_answered_by takes (LineEntered line) own me = with_variables (takes line me.vars) outcome.Next (record (work_of me) { term_column = 0 })
line_answered_by takes c own me = unread c own me

abbrev pub line_answered : (List ℕ → VarsState → Changed) → Access → Answer → Lines → Private → Worked
line_answered takes x a own me = line_answered_by takes (line_came x a) own me
