-- Lines that are typed: what is read, and numbered ones that go into the text.
use Rattle.std.specs.Prelude.{ℕ, ◌==◌, min, List, [], ◌∷◌, Option, Some, None, Result, Ok, Err, unwrap_or, if◌then◌else◌}
use Rattle.std.specs.Str.{bytes_eq}
use Rattle.b2_base.specs.Byte as byte
use Rattle.b2_base.specs.declared.codes.TheConstants.{A08_TEXT_BORROWED}
use Rattle.b2_syntax.specs.Reading.{reads}
use Rattle.b2_syntax.specs.declared.Entered.{Entered}
use Rattle.b2_syntax.specs.declared.Entered.TheVariants as entered
use Rattle.b2_syntax.specs.declared.LineErr.{LineErr}
use Rattle.b2_syntax.specs.declared.LineErr.TheVariants as refusal
use Rattle.b2_access.specs.Borrowers.{homes_entered}
use Rattle.b2_access.specs.declared.accesses.Access.{Access}
use Rattle.b2_access.specs.declared.accesses.Access.TheVariants as access
use Rattle.b2_access.specs.declared.accesses.Answer.{Answer}
use Rattle.b2_access.specs.declared.accesses.Answer.TheVariants as answer
use Rattle.b2_access.specs.declared.private.Private.{Private}
use Rattle.b2_access.specs.Partition.{terminal_address, without_frames}
use Rattle.b2_machine.specs.Endings.{Ending, again, carries_on}
use Rattle.b2_machine.specs.Messages.{column_text, prints_text, shows_text}
use Rattle.b2_machine.specs.Readiness.{prompts, refuses}

-- pending output goes on a line of its own at the terminal, and as it is to a printer
abbrev pub on_own_line : ℕ → List ℕ → List ℕ
on_own_line column text = if column == 0 then text else byte.newline ∷ text

abbrev pub shows_pending : List ℕ → List ℕ → Private → Access
shows_pending device text me =
    if bytes_eq device terminal_address then shows_text (on_own_line me.term_column text) me
    else prints_text device text me

-- the output that is pending; where none is, nothing is asked for
abbrev pub output_pending : Private → List ℕ × List ℕ
output_pending me = unwrap_or me.pending (terminal_address, [])

abbrev pub shows_output : Private → Access
shows_output me = shows_pending (output_pending me).0 (output_pending me).1 me

-- it was shown at its device; with any other answer it waits on
abbrev pub shown_by : Access → Answer → Private → Ending
shown_by (access.Show term shown column) answer.Done me = carries_on (record me { term_column = column; pending = None })
shown_by (access.PrintTo addr printed column) answer.Done me = carries_on (record me { print_column = column; pending = None })
shown_by x a me = again a me

-- the literal of a special function key is typed at the terminal
abbrev pub inserts_literal : Private → Access
inserts_literal me = access.Insert me.term (unwrap_or me.literal [])

-- it was typed; with any other answer it waits on
abbrev pub typed_by_key : Answer → Private → Ending
typed_by_key answer.Done me = carries_on (record me { literal = None })
typed_by_key a me = again a me

-- the immediate line runs from its first unit on
abbrev pub runs_line : List ℕ → Private → Private
runs_line atoms me = record me { immediate = Some atoms; place = Some (record { home = me.part; line = None; unit = 0 }) }

-- what a typed line says is taken; a number alone takes out the line of that number
abbrev pub takes : Entered → Private → Private
takes entered.Empty me = prompts [] me
takes (entered.Delete n) me = record me { numbered = Some (n, None) }
takes (entered.Numbered n atoms) me = record me { numbered = Some (n, Some atoms) }
takes (entered.Immediate atoms) me = runs_line atoms me

-- or it isn't taken
abbrev pub takes_or_refuses : Result Entered LineErr → Private → Private
takes_or_refuses (Ok e) me = takes e me
takes_or_refuses (Err (refusal.At code column)) me = refuses code (column_text code column) me
takes_or_refuses (Err refusal.NoMemory) me = me

-- a line that was read sets the column of the terminal to 0
abbrev pub line_taken : List ℕ → Private → Private
line_taken bytes me = takes_or_refuses (reads bytes) (record me { term_column = 0 })

-- A numbered line goes into the own text; lines have numbers up to 9999. The frames go with it, and the texts that their calls entered
-- are given back.
abbrev pub puts_line : ℕ × Option (List ℕ) → ℕ → Access
puts_line line homes = access.PutLine (min line.0 9999) line.1 homes

abbrev pub puts_numbered : Private → Access
puts_numbered me = puts_line (unwrap_or me.numbered (0, None)) (homes_entered me.stack)

-- the line isn't waiting to be put any more
abbrev pub without_numbered : Private → Private
without_numbered me = record me { numbered = None }

-- It was put, and as after any edit there are no frames and nothing is kept; or it is refused, since another partition stands
-- in the text or there is no room for it. With any other answer it waits on.
abbrev pub put_by : Answer → Private → Ending
put_by answer.Done me = carries_on (prompts [] (without_frames (without_numbered me)))
put_by (answer.Locked q) me = carries_on (refuses A08_TEXT_BORROWED [] (without_numbered me))
put_by (answer.Refused code) me = carries_on (refuses code [] (without_numbered me))
put_by a me = again a me
