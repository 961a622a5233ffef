-- How statements finish that change no variables: LINPUT and INPUT where no line was entered, whatever they would do with one, and PRINT
-- and PRINTUSING.
use Rattle.std.proofs.Common.{◌≡◌, List, ℕ, Option, Some, None, refl}
use Rattle.b2_text.specs.Program.{Lines}
use Rattle.b2_vars.specs.Assigned.{Changed}
use Rattle.b2_vars.specs.Tables.{VarsState}
use Rattle.b2_access.specs.Lending.{SeenLent}
use Rattle.b2_access.specs.KeyLiterals.{typed_by_mark}
use Rattle.b2_access.specs.Planning.{finished}
use Rattle.b2_access.specs.Showing.{shown_or_printed, shown_or_printed_where}
use Rattle.b2_access.specs.Views.{LineCame, PromptShown, LineEntered, LineLeft, LineLater, column_printed, column_shown}
use Rattle.b2_access.specs.Working.{Worked, ended, lent_after}
use Rattle.b2_access.specs.declared.accesses.Access.{Access}
use Rattle.b2_access.specs.declared.accesses.Answer.{Answer}
use Rattle.b2_access.specs.declared.private.Private.{Private}
use Rattle.b2_stmt_io.specs.LineReading.{entered, line_answered_by, types, unread}

-- it tells nothing of the `@` variables
abbrev TellsNothing : Worked → Type 0
TellsNothing w = w.work.globals ≡ None

some_none : (line : List ℕ) → Some line ≡ None → ⊥
some_none line is = cc

types_nothing : (o : Option (List ℕ)) (me : Private) (s : SeenLent) → finished (lent_after (types o me).work s) (ended me (types o me)) ≡ finished s (ended me (types o me))
types_nothing None me s = refl
types_nothing (Some text) me s = refl

pub unread_is : (takes : List ℕ → VarsState → Changed) (c : LineCame) (own : Lines) (me : Private) (s : SeenLent) → entered c ≡ None
    → finished (lent_after (line_answered_by takes c own me).work s) (ended me (line_answered_by takes c own me)) ≡ finished s (ended me (unread c own me))
unread_is takes (PromptShown column) own me s is = refl
unread_is takes (LineEntered line) own me s is = absurd (some_none line is)
unread_is takes (LineLeft n) own me s is = types_nothing (typed_by_mark n own) me s
unread_is takes LineLater own me s is = refl

shown_by : (shown printed : Option ℕ) (me : Private) → TellsNothing (shown_or_printed_where shown printed me)
shown_by (Some column) printed me = refl
shown_by None (Some column) me = refl
shown_by None None me = refl

pub shown_tells_nothing : (x : Access) (a : Answer) (me : Private) → (shown_or_printed x a me).work.globals ≡ None
shown_tells_nothing x a me = shown_by (column_shown x a) (column_printed x a) me

finished_by : (shown printed : Option ℕ) (me : Private) (s : SeenLent)
    → finished (lent_after (shown_or_printed_where shown printed me).work s) (ended me (shown_or_printed_where shown printed me)) ≡ finished s (ended me (shown_or_printed_where shown printed me))
finished_by (Some column) printed me s = refl
finished_by None (Some column) me s = refl
finished_by None None me s = refl

pub shown_is : (x : Access) (a : Answer) (me : Private) (s : SeenLent)
    → finished (lent_after (shown_or_printed x a me).work s) (ended me (shown_or_printed x a me)) ≡ finished s (ended me (shown_or_printed x a me))
shown_is x a me s = finished_by (column_shown x a) (column_printed x a) me s
