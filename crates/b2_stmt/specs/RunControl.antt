-- STOP, RUN, CONTINUE and SELECT.
use Rattle.std.specs.Prelude.{ℕ, ◌==◌, List, [], ◌∷◌, ◌++◌, codes, Option, None, Some, is_some, if◌then◌else◌}
use Rattle.b2_base.specs.Byte as byte
use Rattle.b2_base.specs.declared.codes.TheConstants.{P36_NO_LINE, P46_NOTHING_KEPT}
use Rattle.b2_dec.specs.declared.number.Mode.{Mode}
use Rattle.b2_atom.specs.Tokens.Token.{Plain}
use Rattle.b2_atom.specs.Tree.{Trees}
use Rattle.b2_atom.specs.Tree.Trees.{Put, In}
use Rattle.b2_rows.specs.Values.{literal_of}
use Rattle.b2_flow.specs.declared.frame.Place.{Place}
use Rattle.b2_text.specs.Program.{Lines, line_at, number_after}
use Rattle.b2_vars.specs.Calls.{common_only}
use Rattle.b2_access.specs.declared.planned.Outcome.TheVariants as outcome
use Rattle.b2_access.specs.declared.private.Private.{Private}
use Rattle.b2_rows.specs.LineNumbers.{line_in}
use Rattle.b2_access.specs.Steering.{Control, Steered, control_of, unsteered}
use Rattle.b2_access.specs.Working.{work_of}

-- a line that is named, or none
abbrev pub line_or_none : Trees → Option ℕ
line_or_none (In n line end) = if n == 1 then Some (line_in line) else None
line_or_none t = None

-- SELECT ROUND and SELECT NO ROUND
abbrev pub selects : Mode → Private → Steered
selects mode me = record { work = record (control_of me) { work = record (work_of me) { mode = mode } }; outcome = outcome.Next }

-- STOP is shown, and a blank and a text where one is written
abbrev pub stop_text : Option (List ℕ) → List ℕ
stop_text None = codes "STOP" ++ byte.newline ∷ []
stop_text (Some text) = codes "STOP" ++ byte.blank ∷ (text ++ byte.newline ∷ [])

abbrev pub text_of_stop : Trees → Option (List ℕ)
text_of_stop (Put word (In n (Put (Plain k text) end) more)) = Some (literal_of text)
text_of_stop t = None

-- in a program the place after it is kept; in an immediate line what was kept stays
abbrev pub kept_after : Place → Option Place → Option Place → Option Place
kept_after p after kept = if is_some p.line then after else kept

abbrev pub stops_program : List ℕ → Place → Option Place → Private → Steered
stops_program shown p after me = record {
  work = record (control_of me) { work = record (work_of me) { shows = Some shown }; kept = kept_after p after me.kept };
  outcome = outcome.Ready;
}

-- the program begins anew: the variables that aren't common, the frames, the last code, the place of READ and what was kept go
abbrev pub begun_anew : Private → Control
begun_anew me = record (control_of me) {
  work = record (work_of me) { vars = record me.vars { table = common_only me.vars.table }; last = 0; next_data = None; args = None };
  kept = None;
  stack = [];
}

abbrev pub own_line : ℕ → Private → Place
own_line n me = record { home = me.part; line = Some n; unit = 0 }

abbrev pub runs_from : Option ℕ → Private → Steered
runs_from None me = record { work = begun_anew me; outcome = outcome.Ready }
runs_from (Some n) me = record { work = begun_anew me; outcome = outcome.Jump (own_line n me) }

-- RUN with a line: P36 comes before anything else
abbrev pub runs_where : Option (List ℕ) → ℕ → Private → Steered
runs_where None n me = unsteered me (outcome.Failed P36_NO_LINE)
runs_where (Some line) n me = runs_from (Some n) me

abbrev pub runs : Option ℕ → Lines → Private → Steered
runs None own me = runs_from (number_after None own) me
runs (Some n) own me = runs_where (line_at n own) n me

abbrev pub line_to_run : Trees → Option ℕ
line_to_run (Put word line) = line_or_none line
line_to_run t = None

-- CONTINUE
abbrev pub continues : Option Place → Private → Steered
continues None me = unsteered me (outcome.Failed P46_NOTHING_KEPT)
continues (Some p) me = unsteered me (outcome.Jump p)
