-- A step of a partition of any language over a shared store: the first of six rules that applies. It makes at most one access.
use Rattle.std.specs.Prelude.{ℕ, [], None, unwrap_or}
use Rattle.b2_flow.specs.declared.frame.Place.{Place}
use Rattle.b2_text.specs.Program.{TextState}
use Rattle.b2_vars.specs.Globals.{unreached}
use Rattle.b2_access.specs.Lending.{SeenLent}
use Rattle.b2_access.specs.Loans.{Loan, globals_at}
use Rattle.b2_access.specs.Sharing.{Gives, ServingOf}
use Rattle.b2_access.specs.Store.{StoreState, content}
use Rattle.b2_access.specs.declared.accesses.Access.{Access}
use Rattle.b2_access.specs.declared.accesses.Access.TheVariants as access
use Rattle.b2_access.specs.declared.accesses.Answer.{Answer}
use Rattle.b2_access.specs.declared.accesses.Answer.TheVariants as answer
use Rattle.b2_access.specs.declared.lending.At.{At}
use Rattle.b2_access.specs.declared.lending.At.TheVariants as at
use Rattle.b2_access.specs.declared.objects.Object.TheVariants as object
use Rattle.b2_access.specs.declared.private.Private.{Private}
use Rattle.b2_language.specs.Languages.{Ways}
use Rattle.b2_language.specs.Wanted.{wanted_at}
use Rattle.b2_machine.specs.Due.{due}
use Rattle.b2_machine.specs.Endings.{Ending, again, carries_on}
use Rattle.b2_machine.specs.Keys.{pressed}
use Rattle.b2_machine.specs.Readiness.{gives_back, halted, resets, without_halt}
use Rattle.b2_machine.specs.Statements.{Begun, begins, finish_by, finishes, leaves}
use Rattle.b2_machine.specs.declared.moving.Onward.{Onward}
use Rattle.b2_machine.specs.declared.statements.Builder.{Builder}
use Rattle.b2_machine.specs.declared.statements.Progress.{Progress}
use Rattle.b2_machine.specs.declared.statements.Progress.TheVariants as progress
use Rattle.b2_machine.specs.Typing.{inserts_literal, line_taken, put_by, puts_numbered, shown_by, shows_output, typed_by_key}
use Rattle.b2_machine.specs.declared.ends.Stepped.{Stepped}
use Rattle.b2_machine.specs.declared.rules.Rule.{Rule}
use Rattle.b2_machine.specs.declared.rules.Rule.TheVariants as rule

-- a step, the private state after it, and what the store then means
pub record StepEnd (M : Type 0) : Type 0 where
  pub me : Private
  pub after : M
  pub end : Stepped

-- the text of a partition; every one that runs has one
abbrev pub no_text : TextState
no_text = record { area = 0; lines = [] }

abbrev pub text_in : StoreState → ℕ → TextState
text_in s p = unwrap_or (content s (object.Text p)) no_text

-- what its statements see: the own text, that of the home, and the `@` variables that are lent, of which none was reached yet
abbrev pub seen_by : ℕ → ℕ → At → StoreState → SeenLent
seen_by who home whose s = record { own = text_in s who; home = text_in s home; globals = unreached (globals_at home whose s) }

-- whose `@` variables are lent to the statement at a place
abbrev pub whose_by : Place → Private → StoreState → At
whose_by p me s = wanted_at p me (text_in s p.home).lines

abbrev pub seen_at : Place → Private → StoreState → SeenLent
seen_at p me s = seen_by me.part p.home (whose_by p me s) s

module _ {M : Type 0} (store : M → StoreState) (serving : ServingOf M) (lending : Loan M) where
  -- texts are lent, and no `@` variables
  abbrev pub texts_lent : ℕ → ℕ → M → M
  texts_lent who home m = lending who home at.None m (unreached None)

  -- To a statement texts are lent first, by which its unit is found. Where that wants `@` variables, these are lent then.
  abbrev pub lent_to_begin : Loan M
  lent_to_begin who home at.None m left = texts_lent who home m
  lent_to_begin who home whose m left = lending who home whose (texts_lent who home m) left

  -- nothing is asked of the store
  abbrev pub by_itself : Ending → M → StepEnd M
  by_itself e m = record { me = e.me; after = m; end = e.end }

  -- an access is made, and the step ends by its answer
  abbrev pub served : Gives M → (Answer → Ending) → StepEnd M
  served g finishes = by_itself (finishes g.answer) g.after

  abbrev pub asks_for : Access → (Answer → Ending) → Private → M → StepEnd M
  asks_for a finishes me m = served (serving m me.part a) finishes

  -- the first rule: a reset, before which all texts are given back that calls entered
  abbrev pub resets_by : Private → M → StepEnd M
  resets_by me m = asks_for (gives_back me) (λ _. resets me) me m

  -- the third: output that is pending is shown at its device
  abbrev pub shows : Private → M → StepEnd M
  shows me m = asks_for (shows_output me) (λ a. shown_by (shows_output me) a me) me m

  -- the fourth: a literal is typed
  abbrev pub types_literal : Private → M → StepEnd M
  types_literal me m = asks_for (inserts_literal me) (λ a. typed_by_key a me) me m

  -- or a line is read, and where it is a special function key that ends the reading, the own text says what that does
  abbrev pub line_read : Answer → Private → M → StepEnd M
  line_read (answer.Line bytes) me m = by_itself (carries_on (line_taken bytes me)) m
  line_read (answer.Special n) me m = by_itself (carries_on (pressed n (text_in (store m) me.part).lines me)) (texts_lent me.part me.part m)
  line_read a me m = by_itself (again a me) m

  abbrev pub read_by : Gives M → Private → StepEnd M
  read_by g me = line_read g.answer me g.after

  abbrev pub reads_line : Private → M → StepEnd M
  reads_line me m = read_by (serving m me.part (access.ReadLine me.term)) me

  -- the fifth: a numbered line that was read is put into the own text
  abbrev pub enters_line : Private → M → StepEnd M
  enters_line me m = asks_for (puts_numbered me) (λ a. put_by a me) me m

module _ (ways : Ways) {M : Type 0} (store : M → StoreState) (serving : ServingOf M) (lending : Loan M) where
  -- the sixth: the statement at its place is executed. It ends at once over what is lent, or over what is lent again after
  -- the access that it planned, for the same home and by the same name; what it leaves of the `@` variables is put back.
  abbrev pub finishes_by : ℕ → Builder → Access → Onward → Place → At → Private → Gives M → StepEnd M
  finishes_by who b a w p whose me g =
      let s = seen_by who p.home whose (store g.after) in
      by_itself store serving lending (finishes ways b a g.answer w p me s) (lending who p.home whose g.after (finish_by ways b a g.answer me s).globals)

  abbrev pub asks_and_finishes : ℕ → Builder → Access → Onward → Place → At → Private → M → StepEnd M
  asks_and_finishes who b a w p whose me m = finishes_by who b a w p whose me (serving m who a)

  abbrev pub carries_out : ℕ → Progress → Place → At → Private → M → StepEnd M
  carries_out who (progress.Ended e) p whose me m = record { me = me; after = m; end = e }
  carries_out who (progress.Asks a b w) p whose me m = asks_and_finishes who b a w p whose me m

  abbrev pub goes_through : ℕ → Begun → Place → At → M → StepEnd M
  goes_through who b p whose m = carries_out who b.progress p whose b.me m

  abbrev pub executes_by : At → Place → Private → M → StepEnd M
  executes_by whose p me m =
      let s = seen_by me.part p.home whose (store m) in
      goes_through me.part (begins ways p me s) p whose (lent_to_begin store serving lending me.part p.home whose m (leaves ways p me s))

  -- over the `@` variables that are wanted
  abbrev pub executes_over : At → Place → Private → M → StepEnd M
  executes_over whose p me m =
      let s = seen_by me.part p.home whose (store m) in
      goes_through me.part (begins ways p me s) p whose (lending me.part p.home whose m (leaves ways p me s))

  abbrev pub executes : Place → Private → M → StepEnd M
  executes p me m = executes_by (whose_by p me (store m)) p me m

  -- what each rule does; the second halts a partition that runs
  abbrev pub steps_by : Rule → Private → M → StepEnd M
  steps_by rule.Reset me m = resets_by store serving lending me m
  steps_by rule.Halt me m = by_itself store serving lending (halted me) m
  steps_by rule.Show me m = shows store serving lending me m
  steps_by rule.Insert me m = types_literal store serving lending me m
  steps_by rule.Read me m = reads_line store serving lending me m
  steps_by rule.Put me m = enters_line store serving lending me m
  steps_by (rule.Execute p) me m = executes p me m

  -- A STEP, by the first rule that applies. A halt that was asked for is then no more, also where it found the partition ready.
  abbrev pub step : Private → M → StepEnd M
  step me m = steps_by (due me) (without_halt me) m
