-- FOR and NEXT.
use Rattle.std.specs.Prelude.{ℕ, ◌==◌, Bool, false, not, List, [], Option, Some, None, Result, Ok, Err, if◌then◌else◌}
use Rattle.b2_base.specs.declared.codes.TheConstants.{P40_NO_FOR, S20_VARIABLE}
use Rattle.b2_dec.specs.Number.{Number}
use Rattle.b2_dec.specs.Arithmetic.{sum_of}
use Rattle.b2_dec.specs.declared.number.Mode.{Mode}
use Rattle.b2_atom.specs.Tokens.Token.{Plain}
use Rattle.b2_atom.specs.Tree.{Trees}
use Rattle.b2_atom.specs.Tree.Trees.{Put, In}
use Rattle.b2_rows.specs.Values.{variable_name}
use Rattle.b2_rows.specs.declared.leaves.Name.{Name}
use Rattle.b2_vars.specs.declared.name.Var.{Var}
use Rattle.b2_flow.specs.Stacks.{from_loop, has_loop, top_loop, without_top_loop}
use Rattle.b2_flow.specs.declared.frame.Frame.{Frame}
use Rattle.b2_flow.specs.declared.frame.Frame.TheVariants.{For}
use Rattle.b2_flow.specs.declared.frame.Place.{Place}
use Rattle.b2_flow.specs.declared.frame.Var2.{Var2}
use Rattle.b2_expr.specs.Answers.{Answer, ◌>>=◌}
use Rattle.b2_vars.specs.Assigned.{Assigned}
use Rattle.b2_receiver.specs.Assigning.{assigned_number}
use Rattle.b2_expr.specs.Functions.{is_below, whole_number}
use Rattle.b2_expr.specs.Named.{number_there}
use Rattle.b2_expr.specs.Scope.{Context}
use Rattle.b2_expr.specs.Value.{value}
use Rattle.b2_expr.specs.declared.named.Element.{Element}
use Rattle.b2_expr.specs.declared.operators.Level.TheVariants as level
use Rattle.b2_access.specs.declared.planned.Outcome.TheVariants as outcome
use Rattle.b2_access.specs.declared.private.Private.{Private}
use Rattle.b2_stmt.specs.Frames.{with_frame}
use Rattle.b2_access.specs.Steering.{Steered, control_of, unsteered}
use Rattle.b2_stmt.specs.declared.loops.Loop.{Loop}

-- the scalar of a name, as a loop counts it, and its place among the variables
abbrev pub counter : Name → Var2
counter name = record { letter = name.letter; digit = name.digit }

abbrev pub scalar_of : Var2 → Var
scalar_of v = record { letter = v.letter; digit = v.digit; alpha = false; array = false }

abbrev pub loop_element : Var2 → Element
loop_element v = record { global = false; var = scalar_of v; row = 0; column = 0 }

-- the step that is written, or 1
abbrev pub step_in : Context → ℕ → Trees → Answer
step_in s n (Put step (In m sum end)) = if n == 1 then value s level.Sum sum else whole_number 1
step_in s n t = whole_number 1

-- FOR x = from TO limit STEP step: the values from left to right
abbrev pub loop_in : Context → Trees → Result Loop ℕ
loop_in s (Put word (Put (Plain k name) (Put equals (In a from (Put to (In b limit (In n step end))))))) =
    value s level.Sum from >>= (λ x. value s level.Sum limit >>= (λ y. step_in s n step >>= (λ z. Ok (record { var = counter (variable_name false name); from = x; limit = y; step = z }))))
loop_in s t = Err S20_VARIABLE

-- without an old loop of the variable and the loops above it
abbrev pub without_loop : Var2 → List Frame → List Frame
without_loop v frames = if has_loop v frames then without_top_loop (from_loop v frames) else frames

-- the variable has its first value, and then the loop is made
abbrev pub made_loop : Option ℕ → Loop → Place → Private → Steered
made_loop (Some code) l body me = unsteered me (outcome.Failed code)
made_loop None l body me = with_frame (For l.var l.limit l.step body) outcome.Next (record me { stack = without_loop l.var me.stack })

abbrev pub begins_by : Assigned → Loop → Place → Private → Steered
begins_by a l body me = made_loop a.code l body (record me { vars = a.vars })

abbrev pub loop_begins : Loop → Place → Private → Steered
loop_begins l body me = begins_by (assigned_number (loop_element l.var) l.from me.vars) l body me

abbrev pub begins_or : Result Loop ℕ → Place → Private → Steered
begins_or (Ok l) body me = loop_begins l body me
begins_or (Err code) body me = unsteered me (outcome.Failed code)

-- whether a loop is over: its variable is past the limit in the direction of its step
abbrev pub is_over : Number → Number → Number → Bool
is_over x limit step = if step.neg then not (is_below limit x) else not (is_below x limit)

-- the variable has its next value, and then it is tested
abbrev pub tested : Option ℕ → Bool → Place → Private → Steered
tested (Some code) over body me = unsteered me (outcome.Failed code)
tested None over body me = if over then record { work = record (control_of me) { stack = without_top_loop me.stack }; outcome = outcome.Next } else unsteered me (outcome.Jump body)

abbrev pub tested_by : Assigned → Bool → Place → Private → Steered
tested_by a over body me = tested a.code over body (record me { vars = a.vars })

abbrev pub loop_counts : Answer → Var2 → Number → Number → Place → Private → Steered
loop_counts (Ok x) v limit step body me = tested_by (assigned_number (loop_element v) x me.vars) (is_over x limit step) body me
loop_counts (Err code) v limit step body me = unsteered me (outcome.Failed code)

-- the value that the variable has, and the step
abbrev pub next_value : Mode → Answer → Number → Answer
next_value mode x step = x >>= (λ n. sum_of mode n step)

abbrev pub goes_round : Option (Number × Number × Place) → Var2 → Private → Steered
goes_round None v me = unsteered me (outcome.Failed P40_NO_FOR)
goes_round (Some p) v me = loop_counts (next_value me.mode (number_there (record { vars = me.vars; element = loop_element v })) p.1) v p.0 p.1 p.2 me

-- NEXT: the loops above the one of its variable are dropped before anything else
abbrev pub nexts : Var2 → Private → Steered
nexts v me = if has_loop v me.stack then goes_round (top_loop (from_loop v me.stack)) v (record me { stack = from_loop v me.stack }) else unsteered me (outcome.Failed P40_NO_FOR)

abbrev pub counter_in : Trees → Var2
counter_in (Put word (Put (Plain k name) end)) = counter (variable_name false name)
counter_in t = counter (variable_name false [])
