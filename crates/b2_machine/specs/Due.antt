-- Which of the six rules of a step applies: the first that does. By the fourth a literal is typed or a line is read.
use Rattle.std.specs.Prelude.{◌≡◌, ◌&&◌, not, Option, Some, None, is_some, IsSome, if◌then◌else◌}
use Rattle.b2_flow.specs.declared.frame.Place.{Place}
use Rattle.b2_access.specs.Partition.{is_ready}
use Rattle.b2_access.specs.declared.private.Private.{Private}
use Rattle.b2_machine.specs.declared.rules.Rule.{Rule}
use Rattle.b2_machine.specs.declared.rules.Rule.TheVariants as rule

-- where nothing comes before it, the statement at the place is executed; where there is no place, a line is read
abbrev pub due_at : Option Place → Rule
due_at None = rule.Read
due_at (Some p) = rule.Execute p

-- THE RULE THAT APPLIES. A halt is one where the partition runs.
abbrev pub due : Private → Rule
due me =
    if me.reset then rule.Reset
    else (if me.halt && not (is_ready me) then rule.Halt
    else (if is_some me.pending then rule.Show
    else (if is_some me.literal then rule.Insert
    else (if is_some me.numbered then rule.Put
    else due_at me.place))))

-- what a rule goes by is there
abbrev pub HasDue : Rule → Private → Type 0
HasDue rule.Show me = IsSome me.pending
HasDue rule.Insert me = IsSome me.literal
HasDue rule.Put me = IsSome me.numbered
HasDue (rule.Execute p) me = me.place ≡ Some p
HasDue r me = Unit {0}
