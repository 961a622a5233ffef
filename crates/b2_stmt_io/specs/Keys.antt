-- KEYIN: one key, and where it leads.
use Rattle.std.specs.Prelude.{ℕ, ◌==◌, Option, None, Some, Bool, true, false, [], ◌∷◌, Ok, if◌then◌else◌}
use Rattle.b2_base.specs.declared.codes.TheConstants.{S20_VARIABLE}
use Rattle.b2_atom.specs.Tree.{Trees}
use Rattle.b2_atom.specs.Tree.Trees.{Done, Put, In}
use Rattle.b2_flow.specs.declared.frame.Place.{Place}
use Rattle.b2_text.specs.Program.{Lines}
use Rattle.b2_access.specs.declared.accesses.Access.{Access}
use Rattle.b2_access.specs.declared.accesses.Answer.{Answer}
use Rattle.b2_access.specs.declared.planned.Outcome.{Outcome}
use Rattle.b2_access.specs.declared.planned.Outcome.TheVariants as outcome
use Rattle.b2_access.specs.declared.private.Private.{Private}
use Rattle.b2_access.specs.Partition.{setting_of}
use Rattle.b2_rows.specs.LineNumbers.{line_in}
use Rattle.b2_access.specs.Jumps.{to_line}
use Rattle.b2_access.specs.Views.{KeyCame, ByteTyped, KeyPressed, NoKey, KeyLater, key_came}
use Rattle.b2_access.specs.Lending.{SeenLent}
use Rattle.b2_access.specs.Working.{Worked, leaves, with_variables, work_of}
use Rattle.b2_receiver.specs.Receiving.{assign_bytes_at}
use Rattle.b2_expr.specs.Workspace.{WorkLeft, WorkState, changed_by, refused, work_in}

-- the two lines that may be named
abbrev pub first_named : Trees → ℕ
first_named (Put comma line) = line_in line
first_named t = 0

abbrev pub other_named : Trees → ℕ
other_named (Put comma (Put line more)) = first_named more
other_named t = 0

-- where lines are named a byte leads to the first, and a special function key to the second
abbrev pub key_leads : Bool → Lines → Place → Trees → Outcome
key_leads special lines p (In n named end) = if n == 1 then to_line lines p (if special then other_named named else first_named named) else outcome.Next
key_leads special lines p t = outcome.Next

-- without a key it goes on where lines are named, and else it waits
abbrev pub waits : Trees → Outcome
waits (In n named end) = if n == 1 then outcome.Next else outcome.Repeat
waits t = outcome.Repeat

abbrev pub lines_of : Trees → Trees
lines_of (Put word (In n receiver lines)) = lines
lines_of t = Done

-- where it goes on, by the key that came
abbrev pub key_goes : KeyCame → Lines → Place → Trees → Outcome
key_goes (ByteTyped key) home p t = key_leads false home p (lines_of t)
key_goes (KeyPressed n) home p t = key_leads true home p (lines_of t)
key_goes NoKey home p t = waits (lines_of t)
key_goes KeyLater home p t = outcome.Repeat

-- the key, or the number of a special function key, is assigned as one byte
abbrev pub assigns_key : ℕ → Trees → WorkState → WorkLeft
assigns_key key (Put word (In n receiver lines)) w = assign_bytes_at (Ok (key ∷ [])) receiver w
assigns_key key t w = refused S20_VARIABLE w

abbrev pub key_byte : KeyCame → Option ℕ
key_byte (ByteTyped key) = Some key
key_byte (KeyPressed n) = Some n
key_byte k = None

-- how KEYIN finishes: the key is assigned, and then it goes on
abbrev pub with_key : Option ℕ → Outcome → Trees → Private → SeenLent → Worked
with_key None goes t me s = leaves me goes
with_key (Some key) goes t me s = with_variables (changed_by (assigns_key key t (work_in (setting_of me) s.home me.vars s.globals))) goes (work_of me)

abbrev pub key_taken_by : KeyCame → Place → Trees → Private → SeenLent → Worked
key_taken_by k p t me s = with_key (key_byte k) (key_goes k s.home.lines p t) t me s

abbrev pub key_taken : Access → Answer → Place → Trees → Private → SeenLent → Worked
key_taken x a p t me s = key_taken_by (key_came x a) p t me s
