-- A statement on variables changes the `@` variables only where it reaches a receiver among them.
use Rattle.std.proofs.Common.{◌==◌, ℕ, Bool, List, [], ◌∷◌, Option, Some, None, Result, Ok, Err, refl}
use Rattle.b2_dec.specs.declared.values.Value.{Value}
use Rattle.b2_atom.specs.Tree.{Trees}
use Rattle.b2_atom.specs.Tree.Trees.{Done, Put, In}
use Rattle.b2_rows.specs.CommaLists.{after_all_listed, all_listed}
use Rattle.b2_text.specs.Program.{Lines, line_at}
use Rattle.b2_text.specs.declared.spots.Spot.{Spot}
use Rattle.b2_vars.specs.Globals.{Globals, MayBecome}
use Rattle.b2_expr.specs.Answers.{Answer}
use Rattle.b2_expr.specs.Value.{context_of, value}
use Rattle.b2_expr.specs.Workspace.{ChangesWhereReached, Reaches, WorkLeft, WorkState}
use Rattle.b2_expr.specs.declared.operators.Level.TheVariants as level
use Rattle.b2_expr.proofs.Reached.{after_both, among_reaches, stay, then_reaches}
use Rattle.b2_receiver.specs.Assigning.{buffer_code, bytes_changed, is_global_buffer, with_changed}
use Rattle.b2_receiver.specs.Receivers.{any_receiver, buffer}
use Rattle.b2_receiver.specs.Receiving.{assign_number_at, assign_side_at}
use Rattle.b2_receiver.specs.RightSide.{Side, right_side}
use Rattle.b2_receiver.specs.declared.receiver.Buffer.{Buffer}
use Rattle.b2_receiver.specs.declared.receiver.Buffer.TheVariants as buffer_kind
use Rattle.b2_receiver.specs.declared.receiver.Receiver.{Receiver}
use Rattle.b2_receiver.proofs.Reached.{given_value_reaches, number_at_reaches, refused_or_reached, side_at_reaches}
use Rattle.b2_access.proofs.Choice.{either}
use Rattle.b2_access.proofs.Tables.{each_row}
use Rattle.b2_alpha.specs.Bits.{rotated}
use Rattle.b2_stmt_var.specs.Assignments.{assign_each, assign_numbers, assign_sides, assigns, numbers_by, side_of_assignment, sides_by, sum_of_assignment}
use Rattle.b2_stmt_var.specs.Buffers.{all_filled, buffers_of_init, byte_of_init, fills, fills_one, inits, turn_in, turns}
use Rattle.b2_stmt_var.specs.Data.{next_literal}
use Rattle.b2_stmt_var.specs.Dimensions.{dimensions, entries_of, entry_code, entry_in, is_com, makes, makes_found, makes_one, with_entry}
use Rattle.b2_stmt_var.specs.Left.{Left}
use Rattle.b2_stmt_var.specs.Plan.{Changes, changes, changing_rows, left_out}
use Rattle.b2_stmt_var.specs.Reading.{read_each, reads_one, reads_to, receivers_of, takes_literal, takes_value, unless_read_ended, value_for}
use Rattle.b2_stmt_var.specs.Restoring.{line_to_restore, restores, restores_where}
use Rattle.b2_stmt_var.specs.declared.buffers.Turn.{Turn}
use Rattle.b2_stmt_var.specs.declared.data.Literal.{Literal}
use Rattle.b2_stmt_var.specs.declared.dimensions.Entry.{Entry}

-- receivers one after another
pub each_reaches : (one : Trees → WorkState → WorkLeft) → ((t : Trees) → Reaches (one t)) → (ts : List Trees) → Reaches (assign_each one ts)
each_reaches one h [] = λ w. stay w.globals
each_reaches one h (t ∷ ts) = λ w. then_reaches w.globals (one t w) (assign_each one ts) (h t w) (each_reaches one h ts)

-- assignments
numbers_reach : (x : Answer) (ts : List Trees) → Reaches (numbers_by x ts)
numbers_reach (Ok x) ts = each_reaches (assign_number_at (Ok x)) (number_at_reaches (Ok x)) ts
numbers_reach (Err code) ts = λ w. stay w.globals

sides_reach : (side : Result Side ℕ) (ts : List Trees) → Reaches (sides_by side ts)
sides_reach (Ok side) ts = each_reaches (assign_side_at side) (side_at_reaches side) ts
sides_reach (Err code) ts = λ w. stay w.globals

assigns_reach : (t : Trees) → Reaches (assigns t)
assigns_reach (In n t end) = λ w.
    either (λ (r : WorkLeft). MayBecome w.globals r.work.globals) (n == 1) (assign_sides t w) (assign_numbers t w)
    (sides_reach (right_side (context_of w) (side_of_assignment (after_all_listed t))) (all_listed t) w)
    (numbers_reach (value (context_of w) level.Sum (sum_of_assignment (after_all_listed t))) (all_listed t) w)
assigns_reach Done = λ w. stay w.globals
assigns_reach (Put token more) = λ w. stay w.globals

-- DIM and COM
made_where_reached : (common : Bool) (e : Entry) → ChangesWhereReached (makes common e)
made_where_reached common e old missed = refused_or_reached (entry_code common e old) old (record { vars = with_entry common e old; code = None }) refl missed

made_reaches : (common : Bool) (e : Result Entry ℕ) → Reaches (makes_found common e)
made_reaches common (Ok e) = among_reaches e.global (makes common e) (made_where_reached common e)
made_reaches common (Err code) = λ w. stay w.globals

dimensions_reach : (t : Trees) → Reaches (dimensions t)
dimensions_reach t = each_reaches (makes_one (is_com t)) (λ entry w. made_reaches (is_com t) (entry_in (context_of w) entry) w) (entries_of t)

-- INIT and ROTATE
changed_where_reached : (f : List ℕ → List ℕ) (to : Buffer) → ChangesWhereReached (bytes_changed f to)
changed_where_reached f to old missed = refused_or_reached (buffer_code to old) old (record { vars = with_changed f to old; code = None }) refl missed

fills_reach : (b : ℕ) (to : Result Buffer ℕ) → Reaches (fills b to)
fills_reach b (Ok to) = among_reaches (is_global_buffer to) (bytes_changed (all_filled b) to) (changed_where_reached (all_filled b) to)
fills_reach b (Err code) = λ w. stay w.globals

inits_reach : (t : Trees) → Reaches (inits t)
inits_reach t = each_reaches (fills_one (byte_of_init t)) (λ to w. fills_reach (byte_of_init t) (buffer (context_of w) to) w) (buffers_of_init t)

turns_reach : (turn : Result Turn ℕ) → Reaches (turns turn)
turns_reach (Ok turn) = among_reaches turn.to.element.global (bytes_changed (rotated turn.whole turn.bits) (buffer_kind.Value turn.to)) (changed_where_reached (rotated turn.whole turn.bits) (buffer_kind.Value turn.to))
turns_reach (Err code) = λ w. stay w.globals

-- READ
abbrev ReachesLeft : (WorkState → Option (Spot × ℕ) → Left) → Type 0
ReachesLeft reads = (w : WorkState) (next : Option (Spot × ℕ)) → MayBecome w.globals (reads w next).work.globals

takes_value_reaches : (to : Receiver) (x : Result Value ℕ) (after : Spot × ℕ) → ReachesLeft (takes_value to x after)
takes_value_reaches to (Ok x) after = λ w next. given_value_reaches to x w
takes_value_reaches to (Err code) after = λ w next. stay w.globals

takes_literal_reaches : (to : Receiver) (l : Option Literal) → ReachesLeft (takes_literal to l)
takes_literal_reaches to None = λ w next. stay w.globals
takes_literal_reaches to (Some l) = takes_value_reaches to (value_for to l.value) l.after

reads_to_reaches : (to : Result Receiver ℕ) (own : Lines) → ReachesLeft (reads_to to own)
reads_to_reaches (Ok to) own = λ w next. takes_literal_reaches to (next_literal own next) w next
reads_to_reaches (Err code) own = λ w next. stay w.globals

unless_read_reaches : (code : Option ℕ) (g : Globals) (r : Left) (rest : WorkState → Option (Spot × ℕ) → Left) → MayBecome g r.work.globals → ReachesLeft rest → MayBecome g (unless_read_ended code r rest).work.globals
unless_read_reaches None g r rest before later = after_both g r.work.globals (rest r.work r.next).work.globals before (later r.work r.next)
unless_read_reaches (Some code) g r rest before later = before

read_each_reaches : (own : Lines) (ts : List Trees) → ReachesLeft (read_each (reads_one own) ts)
read_each_reaches own [] = λ w next. stay w.globals
read_each_reaches own (t ∷ ts) = λ w next.
    let r = reads_one own t w next in
    unless_read_reaches r.code w.globals r (read_each (reads_one own) ts) (reads_to_reaches (any_receiver (context_of w) t) own w next) (read_each_reaches own ts)

-- RESTORE leaves all variables
restores_where_stay : (line : Option (List ℕ)) (n : ℕ) → ReachesLeft (restores_where line n)
restores_where_stay None n = λ w next. stay w.globals
restores_where_stay (Some line) n = λ w next. stay w.globals

restores_stay : (n : Option ℕ) (own : Lines) → ReachesLeft (restores n own)
restores_stay None own = λ w next. stay w.globals
restores_stay (Some n) own = restores_where_stay (line_at n own) n

-- each statement, by its row
abbrev EachReaches : Changes → Type 0
EachReaches change = (own : Lines) (t : Trees) → ReachesLeft (change own t)

pub change_reaches : (r : ℕ) → EachReaches (changes r)
change_reaches r =
    each_row EachReaches changing_rows left_out r (
      (λ own t w next. assigns_reach t w),
      ((λ own t w next. dimensions_reach t w), ((λ own t w next. inits_reach t w), ((λ own t w next. turns_reach (turn_in (context_of w) t) w), ((λ own t w next. read_each_reaches own (receivers_of t) w next), ((λ own t w next. restores_stay (line_to_restore t) own w next), ((λ own t w next. stay w.globals), ((λ own t w next. stay w.globals), tt))))))),
    ) (λ own t w next. stay w.globals)
