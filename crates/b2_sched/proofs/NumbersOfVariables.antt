-- Statements on variables leave numbers.
use Rattle.std.proofs.Common.{ℕ, ◌==◌, Bool, true, false, if◌then◌else◌, List, [], ◌∷◌, Option, Some, None, IfSome, option_map, option_and_then, slice_get, Result, Ok, Err, IfOk}
use Rattle.b2_base.specs.declared.codes.TheConstants.{X74_OTHER_KIND}
use Rattle.b2_dec.specs.declared.values.Value.{Value}
use Rattle.b2_dec.specs.declared.values.Value.TheVariants as value_kind
use Rattle.b2_atom.specs.Tokens.Token.{Plain}
use Rattle.b2_atom.specs.Tree.{Trees}
use Rattle.b2_atom.specs.Tree.Trees.{Done, Put, In}
use Rattle.b2_atom.specs.Words.{Text}
use Rattle.b2_atom.specs.declared.rows.TheConstants as row
use Rattle.b2_rows.specs.CommaLists.{after_all_listed, all_listed}
use Rattle.b2_rows.specs.Values.{literal_of}
use Rattle.b2_text.specs.Program.{Lines}
use Rattle.b2_text.specs.Spots.{data_from, or_else}
use Rattle.b2_alpha.specs.Bits.{rotated}
use Rattle.b2_text.specs.declared.spots.Spot.{Spot}
use Rattle.b2_vars.specs.Tables.{VarsState}
use Rattle.b2_access.specs.Lending.{SeenLent}
use Rattle.b2_access.specs.Partition.{setting_of}
use Rattle.b2_access.specs.Working.{stops}
use Rattle.b2_access.specs.declared.accesses.Access.{Access}
use Rattle.b2_access.specs.declared.accesses.Answer.{Answer as AccessAnswer}
use Rattle.b2_access.specs.declared.private.Private.{Private}
use Rattle.b2_access.proofs.Choice.{either}
use Rattle.b2_access.proofs.Dispatch.{each_dispatch}
use Rattle.b2_expr.specs.Answers.{Answer, ◌>>=◌}
use Rattle.b2_expr.specs.Value.{context_of, literal_value, value}
use Rattle.b2_expr.specs.Workspace.{WorkLeft, WorkState, work_in}
use Rattle.b2_expr.specs.declared.operators.Level.TheVariants as level
use Rattle.b2_receiver.specs.Assigning.{bytes_changed, is_global_buffer}
use Rattle.b2_receiver.specs.Receivers.{any_receiver, buffer}
use Rattle.b2_receiver.specs.Receiving.{assign_number_at, assign_side_at}
use Rattle.b2_receiver.specs.RightSide.{Side, right_side}
use Rattle.b2_receiver.specs.declared.receiver.Buffer.{Buffer}
use Rattle.b2_receiver.specs.declared.receiver.Buffer.TheVariants as buffer_kind
use Rattle.b2_receiver.specs.declared.receiver.Receiver.{Receiver}
use Rattle.b2_stmt_var.specs.Assignments.{assign_each, assign_numbers, assign_sides, assigns, numbers_by, side_of_assignment, sides_by, sum_of_assignment}
use Rattle.b2_stmt_var.specs.Buffers.{all_filled, buffers_of_init, byte_of_init, fills, fills_one, inits, turn_in, turns}
use Rattle.b2_stmt_var.specs.Data.{datum_value, first_literal, literal_at, literals_at, next_literal, read_at, spelled_value, unit_after}
use Rattle.b2_stmt_var.specs.Dimensions.{dimensions, entries_of, entry_in, is_com, makes, makes_found, makes_one, entry_code, with_entry}
use Rattle.b2_stmt_var.specs.Left.{Left}
use Rattle.b2_stmt_var.specs.Plan.{Changes, changes, does, ends, finish, is_refused, left_out, plan, works}
use Rattle.b2_stmt_var.specs.Reading.{is_for, read_each, reads_one, reads_to, receivers_of, takes_literal, takes_value, unless_read_ended, value_for}
use Rattle.b2_stmt_var.specs.Restoring.{line_to_restore, restores, restores_where, without_variables}
use Rattle.b2_stmt_var.specs.declared.buffers.Turn.{Turn}
use Rattle.b2_stmt_var.specs.declared.data.Literal.{Literal}
use Rattle.b2_stmt_var.specs.declared.dimensions.Entry.{Entry}
use Rattle.b2_stmt_file.specs.SavedNumbers.{GivesNumber, HoldsNumbers, IsAnyNumber}
use Rattle.b2_stmt_file.proofs.NumbersGiven.{literal_gives}
use Rattle.b2_sched.proofs.NumbersAssigned.{LeftHolds, WorkHolds, among_keeps, assign_number_holds, assign_side_holds, buffer_keeps, common_holds, empty_holds, given_value_holds, new_holds, then_holds, unless_keeps, value_in_work}
use Rattle.b2_sched.specs.Numbers.{FinishingHolds, GlobalsHold, PlanningHolds, PrivateHolds}
use Rattle.b2_sched.proofs.NumbersFinished.{finished_holds}
use Rattle.b2_sched.proofs.NumbersPut.{Keeps, WorkingHolds, planned_holds, test_keeps, work_of_holds, works_in}

-- receivers one after another
each_holds : (one : Trees → WorkState → WorkLeft) → ((t : Trees) → Keeps (one t)) → (ts : List Trees) → Keeps (assign_each one ts)
each_holds one h [] w k = k
each_holds one h (t ∷ ts) w k = then_holds (one t w) (assign_each one ts) (h t w k) (each_holds one h ts)

-- assignments
numbers_hold : (x : Answer) (ts : List Trees) (w : WorkState) → GivesNumber x → WorkHolds w → LeftHolds (numbers_by x ts w)
numbers_hold (Ok x) ts w is h = each_holds (assign_number_at (Ok x)) (λ t. assign_number_holds (Ok x) t is) ts w h
numbers_hold (Err code) ts w is h = h

sides_hold : (x : Result Side ℕ) (ts : List Trees) → Keeps (sides_by x ts)
sides_hold (Ok side) ts w h = each_holds (assign_side_at side) (assign_side_holds side) ts w h
sides_hold (Err code) ts w h = h

assigns_hold : (t : Trees) → Keeps (assigns t)
assigns_hold (In n t end) w h =
    let sum = sum_of_assignment (after_all_listed t) in
    test_keeps (n == 1) (assign_sides t w) (assign_numbers t w) (sides_hold (right_side (context_of w) (side_of_assignment (after_all_listed t))) (all_listed t) w h)
    (numbers_hold (value (context_of w) level.Sum sum) (all_listed t) w (value_in_work w h level.Sum sum) h)
assigns_hold Done w h = h
assigns_hold (Put token more) w h = h

-- DIM and COM
makes_hold : (common : Bool) (e : Entry) (old : VarsState) → HoldsNumbers old → HoldsNumbers (makes common e old).vars
makes_hold common e old h = unless_keeps (entry_code common e old) old (record { vars = with_entry common e old; code = None }) h (new_holds e.var e.shape common old.table h)

found_hold : (common : Bool) (r : Result Entry ℕ) → Keeps (makes_found common r)
found_hold common (Ok e) w h = among_keeps e.global (makes common e) (makes_hold common e) w h
found_hold common (Err code) w h = h

dimensions_hold : (t : Trees) → Keeps (dimensions t)
dimensions_hold t w h = each_holds (makes_one (is_com t)) (λ t2 v. found_hold (is_com t) (entry_in (context_of v) t2) v) (entries_of t) w h

-- INIT and ROTATE
fills_hold : (b : ℕ) (r : Result Buffer ℕ) → Keeps (fills b r)
fills_hold b (Ok to) w h = among_keeps (is_global_buffer to) (bytes_changed (all_filled b) to) (buffer_keeps (all_filled b) to) w h
fills_hold b (Err code) w h = h

inits_hold : (t : Trees) → Keeps (inits t)
inits_hold t w h = each_holds (fills_one (byte_of_init t)) (λ t2 v. fills_hold (byte_of_init t) (buffer (context_of v) t2) v) (buffers_of_init t) w h

turns_hold : (r : Result Turn ℕ) → Keeps (turns r)
turns_hold (Ok turn) w h = let change = rotated turn.whole turn.bits in
    among_keeps turn.to.element.global (bytes_changed change (buffer_kind.Value turn.to)) (buffer_keeps change (buffer_kind.Value turn.to)) w h
turns_hold (Err code) w h = h

-- READ
spelled_is : (n : ℕ) (x : Text) → IfOk (spelled_value n x) IsAnyNumber
spelled_is n x = by (n == 1)
  where
    as_value : (r : Answer) → GivesNumber r → IfOk (r >>= (λ y. Ok (value_kind.Number y))) IsAnyNumber
    as_value (Ok y) is = is
    as_value (Err code) is = tt

    by : (b : Bool) → IfOk (if b then Ok (value_kind.Alpha (literal_of x)) else literal_value x >>= (λ y. Ok (value_kind.Number y))) IsAnyNumber
    by true = tt
    by false = as_value (literal_value x) (literal_gives x)

datum_is : (t : Trees) → IfOk (datum_value t) IsAnyNumber
datum_is (In n (Put (Plain k x) end) more) = spelled_is n x
datum_is t = tt

abbrev LiteralHolds : Option Literal → Type 0
LiteralHolds o = IfSome o (λ l. IfOk l.value IsAnyNumber)

read_is : (spot : Spot) (k : ℕ) (o : Option Trees) → LiteralHolds (option_map (read_at spot k) o)
read_is spot k None = tt
read_is spot k (Some t) = datum_is t

first_is : (lines : Lines) (o : Option Spot) → LiteralHolds (option_and_then (λ (spot : Spot). literal_at lines spot 0) o)
first_is lines None = tt
first_is lines (Some spot) = read_is spot 0 (slice_get (literals_at lines spot) 0)

or_is : (a b : Option Literal) → LiteralHolds a → LiteralHolds b → LiteralHolds (or_else a b)
or_is None b h k = k
or_is (Some l) b h k = h

next_is : (lines : Lines) (next : Option (Spot × ℕ)) → LiteralHolds (next_literal lines next)
next_is lines None = first_is lines (data_from (record { line = 0; unit = 0 }) lines)
next_is lines (Some p) = or_is (literal_at lines p.0 p.1) (first_literal lines (unit_after p.0)) (read_is p.0 p.1 (slice_get (literals_at lines p.0) p.1)) (first_is lines (data_from (unit_after p.0) lines))

abbrev LeftWorks : Left → Type 0
LeftWorks l = WorkHolds l.work

value_taken : (to : Receiver) (x : Result Value ℕ) (after : Spot × ℕ) (w : WorkState) (next : Option (Spot × ℕ)) → IfOk x IsAnyNumber → WorkHolds w → LeftWorks (takes_value to x after w next)
value_taken to (Ok x) after w next is h = given_value_holds to x is w h
value_taken to (Err code) after w next is h = h

suited : (b : Bool) (x : Result Value ℕ) → IfOk x IsAnyNumber → IfOk (if b then x else Err X74_OTHER_KIND) IsAnyNumber
suited true x is = is
suited false x is = tt

literal_taken : (to : Receiver) (o : Option Literal) (w : WorkState) (next : Option (Spot × ℕ)) → LiteralHolds o → WorkHolds w → LeftWorks (takes_literal to o w next)
literal_taken to None w next is h = h
literal_taken to (Some l) w next is h = value_taken to (value_for to l.value) l.after w next (suited (is_for to l.value) l.value is) h

read_to : (to : Result Receiver ℕ) (own : Lines) (w : WorkState) (next : Option (Spot × ℕ)) → WorkHolds w → LeftWorks (reads_to to own w next)
read_to (Ok to) own w next h = literal_taken to (next_literal own next) w next (next_is own next) h
read_to (Err code) own w next h = h

unless_read : (code : Option ℕ) (r : Left) (rest : WorkState → Option (Spot × ℕ) → Left) → LeftWorks r → ((w : WorkState) (next : Option (Spot × ℕ)) → WorkHolds w → LeftWorks (rest w next)) → LeftWorks (unless_read_ended code r rest)
unless_read None r rest h k = k r.work r.next h
unless_read (Some code) r rest h k = h

each_read : (own : Lines) (ts : List Trees) (w : WorkState) (next : Option (Spot × ℕ)) → WorkHolds w → LeftWorks (read_each (reads_one own) ts w next)
each_read own [] w next h = h
each_read own (t ∷ ts) w next h =
    let r = reads_one own t w next in
    unless_read r.code r (read_each (reads_one own) ts) (read_to (any_receiver (context_of w) t) own w next h) (each_read own ts)

-- RESTORE and CLEAR
restored_where : (o : Option (List ℕ)) (n : ℕ) (w : WorkState) (next : Option (Spot × ℕ)) → WorkHolds w → LeftWorks (restores_where o n w next)
restored_where None n w next h = h
restored_where (Some line) n w next h = h

restored : (o : Option ℕ) (own : Lines) (w : WorkState) (next : Option (Spot × ℕ)) → WorkHolds w → LeftWorks (restores o own w next)
restored None own w next h = h
restored (Some n) own w next h = restored_where _ n w next h

left_without : (common : Bool) (vars : VarsState) → HoldsNumbers vars → HoldsNumbers (without_variables common vars)
left_without true vars h = empty_holds vars.area
left_without false vars h = common_holds vars.table h

-- each of them
abbrev EachLeft : Changes → Type 0
EachLeft c = (own : Lines) (t : Trees) (w : WorkState) (next : Option (Spot × ℕ)) → WorkHolds w → LeftWorks (c own t w next)

changes_hold : (r : ℕ) → EachLeft (changes r)
changes_hold r =
    either EachLeft (r == row.ASSIGNMENT) _ _ (λ own t w next h. assigns_hold t w h)
    (either EachLeft (r == row.DIM) _ _ (λ own t w next h. dimensions_hold t w h)
    (either EachLeft (r == row.INIT) _ _ (λ own t w next h. inits_hold t w h)
    (either EachLeft (r == row.ROTATE) _ _ (λ own t w next h. turns_hold (turn_in (context_of w) t) w h)
    (either EachLeft (r == row.READ) _ _ (λ own t w next h. each_read own (receivers_of t) w next h)
    (either EachLeft (r == row.RESTORE) _ _ (λ own t w next h. restored (line_to_restore t) own w next h)
    (either EachLeft (r == row.CLEAR_V) _ _ (λ own t w next h. (left_without true w.own h.0, h.1))
    (either EachLeft (r == row.CLEAR_N) _ left_out (λ own t w next h. (left_without false w.own h.0, h.1)) (λ own t w next h. h))))))))

pub variables_plan_numbers : (me : Private) (s : SeenLent) → PrivateHolds me → GlobalsHold s.globals → PlanningHolds (plan me s)
variables_plan_numbers me s h g =
    planned_holds me s (works me s) h g
    (each_dispatch is_refused stops (does me s) me s WorkingHolds tt tt
    (λ p is u. let k = changes_hold u.row s.own.lines u.tree (work_in (setting_of me) s.home me.vars s.globals) me.next_data (works_in me s h g) in (k.0, k.1, h.1)))

pub variables_finish_numbers : (x : Access) (a : AccessAnswer) (me : Private) (s : SeenLent) → PrivateHolds me → GlobalsHold s.globals → FinishingHolds (finish x a me s)
variables_finish_numbers x a me s h g = finished_holds ends x a me s g (work_of_holds me h)
