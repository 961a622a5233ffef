-- What assigning leaves of variables that hold numbers holds numbers.
use Rattle.std.proofs.Common.{ℕ, Bool, true, false, cond, List, Option, Some, None, IfSome, Result, Ok, Err, ap, sym, subst}
use Rattle.std.specs.Ordering.{eq_by_cmp}
use Rattle.std.specs.FinMap as map
use Rattle.std.specs.List.{All}
use Rattle.std.specs.Option.{unwrap_or}
use Rattle.std.proofs.lemmas.List.Elements.{All-replicate, All-set, All-take}
use Rattle.b2_dec.specs.Number.{Number, IsNumber, zero_number}
use Rattle.b2_dec.specs.declared.values.Value.{Value}
use Rattle.b2_dec.specs.declared.values.Value.TheVariants as value_kind
use Rattle.b2_atom.specs.Tree.{Trees}
use Rattle.b2_vars.specs.Assigned.{Assigned}
use Rattle.b2_vars.specs.Calls.{common_only, is_common, made, part_place, set_code, with_bytes_of, with_change, with_new, with_scalar}
use Rattle.b2_vars.specs.Names.{var_cmp}
use Rattle.b2_vars.specs.Shapes.{cell_at, number_cells, scalar_shape}
use Rattle.b2_vars.specs.Tables.{Table, VarsState, shape_at, variable_at}
use Rattle.b2_vars.specs.Variables.{VariableState, fresh, reshaped, with_bytes, with_number}
use Rattle.b2_vars.specs.declared.name.Var.{Var}
use Rattle.b2_vars.specs.declared.shape.Shape.{Shape}
use Rattle.b2_vars.proofs.NamesAsKeys.{names_exact, names_total}
use Rattle.b2_expr.specs.Answers.{Answer, TextAnswer}
use Rattle.b2_expr.specs.Value.{context_of, value}
use Rattle.b2_expr.specs.Workspace.{WorkLeft, WorkState, among, on_lent, surroundings_of, then_works, unless_coded}
use Rattle.b2_expr.specs.declared.named.Element.{Element}
use Rattle.b2_expr.specs.declared.operators.Level.{Level}
use Rattle.b2_receiver.specs.Assigning.{assigned_bytes, assigned_number, assigned_side, assigned_value, bytes_changed, is_global_receiver, portion_in, reached_by, unless_refused, with_changed, with_made, with_portion, receiver_code, buffer_code}
use Rattle.b2_receiver.specs.Receivers.{alpha_receiver, number_receiver}
use Rattle.b2_receiver.specs.Receiving.{assign_bytes_at, assign_number_at, assign_side_at, bytes_to, given_value, number_to, side_to}
use Rattle.b2_receiver.specs.RightSide.{Side, SideResult, side_made}
use Rattle.b2_receiver.specs.declared.receiver.AlphaReceiver.{AlphaReceiver}
use Rattle.b2_receiver.specs.declared.receiver.Buffer.{Buffer}
use Rattle.b2_receiver.specs.declared.receiver.Buffer.TheVariants as buffer_kind
use Rattle.b2_receiver.specs.declared.receiver.Receiver.{Receiver}
use Rattle.b2_receiver.specs.declared.receiver.Receiver.TheVariants as receiver_kind
use Rattle.b2_stmt_file.specs.SavedNumbers.{GivesNumber, HoldsNumbers, IsAnyNumber}
use Rattle.b2_stmt_file.proofs.NumbersOfExpressions.{LooksAtNumbers, statement_looks_at_numbers, value_gives}
use Rattle.b2_stmt_file.proofs.Rounded.{zero_is_number}

-- ---- tables

-- what stands under a name has numbers
abbrev pub HasNumbers : VariableState → Type 0
HasNumbers x = All IsNumber x.numbers

abbrev pub TableHolds : Table → Type 0
TableHolds t = (v : Var) → IfSome (map.get t v) HasNumbers

put_by : (b : Bool) (x : VariableState) (o : Option VariableState) → HasNumbers x → IfSome o HasNumbers → IfSome (cond b (Some x) o) HasNumbers
put_by true x o h k = h
put_by false x o h k = k

pub inserted : (t : Table) (v : Var) (x : VariableState) → HasNumbers x → TableHolds t → TableHolds (map.insert t v x)
inserted t v x h held u =
    subst (λ (o : Option VariableState). IfSome o HasNumbers) (sym (map.get-insert names_total t v x u)) (put_by (eq_by_cmp var_cmp u v) x (map.get t u) h (held u))

pub fresh_has : (v : Var) (s : Shape) (common : Bool) → HasNumbers (fresh v s common)
fresh_has v s common = All-replicate IsNumber (number_cells v s) zero_number zero_is_number

found_has : (o : Option VariableState) (other : VariableState) → HasNumbers other → IfSome o HasNumbers → HasNumbers (unwrap_or o other)
found_has None other h k = h
found_has (Some x) other h k = k

pub variable_has : (v : Var) (t : Table) → TableHolds t → HasNumbers (variable_at v t)
variable_has v t held = found_has (map.get t v) (fresh v (scalar_shape v) false) (fresh_has v (scalar_shape v) false) (held v)

made_holds : (o : Option VariableState) (v : Var) (x : VariableState) (t : Table) → HasNumbers x → TableHolds t → TableHolds (made o v x t)
made_holds None v x t h held = inserted t v x h held
made_holds (Some old) v x t h held = held

pub new_holds : (v : Var) (s : Shape) (common : Bool) (t : Table) → TableHolds t → TableHolds (with_new v s common t)
new_holds v s common t held = made_holds (map.get t v) v (fresh v s common) t (fresh_has v s common) held

pub scalar_holds : (v : Var) (s : VarsState) → HoldsNumbers s → HoldsNumbers (with_scalar v s)
scalar_holds v s held = new_holds v (scalar_shape v) false s.table held

pub change_holds : (v : Var) (change : VariableState → VariableState) (s : VarsState) → ((x : VariableState) → HasNumbers x → HasNumbers (change x)) → HoldsNumbers s → HoldsNumbers (with_change v change s)
change_holds v change s h held = inserted s.table v (change (variable_at v s.table)) (h (variable_at v s.table) (variable_has v s.table held)) held

pub bytes_hold : (v : Var) (from : ℕ) (s : VarsState) (bytes : List ℕ) → HoldsNumbers s → HoldsNumbers (with_bytes_of v from s bytes)
bytes_hold v from s bytes held = change_holds v (λ x. with_bytes from x bytes) s (λ x has. has) held

pub reshaped_has : (v : Var) (s : Shape) (x : VariableState) → HasNumbers x → HasNumbers (reshaped v s x)
reshaped_has v s x has = All-take IsNumber (number_cells v s) x.numbers has

kept_by : (b : Bool) (o : Option VariableState) → IfSome o HasNumbers → IfSome (cond b o None) HasNumbers
kept_by true o h = h
kept_by false o h = tt

pub common_holds : (t : Table) → TableHolds t → TableHolds (common_only t)
common_holds t held u =
    subst (λ (o : Option VariableState). IfSome o HasNumbers) (sym (map.get-retain_keys t (λ v. is_common v t) u (λ x tie. ap (λ v. is_common v t) (sym (names_exact u x tie))))) (kept_by (is_common u t) (map.get t u) (held u))

pub empty_holds : (area : ℕ) → HoldsNumbers (record { area = area; table = map.empty })
empty_holds area u = subst (λ (o : Option VariableState). IfSome o HasNumbers) (sym (map.get-empty var_cmp u)) tt

-- ---- receivers

-- an assignment that leaves numbers
abbrev pub KeepsNumbers : (VarsState → Assigned) → Type 0
KeepsNumbers does = (vars : VarsState) → HoldsNumbers vars → HoldsNumbers (does vars).vars

pub unless_keeps : (code : Option ℕ) (old : VarsState) (a : Assigned) → HoldsNumbers old → HoldsNumbers a.vars → HoldsNumbers (unless_refused code old a).vars
unless_keeps None old a h k = k
unless_keeps (Some code) old a h k = h

pub number_keeps : (to : Element) (x : Number) → IsNumber x → KeepsNumbers (assigned_number to x)
number_keeps to x is old held =
    let cell = cell_at (shape_at to.var old.table) to.row to.column in
    unless_keeps (set_code to.var to.row to.column old) old (record { vars = with_change to.var (with_number cell x) (with_scalar to.var old); code = None }) held
    (change_holds to.var (with_number cell x) (with_scalar to.var old) (λ y has. All-set IsNumber y.numbers cell x is has) (scalar_holds to.var old held))

pub portion_holds : (to : AlphaReceiver) (s : VarsState) (bytes : List ℕ) → HoldsNumbers s → HoldsNumbers (with_portion to s bytes)
portion_holds to s bytes held = bytes_hold to.element.var (part_place to.element.var to.element.row to.element.column to.portion.from s.table) s bytes held

pub bytes_keep : (to : AlphaReceiver) (bytes : List ℕ) → KeepsNumbers (assigned_bytes to bytes)
bytes_keep to bytes old held = unless_keeps (receiver_code to old) old _ held (portion_holds to (reached_by to old) _ (scalar_holds to.element.var old held))

pub value_keeps : (to : Receiver) (x : Value) → IsAnyNumber x → KeepsNumbers (assigned_value to x)
value_keeps (receiver_kind.Number e) (value_kind.Number x) is old held = number_keeps e x is old held
value_keeps (receiver_kind.Alpha to) (value_kind.Alpha bytes) is old held = bytes_keep to bytes old held
value_keeps (receiver_kind.Number e) (value_kind.Alpha bytes) is old held = held
value_keeps (receiver_kind.Alpha to) (value_kind.Number x) is old held = held

made_keeps : (to : AlphaReceiver) (s : VarsState) (m : SideResult) → HoldsNumbers s → HoldsNumbers (with_made to s m).vars
made_keeps to s m held = portion_holds to s m.bytes held

pub side_keeps : (to : AlphaReceiver) (side : Side) → KeepsNumbers (assigned_side to side)
side_keeps to side old held =
    let reached = reached_by to old in
    let m = side_made side (portion_in to reached) in
    unless_keeps (receiver_code to old) old (with_made to reached m) held (made_keeps to reached m (scalar_holds to.element.var old held))

changed_holds : (change : List ℕ → List ℕ) (to : Buffer) (old : VarsState) → HoldsNumbers old → HoldsNumbers (with_changed change to old)
changed_holds change (buffer_kind.Value to) old held = portion_holds to (reached_by to old) _ (scalar_holds to.element.var old held)
changed_holds change (buffer_kind.Array a) old held = bytes_hold a.var 0 old _ held

pub buffer_keeps : (change : List ℕ → List ℕ) (to : Buffer) → KeepsNumbers (bytes_changed change to)
buffer_keeps change to old held = unless_keeps (buffer_code to old) old (record { vars = with_changed change to old; code = None }) held (changed_holds change to old held)

-- ---- workspaces

-- what a statement works in has numbers
abbrev pub WorkHolds : WorkState → Type 0
WorkHolds w = HoldsNumbers w.own × IfSome w.globals.vars HoldsNumbers

abbrev pub LeftHolds : WorkLeft → Type 0
LeftHolds r = WorkHolds r.work

lent_keep : (does : VarsState → Assigned) → KeepsNumbers does → (o : Option VarsState) (w : WorkState) → IfSome o HoldsNumbers → WorkHolds w → LeftHolds (on_lent does o w)
lent_keep does keeps None w h k = k
lent_keep does keeps (Some vars) w h k = (k.0, keeps vars h)

pub among_keeps : (global : Bool) (does : VarsState → Assigned) → KeepsNumbers does → (w : WorkState) → WorkHolds w → LeftHolds (among global does w)
among_keeps true does keeps w h = lent_keep does keeps w.globals.vars w h.1 h
among_keeps false does keeps w h = (keeps w.own h.0, h.1)

-- one after another
unless_holds : (code : Option ℕ) (w : WorkState) (next : WorkState → WorkLeft) → WorkHolds w → ((w : WorkState) → WorkHolds w → LeftHolds (next w)) → LeftHolds (unless_coded code w next)
unless_holds None w next h k = k w h
unless_holds (Some code) w next h k = h

pub then_holds : (r : WorkLeft) (next : WorkState → WorkLeft) → LeftHolds r → ((w : WorkState) → WorkHolds w → LeftHolds (next w)) → LeftHolds (then_works r next)
then_holds r next h k = unless_holds r.code r.work next h k

-- its expressions look at numbers
pub looks : (w : WorkState) → WorkHolds w → LooksAtNumbers (context_of w)
looks w h = statement_looks_at_numbers (surroundings_of w) h.0 h.1

pub value_in_work : (w : WorkState) → WorkHolds w → (l : Level) (t : Trees) → GivesNumber (value (context_of w) l t)
value_in_work w h l t = value_gives (context_of w) (looks w h) l t

-- receivers take what they are given
number_to_holds : (to : Result Element ℕ) (x : Answer) (w : WorkState) → GivesNumber x → WorkHolds w → LeftHolds (number_to to x w)
number_to_holds (Ok to) (Ok x) w is h = among_keeps to.global (assigned_number to x) (number_keeps to x is) w h
number_to_holds (Ok to) (Err code) w is h = h
number_to_holds (Err code) x w is h = h

pub assign_number_holds : (x : Answer) (t : Trees) → GivesNumber x → (w : WorkState) → WorkHolds w → LeftHolds (assign_number_at x t w)
assign_number_holds x t is w h = number_to_holds (number_receiver (context_of w) t) x w is h

bytes_to_holds : (to : Result AlphaReceiver ℕ) (bytes : TextAnswer) (w : WorkState) → WorkHolds w → LeftHolds (bytes_to to bytes w)
bytes_to_holds (Ok to) (Ok bytes) w h = among_keeps to.element.global (assigned_bytes to bytes) (bytes_keep to bytes) w h
bytes_to_holds (Ok to) (Err code) w h = h
bytes_to_holds (Err code) bytes w h = h

pub assign_bytes_holds : (bytes : TextAnswer) (t : Trees) (w : WorkState) → WorkHolds w → LeftHolds (assign_bytes_at bytes t w)
assign_bytes_holds bytes t w h = bytes_to_holds (alpha_receiver (context_of w) t) bytes w h

side_to_holds : (to : Result AlphaReceiver ℕ) (side : Side) (w : WorkState) → WorkHolds w → LeftHolds (side_to to side w)
side_to_holds (Ok to) side w h = among_keeps to.element.global (assigned_side to side) (side_keeps to side) w h
side_to_holds (Err code) side w h = h

pub assign_side_holds : (side : Side) (t : Trees) (w : WorkState) → WorkHolds w → LeftHolds (assign_side_at side t w)
assign_side_holds side t w h = side_to_holds (alpha_receiver (context_of w) t) side w h

pub given_value_holds : (to : Receiver) (x : Value) → IsAnyNumber x → (w : WorkState) → WorkHolds w → LeftHolds (given_value to x w)
given_value_holds to x is w h = among_keeps (is_global_receiver to) (assigned_value to x) (value_keeps to x is) w h
