-- What statements on packed fields change: the variable of a buffer, or those of receivers, and no other.
use Rattle.std.proofs.Common.{◌≡◌, ◌≢◌, ℕ, Bool, true, false, List, [], ◌∷◌, length, Option, Some, None, Result, Ok, Err, refl, ◌∙◌}
use Rattle.std.specs.FinMap as map
use Rattle.b2_dec.specs.Number.{Number}
use Rattle.b2_dec.specs.declared.values.Value.{Value}
use Rattle.b2_dec.specs.declared.values.Value.TheVariants as value
use Rattle.b2_atom.specs.Tree.{Trees}
use Rattle.b2_vars.specs.Assigned.{Assigned}
use Rattle.b2_vars.specs.Calls.{made, set_code}
use Rattle.b2_vars.specs.Shapes.{scalar_shape}
use Rattle.b2_vars.specs.Tables.{Table, VarsState}
use Rattle.b2_vars.specs.Variables.{VariableState, fresh}
use Rattle.b2_vars.specs.declared.name.Var.{Var}
use Rattle.b2_vars.proofs.EntriesAsMap.{get_other}
use Rattle.b2_pack.specs.Images.{image_row}
use Rattle.b2_pack.specs.Packing.{fields_code, image_code, placed_fields, with_image, with_values}
use Rattle.b2_expr.specs.Scope.{Context}
use Rattle.b2_expr.specs.Value.{context_of}
use Rattle.b2_expr.specs.Kinds.{suits}
use Rattle.b2_expr.specs.Workspace.{WorkLeft, WorkState, among, on_lent, then_works, unchanged}
use Rattle.b2_expr.specs.declared.named.Element.{Element}
use Rattle.b2_access.proofs.Choice.{either}
use Rattle.b2_receiver.specs.Assigning.{assigned_number, assigned_value, buffer_code, is_alpha_receiver, is_global_receiver, receiver_code, unless_refused, with_changed}
use Rattle.b2_receiver.specs.Receivers.{any_receiver, number_receiver}
use Rattle.b2_receiver.specs.Receiving.{given_value, number_to}
use Rattle.b2_receiver.specs.declared.receiver.Buffer.{Buffer}
use Rattle.b2_receiver.specs.declared.receiver.Buffer.TheVariants as buffer_kind
use Rattle.b2_receiver.specs.declared.receiver.Receiver.{Receiver}
use Rattle.b2_receiver.specs.declared.receiver.Receiver.TheVariants as receiver_kind
use Rattle.b2_stmt_pack.specs.Buffers.{buffer_name, packed_by, room_code, room_in, where_none}
use Rattle.b2_stmt_pack.specs.Laws.{ChangeWhatIsNamed, IsNoneOf, Stays, receiver_name}
use Rattle.b2_stmt_pack.specs.Lists.{each_takes, takes_number, takes_value, value_to}

-- what is put under another name, or made there
put_elsewhere : (v other : Var) (x : VariableState) (t : Table) → other ≢ v → map.get (map.insert t v x) other ≡ map.get t other
put_elsewhere v other x t apart = get_other t v other x apart

new_elsewhere : (v other : Var) (o : Option VariableState) (x : VariableState) (t : Table) → other ≢ v → map.get (made o v x t) other ≡ map.get t other
new_elsewhere v other None x t apart = put_elsewhere v other x t apart
new_elsewhere v other (Some y) x t apart = refl

reached_elsewhere : (v other : Var) (x : VariableState) (old : VarsState) → other ≢ v
    → map.get (map.insert (made (map.get old.table v) v (fresh v (scalar_shape v) false) old.table) v x) other ≡ map.get old.table other
reached_elsewhere v other x old apart =
    put_elsewhere v other x (made (map.get old.table v) v (fresh v (scalar_shape v) false) old.table) apart ∙ new_elsewhere v other (map.get old.table v) (fresh v (scalar_shape v) false) old.table apart

-- what is done unless there is a code
unless_elsewhere : (o : Option ℕ) (other : Var) (old after : VarsState) → Stays other old after → Stays other old (unless_refused o old (record { vars = after; code = None })).vars
unless_elsewhere None other old after stays = stays
unless_elsewhere (Some code) other old after stays = refl

twice_elsewhere : (o p : Option ℕ) (other : Var) (old after : VarsState) → Stays other old after → Stays other old (unless_refused o old (unless_refused p old (record { vars = after; code = None }))).vars
twice_elsewhere None p other old after stays = unless_elsewhere p other old after stays
twice_elsewhere (Some code) p other old after stays = refl

-- packing
changed_elsewhere : (change : List ℕ → List ℕ) (to : Buffer) (other : Var) (old : VarsState) → other ≢ buffer_name to → Stays other old (with_changed change to old)
changed_elsewhere change (buffer_kind.Value to) other old apart = reached_elsewhere to.element.var other _ old apart
changed_elsewhere change (buffer_kind.Array a) other old apart = put_elsewhere a.var other _ old.table apart

packed_elsewhere : (code : ℕ → Option ℕ) (change : List ℕ → List ℕ) (to : Buffer) (old : VarsState) (other : Var) → other ≢ buffer_name to → Stays other old (packed_by code change to old).vars
packed_elsewhere code change to old other apart =
    twice_elsewhere (room_code code (room_in to old)) (buffer_code to old) other old _ (changed_elsewhere (λ bytes. where_none (code (length bytes)) (change bytes) bytes) to other old apart)

-- unpacking, one receiver after another
abbrev One : Type 0 → Type 0
One A = A → Trees → WorkState → WorkLeft

after_one : (other : Var) (w : WorkState) (r : WorkLeft) (next : WorkState → WorkLeft) → Stays other w.own r.work.own → Stays other r.work.own (next r.work).work.own → Stays other w.own (then_works r next).work.own
after_one other w r next one rest = by r.code
  where
    by : (o : Option ℕ) → Stays other w.own (then_works (record { work = r.work; code = o }) next).work.own
    by None = rest ∙ one
    by (Some code) = one

each_elsewhere : {A B : Type 0} (one : One A) (located : Context → Trees → Result B ℕ) (name : B → Var) (other : Var)
    → ((x : A) (t : Trees) (w : WorkState) → ((to : B) → located (context_of w) t ≡ Ok to → other ≢ name to) → Stays other w.own (one x t w).work.own)
    → (xs : List A) (ts : List Trees) (w : WorkState) → IsNoneOf located name other ts → Stays other w.own (each_takes one ts xs w).work.own
each_elsewhere one located name other stays xs [] w apart = refl
each_elsewhere one located name other stays [] (t ∷ ts) w apart = refl
each_elsewhere one located name other stays (x ∷ xs) (t ∷ ts) w apart =
    after_one other w (one x t w) (each_takes one ts xs) (stays x t w (λ to is. apart.0 (context_of w) to is)) (each_elsewhere one located name other stays xs ts (one x t w).work apart.1)

-- an assignment among the `@` variables changes none of the own
lent_elsewhere : (does : VarsState → Assigned) (other : Var) (w : WorkState) (o : Option VarsState) → Stays other w.own (on_lent does o w).work.own
lent_elsewhere does other w None = refl
lent_elsewhere does other w (Some vars) = refl

among_elsewhere : (global : Bool) (does : VarsState → Assigned) (other : Var) (w : WorkState) → Stays other w.own (does w.own).vars → Stays other w.own (among global does w).work.own
among_elsewhere true does other w stays = lent_elsewhere does other w w.globals.vars
among_elsewhere false does other w stays = stays

number_elsewhere : (other : Var) (x : Number) (r : Result Element ℕ) (w : WorkState) → ((to : Element) → r ≡ Ok to → other ≢ to.var) → Stays other w.own (number_to r (Ok x) w).work.own
number_elsewhere other x (Ok e) w apart =
    among_elsewhere e.global (assigned_number e x) other w (unless_elsewhere (set_code e.var e.row e.column w.own) other w.own _ (reached_elsewhere e.var other _ w.own (apart e refl)))
number_elsewhere other x (Err code) w apart = refl

given_elsewhere : (other : Var) (to : Receiver) (x : Value) (old : VarsState) → other ≢ receiver_name to → Stays other old (assigned_value to x old).vars
given_elsewhere other (receiver_kind.Number e) (value.Number x) old apart = unless_elsewhere (set_code e.var e.row e.column old) other old _ (reached_elsewhere e.var other _ old apart)
given_elsewhere other (receiver_kind.Number e) (value.Alpha bytes) old apart = refl
given_elsewhere other (receiver_kind.Alpha to) (value.Number x) old apart = refl
given_elsewhere other (receiver_kind.Alpha to) (value.Alpha bytes) old apart = unless_elsewhere (receiver_code to old) other old _ (reached_elsewhere to.element.var other _ old apart)

value_elsewhere : (other : Var) (x : Value) (r : Result Receiver ℕ) (w : WorkState) → ((to : Receiver) → r ≡ Ok to → other ≢ receiver_name to) → Stays other w.own (value_to r x w).work.own
value_elsewhere other x (Ok to) w apart =
    either (λ (r : WorkLeft). Stays other w.own r.work.own) (suits (is_alpha_receiver to) x) (given_value to x w) (unchanged w)
    (among_elsewhere (is_global_receiver to) (assigned_value to x) other w (given_elsewhere other to x w.own (apart to refl))) refl
value_elsewhere other x (Err code) w apart = refl

pub change_what_is_named : ChangeWhatIsNamed
change_what_is_named = record {
  numbers_in = λ image xs to old v apart. packed_elsewhere (image_code (image_row image) xs) (with_image (image_row image) xs) to old v apart;
  values_in = λ spec xs to old v apart. packed_elsewhere (fields_code spec xs) (with_values (placed_fields spec) xs) to old v apart;
  numbers_out = λ xs ts w v apart. each_elsewhere takes_number number_receiver (λ e. e.var) v (λ x t s apart. number_elsewhere v x (number_receiver (context_of s) t) s apart) xs ts w apart;
  values_out = λ xs ts w v apart. each_elsewhere takes_value any_receiver receiver_name v (λ x t s apart. value_elsewhere v x (any_receiver (context_of s) t) s apart) xs ts w apart;
}
