-- MAT MOVE, MAT SORT and MAT COPY: arrays of alpha values as a whole.
use Rattle.std.specs.Global.{Vec}
use Rattle.std.specs.Prelude.{ℕ, ◌==◌, ◌||◌, not, Bool, true, List, length, Option, Some, None, Result, Ok, Err, if◌then◌else◌}
use Rattle.b2_base.specs.declared.codes.TheConstants.{P43_SHAPES, S20_VARIABLE}
use Rattle.b2_alpha.specs.Values.{padded}
use Rattle.b2_atom.specs.Tree.{Trees}
use Rattle.b2_atom.specs.Tree.Trees.{Put, In}
use Rattle.b2_vars.specs.Assigned.{Assigned}
use Rattle.b2_vars.specs.Calls.{with_bytes_of}
use Rattle.b2_vars.specs.Tables.{VarsState}
use Rattle.b2_vars.specs.declared.name.Var.{Var}
use Rattle.b2_matalpha.specs.Locators.{received}
use Rattle.b2_matalpha.specs.Moves.{after_move, move_answer, wanted_places}
use Rattle.b2_matalpha.specs.Sorts.{is_too_short, sorted_places}
use Rattle.b2_expr.specs.Answers.{TextAnswer, ◌>>=◌}
use Rattle.b2_expr.specs.Scope.{Context}
use Rattle.b2_expr.specs.Value.{context_of}
use Rattle.b2_expr.specs.Workspace.{WorkState, WorkLeft, among, refused, surroundings_of}
use Rattle.b2_receiver.specs.Assigning.{unassigned}
use Rattle.b2_receiver.specs.Receivers.{array_receiver}
use Rattle.b2_receiver.specs.declared.receiver.Array.{Array}
use Rattle.b2_stmt_mat.specs.Arrays.{Families, all_bytes, families, named_bytes, shape_in}
use Rattle.b2_stmt_mat.specs.declared.byte_arrays.ArrayCopy.{ArrayCopy}
use Rattle.b2_stmt_mat.specs.declared.byte_arrays.ArrayMove.{ArrayMove}
use Rattle.b2_stmt_mat.specs.declared.byte_arrays.ArraySort.{ArraySort}

-- a whole array, with empty parentheses after its name: P59 where it isn't there
unfoldable pub bytes_in : Context → Trees → Result Array ℕ
bytes_in s t = array_receiver s.around true t

-- the arrays from left to right. The work array of MAT SORT has to be there and isn't used.
unfoldable pub move_in : Context → Trees → Result ArrayMove ℕ
move_in s (Put mat (Put move (In n of (Put comma (In m locators (Put to (In k receiver end))))))) =
    bytes_in s of >>= (λ of. bytes_in s locators >>= (λ locators. bytes_in s receiver >>= (λ to. Ok (record { of = of; locators = locators; to = to }))))
move_in s t = Err S20_VARIABLE

unfoldable pub sort_in : Context → Trees → Result ArraySort ℕ
sort_in s (Put mat (Put sort (In n of (Put to (In m work (Put comma (In k receiver end))))))) =
    bytes_in s of >>= (λ of. bytes_in s work >>= (λ work. bytes_in s receiver >>= (λ to. Ok (record { of = of; to = to }))))
sort_in s t = Err S20_VARIABLE

unfoldable pub copy_in : Context → Trees → Result ArrayCopy ℕ
copy_in s (Put mat (Put copy (In n of (Put to (In m receiver end))))) = bytes_in s of >>= (λ of. bytes_in s receiver >>= (λ to. Ok (record { of = of; to = to })))
copy_in s t = Err S20_VARIABLE

-- all bytes of an array become others; what they are made of is looked at before
abbrev pub with_all : Var → List ℕ → VarsState → VarsState
with_all v bytes old = with_bytes_of v 0 old bytes

abbrev pub refusal_of : {A : Type 0} → Result A ℕ → Option ℕ
refusal_of (Ok x) = None
refusal_of (Err code) = Some code

-- the locators that a move looks at
abbrev pub moved_by : ArrayMove → Families → List ℕ
moved_by m t = wanted_places (all_bytes m.locators t) (shape_in m.to t).len (all_bytes m.to t)

-- After X76 the elements before the locator that is past the array stay moved
abbrev pub bytes_moved : ArrayMove → Families → List ℕ
bytes_moved m f = after_move (named_bytes (all_bytes m.of f)) (shape_in m.of f).len (moved_by m f) (shape_in m.to f).len (all_bytes m.to f)

abbrev pub move_code : ArrayMove → Families → Option ℕ
move_code m f = refusal_of (move_answer (named_bytes (all_bytes m.of f)) (shape_in m.of f).len (moved_by m f))

abbrev pub moved : ArrayMove → Families → VarsState → Assigned
moved m f old = record { vars = with_all m.to.var (bytes_moved m f) old; code = move_code m f }

-- P43 where the receiver's values aren't two bytes long, or there is no room for each locator; else the locators at the front of its bytes
abbrev pub has_no_room : ArraySort → Families → Bool
has_no_room m t = not ((shape_in m.to t).len == 2) || is_too_short (named_bytes (all_bytes m.of t)) (shape_in m.of t).len (all_bytes m.to t)

abbrev pub sorted_bytes : ArraySort → Families → TextAnswer
sorted_bytes m t =
    if has_no_room m t then Err P43_SHAPES else Ok (received (sorted_places (named_bytes (all_bytes m.of t)) (shape_in m.of t).len) (all_bytes m.to t))

abbrev pub all_or_refused : Var → TextAnswer → VarsState → Assigned
all_or_refused v (Ok bytes) old = record { vars = with_all v bytes old; code = None }
all_or_refused v (Err code) old = unassigned code old

abbrev pub sorted : ArraySort → Families → VarsState → Assigned
sorted m f old = all_or_refused m.to.var (sorted_bytes m f) old

-- as one alpha assignment
abbrev pub bytes_copied : ArrayCopy → Families → List ℕ
bytes_copied m f = padded (length (all_bytes m.to f)) (all_bytes m.of f)

abbrev pub copied : ArrayCopy → Families → VarsState → Assigned
copied m f old = record { vars = with_all m.to.var (bytes_copied m f) old; code = None }

abbrev pub moves_found : Result ArrayMove ℕ → WorkState → WorkLeft
moves_found (Ok m) w = among m.to.global (moved m (families (surroundings_of w))) w
moves_found (Err code) w = refused code w

abbrev pub sorts_found : Result ArraySort ℕ → WorkState → WorkLeft
sorts_found (Ok m) w = among m.to.global (sorted m (families (surroundings_of w))) w
sorts_found (Err code) w = refused code w

abbrev pub copies_found : Result ArrayCopy ℕ → WorkState → WorkLeft
copies_found (Ok m) w = among m.to.global (copied m (families (surroundings_of w))) w
copies_found (Err code) w = refused code w

abbrev pub moves : Trees → WorkState → WorkLeft
moves t w = moves_found (move_in (context_of w) t) w

abbrev pub sorts : Trees → WorkState → WorkLeft
sorts t w = sorts_found (sort_in (context_of w) t) w

abbrev pub copies : Trees → WorkState → WorkLeft
copies t w = copies_found (copy_in (context_of w) t) w

-- the bytes in a `Vec`
abbrev pub byte_items : Vec ℕ → List ℕ
byte_items bytes = bytes.items
