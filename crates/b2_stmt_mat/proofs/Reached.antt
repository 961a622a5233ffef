-- A statement on arrays changes the `@` variables only where it reaches an array or a receiver among them.
use Rattle.std.proofs.Common.{◌≡◌, ◌∙◌, ◌==◌, ℕ, Bool, true, false, true≢false, if◌then◌else◌, length, Option, Some, None, Result, Ok, Err, refl, sym}
use Rattle.b2_atom.specs.Tree.{Trees}
use Rattle.b2_base.specs.declared.codes.TheConstants.{X76_LOCATOR_OR_FIELD}
use Rattle.b2_matalpha.specs.Moves.{moved_places}
use Rattle.b2_vars.specs.Calls.{redim_code, with_change}
use Rattle.b2_vars.specs.Tables.{VarsState}
use Rattle.b2_vars.specs.Variables.{reshaped}
use Rattle.b2_vars.specs.declared.name.Var.{Var}
use Rattle.b2_expr.specs.Answers.{TextAnswer}
use Rattle.b2_expr.specs.Value.{context_of}
use Rattle.b2_expr.specs.Workspace.{ChangesWhereReached, Reaches, counts_as_reached, surroundings_of}
use Rattle.b2_expr.proofs.Reached.{among_reaches, stay}
use Rattle.b2_receiver.specs.Assigning.{unless_refused}
use Rattle.b2_receiver.proofs.Reached.{given_bytes_reaches}
use Rattle.b2_access.proofs.Tables.{each_row}
use Rattle.b2_stmt_mat.specs.Arrays.{Families, all_bytes, families, named_bytes, shape_in}
use Rattle.b2_stmt_mat.specs.ByteArrays.{all_or_refused, copied, copies_found, copy_in, move_code, move_in, moved, moved_by, moves_found, refusal_of, sort_in, sorted, sorted_bytes, sorts_found}
use Rattle.b2_stmt_mat.specs.Formulas.{assignment_in}
use Rattle.b2_stmt_mat.specs.Matrices.{Made, assigns_found, made_of, made_or_refused, matrix_assigned}
use Rattle.b2_stmt_mat.specs.Plan.{Changes, changes, changing_rows, left_out}
use Rattle.b2_stmt_mat.specs.Redimensioning.{redimensioned, redimensioned_in, redimensions_found}
use Rattle.b2_stmt_mat.specs.Searching.{found, given_found, search_in, searches_found}
use Rattle.b2_stmt_mat.specs.declared.byte_arrays.ArrayCopy.{ArrayCopy}
use Rattle.b2_stmt_mat.specs.declared.byte_arrays.ArrayMove.{ArrayMove}
use Rattle.b2_stmt_mat.specs.declared.byte_arrays.ArraySort.{ArraySort}
use Rattle.b2_stmt_mat.specs.declared.formulas.MatrixAssignment.{MatrixAssignment}
use Rattle.b2_stmt_mat.specs.declared.redimensioning.Redimensioned.{Redimensioned}
use Rattle.b2_stmt_mat.specs.declared.searching.Search.{Search}

-- what is made goes into an array, or nothing changes
made_where_reached : (v : Var) (r : Result Made ℕ) (old : VarsState) → counts_as_reached (made_or_refused v r old).code ≡ false → (made_or_refused v r old).vars ≡ old
made_where_reached v (Ok m) old h = absurd (true≢false h)
made_where_reached v (Err code) old h = refl

sorted_where_reached : (v : Var) (r : TextAnswer) (old : VarsState) → counts_as_reached (all_or_refused v r old).code ≡ false → (all_or_refused v r old).vars ≡ old
sorted_where_reached v (Ok bytes) old h = absurd (true≢false h)
sorted_where_reached v (Err code) old h = refl

shaped_where_reached : (o : Option ℕ) (old after : VarsState) → counts_as_reached (unless_refused o old (record { vars = after; code = None })).code ≡ false → (unless_refused o old (record { vars = after; code = None })).vars ≡ old
shaped_where_reached None old after h = absurd (true≢false h)
shaped_where_reached (Some code) old after h = refl

-- a move ends without a code, or with X76, after which the elements before the locator stay moved
move_counts : (b : Bool) (n : ℕ) → counts_as_reached (refusal_of (if b then Ok n else Err X76_LOCATOR_OR_FIELD)) ≡ true
move_counts true n = refl
move_counts false n = refl

always_reached : (code : Option ℕ) → counts_as_reached code ≡ true → counts_as_reached code ≡ false → ⊥
always_reached code is h = true≢false (sym is ∙ h)

move_where_reached : (m : ArrayMove) (f : Families) → ChangesWhereReached (moved m f)
move_where_reached m f old h =
    absurd (always_reached (move_code m f) (move_counts (length (moved_places (named_bytes (all_bytes m.of f)) (shape_in m.of f).len (moved_by m f)) == length (moved_by m f)) (length (moved_by m f))) h)

copy_where_reached : (m : ArrayCopy) (f : Families) → ChangesWhereReached (copied m f)
copy_where_reached m f old h = absurd (true≢false h)

-- each statement, by what was found of it
assigns_reach : (r : Result MatrixAssignment ℕ) → Reaches (assigns_found r)
assigns_reach (Ok a) w =
    let f = families (surroundings_of w) in
    among_reaches a.to.global (matrix_assigned a w.setting.mode f) (λ old h. made_where_reached a.to.var (made_of a w.setting.mode f) old h) w
assigns_reach (Err code) w = stay w.globals

redimensions_reach : (r : Result Redimensioned ℕ) → Reaches (redimensions_found r)
redimensions_reach (Ok r) w =
    among_reaches r.array.global (redimensioned r) (λ old h. shaped_where_reached (redim_code r.array.var r.shape old.table) old (with_change r.array.var (reshaped r.array.var r.shape) old) h) w
redimensions_reach (Err code) w = stay w.globals

moves_reach : (r : Result ArrayMove ℕ) → Reaches (moves_found r)
moves_reach (Ok m) w = among_reaches m.to.global (moved m (families (surroundings_of w))) (move_where_reached m (families (surroundings_of w))) w
moves_reach (Err code) w = stay w.globals

sorts_reach : (r : Result ArraySort ℕ) → Reaches (sorts_found r)
sorts_reach (Ok m) w =
    let f = families (surroundings_of w) in
    among_reaches m.to.global (sorted m f) (λ old h. sorted_where_reached m.to.var (sorted_bytes m f) old h) w
sorts_reach (Err code) w = stay w.globals

copies_reach : (r : Result ArrayCopy ℕ) → Reaches (copies_found r)
copies_reach (Ok m) w = among_reaches m.to.global (copied m (families (surroundings_of w))) (copy_where_reached m (families (surroundings_of w))) w
copies_reach (Err code) w = stay w.globals

found_reaches : (a : Search) (r : TextAnswer) → Reaches (given_found a r)
found_reaches a (Ok bytes) w = given_bytes_reaches a.to bytes w
found_reaches a (Err code) w = stay w.globals

searches_reach : (r : Result Search ℕ) → Reaches (searches_found r)
searches_reach (Ok a) w = found_reaches a (found a (families (surroundings_of w))) w
searches_reach (Err code) w = stay w.globals

-- each statement, by its row
abbrev EachReaches : Changes → Type 0
EachReaches change = (t : Trees) → Reaches (change t)

pub change_reaches : (r : ℕ) → EachReaches (changes r)
change_reaches r =
    each_row EachReaches changing_rows left_out r (
      (λ t w. assigns_reach (assignment_in (context_of w) t) w),
      (
        (λ t w. redimensions_reach (redimensioned_in (context_of w) t) w),
        (
          (λ t w. searches_reach (search_in (context_of w) t) w),
          (
            (λ t w. moves_reach (move_in (context_of w) t) w),
            ((λ t w. sorts_reach (sort_in (context_of w) t) w), ((λ t w. copies_reach (copy_in (context_of w) t) w), tt)),
          ),
        ),
      ),
    ) (λ t w. stay w.globals)
