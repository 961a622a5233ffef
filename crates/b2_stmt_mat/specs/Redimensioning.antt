-- MAT REDIM: another shape for an array.
use Rattle.std.specs.Prelude.{ℕ, ◌==◌, Bool, None, Result, Ok, Err}
use Rattle.b2_base.specs.declared.codes.TheConstants.{S20_VARIABLE}
use Rattle.b2_atom.specs.Words.{Text}
use Rattle.b2_atom.specs.Tree.{Trees}
use Rattle.b2_atom.specs.Tree.Trees.{Put, In}
use Rattle.b2_vars.specs.Assigned.{Assigned}
use Rattle.b2_vars.specs.Calls.{redim_code, with_change}
use Rattle.b2_vars.specs.Tables.{VarsState}
use Rattle.b2_vars.specs.Variables.{reshaped}
use Rattle.b2_dims.specs.Dimensions.{array_shape}
use Rattle.b2_expr.specs.Answers.{◌>>=◌}
use Rattle.b2_expr.specs.Scope.{Context}
use Rattle.b2_expr.specs.Value.{context_of, token_text}
use Rattle.b2_expr.specs.Workspace.{WorkState, WorkLeft, among, refused}
use Rattle.b2_receiver.specs.Assigning.{unless_refused}
use Rattle.b2_stmt_mat.specs.Arrays.{array_of, families, shape_in}
use Rattle.b2_stmt_mat.specs.declared.redimensioning.Redimensioned.{Redimensioned}

-- the array, and then its shape; its length stays where none is written
abbrev pub redimensioned_of : Context → Bool → Text → Trees → Result Redimensioned ℕ
redimensioned_of s alpha name t =
    array_of s.around alpha name >>= (λ v. array_shape s (shape_in v (families s.around)).len alpha t >>= (λ shape. Ok (record { array = v; shape = shape })))

unfoldable pub redimensioned_in : Context → Trees → Result Redimensioned ℕ
redimensioned_in s (Put mat (Put redim (In n (Put name end) (In m shape more)))) = redimensioned_of s (n == 1) (token_text name) shape
redimensioned_in s t = Err S20_VARIABLE

-- its values stay along rows; P55 where the shape takes more bytes than there are
abbrev pub redimensioned : Redimensioned → VarsState → Assigned
redimensioned r old = unless_refused (redim_code r.array.var r.shape old.table) old (record { vars = with_change r.array.var (reshaped r.array.var r.shape) old; code = None })

abbrev pub redimensions_found : Result Redimensioned ℕ → WorkState → WorkLeft
redimensions_found (Ok r) w = among r.array.global (redimensioned r) w
redimensions_found (Err code) w = refused code w

abbrev pub redimensions : Trees → WorkState → WorkLeft
redimensions t w = redimensions_found (redimensioned_in (context_of w) t) w
