-- MAT SEARCH: the places of bytes that stand in a relation to a value.
use Rattle.std.specs.Prelude.{ℕ, ◌==◌, List, [], length, Result, Ok, Err, if◌then◌else◌}
use Rattle.b2_base.specs.declared.codes.TheConstants.{S20_VARIABLE}
use Rattle.b2_alpha.specs.Values.{padded}
use Rattle.b2_atom.specs.Tree.{Trees}
use Rattle.b2_atom.specs.Tree.Trees.{Put, In}
use Rattle.b2_rows.specs.Values.{relation_of}
use Rattle.b2_vars.specs.Assigned.{Assigned}
use Rattle.b2_vars.specs.Tables.{VarsState}
use Rattle.b2_matalpha.specs.Locators.{received}
use Rattle.b2_matalpha.specs.Searches.{found_places}
use Rattle.b2_expr.specs.Answers.{TextAnswer, ◌>>=◌}
use Rattle.b2_expr.specs.Functions.{whole_between}
use Rattle.b2_expr.specs.Scope.{Context}
use Rattle.b2_expr.specs.Value.{context_of, text, token_text, value}
use Rattle.b2_expr.specs.Workspace.{WorkState, WorkLeft, refused, surroundings_of}
use Rattle.b2_expr.specs.declared.operators.Level.TheVariants as level
use Rattle.b2_receiver.specs.Assigning.{assigned_bytes, buffer_bytes, is_global_buffer, unassigned}
use Rattle.b2_receiver.specs.Receiving.{given_bytes}
use Rattle.b2_receiver.specs.Receivers.{alpha_receiver, buffer}
use Rattle.b2_receiver.specs.declared.receiver.AlphaReceiver.{AlphaReceiver}
use Rattle.b2_receiver.specs.declared.receiver.Buffer.TheVariants as buffer_kind
use Rattle.b2_stmt_mat.specs.Arrays.{Families, families, named_bytes, vars_of}
use Rattle.b2_stmt_mat.specs.declared.searching.Search.{Search}

-- by how many places the search goes on, 1 where none are written
unfoldable pub step_in : Context → Trees → Result ℕ ℕ
step_in s (In n (Put word (In m sum end)) more) = value s level.Sum sum >>= whole_between 1 65535
step_in s t = Ok 1

-- the bytes that are searched, the relation, the value, the receiver and the step, from left to right
unfoldable pub search_in : Context → Trees → Result Search ℕ
search_in s (Put mat (Put search (In n of (Put comma (Put relation (In m want (Put to (In k receiver step)))))))) =
    buffer s of >>= (λ of. text s want >>= (λ want. alpha_receiver s receiver >>= (λ to. step_in s step >>= (λ step. Ok (record { of = of; relation = relation_of (token_text relation); want = want; to = to; step = step })))))
search_in s t = Err S20_VARIABLE

-- nothing is found where no bytes are wanted
abbrev pub places_of : Search → List ℕ → List ℕ
places_of a bytes = if length a.want == 0 then [] else found_places (named_bytes bytes) a.relation a.want a.step

-- the receiver's bytes with the places that are found at their front, as locators
abbrev pub receiver_bytes : AlphaReceiver → VarsState → TextAnswer
receiver_bytes to old = buffer_bytes (buffer_kind.Value to) old >>= (λ bytes. Ok (padded to.portion.count bytes))

abbrev pub found : Search → Families → TextAnswer
found a f =
    buffer_bytes a.of (vars_of (is_global_buffer a.of) f) >>= (λ bytes. receiver_bytes a.to (vars_of a.to.element.global f) >>= (λ into. Ok (received (places_of a bytes) into)))

abbrev pub given : AlphaReceiver → TextAnswer → VarsState → Assigned
given to (Ok bytes) old = assigned_bytes to bytes old
given to (Err code) old = unassigned code old

-- the receiver takes them, or nothing changes
abbrev pub given_found : Search → TextAnswer → WorkState → WorkLeft
given_found a (Ok bytes) w = given_bytes a.to bytes w
given_found a (Err code) w = refused code w

abbrev pub searched : Search → Families → VarsState → Assigned
searched a f old = given a.to (found a f) old

abbrev pub searches_found : Result Search ℕ → WorkState → WorkLeft
searches_found (Ok a) w = given_found a (found a (families (surroundings_of w))) w
searches_found (Err code) w = refused code w

abbrev pub searches : Trees → WorkState → WorkLeft
searches t w = searches_found (search_in (context_of w) t) w
