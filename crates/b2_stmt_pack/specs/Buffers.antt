-- Buffers into which something is packed, and those out of which something is read.
use Rattle.std.specs.Prelude.{ℕ, List, length, Option, None, Some, Result, Ok, Err}
use Rattle.b2_vars.specs.Assigned.{Assigned}
use Rattle.b2_vars.specs.Tables.{VarsState}
use Rattle.b2_vars.specs.declared.name.Var.{Var}
use Rattle.b2_rows.specs.declared.leaves.Name.{Name}
use Rattle.b2_expr.specs.Answers.{◌>>=◌}
use Rattle.b2_expr.specs.Named.{variables_of}
use Rattle.b2_expr.specs.Scope.{Surroundings}
use Rattle.b2_expr.specs.Workspace.{WorkState, WorkLeft, among, refused}
use Rattle.b2_receiver.specs.Assigning.{buffer_bytes, bytes_changed, is_global_buffer, unless_refused}
use Rattle.b2_receiver.specs.declared.receiver.Buffer.{Buffer}
use Rattle.b2_receiver.specs.declared.receiver.Buffer.TheVariants as buffer_kind

-- the name of a buffer, and the variables among which it is: X77 where there are no `@` variables
abbrev pub buffer_name : Buffer → Var
buffer_name (buffer_kind.Value to) = to.element.var
buffer_name (buffer_kind.Array a) = a.var

abbrev pub name_of : Buffer → Name
name_of b = record { letter = (buffer_name b).letter; digit = (buffer_name b).digit; alpha = (buffer_name b).alpha; global = is_global_buffer b }

abbrev pub buffer_variables : Surroundings → Buffer → Result VarsState ℕ
buffer_variables e b = variables_of e (name_of b)

-- new bytes, where there is no code, and else the old ones
abbrev pub where_none : Option ℕ → List ℕ → List ℕ → List ℕ
where_none None new old = new
where_none (Some code) new old = old

-- how many bytes a buffer has, and the code of what is packed, which goes by that
abbrev pub room_in : Buffer → VarsState → Result ℕ ℕ
room_in of vars = buffer_bytes of vars >>= (λ bytes. Ok (length bytes))

abbrev pub room_code : (ℕ → Option ℕ) → Result ℕ ℕ → Option ℕ
room_code code (Ok room) = code room
room_code code (Err c) = Some c

-- A buffer after packing: with a code of what is packed, or of the buffer, nothing changes.
abbrev pub packed_by : (ℕ → Option ℕ) → (List ℕ → List ℕ) → Buffer → VarsState → Assigned
packed_by code change to old = unless_refused (room_code code (room_in to old)) old (bytes_changed (λ bytes. where_none (code (length bytes)) (change bytes) bytes) to old)

-- the buffer first, and then what is packed into it
abbrev pub packs_to : {A : Type 0} → (A → Buffer → VarsState → Assigned) → Result Buffer ℕ → Result A ℕ → WorkState → WorkLeft
packs_to packed (Ok to) (Ok xs) w = among (is_global_buffer to) (packed xs to) w
packs_to packed (Ok to) (Err code) w = refused code w
packs_to packed (Err code) xs w = refused code w

-- what the bytes of a buffer are read as
abbrev pub read_in : {A : Type 0} → (List ℕ → Result A ℕ) → Buffer → VarsState → Result A ℕ
read_in read of vars = buffer_bytes of vars >>= read

abbrev pub read_from : {A : Type 0} → (List ℕ → Result A ℕ) → Result Buffer ℕ → Surroundings → Result A ℕ
read_from read of e = of >>= (λ b. buffer_variables e b >>= (λ vars. read_in read b vars))
