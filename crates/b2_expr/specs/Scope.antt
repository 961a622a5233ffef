-- What expressions look at.
use Rattle.std.specs.Prelude.{ℕ, ◌==◌, ◌&&◌, Bool, true, false, option_map, Option, Some, None, if◌then◌else◌}
use Rattle.b2_dec.specs.Number.{Number}
use Rattle.b2_dec.specs.declared.number.Mode.{Mode}
use Rattle.b2_vars.specs.Tables.{VarsState}
use Rattle.b2_text.specs.Program.{TextState}
use Rattle.b2_atom.specs.declared.words.TheConstants as word
use Rattle.b2_rows.specs.declared.leaves.Name.{Name}
use Rattle.b2_expr.specs.Answers.{Answer}
use Rattle.b2_expr.specs.declared.scope.Env.{Env}
use Rattle.b2_expr.specs.declared.scope.Parameter.{Parameter}

-- a partition's own variables, the `@` variables where there are some, the text whose functions are called, how results
-- become numbers, the last code, the partition and its terminal
pub record Surroundings : Type 0 where
  pub own : VarsState
  pub globals : Option VarsState
  pub home : TextState
  pub mode : Mode
  pub err : ℕ
  pub part : ℕ
  pub term : ℕ

-- what an expression looks at: its surroundings, the parameter that hides the variable of its name, and what the functions
-- that it calls give by their names and arguments
pub record Context : Type 0 where
  pub around : Surroundings
  pub parameter : Option Parameter
  pub call : ℕ → Number → Answer

-- what the code lends as surroundings
abbrev pub surroundings : Env → Surroundings
surroundings e = record { own = e.own.now; globals = option_map (λ v. v.now) e.globals; home = e.home.now; mode = e.mode; err = e.err; part = e.part; term = e.term }

-- the last code, the partition or the terminal
abbrev pub kept_number : Surroundings → ℕ → ℕ
kept_number e c = if c == word.ERR then e.err else (if c == word.HASH_PART then e.part else e.term)

-- whether two numeric names are one
abbrev pub same_digit : Option ℕ → Option ℕ → Bool
same_digit None None = true
same_digit (Some a) (Some b) = a == b
same_digit a b = false

abbrev pub same_global : Bool → Bool → Bool
same_global true b = b
same_global false true = false
same_global false false = true

abbrev pub is_same_name : Name → Name → Bool
is_same_name a b = a.letter == b.letter && (same_digit a.digit b.digit && same_global a.global b.global)

-- the value of the parameter, where a name is its name
abbrev pub hidden_by : Option Parameter → Name → Option Number
hidden_by None name = None
hidden_by (Some p) name = if is_same_name p.name name then Some p.value else None
