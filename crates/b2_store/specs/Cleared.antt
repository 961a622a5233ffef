-- The lines of a text go, and the `@` variables of a partition, where there are such.
use Rattle.std.specs.Prelude.{ℕ, Option, Some, None}
use Rattle.b2_text.specs.Program.{TextState}
use Rattle.b2_vars.specs.Tables.{VarsState}
use Rattle.b2_access.specs.declared.objects.Object.TheVariants as object
use Rattle.b2_access.specs.AccessRows.{no_globals, no_lines}
use Rattle.b2_access.specs.Store.{StoreState, content, put}

abbrev pub text_cleared_at : Option TextState → ℕ → StoreState → StoreState
text_cleared_at None p s = s
text_cleared_at (Some t) p s = put (object.Text p) (no_lines t) s

abbrev pub text_cleared : ℕ → StoreState → StoreState
text_cleared p s = text_cleared_at (content s (object.Text p)) p s

abbrev pub globals_cleared_at : Option VarsState → ℕ → StoreState → StoreState
globals_cleared_at None p s = s
globals_cleared_at (Some v) p s = put (object.Globals p) (no_globals v) s

abbrev pub globals_cleared : ℕ → StoreState → StoreState
globals_cleared p s = globals_cleared_at (content s (object.Globals p)) p s
