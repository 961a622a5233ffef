-- A statement of the program that is planned at once.
use Rattle.std.specs.Prelude.{◌≡◌, ℕ, Bool, true, false}
use Rattle.b2_access.specs.Found.{IsFound, statement_found}
use Rattle.b2_access.specs.declared.placed.Found.{Found}
use Rattle.b2_access.specs.declared.private.Private.{Private}
use Rattle.b2_language.specs.Wanted.{names_globals}

-- a statement that was found at the place of a partition, in a line of the program at home, is planned at once: by its row, and
-- it names no `@` variables
pub record IsFoundAtOnce (at_once : ℕ → Bool) (f : Found) (me : Private) : Type 0 where
  pub found : IsFound f f.home.now.lines me
  pub local : names_globals (statement_found f).tree ≡ false
  pub row : at_once f.unit.now.row ≡ true
