-- Whose `@` variables a statement wants to be lent.
use Rattle.std.specs.Prelude.{ℕ, ◌==◌, ◌||◌, Bool, List, Option, None, Some, if◌then◌else◌}
use Rattle.b2_atom.specs.Tree.{Trees, calls_function, names_global}
use Rattle.b2_flow.specs.declared.frame.Place.{Place}
use Rattle.b2_text.specs.Program.{Lines}
use Rattle.b2_access.specs.Placed.{Statement, statement_placed}
use Rattle.b2_access.specs.declared.lending.At.{At}
use Rattle.b2_access.specs.declared.lending.At.TheVariants as at
use Rattle.b2_access.specs.declared.private.Private.{Private}

-- whether a statement names `@` variables: by itself, or it may by a function that it calls
abbrev pub names_globals : Trees → Bool
names_globals t = names_global t || calls_function t

-- In a text of its own those of the partition that is selected, or its own where none is; in the text of another home those of that home.
abbrev pub selected : Option (List ℕ) → At
selected None = at.Home
selected (Some name) = at.Named name

abbrev pub lent_at : ℕ → Private → At
lent_at home me = if home == me.part then selected me.global else at.Home

-- a statement at home wants none where it names none
abbrev pub wanted_by : ℕ → Trees → Private → At
wanted_by home t me = if names_globals t then lent_at home me else at.None

-- and so does a place where no statement is
abbrev pub wanted_there : ℕ → Option Statement → Private → At
wanted_there home None me = at.None
wanted_there home (Some u) me = wanted_by home u.tree me

abbrev pub wanted_at : Place → Private → Lines → At
wanted_at p me home = wanted_there p.home (statement_placed p me.immediate home) me
