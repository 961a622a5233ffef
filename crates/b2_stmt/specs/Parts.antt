-- DEFFN @PART and SELECT @PART: the name that a partition declares, and the one that it selects.
use Rattle.std.specs.Prelude.{ℕ, ◌==◌, List, [], Option, None, Some, if◌then◌else◌}
use Rattle.std.specs.Str.{bytes_eq}
use Rattle.b2_base.specs.Names.{name8_of}
use Rattle.b2_base.specs.declared.codes.TheConstants.{X77_NO_PARTITION}
use Rattle.b2_atom.specs.Tokens.Token.{Plain}
use Rattle.b2_atom.specs.Tree.{Trees}
use Rattle.b2_atom.specs.Tree.Trees.{Put, In}
use Rattle.b2_rows.specs.Values.{literal_of}
use Rattle.b2_access.specs.Steering.{Steered, control_of, unsteered}
use Rattle.b2_access.specs.Working.{work_of}
use Rattle.b2_access.specs.declared.accesses.Access.{Access}
use Rattle.b2_access.specs.declared.accesses.Access.TheVariants as access
use Rattle.b2_access.specs.declared.accesses.Answer.{Answer}
use Rattle.b2_access.specs.declared.accesses.Answer.TheVariants as answer
use Rattle.b2_access.specs.declared.planned.Outcome.TheVariants as outcome
use Rattle.b2_access.specs.declared.private.Private.{Private}

-- the name after @PART, None where the bytes that are written aren't one
abbrev pub part_bytes : Trees → List ℕ
part_bytes (Put word (In n (Put (Plain k text) end) more)) = literal_of text
part_bytes t = []

abbrev pub part_name : Trees → Option (List ℕ)
part_name t = name8_of (part_bytes t)

-- the name that DEFFN is to declare, where it is DEFFN @PART, and the one that SELECT @PART is to select
abbrev pub declared_by : Trees → Option (List ℕ)
declared_by (Put word (In n part end)) = if n == 1 then part_name part else None
declared_by t = None

abbrev pub selected_by : Trees → Option (List ℕ)
selected_by (Put word (In n part end)) = part_name part
selected_by t = None

-- another name that was declared before is given up
abbrev pub given_up : List ℕ → Option (List ℕ) → Option (List ℕ)
given_up name None = None
given_up name (Some old) = if bytes_eq old name then None else Some old

abbrev pub asks_to_declare : Option (List ℕ) → Option (List ℕ) → Option Access
asks_to_declare old None = None
asks_to_declare old (Some name) = Some (access.Declare name (given_up name old))

abbrev pub asks_to_find : Option (List ℕ) → Option Access
asks_to_find None = None
asks_to_find (Some name) = Some (access.FindPart name)

-- what came of declaring a name or of looking for who holds it: it is declared, somebody holds it, or a code; or nothing of the kind was
-- asked for
pub data PartCame : Type 0 where
  NameDeclared : List ℕ → PartCame
  PartFound : List ℕ → PartCame
  PartRefused : ℕ → PartCame
  NoPartAsked : PartCame

abbrev pub part_came : Access → Answer → PartCame
part_came (access.Declare name old) answer.Done = NameDeclared name
part_came (access.Declare name old) (answer.Refused c) = PartRefused c
part_came (access.FindPart name) (answer.Holder p) = PartFound name
part_came (access.FindPart name) answer.NoPart = PartRefused X77_NO_PARTITION
part_came x a = NoPartAsked

-- how a statement finishes by that, and else as it would
abbrev pub declares : List ℕ → Private → Steered
declares name me = record { work = record (control_of me) { declared = Some name }; outcome = outcome.Next }

abbrev pub selects_part : List ℕ → Private → Steered
selects_part name me = record { work = record (control_of me) { work = record (work_of me) { global = Some name } }; outcome = outcome.Next }

abbrev pub part_ends : PartCame → Steered → Private → Steered
part_ends (NameDeclared name) e me = declares name me
part_ends (PartFound name) e me = selects_part name me
part_ends (PartRefused c) e me = unsteered me (outcome.Failed c)
part_ends NoPartAsked e me = e
