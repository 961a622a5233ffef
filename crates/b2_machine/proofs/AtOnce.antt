-- A statement that was found in a line of the program: what its step begins with is what is planned there.
use Rattle.std.proofs.Common.{◌≡◌, ℕ, ◌==◌, Bool, true, false, true≢false, if◌then◌else◌, List, refl, sym, ap, ◌∙◌, arith, Option, Some}
use Rattle.std.proofs.lemmas.Bool.Decides.{nat_tests}
use Rattle.b2_atom.specs.declared.rows.TheConstants as row
use Rattle.b2_flow.specs.declared.frame.Place.{Place}
use Rattle.b2_access.specs.Lending.{SeenLent}
use Rattle.b2_access.specs.Placed.{Statement, line_named, statement_placed, statement_on}
use Rattle.b2_access.specs.Planning.{Planning}
use Rattle.b2_access.specs.declared.private.Private.{Private}
use Rattle.b2_language.specs.Languages.{AreLawful, Ways}
use Rattle.b2_machine.specs.Statements.{Begun, begins, begins_where, begun, builder_of, plan_by}
use Rattle.b2_machine.specs.declared.statements.Builder.{Builder}
use Rattle.b2_machine.specs.declared.statements.Builder.TheVariants as builder

chosen : {A : Type 0} (b : Bool) (x y : A) → b ≡ true → (if b then x else y) ≡ x
chosen b x y is = ap (λ (c : Bool). if c then x else y) is

otherwise : {A : Type 0} (b : Bool) (x y : A) → b ≡ false → (if b then x else y) ≡ y
otherwise b x y is = ap (λ (c : Bool). if c then x else y) is

module _ (ways : Ways) (lawful : AreLawful ways) where
  -- LIST is none of the language's rows
  no_list : (r : ℕ) → ways.built r ≡ true → (r == row.LIST) ≡ false
  no_list r is = by (r == row.LIST) refl
    where
      by : (b : Bool) → (r == row.LIST) ≡ b → b ≡ false
      by true e = let same : r ≡ row.LIST = grind (arith, nat_tests) in absurd (true≢false (sym is ∙ ap ways.built same ∙ lawful.no_list))
      by false e = refl

  built : (u : Statement) → ways.built u.row ≡ true → builder_of ways u ≡ builder.Language u.row
  built u is = otherwise (u.row == row.LIST) _ _ (no_list u.row is) ∙ chosen (ways.built u.row) _ _ is

  pub begun_where_found : (p : Place) (me : Private) (s : SeenLent) (u : Statement) (o : Builder) (x : Planning) (b : Begun)
      → Some u ≡ statement_placed p me.immediate s.home.lines → o ≡ builder_of ways u → x ≡ plan_by ways o p me s → b ≡ begun x o p s.home.lines → b ≡ begins ways p me s
  begun_where_found p me s u o x b is_unit is_builder is_x is_b =
      is_b
      ∙ ap (λ (y : Planning). begun y o p s.home.lines) is_x
      ∙ ap (λ (k : Builder). begun (plan_by ways k p me s) k p s.home.lines) is_builder
      ∙ ap (λ (o : Option Statement). begins_where ways o p me s) is_unit

  pub begun_at_once : (p : Place) (me : Private) (s : SeenLent) (line : List ℕ) (u : Statement) (x : Planning) (b : Begun)
      → line_named me.immediate s.home.lines p.line ≡ Some line → Some u ≡ statement_on (Some line) p.unit → ways.built u.row ≡ true
      → x ≡ ways.plan u.row me s → b ≡ begun x (builder.Language u.row) p s.home.lines → b ≡ begins ways p me s
  begun_at_once p me s line u x b is_line is_unit is is_x is_b =
      begun_where_found p me s u (builder.Language u.row) x b (is_unit ∙ sym (ap (λ (l : Option (List ℕ)). statement_on l p.unit) is_line)) (sym (built u is)) is_x is_b
