-- The length of an alpha scalar of DIM and COM, by its row.
use Rattle.std.proofs.Common.{◌≡◌, ◌==◌, true, false, Ok, sym, ap, ◌∙◌}
use Rattle.b2_base.specs.Byte as byte
use Rattle.b2_base.specs.Lexical.{first}
use Rattle.b2_atom.specs.Words.{Text}
use Rattle.b2_atom.specs.Tree.{Trees}
use Rattle.b2_atom.specs.Grammar.{starts}
use Rattle.b2_atom.specs.declared.words.Origin.TheVariants.{Atoms}
use Rattle.b2_atom.specs.declared.rows.TheConstants as row
use Rattle.b2_atom.specs.declared.forms.Start.TheVariants as start
use Rattle.b2_rows.specs.Optional.{maybe_phrase, maybe_tree, after_maybe}
use Rattle.b2_rows.specs.Rows.{is_phrase, tree_at, after_phrase}
use Rattle.b2_rows.proofs.Optional.{begun_part, begun_rest, begun_tree, left_out_rest, left_out_tree}
use Rattle.b2_expr.specs.Answers.{◌>>=◌}
use Rattle.b2_expr.specs.Functions.{fixed}
use Rattle.b2_expr.specs.Scope.{Context}
use Rattle.b2_expr.specs.Value.{value}
use Rattle.b2_expr.specs.declared.operators.Level.TheVariants as level
use Rattle.b2_dims.specs.Dimensions.{tested_length}
use Rattle.b2_stmt_var.specs.Dimensions.{length_alone, lone_shape}
use Rattle.b2_stmt_var.proofs.LengthRows.{length_read}

-- the shape of an alpha scalar
abbrev Alone : Text → Type 0
Alone t = (first t == byte.opening) ≡ false

length_here : (t : Text) → maybe_phrase start.Numeric row.LENGTH t ≡ true → starts Atoms start.Numeric t ≡ true → is_phrase row.LENGTH t ≡ true
length_here t ok is = begun_part start.Numeric row.LENGTH t ok is

pub lone_sum : (t : Text) → maybe_phrase start.Numeric row.LENGTH t ≡ true → Alone t → starts Atoms start.Numeric t ≡ true → is_phrase row.SUM t ≡ true
lone_sum t ok alone is = (length_read t alone (length_here t ok is)).0

pub lone_is : (s : Context) (t : Text) → maybe_phrase start.Numeric row.LENGTH t ≡ true → Alone t → starts Atoms start.Numeric t ≡ true → lone_shape s true (maybe_tree start.Numeric row.LENGTH t)
    ≡ (value s level.Sum (tree_at row.SUM t) >>= (λ x. tested_length true (fixed x)) >>= (λ len. Ok (record { rows = 0; cols = 0; len = len })))
unfolding lone_shape length_alone
lone_is s t ok alone is =
    ap (lone_shape s true) (begun_tree start.Numeric row.LENGTH t is)
    ∙ sym (ap (λ (a : Trees). value s level.Sum a >>= (λ x. tested_length true (fixed x)) >>= (λ len. Ok (record { rows = 0; cols = 0; len = len }))) (length_read t alone (length_here t ok is)).1)

pub lone_rest : (t : Text) → maybe_phrase start.Numeric row.LENGTH t ≡ true → Alone t → starts Atoms start.Numeric t ≡ true → after_maybe start.Numeric row.LENGTH t ≡ after_phrase row.SUM t
lone_rest t ok alone is = begun_rest start.Numeric row.LENGTH t is ∙ sym (length_read t alone (length_here t ok is)).2

pub lone_usual : (s : Context) (t : Text) → starts Atoms start.Numeric t ≡ false → lone_shape s true (maybe_tree start.Numeric row.LENGTH t) ≡ Ok (record { rows = 0; cols = 0; len = 16 })
unfolding lone_shape length_alone
lone_usual s t is = ap (lone_shape s true) (left_out_tree start.Numeric row.LENGTH t is)

pub no_lone_rest : (t : Text) → starts Atoms start.Numeric t ≡ false → after_maybe start.Numeric row.LENGTH t ≡ t
no_lone_rest t is = left_out_rest start.Numeric row.LENGTH t is
