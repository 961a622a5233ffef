-- A row that may be left out: how it stands at the end of a row, and what holds where it begins and where it doesn't.
use Rattle.std.proofs.Common.{◌≡◌, ◌≤◌, arith, ℕ, Bool, true, false, if◌then◌else◌, length, refl, sym, ap, ◌∙◌}
use Rattle.b2_atom.specs.Words.{Text}
use Rattle.b2_atom.specs.Tree.Trees.{Done, In}
use Rattle.b2_atom.specs.Grammar.{starts}
use Rattle.b2_atom.specs.declared.words.Origin.TheVariants.{Atoms}
use Rattle.b2_atom.specs.declared.forms.Start.{Start}
use Rattle.b2_rows.specs.Rows.{is_phrase, tree_at, after_phrase, When}
use Rattle.b2_rows.specs.Optional.{maybe_phrase, maybe_tree, after_maybe}
use Rattle.b2_rows.proofs.Levels.{part_no_longer}

-- as the last item of a row
by_test : (b : Bool) (x : Bool) → When b ((x ≡ true) × Unit {0}) (Unit {0}) → (if b then x else true) ≡ true
by_test true x h = h.0
by_test false x h = refl

pub maybe_stands : (s : Start) (n : ℕ) (t : Text) → When (starts Atoms s t) ((is_phrase n t ≡ true) × Unit {0}) (Unit {0}) → maybe_phrase s n t ≡ true
unfolding maybe_phrase
maybe_stands s n t h = by_test (starts Atoms s t) (is_phrase n t) h

-- where it begins
pub begun_part : (s : Start) (n : ℕ) (t : Text) → maybe_phrase s n t ≡ true → starts Atoms s t ≡ true → is_phrase n t ≡ true
unfolding maybe_phrase
begun_part s n t h is = sym (ap (λ (b : Bool). if b then is_phrase n t else true) is) ∙ h

pub begun_tree : (s : Start) (n : ℕ) (t : Text) → starts Atoms s t ≡ true → maybe_tree s n t ≡ In 1 (tree_at n t) Done
unfolding maybe_tree
begun_tree s n t is = ap (λ (b : Bool). if b then In 1 (tree_at n t) Done else In 0 Done Done) is

pub begun_rest : (s : Start) (n : ℕ) (t : Text) → starts Atoms s t ≡ true → after_maybe s n t ≡ after_phrase n t
unfolding after_maybe
begun_rest s n t is = ap (λ (b : Bool). if b then after_phrase n t else t) is

-- where it doesn't
pub left_out_tree : (s : Start) (n : ℕ) (t : Text) → starts Atoms s t ≡ false → maybe_tree s n t ≡ In 0 Done Done
unfolding maybe_tree
left_out_tree s n t is = ap (λ (b : Bool). if b then In 1 (tree_at n t) Done else In 0 Done Done) is

pub left_out_rest : (s : Start) (n : ℕ) (t : Text) → starts Atoms s t ≡ false → after_maybe s n t ≡ t
unfolding after_maybe
left_out_rest s n t is = ap (λ (b : Bool). if b then after_phrase n t else t) is

no_longer_by : (b : Bool) (u t : Text) → length u ≤ length t → length (if b then u else t) ≤ length t
no_longer_by true u t h = h
no_longer_by false u t h = omega arith

pub maybe_no_longer : (s : Start) (n : ℕ) (t : Text) → length (after_maybe s n t) ≤ length t
unfolding after_maybe
maybe_no_longer s n t = no_longer_by (starts Atoms s t) (after_phrase n t) t (part_no_longer n t)
