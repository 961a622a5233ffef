-- A row that may be left out, and the items after it.
use Rattle.std.proofs.Common.{◌≡◌, ℕ, Bool, true, false, if◌then◌else◌, refl}
use Rattle.b2_atom.specs.Words.{Text}
use Rattle.b2_atom.specs.Tree.{Trees, also}
use Rattle.b2_atom.specs.Tree.Trees.{Done, In}
use Rattle.b2_atom.specs.Grammar.{starts}
use Rattle.b2_atom.specs.declared.words.Origin.TheVariants.{Atoms}
use Rattle.b2_atom.specs.declared.forms.Start.{Start}
use Rattle.b2_rows.specs.Rows.{is_phrase, tree_at, after_phrase, When}
use Rattle.b2_rows.specs.Optional.{maybe_phrase, maybe_tree, after_maybe}

maybe_by : (b x : Bool) (u t : Text) (v : Text → Type 0) → When b ((x ≡ true) × v u) (v t) → ((if b then x else true) ≡ true) × v (if b then u else t)
maybe_by true x u t v h = h
maybe_by false x u t v h = (refl, h)

pub maybe_then : (s : Start) (n : ℕ) (t : Text) (v : Text → Type 0) → When (starts Atoms s t) ((is_phrase n t ≡ true) × v (after_phrase n t)) (v t) → (maybe_phrase s n t ≡ true) × v (after_maybe s n t)
unfolding maybe_phrase after_maybe
maybe_then s n t v h = maybe_by (starts Atoms s t) (is_phrase n t) (after_phrase n t) t v h

put_by : (b : Bool) (x : Trees) (f : Text → Trees) (u t : Text) → (if b then In 1 x (f u) else In 0 Done (f t)) ≡ also (if b then In 1 x Done else In 0 Done Done) (f (if b then u else t))
put_by true x f u t = refl
put_by false x f u t = refl

pub maybe_put : (s : Start) (n : ℕ) (t : Text) (f : Text → Trees)
    → (if starts Atoms s t then In 1 (tree_at n t) (f (after_phrase n t)) else In 0 Done (f t)) ≡ also (maybe_tree s n t) (f (after_maybe s n t))
unfolding maybe_tree after_maybe
maybe_put s n t f = put_by (starts Atoms s t) (tree_at n t) f (after_phrase n t) t
