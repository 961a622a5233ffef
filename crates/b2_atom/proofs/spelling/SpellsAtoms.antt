-- The atoms of tokens spell them.
use Rattle.std.proofs.Common.{◌≡◌, ℕ, Bool, true, false, if◌then◌else◌, ◌==◌, ◌&&◌, List, [], ◌∷◌, ◌++◌, length, refl, sym, ap, subst, ◌∙◌, arith, nat_lt, append-nil, Err}
use Rattle.b2_base.specs.Lexical.{all_printable, first, is_decimal}
use Rattle.b2_atom.specs.Words.{Text, is_short}
use Rattle.b2_atom.specs.Tokens.{Token, is_operand}
use Rattle.b2_atom.specs.Tokens.Token.{Coded, Short, Plain, Lined}
use Rattle.b2_atom.specs.Tree.{one}
use Rattle.b2_atom.specs.Grammar.{read_leaf}
use Rattle.b2_atom.specs.Spelling.{Begins, Spells, AllGood, Neighbours, good_token, is_whole, atoms_of_tokens}
use Rattle.b2_atom.specs.declared.words.Origin.{Origin}
use Rattle.b2_atom.specs.declared.words.Origin.TheVariants.{Atoms}
use Rattle.b2_atom.specs.declared.forms.Leaf.{Leaf}
use Rattle.b2_atom.specs.declared.forms.Leaf.TheVariants as leaf
use Rattle.b2_atom.specs.declared.output.Stop.TheVariants.{At}
use Rattle.std.proofs.lemmas.Bool.Decides.{nat_tests}
use Rattle.b2_atom.proofs.Booleans.{and_left, and_right, both, false_true}
use Rattle.b2_atom.proofs.typed.Characters.{ends_relation}
use Rattle.b2_atom.proofs.spelling.Begun.{begins_plain, begins_coded, begins_short, begins_lined}
use Rattle.b2_atom.proofs.spelling.SideBySide.{Showing, FirstOf, coded_first, short_first, plain_first, text_first, later, whole_width, not_empty, is_text, leaf_ends}
use Rattle.b2_atom.proofs.spelling.Lettered.{beg_shown}

-- free text is all that is left
pub begins_text : (o : Origin) (a : ℕ) (w : Text) (behind : List Token) → all_printable (a ∷ w) ≡ true → Begins o (Plain leaf.Text (a ∷ w)) behind (a ∷ w) []
unfolding read_leaf
begins_text o a w behind h = record {
  reads = λ code. ap (λ (b : Bool). if b then one (Plain leaf.Text (a ∷ w)) [] else Err (At code (length (a ∷ w)))) h;
  shorter = omega arith;
  class = λ c. cc;
  opens = λ c. cc;
  closes = λ c. cc;
  lets = λ c. cc;
  begs = λ c. cc;
  name = tt;
  hex = tt;
  line = tt;
}

-- what stands first where a token does
kind_first : (operand : Bool) (k : Leaf) (a : ℕ) (w : Text) (b : Bool) → is_text k ≡ b → is_whole k (a ∷ w) ≡ true → FirstOf operand (Plain k (a ∷ w)) a
kind_first operand leaf.Text a w b is h = text_first operand a (a ∷ w)
kind_first operand k a w true is h = cc
kind_first operand k a w false is h = plain_first operand k a w (whole_width k a w is h)

pub good_first : (operand : Bool) (k : Leaf) (w x : Text) → is_whole k w ≡ true → FirstOf operand (Plain k w) (first (w ++ x))
good_first operand k [] x h = absurd (not_empty k h)
good_first operand k (a ∷ w) x h = kind_first operand k a w (is_text k) refl h

line_first : (operand : Bool) (high low : ℕ) → FirstOf operand (Lined high low) 255
line_first operand high low = record { symbol = λ m o. cc; dollar = λ m n. cc; unrelated = λ m. refl; lined = λ m. refl }

short_unrelated : (c : ℕ) → is_short c ≡ true → ends_relation c ≡ true
short_unrelated c h = grind (arith, nat_tests)

atoms_first : (t u : Token) (us : List Token) → good_token u ≡ true → FirstOf (is_operand t) u (first (atoms_of_tokens (u ∷ us)))
atoms_first t (Coded d) us h = coded_first (is_operand t) d h
atoms_first t (Short c) us h = short_first (is_operand t) c c (short_unrelated c h)
atoms_first t (Plain k w) us h = good_first (is_operand t) k w (atoms_of_tokens us) h
atoms_first t (Lined high low) us h = line_first (is_operand t) high low

atoms_behind : Token → List Token → Text
atoms_behind t ts = atoms_of_tokens ts

atoms_shown : Showing Atoms atoms_behind
unfolding atoms_behind
atoms_shown = record { empty = λ t. refl; first_is = atoms_first; letters = λ c d us h k. refl }

coded_atoms : (c : ℕ) (ts : List Token) → AllGood ts → Neighbours (Coded c ∷ ts) → Begins Atoms (Coded c) ts (c ∷ atoms_of_tokens ts) (atoms_of_tokens ts)
unfolding atoms_behind
coded_atoms c ts g nb =
    begins_coded Atoms c ts (c ∷ atoms_of_tokens ts) (c ∷ atoms_of_tokens ts) (atoms_of_tokens ts) refl refl (omega arith) refl refl refl
    (beg_shown Atoms atoms_behind atoms_shown c ts g nb)

itself : (c : ℕ) → (c == c) ≡ true
itself c = grind (arith, nat_tests)

short_atoms : (c : ℕ) (ts : List Token) → is_short c ≡ true → Begins Atoms (Short c) ts (c ∷ atoms_of_tokens ts) (atoms_of_tokens ts)
short_atoms c ts h =
    begins_short Atoms c ts (c ∷ atoms_of_tokens ts) (c ∷ atoms_of_tokens ts) (atoms_of_tokens ts) refl (both (is_short c) (c == c) h (itself c)) refl (omega arith)

lined_at : (high low code : ℕ) (y : Text) (a b : Bool) → is_decimal high ≡ a → is_decimal low ≡ b → a ≡ true → b ≡ true
    → (if a && b then one (Lined high low) y else Err (At code (length (255 ∷ high ∷ low ∷ y)))) ≡ one (Lined high low) y
lined_at high low code y a b ha hb h k = rw h (rw k refl)

lined_atoms : (high low : ℕ) (ts : List Token) → good_token (Lined high low) ≡ true → Begins Atoms (Lined high low) ts (255 ∷ high ∷ low ∷ atoms_of_tokens ts) (atoms_of_tokens ts)
lined_atoms high low ts g =
    let t : Text = 255 ∷ high ∷ low ∷ atoms_of_tokens ts in
    begins_lined Atoms high low ts (255 ∷ high ∷ low ∷ atoms_of_tokens ts) (255 ∷ high ∷ low ∷ atoms_of_tokens ts) (atoms_of_tokens ts) refl
    (λ code. lined_at high low code (atoms_of_tokens ts) (is_decimal high) (is_decimal low) refl refl (and_left (is_decimal high) (is_decimal low) g) (and_right (is_decimal high) (is_decimal low) g))
    (omega arith) refl

-- free text stands last
pub text_last : (w : Text) (ts : List Token) → Neighbours (Plain leaf.Text w ∷ ts) → ts ≡ []
text_last w [] h = refl
text_last w (u ∷ us) h = absurd (false_true h.0)

plain_atoms : (k : Leaf) (a : ℕ) (w : Text) (ts : List Token) (b : Bool) → is_text k ≡ b → is_whole k (a ∷ w) ≡ true → AllGood ts → Neighbours (Plain k (a ∷ w) ∷ ts)
    → Begins Atoms (Plain k (a ∷ w)) ts (a ∷ (w ++ atoms_of_tokens ts)) (atoms_of_tokens ts)
unfolding atoms_behind
plain_atoms leaf.Text a w ts b is h g nb =
    let last = text_last (a ∷ w) ts nb in
    let P : Text → List Token → Type 0 = λ t us. Begins Atoms (Plain leaf.Text (a ∷ w)) ts t (atoms_of_tokens us) in
    let one_line : a ∷ (w ++ atoms_of_tokens ts) ≡ a ∷ w = ap (λ (us : List Token). a ∷ (w ++ atoms_of_tokens us)) last ∙ append-nil (a ∷ w) in
    subst (λ t. P t ts) (sym one_line) (subst (λ us. P (a ∷ w) us) (sym last) (begins_text Atoms a w ts (and_right (nat_lt 0 (length (a ∷ w))) (all_printable (a ∷ w)) h)))
plain_atoms k a w ts true is h g nb = cc
plain_atoms k a w ts false is h g nb =
    begins_plain Atoms k a w ts (a ∷ (w ++ atoms_of_tokens ts)) (atoms_of_tokens ts) refl (whole_width k a w is h)
    (leaf_ends Atoms atoms_behind atoms_shown k (a ∷ w) ts g nb)

whole_atoms : (k : Leaf) (w : Text) (ts : List Token) → is_whole k w ≡ true → AllGood ts → Neighbours (Plain k w ∷ ts)
    → Begins Atoms (Plain k w) ts (w ++ atoms_of_tokens ts) (atoms_of_tokens ts)
whole_atoms k [] ts h g nb = absurd (not_empty k h)
whole_atoms k (a ∷ w) ts h g nb = plain_atoms k a w ts (is_text k) refl h g nb

-- good tokens whose neighbours may stand side by side are spelled by their atoms
pub spells_atoms : (ts : List Token) → AllGood ts → Neighbours ts → Spells Atoms ts (atoms_of_tokens ts)
spells_atoms [] g nb = refl
spells_atoms (Coded c ∷ ts) g nb = (atoms_of_tokens ts, (coded_atoms c ts g.1 nb, spells_atoms ts g.1 (later (Coded c) ts nb)))
spells_atoms (Short c ∷ ts) g nb = (atoms_of_tokens ts, (short_atoms c ts g.0, spells_atoms ts g.1 (later (Short c) ts nb)))
spells_atoms (Plain k w ∷ ts) g nb = (atoms_of_tokens ts, (whole_atoms k w ts g.0 g.1 nb, spells_atoms ts g.1 (later (Plain k w) ts nb)))
spells_atoms (Lined high low ∷ ts) g nb = (atoms_of_tokens ts, (lined_atoms high low ts g.0, spells_atoms ts g.1 (later (Lined high low) ts nb)))
