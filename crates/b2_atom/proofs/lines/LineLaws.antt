-- The laws of lines: a tree of the language is read from its atoms and from its canonical source, and what is read is one.
use Rattle.std.proofs.Common.{◌≡◌, ℕ, suc, ◌+◌, ◌≤◌, not, nat_le, true, false, List, [], ◌∷◌, ◌++◌, length, refl, sym, ap, subst, ◌∙◌, arith, append_assoc, append-nil, Result, Ok, Err, is_ok}
use Rattle.std.proofs.lemmas.Bool.Decides.{nat_tests}
use Rattle.b2_atom.specs.Words.{Text}
use Rattle.b2_atom.specs.Tokens.{Token, token_atoms, listed}
use Rattle.b2_atom.specs.Tree.{Trees, Outcome, atoms, tokens}
use Rattle.b2_atom.specs.Tree.Trees.{Done, Put, In}
use Rattle.b2_atom.specs.Grammar.{row_items, parse_line, level}
use Rattle.b2_atom.specs.Lines.{is_line, line_atoms, atoms_of}
use Rattle.b2_atom.specs.Spelling.{Spells, atoms_of_tokens}
use Rattle.b2_atom.specs.Fitting.{LineTree, LineTreeWithin, RemarksEnd}
use Rattle.b2_atom.specs.Laws.{SpellsTree, EachLineSpellsATree, EachTreeIsALine, EachTreeIsReadFromItsAtoms, WhatIsReadFitsTheRows, NoTwoTreesShareAtoms, WhatIsReadIsALine, WhatIsListedIsReadBack}
use Rattle.b2_atom.specs.declared.rows.TheConstants as row
use Rattle.b2_atom.specs.declared.words.Origin.{Origin}
use Rattle.b2_atom.specs.declared.words.Origin.TheVariants as origin
use Rattle.b2_atom.specs.declared.output.Stop.{Stop}
use Rattle.b2_atom.proofs.Booleans.{and_right, both}
use Rattle.b2_atom.proofs.settled.Lookaheads.{of_row, of, of_items, Known, refuse, is_free_row}
use Rattle.b2_atom.proofs.settled.Lookaheads.Lookahead.{None}
use Rattle.b2_atom.proofs.settled.Heads.{known, Refused, refused_lookaheads}
use Rattle.b2_atom.proofs.reading.Complete.{Ready, bound_row}
use Rattle.b2_atom.proofs.reading.Branches.{Chooses, reads_part, row_rank}
use Rattle.b2_atom.proofs.reading.ReadBack.{read_back, count}
use Rattle.b2_atom.proofs.settled.Choice.{one_statement}
use Rattle.b2_atom.proofs.settled.Far.{far_first, far_second}
use Rattle.b2_atom.proofs.settled.Beside.{good_tree}
use Rattle.b2_atom.proofs.spelling.SpellsAtoms.{spells_atoms}
use Rattle.b2_atom.proofs.spelling.SpellsSource.{spells_listed, spells_immediate}
use Rattle.b2_atom.proofs.reading.Sound.{Takes, takes_line, Ends, ends_line}
use Rattle.b2_atom.proofs.reading.FittedLines.{reads_fit}
use Rattle.b2_atom.proofs.lines.Anywhere.{anywhere, anywhere_wider}

-- the choices hold
pub chooses : (o : Origin) → Chooses o
chooses o = record { far_first = far_first o; far_second = far_second o; one_statement = one_statement o }

line_bound : not (is_free_row (row_items row.LINE)) ≡ true
unfolding row_items
line_bound = refl

line_tails : refuse (of row.LINE).tails (None ∷ []) ≡ true
unfolding of_row of row_items
line_tails = refl

line_ready : (most : ℕ) (o : Origin) (t : Trees) (f : ℕ) → length (tokens t) ≤ f → RemarksEnd (tokens t) → Ready o most most 39 f (row_items row.LINE) t []
line_ready most o t f less remarks_ = record {
  settles = bound_row row.LINE line_bound;
  ranked = (let P : Known → Type 0 = λ k. suc k.rank ≤ 40 in let e : suc (of_items of (row_items row.LINE)).rank ≤ 40 = subst P (sym (known row.LINE)) (row_rank row.LINE) in omega (arith, e));
  enough = λ h. omega (arith, less);
  refuses = (let P : Known → Type 0 = λ k. Refused o k.tails [] in subst P (sym (known row.LINE)) (refused_lookaheads o (of row.LINE).tails (None ∷ []) [] line_tails refl));
  remarks = (let P : List Token → Type 0 = λ l. RemarksEnd l in subst P (sym (append-nil (tokens t))) remarks_);
}

less_one : (n m : ℕ) → n ≤ m → n ≤ m + 1
less_one n m h = omega (arith, h)

-- a line's reading, where at most `most` parentheses are open in a statement
abbrev read_within : ℕ → Origin → Text → Outcome
read_within most o s = reads_part o most most 40 (length s + 1) row.LINE s

-- a line's tree is read from each text that spells it
read_within_back : (most : ℕ) (o : Origin) (t : Trees) (s : Text) → LineTreeWithin most o t → Spells o (tokens t) s → read_within most o s ≡ Ok (t, [])
unfolding level
read_within_back most o t s h spelled =
    let P : List Token → Type 0 = λ l. Spells o l s in
    let ran = read_back t o (chooses o) most most 39 (length s + 1) (row_items row.LINE) h.fits [] (line_ready most o t (length s + 1) (less_one (length (tokens t)) (length s) (count o (tokens t) s spelled)) h.remarks)
    s (subst P (sym (append-nil (tokens t))) spelled) in
    ran.1.0 ∙ ap (λ (r : Text). Ok (t, r)) ran.1.1

pub parse_line_back : (o : Origin) (t : Trees) (s : Text) → LineTree o t → Spells o (tokens t) s → parse_line o s ≡ Ok (t, [])
parse_line_back = read_within_back 32

-- the atoms of a tree are those of its tokens
pub append_atoms : (xs ys : List Token) → atoms_of_tokens (xs ++ ys) ≡ atoms_of_tokens xs ++ atoms_of_tokens ys
append_atoms [] ys = refl
append_atoms (x ∷ xs) ys = ap (λ (l : Text). token_atoms x ++ l) (append_atoms xs ys) ∙ sym (append_assoc (token_atoms x) (atoms_of_tokens xs) (atoms_of_tokens ys))

pub tree_atoms : (t : Trees) → atoms_of_tokens (tokens t) ≡ atoms t
tree_atoms Done = refl
tree_atoms (Put t ts) = ap (λ (l : Text). token_atoms t ++ l) (tree_atoms ts)
tree_atoms (In m inner ts) = append_atoms (tokens inner) (tokens ts) ∙ (λ i. tree_atoms inner i ++ tree_atoms ts i)

-- from its atoms
atoms_within_back : (most : ℕ) (t : Trees) → LineTreeWithin most origin.Atoms t → read_within most origin.Atoms (atoms t) ≡ Ok (t, [])
atoms_within_back most t h =
    let good = good_tree most origin.Atoms t h in
    let P : Text → Type 0 = λ s. Spells origin.Atoms (tokens t) s in
    read_within_back most origin.Atoms t (atoms t) h (subst P (tree_atoms t) (spells_atoms (tokens t) good.0 good.1))

pub atoms_back : EachTreeIsReadFromItsAtoms
atoms_back = atoms_within_back 32

pub tree_is_line : EachTreeIsALine
unfolding is_line
tree_is_line t h less =
    both (nat_le (length (atoms t)) 255) _ (grind (arith, nat_tests)) (ap (λ (r : Outcome). is_ok r) (atoms_back t h))

-- what is read of a line fits the rows, and is all of it
pub read_fits : WhatIsReadFitsTheRows
read_fits o s t rest is = record {
  tree = reads_fit o s t rest is;
  whole = (let P : Outcome → Type 0 = λ r. Ends r in subst P is (ends_line o s));
}

read_tree : Outcome → Trees → Trees
read_tree (Ok p) d = p.0
read_tree (Err e) d = d

-- no two trees share their atoms: both are read where as many parentheses may be open as in both together
one_tree_within : (most : ℕ) (t u : Trees) → LineTreeWithin most origin.Atoms t → LineTreeWithin most origin.Atoms u → atoms t ≡ atoms u → t ≡ u
unfolding read_tree
one_tree_within most t u is_t is_u same =
    ap (λ (o : Outcome). read_tree o t) (sym (atoms_within_back most t is_t) ∙ ap (read_within most origin.Atoms) same ∙ atoms_within_back most u is_u)

less_left : (n m : ℕ) → n ≤ n + m
less_left n m = omega arith

less_right : (n m : ℕ) → m ≤ n + m
less_right n m = omega arith

pub one_tree : NoTwoTreesShareAtoms
one_tree t u (n, is_t) (m, is_u) same =
    one_tree_within (n + m) t u (anywhere_wider n (n + m) (less_left n m) origin.Atoms t is_t) (anywhere_wider m (n + m) (less_right n m) origin.Atoms u is_u) same

tree_of : (s : Text) (o : Outcome) → parse_line origin.Atoms s ≡ o → is_ok o ≡ true → Takes s o → Ends o → SpellsTree s
tree_of s (Err e) is h takes ends = cc
tree_of s (Ok p) is h takes ends = record {
  tree = p.0;
  is_tree = reads_fit origin.Atoms s p.0 p.1 is;
  spelled = sym (append-nil (atoms p.0)) ∙ ap (λ (r : Text). atoms p.0 ++ r) (sym ends) ∙ takes;
}

-- each line spells a tree
pub spells_tree : EachLineSpellsATree
unfolding is_line
spells_tree s h = tree_of s (parse_line origin.Atoms s) refl (and_right (nat_le (length s) 255) _ h) (takes_line s) (ends_line origin.Atoms s)

-- what is listed is read back
listed_program : (t : Trees) → LineTree origin.Program t → line_atoms origin.Program (listed false false (tokens t)) ≡ Ok (atoms t)
unfolding line_atoms
listed_program t h =
    let good = good_tree 32 origin.Program t h in
    ap atoms_of (parse_line_back origin.Program t (listed false false (tokens t)) h (spells_listed (tokens t) good.0 good.1))

listed_immediate : (t : Trees) → LineTree origin.Immediate t → line_atoms origin.Immediate (listed false false (tokens t)) ≡ Ok (atoms t)
unfolding line_atoms
listed_immediate t h =
    let good = good_tree 32 origin.Immediate t h in
    ap atoms_of (parse_line_back origin.Immediate t (listed false false (tokens t)) h (spells_immediate (tokens t) good.0 good.1))

pub listed_back : WhatIsListedIsReadBack
listed_back = (listed_program, listed_immediate)

-- what is read is a line
ok_of : Result Text Stop → Text → Text
ok_of (Ok x) d = x
ok_of (Err e) d = d

pub ok_same : (a b : Text) → ◌≡◌ {A = Result Text Stop} (Ok a) (Ok b) → a ≡ b
unfolding ok_of
ok_same a b h = ap (λ (r : Result Text Stop). ok_of r a) h

read_of : (o : Origin) (s line : Text) (r : Outcome) → parse_line o s ≡ r → atoms_of r ≡ Ok line → length line ≤ 255 → is_line line ≡ true
read_of o s line (Err e) is h less = cc
read_of o s line (Ok p) is h less =
    let same : atoms p.0 ≡ line = ok_same (atoms p.0) line h in
    let P : Text → Type 0 = λ l. length l ≤ 255 → is_line l ≡ true in
    subst P same (tree_is_line p.0 (anywhere o p.0 (reads_fit o s p.0 p.1 is))) less

pub read_is_line : WhatIsReadIsALine
unfolding line_atoms
read_is_line o s line h less = read_of o s line (parse_line o s) refl h less
