-- What is read is a tree that the rows allow: parts without statements and remarks in them.
use Rattle.std.proofs.Common.{◌≡◌, ℕ, zero, suc, ◌+◌, ◌<◌, ◌≤◌, Bool, true, false, not, if◌then◌else◌, ◌==◌, ◌||◌, ◌&&◌, List, [], ◌∷◌, ◌++◌, length, take, drop, refl, sym, ap, subst, ◌∙◌, arith, nat_le, nat_lt, append-nil, append_assoc, length-drop, Ok, Err}
use Rattle.std.specs.Prelude.{codes}
use Rattle.std.proofs.lemmas.Bool.Decides.{nat_tests}
use Rattle.b2_base.specs.Lexical.{all_printable, digits_width, is_decimal, skip_blanks, upper}
use Rattle.b2_atom.specs.Words.{Text, is_source, ahead, skipped, is_short, short_stands, short_width, longer_word as joined_words, word_at, begins_with}
use Rattle.b2_atom.specs.Tokens.{Token, kept_text}
use Rattle.b2_atom.specs.Tokens.Token.{Coded, Short, Plain, Lined}
use Rattle.b2_atom.specs.Tree.{Trees, Outcome, Parser, one, nothing, preceded, and_then, under, also, tokens}
use Rattle.b2_atom.specs.Tree.Trees.{Done, Put, In}
use Rattle.b2_atom.specs.Leaves.{leaf_width, refused, missing}
use Rattle.b2_atom.specs.Grammar.{reader, items, item, level, deep, many, row_items, starts, absent, symbol, among, program_word, ignored, short_word, optional_comma, end_of_line, end_at, read_leaf, plain, line_number_at, typed_line_number, two_digits, atoms_line_number, text_to_end, is_among}
use Rattle.b2_atom.specs.Spelling.{is_whole, good_token}
use Rattle.b2_atom.specs.Fitting.{leaf_number, fits_token, Fits, is_remark}
use Rattle.b2_atom.specs.declared.words.TheConstants as word
use Rattle.b2_atom.specs.declared.rows.TheConstants as row
use Rattle.b2_atom.specs.declared.words.Origin.{Origin}
use Rattle.b2_atom.specs.declared.words.Origin.TheVariants.{Program, Immediate, Atoms}
use Rattle.b2_atom.specs.declared.forms.Leaf.{Leaf}
use Rattle.b2_atom.specs.declared.forms.Leaf.TheVariants as leaf
use Rattle.b2_atom.specs.declared.forms.Start.{Start}
use Rattle.b2_atom.specs.declared.forms.Position.{Position}
use Rattle.b2_atom.specs.declared.forms.Item.{Item}
use Rattle.b2_atom.specs.declared.forms.Item.TheVariants.{Word, Sign, Among, ProgramWord, Ignored, ShortWord, Comma, LeftOut, End, Typed, Part, Maybe, Either, Many, Nest, Statement}
use Rattle.b2_atom.specs.declared.output.Stop.TheVariants.{At}
use Rattle.b2_atom.proofs.Booleans.{and_left, and_right, both, not_true}
use Rattle.b2_atom.proofs.typed.Longest.{below, at_below}
use Rattle.b2_atom.proofs.typed.WordsRead.{typed_end}
use Rattle.b2_atom.proofs.spelling.SideBySide.{is_text}
use Rattle.b2_atom.proofs.reading.GoodLeaves.{GoodTree, GoodLeaf, leaf_good}

-- tokens without a remark
abbrev pub no_remark : List Token → Bool
no_remark [] = true
no_remark (t ∷ ts) = not (is_remark t) && no_remark ts

-- a reading whose tree, if there is one, has a property, no remark, and leaves no more than there was
abbrev pub Good : (Trees → Type 0) → Text → Outcome → Type 0
Good P s (Ok p) = P p.0 × ((no_remark (tokens p.0) ≡ true) × (length p.1 ≤ length s))
Good P s (Err e) = Unit {0}

pub tokens_also : (a b : Trees) → tokens (also a b) ≡ tokens a ++ tokens b
tokens_also Done b = refl
tokens_also (Put t a) b = ap (λ (l : List Token). t ∷ l) (tokens_also a b)
tokens_also (In n i a) b = ap (λ (l : List Token). tokens i ++ l) (tokens_also a b) ∙ sym (append_assoc (tokens i) (tokens a) (tokens b))

pub append_remarks : (u v : List Token) → no_remark u ≡ true → no_remark v ≡ true → no_remark (u ++ v) ≡ true
append_remarks [] v h k = k
append_remarks (t ∷ u) v h k =
    both (not (is_remark t)) (no_remark (u ++ v)) (and_left (not (is_remark t)) (no_remark u) h) (append_remarks u v (and_right (not (is_remark t)) (no_remark u) h) k)

also_remarks : (a b : Trees) → no_remark (tokens a) ≡ true → no_remark (tokens b) ≡ true → no_remark (tokens (also a b)) ≡ true
also_remarks a b h k = ap no_remark (tokens_also a b) ∙ append_remarks (tokens a) (tokens b) h k

pub le_both : (a b c : ℕ) → a ≤ b → b ≤ c → a ≤ c
le_both a b c h k = omega arith

good_joined : (P Q R : Trees → Type 0) (s : Text) (a : Trees) (rest : Text) (u : Outcome) → ((a b : Trees) → P a → Q b → R (also a b))
    → P a → no_remark (tokens a) ≡ true → length rest ≤ length s → Good Q rest u → Good R s (preceded a u)
good_joined P Q R s a rest (Err e) both_ g n l h = tt
good_joined P Q R s a rest (Ok p) both_ g n l h = (both_ a p.0 g h.0, (also_remarks a p.0 n h.1.0, le_both (length p.1) (length rest) (length s) h.1.1 l))

pub good_then : (P Q R : Trees → Type 0) (s : Text) (o : Outcome) (q : Parser Text) → ((a b : Trees) → P a → Q b → R (also a b))
    → Good P s o → ((u : Text) → Good Q u (q u)) → Good R s (and_then o q)
good_then P Q R s (Err e) q both_ g h = tt
good_then P Q R s (Ok p) q both_ g h = good_joined P Q R s p.0 p.1 (q p.1) both_ g.0 g.1.0 g.1.1 (h p.1)

pub good_map : (P Q : Trees → Type 0) (s : Text) (o : Outcome) → ((t : Trees) → P t → Q t) → Good P s o → Good Q s o
good_map P Q s (Err e) more g = tt
good_map P Q s (Ok p) more g = (more p.0 g.0, g.1)

pub good_if : (P : Trees → Type 0) (s : Text) (b : Bool) (o u : Outcome) → Good P s o → Good P s u → Good P s (if b then o else u)
good_if P s true o u g h = g
good_if P s false o u g h = h

pub good_under : (P Q : Trees → Type 0) (n : ℕ) (s : Text) (o : Outcome) → ((t : Trees) → P t → Q (In n t Done)) → Good P s o → Good Q s (under n o)
good_under P Q n s (Err e) more g = tt
good_under P Q n s (Ok p) more g = (more p.0 g.0, (ap no_remark (append-nil (tokens p.0)) ∙ g.1.0, g.1.1))

-- sizes
skip_by : (blank : Bool) (b : ℕ) (t : Text) → length (skip_blanks t) ≤ length t → length (if blank then skip_blanks t else b ∷ t) ≤ suc (length t)
skip_by true b t h = omega arith
skip_by false b t h = omega arith

pub skip_short : (t : Text) → length (skip_blanks t) ≤ length t
skip_short [] = omega arith
skip_short (b ∷ t) = skip_by (b == 32) b t (skip_short t)

pub drop_short : (n : ℕ) (t : Text) → length (drop n t) ≤ length t
drop_short n t = omega (arith, length-drop n t)

pub skipped_short : (o : Origin) (t : Text) → length (skipped o t) ≤ length t
skipped_short Program t = skip_short t
skipped_short Immediate t = skip_short t
skipped_short Atoms t = omega arith

behind_blanks : (n : ℕ) (x : Text) → length (drop n (skip_blanks x)) ≤ length x
behind_blanks n x = let one = skip_short x in let two = drop_short n (skip_blanks x) in omega arith

abbrev join_of : Bool → Bool → Bool → ℕ → Text → ℕ × Text
join_of a b d c x =
    if a then (word.DATASAVE, drop 4 (skip_blanks x)) else (if b then (word.DATALOAD, drop 4 (skip_blanks x)) else (if d then (word.PRINTUSING, drop 5 (skip_blanks x)) else (c, x)))

joined_by : (a b d : Bool) (c : ℕ) (x : Text) → length (join_of a b d c x).1 ≤ length x
joined_by true b d c x = behind_blanks 4 x
joined_by false true d c x = behind_blanks 4 x
joined_by false false true c x = behind_blanks 5 x
joined_by false false false c x = omega arith

joined_short : (c : ℕ) (x : Text) → length (joined_words c x).1 ≤ length x
joined_short c x =
    joined_by (c == word.DATA && begins_with (codes "SAVE") (skip_blanks x)) (c == word.DATA && begins_with (codes "LOAD") (skip_blanks x))
    (c == word.PRINT && begins_with (codes "USING") (skip_blanks x)) c x

abbrev typed_of : Bool → Bool → ℕ × ℕ → ℕ → Text → ℕ × Text
typed_of z l best a y = if z then (upper a, y) else (if l then (1, drop best.0 (a ∷ y)) else joined_words (best.1 + 128) (drop best.0 (a ∷ y)))

some_word : (n : ℕ) (a : ℕ) (y : Text) → (n == 0) ≡ false → length (drop n (a ∷ y)) ≤ length y
some_word zero a y h = cc
some_word (suc n) a y h = drop_short n y

typed_short : (best : ℕ × ℕ) (a : ℕ) (y : Text) (z l : Bool) → (best.0 == 0) ≡ z → length (typed_of z l best a y).1 ≤ length y
typed_short best a y true l h = omega arith
typed_short best a y false true h = some_word best.0 a y h
typed_short best a y false false h = let one = joined_short (best.1 + 128) (drop best.0 (a ∷ y)) in let two = some_word best.0 a y h in omega arith

-- what follows something that is there is shorter
pub ahead_less : (o : Origin) (a : ℕ) (y : Text) → length (ahead o (a ∷ y)).1 ≤ length y
ahead_less Program a y = typed_short (word_at (a ∷ y)) a y ((word_at (a ∷ y)).0 == 0) (nat_le word.CODED (word_at (a ∷ y)).1) refl
ahead_less Immediate a y = typed_short (word_at (a ∷ y)) a y ((word_at (a ∷ y)).0 == 0) (nat_le word.CODED (word_at (a ∷ y)).1) refl
ahead_less Atoms a y = omega arith

pub nothing_left : (o : Origin) → ahead o [] ≡ (0, [])
nothing_left Program = typed_end
nothing_left Immediate = typed_end
nothing_left Atoms = refl

ahead_short : (o : Origin) (t : Text) → length (ahead o t).1 ≤ length t
ahead_short o [] = let none : length (ahead o []).1 ≡ 0 = ap (λ (p : ℕ × Text). length p.1) (nothing_left o) in omega arith
ahead_short o (a ∷ y) = let less = ahead_less o a y in omega arith

pub behind_short : (o : Origin) (t : Text) → length (ahead o (skipped o t)).1 ≤ length t
behind_short o t = le_both (length (ahead o (skipped o t)).1) (length (skipped o t)) (length t) (ahead_short o (skipped o t)) (skipped_short o t)

-- the tree of an item is one that the rest of the row can follow
abbrev pub Leads : Origin → ℕ → Item → List Item → Trees → Type 0
Leads o room i is a = (b : Trees) → Fits o 32 room is b → Fits o 32 room (i ∷ is) (also a b)

-- what is typed by hand
abbrev Shortens : Text → Outcome → Type 0
Shortens s (Ok p) = length p.1 ≤ length s
Shortens s (Err e) = Unit {0}

short_if : (s : Text) (b : Bool) (o u : Outcome) → Shortens s o → Shortens s u → Shortens s (if b then o else u)
short_if s true o u g h = g
short_if s false o u g h = h

drop_skipped : (o : Origin) (n : ℕ) (s : Text) → length (drop n (skipped o s)) ≤ length s
drop_skipped o n s = le_both (length (drop n (skipped o s))) (length (skipped o s)) (length s) (drop_short n (skipped o s)) (skipped_short o s)

plain_short : (o : Origin) (k : Leaf) (code : ℕ) (s : Text) → Shortens s (plain o k code (skipped o s))
plain_short o k code s =
    short_if s (leaf_width o k (skipped o s) == 0) (Err (missing o k code (skipped o s)))
    (one (Plain k (kept_text o k (take (leaf_width o k (skipped o s)) (skipped o s)))) (drop (leaf_width o k (skipped o s)) (skipped o s))) tt
    (drop_skipped o (leaf_width o k (skipped o s)) s)

typed_line_short : (o : Origin) (code : ℕ) (s : Text) → Shortens s (typed_line_number o code (skipped o s))
typed_line_short o code s =
    let t : Text = skipped o s in
    short_if s (nat_lt (digits_width t) 1 || nat_lt 4 (digits_width t)) (Err (refused o code t)) (one (Lined (two_digits t (digits_width t) 0) (two_digits t (digits_width t) 2)) (drop (digits_width t) t)) tt
    (drop_skipped o (digits_width (skipped o s)) s)

atoms_line_short : (code : ℕ) (s : Text) → Shortens s (atoms_line_number code s)
atoms_line_short code [] = tt
atoms_line_short code (a ∷ []) = tt
atoms_line_short code (a ∷ b ∷ []) = tt
atoms_line_short code (a ∷ b ∷ c ∷ t) =
    short_if (a ∷ b ∷ c ∷ t) (a == 255 && (is_decimal b && is_decimal c)) (one (Lined b c) t) (Err (At code (length (a ∷ b ∷ c ∷ t)))) (omega arith) tt

line_short : (o : Origin) (code : ℕ) (s : Text) → Shortens s (line_number_at o code (skipped o s))
line_short Program code s = typed_line_short Program code s
line_short Immediate code s = typed_line_short Immediate code s
line_short Atoms code s = atoms_line_short code s

text_short : (code : ℕ) (s : Text) → Shortens s (text_to_end code s)
text_short code [] = omega arith
text_short code (b ∷ bs) = short_if (b ∷ bs) (all_printable (b ∷ bs)) (one (Plain leaf.Text (b ∷ bs)) []) (Err (At code (length (b ∷ bs)))) (omega arith) tt

leaf_short : (o : Origin) (k : Leaf) (code : ℕ) (s : Text) → Shortens s (read_leaf o k code s)
unfolding read_leaf
leaf_short o leaf.LineNumber code s = line_short o code s
leaf_short o leaf.Text code s = text_short code s
leaf_short o k code s = plain_short o k code s

pub same_code : (c : ℕ) → (c == c) ≡ true
same_code c = grind (arith, nat_tests)

leaf_token : (o : Origin) (k : Leaf) (code : ℕ) (j : Leaf) (w : Text) → j ≡ k → is_whole k w ≡ true → fits_token o (Typed k code) (Plain j w) ≡ true
leaf_token o k code j w is h =
    let P : Leaf → Type 0 = λ i. (leaf_number i == leaf_number k && is_whole i w) ≡ true in
    subst P (sym is) (both (leaf_number k == leaf_number k) (is_whole k w) (same_code (leaf_number k)) h)

line_token : (o : Origin) (k : Leaf) (code high low : ℕ) → k ≡ leaf.LineNumber → good_token (Lined high low) ≡ true → fits_token o (Typed k code) (Lined high low) ≡ true
line_token o k code high low is h = both (leaf_number k == 7) (is_decimal high && is_decimal low) (ap (λ (i : Leaf). leaf_number i == 7) is) h

true_false : true ≡ false → ⊥
true_false h = cc

leaf_leads : (o : Origin) (room : ℕ) (k : Leaf) (code : ℕ) (is : List Item) (t : Trees) → is_text k ≡ false → GoodTree k t → Leads o room (Typed k code) is t × (no_remark (tokens t) ≡ true)
leaf_leads o room k code is Done n g = absurd (true_false (sym g ∙ n))
leaf_leads o room k code is (Put (Coded c) ts) n g = absurd g
leaf_leads o room k code is (Put (Short c) ts) n g = absurd g
leaf_leads o room k code is (Put (Plain j w) Done) n g = (λ b fit. (leaf_token o k code j w g.0 g.1, fit), refl)
leaf_leads o room k code is (Put (Plain j w) (Put t ts)) n g = absurd g
leaf_leads o room k code is (Put (Plain j w) (In m t ts)) n g = absurd g
leaf_leads o room k code is (Put (Lined high low) Done) n g = (λ b fit. (line_token o k code high low g.0 g.1, fit), refl)
leaf_leads o room k code is (Put (Lined high low) (Put t ts)) n g = absurd g
leaf_leads o room k code is (Put (Lined high low) (In m t ts)) n g = absurd g
leaf_leads o room k code is (In m t ts) n g = absurd g

leaf_by : (o : Origin) (room : ℕ) (k : Leaf) (code : ℕ) (is : List Item) (s : Text) (u : Outcome) → is_text k ≡ false → GoodLeaf k u → Shortens s u → Good (Leads o room (Typed k code) is) s u
leaf_by o room k code is s (Err e) n g h = tt
leaf_by o room k code is s (Ok p) n g h = let l = leaf_leads o room k code is p.0 n g in (l.0, (l.1, h))

pub good_leaf : (o : Origin) (room : ℕ) (k : Leaf) (code : ℕ) (is : List Item) (s : Text) → is_text k ≡ false → Good (Leads o room (Typed k code) is) s (read_leaf o k code s)
good_leaf o room k code is s n = leaf_by o room k code is s (read_leaf o k code s) n (leaf_good o k code s) (leaf_short o k code s)

-- words and signs
-- an item that is no part, and gives no remark
abbrev pub calm_code : ℕ → Bool
calm_code c = not (c == word.REM || c == 37)

code_good : (o : Origin) (P : Trees → Type 0) (c code : ℕ) (s : Text) → calm_code c ≡ true → P (Put (Coded c) Done) → Good P s (symbol o c code s)
unfolding symbol
code_good o P c code s calm p =
    good_if P s ((ahead o (skipped o s)).0 == c) (one (Coded c) (ahead o (skipped o s)).1) (Err (refused o code (skipped o s)))
    (p, (both (calm_code c) true calm refl, behind_short o s)) tt

among_calm : (low c high : ℕ) → nat_lt 128 low ≡ true → is_among low high c ≡ true → calm_code c ≡ true
among_calm low c high h k = grind (arith, nat_tests)

among_by : (o : Origin) (room low high code : ℕ) (is : List Item) (s : Text) (b : Bool) → is_among low high (ahead o (skipped o s)).0 ≡ b → nat_lt 128 low ≡ true
    → Good (Leads o room (Among low high code) is) s (if b then one (Coded (ahead o (skipped o s)).0) (ahead o (skipped o s)).1 else Err (refused o code (skipped o s)))
among_by o room low high code is s true h l =
    ((λ b fit. (h, fit)), (both (calm_code (ahead o (skipped o s)).0) true (among_calm low (ahead o (skipped o s)).0 high l h) refl, behind_short o s))
among_by o room low high code is s false h l = tt

among_good : (o : Origin) (room low high code : ℕ) (is : List Item) (s : Text) → nat_lt 128 low ≡ true → Good (Leads o room (Among low high code) is) s (among o low high code s)
unfolding among
among_good o room low high code is s l = among_by o room low high code is s (is_among low high (ahead o (skipped o s)).0) refl l

program_good : (o : Origin) (room c : ℕ) (is : List Item) (s : Text) → calm_code c ≡ true → Good (Leads o room (ProgramWord c) is) s (program_word o c s)
unfolding program_word
program_good Program room c is s calm =
    good_if (Leads Program room (ProgramWord c) is) s ((ahead Program (skipped Program s)).0 == c) (one (Coded c) (ahead Program (skipped Program s)).1) (Err (refused Program 22 (skipped Program s)))
    ((λ b fit. (same_code c, fit)), (both (calm_code c) true calm refl, behind_short Program s)) tt
program_good Immediate room c is s calm =
    good_if (Leads Immediate room (ProgramWord c) is) s ((ahead Immediate (skipped Immediate s)).0 == c) (Err (At 26 (length (skipped Immediate s)))) (Err (refused Immediate 22 (skipped Immediate s))) tt tt
program_good Atoms room c is s calm =
    good_if (Leads Atoms room (ProgramWord c) is) s ((ahead Atoms (skipped Atoms s)).0 == c) (one (Coded c) (ahead Atoms (skipped Atoms s)).1) (Err (refused Atoms 22 (skipped Atoms s)))
    ((λ b fit. (same_code c, fit)), (both (calm_code c) true calm refl, behind_short Atoms s)) tt

short_by : (o : Origin) (room c : ℕ) (is : List Item) (s : Text) (b : Bool) → short_stands o c (skipped o s) ≡ b
    → Good (Leads o room (ShortWord c) is) s (if b then one (Short c) (drop (short_width o) (skipped o s)) else Err (refused o 22 (skipped o s)))
short_by o room c is s true h = ((λ b fit. (both (c == c) (is_short c) (same_code c) (and_left _ _ h), fit)), (refl, drop_skipped o (short_width o) s))
short_by o room c is s false h = tt

short_good : (o : Origin) (room c : ℕ) (is : List Item) (s : Text) → Good (Leads o room (ShortWord c) is) s (short_word o c s)
unfolding short_word
short_good o room c is s = short_by o room c is s (short_stands o c (skipped o s)) refl

ignored_leads : (o : Origin) (room c : ℕ) (is : List Item) → Leads o room (Ignored c) is Done
ignored_leads o room c is Done fit = fit
ignored_leads o room c is (Put t ts) fit = fit
ignored_leads o room c is (In m t ts) fit = fit

end_leads : (o : Origin) (room : ℕ) (is : List Item) → Leads o room End is Done
end_leads o room is Done fit = fit
end_leads o room is (Put t ts) fit = fit
end_leads o room is (In m t ts) fit = fit

self_le : (n : ℕ) → n ≤ n
self_le n = omega arith

ignored_good : (o : Origin) (room c : ℕ) (is : List Item) (s : Text) → Good (Leads o room (Ignored c) is) s (ignored o c s)
unfolding ignored
ignored_good o room c is s =
    good_if (Leads o room (Ignored c) is) s (is_source o && (ahead o (skipped o s)).0 == c) (nothing (ahead o (skipped o s)).1) (nothing s)
    (ignored_leads o room c is, (refl, behind_short o s)) (ignored_leads o room c is, (refl, self_le (length s)))

comma_good : (o : Origin) (room : ℕ) (is : List Item) (s : Text) → Good (Leads o room Comma is) s (optional_comma o s)
unfolding optional_comma
comma_good o room is s =
    good_if (Leads o room Comma is) s ((ahead o (skipped o s)).0 == 44) (one (Coded 44) (ahead o (skipped o s)).1) _
    ((λ b fit. (refl, fit)), (refl, behind_short o s))
    (good_if (Leads o room Comma is) s (is_source o) (one (Coded 44) s) (Err (refused o 13 (skipped o s))) ((λ b fit. (refl, fit)), (refl, self_le (length s))) tt)

end_by : (o : Origin) (room : ℕ) (is : List Item) (s t : Text) → length t ≤ length s → Good (Leads o room End is) s (end_at o t)
end_by o room is s [] h = (end_leads o room is, (refl, (let least : 0 ≤ length s = omega arith in least)))
end_by o room is s (b ∷ t) h = tt

pub end_good : (o : Origin) (room : ℕ) (is : List Item) (s : Text) → Good (Leads o room End is) s (end_of_line o s)
unfolding end_of_line
end_good o room is s = end_by o room is s (skipped o s) (skipped_short o s)

-- rows without statements and remarks
abbrev is_other_row : ℕ → Bool
is_other_row n =
    n == row.LINE || (n == row.FURTHER_STATEMENT || (n == row.FOLLOWING || (n == row.REMARK || (n == row.IMAGE_LINE || (n == row.IF || (n == row.ELSE || n == row.ERROR))))))

unfoldable pub calm_row : ℕ → Bool
calm_row n = nat_lt n row.COUNT && not (is_other_row n)

abbrev pub calm_item : Item → Bool
calm_item (Word c) = calm_code c
calm_item (Sign c code) = calm_code c
calm_item (Among low high code) = nat_lt 128 low
calm_item (ProgramWord c) = calm_code c
calm_item (Typed k code) = not (is_text k)
calm_item (Part n) = calm_row n
calm_item (Maybe s n) = calm_row n
calm_item (Either s n m) = calm_row n && calm_row m
calm_item (Many s n) = calm_row n
calm_item (Nest n) = calm_row n
calm_item (Statement p) = false
calm_item i = true

abbrev pub calm_items : List Item → Bool
calm_items [] = true
calm_items (i ∷ is) = calm_item i && calm_items is

rows_calm : below (λ n. not (calm_row n) || calm_items (row_items n)) row.COUNT ≡ true
unfolding calm_row row_items
rows_calm = refl

calm_or : (a b : Bool) → (not a || b) ≡ true → a ≡ true → b ≡ true
calm_or true b h k = h
calm_or false b h k = cc

small_of : (n : ℕ) → nat_lt n row.COUNT ≡ true → n < row.COUNT
small_of n h = grind (arith, nat_tests)

calm_small : (n : ℕ) → calm_row n ≡ true → n < row.COUNT
unfolding calm_row
calm_small n h = small_of n (and_left (nat_lt n row.COUNT) (not (is_other_row n)) h)

calm_closed : (n : ℕ) → calm_row n ≡ true → calm_items (row_items n) ≡ true
calm_closed n h = calm_or (calm_row n) (calm_items (row_items n)) (at_below (λ m. not (calm_row m) || calm_items (row_items m)) row.COUNT n rows_calm (calm_small n h)) h

-- a part in parentheses, where `room` may still open
abbrev pub Nested : Origin → ℕ → ℕ → Trees → Type 0
Nested o zero n t = ⊥
Nested o (suc room) n t = Fits o 32 room (row_items n) t

nest_leads : (o : Origin) (room n : ℕ) (is : List Item) (t : Trees) → Nested o room n t → Leads o room (Nest n) is (In 2 t Done)
nest_leads o zero n is t h b fit = absurd h
nest_leads o (suc room) n is t h b fit = (refl, (h, fit))

abbrev pub AllGoodAt : (Trees → Type 0) → Parser Text → Type 0
AllGoodAt P q = (s : Text) → Good P s (q s)

none_good : (o : Origin) (room : ℕ) (is : List Item) (s : Text) (P : Trees → Type 0) → P (In 0 Done Done) → Good P s (absent s)
none_good o room is s P p = (p, (refl, self_le (length s)))

many_good : (o : Origin) (room : ℕ) (st : Start) (n : ℕ) (p : Parser Text) (is : List Item) → AllGoodAt (Fits o 32 room (row_items n)) p
    → (f : ℕ) → AllGoodAt (Leads o room (Many st n) is) (many (reader o) st p f)
unfolding many
many_good o room st n p is h zero s =
    good_if (Leads o room (Many st n) is) s (starts o st s) (Err (At 14 0)) (absent s) tt (none_good o room is s (Leads o room (Many st n) is) (λ b fit. (refl, fit)))
many_good o room st n p is h (suc f) s =
    good_if (Leads o room (Many st n) is) s (starts o st s) (and_then (under 1 (p s)) (many (reader o) st p f)) (absent s)
    (good_then (λ a. (t : Trees) × (Fits o 32 room (row_items n) t × (a ≡ In 1 t Done))) (Leads o room (Many st n) is) (Leads o room (Many st n) is) s (under 1 (p s)) (many (reader o) st p f)
    (λ a b x y. let P : Trees → Type 0 = λ c. Leads o room (Many st n) is (also c b) in subst P (sym x.1.1) (λ c fit. (x.1.0, y c fit)))
    (good_under (Fits o 32 room (row_items n)) (λ a. (t : Trees) × (Fits o 32 room (row_items n) t × (a ≡ In 1 t Done))) 1 s (p s) (λ t g. (t, (g, refl))) (h s))
    (many_good o room st n p is h f))
    (none_good o room is s (Leads o room (Many st n) is) (λ b fit. (refl, fit)))

pub calm_item_good : (o : Origin) (room : ℕ) (stf : Position → Parser Text) (d p : ℕ → Parser Text) → ((n : ℕ) → calm_row n ≡ true → AllGoodAt (Nested o room n) (d n))
    → ((n : ℕ) → calm_row n ≡ true → AllGoodAt (Fits o 32 room (row_items n)) (p n)) → (i : Item) (is : List Item) (s : Text) → calm_item i ≡ true
    → Good (Leads o room i is) s (item stf d p (reader o) i s)
unfolding item
calm_item_good o room stf d p hd hp (Word c) is s calm = code_good o (Leads o room (Word c) is) c 22 s calm (λ b fit. (same_code c, fit))
calm_item_good o room stf d p hd hp (Sign c code) is s calm = code_good o (Leads o room (Sign c code) is) c code s calm (λ b fit. (same_code c, fit))
calm_item_good o room stf d p hd hp (Among low high code) is s calm = among_good o room low high code is s calm
calm_item_good o room stf d p hd hp (ProgramWord c) is s calm = program_good o room c is s calm
calm_item_good o room stf d p hd hp (Ignored c) is s calm = ignored_good o room c is s
calm_item_good o room stf d p hd hp (ShortWord c) is s calm = short_good o room c is s
calm_item_good o room stf d p hd hp Comma is s calm = comma_good o room is s
calm_item_good o room stf d p hd hp LeftOut is s calm = tt
calm_item_good o room stf d p hd hp End is s calm = end_good o room is s
calm_item_good o room stf d p hd hp (Typed k code) is s calm = good_leaf o room k code is s (not_true (is_text k) calm)
calm_item_good o room stf d p hd hp (Part n) is s calm =
    good_under (Fits o 32 room (row_items n)) (Leads o room (Part n) is) 2 s (p n s) (λ t g b fit. (refl, (g, fit))) (hp n calm s)
calm_item_good o room stf d p hd hp (Maybe st n) is s calm =
    good_if (Leads o room (Maybe st n) is) s (starts o st s) (under 1 (p n s)) (absent s)
    (good_under (Fits o 32 room (row_items n)) (Leads o room (Maybe st n) is) 1 s (p n s) (λ t g b fit. (g, fit)) (hp n calm s))
    (none_good o room is s (Leads o room (Maybe st n) is) (λ b fit. (refl, fit)))
calm_item_good o room stf d p hd hp (Either st n m) is s calm =
    good_if (Leads o room (Either st n m) is) s (starts o st s) (under 1 (p n s)) (under 0 (p m s))
    (good_under (Fits o 32 room (row_items n)) (Leads o room (Either st n m) is) 1 s (p n s) (λ t g b fit. (g, fit)) (hp n (and_left (calm_row n) (calm_row m) calm) s))
    (good_under (Fits o 32 room (row_items m)) (Leads o room (Either st n m) is) 0 s (p m s) (λ t g b fit. (g, fit)) (hp m (and_right (calm_row n) (calm_row m) calm) s))
calm_item_good o room stf d p hd hp (Many st n) is s calm = many_good o room st n (p n) is (hp n calm) (length s) s
calm_item_good o room stf d p hd hp (Nest n) is s calm = good_under (Nested o room n) (Leads o room (Nest n) is) 2 s (d n s) (nest_leads o room n is) (hd n calm s)
calm_item_good o room stf d p hd hp (Statement x) is s calm = cc

calm_items_good : (o : Origin) (room : ℕ) (stf : Position → Parser Text) (d p : ℕ → Parser Text) → ((n : ℕ) → calm_row n ≡ true → AllGoodAt (Nested o room n) (d n))
    → ((n : ℕ) → calm_row n ≡ true → AllGoodAt (Fits o 32 room (row_items n)) (p n)) → (is : List Item) → calm_items is ≡ true → AllGoodAt (Fits o 32 room is) (items stf d p (reader o) is)
unfolding items
calm_items_good o room stf d p hd hp [] calm s = (refl, (refl, self_le (length s)))
calm_items_good o room stf d p hd hp (i ∷ is) calm s =
    good_then (Leads o room i is) (Fits o 32 room is) (Fits o 32 room (i ∷ is)) s (item stf d p (reader o) i s) (items stf d p (reader o) is) (λ a b x y. x b y)
    (calm_item_good o room stf d p hd hp i is s (and_left (calm_item i) (calm_items is) calm))
    (calm_items_good o room stf d p hd hp is (and_right (calm_item i) (calm_items is) calm))

pub calm_level : (o : Origin) (room : ℕ) (stf : Position → Parser Text) (d : ℕ → Parser Text) → ((n : ℕ) → calm_row n ≡ true → AllGoodAt (Nested o room n) (d n))
    → (l n : ℕ) → calm_row n ≡ true → AllGoodAt (Fits o 32 room (row_items n)) (level (reader o) stf d l n)
unfolding level
calm_level o room stf d hd zero n calm s = tt
calm_level o room stf d hd (suc l) n calm s =
    calm_items_good o room stf d (level (reader o) stf d l) hd (calm_level o room stf d hd l) (row_items n) (calm_closed n calm) s

pub calm_deep : (o : Origin) (stf : Position → Parser Text) (room n : ℕ) → calm_row n ≡ true → AllGoodAt (Nested o room n) (deep (reader o) stf room n)
unfolding deep
calm_deep o stf zero n calm s = tt
calm_deep o stf (suc room) n calm s = calm_level o room stf (deep (reader o) stf room) (calm_deep o stf room) 40 n calm s

-- a part without statements and remarks in it
pub calm_part : (o : Origin) (stf : Position → Parser Text) (l n : ℕ) → calm_row n ≡ true → AllGoodAt (Fits o 32 32 (row_items n)) (level (reader o) stf (deep (reader o) stf 32) l n)
calm_part o stf l n calm s = calm_level o 32 stf (deep (reader o) stf 32) (calm_deep o stf 32) l n calm s
