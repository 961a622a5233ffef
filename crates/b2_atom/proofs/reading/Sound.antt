-- What is read from atoms is spelled by them: a reading's atoms and what it leaves are the text that it began at.
use Rattle.std.proofs.Common.{◌≡◌, ℕ, zero, suc, ◌+◌, Bool, true, false, if◌then◌else◌, ◌==◌, ◌&&◌, nat_le, List, [], ◌∷◌, ◌++◌, length, take, drop, map, refl, sym, ap, ◌∙◌, arith, get_or, nat_lt, ◌/◌, append_assoc, append-nil, Result, Ok, Err}
use Rattle.std.proofs.lemmas.Bool.Decides.{nat_tests}
use Rattle.b2_base.specs.Lexical.{all_printable, first, is_decimal}
use Rattle.b2_atom.specs.Words.{Text, kept_byte, skipped, is_short}
use Rattle.b2_atom.specs.Tokens.{token_atoms, kept_text}
use Rattle.b2_atom.specs.Tokens.Token.{Coded, Short, Lined}
use Rattle.std.proofs.lemmas.List.{take-append-drop}
use Rattle.b2_atom.specs.Tree.{Trees, Outcome, Parser, one, nothing, preceded, and_then, under, also, atoms}
use Rattle.b2_atom.specs.Tree.Trees.{Done, Put, In}
use Rattle.b2_atom.specs.Leaves.{refused, leaf_width}
use Rattle.b2_atom.specs.Grammar.{reader, read_item, items, item, level, deep, statement, statement_within, many, row_items, rows_of, row_place, starts, parse_line, chosen, statement_row, row_at, from, symbol, among, program_word, ignored, short_word, optional_comma, end_of_line, end_at, read_leaf, leaf_at, plain_of, atoms_line_number, text_to_end}
use Rattle.b2_atom.specs.declared.words.Origin.{Origin}
use Rattle.b2_atom.specs.declared.words.Origin.TheVariants.{Atoms}
use Rattle.b2_atom.specs.declared.output.Stop.{Stop}
use Rattle.b2_atom.specs.declared.output.Stop.TheVariants.{At}
use Rattle.b2_atom.specs.declared.forms.Leaf.{Leaf}
use Rattle.b2_atom.specs.declared.forms.Leaf.TheVariants as leaf
use Rattle.b2_atom.specs.declared.forms.Start.{Start}
use Rattle.b2_atom.specs.declared.forms.Position.{Position}
use Rattle.b2_atom.specs.declared.forms.Item.{Item}
use Rattle.b2_atom.specs.declared.forms.Item.TheVariants.{Word, Sign, Among, ProgramWord, Ignored, ShortWord, Comma, LeftOut, End, Typed, Part, Maybe, Either, Many, Nest, Statement}
use Rattle.b2_atom.specs.Table.{forms, rows_0, rows_1, rows_2, rows_3}
use Rattle.b2_atom.proofs.Booleans.{equal, and_left, and_right}

-- a reading that takes its atoms from the front of a text
abbrev pub Takes : Text → Outcome → Type 0
Takes s (Ok p) = atoms p.0 ++ p.1 ≡ s
Takes s (Err e) = Unit {0}

atoms-also : (a b : Trees) → atoms (also a b) ≡ atoms a ++ atoms b
atoms-also Done b = refl
atoms-also (Put t a) b = ap (λ (l : Text). token_atoms t ++ l) (atoms-also a b) ∙ sym (append_assoc (token_atoms t) (atoms a) (atoms b))
atoms-also (In n i a) b = ap (λ (l : Text). atoms i ++ l) (atoms-also a b) ∙ sym (append_assoc (atoms i) (atoms a) (atoms b))

takes_joined : (s rest : Text) (a : Trees) (o : Outcome) → atoms a ++ rest ≡ s → Takes rest o → Takes s (preceded a o)
takes_joined s rest a (Err e) h k = tt
takes_joined s rest a (Ok p) h k =
    ap (λ (l : Text). l ++ p.1) (atoms-also a p.0) ∙ append_assoc (atoms a) (atoms p.0) p.1 ∙ ap (λ (l : Text). atoms a ++ l) k ∙ h

takes_then : (s : Text) (o : Outcome) (q : Parser Text) → Takes s o → ((u : Text) → Takes u (q u)) → Takes s (and_then o q)
takes_then s (Err e) q h k = tt
takes_then s (Ok p) q h k = takes_joined s p.1 p.0 (q p.1) h (k p.1)

takes_under : (n : ℕ) (s : Text) (o : Outcome) → Takes s o → Takes s (under n o)
takes_under n s (Err e) h = tt
takes_under n s (Ok p) h = ap (λ (l : Text). l ++ p.1) (append-nil (atoms p.0)) ∙ h

takes_if : (b : Bool) (s : Text) (o u : Outcome) → Takes s o → Takes s u → Takes s (if b then o else u)
takes_if true s o u h k = h
takes_if false s o u h k = k

pub takes_many : (st : Start) (p : Parser Text) → ((u : Text) → Takes u (p u)) → (n : ℕ) (s : Text) → Takes s (many (reader Atoms) st p n s)
unfolding many
takes_many st p h zero s = takes_if (starts Atoms st s) s _ _ tt refl
takes_many st p h (suc n) s = takes_if (starts Atoms st s) s _ _ (takes_then s (under 1 (p s)) _ (takes_under 1 s (p s) (h s)) (takes_many st p h n)) refl

not_zero : (c : ℕ) → nat_lt 0 c ≡ true → (0 == c) ≡ true → ⊥
not_zero c h k = grind (arith, nat_tests)

not_among : (low high : ℕ) → nat_lt 0 low ≡ true → (nat_le low 0 && nat_le 0 high) ≡ true → ⊥
not_among low high h k = grind (arith, nat_tests)

-- a byte at the front
front_byte : (c : ℕ) (s : Text) (e : Stop) → nat_lt 0 c ≡ true → (b : Bool) → (first s == c) ≡ b → Takes s (if b then one (Coded c) (drop 1 s) else Err e)
front_byte c s e h false is = tt
front_byte c [] e h true is = absurd (not_zero c h is)
front_byte c (b ∷ s) e h true is = ap (λ (n : ℕ). n ∷ s) (sym (equal b c is))

front_among : (low high : ℕ) (s : Text) (e : Stop) → nat_lt 0 low ≡ true → (b : Bool) → (nat_le low (first s) && nat_le (first s) high) ≡ b
    → Takes s (if b then one (Coded (first s)) (drop 1 s) else Err e)
front_among low high s e h false is = tt
front_among low high [] e h true is = absurd (not_among low high h is)
front_among low high (b ∷ s) e h true is = refl

not_short : (c : ℕ) → is_short c ≡ true → (0 == c) ≡ true → ⊥
not_short c h k = grind (arith, nat_tests)

short_byte : (c : ℕ) (s : Text) (e : Stop) (b : Bool) → (is_short c && first s == c) ≡ b → Takes s (if b then one (Short c) (drop 1 s) else Err e)
short_byte c s e false is = tt
short_byte c [] e true is = absurd (not_short c (and_left _ _ is) (and_right (is_short c) _ is))
short_byte c (b ∷ s) e true is = ap (λ (n : ℕ). n ∷ s) (sym (equal b c (and_right (is_short c) _ is)))

lined : (a b c : ℕ) (t : Text) (code : ℕ) (x y : Bool) → (a == 255) ≡ x → Takes (a ∷ b ∷ c ∷ t) (if x && y then one (Lined b c) t else Err (At code (length (a ∷ b ∷ c ∷ t))))
lined a b c t code false y is = tt
lined a b c t code true false is = tt
lined a b c t code true true is = ap (λ (n : ℕ). n ∷ b ∷ c ∷ t) (sym (equal a 255 is))

takes_line_number : (code : ℕ) (s : Text) → Takes s (atoms_line_number code s)
takes_line_number code [] = tt
takes_line_number code (a ∷ []) = tt
takes_line_number code (a ∷ b ∷ []) = tt
takes_line_number code (a ∷ b ∷ c ∷ t) = lined a b c t code (a == 255) (is_decimal b && is_decimal c) refl

takes_text : (code : ℕ) (s : Text) → Takes s (text_to_end code s)
takes_text code [] = refl
takes_text code (b ∷ bs) = takes_if (all_printable (b ∷ bs)) (b ∷ bs) _ _ (append-nil ((b ∷ bs) ++ []) ∙ append-nil (b ∷ bs)) tt

kept_atoms : (t : Text) → map (kept_byte Atoms) t ≡ t
kept_atoms [] = refl
kept_atoms (b ∷ bs) = ap (λ (l : Text). b ∷ l) (kept_atoms bs)

takes_plain : (k : Leaf) (code width : ℕ) (s : Text) → kept_text Atoms k (take width s) ≡ take width s → Takes s (plain_of Atoms k code width s)
takes_plain k code width s same =
    takes_if (width == 0) s _ _ tt
    (ap (λ (l : Text). l ++ drop width s) (append-nil (kept_text Atoms k (take width s)) ∙ same) ∙ take-append-drop width s)

takes_leaf : (k : Leaf) (code : ℕ) (s : Text) → Takes s (leaf_at Atoms k code s s)
takes_leaf leaf.Number code s = takes_plain leaf.Number code (leaf_width Atoms leaf.Number s) s (kept_atoms _)
takes_leaf leaf.SignedNumber code s = takes_plain leaf.SignedNumber code (leaf_width Atoms leaf.SignedNumber s) s (kept_atoms _)
takes_leaf leaf.Name code s = takes_plain leaf.Name code (leaf_width Atoms leaf.Name s) s (kept_atoms _)
takes_leaf leaf.AlphaName code s = takes_plain leaf.AlphaName code (leaf_width Atoms leaf.AlphaName s) s (kept_atoms _)
takes_leaf leaf.LocalName code s = takes_plain leaf.LocalName code (leaf_width Atoms leaf.LocalName s) s (kept_atoms _)
takes_leaf leaf.FunctionName code s = takes_plain leaf.FunctionName code (leaf_width Atoms leaf.FunctionName s) s (kept_atoms _)
takes_leaf leaf.Literal code s = takes_plain leaf.Literal code (leaf_width Atoms leaf.Literal s) s refl
takes_leaf leaf.LineNumber code s = takes_line_number code s
takes_leaf leaf.HexPair code s = takes_plain leaf.HexPair code (leaf_width Atoms leaf.HexPair s) s (kept_atoms _)
takes_leaf leaf.HexDigit code s = takes_plain leaf.HexDigit code (leaf_width Atoms leaf.HexDigit s) s (kept_atoms _)
takes_leaf leaf.Address code s = takes_plain leaf.Address code (leaf_width Atoms leaf.Address s) s (kept_atoms _)
takes_leaf leaf.Slot code s = takes_plain leaf.Slot code (leaf_width Atoms leaf.Slot s) s (kept_atoms _)
takes_leaf leaf.Small code s = takes_plain leaf.Small code (leaf_width Atoms leaf.Small s) s (kept_atoms _)
takes_leaf leaf.Image code s = takes_plain leaf.Image code (leaf_width Atoms leaf.Image s) s (kept_atoms _)
takes_leaf leaf.Text code s = takes_text code s
takes_leaf leaf.Relation code s = takes_plain leaf.Relation code (leaf_width Atoms leaf.Relation s) s (kept_atoms _)

-- a word or a sign of the table isn't 0, which stands for the end of a text
abbrev good_item : Item → Bool
good_item (Word c) = nat_lt 0 c
good_item (Sign c code) = nat_lt 0 c
good_item (Among low high code) = nat_lt 0 low
good_item (ProgramWord c) = nat_lt 0 c
good_item i = true

abbrev good_row : List Item → Bool
good_row [] = true
good_row (i ∷ is) = good_item i && good_row is

abbrev good_rows : List (List Item) → Bool
good_rows [] = true
good_rows (r ∷ rs) = good_row r && good_rows rs

get_good : (rs : List (List Item)) (k : ℕ) → good_rows rs ≡ true → good_row (get_or rs k []) ≡ true
get_good [] k h = refl
get_good (r ∷ rs) zero h = and_left (good_row r) _ h
get_good (r ∷ rs) (suc k) h = get_good rs k (and_right (good_row r) _ h)

if_good : (b : Bool) (rs ss : List (List Item)) → good_rows rs ≡ true → good_rows ss ≡ true → good_rows (if b then rs else ss) ≡ true
if_good true rs ss h k = h
if_good false rs ss h k = k

all_good : (k : ℕ) → good_rows (rows_of k) ≡ true
all_good k = if_good (k == 0) rows_0 _ refl (if_good (k == 1) rows_1 _ refl (if_good (k == 2) rows_2 rows_3 refl refl))

row_good : (n : ℕ) → good_row (row_items n) ≡ true
unfolding row_items
row_good n = get_good (rows_of (n / 64)) (row_place n) (all_good (n / 64))

takes_read : (i : Item) (s : Text) → good_item i ≡ true → Takes s (read_item Atoms i s)
unfolding symbol among program_word ignored short_word optional_comma end_of_line read_leaf
takes_read (Word c) s h = front_byte c s (refused Atoms 22 s) h (first s == c) refl
takes_read (Sign c code) s h = front_byte c s (refused Atoms code s) h (first s == c) refl
takes_read (Among low high code) s h = front_among low high s (refused Atoms code s) h (nat_le low (first s) && nat_le (first s) high) refl
takes_read (ProgramWord c) s h = front_byte c s (refused Atoms 22 s) h (first s == c) refl
takes_read (Ignored c) s h = refl
takes_read (ShortWord c) s h = short_byte c s (refused Atoms 22 s) (is_short c && first s == c) refl
takes_read Comma s h = front_byte 44 s (refused Atoms 13 s) refl (first s == 44) refl
takes_read LeftOut s h = tt
takes_read End [] h = refl
takes_read End (b ∷ bs) h = tt
takes_read (Typed k code) s h = takes_leaf k code s
takes_read (Part n) s h = tt
takes_read (Maybe st n) s h = tt
takes_read (Either st n m) s h = tt
takes_read (Many st n) s h = tt
takes_read (Nest n) s h = tt
takes_read (Statement p) s h = tt

abbrev AllTake : Parser Text → Type 0
AllTake q = (u : Text) → Takes u (q u)

takes_item : (st : Position → Parser Text) (d p : ℕ → Parser Text) → ((x : Position) → AllTake (st x)) → ((n : ℕ) → AllTake (d n)) → ((n : ℕ) → AllTake (p n))
    → (i : Item) (s : Text) → good_item i ≡ true → Takes s (item st d p (reader Atoms) i s)
unfolding item
takes_item st d p hs hd hp (Word c) s h = takes_read (Word c) s h
takes_item st d p hs hd hp (Sign c code) s h = takes_read (Sign c code) s h
takes_item st d p hs hd hp (Among low high code) s h = takes_read (Among low high code) s h
takes_item st d p hs hd hp (ProgramWord c) s h = takes_read (ProgramWord c) s h
takes_item st d p hs hd hp (Ignored c) s h = takes_read (Ignored c) s h
takes_item st d p hs hd hp (ShortWord c) s h = takes_read (ShortWord c) s h
takes_item st d p hs hd hp Comma s h = takes_read Comma s h
takes_item st d p hs hd hp LeftOut s h = takes_read LeftOut s h
takes_item st d p hs hd hp End s h = takes_read End s h
takes_item st d p hs hd hp (Typed k code) s h = takes_read (Typed k code) s h
takes_item st d p hs hd hp (Part n) s h = takes_under 2 s (p n s) (hp n s)
takes_item st d p hs hd hp (Maybe x n) s h = takes_if (starts Atoms x s) s _ _ (takes_under 1 s (p n s) (hp n s)) refl
takes_item st d p hs hd hp (Either x n m) s h = takes_if (starts Atoms x s) s _ _ (takes_under 1 s (p n s) (hp n s)) (takes_under 0 s (p m s) (hp m s))
takes_item st d p hs hd hp (Many x n) s h = takes_many x (p n) (hp n) (length s) s
takes_item st d p hs hd hp (Nest n) s h = takes_under 2 s (d n s) (hd n s)
takes_item st d p hs hd hp (Statement x) s h = hs x s

takes_items : (st : Position → Parser Text) (d p : ℕ → Parser Text) → ((x : Position) → AllTake (st x)) → ((n : ℕ) → AllTake (d n)) → ((n : ℕ) → AllTake (p n))
    → (is : List Item) → good_row is ≡ true → AllTake (items st d p (reader Atoms) is)
unfolding items
takes_items st d p hs hd hp [] h s = refl
takes_items st d p hs hd hp (i ∷ is) h s =
    takes_then s (item st d p (reader Atoms) i s) (items st d p (reader Atoms) is)
    (takes_item st d p hs hd hp i s (and_left (good_item i) _ h)) (takes_items st d p hs hd hp is (and_right (good_item i) _ h))

pub takes_level : (st : Position → Parser Text) (d : ℕ → Parser Text) → ((x : Position) → AllTake (st x)) → ((n : ℕ) → AllTake (d n)) → (l n : ℕ) → AllTake (level (reader Atoms) st d l n)
unfolding level
takes_level st d hs hd zero n s = tt
takes_level st d hs hd (suc l) n s = takes_items st d (level (reader Atoms) st d l) hs hd (takes_level st d hs hd l) (row_items n) (row_good n) s

pub takes_deep : (st : Position → Parser Text) → ((x : Position) → AllTake (st x)) → (m n : ℕ) → AllTake (deep (reader Atoms) st m n)
unfolding deep
takes_deep st hs zero n s = tt
takes_deep st hs (suc m) n s = takes_level st (deep (reader Atoms) st m) hs (takes_deep st hs m) 40 n s

takes_chosen : (r : Result ℕ Stop) (q : ℕ → Parser Text) (s : Text) → ((n : ℕ) → AllTake (q n)) → Takes s (chosen (from s r) q)
takes_chosen (Err e) q s h = tt
takes_chosen (Ok n) q s h = takes_under n s (q n s) (h n s)

pub takes_statement : (f : ℕ) (x : Position) → AllTake (statement (reader Atoms) f x)
unfolding statement_within statement_row
takes_statement zero x s = refl
takes_statement (suc f) x s =
    takes_chosen (row_at forms Atoms x s) _ s (takes_level (statement (reader Atoms) f) _ (takes_statement f) (takes_deep (statement (reader Atoms) f) (takes_statement f) 32) 40)

-- the atoms of what is read from a line of atoms, and what is left, are the line
pub takes_line : (s : Text) → Takes s (parse_line Atoms s)
takes_line s = takes_level (statement (reader Atoms) (length s + 1)) _ (takes_statement (length s + 1)) (takes_deep (statement (reader Atoms) (length s + 1)) (takes_statement (length s + 1)) 32) 40 _ s

-- nothing is left after a line
abbrev pub Ends : Outcome → Type 0
Ends (Ok p) = p.1 ≡ []
Ends (Err e) = Unit {0}

ends_joined : (a : Trees) (o : Outcome) → Ends o → Ends (preceded a o)
ends_joined a (Ok p) h = h
ends_joined a (Err e) h = tt

ends_then : (o : Outcome) (q : Parser Text) → ((u : Text) → Ends (q u)) → Ends (and_then o q)
ends_then (Ok p) q h = ends_joined p.0 (q p.1) (h p.1)
ends_then (Err e) q h = tt

ends_at : (o : Origin) (u : Text) → Ends (and_then (end_at o u) nothing)
ends_at o [] = refl
ends_at o (b ∷ bs) = tt

ends_row : (o : Origin) (st : Position → Parser Text) (d p : ℕ → Parser Text) (i j : Item) (s : Text) → Ends (items st d p (reader o) (i ∷ j ∷ End ∷ []) s)
unfolding items item end_of_line
ends_row o st d p i j s = ends_then (item st d p (reader o) i s) _ (λ u. ends_then (item st d p (reader o) j u) _ (λ v. ends_at o (skipped o v)))

pub ends_line : (o : Origin) (s : Text) → Ends (parse_line o s)
unfolding level row_items
ends_line o s = ends_row o _ _ _ _ _ s
