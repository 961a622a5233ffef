-- Every refusal of the table has a code that is a number from 1 to 99.
use Rattle.std.proofs.Common.{◌≡◌, ◌≢◌, ℕ, zero, suc, ◌+◌, ◌-◌, Bool, true, false, if◌then◌else◌, ◌==◌, ◌&&◌, ◌||◌, nat_le, nat_lt, ◌/◌, List, [], ◌∷◌, length, get_or, take, drop, refl, subst, Result, Ok, Err}
use Rattle.b2_atom.specs.Tokens.{Token, kept_text}
use Rattle.b2_atom.specs.Tokens.Token.{Coded, Short, Plain, Lined}
use Rattle.b2_atom.specs.declared.rows.TheConstants as row
use Rattle.b2_base.specs.Lexical.{all_printable, digits_width, first, is_decimal, is_hex_digit}
use Rattle.b2_atom.specs.Words.{Text, kept_byte, ahead, skipped, is_source, short_stands, short_width}
use Rattle.b2_atom.specs.Tree.{Trees, Seen, emitted, Outcome, Parser, one, nothing, preceded, and_then, under}
use Rattle.b2_atom.specs.Leaves.{refused, missing, leaf_width, until_quote}
use Rattle.b2_atom.specs.Lines.{good_code, IsKnown}
use Rattle.b2_atom.specs.Grammar.{reader, read_item, items, item, level, deep, statement, statement_within, many, row_items, rows_of, row_place, starts, absent, parse_line, chosen, statement_row, row_at, allowed, from, symbol, among, program_word, program_word_at, ignored, short_word, optional_comma, end_of_line, end_at, read_leaf, leaf_at, plain, atoms_line_number, typed_line_number, line_number_at, text_to_end, two_digits, begins_let, variable_begins, barred_following, barred_line, barred_position}
use Rattle.b2_atom.specs.declared.words.Origin.{Origin}
use Rattle.b2_atom.specs.declared.words.Origin.TheVariants.{Program, Immediate, Atoms}
use Rattle.b2_atom.specs.declared.output.Stop.{Stop}
use Rattle.b2_atom.specs.declared.output.Stop.TheVariants.{At, Deep, NoMemory}
use Rattle.b2_atom.specs.declared.forms.Form.{Form}
use Rattle.b2_atom.specs.declared.forms.Leaf.{Leaf}
use Rattle.b2_atom.specs.declared.forms.Leaf.TheVariants as leaf
use Rattle.b2_atom.specs.declared.forms.Start.{Start}
use Rattle.b2_atom.specs.declared.forms.Position.{Position}
use Rattle.b2_atom.specs.declared.forms.Item.{Item}
use Rattle.b2_atom.specs.declared.forms.Item.TheVariants.{Word, Sign, Among, ProgramWord, Ignored, ShortWord, Comma, LeftOut, End, Typed, Part, Maybe, Either, Many, Nest, Statement}
use Rattle.b2_atom.specs.Table.{forms, rows_0, rows_1, rows_2, rows_3}
use Rattle.b2_atom.proofs.Booleans.{and_left, and_right}

abbrev Known : Outcome → Type 0
Known (Ok p) = Unit {0}
Known (Err e) = IsKnown e

known_stop : (b : Bool) (e f : Stop) → IsKnown e → IsKnown f → IsKnown (if b then e else f)
known_stop true e f h k = h
known_stop false e f h k = k

known_if : (b : Bool) (o u : Outcome) → Known o → Known u → Known (if b then o else u)
known_if true o u h k = h
known_if false o u h k = k

known_joined : (a : Trees) (o : Outcome) → Known o → Known (preceded a o)
known_joined a (Ok p) h = tt
known_joined a (Err e) h = h

known_then : (o : Outcome) (q : Parser Text) → Known o → ((u : Text) → Known (q u)) → Known (and_then o q)
known_then (Ok p) q h k = known_joined p.0 (q p.1) (k p.1)
known_then (Err e) q h k = h

known_under : (n : ℕ) (o : Outcome) → Known o → Known (under n o)
known_under n (Ok p) h = tt
known_under n (Err e) h = h

one_or : (b : Bool) (t : Token) (rest : Text) (e : Stop) → IsKnown e → Known (if b then one t rest else Err e)
one_or true t rest e h = tt
one_or false t rest e h = h

err_or : (b : Bool) (t : Token) (rest : Text) (e : Stop) → IsKnown e → Known (if b then Err e else one t rest)
err_or true t rest e h = h
err_or false t rest e h = tt

known_refused : (o : Origin) (code : ℕ) (t : Text) → good_code code ≡ true → IsKnown (refused o code t)
known_refused o code t h = known_stop ((ahead o t).0 == 1) (At 27 (length t)) (At code (length t)) refl h

known_missing : (o : Origin) (k : Leaf) (code : ℕ) (t : Text) → good_code code ≡ true → IsKnown (missing o k code t)
known_missing o leaf.Number code t h = known_refused o code t h
known_missing o leaf.SignedNumber code t h = known_refused o code t h
known_missing o leaf.Name code t h = known_refused o code t h
known_missing o leaf.AlphaName code t h = known_refused o code t h
known_missing o leaf.LocalName code t h = known_refused o code t h
known_missing o leaf.FunctionName code t h = known_refused o code t h
known_missing o leaf.Literal code t h = known_stop (first t == 34) (if get_or t 1 0 == 34 then At 18 (length t) else At 19 (length t - (until_quote (drop 1 t) + 1))) (refused o code t)
    (known_stop (get_or t 1 0 == 34) (At 18 (length t)) (At 19 (length t - (until_quote (drop 1 t) + 1))) refl refl) (known_refused o code t h)
known_missing o leaf.LineNumber code t h = known_refused o code t h
known_missing o leaf.HexPair code t h = known_stop (is_hex_digit (kept_byte o (first t))) (At code (length t - 1)) (At code (length t)) h h
known_missing o leaf.HexDigit code t h = h
known_missing o leaf.Address code t h = h
known_missing o leaf.Slot code t h = h
known_missing o leaf.Small code t h = known_refused o code t h
known_missing o leaf.Image code t h = h
known_missing o leaf.Text code t h = known_refused o code t h
known_missing o leaf.Relation code t h = known_refused o code t h

known_plain : (o : Origin) (k : Leaf) (code : ℕ) (t : Text) → good_code code ≡ true → Known (plain o k code t)
known_plain o k code t h = err_or (leaf_width o k t == 0) (Plain k (kept_text o k (take (leaf_width o k t) t))) (drop (leaf_width o k t) t) (missing o k code t) (known_missing o k code t h)

known_typed : (o : Origin) (code : ℕ) (t : Text) → good_code code ≡ true → Known (typed_line_number o code t)
known_typed o code t h = err_or (nat_lt (digits_width t) 1 || nat_lt 4 (digits_width t)) (Lined (two_digits t (digits_width t) 0) (two_digits t (digits_width t) 2)) (drop (digits_width t) t) (refused o code t) (known_refused o code t h)

known_atoms : (code : ℕ) (t : Text) → good_code code ≡ true → Known (atoms_line_number code t)
known_atoms code [] h = h
known_atoms code (a ∷ []) h = h
known_atoms code (a ∷ b ∷ []) h = h
known_atoms code (a ∷ b ∷ c ∷ t) h = one_or (a == 255 && (is_decimal b && is_decimal c)) (Lined b c) t (At code (length (a ∷ b ∷ c ∷ t))) h

known_line : (o : Origin) (code : ℕ) (t : Text) → good_code code ≡ true → Known (line_number_at o code t)
known_line Program code t h = known_typed Program code t h
known_line Immediate code t h = known_typed Immediate code t h
known_line Atoms code t h = known_atoms code t h

known_text : (code : ℕ) (t : Text) → good_code code ≡ true → Known (text_to_end code t)
known_text code [] h = tt
known_text code (b ∷ bs) h = one_or (all_printable (b ∷ bs)) (Plain leaf.Text (b ∷ bs)) [] (At code (length (b ∷ bs))) h

known_leaf : (o : Origin) (k : Leaf) (code : ℕ) (t here : Text) → good_code code ≡ true → Known (leaf_at o k code t here)
known_leaf o leaf.Number code t here h = known_plain o leaf.Number code here h
known_leaf o leaf.SignedNumber code t here h = known_plain o leaf.SignedNumber code here h
known_leaf o leaf.Name code t here h = known_plain o leaf.Name code here h
known_leaf o leaf.AlphaName code t here h = known_plain o leaf.AlphaName code here h
known_leaf o leaf.LocalName code t here h = known_plain o leaf.LocalName code here h
known_leaf o leaf.FunctionName code t here h = known_plain o leaf.FunctionName code here h
known_leaf o leaf.Literal code t here h = known_plain o leaf.Literal code here h
known_leaf o leaf.LineNumber code t here h = known_line o code here h
known_leaf o leaf.HexPair code t here h = known_plain o leaf.HexPair code here h
known_leaf o leaf.HexDigit code t here h = known_plain o leaf.HexDigit code here h
known_leaf o leaf.Address code t here h = known_plain o leaf.Address code here h
known_leaf o leaf.Slot code t here h = known_plain o leaf.Slot code here h
known_leaf o leaf.Small code t here h = known_plain o leaf.Small code here h
known_leaf o leaf.Image code t here h = known_plain o leaf.Image code here h
known_leaf o leaf.Text code t here h = known_text code t h
known_leaf o leaf.Relation code t here h = known_plain o leaf.Relation code here h

-- the codes of the table
abbrev good_item : Item → Bool
good_item (Sign c code) = good_code code
good_item (Among low high code) = good_code code
good_item (Typed k code) = good_code code
good_item i = true

abbrev good_row : List Item → Bool
good_row [] = true
good_row (i ∷ is) = good_item i && good_row is

abbrev good_rows : List (List Item) → Bool
good_rows [] = true
good_rows (r ∷ rs) = good_row r && good_rows rs

get_good : (rs : List (List Item)) (k : ℕ) → good_rows rs ≡ true → good_row (get_or rs k []) ≡ true
get_good [] k h = refl
get_good (r ∷ rs) zero h = and_left (good_row r) _ h
get_good (r ∷ rs) (suc k) h = get_good rs k (and_right (good_row r) _ h)

if_good : (b : Bool) (rs ss : List (List Item)) → good_rows rs ≡ true → good_rows ss ≡ true → good_rows (if b then rs else ss) ≡ true
if_good true rs ss h k = h
if_good false rs ss h k = k

all_good : (k : ℕ) → good_rows (rows_of k) ≡ true
all_good k = if_good (k == 0) rows_0 _ refl (if_good (k == 1) rows_1 _ refl (if_good (k == 2) rows_2 rows_3 refl refl))

row_good : (n : ℕ) → good_row (row_items n) ≡ true
unfolding row_items
row_good n = get_good (rows_of (n / 64)) (row_place n) (all_good (n / 64))

known_program_word : (o : Origin) (c : ℕ) (t : Text) → Known (program_word_at o c t)
known_program_word Program c t = one_or ((ahead Program t).0 == c) (Coded c) (ahead Program t).1 (refused Program 22 t) (known_refused Program 22 t refl)
known_program_word Immediate c t = known_if ((ahead Immediate t).0 == c) (Err (At 26 (length t))) (Err (refused Immediate 22 t)) refl (known_refused Immediate 22 t refl)
known_program_word Atoms c t = one_or ((ahead Atoms t).0 == c) (Coded c) (ahead Atoms t).1 (refused Atoms 22 t) (known_refused Atoms 22 t refl)

known_end : (o : Origin) (t : Text) → Known (end_at o t)
known_end o [] = tt
known_end o (b ∷ bs) = known_refused o 25 (b ∷ bs) refl

known_read : (o : Origin) (i : Item) (s : Text) → good_item i ≡ true → Known (read_item o i s)
unfolding symbol among program_word ignored short_word optional_comma end_of_line read_leaf
known_read o (Word c) s h = one_or ((ahead o (skipped o s)).0 == c) (Coded c) (ahead o (skipped o s)).1 (refused o 22 (skipped o s)) (known_refused o 22 (skipped o s) refl)
known_read o (Sign c code) s h = one_or ((ahead o (skipped o s)).0 == c) (Coded c) (ahead o (skipped o s)).1 (refused o code (skipped o s)) (known_refused o code (skipped o s) h)
known_read o (Among low high code) s h = one_or (nat_le low (ahead o (skipped o s)).0 && nat_le (ahead o (skipped o s)).0 high) (Coded (ahead o (skipped o s)).0) (ahead o (skipped o s)).1 (refused o code (skipped o s)) (known_refused o code (skipped o s) h)
known_read o (ProgramWord c) s h = known_program_word o c (skipped o s)
known_read o (Ignored c) s h = known_if (is_source o && (ahead o (skipped o s)).0 == c) (nothing (ahead o (skipped o s)).1) (nothing s) tt tt
known_read o (ShortWord c) s h = one_or (short_stands o c (skipped o s)) (Short c) (drop (short_width o) (skipped o s)) (refused o 22 (skipped o s)) (known_refused o 22 (skipped o s) refl)
known_read o Comma s h =
    known_if ((ahead o (skipped o s)).0 == 44) (one (Coded 44) (ahead o (skipped o s)).1) (if is_source o then one (Coded 44) s else Err (refused o 13 (skipped o s))) tt
    (one_or (is_source o) (Coded 44) s (refused o 13 (skipped o s)) (known_refused o 13 (skipped o s) refl))
known_read o LeftOut s h = refl
known_read o End s h = known_end o (skipped o s)
known_read o (Typed k code) s h = known_leaf o k code s (skipped o s) h
known_read o (Part n) s h = refl
known_read o (Maybe st n) s h = refl
known_read o (Either st n m) s h = refl
known_read o (Many st n) s h = refl
known_read o (Nest n) s h = refl
known_read o (Statement p) s h = refl

abbrev AllKnown : Parser Text → Type 0
AllKnown q = (u : Text) → Known (q u)

known_many : (o : Origin) (st : Start) (p : Parser Text) → AllKnown p → (n : ℕ) → AllKnown (many (reader o) st p n)
unfolding many
known_many o st p h zero s = known_if (starts o st s) (Err (At 14 0)) (absent s) refl tt
known_many o st p h (suc n) s = known_if (starts o st s) (and_then (under 1 (p s)) (many (reader o) st p n)) (absent s) (known_then (under 1 (p s)) _ (known_under 1 (p s) (h s)) (known_many o st p h n)) tt

known_item : (o : Origin) (st : Position → Parser Text) (d p : ℕ → Parser Text) → ((x : Position) → AllKnown (st x)) → ((n : ℕ) → AllKnown (d n)) → ((n : ℕ) → AllKnown (p n))
    → (i : Item) (s : Text) → good_item i ≡ true → Known (item st d p (reader o) i s)
unfolding item
known_item o st d p hs hd hp (Word c) s h = known_read o (Word c) s h
known_item o st d p hs hd hp (Sign c code) s h = known_read o (Sign c code) s h
known_item o st d p hs hd hp (Among low high code) s h = known_read o (Among low high code) s h
known_item o st d p hs hd hp (ProgramWord c) s h = known_read o (ProgramWord c) s h
known_item o st d p hs hd hp (Ignored c) s h = known_read o (Ignored c) s h
known_item o st d p hs hd hp (ShortWord c) s h = known_read o (ShortWord c) s h
known_item o st d p hs hd hp Comma s h = known_read o Comma s h
known_item o st d p hs hd hp LeftOut s h = known_read o LeftOut s h
known_item o st d p hs hd hp End s h = known_read o End s h
known_item o st d p hs hd hp (Typed k code) s h = known_read o (Typed k code) s h
known_item o st d p hs hd hp (Part n) s h = known_under 2 (p n s) (hp n s)
known_item o st d p hs hd hp (Maybe x n) s h = known_if (starts o x s) (under 1 (p n s)) (absent s) (known_under 1 (p n s) (hp n s)) tt
known_item o st d p hs hd hp (Either x n m) s h = known_if (starts o x s) (under 1 (p n s)) (under 0 (p m s)) (known_under 1 (p n s) (hp n s)) (known_under 0 (p m s) (hp m s))
known_item o st d p hs hd hp (Many x n) s h = known_many o x (p n) (hp n) (length s) s
known_item o st d p hs hd hp (Nest n) s h = known_under 2 (d n s) (hd n s)
known_item o st d p hs hd hp (Statement x) s h = hs x s

known_items : (o : Origin) (st : Position → Parser Text) (d p : ℕ → Parser Text) → ((x : Position) → AllKnown (st x)) → ((n : ℕ) → AllKnown (d n)) → ((n : ℕ) → AllKnown (p n))
    → (is : List Item) → good_row is ≡ true → AllKnown (items st d p (reader o) is)
unfolding items
known_items o st d p hs hd hp [] h s = tt
known_items o st d p hs hd hp (i ∷ is) h s =
    known_then (item st d p (reader o) i s) (items st d p (reader o) is)
    (known_item o st d p hs hd hp i s (and_left (good_item i) _ h)) (known_items o st d p hs hd hp is (and_right (good_item i) _ h))

known_level : (o : Origin) (st : Position → Parser Text) (d : ℕ → Parser Text) → ((x : Position) → AllKnown (st x)) → ((n : ℕ) → AllKnown (d n)) → (l n : ℕ) → AllKnown (level (reader o) st d l n)
unfolding level
known_level o st d hs hd zero n s = refl
known_level o st d hs hd (suc l) n s = known_items o st d (level (reader o) st d l) hs hd (known_level o st d hs hd l) (row_items n) (row_good n) s

known_deep : (o : Origin) (st : Position → Parser Text) → ((x : Position) → AllKnown (st x)) → (m n : ℕ) → AllKnown (deep (reader o) st m n)
unfolding deep
known_deep o st hs zero n s = tt
known_deep o st hs (suc m) n s = known_level o st (deep (reader o) st m) hs (known_deep o st hs m) 40 n s

abbrev KnownRow : {A : Type 0} → Result A Stop → Type 0
KnownRow (Ok n) = Unit {0}
KnownRow (Err e) = IsKnown e

known_row_if : {A : Type 0} (b : Bool) (r q : Result A Stop) → KnownRow r → KnownRow q → KnownRow (if b then r else q)
known_row_if true r q h k = h
known_row_if false r q h k = k

known_allowed : (o : Origin) (x : Position) (f : Form) (t : Text) → KnownRow (allowed o x f t)
known_allowed o x f t =
    known_row_if (barred_following x f.rule) (Err (At 14 (length t)))
    (if barred_line o f.rule then Err (At 26 (length t)) else (if barred_position x f.rule then Err (At 28 (length t)) else Ok f.row)) refl
    (known_row_if (barred_line o f.rule) (Err (At 26 (length t))) (if barred_position x f.rule then Err (At 28 (length t)) else Ok f.row) refl (known_row_if (barred_position x f.rule) (Err (At 28 (length t))) (Ok f.row) refl tt))

known_row : (fs : List Form) (o : Origin) (x : Position) (t : Text) → KnownRow (row_at fs o x t)
known_row [] o x t = known_row_if (variable_begins o t) (Ok row.ASSIGNMENT) (Err (refused o 14 t)) tt (known_refused o 14 t refl)
known_row (f ∷ fs) o x t = known_row_if (starts o f.start t) (allowed o x f t) (row_at fs o x t) (known_allowed o x f t) (known_row fs o x t)

known_from : (t : Text) (r : Result ℕ Stop) → KnownRow r → KnownRow (from t r)
known_from t (Ok n) h = tt
known_from t (Err e) h = h

known_chosen : (r : Result (ℕ × Text) Stop) (q : ℕ → Parser Text) → KnownRow r → ((n : ℕ) → AllKnown (q n)) → Known (chosen r q)
known_chosen (Ok p) q h k = known_under p.0 (q p.0 p.1) (k p.0 p.1)
known_chosen (Err e) q h k = h

known_statement_row : (o : Origin) (x : Position) (s : Text) → KnownRow (statement_row o x s)
unfolding statement_row
known_statement_row o x s = known_row_if (begins_let o (skipped o s)) (Ok (row.ASSIGNMENT, drop 3 (skipped o s))) (from (skipped o s) (row_at forms o x (skipped o s))) tt (known_from (skipped o s) (row_at forms o x (skipped o s)) (known_row forms o x (skipped o s)))

known_statement : (o : Origin) (f : ℕ) (x : Position) → AllKnown (statement (reader o) f x)
unfolding statement_within
known_statement o zero x s = tt
known_statement o (suc f) x s =
    known_chosen (statement_row o x s) _ (known_statement_row o x s) (known_level o (statement (reader o) f) _ (known_statement o f) (known_deep o (statement (reader o) f) (known_statement o f) 32) 40)

known_parse_line : (o : Origin) (s : Text) → Known (parse_line o s)
known_parse_line o s = known_level o (statement (reader o) (length s + 1)) _ (known_statement o (length s + 1)) (known_deep o (statement (reader o) (length s + 1)) (known_statement o (length s + 1)) 32) 40 _ s

known_emitted : (old : Seen) (u : Outcome) (e : Stop) → Known u → emitted old u ≡ Err e → IsKnown e
known_emitted old (Ok p) e h is = cc
known_emitted old (Err f) e h is = let same : f ≡ e = cc in subst IsKnown same h

-- the refusal of a line, whatever holds its atoms
pub known_stopped : (o : Origin) (s : Text) (old : Seen) (e : Stop) → (e ≢ NoMemory → emitted old (parse_line o s) ≡ Err e) → IsKnown e
known_stopped o s old (At c l) h = known_emitted old (parse_line o s) (At c l) (known_parse_line o s) (h (λ is. cc))
known_stopped o s old Deep h = tt
known_stopped o s old NoMemory h = tt
