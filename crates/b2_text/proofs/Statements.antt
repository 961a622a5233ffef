-- What a unit's bytes say of its tree: whether it is a DEFFN', a DEFFN or a DATA.
use Rattle.std.proofs.Common.{◌≡◌, ℕ, suc, ◌&&◌, ◌||◌, ◌==◌, ◌+◌, ◌-◌, ◌*◌, not, min, nat_le, Bool, true, false, if◌then◌else◌, List, [], ◌∷◌, take, drop, map, refl, sym, ap, subst, ◌∙◌, arith, Result, Ok, Err}
use Rattle.std.proofs.lemmas.Bool.Decides.{nat_tests}
use Rattle.b2_base.specs.Lexical.{capped_value, digits_width, is_digit, is_letter, first}
use Rattle.b2_atom.specs.Words.{Text, kept_byte}
use Rattle.b2_atom.specs.Leaves.{missing, refused, small_width, function_name_width}
use Rattle.b2_atom.specs.Tokens.{Token}
use Rattle.b2_atom.specs.Tokens.Token.{Coded, Plain}
use Rattle.b2_atom.specs.Tree.{Trees, Outcome, Parser, one, nothing, and_then, under}
use Rattle.b2_atom.specs.Tree.Trees.{Done, Put, In}
use Rattle.b2_atom.specs.Table.{forms}
use Rattle.b2_atom.specs.Grammar.{reader, statement, statement_within, statement_row, row_at, from, chosen, plain_of, level, deep, items, item, symbol, read_leaf, row_items, starts}
use Rattle.b2_atom.specs.declared.words.TheConstants as word
use Rattle.b2_atom.specs.declared.rows.TheConstants as row
use Rattle.b2_atom.specs.declared.words.Origin.TheVariants.{Atoms}
use Rattle.b2_atom.specs.declared.forms.Leaf.TheVariants as leaf
use Rattle.b2_atom.specs.declared.forms.Position.{Position}
use Rattle.b2_atom.specs.declared.forms.Position.TheVariants as position
use Rattle.b2_atom.specs.declared.forms.Item.{Item}
use Rattle.b2_atom.specs.declared.forms.Item.TheVariants.{Word, Sign, Typed, Part, Maybe, Either, Many, Nest}
use Rattle.b2_atom.specs.declared.forms.Start.TheVariants as start
use Rattle.b2_base.specs.Byte as byte
use Rattle.b2_base.specs.declared.codes.TheConstants.{S10_OPEN, S11_CLOSE, S12_EQUALS, S22_WORD, S24_SMALL_NUMBER}
use Rattle.b2_atom.specs.declared.output.Stop.{Stop}
use Rattle.b2_atom.proofs.Booleans.{equal, never}
use Rattle.b2_text.specs.Spots.{is_mark, is_function, is_data}
use Rattle.b2_text.specs.Trees.{is_numbered, is_named}

-- how a row in a statement is read, its items, and the row of the statement
abbrev level_read : ℕ → ℕ → Parser Text
level_read l m s = level (reader Atoms) (statement (reader Atoms) 0) (deep (reader Atoms) (statement (reader Atoms) 0) 32) l m s

abbrev items_read : ℕ → List Item → Parser Text
items_read l is s = items (statement (reader Atoms) 0) (deep (reader Atoms) (statement (reader Atoms) 0) 32) (level_read l) (reader Atoms) is s

abbrev pub row_read : ℕ → Parser Text
row_read m s = level_read 40 m s

items_of : (l m : ℕ) (is : List Item) (s : Text) → row_items m ≡ is → level_read (suc l) m s ≡ items_read l is s
unfolding level
items_of l m is s h = ap (λ (js : List Item). items_read l js s) h

abbrev rest_in : Text → Outcome → Text
rest_in d (Ok r) = r.1
rest_in d (Err e) = d

abbrev tree_in : Trees → Outcome → Trees
tree_in d (Ok r) = r.0
tree_in d (Err e) = d

-- the row of a statement that is read, and its tree
pub record Chosen (p : Position) (s : Text) (m : ℕ) (t : Trees) : Type 0 where
  pub chosen_row : row_at forms Atoms p s ≡ Ok m
  pub read : row_read m s ≡ Ok (t, [])

by_read : (p : Position) (s : Text) (n m : ℕ) (t : Trees) (o : Outcome) → row_at forms Atoms p s ≡ Ok n → row_read n s ≡ o → under n o ≡ Ok (In m t Done, []) → Chosen p s m t
by_read p s n m t (Err e) is is_read h = cc
by_read p s n m t (Ok r) is is_read h = record {
  chosen_row = is ∙ ap Ok row_is;
  read = ap (λ (k : ℕ). row_read k s) (sym row_is) ∙ is_read ∙ (λ i. Ok (tree_is i, rest_is i));
} where
  branch_is : In n r.0 Done ≡ In m t Done
  branch_is = ap (tree_in Done) h

  row_is : n ≡ m
  row_is = cc branch_is

  tree_is : r.0 ≡ t
  tree_is = cc branch_is

  rest_is : r.1 ≡ []
  rest_is = ap (rest_in []) h

by_row : (p : Position) (s : Text) (m : ℕ) (t : Trees) (r : Result ℕ Stop) → row_at forms Atoms p s ≡ r → chosen (from s r) row_read ≡ Ok (In m t Done, []) → Chosen p s m t
by_row p s m t (Err e) is h = cc
by_row p s m t (Ok n) is h = by_read p s n m t (row_read n s) is refl h

pub chosen_of : (p : Position) (s : Text) (m : ℕ) (t : Trees) → statement (reader Atoms) 1 p s ≡ Ok (In m t Done, []) → Chosen p s m t
unfolding statement_within statement_row
chosen_of p s m t h = by_row p s m t (row_at forms Atoms p s) refl h

-- what is read after a token
record Tail (x : Token) (t : Trees) (o : Outcome) : Type 0 where
  tree : Trees
  is : t ≡ Put x tree
  read : o ≡ Ok (tree, [])

tail_of : (x : Token) (t : Trees) (o : Outcome) → and_then (one x []) (λ (s : Text). o) ≡ Ok (t, []) → Tail x t o
tail_of x t (Err e) h = cc
tail_of x t (Ok r) h = record { tree = r.0; is = tree_is; read = (λ i. Ok (r.0, rest_is i)) } where
  tree_is : t ≡ Put x r.0
  tree_is = sym (ap (tree_in Done) h)

  rest_is : r.1 ≡ []
  rest_is = ap (rest_in []) h

-- a token that stands at the start, or none is read
record Fronted (b : Bool) (x : Token) (t : Trees) (o : Outcome) : Type 0 where
  there : b ≡ true
  tail : Tail x t o

token_front : (b : Bool) (x : Token) (r : Text) (e : Stop) (q : Parser Text) (t : Trees) → and_then (if b then one x r else Err e) q ≡ Ok (t, []) → Fronted b x t (q r)
token_front true x r e q t h = record { there = refl; tail = tail_of x t (q r) h }
token_front false x r e q t h = cc

word_front : (l c : ℕ) (is : List Item) (b : ℕ) (s : Text) (t : Trees) → items_read l (Word c ∷ is) (b ∷ s) ≡ Ok (t, []) → Fronted (b == c) (Coded c) t (items_read l is s)
unfolding items item symbol
word_front l c is b s t h = token_front (b == c) (Coded c) s (refused Atoms S22_WORD (b ∷ s)) (items_read l is) t h

-- nothing is read of no bytes
pub none_chosen : (p : Position) (m : ℕ) → row_at forms Atoms p [] ≡ Ok m → ⊥
unfolding starts
none_chosen p m h = cc

-- DATA
data_chosen : (p : Position) (s : Text) (m : ℕ) → row_at forms Atoms p (word.DATA ∷ s) ≡ Ok m → m ≡ row.DATA
unfolding starts
data_chosen position.First s m h = cc
data_chosen position.Further s m h = cc
data_chosen position.Following s m h = cc

data_items : row_items row.DATA ≡ Word word.DATA ∷ Part row.DATUM ∷ Many (start.Code byte.comma) row.COMMA_DATUM ∷ []
unfolding row_items
data_items = refl

data_front : (b : ℕ) (s : Text) (t : Trees) → row_read row.DATA (b ∷ s) ≡ Ok (t, []) → (b == word.DATA) ≡ true
data_front b s t h =
    let is : List Item = Part row.DATUM ∷ Many (start.Code byte.comma) row.COMMA_DATUM ∷ [] in
    (word_front 39 word.DATA is b s t (sym (items_of 39 row.DATA (Word word.DATA ∷ is) (b ∷ s) data_items) ∙ h)).there

same_row : (m n : ℕ) → m ≡ n → (m == n) ≡ true
same_row m n h = grind (arith, nat_tests)

by_data : (p : Position) (b : ℕ) (s : Text) (m : ℕ) (t : Trees) (c d : Bool) → (b == word.DATA) ≡ c → (m == row.DATA) ≡ d → Chosen p (b ∷ s) m t → c ≡ d
by_data p b s m t true true is is_row h = refl
by_data p b s m t false false is is_row h = refl
by_data p b s m t true false is is_row h =
    let P : ℕ → Type 0 = λ c. row_at forms Atoms p (c ∷ s) ≡ Ok m in
    absurd (never (m == row.DATA) (same_row m row.DATA (data_chosen p s m (subst P (equal b word.DATA is) h.chosen_row))) is_row)
by_data p b s m t false true is is_row h =
    absurd (never (b == word.DATA) (data_front b s t (ap (λ (k : ℕ). row_read k (b ∷ s)) (sym (equal m row.DATA is_row)) ∙ h.read)) is)

pub data_is : (p : Position) (s : Text) (m : ℕ) (t : Trees) → Chosen p s m t → is_data s ≡ (m == row.DATA)
data_is p [] m t h = absurd (none_chosen p m h.chosen_row)
data_is p (b ∷ s) m t h = by_data p b s m t (b == word.DATA) (m == row.DATA) refl refl h

-- what is typed by hand
kept_same : (s : Text) → map (kept_byte Atoms) s ≡ s
kept_same [] = refl
kept_same (b ∷ s) = ap (λ (r : Text). b ∷ r) (kept_same s)

typed_small : (w code : ℕ) (s : Text) (q : Parser Text) (t : Trees) → and_then (plain_of Atoms leaf.Small code w s) q ≡ Ok (t, [])
    → Fronted (not (w == 0)) (Plain leaf.Small (map (kept_byte Atoms) (take w s))) t (q (drop w s))
typed_small w code s q t h = by_width (w == 0) h where
  by_width : (b : Bool) → and_then (if b then Err (missing Atoms leaf.Small code s) else one (Plain leaf.Small (map (kept_byte Atoms) (take w s))) (drop w s)) q ≡ Ok (t, [])
      → Fronted (not b) (Plain leaf.Small (map (kept_byte Atoms) (take w s))) t (q (drop w s))
  by_width true h = cc
  by_width false h = record { there = refl; tail = tail_of (Plain leaf.Small (map (kept_byte Atoms) (take w s))) t (q (drop w s)) h }

typed_name : (w code : ℕ) (s : Text) (q : Parser Text) (t : Trees) → and_then (plain_of Atoms leaf.FunctionName code w s) q ≡ Ok (t, [])
    → Fronted (not (w == 0)) (Plain leaf.FunctionName (map (kept_byte Atoms) (take w s))) t (q (drop w s))
typed_name w code s q t h = by_width (w == 0) h where
  by_width : (b : Bool) → and_then (if b then Err (missing Atoms leaf.FunctionName code s) else one (Plain leaf.FunctionName (map (kept_byte Atoms) (take w s))) (drop w s)) q ≡ Ok (t, [])
      → Fronted (not b) (Plain leaf.FunctionName (map (kept_byte Atoms) (take w s))) t (q (drop w s))
  by_width true h = cc
  by_width false h = record { there = refl; tail = tail_of (Plain leaf.FunctionName (map (kept_byte Atoms) (take w s))) t (q (drop w s)) h }

-- the number that digits spell is that of the digits alone
value_of_digits : (n : ℕ) (s : Text) → capped_value 999 n (take (digits_width s) s) ≡ capped_value 999 n s
value_of_digits n [] = refl
value_of_digits n (b ∷ s) = by_digit (is_digit b) refl (value_of_digits (min (n * 10 + (b - 48)) 999) s) where
  by_digit : (d : Bool) → is_digit b ≡ d → capped_value 999 (min (n * 10 + (b - 48)) 999) (take (digits_width s) s) ≡ capped_value 999 (min (n * 10 + (b - 48)) 999) s
      → capped_value 999 n (take (if d then suc (digits_width s) else 0) (b ∷ s)) ≡ (if d then capped_value 999 (min (n * 10 + (b - 48)) 999) s else n)
  by_digit false is rest = refl
  by_digit true is rest = ap (λ (c : Bool). if c then capped_value 999 (min (n * 10 + (b - 48)) 999) (take (digits_width s) s) else n) is ∙ rest

-- DEFFN' and its number
mark_chosen : (p : Position) (s : Text) (m : ℕ) → row_at forms Atoms p (word.DEFFN_PRIME ∷ s) ≡ Ok m → m ≡ row.DEFFN_MARKED
unfolding starts
mark_chosen position.First s m h = cc
mark_chosen position.Further s m h = cc
mark_chosen position.Following s m h = cc

mark_width : (n : ℕ) (s : Text) (b : Bool) → nat_le (capped_value 999 0 s) 255 ≡ b → not ((if b then digits_width s else 0) == 0) ≡ true
    → capped_value 999 0 (map (kept_byte Atoms) (take (if b then digits_width s else 0) s)) ≡ capped_value 999 0 s
mark_width n s true is h = ap (capped_value 999 0) (kept_same (take (digits_width s) s)) ∙ value_of_digits 0 s
mark_width n s false is h = cc

abbrev MarkTail : List Item
MarkTail = Maybe (start.Two byte.quote byte.opening) row.MARKED_TAIL ∷ []

mark_items : row_items row.DEFFN_MARKED ≡ Word word.DEFFN_PRIME ∷ Typed leaf.Small S24_SMALL_NUMBER ∷ MarkTail
unfolding row_items
mark_items = refl

small_front : (l code : ℕ) (is : List Item) (s : Text) (t : Trees) → items_read l (Typed leaf.Small code ∷ is) s ≡ Ok (t, [])
    → Fronted (not (small_width s == 0)) (Plain leaf.Small (map (kept_byte Atoms) (take (small_width s) s))) t (items_read l is (drop (small_width s) s))
unfolding items item read_leaf
small_front l code is s t h = typed_small (small_width s) code s (items_read l is) t h

mark_tree : (n b : ℕ) (s : Text) (t : Trees) → row_read row.DEFFN_MARKED (b ∷ s) ≡ Ok (t, []) → ((b == word.DEFFN_PRIME) ≡ true) × (is_numbered n t ≡ (capped_value 999 0 s == n))
mark_tree n b s t h =
    let is : List Item = Typed leaf.Small S24_SMALL_NUMBER ∷ MarkTail in
    let f = word_front 39 word.DEFFN_PRIME is b s t (sym (items_of 39 row.DEFFN_MARKED (Word word.DEFFN_PRIME ∷ is) (b ∷ s) mark_items) ∙ h) in
    let g = small_front 39 S24_SMALL_NUMBER MarkTail s f.tail.tree f.tail.read in
    (f.there, (ap (is_numbered n) (f.tail.is ∙ ap (Put (Coded word.DEFFN_PRIME)) g.tail.is) ∙ ap (λ (v : ℕ). v == n) (mark_width n s (nat_le (capped_value 999 0 s) 255) refl g.there)))

by_mark : (n : ℕ) (p : Position) (b : ℕ) (s : Text) (m : ℕ) (t : Trees) (c d : Bool) → (b == word.DEFFN_PRIME) ≡ c → (m == row.DEFFN_MARKED) ≡ d → Chosen p (b ∷ s) m t
    → (c && capped_value 999 0 s == n) ≡ (d && is_numbered n t)
by_mark n p b s m t true true is is_row h = sym (mark_tree n b s t (ap (λ (k : ℕ). row_read k (b ∷ s)) (sym (equal m row.DEFFN_MARKED is_row)) ∙ h.read)).1
by_mark n p b s m t false false is is_row h = refl
by_mark n p b s m t true false is is_row h =
    let P : ℕ → Type 0 = λ c. row_at forms Atoms p (c ∷ s) ≡ Ok m in
    absurd (never (m == row.DEFFN_MARKED) (same_row m row.DEFFN_MARKED (mark_chosen p s m (subst P (equal b word.DEFFN_PRIME is) h.chosen_row))) is_row)
by_mark n p b s m t false true is is_row h =
    absurd (never (b == word.DEFFN_PRIME) (mark_tree n b s t (ap (λ (k : ℕ). row_read k (b ∷ s)) (sym (equal m row.DEFFN_MARKED is_row)) ∙ h.read)).0 is)

pub mark_is : (n : ℕ) (p : Position) (s : Text) (m : ℕ) (t : Trees) → Chosen p s m t → is_mark n s ≡ (m == row.DEFFN_MARKED && is_numbered n t)
mark_is n p [] m t h = absurd (none_chosen p m h.chosen_row)
mark_is n p (b ∷ s) m t h = by_mark n p b s m t (b == word.DEFFN_PRIME) (m == row.DEFFN_MARKED) refl refl h

-- DEFFN and its name
function_chosen : (p : Position) (s : Text) (m : ℕ) → row_at forms Atoms p (word.DEFFN ∷ s) ≡ Ok m → m ≡ row.DEFFN
unfolding starts
function_chosen position.First s m h = cc
function_chosen position.Further s m h = cc
function_chosen position.Following s m h = cc

function_items : row_items row.DEFFN ≡ Word word.DEFFN ∷ Either (start.Code word.GLOBAL_PART) row.GLOBAL_PART row.FUNCTION_BODY ∷ []
unfolding row_items
function_items = refl

abbrev BodyTail : List Item
BodyTail = Nest row.NUMERIC_NAME ∷ Sign byte.closing S11_CLOSE ∷ Sign byte.equals S12_EQUALS ∷ Part row.SUM ∷ []

body_items : row_items row.FUNCTION_BODY ≡ Typed leaf.FunctionName S22_WORD ∷ Sign byte.opening S10_OPEN ∷ BodyTail
unfolding row_items
body_items = refl

name_front : (l code : ℕ) (is : List Item) (s : Text) (t : Trees) → items_read l (Typed leaf.FunctionName code ∷ is) s ≡ Ok (t, [])
    → Fronted (not (function_name_width Atoms s == 0)) (Plain leaf.FunctionName (map (kept_byte Atoms) (take (function_name_width Atoms s) s))) t (items_read l is (drop (function_name_width Atoms s) s))
unfolding items item read_leaf
name_front l code is s t h = typed_name (function_name_width Atoms s) code s (items_read l is) t h

sign_front : (l c code : ℕ) (is : List Item) (b : ℕ) (s : Text) (t : Trees) → items_read l (Sign c code ∷ is) (b ∷ s) ≡ Ok (t, []) → Fronted (b == c) (Coded c) t (items_read l is s)
unfolding items item symbol
sign_front l c code is b s t h = token_front (b == c) (Coded c) s (refused Atoms code (b ∷ s)) (items_read l is) t h

no_sign : (l code : ℕ) (is : List Item) (t : Trees) → items_read l (Sign byte.opening code ∷ is) [] ≡ Ok (t, []) → ⊥
unfolding items item symbol
no_sign l code is t h = cc

-- a branch at the end of a row
record Branch (k : ℕ) (t : Trees) (o : Outcome) : Type 0 where
  inner : Trees
  is : t ≡ In k inner Done
  read : o ≡ Ok (inner, [])

branch_of : (k : ℕ) (t : Trees) (o : Outcome) → and_then (under k o) nothing ≡ Ok (t, []) → Branch k t o
branch_of k t (Err e) h = cc
branch_of k t (Ok r) h = record { inner = r.0; is = sym (ap (tree_in Done) h); read = (λ i. Ok (r.0, ap (rest_in []) h i)) }

-- what is chosen by whether a part begins
record Taken (b : Bool) (t : Trees) (yes_read no_read : Outcome) : Type 0 where
  taken : b ≡ true → Branch 1 t yes_read
  left : b ≡ false → Branch 0 t no_read

taken_of : (b : Bool) (t : Trees) (o u : Outcome) → and_then (if b then under 1 o else under 0 u) nothing ≡ Ok (t, []) → Taken b t o u
taken_of true t o u h = record { taken = λ is. branch_of 1 t o h; left = λ is. cc }
taken_of false t o u h = record { taken = λ is. cc; left = λ is. branch_of 0 t u h }

either_front : (l x n k : ℕ) (s : Text) (t : Trees) → items_read l (Either (start.Code x) n k ∷ []) s ≡ Ok (t, []) → Taken (first s == x) t (level_read l n s) (level_read l k s)
unfolding items item starts
either_front l x n k s t h = taken_of (first s == x) t (level_read l n s) (level_read l k s) h

-- a name with `(` after it
abbrev named_at : ℕ → Text → Bool
named_at name (c ∷ d ∷ s) = c == name && d == byte.opening
named_at name s = false

and_false : (b : Bool) → false ≡ (b && false)
and_false true = refl
and_false false = refl

function_is_named : (name b : ℕ) (s : Text) → is_function name (b ∷ s) ≡ (b == word.DEFFN && named_at name s)
function_is_named name b [] = and_false (b == word.DEFFN)
function_is_named name b (c ∷ []) = and_false (b == word.DEFFN)
function_is_named name b (c ∷ d ∷ s) = refl

and_true : (a b : Bool) → b ≡ true → a ≡ (a && b)
and_true true b h = sym h
and_true false b h = refl

body_sign : (name c : ℕ) (s : Text) (v : Trees) → items_read 38 (Sign byte.opening S10_OPEN ∷ BodyTail) s ≡ Ok (v, []) → (c == name) ≡ named_at name (c ∷ s)
body_sign name c [] v h = absurd (no_sign 38 S10_OPEN BodyTail v h)
body_sign name c (d ∷ s) v h = and_true (c == name) (d == byte.opening) (sign_front 38 byte.opening S10_OPEN BodyTail d s v h).there

body_width : (name x : ℕ) (c : ℕ) (s : Text) (v : Trees) (b : Bool)
    → Fronted (not ((if b then 1 else 0) == 0)) (Plain leaf.FunctionName (map (kept_byte Atoms) (take (if b then 1 else 0) (c ∷ s)))) v
    (items_read 38 (Sign byte.opening S10_OPEN ∷ BodyTail) (drop (if b then 1 else 0) (c ∷ s)))
    → is_named name (Put (Coded x) (In 0 v Done)) ≡ named_at name (c ∷ s)
body_width name x c s v true f = ap (λ (u : Trees). is_named name (Put (Coded x) (In 0 u Done))) f.tail.is ∙ body_sign name c s f.tail.tree f.tail.read
body_width name x c s v false f = let wrong = f.there in cc

body_tree : (name x : ℕ) (s : Text) (v : Trees) → level_read 39 row.FUNCTION_BODY s ≡ Ok (v, []) → is_named name (Put (Coded x) (In 0 v Done)) ≡ named_at name s
body_tree name x s v h = by_text s (name_front 38 S22_WORD (Sign byte.opening S10_OPEN ∷ BodyTail) s v (sym (items_of 38 row.FUNCTION_BODY _ s body_items) ∙ h)) where
  by_text : (s : Text) → Fronted (not (function_name_width Atoms s == 0)) (Plain leaf.FunctionName (map (kept_byte Atoms) (take (function_name_width Atoms s) s))) v
      (items_read 38 (Sign byte.opening S10_OPEN ∷ BodyTail) (drop (function_name_width Atoms s) s))
      → is_named name (Put (Coded x) (In 0 v Done)) ≡ named_at name s
  by_text [] f = let wrong = f.there in cc
  by_text (c ∷ s) f = body_width name x c s v (is_letter c || is_digit c) f

not_name : (c name : ℕ) → (is_letter name || is_digit name) ≡ true → (c == word.GLOBAL_PART) ≡ true → (c == name) ≡ false
not_name c name h k = grind (arith, nat_tests)

no_name : (name : ℕ) (s : Text) → (is_letter name || is_digit name) ≡ true → (first s == word.GLOBAL_PART) ≡ true → false ≡ named_at name s
no_name name [] h k = refl
no_name name (c ∷ []) h k = refl
no_name name (c ∷ d ∷ s) h k = ap (λ (b : Bool). b && d == byte.opening) (sym (not_name c name h k))

function_body : (name x : ℕ) (s : Text) (u : Trees) (b : Bool) → (first s == word.GLOBAL_PART) ≡ b → (is_letter name || is_digit name) ≡ true
    → Taken b u (level_read 39 row.GLOBAL_PART s) (level_read 39 row.FUNCTION_BODY s) → is_named name (Put (Coded x) u) ≡ named_at name s
function_body name x s u true is h f = ap (λ (v : Trees). is_named name (Put (Coded x) v)) (f.taken refl).is ∙ no_name name s h is
function_body name x s u false is h f = let g = f.left refl in ap (λ (v : Trees). is_named name (Put (Coded x) v)) g.is ∙ body_tree name x s g.inner g.read

function_tree : (name b : ℕ) (s : Text) (t : Trees) → (is_letter name || is_digit name) ≡ true → row_read row.DEFFN (b ∷ s) ≡ Ok (t, [])
    → ((b == word.DEFFN) ≡ true) × (is_named name t ≡ named_at name s)
function_tree name b s t h read_ =
    let is : List Item = Either (start.Code word.GLOBAL_PART) row.GLOBAL_PART row.FUNCTION_BODY ∷ [] in
    let f = word_front 39 word.DEFFN is b s t (sym (items_of 39 row.DEFFN (Word word.DEFFN ∷ is) (b ∷ s) function_items) ∙ read_) in
    let g = either_front 39 word.GLOBAL_PART row.GLOBAL_PART row.FUNCTION_BODY s f.tail.tree f.tail.read in
    (f.there, ap (is_named name) f.tail.is ∙ function_body name word.DEFFN s f.tail.tree (first s == word.GLOBAL_PART) refl h g)

by_function : (name : ℕ) (p : Position) (b : ℕ) (s : Text) (m : ℕ) (t : Trees) (c d : Bool) → (is_letter name || is_digit name) ≡ true → (b == word.DEFFN) ≡ c → (m == row.DEFFN) ≡ d
    → Chosen p (b ∷ s) m t → (c && named_at name s) ≡ (d && is_named name t)
by_function name p b s m t true true k is is_row h = sym (function_tree name b s t k (ap (λ (n : ℕ). row_read n (b ∷ s)) (sym (equal m row.DEFFN is_row)) ∙ h.read)).1
by_function name p b s m t false false k is is_row h = refl
by_function name p b s m t true false k is is_row h =
    let P : ℕ → Type 0 = λ c. row_at forms Atoms p (c ∷ s) ≡ Ok m in
    absurd (never (m == row.DEFFN) (same_row m row.DEFFN (function_chosen p s m (subst P (equal b word.DEFFN is) h.chosen_row))) is_row)
by_function name p b s m t false true k is is_row h =
    absurd (never (b == word.DEFFN) (function_tree name b s t k (ap (λ (n : ℕ). row_read n (b ∷ s)) (sym (equal m row.DEFFN is_row)) ∙ h.read)).0 is)

pub function_is : (name : ℕ) (p : Position) (s : Text) (m : ℕ) (t : Trees) → (is_letter name || is_digit name) ≡ true → Chosen p s m t
    → is_function name s ≡ (m == row.DEFFN && is_named name t)
function_is name p [] m t k h = absurd (none_chosen p m h.chosen_row)
function_is name p (b ∷ s) m t k h = function_is_named name b s ∙ by_function name p b s m t (b == word.DEFFN) (m == row.DEFFN) k refl refl h
