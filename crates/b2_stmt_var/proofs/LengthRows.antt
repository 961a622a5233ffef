-- The length after a name without dimensions is read as a sum is: its rows in place of those of a sum, one level after the other.
use Rattle.std.proofs.Common.{◌≡◌, ℕ, suc, ◌==◌, ◌&&◌, Bool, true, false, if◌then◌else◌, List, [], ◌∷◌, refl, sym, ap, subst, ◌∙◌, Ok, Err, is_ok}
use Rattle.b2_base.specs.Byte as byte
use Rattle.b2_base.specs.Lexical.{first}
use Rattle.b2_base.specs.declared.codes.TheConstants.{S10_OPEN, S11_CLOSE, S17_NUMERIC, S22_WORD}
use Rattle.b2_atom.specs.Words.{Text}
use Rattle.b2_atom.specs.Tree.{Trees, Outcome, Parser, and_then, preceded, under}
use Rattle.b2_atom.specs.Tree.Trees.{Done, In}
use Rattle.b2_atom.specs.Grammar.{reader, item, items, level, row_items, starts, absent}
use Rattle.b2_atom.specs.Lines.{left_after}
use Rattle.b2_atom.specs.declared.words.Origin.TheVariants.{Atoms}
use Rattle.b2_atom.specs.declared.words.TheConstants as word
use Rattle.b2_atom.specs.declared.rows.TheConstants as row
use Rattle.b2_atom.specs.declared.forms.Start.{Start}
use Rattle.b2_atom.specs.declared.forms.Start.TheVariants as start
use Rattle.b2_atom.specs.declared.forms.Leaf.TheVariants as leaf
use Rattle.b2_atom.specs.declared.forms.Item.{Item}
use Rattle.b2_atom.specs.declared.forms.Item.TheVariants.{Word, Sign, Among, ProgramWord, Ignored, ShortWord, Comma, LeftOut, End, Typed, Part, Maybe, Either, Many, Nest, Statement}
use Rattle.b2_rows.specs.Rows.{reading_row, tree_of, fits_unit, is_phrase, tree_at, after_phrase}
use Rattle.b2_rows.proofs.Levels.{no_statement, in_parentheses, at_level, up_level, Up}
use Rattle.b2_rows.proofs.ListEnds.{also_done}
use Rattle.b2_expr.specs.Value.{value}
use Rattle.b2_expr.specs.declared.operators.Level.TheVariants as level
use Rattle.b2_stmt_var.specs.Lengths.{LengthsAreSums, as_factor, as_operand, as_sum, in_first}

abbrev Rows : Type 0
Rows = ℕ → Parser Text

-- rows that are read alike with few levels and with fewer, since what they name is
abbrev SameItem : Rows → Rows → Item → Type 0
SameItem p q (Part n) = (t : Text) → p n t ≡ q n t
SameItem p q (Maybe s n) = (t : Text) → p n t ≡ q n t
SameItem p q (Either s n m) = ((t : Text) → p n t ≡ q n t) × ((t : Text) → p m t ≡ q m t)
SameItem p q (Many s n) = ⊥
SameItem p q i = Unit {0}

abbrev SameItems : Rows → Rows → List Item → Type 0
SameItems p q [] = Unit {0}
SameItems p q (i ∷ is) = SameItem p q i × SameItems p q is

same_item : (p q : Rows) (i : Item) → SameItem p q i → (t : Text) → item no_statement in_parentheses p (reader Atoms) i t ≡ item no_statement in_parentheses q (reader Atoms) i t
unfolding item
same_item p q (Part n) h t = ap (under 2) (h t)
same_item p q (Maybe s n) h t = ap (λ (o : Outcome). if starts Atoms s t then under 1 o else absent t) (h t)
same_item p q (Either s n m) h t =
    ap (λ (o : Outcome). if starts Atoms s t then under 1 o else under 0 (p m t)) (h.0 t) ∙ ap (λ (o : Outcome). if starts Atoms s t then under 1 (q n t) else under 0 o) (h.1 t)
same_item p q (Many s n) h t = absurd h
same_item p q (Word c) h t = refl
same_item p q (Sign c code) h t = refl
same_item p q (Among low high code) h t = refl
same_item p q (ProgramWord c) h t = refl
same_item p q (Ignored c) h t = refl
same_item p q (ShortWord c) h t = refl
same_item p q Comma h t = refl
same_item p q LeftOut h t = refl
same_item p q End h t = refl
same_item p q (Typed k code) h t = refl
same_item p q (Nest n) h t = refl
same_item p q (Statement place) h t = refl

then_same : (o : Outcome) (p q : Parser Text) → ((t : Text) → p t ≡ q t) → and_then o p ≡ and_then o q
then_same (Ok a) p q h = ap (preceded a.0) (h a.1)
then_same (Err e) p q h = refl

same_items : (p q : Rows) (is : List Item) → SameItems p q is → (t : Text) → items no_statement in_parentheses p (reader Atoms) is t ≡ items no_statement in_parentheses q (reader Atoms) is t
unfolding items
same_items p q [] h t = refl
same_items p q (i ∷ is) h t =
    ap (λ (o : Outcome). and_then o (items no_statement in_parentheses p (reader Atoms) is)) (same_item p q i h.0 t)
    ∙ then_same (item no_statement in_parentheses q (reader Atoms) i t) (items no_statement in_parentheses p (reader Atoms) is) (items no_statement in_parentheses q (reader Atoms) is) (same_items p q is h.1)

abbrev Alike : ℕ → ℕ → ℕ → Type 0
Alike l m n = (t : Text) → at_level l n t ≡ at_level m n t

-- what a row reads with one level more than its parts
in_row : (l n : ℕ) (is : List Item) (t : Text) → row_items n ≡ is → at_level (suc l) n t ≡ items no_statement in_parentheses (at_level l) (reader Atoms) is t
unfolding level
in_row l n is t same = ap (λ (x : List Item). items no_statement in_parentheses (at_level l) (reader Atoms) x t) same

alike : (l m n : ℕ) (is : List Item) → row_items n ≡ is → SameItems (at_level l) (at_level m) is → Alike (suc l) (suc m) n
alike l m n is same h t = in_row l n is t same ∙ same_items (at_level l) (at_level m) is h t ∙ sym (in_row m n is t same)

-- an operand but a number and one in parentheses, where each choice has a level fewer
choose : (l m n a b : ℕ) (s : Start) → row_items n ≡ Either s a b ∷ [] → Alike l m a → Alike l m b → Alike (suc l) (suc m) n
choose l m n a b s same h k = alike l m n (Either s a b ∷ []) same ((h, k), tt)

subscripts_alike : Alike 26 25 row.SUBSCRIPTS
unfolding row_items
subscripts_alike = alike 25 24 row.SUBSCRIPTS (Sign byte.opening S10_OPEN ∷ Nest row.ONE_OR_TWO_NUMBERS ∷ Sign byte.closing S11_CLOSE ∷ []) refl (tt, (tt, (tt, tt)))

variable_alike : Alike 27 26 row.VARIABLE
unfolding row_items
variable_alike = alike 26 25 row.VARIABLE (Typed leaf.Name S17_NUMERIC ∷ Maybe (start.Code byte.opening) row.SUBSCRIPTS ∷ []) refl (tt, (subscripts_alike, tt))

kept_alike : Alike 27 26 row.KEPT_NUMBER
unfolding row_items
kept_alike = alike 26 25 row.KEPT_NUMBER (Among word.ERR word.HASH_TERM S17_NUMERIC ∷ []) refl (tt, tt)

value_alike : Alike 28 27 row.VALUE
unfolding row_items
value_alike = alike 27 26 row.VALUE (Word word.VAL_OPEN ∷ Nest row.ALPHA_AND_NUMBER ∷ Sign byte.closing S11_CLOSE ∷ []) refl (tt, (tt, (tt, tt)))

position_alike : Alike 29 28 row.POSITION
unfolding row_items
position_alike = alike 28 27 row.POSITION (Word word.POS_OPEN ∷ Nest row.POSITION_ARGUMENTS ∷ Sign byte.closing S11_CLOSE ∷ []) refl (tt, (tt, (tt, tt)))

of_alpha_alike : Alike 30 29 row.OF_ALPHA
unfolding row_items
of_alpha_alike = alike 29 28 row.OF_ALPHA (Among word.LEN_OPEN word.NUM_OPEN S17_NUMERIC ∷ Nest row.ALPHA ∷ Sign byte.closing S11_CLOSE ∷ []) refl (tt, (tt, (tt, tt)))

of_more_alike : Alike 31 30 row.OF_MORE
unfolding row_items
of_more_alike = alike 30 29 row.OF_MORE (Among word.MAX_OPEN word.MIN_OPEN S17_NUMERIC ∷ Nest row.NUMBERS_2 ∷ Sign byte.closing S11_CLOSE ∷ []) refl (tt, (tt, (tt, tt)))

of_two_alike : Alike 32 31 row.OF_TWO
unfolding row_items
of_two_alike = alike 31 30 row.OF_TWO (Among word.ROUND_OPEN word.MOD_OPEN S17_NUMERIC ∷ Nest row.TWO_NUMBERS ∷ Sign byte.closing S11_CLOSE ∷ []) refl (tt, (tt, (tt, tt)))

of_one_alike : Alike 33 32 row.OF_ONE
unfolding row_items
of_one_alike = alike 32 31 row.OF_ONE (Among word.ABS_OPEN word.SQR_OPEN S17_NUMERIC ∷ Nest row.SUM ∷ Sign byte.closing S11_CLOSE ∷ []) refl (tt, (tt, (tt, tt)))

function_alike : Alike 34 33 row.FUNCTION
unfolding row_items
function_alike =
    alike 33 32 row.FUNCTION (Word word.FN ∷ Typed leaf.FunctionName S22_WORD ∷ Sign byte.opening S10_OPEN ∷ Nest row.SUM ∷ Sign byte.closing S11_CLOSE ∷ []) refl (tt, (tt, (tt, (tt, (tt, tt)))))

named_alike : Alike 35 34 row.NAMED_OPERAND
unfolding row_items
named_alike =
    choose 34 33 row.NAMED_OPERAND row.FUNCTION row.OPERAND_BUT_FN (start.Code word.FN) refl function_alike
    (choose 33 32 row.OPERAND_BUT_FN row.OF_ONE row.OPERAND_BUT_ONE (start.Among word.ABS_OPEN word.SQR_OPEN) refl of_one_alike
    (choose 32 31 row.OPERAND_BUT_ONE row.OF_TWO row.OPERAND_BUT_TWO (start.Among word.ROUND_OPEN word.MOD_OPEN) refl of_two_alike
    (choose 31 30 row.OPERAND_BUT_TWO row.OF_MORE row.OPERAND_BUT_MORE (start.Among word.MAX_OPEN word.MIN_OPEN) refl of_more_alike
    (choose 30 29 row.OPERAND_BUT_MORE row.OF_ALPHA row.OPERAND_BUT_ALPHA (start.Among word.LEN_OPEN word.NUM_OPEN) refl of_alpha_alike
    (choose 29 28 row.OPERAND_BUT_ALPHA row.POSITION row.OPERAND_BUT_POSITION (start.Code word.POS_OPEN) refl position_alike
    (choose 28 27 row.OPERAND_BUT_POSITION row.VALUE row.OPERAND_BUT_VALUE (start.Code word.VAL_OPEN) refl value_alike
    (choose 27 26 row.OPERAND_BUT_VALUE row.KEPT_NUMBER row.VARIABLE (start.Among word.ERR word.HASH_TERM) refl kept_alike variable_alike)))))))

-- one reading as another, with another tree
abbrev As : (Trees → Trees) → Outcome → Outcome → Type 0
As f o u = (x : Trees × Text) → o ≡ Ok x → u ≡ Ok (f x.0, x.1)

ok_is : (x y : Trees × Text) (o : Outcome) → o ≡ Ok x → o ≡ Ok y → x ≡ y
ok_is x y o h k = cc

as_ok : (f : Trees → Trees) (a : Trees) (r : Text) (u : Outcome) → u ≡ Ok (f a, r) → As f (Ok (a, r)) u
as_ok f a r u h x is = h ∙ ap (λ (y : Trees × Text). Ok (f y.0, y.1)) (ok_is (a, r) x (Ok (a, r)) refl is)

-- the last item of a row
last_item : (l : ℕ) (o : Outcome) → and_then o (items no_statement in_parentheses (at_level l) (reader Atoms) []) ≡ o
unfolding items
last_item l (Ok p) = ap (λ (a : Trees). Ok (a, p.1)) (also_done p.0)
last_item l (Err e) = refl

by_choice : (l n a b : ℕ) (s : Start) (t : Text) → row_items n ≡ Either s a b ∷ [] → at_level (suc l) n t ≡ (if starts Atoms s t then under 1 (at_level l a t) else under 0 (at_level l b t))
unfolding items item
by_choice l n a b s t same = in_row l n (Either s a b ∷ []) t same ∙ last_item l (if starts Atoms s t then under 1 (at_level l a t) else under 0 (at_level l b t))

by_part : (l a : ℕ) (t : Text) → items no_statement in_parentheses (at_level l) (reader Atoms) (Part a ∷ []) t ≡ under 2 (at_level l a t)
unfolding items item
by_part l a t = last_item l (under 2 (at_level l a t))

-- an operand
operand_by : (b : Bool) (o u : Outcome) → As as_operand (if b then under 1 o else under 0 u) (if b then under 1 o else under 0 (under 0 u))
operand_by true (Ok p) u = as_ok as_operand (In 1 p.0 Done) p.1 _ refl
operand_by true (Err e) u = λ x is. cc
operand_by false o (Ok p) = as_ok as_operand (In 0 p.0 Done) p.1 _ refl
operand_by false o (Err e) = λ x is. cc

opens : (t : Text) → (first t == byte.opening) ≡ false → starts Atoms (start.Code byte.opening) t ≡ false
unfolding starts
opens t is = is

as_both : (f : Trees → Trees) (o p u v : Outcome) → o ≡ p → u ≡ v → As f p v → As f o u
as_both f o p u v h k other x is = k ∙ other x (sym h ∙ is)

operand_as : (t : Text) → (first t == byte.opening) ≡ false → As as_operand (at_level 36 row.LENGTH_OPERAND t) (at_level 36 row.OPERAND t)
unfolding row_items
operand_as t alone =
    let inner : at_level 35 row.OPERAND_BUT_NUMBER t ≡ under 0 (at_level 35 row.NAMED_OPERAND t) =
    by_choice 34 row.OPERAND_BUT_NUMBER row.PARENTHESES row.NAMED_OPERAND (start.Code byte.opening) t refl
    ∙ ap (λ (b : Bool). if b then under 1 (at_level 34 row.PARENTHESES t) else under 0 (at_level 34 row.NAMED_OPERAND t)) (opens t alone)
    ∙ ap (under 0) (sym (named_alike t)) in
    as_both as_operand _ _ _ _ (by_choice 35 row.LENGTH_OPERAND row.NUMBER row.NAMED_OPERAND start.Number t refl)
    (by_choice 35 row.OPERAND row.NUMBER row.OPERAND_BUT_NUMBER start.Number t refl
    ∙ ap (λ (o : Outcome). if starts Atoms start.Number t then under 1 (at_level 35 row.NUMBER t) else under 0 o) inner)
    (operand_by (starts Atoms start.Number t) (at_level 35 row.NUMBER t) (at_level 35 row.NAMED_OPERAND t))

-- rows that differ in their first part alone
rest_by : (f : Trees → Trees) (a : Trees) (o : Outcome) → As (in_first f) (preceded (In 2 a Done) o) (preceded (In 2 (f a) Done) o)
rest_by f a (Ok y) = as_ok (in_first f) (In 2 a y.0) y.1 _ refl
rest_by f a (Err e) = λ x is. cc

first_by : (f : Trees → Trees) (o u : Outcome) (q : Parser Text) → As f o u → As (in_first f) (and_then (under 2 o) q) (and_then (under 2 u) q)
first_by f (Ok p) u q h = subst (λ (v : Outcome). As (in_first f) (preceded (In 2 p.0 Done) (q p.1)) (and_then (under 2 v) q)) (sym (h p refl)) (rest_by f p.0 (q p.1))
first_by f (Err e) u q h = λ x is. cc

first_as : (f : Trees → Trees) (l n m a b : ℕ) (is : List Item) (t : Text) → row_items n ≡ Part a ∷ is → row_items m ≡ Part b ∷ is → As f (at_level l a t) (at_level l b t) → As (in_first f) (at_level (suc l) n t) (at_level (suc l) m t)
unfolding items item
first_as f l n m a b is t same other h =
    as_both (in_first f) _ _ _ _ (in_row l n (Part a ∷ is) t same) (in_row l m (Part b ∷ is) t other)
    (first_by f (at_level l a t) (at_level l b t) (items no_statement in_parentheses (at_level l) (reader Atoms) is) h)

power_as : (t : Text) → (first t == byte.opening) ≡ false → As (in_first as_operand) (at_level 37 row.LENGTH_POWER t) (at_level 37 row.POWER t)
unfolding row_items
power_as t alone = first_as as_operand 36 row.LENGTH_POWER row.POWER row.LENGTH_OPERAND row.OPERAND (Many (start.Code byte.caret) row.EXPONENT ∷ []) t refl refl (operand_as t alone)

-- a factor: with a sign before it, and without
signed_by : (p : Trees × Text) (o u : Outcome) → Up o u → As as_factor (under 1 (preceded (In 2 p.0 Done) o)) (preceded (In 1 p.0 Done) u)
signed_by p (Ok y) u h = as_ok as_factor (In 1 (In 2 p.0 y.0) Done) y.1 _ (ap (preceded (In 1 p.0 Done)) (h y refl))
signed_by p (Err e) u h = λ x is. cc

sign_by : (o u : Outcome) (q r : Parser Text) → Up o u → ((t : Text) → Up (q t) (r t)) → As as_factor (under 1 (and_then (under 2 o) q)) (and_then (under 1 u) r)
sign_by (Ok p) u q r h k = subst (λ (v : Outcome). As as_factor (under 1 (preceded (In 2 p.0 Done) (q p.1))) (and_then (under 1 v) r)) (sym (h p refl)) (signed_by p (q p.1) (r p.1) (k p.1))
sign_by (Err e) u q r h k = λ x is. cc

unsigned_by : (o u : Outcome) → As (in_first as_operand) o u → As as_factor (under 0 o) (preceded (In 0 Done Done) (under 2 u))
unsigned_by (Ok p) u h = as_ok as_factor (In 0 p.0 Done) p.1 _ (ap (λ (v : Outcome). preceded (In 0 Done Done) (under 2 v)) (h p refl))
unsigned_by (Err e) u h = λ x is. cc

up_under : (n : ℕ) (o u : Outcome) → Up o u → Up (under n o) (under n u)
up_under n (Ok b) u h x is = subst (λ (y : Outcome). under n y ≡ Ok x) (sym (h b refl)) is
up_under n (Err e) u h x is = cc

up_both : (o p u v : Outcome) → o ≡ p → u ≡ v → Up p v → Up o u
up_both o p u v h k up x is = k ∙ up x (sym h ∙ is)

power_up : (t : Text) → Up (items no_statement in_parentheses (at_level 36) (reader Atoms) (Part row.POWER ∷ []) t) (items no_statement in_parentheses (at_level 37) (reader Atoms) (Part row.POWER ∷ []) t)
power_up t = up_both _ _ _ _ (by_part 36 row.POWER t) (by_part 37 row.POWER t) (up_under 2 (at_level 36 row.POWER t) (at_level 37 row.POWER t) (up_level 36 row.POWER t))

abbrev signs : Start
signs = start.Two byte.plus byte.minus

factor_by : (b : Bool) (o v w u : Outcome) → As as_factor (under 1 o) v → As as_factor (under 0 w) u → As as_factor (if b then under 1 o else under 0 w) (if b then v else u)
factor_by true o v w u h k = h
factor_by false o v w u h k = k

then_if : (b : Bool) (o u : Outcome) (q : Parser Text) → and_then (if b then o else u) q ≡ (if b then and_then o q else and_then u q)
then_if true o u q = refl
then_if false o u q = refl

factor_as : (t : Text) → (first t == byte.opening) ≡ false → As as_factor (at_level 38 row.LENGTH_FACTOR t) (at_level 38 row.FACTOR t)
unfolding row_items items item
factor_as t alone =
    let power : Parser Text = items no_statement in_parentheses (at_level 37) (reader Atoms) (Part row.POWER ∷ []) in
    as_both as_factor _ _ _ _
    (by_choice 37 row.LENGTH_FACTOR row.SIGNED_FACTOR row.LENGTH_POWER signs t refl
    ∙ ap (λ (o : Outcome). if starts Atoms signs t then under 1 o else under 0 (at_level 37 row.LENGTH_POWER t)) (in_row 36 row.SIGNED_FACTOR (Part row.SIGN ∷ Part row.POWER ∷ []) t refl))
    (in_row 37 row.FACTOR (Maybe signs row.SIGN ∷ Part row.POWER ∷ []) t refl
    ∙ then_if (starts Atoms signs t) (under 1 (at_level 37 row.SIGN t)) (absent t) power
    ∙ ap (λ (o : Outcome). if starts Atoms signs t then and_then (under 1 (at_level 37 row.SIGN t)) power else preceded (In 0 Done Done) o) (by_part 37 row.POWER t))
    (factor_by (starts Atoms signs t) _ _ (at_level 37 row.LENGTH_POWER t) _
    (sign_by (at_level 36 row.SIGN t) (at_level 37 row.SIGN t) (items no_statement in_parentheses (at_level 36) (reader Atoms) (Part row.POWER ∷ [])) power (up_level 36 row.SIGN t) power_up)
    (unsigned_by (at_level 37 row.LENGTH_POWER t) (at_level 37 row.POWER t) (power_as t alone)))

-- a sum
sum_as : (t : Text) → (first t == byte.opening) ≡ false → As as_sum (at_level 40 row.LENGTH t) (at_level 40 row.SUM t)
unfolding row_items
sum_as t alone =
    first_as (in_first as_factor) 39 row.LENGTH row.SUM row.LENGTH_PRODUCT row.PRODUCT (Many signs row.ADDEND ∷ []) t refl refl
    (first_as as_factor 38 row.LENGTH_PRODUCT row.PRODUCT row.LENGTH_FACTOR row.FACTOR (Many (start.Two byte.asterisk byte.slash) row.MULTIPLIER ∷ []) t refl refl (factor_as t alone))

read_by : (f : Trees → Trees) (b : Bool) (o u : Outcome) → As f o u → (b && is_ok o) ≡ true → ((b && is_ok u) ≡ true) × (tree_of u ≡ f (tree_of o)) × (left_after u ≡ left_after o)
read_by f b (Ok p) u h is = let e = h p refl in (ap (λ (v : Outcome). b && is_ok v) e ∙ is, ap tree_of e, ap left_after e)
read_by f true (Err e) u h is = cc
read_by f false (Err e) u h is = cc

pub length_read : (t : Text) → (first t == byte.opening) ≡ false → is_phrase row.LENGTH t ≡ true
    → (is_phrase row.SUM t ≡ true) × (tree_at row.SUM t ≡ as_sum (tree_at row.LENGTH t)) × (after_phrase row.SUM t ≡ after_phrase row.LENGTH t)
unfolding is_phrase tree_at after_phrase reading_row
length_read t alone ok = read_by as_sum (fits_unit t) (reading_row row.LENGTH t) (reading_row row.SUM t) (sum_as t alone) ok

pub lengths_are_sums : LengthsAreSums
lengths_are_sums s t alone ok = let r = length_read t alone ok in (r.0, sym (ap (value s level.Sum) r.1), sym r.2)
