-- What is read with fewer levels, parentheses and repetitions is read with more; and what is left is no longer than the text.
use Rattle.std.proofs.Common.{◌≡◌, ℕ, zero, suc, ◌+◌, ◌-◌, ◌≤◌, Bool, true, false, if◌then◌else◌, List, [], ◌∷◌, ◌++◌, length, drop, length-drop, length-append, refl, sym, ap, subst, ◌∙◌, arith, Ok, Err}
use Rattle.std.proofs.lemmas.Bool.Decides.{nat_tests}
use Rattle.b2_atom.specs.Words.{Text}
use Rattle.b2_atom.specs.Tree.{Trees, Outcome, Parser, preceded, and_then, under, atoms}
use Rattle.b2_atom.specs.Grammar.{part, reader, item, many, items, level, deep, statement, absent, row_items, starts}
use Rattle.b2_atom.specs.Lines.{left_after}
use Rattle.b2_atom.specs.declared.words.Origin.TheVariants.{Atoms}
use Rattle.b2_atom.specs.declared.output.Stop.{Stop}
use Rattle.b2_atom.specs.declared.forms.Leaf.{Leaf}
use Rattle.b2_atom.specs.declared.forms.Leaf.TheVariants as leaf
use Rattle.b2_atom.specs.declared.forms.Start.{Start}
use Rattle.b2_atom.specs.declared.forms.Position.{Position}
use Rattle.b2_atom.specs.declared.forms.Item.{Item}
use Rattle.b2_atom.specs.declared.forms.Item.TheVariants.{Word, Sign, Among, ProgramWord, Ignored, ShortWord, Comma, LeftOut, End, Typed, Part, Maybe, Either, Many, Nest, Statement}
use Rattle.b2_atom.proofs.reading.Sound.{Takes, takes_level, takes_deep, takes_many, takes_statement}
use Rattle.b2_rows.specs.Leaves.{leaf_size, after_leaf}
use Rattle.b2_rows.specs.Rows.{reading_row, reading_list, after_phrase, after_list, fits_unit}

-- the parsers of a unit: of the statements in it, which are none, and of what stands in parentheses
abbrev pub no_statement : Position → Parser Text
no_statement = statement (reader Atoms) 0

abbrev pub in_parentheses : ℕ → Parser Text
in_parentheses = deep (reader Atoms) no_statement 32

abbrev pub at_level : ℕ → ℕ → Text → Outcome
at_level l n t = part Atoms 0 32 l n t

-- what one reading gives, another gives as well
abbrev pub Up : Outcome → Outcome → Type 0
Up o u = (x : Trees × Text) → o ≡ Ok x → u ≡ Ok x

up_preceded : (a : Trees) (o u : Outcome) → Up o u → Up (preceded a o) (preceded a u)
up_preceded a (Ok b) u h x is = subst (λ (y : Outcome). preceded a y ≡ Ok x) (sym (h b refl)) is
up_preceded a (Err e) u h x is = cc

up_under : (n : ℕ) (o u : Outcome) → Up o u → Up (under n o) (under n u)
up_under n (Ok b) u h x is = subst (λ (y : Outcome). under n y ≡ Ok x) (sym (h b refl)) is
up_under n (Err e) u h x is = cc

up_then : (o u : Outcome) (p q : Parser Text) → Up o u → ((t : Text) → Up (p t) (q t)) → Up (and_then o p) (and_then u q)
up_then (Ok a) u p q h k x is = subst (λ (y : Outcome). and_then y q ≡ Ok x) (sym (h a refl)) (up_preceded a.0 (p a.1) (q a.1) (k a.1) x is)
up_then (Err e) u p q h k x is = cc

up_if : (b : Bool) (o u v w : Outcome) → Up o v → Up u w → Up (if b then o else u) (if b then v else w)
up_if true o u v w h k = h
up_if false o u v w h k = k

up_many : (s : Start) (p q : Parser Text) → ((t : Text) → Up (p t) (q t)) → (n : ℕ) (t : Text) → Up (many (reader Atoms) s p n t) (many (reader Atoms) s q n t)
unfolding many
up_many s p q h zero t = λ x is. is
up_many s p q h (suc n) t =
    up_if (starts Atoms s t) _ (absent t) _ (absent t) (up_then (under 1 (p t)) (under 1 (q t)) (many (reader Atoms) s p n) (many (reader Atoms) s q n) (up_under 1 (p t) (q t) (h t)) (up_many s p q h n)) (λ x is. is)

abbrev Ups : (ℕ → Parser Text) → (ℕ → Parser Text) → Type 0
Ups p q = (n : ℕ) (t : Text) → Up (p n t) (q n t)

up_item : (d e p q : ℕ → Parser Text) → Ups d e → Ups p q → (i : Item) (t : Text) → Up (item no_statement d p (reader Atoms) i t) (item no_statement e q (reader Atoms) i t)
unfolding item
up_item d e p q hd h (Part n) t = up_under 2 (p n t) (q n t) (h n t)
up_item d e p q hd h (Maybe s n) t = up_if (starts Atoms s t) _ _ _ _ (up_under 1 (p n t) (q n t) (h n t)) (λ x is. is)
up_item d e p q hd h (Either s n m) t = up_if (starts Atoms s t) _ _ _ _ (up_under 1 (p n t) (q n t) (h n t)) (up_under 0 (p m t) (q m t) (h m t))
up_item d e p q hd h (Many s n) t = up_many s (p n) (q n) (h n) (length t) t
up_item d e p q hd h (Word c) t = λ x is. is
up_item d e p q hd h (Sign c code) t = λ x is. is
up_item d e p q hd h (Among low high code) t = λ x is. is
up_item d e p q hd h (ProgramWord c) t = λ x is. is
up_item d e p q hd h (Ignored c) t = λ x is. is
up_item d e p q hd h (ShortWord c) t = λ x is. is
up_item d e p q hd h Comma t = λ x is. is
up_item d e p q hd h LeftOut t = λ x is. is
up_item d e p q hd h End t = λ x is. is
up_item d e p q hd h (Typed k code) t = λ x is. is
up_item d e p q hd h (Nest n) t = up_under 2 (d n t) (e n t) (hd n t)
up_item d e p q hd h (Statement place) t = λ x is. is

up_items : (d e p q : ℕ → Parser Text) → Ups d e → Ups p q → (is : List Item) (t : Text) → Up (items no_statement d p (reader Atoms) is t) (items no_statement e q (reader Atoms) is t)
unfolding items
up_items d e p q hd h [] t = λ x is. is
up_items d e p q hd h (i ∷ is) t =
    up_then (item no_statement d p (reader Atoms) i t) (item no_statement e q (reader Atoms) i t) (items no_statement d p (reader Atoms) is) (items no_statement e q (reader Atoms) is)
    (up_item d e p q hd h i t) (up_items d e p q hd h is)

abbrev in_level : (ℕ → Parser Text) → ℕ → ℕ → Text → Outcome
in_level d l n t = level (reader Atoms) no_statement d l n t

-- more parentheses
up_room : (d e : ℕ → Parser Text) → Ups d e → (l : ℕ) → Ups (in_level d l) (in_level e l)
unfolding level
up_room d e h zero n t = λ x is. is
up_room d e h (suc l) n t = up_items d e (in_level d l) (in_level e l) h (up_room d e h l) (row_items n) t

up_deep : (m : ℕ) → Ups (deep (reader Atoms) no_statement m) (deep (reader Atoms) no_statement (suc m))
unfolding deep
up_deep zero n t = λ x is. cc
up_deep (suc m) n t = up_room (deep (reader Atoms) no_statement m) (deep (reader Atoms) no_statement (suc m)) (up_deep m) 40 n t

-- more levels
pub up_level : (l n : ℕ) (t : Text) → Up (at_level l n t) (at_level (suc l) n t)
unfolding level
up_level zero n t = λ x is. cc
up_level (suc l) n t = up_items in_parentheses in_parentheses (at_level l) (at_level (suc l)) (λ m u x is. is) (up_level l) (row_items n) t

-- what stands in parentheses is read as a part is
nested : (n : ℕ) (t : Text) → in_parentheses n t ≡ in_level (deep (reader Atoms) no_statement 31) 40 n t
unfolding deep
nested n t = refl

pub up_nest : (n : ℕ) (t : Text) → Up (in_parentheses n t) (reading_row n t)
unfolding reading_row
up_nest n t x is = up_room (deep (reader Atoms) no_statement 31) (deep (reader Atoms) no_statement 32) (up_deep 31) 40 n t x (sym (nested n t) ∙ is)

-- more repetitions
up_stopped : (b : Bool) (e : Stop) (o u : Outcome) → Up (if b then Err e else o) (if b then u else o)
up_stopped true e o u = λ x is. cc
up_stopped false e o u = λ x is. is

pub many_up : (s : Start) (p : Parser Text) (k : ℕ) (t : Text) → Up (many (reader Atoms) s p k t) (many (reader Atoms) s p (suc k) t)
unfolding many
many_up s p zero t = up_stopped (starts Atoms s t) _ (absent t) _
many_up s p (suc k) t =
    up_if (starts Atoms s t) _ (absent t) _ (absent t) (up_then (under 1 (p t)) (under 1 (p t)) (many (reader Atoms) s p k) (many (reader Atoms) s p (suc k)) (λ x is. is) (many_up s p k)) (λ x is. is)

more_up : (s : Start) (p : Parser Text) (d k : ℕ) (t : Text) → Up (many (reader Atoms) s p k t) (many (reader Atoms) s p (d + k) t)
more_up s p zero k t x is = subst (λ (m : ℕ). many (reader Atoms) s p m t ≡ Ok x) (let e : k ≡ zero + k = omega arith in e) is
more_up s p (suc d) k t x is =
    subst (λ (m : ℕ). many (reader Atoms) s p m t ≡ Ok x) (let e : suc (d + k) ≡ suc d + k = omega arith in e) (many_up s p (d + k) t x (more_up s p d k t x is))

-- no more than 256 repetitions are needed in a text of a unit
pub list_up : (s : Start) (n : ℕ) (t : Text) → length t ≤ 256 → Up (many (reader Atoms) s (at_level 39 n) (length t) t) (reading_list s n t)
unfolding reading_list reading_row
list_up s n t short x is =
    let longer : many (reader Atoms) s (at_level 39 n) ((256 - length t) + length t) t ≡ Ok x = more_up s (at_level 39 n) (256 - length t) (length t) t x is in
    let same : (256 - length t) + length t ≡ 256 = omega (arith, short) in
    up_many s (at_level 39 n) (at_level 40 n) (up_level 39 n) 256 t x (subst (λ (k : ℕ). many (reader Atoms) s (at_level 39 n) k t ≡ Ok x) same longer)

-- what is left is no longer than the text
pub no_longer : (t : Text) (o : Outcome) → Takes t o → length (left_after o) ≤ length t
no_longer t (Ok p) h = let e : length (atoms p.0 ++ p.1) ≡ length t = ap length h in omega (arith, e, length-append (atoms p.0) p.1)
no_longer t (Err e) h = omega arith

pub takes_reading : (n : ℕ) (t : Text) → Takes t (reading_row n t)
unfolding reading_row
takes_reading n t = takes_level no_statement in_parentheses (takes_statement 0) (takes_deep no_statement (takes_statement 0) 32) 40 n t

pub reading_no_longer : (n : ℕ) (t : Text) → length (left_after (reading_row n t)) ≤ length t
reading_no_longer n t = no_longer t (reading_row n t) (takes_reading n t)

pub part_no_longer : (n : ℕ) (t : Text) → length (after_phrase n t) ≤ length t
unfolding after_phrase
part_no_longer n t = reading_no_longer n t

pub list_no_longer : (s : Start) (n : ℕ) (t : Text) → length (after_list s n t) ≤ length t
unfolding after_list reading_list
list_no_longer s n t = no_longer t (many (reader Atoms) s (reading_row n) 256 t) (takes_many s (reading_row n) (takes_reading n) 256 t)

-- so it fits a unit where the text does
pub short_drop : (k : ℕ) (t : Text) → length t ≤ 256 → length (drop k t) ≤ 256
short_drop k t h = omega (arith, h, length-drop k t)

pub short_leaf : (k : Leaf) (t : Text) → length t ≤ 256 → length (after_leaf k t) ≤ 256
short_leaf leaf.Text t h = omega arith
short_leaf leaf.LineNumber t h = short_drop 3 t h
short_leaf k t h = short_drop (leaf_size k t) t h

pub short_part : (n : ℕ) (t : Text) → length t ≤ 256 → length (after_phrase n t) ≤ 256
short_part n t h = let e = part_no_longer n t in omega (arith, e, h)

pub short_list : (s : Start) (n : ℕ) (t : Text) → length t ≤ 256 → length (after_list s n t) ≤ 256
short_list s n t h = let e = list_no_longer s n t in omega (arith, e, h)

pub short_fits : (t : Text) → length t ≤ 256 → fits_unit t ≡ true
short_fits t h = grind (arith, nat_tests)

pub short_of : (t : Text) → fits_unit t ≡ true → length t ≤ 256
short_of t h = grind (arith, nat_tests)
