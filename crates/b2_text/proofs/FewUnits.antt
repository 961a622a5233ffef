-- A line has at most two thirds as many units as it takes bytes: before each but the first stands a `:`, or a statement that THEN, ELSE
-- or ERROR ends.
use Rattle.std.proofs.Common.{◌≡◌, ℕ, zero, suc, ◌+◌, ◌*◌, ◌<◌, ◌≤◌, ◌==◌, ◌||◌, Bool, true, false, List, [], ◌∷◌, ◌++◌, length, refl, sym, ap, subst, arith, inl, inr, Ok}
use Rattle.std.proofs.lemmas.List.{length-append, length-map}
use Rattle.std.proofs.lemmas.List.Elements.{All-head, All-tail}
use Rattle.std.specs.List.{All}
use Rattle.b2_atom.specs.Words.{Text}
use Rattle.b2_atom.specs.Tokens.Token.{Coded, Short, Plain, Lined}
use Rattle.b2_atom.specs.Tree.{Trees, atoms}
use Rattle.b2_atom.specs.Tree.Trees.{Done, Put, In}
use Rattle.b2_atom.specs.Grammar.{reader, statement, row_items}
use Rattle.b2_atom.specs.Lines.{LineUnit, is_line, units_of}
use Rattle.b2_atom.specs.Fitting.{Fits, is_statement}
use Rattle.b2_atom.specs.Units.{TreeUnit, own, units_in, units_on, unit_atoms}
use Rattle.b2_atom.specs.Laws.{IsTree, IsReadAlone}
use Rattle.b2_atom.specs.Table.{forms}
use Rattle.b2_atom.specs.declared.words.TheConstants as word
use Rattle.b2_atom.specs.declared.rows.TheConstants as row
use Rattle.b2_atom.specs.declared.words.Origin.TheVariants.{Atoms}
use Rattle.b2_atom.specs.declared.forms.Start.TheVariants as start
use Rattle.b2_atom.specs.declared.forms.Position.{Position}
use Rattle.b2_atom.specs.declared.forms.Position.TheVariants as position
use Rattle.b2_atom.specs.declared.forms.Item.{Item}
use Rattle.b2_atom.specs.declared.forms.Item.TheVariants.{Word, Sign, Part, Either, Many, End, Statement}
use Rattle.b2_atom.proofs.Booleans.{equal, never, or_cases}
use Rattle.b2_atom.proofs.reading.FittedLines.{following_is, error_is, else_is, if_is, further_is, line_is}
use Rattle.b2_atom.proofs.settled.Lookaheads.{of, of_row, every_statement}
use Rattle.b2_atom.proofs.settled.Computed.{one_of_statements}
use Rattle.b2_atom.proofs.lines.Own.{all_own, whole}
use Rattle.b2_atom.proofs.lines.LineLaws.{spells_tree}
use Rattle.b2_atom.proofs.lines.EachUnit.{tree_is_cut}
use Rattle.b2_text.specs.Program.{Lines, size_of}
use Rattle.b2_text.specs.Blocks as block
use Rattle.b2_text.proofs.Statements.{chosen_of, none_chosen}

-- units of at least a byte
abbrev AreLong : List TreeUnit → Type 0
AreLong [] = Unit {0}
AreLong (u ∷ us) = (1 ≤ length (atoms u.tree)) × AreLong us

long_left : (us vs : List TreeUnit) → AreLong (us ++ vs) → AreLong us
long_left [] vs h = tt
long_left (u ∷ us) vs h = (h.0, long_left us vs h.1)

long_right : (us vs : List TreeUnit) → AreLong (us ++ vs) → AreLong vs
long_right [] vs h = h
long_right (u ∷ us) vs h = long_right us vs h.1

some_read : (p : Position) (s : Text) (m : ℕ) (t : Trees) → statement (reader Atoms) 1 p s ≡ Ok (In m t Done, []) → 1 ≤ length s
some_read p [] m t h = absurd (none_chosen p m (chosen_of p [] m t h).chosen_row)
some_read p (b ∷ s) m t h = omega arith

each_long : (us : List TreeUnit) → All IsReadAlone us → AreLong us
each_long [] h = tt
each_long (u ∷ us) h = (some_read u.position (atoms u.tree) u.row u.tree (All-head IsReadAlone u us h), each_long us (All-tail IsReadAlone u us h))

-- what a statement of a place may lack of three halves of a byte for each of its units, in halves: the `:` before it pays for two
abbrev spare : Position → ℕ
spare position.First = 1
spare position.Further = 2
spare position.Following = 1

-- a statement and those that follow it in its tree, which has fewer than n bytes
abbrev IsCounted : ℕ → ℕ → Type 0
IsCounted n m =
    (p : Position) (t : Trees) → is_statement forms Atoms p m ≡ true → length (atoms t) < n → Fits Atoms 32 32 (row_items m) t → 1 ≤ length (atoms (own (row_items m) t))
    → AreLong (units_in (row_items m) t) → 3 * suc (length (units_in (row_items m) t)) ≤ 2 * length (atoms t) + spare p

abbrev AreCounted : ℕ → Type 0
AreCounted n = (m : ℕ) → IsCounted n m

-- items with a statement at their end, and s halves of a byte to spare
abbrev Spares : ℕ → ℕ → List Item → Type 0
Spares n s is = (t : Trees) → length (atoms t) < n → Fits Atoms 32 32 is t → AreLong (units_in is t) → 3 * length (units_in is t) + s ≤ 2 * length (atoms t) + 1

after_word : (n s c : ℕ) (is : List Item) → Spares n s is → Spares (suc n) (s + 2) (Word c ∷ is)
after_word n s c is h Done few fits long = cc
after_word n s c is h (Put (Coded d) ts) few fits long = let rest = h ts (omega (arith, few)) fits.1 long in omega (arith, rest)
after_word n s c is h (Put (Short d) ts) few fits long = cc
after_word n s c is h (Put (Plain k w) ts) few fits long = cc
after_word n s c is h (Put (Lined a b) ts) few fits long = cc
after_word n s c is h (In m t ts) few fits long = absurd fits

fewer : (n s : ℕ) (is : List Item) → Spares (suc n) s is → Spares n s is
fewer n s is h t few fits long = h t (omega (arith, few)) fits long

after_phrase : (n s r : ℕ) (is : List Item) → whole (row_items r) ≡ true → Spares n s is → Spares n s (Part r ∷ is)
after_phrase n s r is plain h Done few fits long = cc
after_phrase n s r is plain h (Put x ts) few fits long = cc
after_phrase n s r is plain h (In m t ts) few fits long =
    let none = (all_own t (row_items r) plain).units in
    let both = length-append (atoms t) (atoms ts) in
    let units : units_in (Part r ∷ is) (In m t ts) ≡ units_in is ts = ap (λ (us : List TreeUnit). us ++ units_in is ts) none in
    let count = ap (λ (us : List TreeUnit). length us) units in
    let rest = h ts (omega (arith, few, both)) fits.1.1 (subst AreLong units long) in
    omega (arith, rest, both, count)

-- a statement in the place of an item, and what stands after it
stated : (n : ℕ) → AreCounted n → (p : Position) (is : List Item) (m : ℕ) (t ts : Trees) → length (atoms t) < n → is_statement forms Atoms p m ≡ true → Fits Atoms 32 32 (row_items m) t
    → AreLong (units_in (Statement p ∷ is) (In m t ts))
    → 3 * length (units_in (Statement p ∷ is) (In m t ts)) ≤ 2 * length (atoms t) + spare p + 3 * length (units_in is ts)
stated n all p is m t ts few allowed fits long =
    let first = all m p t allowed few fits long.0 (long_left (units_in (row_items m) t) (units_in is ts) long.1) in
    let count = length-append (units_in (row_items m) t) (units_in is ts) in
    omega (arith, first, count)

following : (n : ℕ) → AreCounted n → Spares n 0 (Statement position.Following ∷ [])
following n all Done few fits long = cc
following n all (Put x ts) few fits long = cc
following n all (In m t ts) few fits long =
    let both = length-append (atoms t) (atoms ts) in
    let none = ap (λ (us : List TreeUnit). length us) (all_own ts [] refl).units in
    let it = stated n all position.Following [] m t ts (omega (arith, few, both)) fits.0 fits.1.0 long in
    omega (arith, it, both, none)

-- items without statements
plain_items : (n : ℕ) (is : List Item) → whole is ≡ true → Spares n 0 is
plain_items n is plain t few fits long = let none = ap (λ (us : List TreeUnit). length us) (all_own t is plain).units in omega (arith, none)

-- a branch with nothing after it
branch_alone : (n : ℕ) (is : List Item) (t ts : Trees) → Spares n 0 is → length (atoms t ++ atoms ts) < n → Fits Atoms 32 32 is t → AreLong (units_in is t ++ units_in [] ts)
    → 3 * length (units_in is t ++ units_in [] ts) + 0 ≤ 2 * length (atoms t ++ atoms ts) + 1
branch_alone n is t ts h few fits long =
    let both = length-append (atoms t) (atoms ts) in
    let none = ap (λ (us : List TreeUnit). length us) (all_own ts [] refl).units in
    let count = length-append (units_in is t) (units_in [] ts) in
    let inner = h t (omega (arith, few, both)) fits (long_left (units_in is t) (units_in [] ts) long) in
    omega (arith, inner, both, none, count)

following_row : (n : ℕ) → AreCounted n → Spares n 0 (row_items row.FOLLOWING)
following_row n all = subst (λ (is : List Item). Spares n 0 is) (sym following_is) (following n all)

line_number : whole (row_items row.LINE_NUMBER) ≡ true
unfolding of_row of row_items
line_number = refl

condition : whole (row_items row.CONDITION) ≡ true
unfolding of_row of row_items
condition = refl

abbrev LineOrStatement : Item
LineOrStatement = Either start.Line row.LINE_NUMBER row.FOLLOWING

line_or_statement : (n : ℕ) → AreCounted n → Spares n 0 (LineOrStatement ∷ [])
line_or_statement n all Done few fits long = cc
line_or_statement n all (Put x ts) few fits long = cc
line_or_statement n all (In zero t ts) few fits long = branch_alone n (row_items row.FOLLOWING) t ts (following_row n all) few fits.0 long
line_or_statement n all (In (suc zero) t ts) few fits long =
    branch_alone n (row_items row.LINE_NUMBER) t ts (plain_items n (row_items row.LINE_NUMBER) line_number) few fits.0 long
line_or_statement n all (In (suc (suc k)) t ts) few fits long = absurd fits

part_following : (n : ℕ) → AreCounted n → Spares n 0 (Part row.FOLLOWING ∷ [])
part_following n all Done few fits long = cc
part_following n all (Put x ts) few fits long = cc
part_following n all (In m t ts) few fits long = branch_alone n (row_items row.FOLLOWING) t ts (following_row n all) few fits.1.0 long

-- the rows in which a statement may follow: IF has two words before it, ELSE and ERROR have one and stand after a `:`
if_counted : (n : ℕ) → AreCounted n → IsCounted (suc n) row.IF
if_counted n all p t allowed few fits own_long long =
    let items = after_word n 2 word.IF _ (after_phrase n 2 row.CONDITION _ condition (fewer n 2 _ (after_word n 0 word.THEN _ (line_or_statement n all)))) in
    let row_spares = subst (λ (is : List Item). Spares (suc n) 4 is) (sym if_is) items in
    let it = row_spares t few fits long in
    omega (arith, it)

else_spares : (n : ℕ) → AreCounted n → Spares (suc n) 2 (row_items row.ELSE)
else_spares n all = subst (λ (is : List Item). Spares (suc n) 2 is) (sym else_is) (after_word n 0 word.ELSE _ (line_or_statement n all))

error_spares : (n : ℕ) → AreCounted n → Spares (suc n) 2 (row_items row.ERROR)
error_spares n all = subst (λ (is : List Item). Spares (suc n) 2 is) (sym error_is) (after_word n 0 word.ERROR _ (part_following n all))

after_colon : (n m : ℕ) → is_statement forms Atoms position.First m ≡ false → is_statement forms Atoms position.Following m ≡ false → Spares n 2 (row_items m) → IsCounted n m
after_colon n m not_first not_following h position.First t allowed few fits own_long long = never _ allowed not_first
after_colon n m not_first not_following h position.Following t allowed few fits own_long long = never _ allowed not_following
after_colon n m not_first not_following h position.Further t allowed few fits own_long long = let it = h t few fits long in omega (arith, it)

-- any other
plain_counted : (n m : ℕ) → whole (row_items m) ≡ true → IsCounted n m
plain_counted n m plain p t allowed few fits own_long long =
    let same = ap (λ (u : Trees). length (atoms u)) (all_own t (row_items m) plain).tree in
    let none = ap (λ (us : List TreeUnit). length us) (all_own t (row_items m) plain).units in
    let some = spared p in
    omega (arith, same, none, own_long, some) where
      spared : (q : Position) → 1 ≤ spare q
      spared position.First = omega arith
      spared position.Further = omega arith
      spared position.Following = omega arith

abbrev is_known : ℕ → Bool
is_known m = whole (row_items m) || (m == row.IF || (m == row.ELSE || m == row.ERROR))

forms_known : every_statement is_known forms ≡ true
unfolding of_row of row_items
forms_known = refl

of_equal : (n m k : ℕ) → (m == k) ≡ true → IsCounted n k → IsCounted n m
of_equal n m k same h = subst (λ (j : ℕ). IsCounted n j) (sym (equal m k same)) h

of_known : (n m : ℕ) → AreCounted n → is_known m ≡ true → IsCounted (suc n) m
of_known n m all h = elim (or_cases (whole (row_items m)) _ h) [
  | inl g ↦ plain_counted (suc n) m g
  | inr g ↦ elim (or_cases (m == row.IF) _ g) [
    | inl e ↦ of_equal (suc n) m row.IF e (if_counted n all)
    | inr e ↦ elim (or_cases (m == row.ELSE) _ e) [
      | inl d ↦ of_equal (suc n) m row.ELSE d (after_colon (suc n) row.ELSE refl refl (else_spares n all))
      | inr d ↦ of_equal (suc n) m row.ERROR d (after_colon (suc n) row.ERROR refl refl (error_spares n all))
    ]
  ]
]

all_counted : (n : ℕ) → AreCounted n
all_counted zero m p t allowed few fits own_long long = absurd (omega (arith, few))
all_counted (suc n) m p t allowed few fits own_long long =
    of_known n m (all_counted n) (one_of_statements is_known Atoms p m forms forms_known allowed) p t allowed few fits own_long long

counted : (p : Position) (is : List Item) (m : ℕ) (t ts : Trees) → is_statement forms Atoms p m ≡ true → Fits Atoms 32 32 (row_items m) t → AreLong (units_in (Statement p ∷ is) (In m t ts))
    → 3 * length (units_in (Statement p ∷ is) (In m t ts)) ≤ 2 * length (atoms t) + spare p + 3 * length (units_in is ts)
counted p is m t ts allowed fits long = stated (suc (length (atoms t))) (all_counted (suc (length (atoms t)))) p is m t ts (omega arith) allowed fits long

-- the statements after the first of a line
abbrev FurtherItems : List Item
FurtherItems = Many (start.Code 58) row.FURTHER_STATEMENT ∷ End ∷ []

abbrev FurtherRow : List Item
FurtherRow = Sign 58 25 ∷ Statement position.Further ∷ []

further_row : (t : Trees) → Fits Atoms 32 32 FurtherRow t → AreLong (units_in FurtherRow t) → 3 * length (units_in FurtherRow t) ≤ 2 * length (atoms t)
further_row (Put (Coded d) (In m t ts)) fits long =
    let both = length-append (atoms t) (atoms ts) in
    let none = ap (λ (us : List TreeUnit). length us) (all_own ts [] refl).units in
    let it = counted position.Further [] m t ts fits.1.0 fits.1.1.0 long in
    omega (arith, it, both, none)
further_row (Put (Coded d) (Put x ts)) fits long = cc
further_row (Put (Coded d) Done) fits long = cc
further_row (Put (Short d) ts) fits long = cc
further_row (Put (Plain k w) ts) fits long = cc
further_row (Put (Lined a b) ts) fits long = cc
further_row (In m t ts) fits long = absurd fits
further_row Done fits long = cc

further_items : (t : Trees) → Fits Atoms 32 32 FurtherItems t → AreLong (units_in FurtherItems t) → 3 * length (units_in FurtherItems t) ≤ 2 * length (atoms t)
further_items (In zero t ts) fits long =
    let none = ap (λ (us : List TreeUnit). length us) (all_own t [] refl).units in
    let no_more = ap (λ (us : List TreeUnit). length us) (all_own ts (End ∷ []) refl).units in
    let count = length-append (units_in [] t) (units_in (End ∷ []) ts) in
    omega (arith, none, no_more, count)
further_items (In (suc zero) t ts) fits long =
    let rows : List Item = row_items row.FURTHER_STATEMENT in
    let both = length-append (atoms t) (atoms ts) in
    let count = length-append (units_in rows t) (units_in FurtherItems ts) in
    let P : List Item → Type 0 = λ is. Fits Atoms 32 32 is t → AreLong (units_in is t) → 3 * length (units_in is t) ≤ 2 * length (atoms t) in
    let it = subst P (sym further_is) (further_row t) fits.0 (long_left (units_in rows t) (units_in FurtherItems ts) long) in
    let rest = further_items ts fits.1 (long_right (units_in rows t) (units_in FurtherItems ts) long) in
    omega (arith, it, rest, both, count)
further_items (In (suc (suc k)) t ts) fits long = absurd fits
further_items (Put x ts) fits long = cc
further_items Done fits long = cc

-- all units of a line
abbrev LineItems : List Item
LineItems = Statement position.First ∷ FurtherItems

line_items : (t : Trees) → Fits Atoms 32 32 LineItems t → AreLong (units_in LineItems t) → 3 * length (units_in LineItems t) ≤ 2 * length (atoms t) + 1
line_items (In m t ts) fits long =
    let both = length-append (atoms t) (atoms ts) in
    let it = counted position.First FurtherItems m t ts fits.0 fits.1.0 long in
    let rest = further_items ts fits.1.1 (long_right (units_in (row_items m) t) (units_in FurtherItems ts) long.1) in
    omega (arith, it, rest, both)
line_items (Put x ts) fits long = cc
line_items Done fits long = cc

few_on_tree : (t : Trees) → IsTree t → 3 * length (units_of (atoms t)) ≤ 2 * length (atoms t) + 1
unfolding units_on
few_on_tree t h =
    let c = tree_is_cut t h in
    let count = ap (λ (us : List LineUnit). length us) c.units in
    let same = length-map (units_on t) unit_atoms in
    let P : List Item → Type 0 = λ is. Fits Atoms 32 32 is t → AreLong (units_in is t) → 3 * length (units_in is t) ≤ 2 * length (atoms t) + 1 in
    let few = subst P (sym line_is) (line_items t) h.fits (each_long (units_on t) c.alone) in
    omega (arith, count, same, few)

pub few_in_line : (line : Text) → is_line line ≡ true → 3 * length (units_of line) ≤ 2 * length line + 1
few_in_line line h =
    let s = spells_tree line h in
    subst (λ (a : Text). 3 * length (units_of a) ≤ 2 * length a + 1) s.spelled (few_on_tree s.tree s.is_tree)

-- and of all lines
abbrev pub AreLines : Lines → Type 0
AreLines [] = Unit {0}
AreLines (l ∷ ls) = (is_line l.1 ≡ true) × AreLines ls

pub two_thirds : (ls : Lines) → AreLines ls → 3 * block.units_in ls ≤ 2 * size_of ls
two_thirds [] all = omega arith
two_thirds (l ∷ ls) all = let here = few_in_line l.1 all.0 in let rest = two_thirds ls all.1 in omega (arith, here, rest)
