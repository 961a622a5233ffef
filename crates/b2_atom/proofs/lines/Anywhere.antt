-- A tree that some kind of line allows is one that a line of atoms allows, also where more parentheses may be open.
use Rattle.std.proofs.Common.{◌≡◌, ℕ, zero, suc, ◌≤◌, ◌==◌, ◌&&◌, ◌||◌, not, Bool, true, false, List, [], ◌∷◌, refl, arith, inl, inr}
use Rattle.b2_atom.specs.Tokens.{Token}
use Rattle.b2_atom.specs.Tokens.Token.{Coded, Short, Plain, Lined}
use Rattle.b2_atom.specs.Tree.{Trees}
use Rattle.b2_atom.specs.Tree.Trees.{Done, Put, In}
use Rattle.b2_atom.specs.Grammar.{row_items, barred_following, barred_line, barred_position}
use Rattle.b2_atom.specs.Fitting.{Fits, FitsPut, FitsIn, FitsBranch, fits_token, giving, is_statement, is_allowed, LineTree, LineTreeWithin}
use Rattle.b2_atom.specs.Table.{forms}
use Rattle.b2_atom.specs.declared.rows.TheConstants as row
use Rattle.b2_atom.specs.declared.words.Origin.{Origin}
use Rattle.b2_atom.specs.declared.words.Origin.TheVariants as origin
use Rattle.b2_atom.specs.declared.forms.Position.{Position}
use Rattle.b2_atom.specs.declared.forms.Rule.{Rule}
use Rattle.b2_atom.specs.declared.forms.Form.{Form}
use Rattle.b2_atom.specs.declared.forms.Item.{Item}
use Rattle.b2_atom.specs.declared.forms.Item.TheVariants.{Word, Sign, Among, ProgramWord, Ignored, ShortWord, Comma, LeftOut, End, Typed, Part, Maybe, Either, Many, Nest, Statement}
use Rattle.b2_atom.proofs.Booleans.{and_left, and_right, both, or_cases, or_one, or_other}

token_program : (i : Item) (t : Token) → fits_token origin.Program i t ≡ true → fits_token origin.Atoms i t ≡ true
token_program (Word c) (Coded d) h = h
token_program (Word c) (Short e) h = h
token_program (Word c) (Plain j w) h = h
token_program (Word c) (Lined a2 b2) h = h
token_program (Sign c code) (Coded d) h = h
token_program (Sign c code) (Short e) h = h
token_program (Sign c code) (Plain j w) h = h
token_program (Sign c code) (Lined a2 b2) h = h
token_program (Among a b code) (Coded d) h = h
token_program (Among a b code) (Short e) h = h
token_program (Among a b code) (Plain j w) h = h
token_program (Among a b code) (Lined a2 b2) h = h
token_program (Ignored c) (Coded d) h = h
token_program (Ignored c) (Short e) h = h
token_program (Ignored c) (Plain j w) h = h
token_program (Ignored c) (Lined a2 b2) h = h
token_program (ShortWord c) (Coded d) h = h
token_program (ShortWord c) (Short d) h = h
token_program (ShortWord c) (Plain j w) h = h
token_program (ShortWord c) (Lined a2 b2) h = h
token_program Comma (Coded d) h = h
token_program Comma (Short e) h = h
token_program Comma (Plain j w) h = h
token_program Comma (Lined a2 b2) h = h
token_program LeftOut (Coded d) h = h
token_program LeftOut (Short e) h = h
token_program LeftOut (Plain j w) h = h
token_program LeftOut (Lined a2 b2) h = h
token_program End (Coded d) h = h
token_program End (Short e) h = h
token_program End (Plain j w) h = h
token_program End (Lined a2 b2) h = h
token_program (Typed k code) (Coded d) h = h
token_program (Typed k code) (Short e) h = h
token_program (Typed k code) (Plain j w) h = h
token_program (Typed k code) (Lined a2 b2) h = h
token_program (Part n) (Coded d) h = h
token_program (Part n) (Short e) h = h
token_program (Part n) (Plain j w) h = h
token_program (Part n) (Lined a2 b2) h = h
token_program (Maybe x n) (Coded d) h = h
token_program (Maybe x n) (Short e) h = h
token_program (Maybe x n) (Plain j w) h = h
token_program (Maybe x n) (Lined a2 b2) h = h
token_program (Either x n m) (Coded d) h = h
token_program (Either x n m) (Short e) h = h
token_program (Either x n m) (Plain j w) h = h
token_program (Either x n m) (Lined a2 b2) h = h
token_program (Many x n) (Coded d) h = h
token_program (Many x n) (Short e) h = h
token_program (Many x n) (Plain j w) h = h
token_program (Many x n) (Lined a2 b2) h = h
token_program (Nest n) (Coded d) h = h
token_program (Nest n) (Short e) h = h
token_program (Nest n) (Plain j w) h = h
token_program (Nest n) (Lined a2 b2) h = h
token_program (Statement x) (Coded d) h = h
token_program (Statement x) (Short e) h = h
token_program (Statement x) (Plain j w) h = h
token_program (Statement x) (Lined a2 b2) h = h
token_program (ProgramWord c) (Coded d) h = h
token_program (ProgramWord c) (Short e) h = h
token_program (ProgramWord c) (Plain j w) h = h
token_program (ProgramWord c) (Lined a2 b2) h = h

token_immediate : (i : Item) (t : Token) → fits_token origin.Immediate i t ≡ true → fits_token origin.Atoms i t ≡ true
token_immediate (Word c) (Coded d) h = h
token_immediate (Word c) (Short e) h = h
token_immediate (Word c) (Plain j w) h = h
token_immediate (Word c) (Lined a2 b2) h = h
token_immediate (Sign c code) (Coded d) h = h
token_immediate (Sign c code) (Short e) h = h
token_immediate (Sign c code) (Plain j w) h = h
token_immediate (Sign c code) (Lined a2 b2) h = h
token_immediate (Among a b code) (Coded d) h = h
token_immediate (Among a b code) (Short e) h = h
token_immediate (Among a b code) (Plain j w) h = h
token_immediate (Among a b code) (Lined a2 b2) h = h
token_immediate (Ignored c) (Coded d) h = h
token_immediate (Ignored c) (Short e) h = h
token_immediate (Ignored c) (Plain j w) h = h
token_immediate (Ignored c) (Lined a2 b2) h = h
token_immediate (ShortWord c) (Coded d) h = h
token_immediate (ShortWord c) (Short d) h = h
token_immediate (ShortWord c) (Plain j w) h = h
token_immediate (ShortWord c) (Lined a2 b2) h = h
token_immediate Comma (Coded d) h = h
token_immediate Comma (Short e) h = h
token_immediate Comma (Plain j w) h = h
token_immediate Comma (Lined a2 b2) h = h
token_immediate LeftOut (Coded d) h = h
token_immediate LeftOut (Short e) h = h
token_immediate LeftOut (Plain j w) h = h
token_immediate LeftOut (Lined a2 b2) h = h
token_immediate End (Coded d) h = h
token_immediate End (Short e) h = h
token_immediate End (Plain j w) h = h
token_immediate End (Lined a2 b2) h = h
token_immediate (Typed k code) (Coded d) h = h
token_immediate (Typed k code) (Short e) h = h
token_immediate (Typed k code) (Plain j w) h = h
token_immediate (Typed k code) (Lined a2 b2) h = h
token_immediate (Part n) (Coded d) h = h
token_immediate (Part n) (Short e) h = h
token_immediate (Part n) (Plain j w) h = h
token_immediate (Part n) (Lined a2 b2) h = h
token_immediate (Maybe x n) (Coded d) h = h
token_immediate (Maybe x n) (Short e) h = h
token_immediate (Maybe x n) (Plain j w) h = h
token_immediate (Maybe x n) (Lined a2 b2) h = h
token_immediate (Either x n m) (Coded d) h = h
token_immediate (Either x n m) (Short e) h = h
token_immediate (Either x n m) (Plain j w) h = h
token_immediate (Either x n m) (Lined a2 b2) h = h
token_immediate (Many x n) (Coded d) h = h
token_immediate (Many x n) (Short e) h = h
token_immediate (Many x n) (Plain j w) h = h
token_immediate (Many x n) (Lined a2 b2) h = h
token_immediate (Nest n) (Coded d) h = h
token_immediate (Nest n) (Short e) h = h
token_immediate (Nest n) (Plain j w) h = h
token_immediate (Nest n) (Lined a2 b2) h = h
token_immediate (Statement x) (Coded d) h = h
token_immediate (Statement x) (Short e) h = h
token_immediate (Statement x) (Plain j w) h = h
token_immediate (Statement x) (Lined a2 b2) h = h
token_immediate (ProgramWord c) (Coded d) h = cc
token_immediate (ProgramWord c) (Short e) h = h
token_immediate (ProgramWord c) (Plain j w) h = h
token_immediate (ProgramWord c) (Lined a2 b2) h = h

token_anywhere : (o : Origin) (i : Item) (t : Token) → fits_token o i t ≡ true → fits_token origin.Atoms i t ≡ true
token_anywhere origin.Program i t h = token_program i t h
token_anywhere origin.Immediate i t h = token_immediate i t h
token_anywhere origin.Atoms i t h = h

allowed_by : (a b c : Bool) → not (a || (b || c)) ≡ true → not (a || (false || c)) ≡ true
allowed_by true b c h = h
allowed_by false true c h = cc
allowed_by false false c h = h

no_bar : (r : Rule) → barred_line origin.Atoms r ≡ false
no_bar r = refl

allowed_anywhere : (o : Origin) (p : Position) (r : Rule) → is_allowed o p r ≡ true → is_allowed origin.Atoms p r ≡ true
allowed_anywhere o p r h = allowed_by (barred_following p r) (barred_line o r) (barred_position p r) h

statement_anywhere : (o : Origin) (p : Position) (m : ℕ) (fs : List Form) → is_statement fs o p m ≡ true → is_statement fs origin.Atoms p m ≡ true
statement_anywhere o p m [] h = h
statement_anywhere o p m (f ∷ fs) h = elim (or_cases (f.row == m && is_allowed o p f.rule) (is_statement fs o p m) h) [
  | inl g ↦ or_one _ _ (both (f.row == m) _ (and_left _ _ g) (allowed_anywhere o p f.rule (and_right (f.row == m) _ g)))
  | inr g ↦ or_other (f.row == m && is_allowed origin.Atoms p f.rule) _ (statement_anywhere o p m fs g)
]

none_less : (n : ℕ) → suc n ≤ 0 → ⊥
none_less n h = omega (arith, h)

one_less : (n m : ℕ) → suc n ≤ suc m → n ≤ m
one_less n m h = omega (arith, h)

abbrev Anywhere : Trees → Type 0
Anywhere t = (o : Origin) (most more room wider : ℕ) → most ≤ more → room ≤ wider → (is : List Item) → Fits o most room is t → Fits origin.Atoms more wider is t

branch_anywhere : (inner ts : Trees) → Anywhere inner → Anywhere ts → (o : Origin) (most more room wider : ℕ) → most ≤ more → room ≤ wider → (m : ℕ) (i : Item) (is : List Item)
    → FitsBranch o most room i is m (λ (deep : ℕ) (items : List Item). Fits o most deep items inner) (λ (rest : List Item). Fits o most room rest ts)
    → FitsBranch origin.Atoms more wider i is m (λ (deep : ℕ) (items : List Item). Fits origin.Atoms more deep items inner) (λ (rest : List Item). Fits origin.Atoms more wider rest ts)
branch_anywhere inner ts ai at o most more room wider greater roomier m (Part n) is h = (h.0, (ai o most more room wider greater roomier (row_items n) h.1.0, at o most more room wider greater roomier is h.1.1))
branch_anywhere inner ts ai at o most more room wider greater roomier zero (Maybe s n) is h = (ai o most more room wider greater roomier [] h.0, at o most more room wider greater roomier is h.1)
branch_anywhere inner ts ai at o most more room wider greater roomier (suc zero) (Maybe s n) is h = (ai o most more room wider greater roomier (row_items n) h.0, at o most more room wider greater roomier is h.1)
branch_anywhere inner ts ai at o most more room wider greater roomier (suc (suc m)) (Maybe s n) is h = absurd h
branch_anywhere inner ts ai at o most more room wider greater roomier zero (Either s n k) is h = (ai o most more room wider greater roomier (row_items k) h.0, at o most more room wider greater roomier is h.1)
branch_anywhere inner ts ai at o most more room wider greater roomier (suc zero) (Either s n k) is h = (ai o most more room wider greater roomier (row_items n) h.0, at o most more room wider greater roomier is h.1)
branch_anywhere inner ts ai at o most more room wider greater roomier (suc (suc m)) (Either s n k) is h = absurd h
branch_anywhere inner ts ai at o most more room wider greater roomier zero (Many s n) is h = (ai o most more room wider greater roomier [] h.0, at o most more room wider greater roomier is h.1)
branch_anywhere inner ts ai at o most more room wider greater roomier (suc zero) (Many s n) is h = (ai o most more room wider greater roomier (row_items n) h.0, at o most more room wider greater roomier (Many s n ∷ is) h.1)
branch_anywhere inner ts ai at o most more room wider greater roomier (suc (suc m)) (Many s n) is h = absurd h
branch_anywhere inner ts ai at o most more zero wider greater roomier m (Nest n) is h = absurd h
branch_anywhere inner ts ai at o most more (suc room) zero greater roomier m (Nest n) is h = absurd (none_less room roomier)
branch_anywhere inner ts ai at o most more (suc room) (suc wider) greater roomier m (Nest n) is h =
    (h.0, (ai o most more room wider greater (one_less room wider roomier) (row_items n) h.1.0, at o most more (suc room) (suc wider) greater roomier is h.1.1))
branch_anywhere inner ts ai at o most more room wider greater roomier m (Statement p) is h = (statement_anywhere o p m forms h.0, (ai o most more most more greater greater (row_items m) h.1.0, at o most more room wider greater roomier is h.1.1))
branch_anywhere inner ts ai at o most more room wider greater roomier m (Word c) is h = absurd h
branch_anywhere inner ts ai at o most more room wider greater roomier m (Sign c code) is h = absurd h
branch_anywhere inner ts ai at o most more room wider greater roomier m (Among a b code) is h = absurd h
branch_anywhere inner ts ai at o most more room wider greater roomier m (ProgramWord c) is h = absurd h
branch_anywhere inner ts ai at o most more room wider greater roomier m (Ignored c) is h = absurd h
branch_anywhere inner ts ai at o most more room wider greater roomier m (ShortWord c) is h = absurd h
branch_anywhere inner ts ai at o most more room wider greater roomier m Comma is h = absurd h
branch_anywhere inner ts ai at o most more room wider greater roomier m LeftOut is h = absurd h
branch_anywhere inner ts ai at o most more room wider greater roomier m End is h = absurd h
branch_anywhere inner ts ai at o most more room wider greater roomier m (Typed k code) is h = absurd h

in_anywhere : (inner ts : Trees) → Anywhere inner → Anywhere ts → (o : Origin) (most more room wider : ℕ) → most ≤ more → room ≤ wider → (m : ℕ) (is : List Item)
    → FitsIn o most room is m (λ (deep : ℕ) (items : List Item). Fits o most deep items inner) (λ (rest : List Item). Fits o most room rest ts)
    → FitsIn origin.Atoms more wider is m (λ (deep : ℕ) (items : List Item). Fits origin.Atoms more deep items inner) (λ (rest : List Item). Fits origin.Atoms more wider rest ts)
in_anywhere inner ts ai at o most more room wider greater roomier m [] h = absurd h
in_anywhere inner ts ai at o most more room wider greater roomier m (i ∷ is) h = branch_anywhere inner ts ai at o most more room wider greater roomier m i is h

put_anywhere : (t : Token) (ts : Trees) → Anywhere ts → (o : Origin) (most more room wider : ℕ) → most ≤ more → room ≤ wider → (is : List Item) → FitsPut o is t (λ (rest : List Item). Fits o most room rest ts)
    → FitsPut origin.Atoms is t (λ (rest : List Item). Fits origin.Atoms more wider rest ts)
put_anywhere t ts at o most more room wider greater roomier [] h = absurd h
put_anywhere t ts at o most more room wider greater roomier (i ∷ is) h = (token_anywhere o i t h.0, at o most more room wider greater roomier is h.1)

fits_anywhere : (t : Trees) → Anywhere t
fits_anywhere Done o most more room wider greater roomier is h = h
fits_anywhere (Put t ts) o most more room wider greater roomier is h = put_anywhere t ts (fits_anywhere ts) o most more room wider greater roomier (giving is) h
fits_anywhere (In m inner ts) o most more room wider greater roomier is h = in_anywhere inner ts (fits_anywhere inner) (fits_anywhere ts) o most more room wider greater roomier m (giving is) h

-- and where more parentheses may be open
pub anywhere_wider : (most more : ℕ) → most ≤ more → (o : Origin) (t : Trees) → LineTreeWithin most o t → LineTreeWithin more origin.Atoms t
anywhere_wider most more greater o t h = record { fits = fits_anywhere t o most more most more greater greater (row_items row.LINE) h.fits; remarks = h.remarks }

pub anywhere : (o : Origin) (t : Trees) → LineTree o t → LineTree origin.Atoms t
anywhere o t h = anywhere_wider 32 32 (let same : 32 ≤ 32 = omega arith in same) o t h
