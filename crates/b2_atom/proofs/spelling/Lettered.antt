-- Letters that stand for themselves, and the three of BEG.
use Rattle.std.proofs.Common.{◌≡◌, ℕ, Bool, true, false, not, if◌then◌else◌, ◌==◌, ◌||◌, ◌&&◌, List, [], ◌∷◌, get_or, refl, sym, ap, subst, ◌∙◌, arith}
use Rattle.std.proofs.lemmas.Bool.Decides.{nat_tests}
use Rattle.b2_base.specs.Lexical.{first, is_letter, upper}
use Rattle.b2_atom.specs.Words.{Text, kept_byte, ahead}
use Rattle.b2_atom.specs.Tokens.{Token, is_operand}
use Rattle.b2_atom.specs.Tokens.Token.{Coded, Short, Plain, Lined}
use Rattle.b2_atom.specs.Grammar.{spelled_after}
use Rattle.b2_atom.specs.Spelling.{good_token, is_free_text, is_word_or_sign, is_image, is_lettered, may_follow_code, Neighbours, AllGood, is_beg}
use Rattle.b2_atom.specs.declared.words.TheConstants as word
use Rattle.b2_atom.specs.declared.words.Origin.{Origin}
use Rattle.b2_atom.specs.declared.words.Origin.TheVariants.{Program, Immediate, Atoms}
use Rattle.b2_atom.proofs.Booleans.{and_left, and_right, false_true, equal}
use Rattle.b2_atom.proofs.typed.WordsRead.{typed_b, typed_e}
use Rattle.b2_atom.proofs.typed.Names.{ahead_letter, letter_upper}
use Rattle.b2_atom.proofs.spelling.Begun.{no_e}
use Rattle.b2_atom.proofs.spelling.SideBySide.{Showing, FirstOf, quiet_letter, later}
use Rattle.b2_atom.proofs.typed.Widths.{get_first, kept_e}

-- what may follow a letter
else_of : (a b c : Bool) → b ≡ false → (if b then a else c) ≡ true → c ≡ true
else_of a true c h k = cc
else_of a false c h k = k

then_of : (a b c : Bool) → b ≡ true → (if b then a else c) ≡ true → a ≡ true
then_of a true c h k = k
then_of a false c h k = cc

letter_alone : (c : ℕ) → is_letter c ≡ true → (c == word.REM || c == 37) ≡ false
letter_alone c h = grind (arith, nat_tests)

pub lettered : (c : ℕ) (t : Token) → is_letter c ≡ true → may_follow_code c t ≡ true → is_lettered c t ≡ true
lettered c t h m =
    let rest = else_of (is_free_text t) (c == word.REM || c == 37)
    (not (is_free_text t) && (if is_letter c then is_lettered c t
    else (if c == word.DATA then not (is_word_or_sign t || is_image t) else (if c == word.PRINT then not (is_image t) else true)))) (letter_alone c h) m in
    then_of (is_lettered c t) (is_letter c) (if c == word.DATA then not (is_word_or_sign t || is_image t) else (if c == word.PRINT then not (is_image t) else true)) h
    (and_right (not (is_free_text t)) _ rest)

-- the letters after others
letter_e : (d : ℕ) → is_letter d ≡ true → is_lettered 66 (Coded d) ≡ true → d ≡ 69
letter_e d h k = grind (arith, nat_tests)

letter_g : (e : ℕ) → is_letter e ≡ true → is_lettered 69 (Coded e) ≡ true → e ≡ 71
letter_g e h k = grind (arith, nat_tests)

letter_two : (c d : ℕ) → is_letter d ≡ true → is_lettered c (Coded d) ≡ true → (c == 66 && d == 69 || c == 69 && d == 71) ≡ true
letter_two c d h k = rw h at k

-- a letter is read before what may follow it
ahead_b : (o : Origin) (x : Text) → ahead o (66 ∷ 69 ∷ x) ≡ (66, 69 ∷ x)
ahead_b Program x = typed_b x
ahead_b Immediate x = typed_b x
ahead_b Atoms x = refl

ahead_e : (o : Origin) (x : Text) → ahead o (69 ∷ 71 ∷ x) ≡ (69, 71 ∷ x)
ahead_e Program x = typed_e x
ahead_e Immediate x = typed_e x
ahead_e Atoms x = refl

ahead_two : (o : Origin) (c d : ℕ) (x : Text) (b : Bool) → (c == 66 && d == 69) ≡ b → (b || c == 69 && d == 71) ≡ true → ahead o (c ∷ d ∷ x) ≡ (c, d ∷ x)
ahead_two o c d x true is h =
    let P : ℕ → ℕ → Type 0 = λ a b. ahead o (a ∷ b ∷ x) ≡ (a, b ∷ x) in
    let left : c ≡ 66 = equal c 66 (and_left (c == 66) (d == 69) is) in
    let right : d ≡ 69 = equal d 69 (and_right (c == 66) (d == 69) is) in
    subst (λ a. P a d) (sym left) (subst (λ b. P 66 b) (sym right) (ahead_b o x))
ahead_two o c d x false is h =
    let P : ℕ → ℕ → Type 0 = λ a b. ahead o (a ∷ b ∷ x) ≡ (a, b ∷ x) in
    let left : c ≡ 69 = equal c 69 (and_left (c == 69) (d == 71) h) in
    let right : d ≡ 71 = equal d 71 (and_right (c == 69) (d == 71) h) in
    subst (λ a. P a d) (sym left) (subst (λ b. P 69 b) (sym right) (ahead_e o x))

operand_letter : (c : ℕ) → is_letter c ≡ true → is_operand (Coded c) ≡ true
operand_letter c h = grind (arith, nat_tests)

symbol_first : (c d n : ℕ) (l : Bool) → is_letter c ≡ true → is_letter d ≡ l → l ≡ false → FirstOf (is_operand (Coded c)) (Coded d) n → is_letter (upper n) ≡ false
symbol_first c d n true o h k is = cc
symbol_first c d n false o h k is = quiet_letter n (is.symbol (ap (λ (b : Bool). not b || false) h) (operand_letter c o))

coded_ahead : (o : Origin) (shown : Token → List Token → Text) → Showing o shown → (c d : ℕ) (us : List Token) (l : Bool) → is_letter d ≡ l → is_letter c ≡ true
    → good_token (Coded d) ≡ true → is_lettered c (Coded d) ≡ true → ahead o (c ∷ shown (Coded c) (Coded d ∷ us)) ≡ (c, shown (Coded c) (Coded d ∷ us))
coded_ahead o shown is c d us true l h g m =
    let P : Text → Type 0 = λ t. ahead o (c ∷ t) ≡ (c, t) in
    subst P (sym (is.letters c d us h l)) (ahead_two o c d (shown (Coded d) us) (c == 66 && d == 69) refl (letter_two c d l m))
coded_ahead o shown is c d us false l h g m =
    ahead_letter o c (shown (Coded c) (Coded d ∷ us)) (letter_upper c h) (symbol_first c d (first (shown (Coded c) (Coded d ∷ us))) false h l refl (is.first_is (Coded c) (Coded d) us g))

pub letter_ahead : (o : Origin) (shown : Token → List Token → Text) → Showing o shown → (c : ℕ) (ts : List Token) → is_letter c ≡ true → AllGood ts
    → Neighbours (Coded c ∷ ts) → ahead o (c ∷ shown (Coded c) ts) ≡ (c, shown (Coded c) ts)
letter_ahead o shown is c [] h g nb =
    ahead_letter o c (shown (Coded c) []) (letter_upper c h) (ap (λ (t : Text). is_letter (upper (first t))) (is.empty (Coded c)))
letter_ahead o shown is c (Coded d ∷ us) h g nb = coded_ahead o shown is c d us (is_letter d) refl h g.0 (lettered c (Coded d) h nb.0)
letter_ahead o shown is c (Plain k w ∷ us) h g nb = absurd (false_true (lettered c (Plain k w) h nb.0))
letter_ahead o shown is c (Short d ∷ us) h g nb = absurd (false_true (lettered c (Short d) h nb.0))
letter_ahead o shown is c (Lined high low ∷ us) h g nb =
    ahead_letter o c (shown (Coded c) (Lined high low ∷ us)) (letter_upper c h) ((is.first_is (Coded c) (Lined high low) us g.0).lined refl)

-- whether B E G stand there
no_letter : (o : Origin) (t : Text) (b : ℕ) → ((n : ℕ) → is_letter (upper n) ≡ false → (kept_byte o n == b) ≡ false) → is_letter (upper (first t)) ≡ false → (kept_byte o (get_or t 0 0) == b) ≡ false
no_letter o t b never h = ap (λ (n : ℕ). kept_byte o n == b) (get_first t) ∙ never (first t) h

no_g : (o : Origin) (n : ℕ) → is_letter (upper n) ≡ false → (kept_byte o n == 71) ≡ false
no_g Program n h = grind (arith, nat_tests)
no_g Immediate n h = grind (arith, nat_tests)
no_g Atoms n h = grind (arith, nat_tests)

kept_g : (o : Origin) → kept_byte o 71 ≡ 71
kept_g Program = refl
kept_g Immediate = refl
kept_g Atoms = refl

not_e : (d : ℕ) → is_letter d ≡ false → (d == 69) ≡ false
not_e d h = grind (arith, nat_tests)

not_g : (d : ℕ) → is_letter d ≡ false → (d == 71) ≡ false
not_g d h = grind (arith, nat_tests)

-- after E
third_coded : (o : Origin) (shown : Token → List Token → Text) → Showing o shown → (e : ℕ) (vs : List Token) (l : Bool) → is_letter e ≡ l → good_token (Coded e) ≡ true
    → is_lettered 69 (Coded e) ≡ true → (kept_byte o (get_or (shown (Coded 69) (Coded e ∷ vs)) 0 0) == 71) ≡ (e == 71)
third_coded o shown is e vs true l g m =
    let same : e ≡ 71 = letter_g e l m in
    ap (λ (t : Text). kept_byte o (get_or t 0 0) == 71) (is.letters 69 e vs refl l)
    ∙ ap (λ (n : ℕ). kept_byte o n == 71) same ∙ ap (λ (n : ℕ). n == 71) (kept_g o) ∙ ap (λ (n : ℕ). n == 71) (sym same)
third_coded o shown is e vs false l g m =
    no_letter o (shown (Coded 69) (Coded e ∷ vs)) 71 (no_g o) (symbol_first 69 e (first (shown (Coded 69) (Coded e ∷ vs))) false refl l refl (is.first_is (Coded 69) (Coded e) vs g))
    ∙ sym (not_g e l)

third : (o : Origin) (shown : Token → List Token → Text) → Showing o shown → (us : List Token) → AllGood us → Neighbours (Coded 69 ∷ us)
    → (kept_byte o (get_or (shown (Coded 69) us) 0 0) == 71) ≡ is_beg (Coded 66) (Coded 69 ∷ us)
third o shown is [] g nb = no_letter o (shown (Coded 69) []) 71 (no_g o) (ap (λ (t : Text). is_letter (upper (first t))) (is.empty (Coded 69)))
third o shown is (Coded e ∷ vs) g nb = third_coded o shown is e vs (is_letter e) refl g.0 (lettered 69 (Coded e) refl nb.0)
third o shown is (Plain k w ∷ vs) g nb = absurd (false_true (lettered 69 (Plain k w) refl nb.0))
third o shown is (Short d ∷ vs) g nb = absurd (false_true (lettered 69 (Short d) refl nb.0))
third o shown is (Lined high low ∷ vs) g nb =
    no_letter o (shown (Coded 69) (Lined high low ∷ vs)) 71 (no_g o) ((is.first_is (Coded 69) (Lined high low) vs g.0).lined refl)

-- after B
beg_second : (d : ℕ) (us : List Token) → (d == 69) ≡ false → is_beg (Coded 66) (Coded d ∷ us) ≡ false
beg_second d [] h = refl
beg_second d (Coded e ∷ us) h = ap (λ (b : Bool). b && e == 71) h
beg_second d (Plain k w ∷ us) h = refl
beg_second d (Short e ∷ us) h = refl
beg_second d (Lined high low ∷ us) h = refl

none_behind : (o : Origin) (t : Text) → is_letter (upper (first t)) ≡ false → spelled_after o t 69 71 ≡ false
none_behind o t h = ap (λ (b : Bool). b && kept_byte o (get_or t 1 0) == 71) (no_letter o t 69 (no_e o) h)

second_coded : (o : Origin) (shown : Token → List Token → Text) → Showing o shown → (d : ℕ) (us : List Token) (l : Bool) → is_letter d ≡ l → AllGood (Coded d ∷ us)
    → Neighbours (Coded d ∷ us) → is_lettered 66 (Coded d) ≡ true → spelled_after o (shown (Coded 66) (Coded d ∷ us)) 69 71 ≡ is_beg (Coded 66) (Coded d ∷ us)
second_coded o shown is d us true l g nb m =
    let same : d ≡ 69 = letter_e d l m in
    let P : ℕ → Type 0 = λ n. AllGood (Coded n ∷ us) → Neighbours (Coded n ∷ us) → spelled_after o (n ∷ shown (Coded n) us) 69 71 ≡ is_beg (Coded 66) (Coded n ∷ us) in
    let at_e : P 69 = λ good near. ap (λ (n : ℕ). n == 69 && kept_byte o (get_or (shown (Coded 69) us) 0 0) == 71) (kept_e o) ∙ third o shown is us good.1 near in
    let there : P d = subst P (sym same) at_e in
    ap (λ (t : Text). spelled_after o t 69 71) (is.letters 66 d us refl l) ∙ there g nb
second_coded o shown is d us false l g nb m =
    none_behind o (shown (Coded 66) (Coded d ∷ us)) (symbol_first 66 d (first (shown (Coded 66) (Coded d ∷ us))) false refl l refl (is.first_is (Coded 66) (Coded d) us g.0))
    ∙ sym (beg_second d us (not_e d l))

second : (o : Origin) (shown : Token → List Token → Text) → Showing o shown → (ts : List Token) → AllGood ts → Neighbours (Coded 66 ∷ ts)
    → spelled_after o (shown (Coded 66) ts) 69 71 ≡ is_beg (Coded 66) ts
second o shown is [] g nb = none_behind o (shown (Coded 66) []) (ap (λ (t : Text). is_letter (upper (first t))) (is.empty (Coded 66)))
second o shown is (Coded d ∷ us) g nb = second_coded o shown is d us (is_letter d) refl g (later (Coded 66) (Coded d ∷ us) nb) (lettered 66 (Coded d) refl nb.0)
second o shown is (Plain k w ∷ us) g nb = absurd (false_true (lettered 66 (Plain k w) refl nb.0))
second o shown is (Short d ∷ us) g nb = absurd (false_true (lettered 66 (Short d) refl nb.0))
second o shown is (Lined high low ∷ us) g nb =
    none_behind o (shown (Coded 66) (Lined high low ∷ us)) ((is.first_is (Coded 66) (Lined high low) us g.0).lined refl)

beg_not : (c : ℕ) (ts : List Token) → (c == 66) ≡ false → is_beg (Coded c) ts ≡ false
beg_not c [] h = refl
beg_not c (Coded d ∷ []) h = refl
beg_not c (Coded d ∷ Coded e ∷ ts) h = ap (λ (b : Bool). b && (d == 69 && e == 71)) h
beg_not c (Coded d ∷ Plain k w ∷ ts) h = refl
beg_not c (Coded d ∷ Short e ∷ ts) h = refl
beg_not c (Coded d ∷ Lined high low ∷ ts) h = refl
beg_not c (Plain k w ∷ ts) h = refl
beg_not c (Short d ∷ ts) h = refl
beg_not c (Lined high low ∷ ts) h = refl

beg_by : (o : Origin) (shown : Token → List Token → Text) → Showing o shown → (c : ℕ) (ts : List Token) (b : Bool) → (c == 66) ≡ b → AllGood ts → Neighbours (Coded c ∷ ts)
    → (b && spelled_after o (shown (Coded c) ts) 69 71) ≡ is_beg (Coded c) ts
beg_by o shown is c ts true h g nb =
    let P : ℕ → Type 0 = λ n. Neighbours (Coded n ∷ ts) → spelled_after o (shown (Coded n) ts) 69 71 ≡ is_beg (Coded n) ts in
    let there : P c = subst P (sym (equal c 66 h)) (second o shown is ts g) in
    there nb
beg_by o shown is c ts false h g nb = sym (beg_not c ts h)

-- B is followed by E and G exactly where the tokens are
pub beg_shown : (o : Origin) (shown : Token → List Token → Text) → Showing o shown → (c : ℕ) (ts : List Token) → AllGood ts → Neighbours (Coded c ∷ ts)
    → (c == 66 && spelled_after o (shown (Coded c) ts) 69 71) ≡ is_beg (Coded c) ts
beg_shown o shown is c ts g nb = beg_by o shown is c ts (c == 66) refl g nb
