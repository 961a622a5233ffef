-- No line is empty, and none is DEFFN, DEFFN' or DATA alone.
use Rattle.std.proofs.Common.{◌≡◌, ℕ, zero, suc, ◌-◌, ◌≤◌, ◌==◌, ◌||◌, Bool, true, false, cond, List, [], ◌∷◌, length, take, refl, subst, arith, is_some, Some, None}
use Rattle.std.specs.List.{position_from}
use Rattle.std.proofs.lemmas.Bool.Decides.{nat_tests}
use Rattle.b2_atom.specs.Grammar.{row_items, starts, statement_row, many, item, items, level, deep, statement_within, symbol, among, program_word, ignored, optional_comma, end_of_line, read_leaf}
use Rattle.b2_atom.specs.Lines.{LineUnit, after_unit, is_line, leading_unit, units_after, units_from, units_of}
use Rattle.b2_atom.specs.declared.forms.Position.TheVariants.{First}
use Rattle.b2_atom.specs.declared.words.TheConstants.{DATA, DEFFN, DEFFN_PRIME}
use Rattle.b2_text.specs.Spots.{is_data}
use Rattle.b2_text.specs.Blocks.{holds_data, is_opener, is_opening}

none_is : is_line [] ≡ false
unfolding is_line row_items starts statement_row many item items level deep statement_within
none_is = refl

no_word : is_line (DEFFN ∷ []) ≡ false
unfolding is_line row_items starts statement_row many item items level deep statement_within symbol among program_word ignored optional_comma end_of_line read_leaf
no_word = refl

no_mark : is_line (DEFFN_PRIME ∷ []) ≡ false
unfolding is_line row_items starts statement_row many item items level deep statement_within symbol among program_word ignored optional_comma end_of_line read_leaf
no_mark = refl

no_data : is_line (DATA ∷ []) ≡ false
unfolding is_line row_items starts statement_row many item items level deep statement_within symbol among program_word ignored optional_comma end_of_line read_leaf
no_data = refl

never : (b : Bool) → b ≡ false → b ≡ true → ⊥
never b h g = cc

pub some_bytes : (a : List ℕ) → is_line a ≡ true → 1 ≤ length a
some_bytes [] h = absurd (never (is_line []) none_is h)
some_bytes (b ∷ bs) h = omega arith

-- the word that a line of one byte begins with
equal : (b c : ℕ) → (b == c) ≡ true → b ≡ c
equal b c h = grind (arith, nat_tests)

not_alone : (b c : ℕ) → is_line (c ∷ []) ≡ false → is_line (b ∷ []) ≡ true → (b == c) ≡ true → ⊥
not_alone b c refused line is = never (is_line (c ∷ [])) refused (subst (λ (d : ℕ). is_line (d ∷ []) ≡ true) (equal b c is) line)

either : (x y : Bool) → (x || y) ≡ true → (x ≡ true → ⊥) → (y ≡ true → ⊥) → ⊥
either true y h no_x no_y = no_x refl
either false y h no_x no_y = no_y h

opener_byte : (k b : ℕ) → is_opener (take k (b ∷ [])) ≡ true → is_opener (b ∷ []) ≡ true
opener_byte zero b h = cc
opener_byte (suc k) b h = h

-- lines that begin with DEFFN or DEFFN' have two bytes
pub long_opening : (a : List ℕ) → is_line a ≡ true → is_opening a ≡ true → 2 ≤ length a
unfolding units_of
long_opening [] line is = absurd (never (is_line []) none_is line)
long_opening (b ∷ []) line is =
    absurd (either (b == DEFFN) (b == DEFFN_PRIME) (opener_byte _ b is) (not_alone b DEFFN no_word line) (not_alone b DEFFN_PRIME no_mark line))
long_opening (b ∷ c ∷ bs) line is = omega arith

-- and so do those in which a DATA stands
data_byte : (k b : ℕ) → is_data (take k (b ∷ [])) ≡ true → (b == DATA) ≡ true
data_byte zero b h = cc
data_byte (suc k) b h = h

abbrev data_unit : LineUnit → Bool
data_unit u = is_data u.bytes

no_more : (rest : List ℕ) → units_after (units_from zero) rest ≡ []
no_more [] = refl
no_more (b ∷ bs) = refl

only : (u : LineUnit) (us : List LineUnit) → us ≡ [] → is_some (position_from data_unit 0 (u ∷ us)) ≡ true → data_unit u ≡ true
only u us none h = by_first (data_unit u) (subst (λ (vs : List LineUnit). is_some (cond (data_unit u) (Some 0) (position_from data_unit 1 vs)) ≡ true) none h) where
  by_first : (b : Bool) → is_some {T = ℕ} (cond b (Some 0) None) ≡ true → b ≡ true
  by_first true h = refl
  by_first false h = cc

pub long_data : (a : List ℕ) → is_line a ≡ true → holds_data a ≡ true → 2 ≤ length a
unfolding units_of
long_data [] line is = absurd (never (is_line []) none_is line)
long_data (b ∷ []) line is =
    let rest = after_unit First (b ∷ []) in
    absurd (not_alone b DATA no_data line
    (data_byte (length (b ∷ []) - length rest) b (only (leading_unit First (b ∷ [])) (units_after (units_from zero) rest) (no_more rest) is)))
long_data (b ∷ c ∷ bs) line is = omega arith
