-- One reading after another, item by item: what holds of the second holds of both.
use Rattle.std.proofs.Common.{◌≡◌, ℕ, Bool, true, false, if◌then◌else◌, ◌==◌, ◌&&◌, nat_le, nat_lt, [], ◌∷◌, length, take, drop, map, get_or, refl, sym, ap, subst, arith, Ok, Err, is_ok}
use Rattle.std.proofs.lemmas.Bool.Decides.{nat_tests}
use Rattle.b2_base.specs.Lexical.{all_printable, first, is_decimal}
use Rattle.b2_atom.specs.Words.{Text, kept_byte, is_short}
use Rattle.b2_atom.specs.Tokens.{kept_text}
use Rattle.b2_atom.specs.Tokens.Token.{Coded, Short, Plain, Lined}
use Rattle.b2_atom.specs.Tree.{Trees, Outcome, Parser, one, nothing, preceded, and_then, under, also}
use Rattle.b2_atom.specs.Tree.Trees.{Done, Put, In}
use Rattle.b2_atom.specs.Leaves.{leaf_width, missing}
use Rattle.b2_atom.specs.Grammar.{is_among, atoms_line_number, plain_of, text_to_end, leaf_at, end_at}
use Rattle.b2_atom.specs.Lines.{left_after}
use Rattle.b2_atom.specs.declared.words.Origin.TheVariants.{Atoms}
use Rattle.b2_atom.specs.declared.output.Stop.{Stop}
use Rattle.b2_atom.specs.declared.output.Stop.TheVariants.{At}
use Rattle.b2_atom.specs.declared.forms.Leaf.{Leaf}
use Rattle.b2_atom.specs.declared.forms.Leaf.TheVariants as leaf
use Rattle.b2_atom.proofs.Booleans.{and_right, both, equal}
use Rattle.b2_rows.specs.Leaves.{is_leaf, after_leaf, put_leaf}
use Rattle.b2_rows.specs.Rows.{tree_of}
use Rattle.b2_rows.proofs.Levels.{Up}

-- what holds of a reading's tree and rest
abbrev pub Holds : (Trees → Text → Type 0) → Outcome → Type 0
Holds v (Ok p) = v p.0 p.1
Holds v (Err e) = Unit {0}

pub holds_preceded : (v : Trees → Text → Type 0) (a : Trees) (o : Outcome) → Holds (λ b rest. v (also a b) rest) o → Holds v (preceded a o)
holds_preceded v a (Ok p) h = h
holds_preceded v a (Err e) h = h

pub holds_map : (v w : Trees → Text → Type 0) (o : Outcome) → ((a : Trees) (r : Text) → v a r → w a r) → Holds v o → Holds w o
holds_map v w (Ok p) more h = more p.0 p.1 h
holds_map v w (Err e) more h = tt

pub symbol_case : (b : Bool) (c : ℕ) (t : Text) (e : Stop) (q : Parser Text) (v : Trees → Text → Type 0) → (first t == c) ≡ b
    → (first t ≡ c → Holds (λ a r. v (Put (Coded c) a) r) (q (drop 1 t))) → Holds v (and_then (if b then one (Coded c) (drop 1 t) else Err e) q)
symbol_case true c t e q v is h = holds_preceded v (Put (Coded c) Done) (q (drop 1 t)) (h (equal (first t) c is))
symbol_case false c t e q v is h = tt

pub among_case : (b : Bool) (low high : ℕ) (t : Text) (e : Stop) (q : Parser Text) (v : Trees → Text → Type 0) → is_among low high (first t) ≡ b
    → (is_among low high (first t) ≡ true → Holds (λ a r. v (Put (Coded (first t)) a) r) (q (drop 1 t)))
    → Holds v (and_then (if b then one (Coded (first t)) (drop 1 t) else Err e) q)
among_case true low high t e q v is h = holds_preceded v (Put (Coded (first t)) Done) (q (drop 1 t)) (h is)
among_case false low high t e q v is h = tt

pub short_case : (b : Bool) (c : ℕ) (t : Text) (e : Stop) (q : Parser Text) (v : Trees → Text → Type 0) → (is_short c && first t == c) ≡ b
    → (first t ≡ c → Holds (λ a r. v (Put (Short c) a) r) (q (drop 1 t))) → Holds v (and_then (if b then one (Short c) (drop 1 t) else Err e) q)
short_case true c t e q v is h = holds_preceded v (Put (Short c) Done) (q (drop 1 t)) (h (equal (first t) c (and_right (is_short c) _ is)))
short_case false c t e q v is h = tt

pub nothing_case : (t : Text) (q : Parser Text) (v : Trees → Text → Type 0) → Holds v (q t) → Holds v (and_then (nothing t) q)
nothing_case t q v h = holds_preceded v Done (q t) h

pub end_case : (t : Text) (q : Parser Text) (v : Trees → Text → Type 0) → (t ≡ [] → Holds v (q t)) → Holds v (and_then (end_at Atoms t) q)
end_case [] q v h = nothing_case [] q v (h refl)
end_case (b ∷ bs) q v h = tt

-- what is typed by hand
some_width : (w : ℕ) → (w == 0) ≡ false → nat_lt 0 w ≡ true
some_width w h = grind (arith, nat_tests)

plain_by : (none : Bool) (k : Leaf) (code width : ℕ) (t : Text) (q : Parser Text) (v : Trees → Text → Type 0) → kept_text Atoms k (take width t) ≡ take width t → (width == 0) ≡ none
    → (nat_lt 0 width ≡ true → Holds (λ a r. v (Put (Plain k (take width t)) a) r) (q (drop width t)))
    → Holds v (and_then (if none then Err (missing Atoms k code t) else one (Plain k (kept_text Atoms k (take width t))) (drop width t)) q)
plain_by true k code width t q v same is h = tt
plain_by false k code width t q v same is h =
    holds_preceded v (Put (Plain k (kept_text Atoms k (take width t))) Done) (q (drop width t))
    (subst (λ (s : Text). Holds (λ a r. v (Put (Plain k s) a) r) (q (drop width t))) (sym same) (h (some_width width is)))

plain_case : (k : Leaf) (code width : ℕ) (t : Text) (q : Parser Text) (v : Trees → Text → Type 0) → kept_text Atoms k (take width t) ≡ take width t
    → (nat_lt 0 width ≡ true → Holds (λ a r. v (Put (Plain k (take width t)) a) r) (q (drop width t))) → Holds v (and_then (plain_of Atoms k code width t) q)
plain_case k code width t q v same h = plain_by (width == 0) k code width t q v same refl h

kept : (t : Text) → map (kept_byte Atoms) t ≡ t
kept [] = refl
kept (b ∷ bs) = ap (λ (l : Text). b ∷ l) (kept bs)

line_case : (b : Bool) (x y : ℕ) (t : Text) (e : Stop) (q : Parser Text) (v : Trees → Text → Type 0)
    → (b ≡ true → Holds (λ a r. v (Put (Lined x y) a) r) (q t)) → Holds v (and_then (if b then one (Lined x y) t else Err e) q)
line_case true x y t e q v h = holds_preceded v (Put (Lined x y) Done) (q t) (h refl)
line_case false x y t e q v h = tt

three_bytes : (a b c : ℕ) (t : Text) → nat_le 3 (length (a ∷ b ∷ c ∷ t)) ≡ true
three_bytes a b c t = grind (arith, nat_tests)

line_number_case : (code : ℕ) (t : Text) (q : Parser Text) (v : Trees → Text → Type 0)
    → (is_leaf leaf.LineNumber t ≡ true → Holds (λ a r. v (Put (Lined (get_or t 1 0) (get_or t 2 0)) a) r) (q (drop 3 t))) → Holds v (and_then (atoms_line_number code t) q)
line_number_case code [] q v h = tt
line_number_case code (a ∷ []) q v h = tt
line_number_case code (a ∷ b ∷ []) q v h = tt
line_number_case code (a ∷ b ∷ c ∷ t) q v h =
    line_case (a == 255 && (is_decimal b && is_decimal c)) b c t (At code (length (a ∷ b ∷ c ∷ t))) q v (λ is. h (both _ _ (three_bytes a b c t) is))

text_case : (code : ℕ) (t : Text) (q : Parser Text) (v : Trees → Text → Type 0)
    → (is_leaf leaf.Text t ≡ true → Holds (λ a r. v (put_leaf leaf.Text t a) r) (q [])) → Holds v (and_then (text_to_end code t) q)
text_case code [] q v h = holds_preceded v Done (q []) (h refl)
text_case code (b ∷ bs) q v h = by_test (all_printable (b ∷ bs)) refl
  where
    by_test : (x : Bool) → all_printable (b ∷ bs) ≡ x → Holds v (and_then (if x then one (Plain leaf.Text (b ∷ bs)) [] else Err (At code (length (b ∷ bs)))) q)
    by_test true is = holds_preceded v (Put (Plain leaf.Text (b ∷ bs)) Done) (q []) (h is)
    by_test false is = tt

pub leaf_case : (k : Leaf) (code : ℕ) (t : Text) (q : Parser Text) (v : Trees → Text → Type 0)
    → (is_leaf k t ≡ true → Holds (λ a r. v (put_leaf k t a) r) (q (after_leaf k t))) → Holds v (and_then (leaf_at Atoms k code t t) q)
leaf_case leaf.Number code t q v h = plain_case leaf.Number code (leaf_width Atoms leaf.Number t) t q v (kept _) h
leaf_case leaf.SignedNumber code t q v h = plain_case leaf.SignedNumber code (leaf_width Atoms leaf.SignedNumber t) t q v (kept _) h
leaf_case leaf.Name code t q v h = plain_case leaf.Name code (leaf_width Atoms leaf.Name t) t q v (kept _) h
leaf_case leaf.AlphaName code t q v h = plain_case leaf.AlphaName code (leaf_width Atoms leaf.AlphaName t) t q v (kept _) h
leaf_case leaf.LocalName code t q v h = plain_case leaf.LocalName code (leaf_width Atoms leaf.LocalName t) t q v (kept _) h
leaf_case leaf.FunctionName code t q v h = plain_case leaf.FunctionName code (leaf_width Atoms leaf.FunctionName t) t q v (kept _) h
leaf_case leaf.Literal code t q v h = plain_case leaf.Literal code (leaf_width Atoms leaf.Literal t) t q v refl h
leaf_case leaf.HexPair code t q v h = plain_case leaf.HexPair code (leaf_width Atoms leaf.HexPair t) t q v (kept _) h
leaf_case leaf.HexDigit code t q v h = plain_case leaf.HexDigit code (leaf_width Atoms leaf.HexDigit t) t q v (kept _) h
leaf_case leaf.Address code t q v h = plain_case leaf.Address code (leaf_width Atoms leaf.Address t) t q v (kept _) h
leaf_case leaf.Slot code t q v h = plain_case leaf.Slot code (leaf_width Atoms leaf.Slot t) t q v (kept _) h
leaf_case leaf.Small code t q v h = plain_case leaf.Small code (leaf_width Atoms leaf.Small t) t q v (kept _) h
leaf_case leaf.Image code t q v h = plain_case leaf.Image code (leaf_width Atoms leaf.Image t) t q v (kept _) h
leaf_case leaf.Relation code t q v h = plain_case leaf.Relation code (leaf_width Atoms leaf.Relation t) t q v (kept _) h
leaf_case leaf.LineNumber code t q v h = line_number_case code t q v h
leaf_case leaf.Text code t q v h = text_case code t q v h

-- a row that is read with fewer levels, and a repetition
pub part_case : (n : ℕ) (o u : Outcome) (q : Parser Text) (v : Trees → Text → Type 0) → Up o u
    → (is_ok u ≡ true → Holds (λ b r. v (In n (tree_of u) b) r) (q (left_after u))) → Holds v (and_then (under n o) q)
part_case n (Ok p) u q v up h =
    holds_preceded v (In n p.0 Done) (q p.1) (subst (λ (y : Outcome). is_ok y ≡ true → Holds (λ b r. v (In n (tree_of y) b) r) (q (left_after y))) (up p refl) h refl)
part_case n (Err e) u q v up h = tt

pub list_case : (o u : Outcome) (q : Parser Text) (v : Trees → Text → Type 0) → Up o u
    → (is_ok u ≡ true → Holds (λ b r. v (also (tree_of u) b) r) (q (left_after u))) → Holds v (and_then o q)
list_case (Ok p) u q v up h =
    holds_preceded v p.0 (q p.1) (subst (λ (y : Outcome). is_ok y ≡ true → Holds (λ b r. v (also (tree_of y) b) r) (q (left_after y))) (up p refl) h refl)
list_case (Err e) u q v up h = tt
