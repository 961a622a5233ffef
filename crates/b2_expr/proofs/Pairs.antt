-- Pairs of hexadecimal digits, by their rows.
use Rattle.std.proofs.Common.{◌≡◌, ◌<◌, ◌≤◌, ℕ, length, arith, sym, Bool, true, false, if◌then◌else◌, List, [], ◌∷◌, drop, refl, ap, ◌∙◌, subst, Ok, nat_lt, ◌&&◌, ◌++◌, ◌+◌}
use Rattle.b2_base.specs.declared.codes.TheConstants.{S19_HEX_OR_QUOTE}
use Rattle.b2_atom.specs.Words.{Text}
use Rattle.b2_atom.specs.Leaves.{leaf_width}
use Rattle.b2_atom.specs.Tree.{Trees}
use Rattle.b2_atom.specs.Tree.Trees.{In}
use Rattle.b2_atom.specs.Grammar.{row_items, starts}
use Rattle.b2_atom.specs.declared.words.Origin.TheVariants.{Atoms}
use Rattle.b2_atom.specs.declared.rows.TheConstants as row
use Rattle.b2_atom.specs.declared.forms.Start.TheVariants as start
use Rattle.b2_atom.specs.declared.forms.Leaf.TheVariants as leaf
use Rattle.b2_atom.specs.declared.forms.Item.{Item}
use Rattle.b2_atom.specs.declared.forms.Item.TheVariants.{Typed, Many}
use Rattle.b2_rows.specs.Rows.{is_phrase, tree_at, after_phrase, is_list, list_at, after_list, Goes, Ends}
use Rattle.b2_rows.specs.Leaves.{is_leaf, leaf_bytes}
use Rattle.b2_rows.specs.Values.{hex_byte_of}
use Rattle.b2_rows.proofs.Lists.{goes, ended}
use Rattle.b2_expr.specs.Answers.{TextAnswer}
use Rattle.b2_expr.specs.Value.{pairs_of, pair_bytes}
use Rattle.b2_rows.proofs.RowsRead.{stands_of, part_short}
use Rattle.b2_rows.proofs.ListEnds.{also_done}

two_wide : (b : Bool) → nat_lt 0 (if b then 2 else 0) ≡ true → ◌≡◌ {A = ℕ} (if b then 2 else 0) 2
two_wide true h = refl
two_wide false h = cc

width_is : (t : Text) → is_leaf leaf.HexPair t ≡ true → leaf_width Atoms leaf.HexPair t ≡ 2
width_is t h = two_wide _ h

abbrev pair_items : List Item
pair_items = Typed leaf.HexPair S19_HEX_OR_QUOTE ∷ []

pair_row : row_items row.HEX_PAIR ≡ pair_items
unfolding row_items
pair_row = refl

abbrev pairs_items : List Item
pairs_items = Typed leaf.HexPair S19_HEX_OR_QUOTE ∷ Many start.Hex row.HEX_PAIR ∷ []

pairs_row : row_items row.HEX_PAIRS ≡ pairs_items
unfolding row_items
pairs_row = refl

pub pairs_here : (t : Text) → is_phrase row.HEX_PAIRS t ≡ true → is_leaf leaf.HexPair t ≡ true
pairs_here t ok = (stands_of row.HEX_PAIRS pairs_items t pairs_row ok).0.0

after_first : (t : Text) → is_phrase row.HEX_PAIRS t ≡ true → drop (leaf_width Atoms leaf.HexPair t) t ≡ drop 2 t
after_first t ok = ap (λ (n : ℕ). drop n t) (width_is t (pairs_here t ok))

pub pairs_list : (t : Text) → is_phrase row.HEX_PAIRS t ≡ true → is_list start.Hex row.HEX_PAIR (drop 2 t) ≡ true
pairs_list t ok = subst (λ (u : Text). is_list start.Hex row.HEX_PAIR u ≡ true) (after_first t ok) (stands_of row.HEX_PAIRS pairs_items t pairs_row ok).0.1.0

pub pairs_is : (t : Text) → is_phrase row.HEX_PAIRS t ≡ true
    → pairs_of (tree_at row.HEX_PAIRS t) ≡ Ok (hex_byte_of (leaf_bytes leaf.HexPair t) ∷ pair_bytes (list_at start.Hex row.HEX_PAIR (drop 2 t)))
pairs_is t ok =
    ap pairs_of (stands_of row.HEX_PAIRS pairs_items t pairs_row ok).1
    ∙ ap (λ (a : Trees). Ok (hex_byte_of (leaf_bytes leaf.HexPair t) ∷ pair_bytes a)) (also_done (list_at start.Hex row.HEX_PAIR (drop (leaf_width Atoms leaf.HexPair t) t)) ∙ ap (list_at start.Hex row.HEX_PAIR) (after_first t ok))

pub pairs_rest : (t : Text) → is_phrase row.HEX_PAIRS t ≡ true → after_phrase row.HEX_PAIRS t ≡ after_list start.Hex row.HEX_PAIR (drop 2 t)
pairs_rest t ok = (stands_of row.HEX_PAIRS pairs_items t pairs_row ok).2 ∙ ap (after_list start.Hex row.HEX_PAIR) (after_first t ok)

-- a further pair
on : (t : Text) → is_list start.Hex row.HEX_PAIR t ≡ true → starts Atoms start.Hex t ≡ true → Goes start.Hex row.HEX_PAIR t
on t ok is = goes start.Hex row.HEX_PAIR t ok is

pub pair_here : (t : Text) → is_list start.Hex row.HEX_PAIR t ≡ true → starts Atoms start.Hex t ≡ true → is_leaf leaf.HexPair t ≡ true
pair_here t ok is = (stands_of row.HEX_PAIR pair_items t pair_row (Goes.part (on t ok is))).0.0

after_pair : (t : Text) → is_list start.Hex row.HEX_PAIR t ≡ true → starts Atoms start.Hex t ≡ true → after_phrase row.HEX_PAIR t ≡ drop 2 t
after_pair t ok is = (stands_of row.HEX_PAIR pair_items t pair_row (Goes.part (on t ok is))).2 ∙ ap (λ (n : ℕ). drop n t) (width_is t (pair_here t ok is))

pub pair_list : (t : Text) → is_list start.Hex row.HEX_PAIR t ≡ true → starts Atoms start.Hex t ≡ true → is_list start.Hex row.HEX_PAIR (drop 2 t) ≡ true
pair_list t ok is = subst (λ (u : Text). is_list start.Hex row.HEX_PAIR u ≡ true) (after_pair t ok is) (Goes.list (on t ok is))

pub pair_is : (t : Text) → is_list start.Hex row.HEX_PAIR t ≡ true → starts Atoms start.Hex t ≡ true
    → pair_bytes (list_at start.Hex row.HEX_PAIR t) ≡ hex_byte_of (leaf_bytes leaf.HexPair t) ∷ pair_bytes (list_at start.Hex row.HEX_PAIR (drop 2 t))
pair_is t ok is =
    ap pair_bytes (Goes.tree (on t ok is))
    ∙ ap (λ (a : Trees). pair_bytes (In 1 a (list_at start.Hex row.HEX_PAIR (after_phrase row.HEX_PAIR t)))) (stands_of row.HEX_PAIR pair_items t pair_row (Goes.part (on t ok is))).1
    ∙ ap (λ (u : Text). hex_byte_of (leaf_bytes leaf.HexPair t) ∷ pair_bytes (list_at start.Hex row.HEX_PAIR u)) (after_pair t ok is)

pub pair_rest : (t : Text) → is_list start.Hex row.HEX_PAIR t ≡ true → starts Atoms start.Hex t ≡ true → after_list start.Hex row.HEX_PAIR t ≡ after_list start.Hex row.HEX_PAIR (drop 2 t)
pair_rest t ok is = Goes.rest (on t ok is) ∙ ap (after_list start.Hex row.HEX_PAIR) (after_pair t ok is)

wide_shorter : (t : Text) → leaf_width Atoms leaf.HexPair t ≡ 2 → length (drop 2 t) < length t
wide_shorter [] h = cc
wide_shorter (a ∷ []) h = omega arith
wide_shorter (a ∷ b ∷ t) h = omega arith

pub pair_shorter : (t : Text) → is_list start.Hex row.HEX_PAIR t ≡ true → starts Atoms start.Hex t ≡ true → length (drop 2 t) < length t
pair_shorter t ok is = wide_shorter t (width_is t (pair_here t ok is))

pub none_is : (t : Text) → starts Atoms start.Hex t ≡ false → pair_bytes (list_at start.Hex row.HEX_PAIR t) ≡ []
none_is t is = ap pair_bytes (Ends.tree (ended start.Hex row.HEX_PAIR t is))

pub none_rest : (t : Text) → starts Atoms start.Hex t ≡ false → after_list start.Hex row.HEX_PAIR t ≡ t
none_rest t is = Ends.rest (ended start.Hex row.HEX_PAIR t is)

-- there is room for them all
one_digit : (x : Bool) → ◌≡◌ {A = ℕ} (if x && false then 2 else 0) 2 → ⊥
one_digit true h = cc
one_digit false h = cc

wide_room : (t : Text) → leaf_width Atoms leaf.HexPair t ≡ 2 → 2 + length (drop 2 t) ≤ length t
wide_room [] h = cc
wide_room (a ∷ []) h = absurd (one_digit _ h)
wide_room (a ∷ b ∷ t) h = omega arith

pub pair_room : (t : Text) → is_list start.Hex row.HEX_PAIR t ≡ true → starts Atoms start.Hex t ≡ true → 2 + length (drop 2 t) ≤ length t
pair_room t ok is = wide_room t (width_is t (pair_here t ok is))

pub pairs_room : (t : Text) → is_phrase row.HEX_PAIRS t ≡ true → 2 + length (drop 2 t) ≤ 256
pairs_room t ok = let a = wide_room t (width_is t (pairs_here t ok)) in let b = part_short row.HEX_PAIRS t ok in omega (arith, a, b)

pub one_more : (a : List ℕ) (b : ℕ) (c : List ℕ) → (a ++ b ∷ []) ++ c ≡ a ++ (b ∷ c)
one_more [] b c = refl
one_more (x ∷ a) b c = ap (λ l. x ∷ l) (one_more a b c)

pub nothing_more : (a : List ℕ) → a ++ [] ≡ a
nothing_more [] = refl
nothing_more (x ∷ a) = ap (λ l. x ∷ l) (nothing_more a)

-- a step, by what was read
pub pair_step : (whole : TextAnswer) (a new : List ℕ) (b : ℕ) (t u : Text) → is_list start.Hex row.HEX_PAIR t ≡ true → starts Atoms start.Hex t ≡ true
    → whole ≡ Ok (a ++ pair_bytes (list_at start.Hex row.HEX_PAIR t)) → b ≡ hex_byte_of (leaf_bytes leaf.HexPair t) → new ≡ a ++ b ∷ [] → u ≡ drop 2 t
    → whole ≡ Ok (new ++ pair_bytes (list_at start.Hex row.HEX_PAIR u))
pair_step whole a new b t u ok is before is_b is_new is_u =
    before
    ∙ ap (λ (l : List ℕ). Ok (a ++ l)) (pair_is t ok is)
    ∙ ap (λ (x : ℕ). Ok (a ++ (x ∷ pair_bytes (list_at start.Hex row.HEX_PAIR (drop 2 t))))) (sym is_b)
    ∙ ap Ok (sym (one_more a b (pair_bytes (list_at start.Hex row.HEX_PAIR (drop 2 t)))))
    ∙ ap (λ (l : List ℕ). Ok (l ++ pair_bytes (list_at start.Hex row.HEX_PAIR (drop 2 t)))) (sym is_new)
    ∙ ap (λ (v : Text). Ok (new ++ pair_bytes (list_at start.Hex row.HEX_PAIR v))) (sym is_u)
