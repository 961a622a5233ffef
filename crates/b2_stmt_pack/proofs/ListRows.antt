-- Lists with commas between their items, by their rows: expressions and receivers, one after another.
use Rattle.std.proofs.Common.{◌≡◌, ◌<◌, ℕ, ◌==◌, true, false, List, [], ◌∷◌, ◌++◌, length, drop, map, Result, Ok, Err, refl, sym, ap, ◌∙◌}
use Rattle.std.proofs.lemmas.List.{append_assoc}
use Rattle.b2_base.specs.Byte as byte
use Rattle.b2_base.specs.Lexical.{first}
use Rattle.b2_base.specs.declared.codes.TheConstants.{S13_SEPARATOR}
use Rattle.b2_dec.specs.Number.{Number}
use Rattle.b2_dec.specs.declared.values.Kind.{Kind}
use Rattle.b2_dec.specs.declared.values.Value.{Value}
use Rattle.b2_atom.specs.Words.{Text}
use Rattle.b2_atom.specs.Tree.{Trees}
use Rattle.b2_atom.specs.Tree.Trees.{Done}
use Rattle.b2_atom.specs.Grammar.{row_items}
use Rattle.b2_atom.specs.declared.rows.TheConstants as row
use Rattle.b2_rows.specs.CommaLists.{commas}
use Rattle.b2_rows.specs.Rows.{is_phrase, tree_at, after_phrase, is_list}
use Rattle.b2_rows.proofs.CommaLists.{IsComma, Other, item_shorter, items_of_other, no_items_left, other}
use Rattle.b2_expr.specs.Scope.{Context}
use Rattle.b2_stmt_pack.specs.Lists.{each_of, items_at, items_before, kind_of, number_of, others_at, put_after, value_of}
use Rattle.b2_stmt_pack.proofs.Taking.{put_last, put_then, refused_then}

-- of any row
abbrev Others : ℕ → Text → Type 0
Others more t = is_list commas more t ≡ true

abbrev Goes : Text → Type 0
Goes t = (first t == byte.comma) ≡ true

abbrev Ends : Text → Type 0
Ends t = (first t == byte.comma) ≡ false

further : (more item : ℕ) (t : Text) → IsComma more item S13_SEPARATOR → Others more t → Goes t → others_at more t ≡ items_at more item (drop 1 t)
further more item t comma ok is = items_of_other more item S13_SEPARATOR Done t comma ok is

no_more : (more : ℕ) (t : Text) → Ends t → others_at more t ≡ []
no_more more t is = no_items_left more Done t is

one_put : {A : Type 0} (one : Trees → Result A ℕ) (more item : ℕ) (t : Text) (old new : List A) → IsComma more item S13_SEPARATOR → Others more (after_phrase item t) → Goes (after_phrase item t)
    → put_after old (one (tree_at item t)) ≡ Ok new
    → items_before new (each_of one (items_at more item (drop 1 (after_phrase item t)))) ≡ items_before old (each_of one (items_at more item t))
one_put one more item t old new comma ok is put =
    sym (ap (λ (ts : List Trees). items_before new (each_of one ts)) (further more item (after_phrase item t) comma ok is)) ∙ put_then one (tree_at item t) (others_at more (after_phrase item t)) old new put

last_put : {A : Type 0} (one : Trees → Result A ℕ) (more item : ℕ) (t : Text) (old new : List A) → Ends (after_phrase item t) → put_after old (one (tree_at item t)) ≡ Ok new
    → items_before old (each_of one (items_at more item t)) ≡ Ok new
last_put one more item t old new is put =
    ap (λ (ts : List Trees). items_before old (each_of one (tree_at item t ∷ ts))) (no_more more (after_phrase item t) is) ∙ put_last one (tree_at item t) old new put

-- numbers
number_comma : IsComma row.COMMA_NUMBER row.SUM S13_SEPARATOR
unfolding row_items
number_comma = refl

pub number_part : (t : Text) → Others row.COMMA_NUMBER t → Goes t → is_phrase row.SUM (drop 1 t) ≡ true
number_part t ok is = Other.part (other row.COMMA_NUMBER row.SUM S13_SEPARATOR t number_comma ok is)

pub number_list : (t : Text) → Others row.COMMA_NUMBER t → Goes t → Others row.COMMA_NUMBER (after_phrase row.SUM (drop 1 t))
number_list t ok is = Other.list (other row.COMMA_NUMBER row.SUM S13_SEPARATOR t number_comma ok is)

pub number_shorter : (t : Text) → Goes (after_phrase row.SUM t) → length (drop 1 (after_phrase row.SUM t)) < length t
number_shorter t is = item_shorter row.SUM t is

pub number_put : (s : Context) (t : Text) (old new : List Number) → Others row.COMMA_NUMBER (after_phrase row.SUM t) → Goes (after_phrase row.SUM t) → put_after old (number_of s (tree_at row.SUM t)) ≡ Ok new
    → items_before new (each_of (number_of s) (items_at row.COMMA_NUMBER row.SUM (drop 1 (after_phrase row.SUM t)))) ≡ items_before old (each_of (number_of s) (items_at row.COMMA_NUMBER row.SUM t))
number_put s t old new ok is put = one_put (number_of s) row.COMMA_NUMBER row.SUM t old new number_comma ok is put

pub number_last : (s : Context) (t : Text) (old new : List Number) → Ends (after_phrase row.SUM t) → put_after old (number_of s (tree_at row.SUM t)) ≡ Ok new
    → items_before old (each_of (number_of s) (items_at row.COMMA_NUMBER row.SUM t)) ≡ Ok new
number_last s t old new is put = last_put (number_of s) row.COMMA_NUMBER row.SUM t old new is put

pub number_refused : (s : Context) (t : Text) (old : List Number) (code : ℕ) → number_of s (tree_at row.SUM t) ≡ Err code → items_before old (each_of (number_of s) (items_at row.COMMA_NUMBER row.SUM t)) ≡ Err code
number_refused s t old code is = refused_then (number_of s) (tree_at row.SUM t) (others_at row.COMMA_NUMBER (after_phrase row.SUM t)) old code is

-- values of either kind
value_comma : IsComma row.COMMA_OPERAND row.OPERAND_OF_ANY_KIND S13_SEPARATOR
unfolding row_items
value_comma = refl

pub value_part : (t : Text) → Others row.COMMA_OPERAND t → Goes t → is_phrase row.OPERAND_OF_ANY_KIND (drop 1 t) ≡ true
value_part t ok is = Other.part (other row.COMMA_OPERAND row.OPERAND_OF_ANY_KIND S13_SEPARATOR t value_comma ok is)

pub value_list : (t : Text) → Others row.COMMA_OPERAND t → Goes t → Others row.COMMA_OPERAND (after_phrase row.OPERAND_OF_ANY_KIND (drop 1 t))
value_list t ok is = Other.list (other row.COMMA_OPERAND row.OPERAND_OF_ANY_KIND S13_SEPARATOR t value_comma ok is)

pub value_shorter : (t : Text) → Goes (after_phrase row.OPERAND_OF_ANY_KIND t) → length (drop 1 (after_phrase row.OPERAND_OF_ANY_KIND t)) < length t
value_shorter t is = item_shorter row.OPERAND_OF_ANY_KIND t is

pub value_put : (s : Context) (t : Text) (old new : List Value) → Others row.COMMA_OPERAND (after_phrase row.OPERAND_OF_ANY_KIND t) → Goes (after_phrase row.OPERAND_OF_ANY_KIND t) → put_after old (value_of s (tree_at row.OPERAND_OF_ANY_KIND t)) ≡ Ok new
    → items_before new (each_of (value_of s) (items_at row.COMMA_OPERAND row.OPERAND_OF_ANY_KIND (drop 1 (after_phrase row.OPERAND_OF_ANY_KIND t)))) ≡ items_before old (each_of (value_of s) (items_at row.COMMA_OPERAND row.OPERAND_OF_ANY_KIND t))
value_put s t old new ok is put = one_put (value_of s) row.COMMA_OPERAND row.OPERAND_OF_ANY_KIND t old new value_comma ok is put

pub value_last : (s : Context) (t : Text) (old new : List Value) → Ends (after_phrase row.OPERAND_OF_ANY_KIND t) → put_after old (value_of s (tree_at row.OPERAND_OF_ANY_KIND t)) ≡ Ok new
    → items_before old (each_of (value_of s) (items_at row.COMMA_OPERAND row.OPERAND_OF_ANY_KIND t)) ≡ Ok new
value_last s t old new is put = last_put (value_of s) row.COMMA_OPERAND row.OPERAND_OF_ANY_KIND t old new is put

pub value_refused : (s : Context) (t : Text) (old : List Value) (code : ℕ) → value_of s (tree_at row.OPERAND_OF_ANY_KIND t) ≡ Err code → items_before old (each_of (value_of s) (items_at row.COMMA_OPERAND row.OPERAND_OF_ANY_KIND t)) ≡ Err code
value_refused s t old code is = refused_then (value_of s) (tree_at row.OPERAND_OF_ANY_KIND t) (others_at row.COMMA_OPERAND (after_phrase row.OPERAND_OF_ANY_KIND t)) old code is

-- numeric receivers
receiver_comma : IsComma row.COMMA_NUMERIC_RECEIVER row.NUMERIC_RECEIVER S13_SEPARATOR
unfolding row_items
receiver_comma = refl

pub receiver_part : (t : Text) → Others row.COMMA_NUMERIC_RECEIVER t → Goes t → is_phrase row.NUMERIC_RECEIVER (drop 1 t) ≡ true
receiver_part t ok is = Other.part (other row.COMMA_NUMERIC_RECEIVER row.NUMERIC_RECEIVER S13_SEPARATOR t receiver_comma ok is)

pub receiver_list : (t : Text) → Others row.COMMA_NUMERIC_RECEIVER t → Goes t → Others row.COMMA_NUMERIC_RECEIVER (after_phrase row.NUMERIC_RECEIVER (drop 1 t))
receiver_list t ok is = Other.list (other row.COMMA_NUMERIC_RECEIVER row.NUMERIC_RECEIVER S13_SEPARATOR t receiver_comma ok is)

pub receiver_shorter : (t : Text) → Goes (after_phrase row.NUMERIC_RECEIVER t) → length (drop 1 (after_phrase row.NUMERIC_RECEIVER t)) < length t
receiver_shorter t is = item_shorter row.NUMERIC_RECEIVER t is

pub receiver_items : (t : Text) → Others row.COMMA_NUMERIC_RECEIVER t → Goes t → others_at row.COMMA_NUMERIC_RECEIVER t ≡ items_at row.COMMA_NUMERIC_RECEIVER row.NUMERIC_RECEIVER (drop 1 t)
receiver_items t ok is = further row.COMMA_NUMERIC_RECEIVER row.NUMERIC_RECEIVER t receiver_comma ok is

pub no_receivers : (t : Text) → Ends t → others_at row.COMMA_NUMERIC_RECEIVER t ≡ []
no_receivers t is = no_more row.COMMA_NUMERIC_RECEIVER t is

-- receivers of either kind
any_comma : IsComma row.COMMA_RECEIVER row.RECEIVER S13_SEPARATOR
unfolding row_items
any_comma = refl

pub any_part : (t : Text) → Others row.COMMA_RECEIVER t → Goes t → is_phrase row.RECEIVER (drop 1 t) ≡ true
any_part t ok is = Other.part (other row.COMMA_RECEIVER row.RECEIVER S13_SEPARATOR t any_comma ok is)

pub any_list : (t : Text) → Others row.COMMA_RECEIVER t → Goes t → Others row.COMMA_RECEIVER (after_phrase row.RECEIVER (drop 1 t))
any_list t ok is = Other.list (other row.COMMA_RECEIVER row.RECEIVER S13_SEPARATOR t any_comma ok is)

pub any_shorter : (t : Text) → Goes (after_phrase row.RECEIVER t) → length (drop 1 (after_phrase row.RECEIVER t)) < length t
any_shorter t is = item_shorter row.RECEIVER t is

pub any_items : (t : Text) → Others row.COMMA_RECEIVER t → Goes t → others_at row.COMMA_RECEIVER t ≡ items_at row.COMMA_RECEIVER row.RECEIVER (drop 1 t)
any_items t ok is = further row.COMMA_RECEIVER row.RECEIVER t any_comma ok is

pub no_any : (t : Text) → Ends t → others_at row.COMMA_RECEIVER t ≡ []
no_any t is = no_more row.COMMA_RECEIVER t is

-- their kinds
pub kind_put : (t : Text) (old new : List Kind) → Others row.COMMA_RECEIVER (after_phrase row.RECEIVER t) → Goes (after_phrase row.RECEIVER t) → new ≡ old ++ kind_of (tree_at row.RECEIVER t) ∷ []
    → new ++ map kind_of (items_at row.COMMA_RECEIVER row.RECEIVER (drop 1 (after_phrase row.RECEIVER t))) ≡ old ++ map kind_of (items_at row.COMMA_RECEIVER row.RECEIVER t)
kind_put t old new ok is put =
    sym (ap (λ (ts : List Trees). new ++ map kind_of ts) (any_items (after_phrase row.RECEIVER t) ok is))
    ∙ ap (λ (ks : List Kind). ks ++ map kind_of (others_at row.COMMA_RECEIVER (after_phrase row.RECEIVER t))) put
    ∙ append_assoc old (kind_of (tree_at row.RECEIVER t) ∷ []) (map kind_of (others_at row.COMMA_RECEIVER (after_phrase row.RECEIVER t)))

pub kind_last : (t : Text) (old new : List Kind) → Ends (after_phrase row.RECEIVER t) → new ≡ old ++ kind_of (tree_at row.RECEIVER t) ∷ []
    → new ≡ old ++ map kind_of (items_at row.COMMA_RECEIVER row.RECEIVER t)
kind_last t old new is put = put ∙ sym (ap (λ (ts : List Trees). old ++ map kind_of (tree_at row.RECEIVER t ∷ ts)) (no_any (after_phrase row.RECEIVER t) is))
