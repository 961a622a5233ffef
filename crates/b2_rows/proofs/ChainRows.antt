-- Chains of the table: their first item, the items after operators, and where they end; and factors.
use Rattle.std.proofs.Common.{◌≡◌, Bool, true, false, if◌then◌else◌, [], ◌∷◌, refl, ap, subst, ◌∙◌}
use Rattle.b2_base.specs.Lexical.{first}
use Rattle.b2_atom.specs.Words.{Text}
use Rattle.b2_atom.specs.Tree.Trees.{Done, In}
use Rattle.b2_atom.specs.Grammar.{row_items, starts}
use Rattle.b2_atom.specs.declared.words.Origin.TheVariants.{Atoms}
use Rattle.b2_atom.specs.declared.words.TheConstants as word
use Rattle.b2_atom.specs.declared.rows.TheConstants as row
use Rattle.b2_atom.specs.declared.forms.Start.TheVariants as start
use Rattle.b2_atom.specs.declared.forms.Item.TheVariants.{Part, Many, Maybe}
use Rattle.b2_rows.specs.Rows.{is_phrase, tree_at, after_phrase, is_list, list_at, When, Ends}
use Rattle.b2_rows.specs.Links.{Linked, Further}
use Rattle.b2_rows.specs.Chains.{chain_row, front_row, item_row, more_row, more_start, is_sign, is_operator_of, ChainStands, SignedFactor, PlainFactor}
use Rattle.b2_rows.specs.Laws.{EachChainStands}
use Rattle.b2_rows.specs.declared.chains.Chain.{Chain}
use Rattle.b2_rows.specs.declared.chains.Chain.TheVariants as chain
use Rattle.b2_rows.proofs.Standing.{row_stands}
use Rattle.b2_rows.proofs.Lists.{ended}
use Rattle.b2_rows.proofs.Links.{OneSign, one_sign, either_sign, sign_linked, among_linked, row_linked, either_linked, further}
use Rattle.b2_rows.proofs.ListEnds.{also_done}

chain_is : (c : Chain) → row_items (chain_row c) ≡ Part (front_row c) ∷ Many (more_start c) (more_row c) ∷ []
unfolding row_items
chain_is chain.Sum = refl
chain_is chain.Product = refl
chain_is chain.Power = refl
chain_is chain.Alpha = refl
chain_is chain.Condition = refl
chain_is chain.Length = refl
chain_is chain.LengthProduct = refl
chain_is chain.LengthPower = refl

pub chain_stands : (c : Chain) (t : Text) → is_phrase (chain_row c) t ≡ true → ChainStands c t
chain_stands c t ok =
    let r = row_stands (chain_row c) (Part (front_row c) ∷ Many (more_start c) (more_row c) ∷ []) t (chain_is c) ok in
    record {
      part = r.stands.0;
      list = r.stands.1.0;
      tree = r.tree ∙ ap (In 2 (tree_at (front_row c) t)) (also_done (list_at (more_start c) (more_row c) (after_phrase (front_row c) t)));
      rest = r.rest;
    }

-- signs and operators
plus_is : (t : Text) → is_phrase row.PLUS t ≡ true → OneSign row.PLUS t
unfolding row_items
plus_is t ok = one_sign row.PLUS 43 22 t refl refl ok

minus_is : (t : Text) → is_phrase row.MINUS t ≡ true → OneSign row.MINUS t
unfolding row_items
minus_is t ok = one_sign row.MINUS 45 22 t refl refl ok

times_is : (t : Text) → is_phrase row.TIMES t ≡ true → OneSign row.TIMES t
unfolding row_items
times_is t ok = one_sign row.TIMES 42 22 t refl refl ok

over_is : (t : Text) → is_phrase row.OVER t ≡ true → OneSign row.OVER t
unfolding row_items
over_is t ok = one_sign row.OVER 47 22 t refl refl ok

pub sign_is : (t : Text) → is_phrase row.SIGN t ≡ true → OneSign row.SIGN t
unfolding row_items
sign_is t ok = either_sign row.SIGN row.PLUS row.MINUS (start.Code 43) t refl (plus_is t) (minus_is t) ok

addend_linked : (t : Text) → is_phrase row.ADDEND t ≡ true → Linked row.ADDEND row.PRODUCT t
unfolding row_items
addend_linked t ok = row_linked row.ADDEND row.PRODUCT row.SIGN t refl (sign_is t) ok

multiplier_linked : (t : Text) → is_phrase row.MULTIPLIER t ≡ true → Linked row.MULTIPLIER row.FACTOR t
unfolding row_items
multiplier_linked t ok = either_linked row.MULTIPLIER row.FACTOR row.TIMES row.OVER (start.Code 42) t refl (times_is t) (over_is t) ok

exponent_linked : (t : Text) → is_phrase row.EXPONENT t ≡ true → Linked row.EXPONENT row.OPERAND t
unfolding row_items
exponent_linked t ok = sign_linked row.EXPONENT row.OPERAND 94 22 t refl refl ok

joined_linked : (t : Text) → is_phrase row.JOINED t ≡ true → Linked row.JOINED row.ALPHA_OPERAND t
unfolding row_items
joined_linked t ok = sign_linked row.JOINED row.ALPHA_OPERAND 38 22 t refl refl ok

comparison_linked : (t : Text) → is_phrase row.FURTHER_COMPARISON t ≡ true → Linked row.FURTHER_COMPARISON row.COMPARISON t
unfolding row_items
comparison_linked t ok = among_linked row.FURTHER_COMPARISON row.COMPARISON word.AND word.XOR 22 t refl refl ok

pub linked : (c : Chain) (t : Text) → is_phrase (more_row c) t ≡ true → Linked (more_row c) (item_row c) t
linked chain.Sum t ok = addend_linked t ok
linked chain.Product t ok = multiplier_linked t ok
linked chain.Power t ok = exponent_linked t ok
linked chain.Alpha t ok = joined_linked t ok
linked chain.Condition t ok = comparison_linked t ok
linked chain.Length t ok = addend_linked t ok
linked chain.LengthProduct t ok = multiplier_linked t ok
linked chain.LengthPower t ok = exponent_linked t ok

-- what a further item begins with is an operator
begins : (c : Chain) (t : Text) → starts Atoms (more_start c) t ≡ is_operator_of c (first t)
unfolding starts
begins chain.Sum t = refl
begins chain.Product t = refl
begins chain.Power t = refl
begins chain.Alpha t = refl
begins chain.Condition t = refl
begins chain.Length t = refl
begins chain.LengthProduct t = refl
begins chain.LengthPower t = refl

pub chain_goes : (c : Chain) (t : Text) → is_list (more_start c) (more_row c) t ≡ true → is_operator_of c (first t) ≡ true → Further (more_start c) (more_row c) (item_row c) t
chain_goes c t ok is = further (more_start c) (more_row c) (item_row c) t (linked c t) ok (begins c t ∙ is)

pub chain_ends : (c : Chain) (t : Text) → is_operator_of c (first t) ≡ false → Ends (more_start c) (more_row c) t
chain_ends c t none = ended (more_start c) (more_row c) t (begins c t ∙ none)

pub each_chain_stands : EachChainStands
each_chain_stands c t = record { stands = chain_stands c t; goes = chain_goes c t; ends = chain_ends c t }

-- factors
abbrev Factor : Bool → Text → Type 0
Factor true t = SignedFactor t
Factor false t = PlainFactor t

factor_by : (b : Bool) (t : Text)
    → When b ((is_phrase row.SIGN t ≡ true) × ((is_phrase row.POWER (after_phrase row.SIGN t) ≡ true) × Unit {0})) ((is_phrase row.POWER t ≡ true) × Unit {0})
    → tree_at row.FACTOR t ≡ (if b then In 1 (tree_at row.SIGN t) (In 2 (tree_at row.POWER (after_phrase row.SIGN t)) Done) else In 0 Done (In 2 (tree_at row.POWER t) Done))
    → after_phrase row.FACTOR t ≡ (if b then after_phrase row.POWER (after_phrase row.SIGN t) else after_phrase row.POWER t)
    → Factor b t
factor_by true t w is_a is_r =
    let s = sign_is t w.0 in
    record {
      part = subst (λ (x : Text). is_phrase row.POWER x ≡ true) s.rest w.1.0;
      tree = is_a ∙ ap (λ (x : Text). In 1 (tree_at row.SIGN t) (In 2 (tree_at row.POWER x) Done)) s.rest;
      sign = s.code;
      rest = is_r ∙ ap (after_phrase row.POWER) s.rest;
      shorter = s.shorter;
    }
factor_by false t w is_a is_r = record { part = w.0; tree = is_a; rest = is_r }

factor : (t : Text) → is_phrase row.FACTOR t ≡ true → Factor (is_sign (first t)) t
unfolding row_items starts
factor t ok =
    let r = row_stands row.FACTOR (Maybe (start.Two 43 45) row.SIGN ∷ Part row.POWER ∷ []) t refl ok in
    factor_by (starts Atoms (start.Two 43 45) t) t r.stands r.tree r.rest

pub signed_factor : (t : Text) → is_phrase row.FACTOR t ≡ true → is_sign (first t) ≡ true → SignedFactor t
signed_factor t ok is = subst (λ (x : Bool). Factor x t) is (factor t ok)

pub plain_factor : (t : Text) → is_phrase row.FACTOR t ≡ true → is_sign (first t) ≡ false → PlainFactor t
plain_factor t ok is = subst (λ (x : Bool). Factor x t) is (factor t ok)
