-- A further item is an operator and an item: by its row, and in a repetition that goes on.
use Rattle.std.proofs.Common.{◌≡◌, ◌<◌, ℕ, Bool, true, false, if◌then◌else◌, nat_lt, [], ◌∷◌, length, drop, refl, sym, ap, subst, ◌∙◌, arith}
use Rattle.b2_base.specs.Lexical.{first}
use Rattle.b2_atom.specs.Words.{Text}
use Rattle.b2_atom.specs.Tokens.{Token}
use Rattle.b2_atom.specs.Tree.{Trees}
use Rattle.b2_atom.specs.Tree.Trees.{Done, Put, In}
use Rattle.b2_atom.specs.Grammar.{row_items, starts}
use Rattle.b2_atom.specs.declared.words.Origin.TheVariants.{Atoms}
use Rattle.b2_atom.specs.declared.forms.Start.{Start}
use Rattle.b2_atom.specs.declared.forms.Item.TheVariants.{Sign, Among, Part, Either}
use Rattle.b2_rows.specs.Rows.{is_phrase, tree_at, after_phrase, is_list, list_at, after_list, When}
use Rattle.b2_rows.specs.Links.{token_code, first_code, IsLink, Linked, Further}
use Rattle.b2_rows.proofs.Levels.{part_no_longer}
use Rattle.b2_rows.proofs.Standing.{row_stands}
use Rattle.b2_rows.proofs.Lists.{goes}
use Rattle.b2_rows.proofs.Lengths.{byte_shorter, among_shorter}

-- what a meaning of such trees gives, where it looks at the operator and at the item alone
pub link_means : {A : Type 0} (f : Trees → A) (g : ℕ → Trees → A) → ((token : Token) (a : Trees) → f (Put token (In 2 a Done)) ≡ g (token_code token) a)
    → ((k : ℕ) (o a : Trees) → f (In k o (In 2 a Done)) ≡ g (first_code o) a) → (c : ℕ) (a u : Trees) → IsLink c a u → f u ≡ g c a
link_means f g h k c a (Put token (In n b Done)) is =
    ap (λ (m : ℕ). f (Put token (In m b Done))) is.1.0 ∙ h token b ∙ ap (λ (d : ℕ). g d b) is.0 ∙ ap (g c) is.1.1
link_means f g h k c a (In m o (In n b Done)) is =
    ap (λ (x : ℕ). f (In m o (In x b Done))) is.1.0 ∙ k m o b ∙ ap (λ (d : ℕ). g d b) is.0 ∙ ap (g c) is.1.1
link_means f g h k c a Done is = absurd is
link_means f g h k c a (Put token Done) is = absurd is
link_means f g h k c a (Put token (Put u v)) is = absurd is
link_means f g h k c a (Put token (In n b (Put u v))) is = absurd is
link_means f g h k c a (Put token (In n b (In m d e))) is = absurd is
link_means f g h k c a (In m o Done) is = absurd is
link_means f g h k c a (In m o (Put u v)) is = absurd is
link_means f g h k c a (In m o (In n b (Put u v))) is = absurd is
link_means f g h k c a (In m o (In n b (In x d e))) is = absurd is

-- a row that is one sign
pub record OneSign (n : ℕ) (t : Text) : Type 0 where
  pub code : first_code (tree_at n t) ≡ first t
  pub rest : after_phrase n t ≡ drop 1 t
  pub shorter : length (drop 1 t) < length t

pub one_sign : (n c code : ℕ) (t : Text) → row_items n ≡ Sign c code ∷ [] → nat_lt 0 c ≡ true → is_phrase n t ≡ true → OneSign n t
one_sign n c code t same some ok =
    let r = row_stands n (Sign c code ∷ []) t same ok in
    record { code = ap first_code r.tree ∙ sym r.stands.0; rest = r.rest; shorter = byte_shorter c t some r.stands.0 }

sign_by : (b : Bool) (n m : ℕ) (t : Text) (a : Trees) (r : Text) → When b ((is_phrase n t ≡ true) × Unit {0}) ((is_phrase m t ≡ true) × Unit {0})
    → (is_phrase n t ≡ true → OneSign n t) → (is_phrase m t ≡ true → OneSign m t)
    → a ≡ (if b then In 1 (tree_at n t) Done else In 0 (tree_at m t) Done) → r ≡ (if b then after_phrase n t else after_phrase m t)
    → (first_code a ≡ first t) × ((r ≡ drop 1 t) × (length (drop 1 t) < length t))
sign_by true n m t a r w f g is_a is_r = let s = f w.0 in (ap first_code is_a ∙ s.code, (is_r ∙ s.rest, s.shorter))
sign_by false n m t a r w f g is_a is_r = let s = g w.0 in (ap first_code is_a ∙ s.code, (is_r ∙ s.rest, s.shorter))

-- or one of two such rows
pub either_sign : (n x y : ℕ) (s : Start) (t : Text) → row_items n ≡ Either s x y ∷ [] → (is_phrase x t ≡ true → OneSign x t) → (is_phrase y t ≡ true → OneSign y t) → is_phrase n t ≡ true → OneSign n t
either_sign n x y s t same f g ok =
    let r = row_stands n (Either s x y ∷ []) t same ok in
    let k = sign_by (starts Atoms s t) x y t (tree_at n t) (after_phrase n t) r.stands f g r.tree r.rest in
    record { code = k.0; rest = k.1.0; shorter = k.1.1 }

-- an operator and an item: a sign, one of some words, a row that is a sign, or one of two such rows
pub sign_linked : (more item c code : ℕ) (t : Text) → row_items more ≡ Sign c code ∷ Part item ∷ [] → nat_lt 0 c ≡ true → is_phrase more t ≡ true → Linked more item t
sign_linked more item c code t same some ok =
    let r = row_stands more (Sign c code ∷ Part item ∷ []) t same ok in
    record {
      part = r.stands.1.0;
      link = subst (IsLink (first t) (tree_at item (drop 1 t))) (sym r.tree) (sym r.stands.0, (refl, refl));
      rest = r.rest;
      shorter = byte_shorter c t some r.stands.0;
    }

pub among_linked : (more item low high code : ℕ) (t : Text) → row_items more ≡ Among low high code ∷ Part item ∷ [] → nat_lt 0 low ≡ true → is_phrase more t ≡ true → Linked more item t
among_linked more item low high code t same some ok =
    let r = row_stands more (Among low high code ∷ Part item ∷ []) t same ok in
    record {
      part = r.stands.1.0;
      link = subst (IsLink (first t) (tree_at item (drop 1 t))) (sym r.tree) (refl, (refl, refl));
      rest = r.rest;
      shorter = among_shorter low high t some r.stands.0;
    }

-- where a row that is a sign was read
after_sign : (n item k : ℕ) (t : Text) (u : Trees) (r : Text) → OneSign n t → is_phrase item (after_phrase n t) ≡ true
    → u ≡ In k (tree_at n t) (In 2 (tree_at item (after_phrase n t)) Done) → r ≡ after_phrase item (after_phrase n t)
    → (is_phrase item (drop 1 t) ≡ true) × (IsLink (first t) (tree_at item (drop 1 t)) u × (r ≡ after_phrase item (drop 1 t)))
after_sign n item k t u r s ok is_u is_r = (
  subst (λ (x : Text). is_phrase item x ≡ true) s.rest ok,
  (subst (IsLink (first t) (tree_at item (drop 1 t))) (sym (is_u ∙ ap (λ (x : Text). In k (tree_at n t) (In 2 (tree_at item x) Done)) s.rest)) (s.code, (refl, refl)), is_r ∙ ap (after_phrase item) s.rest),
)

pub row_linked : (more item sign : ℕ) (t : Text) → row_items more ≡ Part sign ∷ Part item ∷ [] → (is_phrase sign t ≡ true → OneSign sign t) → is_phrase more t ≡ true → Linked more item t
row_linked more item sign t same f ok =
    let r = row_stands more (Part sign ∷ Part item ∷ []) t same ok in
    let s = f r.stands.0 in
    let k = after_sign sign item 2 t (tree_at more t) (after_phrase more t) s r.stands.1.0 r.tree r.rest in
    record { part = k.0; link = k.1.0; rest = k.1.1; shorter = s.shorter }

two_rows : (b : Bool) (item x y : ℕ) (t : Text) (u : Trees) (r : Text) → (is_phrase x t ≡ true → OneSign x t) → (is_phrase y t ≡ true → OneSign y t)
    → When b ((is_phrase x t ≡ true) × ((is_phrase item (after_phrase x t) ≡ true) × Unit {0})) ((is_phrase y t ≡ true) × ((is_phrase item (after_phrase y t) ≡ true) × Unit {0}))
    → u ≡ (if b then In 1 (tree_at x t) (In 2 (tree_at item (after_phrase x t)) Done) else In 0 (tree_at y t) (In 2 (tree_at item (after_phrase y t)) Done))
    → r ≡ (if b then after_phrase item (after_phrase x t) else after_phrase item (after_phrase y t))
    → ((is_phrase item (drop 1 t) ≡ true) × (IsLink (first t) (tree_at item (drop 1 t)) u × (r ≡ after_phrase item (drop 1 t)))) × (length (drop 1 t) < length t)
two_rows true item x y t u r f g w is_u is_r = let s = f w.0 in (after_sign x item 1 t u r s w.1.0 is_u is_r, s.shorter)
two_rows false item x y t u r f g w is_u is_r = let s = g w.0 in (after_sign y item 0 t u r s w.1.0 is_u is_r, s.shorter)

pub either_linked : (more item x y : ℕ) (s : Start) (t : Text) → row_items more ≡ Either s x y ∷ Part item ∷ [] → (is_phrase x t ≡ true → OneSign x t) → (is_phrase y t ≡ true → OneSign y t)
    → is_phrase more t ≡ true → Linked more item t
either_linked more item x y s t same f g ok =
    let r = row_stands more (Either s x y ∷ Part item ∷ []) t same ok in
    let k = two_rows (starts Atoms s t) item x y t (tree_at more t) (after_phrase more t) f g r.stands r.tree r.rest in
    record { part = k.0.0; link = k.0.1.0; rest = k.0.1.1; shorter = k.1 }

-- a repetition of such rows that goes on
pub further : (s : Start) (more item : ℕ) (t : Text) → (is_phrase more t ≡ true → Linked more item t) → is_list s more t ≡ true → starts Atoms s t ≡ true → Further s more item t
further s more item t f ok begins =
    let g = goes s more t ok begins in
    let l = f g.part in
    record {
      part = l.part;
      list = subst (λ (x : Text). is_list s more x ≡ true) l.rest g.list;
      tree = g.tree ∙ ap (λ (x : Text). In 1 (tree_at more t) (list_at s more x)) l.rest;
      link = l.link;
      rest = g.rest ∙ ap (after_list s more) l.rest;
      shorter = (let a = l.shorter in let b = part_no_longer item (drop 1 t) in omega (arith, a, b));
    }

-- items after commas, wherever they are repeated
pub further_of : (s : Start) (more item c code : ℕ) (t : Text) → row_items more ≡ Sign c code ∷ Part item ∷ [] → nat_lt 0 c ≡ true → is_list s more t ≡ true → starts Atoms s t ≡ true → Further s more item t
further_of s more item c code t same some ok begins = further s more item t (sign_linked more item c code t same some) ok begins
