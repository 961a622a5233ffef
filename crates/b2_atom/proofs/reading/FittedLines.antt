-- What is read is a tree that the rows allow: remarks, statements and whole lines.
use Rattle.std.proofs.Common.{◌≡◌, ℕ, zero, suc, ◌+◌, ◌<◌, ◌≤◌, Bool, true, false, not, if◌then◌else◌, ◌==◌, ◌||◌, ◌&&◌, List, [], ◌∷◌, ◌++◌, length, drop, refl, sym, ap, subst, ◌∙◌, arith, nat_lt, append-nil, inl, inr, ◌⊎◌, Result, Ok, Err}
use Rattle.std.proofs.lemmas.Bool.Decides.{nat_tests}
use Rattle.b2_atom.specs.Words.{Text, ahead, skipped}
use Rattle.b2_atom.specs.Tokens.{Token}
use Rattle.b2_atom.specs.Tokens.Token.{Coded, Plain}
use Rattle.b2_atom.specs.Tree.{Trees, Outcome, Parser, one, nothing, preceded, and_then, under, also, tokens}
use Rattle.b2_atom.specs.Tree.Trees.{Done, Put, In}
use Rattle.b2_base.specs.Lexical.{all_printable}
use Rattle.b2_atom.specs.Leaves.{refused}
use Rattle.b2_atom.specs.Grammar.{reader, items, item, level, deep, many, statement, statement_within, chosen, statement_row, row_at, allowed, from, begins_let, variable_begins, barred_following, barred_line, barred_position, row_items, starts, absent, symbol, end_of_line, end_at, read_leaf, text_to_end, parse_line}
use Rattle.b2_atom.specs.Fitting.{fits_token, giving, FitsPut, Fits, is_remark, RemarksEnd, is_statement, is_allowed, LineTree}
use Rattle.b2_atom.specs.Table.{forms}
use Rattle.b2_atom.specs.declared.words.TheConstants as word
use Rattle.b2_atom.specs.declared.rows.TheConstants as row
use Rattle.b2_atom.specs.declared.words.Origin.{Origin}
use Rattle.b2_atom.specs.declared.words.Origin.TheVariants.{Program, Immediate, Atoms}
use Rattle.b2_atom.specs.declared.forms.Leaf.TheVariants as leaf
use Rattle.b2_atom.specs.declared.forms.Start.TheVariants as start
use Rattle.b2_atom.specs.declared.forms.Position.{Position}
use Rattle.b2_atom.specs.declared.forms.Position.TheVariants as position
use Rattle.b2_atom.specs.declared.forms.Form.{Form}
use Rattle.b2_atom.specs.declared.forms.Item.{Item}
use Rattle.b2_atom.specs.declared.forms.Item.TheVariants.{Word, Sign, Typed, Part, Either, Many, Statement, End}
use Rattle.b2_atom.specs.declared.output.Stop.{Stop}
use Rattle.b2_atom.specs.declared.output.Stop.TheVariants.{At}
use Rattle.b2_atom.proofs.Booleans.{and_left, and_right, equal, both, or_one, or_other}
use Rattle.b2_atom.proofs.typed.Longest.{every}
use Rattle.b2_atom.proofs.reading.Fitted.{no_remark, Good, Leads, tokens_also, append_remarks, calm_row, calm_part, calm_level, calm_deep, calm_item_good, calm_item, skipped_short, ahead_less, nothing_left, drop_short, same_code, le_both}

-- no remark, or nothing after it
pub record Ended (ts : List Token) (rest : Text) : Type 0 where
  pub remarks : RemarksEnd ts
  pub ended : (no_remark ts ≡ true) ⊎ (rest ≡ [])

not_both : (b : Bool) → b ≡ true → not b ≡ true → ⊥
not_both true h k = cc
not_both false h k = cc

calm_remarks : (ts : List Token) → no_remark ts ≡ true → RemarksEnd ts
calm_remarks [] h = tt
calm_remarks (t ∷ ts) h = ((λ is. absurd (not_both (is_remark t) is (and_left (not (is_remark t)) (no_remark ts) h))), calm_remarks ts (and_right (not (is_remark t)) (no_remark ts) h))

calm_ended : (ts : List Token) (rest : Text) → no_remark ts ≡ true → Ended ts rest
calm_ended ts rest h = record { remarks = calm_remarks ts h; ended = inl h }

calm_append : (ts us : List Token) → no_remark ts ≡ true → RemarksEnd us → RemarksEnd (ts ++ us)
calm_append [] us h k = k
calm_append (t ∷ ts) us h k =
    ((λ is. absurd (not_both (is_remark t) is (and_left (not (is_remark t)) (no_remark ts) h))), calm_append ts us (and_right (not (is_remark t)) (no_remark ts) h) k)

calm_then : (ts us : List Token) (rest : Text) → no_remark ts ≡ true → Ended us rest → Ended (ts ++ us) rest
calm_then ts us rest h k = record {
  remarks = calm_append ts us h k.remarks;
  ended = elim k.ended [ inl n ↦ inl (append_remarks ts us h n) | inr e ↦ inr e ];
}

-- a reading whose tree has a property, and which ends where a remark is in it
abbrev pub Ends : (Trees → Type 0) → Text → Outcome → Type 0
Ends P s (Ok p) = P p.0 × (Ended (tokens p.0) p.1 × (length p.1 ≤ length s))
Ends P s (Err e) = Unit {0}

-- the same, which gives nothing where nothing is left
abbrev pub Idles : (Trees → Type 0) → Text → Outcome → Type 0
Idles P s (Ok p) = P p.0 × (Ended (tokens p.0) p.1 × ((length p.1 ≤ length s) × (s ≡ [] → (tokens p.0 ≡ []) × (p.1 ≡ []))))
Idles P s (Err e) = Unit {0}

good_ends : (P : Trees → Type 0) (s : Text) (o : Outcome) → Good P s o → Ends P s o
good_ends P s (Err e) g = tt
good_ends P s (Ok p) g = (g.0, (calm_ended (tokens p.0) p.1 g.1.0, g.1.1))

ends_if : (P : Trees → Type 0) (s : Text) (b : Bool) (o u : Outcome) → Ends P s o → Ends P s u → Ends P s (if b then o else u)
ends_if P s true o u g h = g
ends_if P s false o u g h = h

ends_under : (P Q : Trees → Type 0) (n : ℕ) (s : Text) (o : Outcome) → ((t : Trees) → P t → Q (In n t Done)) → Ends P s o → Ends Q s (under n o)
ends_under P Q n s (Err e) more g = tt
ends_under P Q n s (Ok p) more g =
    (more p.0 g.0, (subst (λ ts. Ended ts p.1) (sym (append-nil (tokens p.0))) g.1.0, g.1.1))

-- a part without a remark, and then another
calm_joined : (P Q R : Trees → Type 0) (s : Text) (a : Trees) (rest : Text) (u : Outcome) → ((a b : Trees) → P a → Q b → R (also a b)) → P a → no_remark (tokens a) ≡ true
    → length rest ≤ length s → Ends Q rest u → Ends R s (preceded a u)
calm_joined P Q R s a rest (Err e) more g n l h = tt
calm_joined P Q R s a rest (Ok p) more g n l h =
    (more a p.0 g h.0, (subst (λ ts. Ended ts p.1) (sym (tokens_also a p.0)) (calm_then (tokens a) (tokens p.0) p.1 n h.1.0), le_both (length p.1) (length rest) (length s) h.1.1 l))

calm_first : (P Q R : Trees → Type 0) (s : Text) (o : Outcome) (q : Parser Text) → ((a b : Trees) → P a → Q b → R (also a b)) → Good P s o
    → ((u : Text) → length u ≤ length s → Ends Q u (q u)) → Ends R s (and_then o q)
calm_first P Q R s (Err e) q more g h = tt
calm_first P Q R s (Ok p) q more g h = calm_joined P Q R s p.0 p.1 (q p.1) more g.0 g.1.0 g.1.1 (h p.1 g.1.1)

-- a part that may end in a remark, and then what gives nothing where nothing is left
ended_then : (ts us : List Token) (rest left : Text) → Ended ts rest → Ended us left → (rest ≡ [] → (us ≡ []) × (left ≡ [])) → Ended (ts ++ us) left
ended_then ts us rest left h k idle = elim h.ended [
  | inl n ↦ calm_then ts us left n k
  | inr e ↦ (let none = idle e in record {
    remarks = subst (λ l. RemarksEnd (ts ++ l)) (sym none.0) (subst RemarksEnd (sym (append-nil ts)) h.remarks);
    ended = inr none.1;
  })
]

idle_joined : (P Q R : Trees → Type 0) (s : Text) (a : Trees) (rest : Text) (u : Outcome) → ((a b : Trees) → P a → Q b → R (also a b)) → P a → Ended (tokens a) rest
    → length rest ≤ length s → Idles Q rest u → Ends R s (preceded a u)
idle_joined P Q R s a rest (Err e) more g n l h = tt
idle_joined P Q R s a rest (Ok p) more g n l h = (
  more a p.0 g h.0,
  (
    subst (λ ts. Ended ts p.1) (sym (tokens_also a p.0)) (ended_then (tokens a) (tokens p.0) rest p.1 n h.1.0 h.1.1.1),
    le_both (length p.1) (length rest) (length s) h.1.1.0 l,
  ),
)

idle_then : (P Q R : Trees → Type 0) (s : Text) (o : Outcome) (q : Parser Text) → ((a b : Trees) → P a → Q b → R (also a b)) → Ends P s o
    → ((u : Text) → length u ≤ length s → Idles Q u (q u)) → Ends R s (and_then o q)
idle_then P Q R s (Err e) q more g h = tt
idle_then P Q R s (Ok p) q more g h = idle_joined P Q R s p.0 p.1 (q p.1) more g.0 g.1.0 g.1.1 (h p.1 g.1.1)

-- and both idle
idles_joined : (P Q R : Trees → Type 0) (s : Text) (a : Trees) (rest : Text) (u : Outcome) → ((a b : Trees) → P a → Q b → R (also a b)) → P a → Ended (tokens a) rest
    → length rest ≤ length s → (s ≡ [] → (tokens a ≡ []) × (rest ≡ [])) → Idles Q rest u → Idles R s (preceded a u)
idles_joined P Q R s a rest (Err e) more g n l idle h = tt
idles_joined P Q R s a rest (Ok p) more g n l idle h = (
  more a p.0 g h.0,
  (
    subst (λ ts. Ended ts p.1) (sym (tokens_also a p.0)) (ended_then (tokens a) (tokens p.0) rest p.1 n h.1.0 h.1.1.1),
    (
      le_both (length p.1) (length rest) (length s) h.1.1.0 l,
      λ e. let front = idle e in let back = h.1.1.1 front.1 in (tokens_also a p.0 ∙ (λ i. front.0 i ++ back.0 i), back.1),
    ),
  ),
)

idles_then : (P Q R : Trees → Type 0) (s : Text) (o : Outcome) (q : Parser Text) → ((a b : Trees) → P a → Q b → R (also a b)) → Idles P s o
    → ((u : Text) → length u ≤ length s → Idles Q u (q u)) → Idles R s (and_then o q)
idles_then P Q R s (Err e) q more g h = tt
idles_then P Q R s (Ok p) q more g h = idles_joined P Q R s p.0 p.1 (q p.1) more g.0 g.1.0 g.1.1.0 g.1.1.1 (h p.1 g.1.1.0)

-- a symbol takes something
no_null : (c : ℕ) → (0 == c) ≡ true → nat_lt 0 c ≡ true → ⊥
no_null c h k = grind (arith, nat_tests)

symbol_less : (o : Origin) (c : ℕ) (t : Text) → ((ahead o t).0 == c) ≡ true → nat_lt 0 c ≡ true → length (ahead o t).1 < length t
symbol_less o c [] h k = absurd (no_null c (ap (λ (p : ℕ × Text). p.0 == c) (sym (nothing_left o)) ∙ h) k)
symbol_less o c (a ∷ y) h k = let less = ahead_less o a y in omega arith

symbol_by : (o : Origin) (P R : Trees → Type 0) (c code : ℕ) (s : Text) (q : Parser Text) (b : Bool) → ((ahead o (skipped o s)).0 == c) ≡ b → nat_lt 0 c ≡ true
    → no_remark (Coded c ∷ []) ≡ true → ((t : Trees) → P t → R (Put (Coded c) t)) → ((u : Text) → length u < length s → Ends P u (q u))
    → Ends R s (and_then (if b then one (Coded c) (ahead o (skipped o s)).1 else Err (refused o code (skipped o s))) q)
symbol_by o P R c code s q true is some calm more h =
    let less : length (ahead o (skipped o s)).1 < length s = (let one = symbol_less o c (skipped o s) is some in let two = skipped_short o s in omega arith) in
    let le : length (ahead o (skipped o s)).1 ≤ length s = omega arith in
    calm_joined (λ a. a ≡ Put (Coded c) Done) P R s (Put (Coded c) Done) (ahead o (skipped o s)).1 (q (ahead o (skipped o s)).1)
    (λ a b x y. let Q : Trees → Type 0 = λ a'. R (also a' b) in subst Q (sym x) (more b y)) refl calm le (h (ahead o (skipped o s)).1 less)
symbol_by o P R c code s q false is some calm more h = tt

symbol_first : (o : Origin) (P R : Trees → Type 0) (c code : ℕ) (s : Text) (q : Parser Text) → nat_lt 0 c ≡ true → no_remark (Coded c ∷ []) ≡ true
    → ((t : Trees) → P t → R (Put (Coded c) t)) → ((u : Text) → length u < length s → Ends P u (q u)) → Ends R s (and_then (symbol o c code s) q)
unfolding symbol
symbol_first o P R c code s q some calm more h = symbol_by o P R c code s q ((ahead o (skipped o s)).0 == c) refl some calm more h

-- the readers of a row: parentheses, and parts with l levels in them
abbrev pub row_read : Origin → (Position → Parser Text) → ℕ → List Item → Parser Text
row_read o stf l is = items stf (deep (reader o) stf 32) (level (reader o) stf (deep (reader o) stf 32) l) (reader o) is

calm_step : (o : Origin) (stf : Position → Parser Text) (l : ℕ) (i : Item) (is : List Item) (s : Text) → calm_item i ≡ true
    → ((u : Text) → length u ≤ length s → Ends (Fits o 32 32 is) u (row_read o stf l is u)) → Ends (Fits o 32 32 (i ∷ is)) s (row_read o stf l (i ∷ is) s)
unfolding items
calm_step o stf l i is s calm h =
    calm_first (Leads o 32 i is) (Fits o 32 32 is) (Fits o 32 32 (i ∷ is)) s (item stf (deep (reader o) stf 32) (level (reader o) stf (deep (reader o) stf 32) l) (reader o) i s)
    (row_read o stf l is) (λ a b x y. x b y)
    (calm_item_good o 32 stf (deep (reader o) stf 32) (level (reader o) stf (deep (reader o) stf 32) l) (calm_deep o stf 32) (calm_level o 32 stf (deep (reader o) stf 32) (calm_deep o stf 32) l) i is s calm) h

ends_le : (n : ℕ) → n ≤ n
ends_le n = omega arith

last_step : (o : Origin) (stf : Position → Parser Text) (l : ℕ) (i : Item) (s : Text)
    → Ends (Leads o 32 i []) s (item stf (deep (reader o) stf 32) (level (reader o) stf (deep (reader o) stf 32) l) (reader o) i s)
    → Ends (Fits o 32 32 (i ∷ [])) s (row_read o stf l (i ∷ []) s)
unfolding items
last_step o stf l i s g =
    idle_then (Leads o 32 i []) (Fits o 32 32 []) (Fits o 32 32 (i ∷ [])) s (item stf (deep (reader o) stf 32) (level (reader o) stf (deep (reader o) stf 32) l) (reader o) i s)
    (row_read o stf l []) (λ a b x y. x b y) g (λ u le. (refl, (calm_ended [] u refl, (ends_le (length u), λ e. (refl, e)))))

word_step : (o : Origin) (stf : Position → Parser Text) (l c : ℕ) (is : List Item) (s : Text) → nat_lt 0 c ≡ true → no_remark (Coded c ∷ []) ≡ true
    → ((u : Text) → length u < length s → Ends (Fits o 32 32 is) u (row_read o stf l is u)) → Ends (Fits o 32 32 (Word c ∷ is)) s (row_read o stf l (Word c ∷ is) s)
unfolding items item
word_step o stf l c is s some calm h = symbol_first o (Fits o 32 32 is) (Fits o 32 32 (Word c ∷ is)) c 22 s (row_read o stf l is) some calm (λ t fit. (same_code c, fit)) h

sign_step : (o : Origin) (stf : Position → Parser Text) (l c code : ℕ) (is : List Item) (s : Text) → nat_lt 0 c ≡ true → no_remark (Coded c ∷ []) ≡ true
    → ((u : Text) → length u < length s → Ends (Fits o 32 32 is) u (row_read o stf l is u)) → Ends (Fits o 32 32 (Sign c code ∷ is)) s (row_read o stf l (Sign c code ∷ is) s)
unfolding items item
sign_step o stf l c code is s some calm h = symbol_first o (Fits o 32 32 is) (Fits o 32 32 (Sign c code ∷ is)) c code s (row_read o stf l is) some calm (λ t fit. (same_code c, fit)) h

ends_row : (o : Origin) (stf : Position → Parser Text) (l n : ℕ) (is : List Item) (s : Text) → row_items n ≡ is → Ends (Fits o 32 32 is) s (row_read o stf l is s)
    → Ends (Fits o 32 32 (row_items n)) s (level (reader o) stf (deep (reader o) stf 32) (suc l) n s)
unfolding level
ends_row o stf l n is s e g =
    let P : List Item → Type 0 = λ r. Ends (Fits o 32 32 r) s (row_read o stf l r s) in subst P (sym e) g

-- a statement's tree
abbrev pub StatementTree : Origin → Position → Trees → Type 0
StatementTree o p (In n inner Done) = (is_statement forms o p n ≡ true) × Fits o 32 32 (row_items n) inner
StatementTree o p t = ⊥

statement_leads : (o : Origin) (p : Position) (is : List Item) (t : Trees) → StatementTree o p t → Leads o 32 (Statement p) is t
statement_leads o p is Done h b fit = absurd h
statement_leads o p is (Put t ts) h b fit = absurd h
statement_leads o p is (In n inner Done) h b fit = (h.0, (h.1, fit))
statement_leads o p is (In n inner (Put t ts)) h b fit = absurd h
statement_leads o p is (In n inner (In m u ts)) h b fit = absurd h

ends_map : (P Q : Trees → Type 0) (s : Text) (o : Outcome) → ((t : Trees) → P t → Q t) → Ends P s o → Ends Q s o
ends_map P Q s (Err e) more g = tt
ends_map P Q s (Ok p) more g = (more p.0 g.0, g.1)

-- statements of texts that are shorter than some length
abbrev pub Below : Origin → (Position → Parser Text) → ℕ → Type 0
Below o stf f = (p : Position) (s : Text) → length s < f → Ends (StatementTree o p) s (stf p s)

statement_last : (o : Origin) (stf : Position → Parser Text) (f l : ℕ) → Below o stf f → (p : Position) (s : Text) → length s < f
    → Ends (Fits o 32 32 (Statement p ∷ [])) s (row_read o stf l (Statement p ∷ []) s)
unfolding item
statement_last o stf f l st p s less = last_step o stf l (Statement p) s (ends_map (StatementTree o p) (Leads o 32 (Statement p) []) s (stf p s) (statement_leads o p []) (st p s less))

pub following_is : row_items row.FOLLOWING ≡ Statement position.Following ∷ []
unfolding row_items
following_is = refl

following_row : (o : Origin) (stf : Position → Parser Text) (f l : ℕ) → Below o stf f → (s : Text) → length s < f
    → Ends (Fits o 32 32 (row_items row.FOLLOWING)) s (level (reader o) stf (deep (reader o) stf 32) (suc l) row.FOLLOWING s)
following_row o stf f l st s less =
    ends_row o stf l row.FOLLOWING (Statement position.Following ∷ []) s following_is (statement_last o stf f l st position.Following s less)

pub error_is : row_items row.ERROR ≡ Word word.ERROR ∷ Part row.FOLLOWING ∷ []
unfolding row_items
error_is = refl

part_following : (o : Origin) (stf : Position → Parser Text) (f l : ℕ) → Below o stf f → (s : Text) → length s < f
    → Ends (Fits o 32 32 (Part row.FOLLOWING ∷ [])) s (row_read o stf (suc l) (Part row.FOLLOWING ∷ []) s)
unfolding item
part_following o stf f l st s less =
    last_step o stf (suc l) (Part row.FOLLOWING) s
    (ends_under (Fits o 32 32 (row_items row.FOLLOWING)) (Leads o 32 (Part row.FOLLOWING) []) 2 s (level (reader o) stf (deep (reader o) stf 32) (suc l) row.FOLLOWING s)
    (λ t g b fit. (refl, (g, fit))) (following_row o stf f l st s less))

lt_le : (a b c : ℕ) → a < b → b ≤ c → a < c
lt_le a b c h k = omega arith

error_row : (o : Origin) (stf : Position → Parser Text) (f l : ℕ) → Below o stf f → (s : Text) → length s ≤ f
    → Ends (Fits o 32 32 (row_items row.ERROR)) s (level (reader o) stf (deep (reader o) stf 32) (suc (suc l)) row.ERROR s)
error_row o stf f l st s le =
    ends_row o stf (suc l) row.ERROR (Word word.ERROR ∷ Part row.FOLLOWING ∷ []) s error_is
    (word_step o stf (suc l) word.ERROR (Part row.FOLLOWING ∷ []) s refl refl (λ u less. part_following o stf f l st u (lt_le (length u) (length s) f less le)))

line_calm : calm_row row.LINE_NUMBER ≡ true
unfolding calm_row
line_calm = refl

condition_calm : calm_row row.CONDITION ≡ true
unfolding calm_row
condition_calm = refl

line_or_statement : (o : Origin) (stf : Position → Parser Text) (f l : ℕ) → Below o stf f → (s : Text) → length s < f
    → Ends (Fits o 32 32 (Either start.Line row.LINE_NUMBER row.FOLLOWING ∷ [])) s (row_read o stf (suc l) (Either start.Line row.LINE_NUMBER row.FOLLOWING ∷ []) s)
unfolding item
line_or_statement o stf f l st s less =
    last_step o stf (suc l) (Either start.Line row.LINE_NUMBER row.FOLLOWING) s
    (ends_if (Leads o 32 (Either start.Line row.LINE_NUMBER row.FOLLOWING) []) s (starts o start.Line s)
    (under 1 (level (reader o) stf (deep (reader o) stf 32) (suc l) row.LINE_NUMBER s)) (under 0 (level (reader o) stf (deep (reader o) stf 32) (suc l) row.FOLLOWING s))
    (ends_under (Fits o 32 32 (row_items row.LINE_NUMBER)) (Leads o 32 (Either start.Line row.LINE_NUMBER row.FOLLOWING) []) 1 s (level (reader o) stf (deep (reader o) stf 32) (suc l) row.LINE_NUMBER s)
    (λ t g b fit. (g, fit)) (good_ends (Fits o 32 32 (row_items row.LINE_NUMBER)) s (level (reader o) stf (deep (reader o) stf 32) (suc l) row.LINE_NUMBER s) (calm_part o stf (suc l) row.LINE_NUMBER line_calm s)))
    (ends_under (Fits o 32 32 (row_items row.FOLLOWING)) (Leads o 32 (Either start.Line row.LINE_NUMBER row.FOLLOWING) []) 0 s (level (reader o) stf (deep (reader o) stf 32) (suc l) row.FOLLOWING s)
    (λ t g b fit. (g, fit)) (following_row o stf f l st s less)))

pub else_is : row_items row.ELSE ≡ Word word.ELSE ∷ Either start.Line row.LINE_NUMBER row.FOLLOWING ∷ []
unfolding row_items
else_is = refl

else_row : (o : Origin) (stf : Position → Parser Text) (f l : ℕ) → Below o stf f → (s : Text) → length s ≤ f
    → Ends (Fits o 32 32 (row_items row.ELSE)) s (level (reader o) stf (deep (reader o) stf 32) (suc (suc l)) row.ELSE s)
else_row o stf f l st s le =
    ends_row o stf (suc l) row.ELSE (Word word.ELSE ∷ Either start.Line row.LINE_NUMBER row.FOLLOWING ∷ []) s else_is
    (word_step o stf (suc l) word.ELSE (Either start.Line row.LINE_NUMBER row.FOLLOWING ∷ []) s refl refl (λ u less. line_or_statement o stf f l st u (lt_le (length u) (length s) f less le)))

pub if_is : row_items row.IF ≡ Word word.IF ∷ Part row.CONDITION ∷ Word word.THEN ∷ Either start.Line row.LINE_NUMBER row.FOLLOWING ∷ []
unfolding row_items
if_is = refl

le_lt : (a b c : ℕ) → a ≤ b → b < c → a < c
le_lt a b c h k = omega arith

if_row : (o : Origin) (stf : Position → Parser Text) (f l : ℕ) → Below o stf f → (s : Text) → length s ≤ f
    → Ends (Fits o 32 32 (row_items row.IF)) s (level (reader o) stf (deep (reader o) stf 32) (suc (suc l)) row.IF s)
if_row o stf f l st s le =
    ends_row o stf (suc l) row.IF (Word word.IF ∷ Part row.CONDITION ∷ Word word.THEN ∷ Either start.Line row.LINE_NUMBER row.FOLLOWING ∷ []) s if_is
    (word_step o stf (suc l) word.IF (Part row.CONDITION ∷ Word word.THEN ∷ Either start.Line row.LINE_NUMBER row.FOLLOWING ∷ []) s refl refl (λ u less.
    calm_step o stf (suc l) (Part row.CONDITION) (Word word.THEN ∷ Either start.Line row.LINE_NUMBER row.FOLLOWING ∷ []) u condition_calm (λ v most.
    calm_step o stf (suc l) (Word word.THEN) (Either start.Line row.LINE_NUMBER row.FOLLOWING ∷ []) v refl (λ w more.
    line_or_statement o stf f l st w (le_lt (length w) (length v) f more (le_lt (length v) (length u) f most (lt_le (length u) (length s) f less le)))))))

-- remarks and image lines
some_text : (n : ℕ) → nat_lt 0 (suc n) ≡ true
some_text n = grind (arith, nat_tests)

abbrev TextRow : Item → List Item
TextRow i = i ∷ Typed leaf.Text 14 ∷ []

text_by : (o : Origin) (i : Item) (c : ℕ) (s : Text) (b : ℕ) (bs : Text) (p : Bool) → all_printable (b ∷ bs) ≡ p → fits_token o i (Coded c) ≡ true → giving (TextRow i) ≡ TextRow i
    → Ends (Fits o 32 32 (TextRow i)) s (preceded (Put (Coded c) Done) (and_then (if p then one (Plain leaf.Text (b ∷ bs)) [] else Err (At 14 (length (b ∷ bs)))) nothing))
text_by o i c s b bs false h t g = tt
text_by o i c s b bs true h t g =
    let P : List Item → Type 0 = λ is. FitsPut o is (Coded c) (λ (rest : List Item). Fits o 32 32 rest (Put (Plain leaf.Text (b ∷ bs)) Done)) in (
      subst P (sym g) (t, (both (nat_lt 0 (suc (length bs))) (all_printable (b ∷ bs)) (some_text (length bs)) h, refl)),
      (record { remarks = ((λ h. refl), ((λ h. refl), tt)); ended = inr refl }, (let least : 0 ≤ length s = omega arith in least)),
    )

text_ends : (o : Origin) (i : Item) (c : ℕ) (s x : Text) → fits_token o i (Coded c) ≡ true → giving (TextRow i) ≡ TextRow i
    → Ends (Fits o 32 32 (TextRow i)) s (preceded (Put (Coded c) Done) (and_then (text_to_end 14 x) nothing))
text_ends o i c s [] t g =
    let P : List Item → Type 0 = λ is. FitsPut o is (Coded c) (λ (rest : List Item). Fits o 32 32 rest Done) in
    (subst P (sym g) (t, refl), (record { remarks = ((λ h. refl), tt); ended = inr refl }, (let least : 0 ≤ length s = omega arith in least)))
text_ends o i c s (b ∷ bs) t g = text_by o i c s b bs (all_printable (b ∷ bs)) refl t g

remark_by : (o : Origin) (i : Item) (c code : ℕ) (s : Text) (b : Bool) → fits_token o i (Coded c) ≡ true → giving (TextRow i) ≡ TextRow i
    → Ends (Fits o 32 32 (TextRow i)) s (and_then (if b then one (Coded c) (ahead o (skipped o s)).1 else Err (refused o code (skipped o s))) (λ x. and_then (text_to_end 14 x) nothing))
remark_by o i c code s true t g = text_ends o i c s (ahead o (skipped o s)).1 t g
remark_by o i c code s false t g = tt

remark_is : row_items row.REMARK ≡ Word word.REM ∷ Typed leaf.Text 14 ∷ []
unfolding row_items
remark_is = refl

image_is : row_items row.IMAGE_LINE ≡ Sign 37 14 ∷ Typed leaf.Text 14 ∷ []
unfolding row_items
image_is = refl

remark_row : (o : Origin) (stf : Position → Parser Text) (l : ℕ) (s : Text) → Ends (Fits o 32 32 (row_items row.REMARK)) s (level (reader o) stf (deep (reader o) stf 32) (suc l) row.REMARK s)
unfolding items item symbol read_leaf
remark_row o stf l s =
    ends_row o stf l row.REMARK (Word word.REM ∷ Typed leaf.Text 14 ∷ []) s remark_is (remark_by o (Word word.REM) word.REM 22 s ((ahead o (skipped o s)).0 == word.REM) refl refl)

image_row : (o : Origin) (stf : Position → Parser Text) (l : ℕ) (s : Text) → Ends (Fits o 32 32 (row_items row.IMAGE_LINE)) s (level (reader o) stf (deep (reader o) stf 32) (suc l) row.IMAGE_LINE s)
unfolding items item symbol read_leaf
image_row o stf l s =
    ends_row o stf l row.IMAGE_LINE (Sign 37 14 ∷ Typed leaf.Text 14 ∷ []) s image_is (remark_by o (Sign 37 14) 37 14 s ((ahead o (skipped o s)).0 == 37) refl refl)

-- the row of a statement
abbrev is_text_row : ℕ → Bool
is_text_row n = n == row.REMARK || (n == row.IMAGE_LINE || (n == row.IF || (n == row.ELSE || n == row.ERROR)))

is_statement_row : ℕ → Bool
is_statement_row n = calm_row n || is_text_row n

forms_rows : every (λ f. is_statement_row f.row) forms ≡ true
unfolding is_statement_row calm_row
forms_rows = refl

assignment_row : is_statement_row row.ASSIGNMENT ≡ true
unfolding is_statement_row calm_row
assignment_row = refl

abbrev RowFact : List Form → Origin → Position → Result ℕ Stop → Type 0
RowFact fs o p (Ok n) = (is_statement fs o p n ≡ true) × (is_statement_row n ≡ true)
RowFact fs o p (Err e) = Unit {0}

fact_if : (fs : List Form) (o : Origin) (p : Position) (b : Bool) (r q : Result ℕ Stop) → RowFact fs o p r → RowFact fs o p q → RowFact fs o p (if b then r else q)
fact_if fs o p true r q h k = h
fact_if fs o p false r q h k = k

fact_later : (f : Form) (fs : List Form) (o : Origin) (p : Position) (r : Result ℕ Stop) → RowFact fs o p r → RowFact (f ∷ fs) o p r
fact_later f fs o p (Ok n) h = (or_other (f.row == n && is_allowed o p f.rule) (is_statement fs o p n) h.0, h.1)
fact_later f fs o p (Err e) h = tt

none_barred : (a b c : Bool) → a ≡ false → b ≡ false → c ≡ false → not (a || (b || c)) ≡ true
none_barred a b c ha hb hc = rw ha (rw hb (rw hc refl))

allowed_by : (f : Form) (fs : List Form) (o : Origin) (p : Position) (t : Text) (a b c : Bool) → barred_following p f.rule ≡ a → barred_line o f.rule ≡ b → barred_position p f.rule ≡ c
    → is_statement_row f.row ≡ true
    → RowFact (f ∷ fs) o p (if a then Err (At 14 (length t)) else (if b then Err (At 26 (length t)) else (if c then Err (At 28 (length t)) else Ok f.row)))
allowed_by f fs o p t true b c ha hb hc h = tt
allowed_by f fs o p t false true c ha hb hc h = tt
allowed_by f fs o p t false false true ha hb hc h = tt
allowed_by f fs o p t false false false ha hb hc h = (
  or_one (f.row == f.row && is_allowed o p f.rule) (is_statement fs o p f.row)
      (both (f.row == f.row) (is_allowed o p f.rule) (same_code f.row) (none_barred (barred_following p f.rule) (barred_line o f.rule) (barred_position p f.rule) ha hb hc)),
  h,
)

assignment_fact : (o : Origin) (p : Position) → RowFact [] o p (Ok row.ASSIGNMENT)
assignment_fact o p = (refl, assignment_row)

row_fact : (fs : List Form) (o : Origin) (p : Position) (t : Text) → every (λ f. is_statement_row f.row) fs ≡ true → RowFact fs o p (row_at fs o p t)
row_fact [] o p t h = fact_if [] o p (variable_begins o t) (Ok row.ASSIGNMENT) (Err (refused o 14 t)) (assignment_fact o p) tt
row_fact (f ∷ fs) o p t h =
    fact_if (f ∷ fs) o p (starts o f.start t) (allowed o p f t) (row_at fs o p t)
    (allowed_by f fs o p t (barred_following p f.rule) (barred_line o f.rule) (barred_position p f.rule) refl refl refl (and_left (is_statement_row f.row) (every (λ f. is_statement_row f.row) fs) h))
    (fact_later f fs o p (row_at fs o p t) (row_fact fs o p t (and_right (is_statement_row f.row) (every (λ f. is_statement_row f.row) fs) h)))

always_assignment : (fs : List Form) (o : Origin) (p : Position) → is_statement fs o p row.ASSIGNMENT ≡ true
always_assignment [] o p = refl
always_assignment (f ∷ fs) o p = or_other (f.row == row.ASSIGNMENT && is_allowed o p f.rule) (is_statement fs o p row.ASSIGNMENT) (always_assignment fs o p)

-- and where it is read
abbrev PlaceFact : Origin → Position → Text → Result (ℕ × Text) Stop → Type 0
PlaceFact o p s (Ok r) = ((is_statement forms o p r.0 ≡ true) × (is_statement_row r.0 ≡ true)) × (length r.1 ≤ length s)
PlaceFact o p s (Err e) = Unit {0}

place_if : (o : Origin) (p : Position) (s : Text) (b : Bool) (r q : Result (ℕ × Text) Stop) → PlaceFact o p s r → PlaceFact o p s q → PlaceFact o p s (if b then r else q)
place_if o p s true r q h k = h
place_if o p s false r q h k = k

place_from : (o : Origin) (p : Position) (s t : Text) (r : Result ℕ Stop) → length t ≤ length s → RowFact forms o p r → PlaceFact o p s (from t r)
place_from o p s t (Ok n) le h = (h, le)
place_from o p s t (Err e) le h = tt

place_fact : (o : Origin) (p : Position) (s : Text) → PlaceFact o p s (statement_row o p s)
unfolding statement_row
place_fact o p s =
    place_if o p s (begins_let o (skipped o s)) (Ok (row.ASSIGNMENT, drop 3 (skipped o s))) (from (skipped o s) (row_at forms o p (skipped o s)))
    ((always_assignment forms o p, assignment_row), le_both (length (drop 3 (skipped o s))) (length (skipped o s)) (length s) (drop_short 3 (skipped o s)) (skipped_short o s))
    (place_from o p s (skipped o s) (row_at forms o p (skipped o s)) (skipped_short o s) (row_fact forms o p (skipped o s) forms_rows))

-- a statement's row
row_by : (o : Origin) (stf : Position → Parser Text) (f n : ℕ) → Below o stf f → (s : Text) → length s ≤ f → (a b c d e : Bool) → (n == row.REMARK) ≡ a → (n == row.IMAGE_LINE) ≡ b
    → (n == row.IF) ≡ c → (n == row.ELSE) ≡ d → (n == row.ERROR) ≡ e → (a || (b || (c || (d || e)))) ≡ true
    → Ends (Fits o 32 32 (row_items n)) s (level (reader o) stf (deep (reader o) stf 32) 40 n s)
row_by o stf f n st s le true b c d e ha hb hc hd he h =
    let P : ℕ → Type 0 = λ m. Ends (Fits o 32 32 (row_items m)) s (level (reader o) stf (deep (reader o) stf 32) 40 m s) in subst P (sym (equal n row.REMARK ha)) (remark_row o stf 39 s)
row_by o stf f n st s le false true c d e ha hb hc hd he h =
    let P : ℕ → Type 0 = λ m. Ends (Fits o 32 32 (row_items m)) s (level (reader o) stf (deep (reader o) stf 32) 40 m s) in subst P (sym (equal n row.IMAGE_LINE hb)) (image_row o stf 39 s)
row_by o stf f n st s le false false true d e ha hb hc hd he h =
    let P : ℕ → Type 0 = λ m. Ends (Fits o 32 32 (row_items m)) s (level (reader o) stf (deep (reader o) stf 32) 40 m s) in subst P (sym (equal n row.IF hc)) (if_row o stf f 38 st s le)
row_by o stf f n st s le false false false true e ha hb hc hd he h =
    let P : ℕ → Type 0 = λ m. Ends (Fits o 32 32 (row_items m)) s (level (reader o) stf (deep (reader o) stf 32) 40 m s) in subst P (sym (equal n row.ELSE hd)) (else_row o stf f 38 st s le)
row_by o stf f n st s le false false false false true ha hb hc hd he h =
    let P : ℕ → Type 0 = λ m. Ends (Fits o 32 32 (row_items m)) s (level (reader o) stf (deep (reader o) stf 32) 40 m s) in subst P (sym (equal n row.ERROR he)) (error_row o stf f 38 st s le)
row_by o stf f n st s le false false false false false ha hb hc hd he h = cc

statement_part : (o : Origin) (stf : Position → Parser Text) (f n : ℕ) → Below o stf f → (s : Text) → length s ≤ f → (b : Bool) → calm_row n ≡ b → (b || is_text_row n) ≡ true
    → Ends (Fits o 32 32 (row_items n)) s (level (reader o) stf (deep (reader o) stf 32) 40 n s)
statement_part o stf f n st s le true is h =
    good_ends (Fits o 32 32 (row_items n)) s (level (reader o) stf (deep (reader o) stf 32) 40 n s) (calm_part o stf 40 n is s)
statement_part o stf f n st s le false is h =
    row_by o stf f n st s le (n == row.REMARK) (n == row.IMAGE_LINE) (n == row.IF) (n == row.ELSE) (n == row.ERROR) refl refl refl refl refl h

row_known : (n : ℕ) → is_statement_row n ≡ true → (calm_row n || is_text_row n) ≡ true
unfolding is_statement_row
row_known n h = h

-- a statement
ends_wider : (P : Trees → Type 0) (s u : Text) (o : Outcome) → length u ≤ length s → Ends P u o → Ends P s o
ends_wider P s u (Err e) le g = tt
ends_wider P s u (Ok p) le g = (g.0, (g.1.0, le_both (length p.1) (length u) (length s) g.1.1 le))

statement_chosen : (o : Origin) (stf : Position → Parser Text) (f : ℕ) (p : Position) (s : Text) (r : Result (ℕ × Text) Stop) → Below o stf f → length s ≤ f → PlaceFact o p s r
    → Ends (StatementTree o p) s (chosen r (level (reader o) stf (deep (reader o) stf 32) 40))
statement_chosen o stf f p s (Err e) st le fact = tt
statement_chosen o stf f p s (Ok r) st le fact =
    ends_under (Fits o 32 32 (row_items r.0)) (StatementTree o p) r.0 s (level (reader o) stf (deep (reader o) stf 32) 40 r.0 r.1) (λ t g. (fact.0.0, g))
    (ends_wider (Fits o 32 32 (row_items r.0)) s r.1 (level (reader o) stf (deep (reader o) stf 32) 40 r.0 r.1) fact.1
    (statement_part o stf f r.0 st r.1 (le_both (length r.1) (length s) f fact.1 le) (calm_row r.0) refl (row_known r.0 fact.0.1)))

less_suc : (n f : ℕ) → n < suc f → n ≤ f
less_suc n f h = omega arith

statements_below : (o : Origin) (f : ℕ) → Below o (statement (reader o) f) f
unfolding statement_within
statements_below o zero p s less = absurd (omega arith)
statements_below o (suc f) p s less =
    statement_chosen o (statement (reader o) f) f p s (statement_row o p s) (statements_below o f) (less_suc (length s) f less) (place_fact o p s)

-- further statements
pub further_is : row_items row.FURTHER_STATEMENT ≡ Sign 58 25 ∷ Statement position.Further ∷ []
unfolding row_items
further_is = refl

further_row : (o : Origin) (stf : Position → Parser Text) (f l : ℕ) → Below o stf f → (s : Text) → length s ≤ f
    → Ends (Fits o 32 32 (row_items row.FURTHER_STATEMENT)) s (level (reader o) stf (deep (reader o) stf 32) (suc l) row.FURTHER_STATEMENT s)
further_row o stf f l st s le =
    ends_row o stf l row.FURTHER_STATEMENT (Sign 58 25 ∷ Statement position.Further ∷ []) s further_is
    (sign_step o stf l 58 25 (Statement position.Further ∷ []) s refl refl (λ u less. statement_last o stf f l st position.Further u (lt_le (length u) (length s) f less le)))

none_skipped : (o : Origin) → skipped o [] ≡ []
none_skipped Program = refl
none_skipped Immediate = refl
none_skipped Atoms = refl

asks_none : (o : Origin) (u : Text) → u ≡ [] → starts o (start.Code 58) u ≡ true → ⊥
unfolding starts
asks_none o u e h =
    let none : (0 == 58) ≡ true =
    ap (λ (p : ℕ × Text). p.0 == 58) (sym (nothing_left o)) ∙ ap (λ (t : Text). (ahead o t).0 == 58) (sym (none_skipped o)) ∙ ap (λ (t : Text). (ahead o (skipped o t)).0 == 58) (sym e) ∙ h in cc

abbrev Further : Origin → List Item → Trees → Type 0
Further o is a = Leads o 32 (Many (start.Code 58) row.FURTHER_STATEMENT) is a

absent_idles : (o : Origin) (is : List Item) (u : Text) → Idles (Further o is) u (absent u)
absent_idles o is u = ((λ b fit. (refl, fit)), (calm_ended [] u refl, (ends_le (length u), λ e. (refl, e))))

idles_of : (P : Trees → Type 0) (s : Text) (o : Outcome) → (s ≡ [] → ⊥) → Ends P s o → Idles P s o
idles_of P s (Err e) never g = tt
idles_of P s (Ok p) never g = (g.0, (g.1.0, (g.1.1, λ e. absurd (never e))))

many_by : (o : Origin) (is : List Item) (u : Text) (b : Bool) (q : Outcome) → (b ≡ true → Idles (Further o is) u q) → Idles (Further o is) u (if b then q else absent u)
many_by o is u true q h = h refl
many_by o is u false q h = absent_idles o is u

furthers : (o : Origin) (stf : Position → Parser Text) (f l : ℕ) → Below o stf f → (is : List Item) (n : ℕ) (u : Text) → length u ≤ f
    → Idles (Further o is) u (many (reader o) (start.Code 58) (level (reader o) stf (deep (reader o) stf 32) (suc l) row.FURTHER_STATEMENT) n u)
unfolding many
furthers o stf f l st is zero u le = many_by o is u (starts o (start.Code 58) u) (Err (At 14 0)) (λ h. tt)
furthers o stf f l st is (suc n) u le =
    let p : Parser Text = level (reader o) stf (deep (reader o) stf 32) (suc l) row.FURTHER_STATEMENT in
    many_by o is u (starts o (start.Code 58) u) (and_then (under 1 (p u)) (many (reader o) (start.Code 58) p n)) (λ h.
    idles_of (Further o is) u (and_then (under 1 (p u)) (many (reader o) (start.Code 58) p n)) (λ e. asks_none o u e h)
    (idle_then (λ a. (t : Trees) × (Fits o 32 32 (row_items row.FURTHER_STATEMENT) t × (a ≡ In 1 t Done))) (Further o is) (Further o is) u (under 1 (p u)) (many (reader o) (start.Code 58) p n)
    (λ a b x y. let P : Trees → Type 0 = λ c. Further o is (also c b) in subst P (sym x.1.1) (λ c fit. (x.1.0, y c fit)))
    (ends_under (Fits o 32 32 (row_items row.FURTHER_STATEMENT)) (λ a. (t : Trees) × (Fits o 32 32 (row_items row.FURTHER_STATEMENT) t × (a ≡ In 1 t Done))) 1 u (p u) (λ t g. (t, (g, refl))) (further_row o stf f l st u le))
    (λ v less. furthers o stf f l st is n v (le_both (length v) (length u) f less le))))

-- the line's end
end_by : (o : Origin) (v t : Text) → Idles (Fits o 32 32 (End ∷ [])) v (and_then (end_at o t) nothing)
end_by o v [] = (refl, (calm_ended [] [] refl, ((let least : 0 ≤ length v = omega arith in least), λ e. (refl, refl))))
end_by o v (b ∷ t) = tt

end_idles : (o : Origin) (stf : Position → Parser Text) (l : ℕ) (v : Text) → Idles (Fits o 32 32 (End ∷ [])) v (row_read o stf l (End ∷ []) v)
unfolding items item end_of_line
end_idles o stf l v = end_by o v (skipped o v)

-- a line
pub line_is : row_items row.LINE ≡ Statement position.First ∷ Many (start.Code 58) row.FURTHER_STATEMENT ∷ End ∷ []
unfolding row_items
line_is = refl

line_rest : (o : Origin) (stf : Position → Parser Text) (f l : ℕ) → Below o stf f → (u : Text) → length u ≤ f
    → Idles (Fits o 32 32 (Many (start.Code 58) row.FURTHER_STATEMENT ∷ End ∷ [])) u (row_read o stf (suc l) (Many (start.Code 58) row.FURTHER_STATEMENT ∷ End ∷ []) u)
unfolding items item
line_rest o stf f l st u le =
    idles_then (Further o (End ∷ [])) (Fits o 32 32 (End ∷ [])) (Fits o 32 32 (Many (start.Code 58) row.FURTHER_STATEMENT ∷ End ∷ [])) u
    (many (reader o) (start.Code 58) (level (reader o) stf (deep (reader o) stf 32) (suc l) row.FURTHER_STATEMENT) (length u) u) (row_read o stf (suc l) (End ∷ []))
    (λ a b x y. x b y) (furthers o stf f l st (End ∷ []) (length u) u le) (λ v less. end_idles o stf (suc l) v)

fewer : (a b c : ℕ) → a ≤ b → b < c → a ≤ c
fewer a b c h k = omega arith

line_items : (o : Origin) (stf : Position → Parser Text) (f l : ℕ) → Below o stf f → (s : Text) → length s < f
    → Ends (Fits o 32 32 (Statement position.First ∷ Many (start.Code 58) row.FURTHER_STATEMENT ∷ End ∷ [])) s
    (row_read o stf (suc l) (Statement position.First ∷ Many (start.Code 58) row.FURTHER_STATEMENT ∷ End ∷ []) s)
unfolding items item
line_items o stf f l st s less =
    idle_then (StatementTree o position.First) (Fits o 32 32 (Many (start.Code 58) row.FURTHER_STATEMENT ∷ End ∷ []))
    (Fits o 32 32 (Statement position.First ∷ Many (start.Code 58) row.FURTHER_STATEMENT ∷ End ∷ [])) s (stf position.First s)
    (row_read o stf (suc l) (Many (start.Code 58) row.FURTHER_STATEMENT ∷ End ∷ []))
    (λ a b x y. statement_leads o position.First (Many (start.Code 58) row.FURTHER_STATEMENT ∷ End ∷ []) a x b y) (st position.First s less)
    (λ u le. line_rest o stf f l st u (fewer (length u) (length s) f le less))

line_ends : (o : Origin) (s : Text) → Ends (Fits o 32 32 (row_items row.LINE)) s (parse_line o s)
line_ends o s =
    ends_row o (statement (reader o) (length s + 1)) 39 row.LINE (Statement position.First ∷ Many (start.Code 58) row.FURTHER_STATEMENT ∷ End ∷ []) s line_is
    (line_items o (statement (reader o) (length s + 1)) (length s + 1) 38 (statements_below o (length s + 1)) s (let less : length s < length s + 1 = omega arith in less))

fit_of : (o : Origin) (s : Text) (u : Outcome) (t : Trees) (rest : Text) → u ≡ Ok (t, rest) → Ends (Fits o 32 32 (row_items row.LINE)) s u → LineTree o t
fit_of o s (Err e) t rest is g = cc
fit_of o s (Ok p) t rest is g =
    let pairs : ◌≡◌ {A = Trees × Text} p (t, rest) = cc in
    let same : p.0 ≡ t = ap (λ (x : Trees × Text). x.0) pairs in
    record { fits = subst (Fits o 32 32 (row_items row.LINE)) same g.0; remarks = subst (λ a. RemarksEnd (tokens a)) same g.1.0.remarks }

-- what is read of a line is a tree that the table allows
pub reads_fit : (o : Origin) (s : Text) (t : Trees) (rest : Text) → parse_line o s ≡ Ok (t, rest) → LineTree o t
reads_fit o s t rest is = fit_of o s (parse_line o s) t rest is (line_ends o s)
