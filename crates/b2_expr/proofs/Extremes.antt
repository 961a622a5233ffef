-- The numbers of MAX and MIN after the first, by their rows.
use Rattle.std.proofs.Common.{◌≡◌, ◌<◌, ◌≤◌, ℕ, zero, suc, length, arith, sym, Bool, true, false, is_err, ◌==◌, ◌&&◌, if◌then◌else◌, List, [], ◌∷◌, drop, refl, ap, ◌∙◌, subst, Ok, Err}
use Rattle.std.proofs.lemmas.Bool.Decides.{nat_tests}
use Rattle.b2_base.specs.Byte as byte
use Rattle.b2_base.specs.Lexical.{first}
use Rattle.b2_base.specs.declared.codes.TheConstants.{S13_SEPARATOR}
use Rattle.b2_dec.specs.Number.{Number}
use Rattle.b2_atom.specs.Words.{Text}
use Rattle.b2_atom.specs.Tokens.Token.{Coded}
use Rattle.b2_atom.specs.Tree.{Trees}
use Rattle.b2_atom.specs.Tree.Trees.{Done, Put, In}
use Rattle.b2_atom.specs.Grammar.{row_items, starts}
use Rattle.b2_atom.specs.declared.words.Origin.TheVariants.{Atoms}
use Rattle.b2_atom.specs.declared.rows.TheConstants as row
use Rattle.b2_atom.specs.declared.forms.Start.TheVariants as start
use Rattle.b2_atom.specs.declared.forms.Item.{Item}
use Rattle.b2_atom.specs.declared.forms.Item.TheVariants.{Sign, Part, Maybe}
use Rattle.b2_rows.specs.Rows.{is_phrase, tree_at, after_phrase}
use Rattle.b2_rows.specs.Optional.{maybe_phrase, maybe_tree, after_maybe}
use Rattle.b2_rows.proofs.Levels.{part_no_longer}
use Rattle.b2_rows.proofs.Optional.{maybe_stands, begun_part, begun_tree, begun_rest, left_out_tree, left_out_rest}
use Rattle.b2_expr.specs.Answers.{Answer, ◌>>=◌}
use Rattle.b2_expr.specs.Functions.{extreme}
use Rattle.b2_expr.specs.Further.{are_further, further_tree, after_further}
use Rattle.b2_expr.specs.Scope.{Context}
use Rattle.b2_expr.specs.Value.{value, extremes}
use Rattle.b2_expr.specs.declared.operators.Level.TheVariants as level
use Rattle.b2_expr.proofs.Names.{second_shorter}
use Rattle.b2_rows.proofs.RowsRead.{stands_of}

-- the row at which k more numbers may begin
abbrev further_row : ℕ → ℕ
further_row zero = 0
further_row (suc zero) = row.COMMA_NUMBER
further_row (suc (suc zero)) = row.NUMBERS_7
further_row (suc (suc (suc zero))) = row.NUMBERS_6
further_row (suc (suc (suc (suc zero)))) = row.NUMBERS_5
further_row (suc (suc (suc (suc (suc zero))))) = row.NUMBERS_4
further_row (suc (suc (suc (suc (suc (suc k)))))) = row.NUMBERS_3

abbrev longer : ℕ → List Item
longer n = Sign byte.comma S13_SEPARATOR ∷ Part row.SUM ∷ Maybe (start.Code byte.comma) n ∷ []

-- the rows down to the last
abbrev AreRows : ℕ → Type 0
AreRows zero = Unit {0}
AreRows (suc zero) = row_items row.COMMA_NUMBER ≡ Sign byte.comma S13_SEPARATOR ∷ Part row.SUM ∷ []
AreRows (suc (suc k)) = (row_items (further_row (suc (suc k))) ≡ longer (further_row (suc k))) × AreRows (suc k)

six_rows : AreRows 6
unfolding row_items
six_rows = (refl, (refl, (refl, (refl, (refl, refl)))))

-- a row of one number and of those that follow it
record Stood (n : ℕ) (k : ℕ) (t : Text) : Type 0 where
  part : is_phrase row.SUM (drop 1 t) ≡ true
  further : are_further k (after_phrase row.SUM (drop 1 t)) ≡ true
  gives : (e : Context) (c : ℕ) (x : Answer) → extremes e c x (tree_at n t) ≡ extremes e c x (Put (Coded byte.comma) (In 2 (tree_at row.SUM (drop 1 t)) (further_tree k (after_phrase row.SUM (drop 1 t)))))
  rest : after_phrase n t ≡ after_further k (after_phrase row.SUM (drop 1 t))

-- such a row, where it may be left out
record Maybes (n : ℕ) (k : ℕ) (t : Text) : Type 0 where
  further : are_further k t ≡ true
  gives : (e : Context) (c : ℕ) (x : Answer) → extremes e c x (maybe_tree (start.Code byte.comma) n t) ≡ extremes e c x (further_tree k t)
  rest : after_maybe (start.Code byte.comma) n t ≡ after_further k t

begins : (t : Text) (b : Bool) → (first t == byte.comma) ≡ b → starts Atoms (start.Code byte.comma) t ≡ b
unfolding starts
begins t b is = is

both : (a b : Bool) → a ≡ true → b ≡ true → (a && b) ≡ true
both a b h k = rw h k

one_more : (e : Context) (c : ℕ) (x : Answer) (a : Trees) → extremes e c x (In 1 a Done) ≡ extremes e c x a
unfolding extremes
one_more e c x a = refl

none_more : (e : Context) (c : ℕ) (x : Answer) → extremes e c x (In 0 Done Done) ≡ extremes e c x Done
unfolding extremes
none_more e c x = refl

maybe_by : (n k : ℕ) (t : Text) (b : Bool) → (first t == byte.comma) ≡ b → maybe_phrase (start.Code byte.comma) n t ≡ true → (is_phrase n t ≡ true → Stood n k t) → Maybes n (suc k) t
unfolding are_further further_tree after_further
maybe_by n k t true is ok stood =
    let s = stood (begun_part (start.Code byte.comma) n t ok (begins t true is)) in
    record {
      further = ap (λ (b : Bool). if b then is_phrase row.SUM (drop 1 t) && are_further k (after_phrase row.SUM (drop 1 t)) else true) is ∙ both _ _ (Stood.part s) (Stood.further s);
      gives = λ e c x. ap (extremes e c x) (begun_tree (start.Code byte.comma) n t (begins t true is)) ∙ one_more e c x (tree_at n t) ∙ Stood.gives s e c x
          ∙ sym (ap (λ (b : Bool). extremes e c x (if b then Put (Coded byte.comma) (In 2 (tree_at row.SUM (drop 1 t)) (further_tree k (after_phrase row.SUM (drop 1 t)))) else Done)) is);
      rest = begun_rest (start.Code byte.comma) n t (begins t true is) ∙ Stood.rest s
          ∙ sym (ap (λ (b : Bool). if b then after_further k (after_phrase row.SUM (drop 1 t)) else t) is);
    }
maybe_by n k t false is ok stood = record {
  further = ap (λ (b : Bool). if b then is_phrase row.SUM (drop 1 t) && are_further k (after_phrase row.SUM (drop 1 t)) else true) is;
  gives = λ e c x. ap (extremes e c x) (left_out_tree (start.Code byte.comma) n t (begins t false is)) ∙ none_more e c x
      ∙ sym (ap (λ (b : Bool). extremes e c x (if b then Put (Coded byte.comma) (In 2 (tree_at row.SUM (drop 1 t)) (further_tree k (after_phrase row.SUM (drop 1 t)))) else Done)) is);
  rest = left_out_rest (start.Code byte.comma) n t (begins t false is)
      ∙ sym (ap (λ (b : Bool). if b then after_further k (after_phrase row.SUM (drop 1 t)) else t) is);
}

tail_gives : (e : Context) (c : ℕ) (x : Answer) (a u v : Trees) → ((y : Answer) → extremes e c y u ≡ extremes e c y v) → extremes e c x (Put (Coded byte.comma) (In 2 a u)) ≡ extremes e c x (Put (Coded byte.comma) (In 2 a v))
unfolding extremes
tail_gives e c x a u v same = same _

maybe_is : (n : ℕ) (t : Text) → (if starts Atoms (start.Code byte.comma) t then In 1 (tree_at n t) Done else In 0 Done Done) ≡ maybe_tree (start.Code byte.comma) n t
unfolding maybe_tree
maybe_is n t = refl

after_is : (n : ℕ) (t : Text) → (if starts Atoms (start.Code byte.comma) t then after_phrase n t else t) ≡ after_maybe (start.Code byte.comma) n t
unfolding after_maybe
after_is n t = refl

stood : (k : ℕ) (t : Text) → AreRows (suc k) → is_phrase (further_row (suc k)) t ≡ true → Stood (further_row (suc k)) k t
unfolding are_further further_tree after_further
stood zero t same ok =
    let r = stands_of row.COMMA_NUMBER (Sign byte.comma S13_SEPARATOR ∷ Part row.SUM ∷ []) t same ok in
    record { part = r.0.1.0; further = refl; gives = λ e c x. ap (extremes e c x) r.1; rest = r.2 }
stood (suc k) t same ok =
    let n = further_row (suc k) in
    let u = after_phrase row.SUM (drop 1 t) in
    let r = stands_of (further_row (suc (suc k))) (longer n) t same.0 ok in
    let m = maybe_by n k u (first u == byte.comma) refl (maybe_stands (start.Code byte.comma) n u r.0.1.1) (stood k u same.1) in
    record {
      part = r.0.1.0;
      further = Maybes.further m;
      gives = λ e c x. ap (extremes e c x) (r.1 ∙ ap (λ (a : Trees). Put (Coded byte.comma) (In 2 (tree_at row.SUM (drop 1 t)) a)) (maybe_is n u))
          ∙ tail_gives e c x (tree_at row.SUM (drop 1 t)) (maybe_tree (start.Code byte.comma) n u) (further_tree (suc k) u) (λ y. Maybes.gives m e c y);
      rest = r.2 ∙ after_is n u ∙ Maybes.rest m;
    }

-- the numbers of MAX and MIN: the first, a second, and those that follow
abbrev numbers_items : List Item
numbers_items = Part row.SUM ∷ Sign byte.comma S13_SEPARATOR ∷ Part row.SUM ∷ Maybe (start.Code byte.comma) row.NUMBERS_3 ∷ []

numbers_row : row_items row.NUMBERS_2 ≡ numbers_items
unfolding row_items
numbers_row = refl

pub numbers_front : (t : Text) → is_phrase row.NUMBERS_2 t ≡ true → is_phrase row.SUM t ≡ true
numbers_front t ok = (stands_of row.NUMBERS_2 numbers_items t numbers_row ok).0.0

abbrev second_at : Text → Text
second_at t = after_phrase row.SUM t

abbrev third_at : Text → Text
third_at t = after_phrase row.SUM (drop 1 (second_at t))

others : (t : Text) → is_phrase row.NUMBERS_2 t ≡ true → Maybes row.NUMBERS_3 6 (third_at t)
others t ok =
    maybe_by row.NUMBERS_3 5 (third_at t) (first (third_at t) == byte.comma) refl
    (maybe_stands (start.Code byte.comma) row.NUMBERS_3 (third_at t) (stands_of row.NUMBERS_2 numbers_items t numbers_row ok).0.1.1.1) (stood 5 (third_at t) six_rows)

is_comma : (t : Text) (c : ℕ) → first t ≡ c → (first t == c) ≡ true
is_comma t c h = grind (arith, nat_tests)

comma_at : (t : Text) → is_phrase row.NUMBERS_2 t ≡ true → (first (second_at t) == byte.comma) ≡ true
comma_at t ok = is_comma (second_at t) byte.comma (stands_of row.NUMBERS_2 numbers_items t numbers_row ok).0.1.0

pub numbers_further : (t : Text) → is_phrase row.NUMBERS_2 t ≡ true → are_further 7 (after_phrase row.SUM t) ≡ true
unfolding are_further further_tree after_further
numbers_further t ok =
    ap (λ (b : Bool). if b then is_phrase row.SUM (drop 1 (second_at t)) && are_further 6 (third_at t) else true) (comma_at t ok)
    ∙ both _ _ (stands_of row.NUMBERS_2 numbers_items t numbers_row ok).0.1.1.0 (Maybes.further (others t ok))

pub numbers_tree : (t : Text) → is_phrase row.NUMBERS_2 t ≡ true
    → tree_at row.NUMBERS_2 t ≡ In 2 (tree_at row.SUM t) (Put (Coded byte.comma) (In 2 (tree_at row.SUM (drop 1 (second_at t))) (maybe_tree (start.Code byte.comma) row.NUMBERS_3 (third_at t))))
unfolding maybe_tree
numbers_tree t ok = (stands_of row.NUMBERS_2 numbers_items t numbers_row ok).1

pub numbers_gives : (e : Context) (c : ℕ) (x : Answer) (t : Text) → is_phrase row.NUMBERS_2 t ≡ true
    → extremes e c x (Put (Coded byte.comma) (In 2 (tree_at row.SUM (drop 1 (second_at t))) (maybe_tree (start.Code byte.comma) row.NUMBERS_3 (third_at t))))
    ≡ extremes e c x (further_tree 7 (after_phrase row.SUM t))
unfolding are_further further_tree after_further
numbers_gives e c x t ok =
    tail_gives e c x (tree_at row.SUM (drop 1 (second_at t))) _ _ (λ y. Maybes.gives (others t ok) e c y)
    ∙ sym (ap (λ (b : Bool). extremes e c x (if b then Put (Coded byte.comma) (In 2 (tree_at row.SUM (drop 1 (second_at t))) (further_tree 6 (third_at t))) else Done)) (comma_at t ok))

pub numbers_rest : (t : Text) → is_phrase row.NUMBERS_2 t ≡ true → after_phrase row.NUMBERS_2 t ≡ after_further 7 (after_phrase row.SUM t)
unfolding are_further further_tree after_further
numbers_rest t ok =
    (stands_of row.NUMBERS_2 numbers_items t numbers_row ok).2 ∙ after_is row.NUMBERS_3 (third_at t) ∙ Maybes.rest (others t ok)
    ∙ sym (ap (λ (b : Bool). if b then after_further 6 (third_at t) else second_at t) (comma_at t ok))

-- along the numbers: one more, or none
pub further_part : (k : ℕ) (t : Text) → are_further (suc k) t ≡ true → (first t == byte.comma) ≡ true → is_phrase row.SUM (drop 1 t) ≡ true
unfolding are_further further_tree after_further
further_part k t ok is = and_left _ _ (sym (ap (λ (b : Bool). if b then is_phrase row.SUM (drop 1 t) && are_further k (after_phrase row.SUM (drop 1 t)) else true) is) ∙ ok)
  where
    and_left : (a b : Bool) → (a && b) ≡ true → a ≡ true
    and_left true b h = refl
    and_left false b h = cc

pub further_on : (k : ℕ) (t : Text) → are_further (suc k) t ≡ true → (first t == byte.comma) ≡ true → are_further k (after_phrase row.SUM (drop 1 t)) ≡ true
unfolding are_further further_tree after_further
further_on k t ok is = and_right _ _ (sym (ap (λ (b : Bool). if b then is_phrase row.SUM (drop 1 t) && are_further k (after_phrase row.SUM (drop 1 t)) else true) is) ∙ ok)
  where
    and_right : (a b : Bool) → (a && b) ≡ true → b ≡ true
    and_right true b h = h
    and_right false b h = cc

-- a code stays what it is
by_branch : (e : Context) (c code : ℕ) (a : Trees) (b : Bool) → extremes e c (Err code) a ≡ Err code → (if b then extremes e c (Err code) a else Err code) ≡ Err code
by_branch e c code a true h = h
by_branch e c code a false h = refl

pub refused : (e : Context) (c code : ℕ) (t : Trees) → extremes e c (Err code) t ≡ Err code
unfolding extremes
refused e c code (Put comma (In n a more)) = refused e c code more
refused e c code (Put comma Done) = refl
refused e c code (Put comma (Put token more)) = refl
refused e c code Done = refl
refused e c code (In n a end) = by_branch e c code a (n == 1) (refused e c code a)

-- a further number, and none
pub code_refused : (e : Context) (c : ℕ) (r : Answer) (x : Number) (t : Trees) → is_err r ≡ true → extremes e c (r >>= (λ w. Ok (extreme c x w))) t ≡ r
code_refused e c (Ok w) x t h = cc
code_refused e c (Err code) x t h = refused e c code t

pub further_on_value : (e : Context) (c : ℕ) (x : Answer) (k : ℕ) (t : Text) → (first t == byte.comma) ≡ true
    → extremes e c x (further_tree (suc k) t) ≡ extremes e c (x >>= (λ v. value e level.Sum (tree_at row.SUM (drop 1 t)) >>= (λ w. Ok (extreme c v w)))) (further_tree k (after_phrase row.SUM (drop 1 t)))
unfolding extremes are_further further_tree after_further
further_on_value e c x k t is = ap (λ (b : Bool). extremes e c x (if b then Put (Coded byte.comma) (In 2 (tree_at row.SUM (drop 1 t)) (further_tree k (after_phrase row.SUM (drop 1 t)))) else Done)) is

pub further_on_rest : (k : ℕ) (t : Text) → (first t == byte.comma) ≡ true → after_further (suc k) t ≡ after_further k (after_phrase row.SUM (drop 1 t))
unfolding are_further further_tree after_further
further_on_rest k t is = ap (λ (b : Bool). if b then after_further k (after_phrase row.SUM (drop 1 t)) else t) is

pub off_value : (e : Context) (c : ℕ) (x : Answer) (k : ℕ) (t : Text) → (first t == byte.comma) ≡ false → extremes e c x (further_tree (suc k) t) ≡ x
unfolding extremes are_further further_tree after_further
off_value e c x k t is = ap (λ (b : Bool). extremes e c x (if b then Put (Coded byte.comma) (In 2 (tree_at row.SUM (drop 1 t)) (further_tree k (after_phrase row.SUM (drop 1 t)))) else Done)) is

pub off_rest : (k : ℕ) (t : Text) → (first t == byte.comma) ≡ false → after_further (suc k) t ≡ t
unfolding are_further further_tree after_further
off_rest k t is = ap (λ (b : Bool). if b then after_further k (after_phrase row.SUM (drop 1 t)) else t) is

-- where k numbers may still follow
none_left : (e : Context) (c : ℕ) (x : Answer) (t : Text) → extremes e c x (further_tree 0 t) ≡ x
unfolding extremes further_tree
none_left e c x t = refl

pub none_value : (e : Context) (c : ℕ) (x : Answer) (k : ℕ) (t : Text) → k ≡ 0 → extremes e c x (further_tree k t) ≡ x
none_value e c x k t is = ap (λ (n : ℕ). extremes e c x (further_tree n t)) is ∙ none_left e c x t

nowhere_left : (t : Text) → after_further 0 t ≡ t
unfolding after_further
nowhere_left t = refl

pub none_rest : (k : ℕ) (t : Text) → k ≡ 0 → after_further k t ≡ t
none_rest k t is = ap (λ (n : ℕ). after_further n t) is ∙ nowhere_left t

pub step_part : (k j : ℕ) (t u : Text) → are_further k t ≡ true → k ≡ suc j → (first t == byte.comma) ≡ true → u ≡ drop 1 t → is_phrase row.SUM u ≡ true
step_part k j t u ok is b is_u =
    subst (λ (v : Text). is_phrase row.SUM v ≡ true) (sym is_u) (further_part j t (subst (λ (n : ℕ). are_further n t ≡ true) is ok) b)

pub step_further : (k j : ℕ) (t u v : Text) → are_further k t ≡ true → k ≡ suc j → (first t == byte.comma) ≡ true → u ≡ drop 1 t → v ≡ after_phrase row.SUM u → are_further j v ≡ true
step_further k j t u v ok is b is_u is_v =
    subst (λ (w : Text). are_further j w ≡ true) (sym (is_v ∙ ap (after_phrase row.SUM) is_u)) (further_on j t (subst (λ (n : ℕ). are_further n t ≡ true) is ok) b)

pub step_value : (e : Context) (c : ℕ) (x : Number) (k j : ℕ) (t u : Text) (r : Answer) → k ≡ suc j → (first t == byte.comma) ≡ true → u ≡ drop 1 t → value e level.Sum (tree_at row.SUM u) ≡ r
    → extremes e c (Ok x) (further_tree k t) ≡ extremes e c (r >>= (λ w. Ok (extreme c x w))) (further_tree j (after_phrase row.SUM u))
step_value e c x k j t u r is b is_u gives =
    ap (λ (n : ℕ). extremes e c (Ok x) (further_tree n t)) is
    ∙ further_on_value e c (Ok x) j t b
    ∙ sym (ap (λ (v : Text). extremes e c (value e level.Sum (tree_at row.SUM v) >>= (λ w. Ok (extreme c x w))) (further_tree j (after_phrase row.SUM v))) is_u)
    ∙ ap (λ (y : Answer). extremes e c (y >>= (λ w. Ok (extreme c x w))) (further_tree j (after_phrase row.SUM u))) gives

pub step_rest : (k j : ℕ) (t u v : Text) → k ≡ suc j → (first t == byte.comma) ≡ true → u ≡ drop 1 t → v ≡ after_phrase row.SUM u → after_further j v ≡ after_further k t
step_rest k j t u v is b is_u is_v =
    ap (after_further j) (is_v ∙ ap (after_phrase row.SUM) is_u) ∙ sym (further_on_rest j t b) ∙ sym (ap (λ (n : ℕ). after_further n t) is)

pub stop_value : (e : Context) (c : ℕ) (x : Answer) (k j : ℕ) (t : Text) → k ≡ suc j → (first t == byte.comma) ≡ false → extremes e c x (further_tree k t) ≡ x
stop_value e c x k j t is b = ap (λ (n : ℕ). extremes e c x (further_tree n t)) is ∙ off_value e c x j t b

pub stop_rest : (k j : ℕ) (t : Text) → k ≡ suc j → (first t == byte.comma) ≡ false → after_further k t ≡ t
stop_rest k j t is b = ap (λ (n : ℕ). after_further n t) is ∙ off_rest j t b

pub step_shorter : (t u : Text) → (first t == byte.comma) ≡ true → u ≡ drop 1 t → length u < length t
step_shorter t u b is_u = let a : length u ≡ length (drop 1 t) = ap length is_u in let c = second_shorter t b in omega (arith, a, c)

pub part_after : (u v : Text) → v ≡ after_phrase row.SUM u → length v ≤ length u
part_after u v is_v = let a : length v ≡ length (after_phrase row.SUM u) = ap length is_v in let b = part_no_longer row.SUM u in omega (arith, a, b)
