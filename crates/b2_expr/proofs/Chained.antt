-- A chain of operators, item by item: what stands for all that was read of it, and what is still to come.
use Rattle.std.proofs.Common.{◌≡◌, ◌<◌, ◌≤◌, ℕ, length, arith, Bool, true, false, true≢false, is_err, drop, refl, sym, ap, ◌∙◌, subst, Ok, Err}
use Rattle.b2_base.specs.Lexical.{first}
use Rattle.b2_dec.specs.Number.{Number}
use Rattle.b2_atom.specs.Words.{Text}
use Rattle.b2_atom.specs.Tree.{Trees}
use Rattle.b2_rows.specs.Rows.{is_phrase, tree_at, after_phrase, is_list}
use Rattle.b2_rows.specs.Chains.{more_row, more_start}
use Rattle.b2_rows.proofs.Levels.{part_no_longer}
use Rattle.b2_expr.specs.Answers.{Answer, ◌>>=◌}
use Rattle.b2_expr.specs.Operators.{joined}
use Rattle.b2_expr.specs.Scope.{Context}
use Rattle.b2_expr.specs.Reads.{Finds, last}
use Rattle.b2_expr.specs.Value.{item_level, value, further}
use Rattle.b2_expr.specs.Levels.{chain_of, is_chain, row_of_level, list_of, after_of, tail_of, is_operator}
use Rattle.b2_expr.specs.declared.evaluated.Evaluated.{Evaluated}
use Rattle.b2_expr.specs.declared.operators.Level.{Level}
use Rattle.b2_expr.proofs.Chains.{chain_list, chain_value, chain_rest, more_item, more_list, more_value, more_rest, no_more, no_rest, refused, more_shorter}
use Rattle.b2_expr.proofs.Tails.{no_bytes, tail_by}

-- what an expression of a level comes to
abbrev pub Evaluates : Context → Level → Text → Evaluated → Type 0
Evaluates e l t f = Finds (value e l (tree_at (row_of_level l) t)) (after_phrase (row_of_level l) t) f

-- a number that stands for all that was read of a chain, and the rest of the text, which goes on with its items
pub record GoesOn (e : Context) (l : Level) (t : Text) (x : Number) (u : Text) : Type 0 where
  pub list : is_list (more_start (chain_of l)) (more_row (chain_of l)) u ≡ true
  pub value : further e l (Ok x) (list_of l u) ≡ value e l (tree_at (row_of_level l) t)
  pub rest : after_of l u ≡ after_phrase (row_of_level l) t
  pub shorter : length u ≤ length t

-- a code goes through what follows
pub bind_refused : (r : Answer) (g : Number → Answer) → is_err r ≡ true → (r >>= g) ≡ r
bind_refused (Ok x) g h = cc
bind_refused (Err code) g h = refl

further_refused : (e : Context) (l : Level) (r : Answer) (t : Trees) → is_err r ≡ true → further e l r t ≡ r
further_refused e l (Ok x) t h = cc
further_refused e l (Err code) t h = refused e l code t

pub finds_code : (answer : Answer) (rest : Text) (f : Evaluated) → answer ≡ f.number → is_err f.number ≡ true → Finds answer rest f
finds_code answer rest f is h = record { number = sym is; left = λ k. absurd (true≢false (sym h ∙ k)) }

-- a number that is found, and what is left after it
pub finds_with : (answer : Answer) (rest u : Text) (x : Number) (f : Evaluated) → f ≡ record { number = Ok x; left = length u } → answer ≡ Ok x → u ≡ rest → Finds answer rest f
finds_with answer rest u x f is_f is is_u = subst (Finds answer rest) (sym is_f) (record { number = sym is; left = λ some. ap length is_u })

pub finds_same : (answer other : Answer) (rest left : Text) (f : Evaluated) → answer ≡ other → rest ≡ left → Finds other left f → Finds answer rest f
finds_same answer other rest left f is same found = record { number = Finds.number found ∙ sym is; left = λ some. Finds.left found some ∙ ap length (sym same) }

-- what comes of a number that is found, or the code in its place
pub bound_code : (h : Number → Answer) (inner answer : Answer) (after rest : Text) (f : Evaluated) → Finds inner after f → answer ≡ (inner >>= h) → is_err f.number ≡ true → Finds answer rest f
bound_code h inner answer after rest f found is coded =
    finds_code answer rest f (is ∙ ap (λ (r : Answer). r >>= h) (sym (Finds.number found)) ∙ bind_refused f.number h coded) coded

pub bound_number : (h : Number → Answer) (inner answer : Answer) (after rest : Text) (f : Evaluated) (x : Number) (g : Evaluated) → Finds inner after f → answer ≡ (inner >>= h) → is_err f.number ≡ false → f.number ≡ Ok x
    → g.number ≡ h x → (f.left ≡ length after → g.left ≡ length rest) → Finds answer rest g
bound_number h inner answer after rest f x g found is some got makes ends =
    record {
      number = makes ∙ ap (λ (r : Answer). r >>= h) (sym got ∙ Finds.number found) ∙ sym is;
      left = λ also. ends (Finds.left found some);
    }

-- the first item
pub start_refused : (e : Context) (l : Level) (t : Text) (f : Evaluated) → is_chain l ≡ true → is_phrase (row_of_level l) t ≡ true → Evaluates e (item_level l) t f → is_err f.number ≡ true → Evaluates e l t f
start_refused e l t f c ok is h =
    finds_code _ _ f (chain_value e l t c ok ∙ ap (λ (y : Answer). further e l y (list_of l (tail_of l t))) (sym (Finds.number is)) ∙ further_refused e l f.number (list_of l (tail_of l t)) h) h

pub started : (e : Context) (l : Level) (t : Text) (f : Evaluated) (x : Number) (u : Text) → is_chain l ≡ true → is_phrase (row_of_level l) t ≡ true → Evaluates e (item_level l) t f
    → is_err f.number ≡ false → f.number ≡ Ok x → u ≡ last f.left t → GoesOn e l t x u
started e l t f x u c ok is some got is_u =
    let at : u ≡ tail_of l t = is_u ∙ tail_by (row_of_level (item_level l)) f.left t (Finds.left is some) in
    record {
      list = subst (λ (v : Text). is_list (more_start (chain_of l)) (more_row (chain_of l)) v ≡ true) (sym at) (chain_list l t c ok);
      value = ap (λ (v : Text). further e l (Ok x) (list_of l v)) at
          ∙ ap (λ (y : Answer). further e l y (list_of l (tail_of l t))) (sym got ∙ Finds.number is)
          ∙ sym (chain_value e l t c ok);
      rest = ap (after_of l) at ∙ sym (chain_rest l t c ok);
      shorter = (let a = ap length at in let b = part_no_longer (row_of_level (item_level l)) t in omega (arith, a, b));
    }

-- a single item, which no operator follows
pub alone : (e : Context) (l : Level) (t : Text) (f : Evaluated) (u : Text) → is_chain l ≡ true → is_phrase (row_of_level l) t ≡ true → Evaluates e (item_level l) t f
    → is_err f.number ≡ false → u ≡ last f.left t → is_operator l (first u) ≡ false → Evaluates e l t f
alone e l t f u c ok is some is_u none =
    let at : u ≡ tail_of l t = is_u ∙ tail_by (row_of_level (item_level l)) f.left t (Finds.left is some) in
    let ends : is_operator l (first (tail_of l t)) ≡ false = subst (λ (v : Text). is_operator l (first v) ≡ false) at none in
    record {
      number = Finds.number is
          ∙ sym (no_more e l (value e (item_level l) (tree_at (row_of_level (item_level l)) t)) (tail_of l t) c ends)
          ∙ sym (chain_value e l t c ok);
      left = λ found. Finds.left is found ∙ ap length (sym (no_rest l (tail_of l t) c ends) ∙ sym (chain_rest l t c ok));
    }

-- or after which nothing is left, with a code or without
ended_by : (e : Context) (l : Level) (t : Text) (f : Evaluated) (coded : Bool) → is_err f.number ≡ coded → is_chain l ≡ true → is_phrase (row_of_level l) t ≡ true → Evaluates e (item_level l) t f
    → f.left ≡ 0 → is_operator l 0 ≡ false → Evaluates e l t f
ended_by e l t f true is_coded c ok is zero none = start_refused e l t f c ok is is_coded
ended_by e l t f false is_coded c ok is zero none =
    alone e l t f (last f.left t) c ok is is_coded refl
    (ap (λ (n : ℕ). is_operator l (first (last n t))) zero ∙ ap (λ (u : Text). is_operator l (first u)) (no_bytes t) ∙ none)

pub ended : (e : Context) (l : Level) (t : Text) (f : Evaluated) → is_chain l ≡ true → is_phrase (row_of_level l) t ≡ true → Evaluates e (item_level l) t f
    → f.left ≡ 0 → is_operator l 0 ≡ false → Evaluates e l t f
ended e l t f c ok is zero none = ended_by e l t f (is_err f.number) refl c ok is zero none

module _ (e : Context) (l : Level) (t : Text) (x : Number) (u : Text) (on : GoesOn e l t x u) (c : is_chain l ≡ true) where
  -- where an operator stands: its item
  module _ (op : is_operator l (first u) ≡ true) (w : Text) (is_w : w ≡ drop 1 u) where
    pub on_part : is_phrase (row_of_level (item_level l)) w ≡ true
    on_part = subst (λ (v : Text). is_phrase (row_of_level (item_level l)) v ≡ true) (sym is_w) (more_item l u c (GoesOn.list on) op)

    pub on_shorter : length w < length u
    on_shorter = subst (λ (v : Text). length v < length u) (sym is_w) (more_shorter l u op)

    -- what is found of it
    module _ (f : Evaluated) (is : Evaluates e (item_level l) w f) where
      step_value : value e l (tree_at (row_of_level l) t) ≡ further e l (f.number >>= joined e.around.mode (first u) x) (list_of l (tail_of l w))
      step_value =
          sym (GoesOn.value on)
          ∙ more_value e l (Ok x) u c (GoesOn.list on) op
          ∙ ap (λ (v : Text). further e l (value e (item_level l) (tree_at (row_of_level (item_level l)) v) >>= joined e.around.mode (first u) x) (list_of l (tail_of l v))) (sym is_w)
          ∙ ap (λ (y : Answer). further e l (y >>= joined e.around.mode (first u) x) (list_of l (tail_of l w))) (sym (Finds.number is))

      pub on_refused : is_err f.number ≡ true → Evaluates e l t f
      on_refused h =
          finds_code _ _ f (step_value ∙ ap (λ (y : Answer). further e l y (list_of l (tail_of l w))) (bind_refused f.number (joined e.around.mode (first u) x) h)
          ∙ further_refused e l f.number (list_of l (tail_of l w)) h) h

      -- what the operator makes of its number
      module _ (some : is_err f.number ≡ false) (y : Number) (got : f.number ≡ Ok y) (r : Answer) (is_r : r ≡ joined e.around.mode (first u) x y) where
        joined_value : value e l (tree_at (row_of_level l) t) ≡ further e l r (list_of l (tail_of l w))
        joined_value =
            step_value ∙ ap (λ (a : Answer). further e l (a >>= joined e.around.mode (first u) x) (list_of l (tail_of l w))) got
            ∙ ap (λ (a : Answer). further e l a (list_of l (tail_of l w))) (sym is_r)

        pub on_code : (g : Evaluated) → g ≡ record { number = r; left = 0 } → is_err r ≡ true → Evaluates e l t g
        on_code g is_g h =
            subst (Evaluates e l t) (sym is_g)
            (finds_code _ _ (record { number = r; left = 0 }) (joined_value ∙ further_refused e l r (list_of l (tail_of l w)) h) h)

        module _ (z : Number) (makes : r ≡ Ok z) (v : Text) (is_v : v ≡ last f.left w) where
          at : v ≡ tail_of l w
          at = is_v ∙ tail_by (row_of_level (item_level l)) f.left w (Finds.left is some)

          pub on_smaller : length v < length u
          on_smaller = let a = ap length at in let b = part_no_longer (row_of_level (item_level l)) w in let d = on_shorter in omega (arith, a, b, d)

          pub on_step : GoesOn e l t z v
          on_step = record {
            list = subst (λ (s : Text). is_list (more_start (chain_of l)) (more_row (chain_of l)) s ≡ true) (ap (tail_of l) (sym is_w) ∙ sym at) (more_list l u c (GoesOn.list on) op);
            value = ap (λ (s : Text). further e l (Ok z) (list_of l s)) at ∙ ap (λ (a : Answer). further e l a (list_of l (tail_of l w))) (sym makes) ∙ sym joined_value;
            rest = ap (after_of l) at ∙ ap (λ (s : Text). after_of l (tail_of l s)) is_w ∙ sym (more_rest l u c (GoesOn.list on) op) ∙ GoesOn.rest on;
            shorter = (let a = on_smaller in let b = GoesOn.shorter on in omega (arith, a, b));
          }

  -- where none stands
  pub off : is_operator l (first u) ≡ false → (n : ℕ) → n ≡ length u → (g : Evaluated) → g ≡ record { number = Ok x; left = n } → Evaluates e l t g
  off none n is_n g is_g =
      subst (Evaluates e l t) (sym is_g)
      (record {
        number = sym (no_more e l (Ok x) u c none) ∙ GoesOn.value on;
        left = λ some. is_n ∙ ap length (sym (no_rest l u c none) ∙ GoesOn.rest on);
      })
