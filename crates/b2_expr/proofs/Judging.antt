-- Truths and codes in one word, and conditions comparison by comparison.
use Rattle.std.proofs.Common.{◌≡◌, ◌<◌, ◌≤◌, ℕ, ◌+◌, ◌-◌, ◌==◌, nat_le, length, Bool, true, false, true≢false, drop, refl, sym, ap, ◌∙◌, subst, Ok, Err, Result, is_err, if◌then◌else◌, arith, take}
use Rattle.std.proofs.lemmas.Bool.Decides.{nat_tests}
use Rattle.std.specs.Ordering.{int_cmp}
use Rattle.b2_base.specs.Lexical.{first}
use Rattle.b2_dec.specs.Number.{Number}
use Rattle.b2_dec.specs.Number.{value as size_of_number}
use Rattle.b2_alpha.specs.Relations.{holds}
use Rattle.b2_atom.specs.Words.{Text}
use Rattle.b2_atom.specs.declared.rows.TheConstants as row
use Rattle.b2_rows.specs.Rows.{is_phrase, tree_at, after_phrase, is_list, list_at, after_list}
use Rattle.b2_rows.specs.Values.{relation_of}
use Rattle.b2_rows.specs.Chains.{is_operator_of, more_start}
use Rattle.b2_rows.specs.declared.chains.Chain.TheVariants as chain
use Rattle.b2_expr.specs.Answers.{Answer, ◌>>=◌}
use Rattle.b2_expr.specs.Condition.{compared_numbers, compared, further_condition, truth}
use Rattle.b2_expr.specs.Operators.{joined_condition}
use Rattle.b2_expr.specs.Reads.{Finds, Judges, last, truth_word}
use Rattle.b2_expr.specs.Scope.{Context}
use Rattle.b2_expr.specs.Value.{value}
use Rattle.b2_expr.specs.declared.evaluated.Evaluated.{Evaluated}
use Rattle.b2_expr.specs.declared.evaluated.Judged.{Judged}
use Rattle.b2_expr.specs.declared.operators.Level.TheVariants as level
use Rattle.b2_expr.proofs.Comparisons.{truth_list, truth_value, truth_rest, on_comparison, on_list, on_value, on_rest, on_shorter as list_shorter, off_value, off_rest, condition_refused, numbers_is, numbers_rest}
use Rattle.b2_expr.proofs.Operands.{sign_at, sign_size, other_at}
use Rattle.b2_expr.proofs.Tails.{tail_by}

-- what a word says
code_high : (w code : ℕ) → w ≡ 2 + code → nat_le 2 w ≡ false → true ≡ false
code_high w code is h = grind (arith, nat_tests)

truth_low : (holds : Bool) (w : ℕ) → w ≡ (if holds then 1 else 0) → nat_le 2 w ≡ true → true ≡ false
truth_low true w is h = grind (arith, nat_tests)
truth_low false w is h = grind (arith, nat_tests)

pub is_refused : (answer : Result Bool ℕ) (w : ℕ) → w ≡ truth_word answer → nat_le 2 w ≡ true → answer ≡ Err (w - 2)
is_refused (Ok h) w is coded = absurd (true≢false (truth_low h w is coded))
is_refused (Err code) w is coded = let e : code ≡ w - 2 = omega (arith, is) in ap Err e

pub is_judged : (answer : Result Bool ℕ) (w : ℕ) → w ≡ truth_word answer → nat_le 2 w ≡ false → answer ≡ Ok (w == 1)
is_judged (Ok true) w is low = ap Ok (sym (ap (λ n. n == 1) is))
is_judged (Ok false) w is low = ap Ok (sym (ap (λ n. n == 1) is))
is_judged (Err code) w is low = absurd (true≢false (code_high w code is low))

-- what is judged: a code that goes on, a truth, and a code that comes
pub judges_code : (answer other : Result Bool ℕ) (rest after : Text) (f : Judged) → Judges answer rest f → nat_le 2 f.word ≡ true → (answer ≡ Err (f.word - 2) → other ≡ Err (f.word - 2)) → Judges other after f
judges_code answer other rest after f p coded goes =
    let was : answer ≡ Err (f.word - 2) = is_refused answer f.word (Judges.word p) coded in
    record {
      word = Judges.word p ∙ ap truth_word was ∙ sym (ap truth_word (goes was));
      code = Judges.code p;
      left = λ low. absurd (true≢false (sym coded ∙ low));
    }

pub judges_truth : (other : Result Bool ℕ) (after u : Text) (h : Bool) (f : Judged) → f ≡ record { word = truth_word (Ok h); left = length u } → other ≡ Ok h → u ≡ after → Judges other after f
judges_truth other after u h f is_f is is_u =
    subst (Judges other after) (sym is_f)
    (record {
      word = ap truth_word (sym is);
      code = λ coded. absurd (true≢false (truth_low h (if h then 1 else 0) refl coded));
      left = λ low. ap length is_u;
    })

pub judges_coded : (other : Result Bool ℕ) (after : Text) (code : ℕ) (f : Judged) → f ≡ record { word = truth_word (Err code); left = 0 } → 3 ≤ f.word → f.word ≤ 101 → other ≡ Err code → Judges other after f
judges_coded other after code f is_f least most is =
    record {
      word = ap (λ (j : Judged). j.word) is_f ∙ sym (ap truth_word is);
      code = λ coded. (least, most);
      left = λ low. absurd (true≢false (code_high f.word code (ap (λ (j : Judged). j.word) is_f) low));
    }

pub judges_same : (answer other : Result Bool ℕ) (rest after : Text) (f : Judged) → other ≡ answer → after ≡ rest → Judges answer rest f → Judges other after f
judges_same answer other rest after f is same p =
    record { word = Judges.word p ∙ ap truth_word (sym is); code = Judges.code p; left = λ low. Judges.left p low ∙ ap length (sym same) }

-- A truth that stands for all comparisons that were read, and the rest of the text, which goes on with others.
pub record ConditionOn (e : Context) (t : Text) (h : Bool) (u : Text) : Type 0 where
  pub list : is_list (more_start chain.Condition) row.FURTHER_COMPARISON u ≡ true
  pub value : further_condition e (Ok h) (list_at (more_start chain.Condition) row.FURTHER_COMPARISON u) ≡ truth e (tree_at row.CONDITION t)
  pub rest : after_list (more_start chain.Condition) row.FURTHER_COMPARISON u ≡ after_phrase row.CONDITION t

abbrev Compares : Context → Text → Judged → Type 0
Compares e t f = Judges (compared e (tree_at row.COMPARISON t)) (after_phrase row.COMPARISON t) f

pub condition_coded : (e : Context) (t : Text) (f : Judged) → is_phrase row.CONDITION t ≡ true → Compares e t f → nat_le 2 f.word ≡ true → Judges (truth e (tree_at row.CONDITION t)) (after_phrase row.CONDITION t) f
condition_coded e t f ok p coded =
    judges_code _ _ _ _ f p coded (λ was.
    truth_value e t ok
    ∙ ap (λ (x : Result Bool ℕ). further_condition e x (list_at (more_start chain.Condition) row.FURTHER_COMPARISON (after_phrase row.COMPARISON t))) was
    ∙ condition_refused e (f.word - 2) (list_at (more_start chain.Condition) row.FURTHER_COMPARISON (after_phrase row.COMPARISON t)))

pub condition_started : (e : Context) (t : Text) (f : Judged) (h : Bool) (u : Text) → is_phrase row.CONDITION t ≡ true → Compares e t f → nat_le 2 f.word ≡ false → h ≡ (f.word == 1) → u ≡ last f.left t
    → ConditionOn e t h u
condition_started e t f h u ok p low is_h is_u =
    let at : u ≡ after_phrase row.COMPARISON t = is_u ∙ tail_by row.COMPARISON f.left t (Judges.left p low) in
    let was : compared e (tree_at row.COMPARISON t) ≡ Ok h = is_judged _ f.word (Judges.word p) low ∙ ap Ok (sym is_h) in
    record {
      list = subst (λ (v : Text). is_list (more_start chain.Condition) row.FURTHER_COMPARISON v ≡ true) (sym at) (truth_list t ok);
      value = ap (λ (v : Text). further_condition e (Ok h) (list_at (more_start chain.Condition) row.FURTHER_COMPARISON v)) at
          ∙ ap (λ (x : Result Bool ℕ). further_condition e x (list_at (more_start chain.Condition) row.FURTHER_COMPARISON (after_phrase row.COMPARISON t))) (sym was)
          ∙ sym (truth_value e t ok);
      rest = ap (after_list (more_start chain.Condition) row.FURTHER_COMPARISON) at ∙ sym (truth_rest t ok);
    }

module _ (e : Context) (t : Text) (h : Bool) (u : Text) (on : ConditionOn e t h u) where
  -- where a word stands that joins: a comparison after it
  module _ (op : is_operator_of chain.Condition (first u) ≡ true) (w : Text) (is_w : w ≡ drop 1 u) where
    pub condition_item : is_phrase row.COMPARISON w ≡ true
    condition_item = subst (λ (v : Text). is_phrase row.COMPARISON v ≡ true) (sym is_w) (on_comparison u (ConditionOn.list on) op)

    module _ (f : Judged) (p : Compares e w f) where
      joined_value : truth e (tree_at row.CONDITION t)
          ≡ further_condition e (compared e (tree_at row.COMPARISON w) >>= (λ q. Ok (joined_condition (first u) h q))) (list_at (more_start chain.Condition) row.FURTHER_COMPARISON (after_phrase row.COMPARISON w))
      joined_value =
          sym (ConditionOn.value on)
          ∙ on_value e (Ok h) u (ConditionOn.list on) op
          ∙ ap (λ (v : Text). further_condition e (compared e (tree_at row.COMPARISON v) >>= (λ q. Ok (joined_condition (first u) h q))) (list_at (more_start chain.Condition) row.FURTHER_COMPARISON (after_phrase row.COMPARISON v))) (sym is_w)

      pub condition_stopped : nat_le 2 f.word ≡ true → Judges (truth e (tree_at row.CONDITION t)) (after_phrase row.CONDITION t) f
      condition_stopped coded =
          judges_code _ _ _ _ f p coded (λ was.
          joined_value
          ∙ ap (λ (x : Result Bool ℕ). further_condition e (x >>= (λ q. Ok (joined_condition (first u) h q))) (list_at (more_start chain.Condition) row.FURTHER_COMPARISON (after_phrase row.COMPARISON w))) was
          ∙ condition_refused e (f.word - 2) (list_at (more_start chain.Condition) row.FURTHER_COMPARISON (after_phrase row.COMPARISON w)))

      module _ (low : nat_le 2 f.word ≡ false) (made : Bool) (is_made : made ≡ joined_condition (first u) h (f.word == 1)) (v : Text) (is_v : v ≡ last f.left w) where
        at : v ≡ after_phrase row.COMPARISON w
        at = is_v ∙ tail_by row.COMPARISON f.left w (Judges.left p low)

        pub condition_shorter : length v < length u
        condition_shorter =
            subst (λ (s : Text). length s < length u) (sym (at ∙ ap (after_phrase row.COMPARISON) is_w)) (list_shorter u op)

        pub condition_step : ConditionOn e t made v
        condition_step =
            record {
              list = subst (λ (s : Text). is_list (more_start chain.Condition) row.FURTHER_COMPARISON s ≡ true) (ap (after_phrase row.COMPARISON) (sym is_w) ∙ sym at) (on_list u (ConditionOn.list on) op);
              value = ap (λ (s : Text). further_condition e (Ok made) (list_at (more_start chain.Condition) row.FURTHER_COMPARISON s)) at
                  ∙ ap (λ (b : Bool). further_condition e (Ok b) (list_at (more_start chain.Condition) row.FURTHER_COMPARISON (after_phrase row.COMPARISON w))) is_made
                  ∙ ap (λ (x : Result Bool ℕ). further_condition e (x >>= (λ q. Ok (joined_condition (first u) h q))) (list_at (more_start chain.Condition) row.FURTHER_COMPARISON (after_phrase row.COMPARISON w))) (sym (is_judged _ f.word (Judges.word p) low))
                  ∙ sym joined_value;
              rest = ap (after_list (more_start chain.Condition) row.FURTHER_COMPARISON) (at ∙ ap (after_phrase row.COMPARISON) is_w) ∙ sym (on_rest u (ConditionOn.list on) op) ∙ ConditionOn.rest on;
            }

  -- where none stands
  pub condition_ends : is_operator_of chain.Condition (first u) ≡ false → (f : Judged) → f ≡ record { word = truth_word (Ok h); left = length u } → Judges (truth e (tree_at row.CONDITION t)) (after_phrase row.CONDITION t) f
  condition_ends none f is_f =
      judges_truth _ _ u h f is_f (sym (ConditionOn.value on) ∙ off_value e (Ok h) u none) (sym (off_rest u none) ∙ ConditionOn.rest on)

-- a comparison of two numbers
abbrev with_second : Context → Text → Answer → Number → Result Bool ℕ
with_second e t other x = other >>= (λ y. Ok (holds (relation_of (take (sign_size row.SUM t) (sign_at row.SUM t))) (int_cmp (size_of_number x) (size_of_number y))))

abbrev Sums : Context → Text → Evaluated → Type 0
Sums e t f = Finds (value e level.Sum (tree_at row.SUM t)) (after_phrase row.SUM t) f

numbers_by : (e : Context) (t : Text) (f : Evaluated) → is_phrase row.NUMERIC_COMPARISON t ≡ true → Sums e t f
    → compared_numbers e (tree_at row.NUMERIC_COMPARISON t) ≡ (f.number >>= with_second e t (value e level.Sum (tree_at row.SUM (other_at row.SUM t))))
numbers_by e t f ok is =
    numbers_is e t ok ∙ ap (λ (a : Answer). a >>= with_second e t (value e level.Sum (tree_at row.SUM (other_at row.SUM t)))) (sym (Finds.number is))

pub first_coded : (e : Context) (t : Text) (f : Evaluated) (code : ℕ) (j : Judged) → is_phrase row.NUMERIC_COMPARISON t ≡ true → Sums e t f → f.number ≡ Err code
    → j ≡ record { word = truth_word (Err code); left = 0 } → 3 ≤ j.word → j.word ≤ 101 → Judges (compared_numbers e (tree_at row.NUMERIC_COMPARISON t)) (after_phrase row.NUMERIC_COMPARISON t) j
first_coded e t f code j ok is coded is_j least most =
    judges_coded _ _ code j is_j least most
    (numbers_by e t f ok is ∙ ap (λ (a : Answer). a >>= with_second e t (value e level.Sum (tree_at row.SUM (other_at row.SUM t)))) coded)

with_number : {P : Type 0} (r : Answer) → is_err r ≡ false → ((x : Number) → r ≡ Ok x → P) → P
with_number (Ok x) some k = k x refl
with_number (Err code) some k = absurd (true≢false some)

pub second_coded : (e : Context) (t : Text) (f : Evaluated) (o : Text) (g : Evaluated) (code : ℕ) (j : Judged) → is_phrase row.NUMERIC_COMPARISON t ≡ true → Sums e t f → is_err f.number ≡ false
    → o ≡ other_at row.SUM t → Sums e o g → g.number ≡ Err code → j ≡ record { word = truth_word (Err code); left = 0 } → 3 ≤ j.word → j.word ≤ 101
    → Judges (compared_numbers e (tree_at row.NUMERIC_COMPARISON t)) (after_phrase row.NUMERIC_COMPARISON t) j
second_coded e t f o g code j ok is some is_o other coded is_j least most =
    with_number f.number some (λ x got.
    judges_coded _ _ code j is_j least most
    (numbers_by e t f ok is ∙ ap (λ (a : Answer). a >>= with_second e t (value e level.Sum (tree_at row.SUM (other_at row.SUM t)))) got
    ∙ ap (λ (s : Text). with_second e t (value e level.Sum (tree_at row.SUM s)) x) (sym is_o)
    ∙ ap (λ (a : Answer). with_second e t a x) (sym (Finds.number other) ∙ coded)))

pub numbers_judged : (e : Context) (t : Text) (f : Evaluated) (x : Number) (o : Text) (g : Evaluated) (y : Number) (h : Bool) (j : Judged) → is_phrase row.NUMERIC_COMPARISON t ≡ true → Sums e t f → f.number ≡ Ok x
    → o ≡ other_at row.SUM t → Sums e o g → is_err g.number ≡ false → g.number ≡ Ok y
    → h ≡ holds (relation_of (take (sign_size row.SUM t) (sign_at row.SUM t))) (int_cmp (size_of_number x) (size_of_number y))
    → j ≡ record { word = truth_word (Ok h); left = g.left }
    → Judges (compared_numbers e (tree_at row.NUMERIC_COMPARISON t)) (after_phrase row.NUMERIC_COMPARISON t) j
numbers_judged e t f x o g y h j ok is got is_o other some found is_h is_j =
    judges_truth _ _ (after_phrase row.SUM o) h j (is_j ∙ ap (λ (n : ℕ). record { word = truth_word (Ok h); left = n }) (Finds.left other some))
    (numbers_by e t f ok is ∙ ap (λ (a : Answer). a >>= with_second e t (value e level.Sum (tree_at row.SUM (other_at row.SUM t)))) got
    ∙ ap (λ (s : Text). with_second e t (value e level.Sum (tree_at row.SUM s)) x) (sym is_o)
    ∙ ap (λ (a : Answer). with_second e t a x) (sym (Finds.number other) ∙ found) ∙ ap Ok (sym is_h))
    (ap (after_phrase row.SUM) is_o ∙ sym (numbers_rest t ok))
