-- What a step leaves of the store, and how it ends. But for `@` variables it leaves what its access leaves, over what was lent; and from two
-- stores in which it sees and is served the same it goes alike.
use Rattle.std.specs.Prelude.{◌≡◌, ℕ, Bool, true, false, List, ◌∷◌, ◌++◌, Option, Some, None, refl, if◌then◌else◌}
use Rattle.std.proofs.Common.{sym, ap, subst, ◌∙◌, inl, inr}
use Rattle.std.proofs.lemmas.Bool.{true≢false}
use Rattle.b2_flow.specs.declared.frame.Place.{Place}
use Rattle.b2_text.specs.Program.{TextState}
use Rattle.b2_vars.specs.Globals.{Globals, unreached}
use Rattle.b2_vars.specs.Tables.{VarsState}
use Rattle.b2_access.specs.AccessRows.{holder_entered, reach}
use Rattle.b2_access.specs.Contents.{content_other}
use Rattle.b2_access.specs.Lending.{SeenLent}
use Rattle.b2_access.specs.Loans.{globals_objects, holder_of, lender_at, lends, loan_touched, name_objects, reached_objects, with_globals_at, with_globals_of}
use Rattle.b2_access.specs.Reach.{objects_reached}
use Rattle.b2_access.specs.Serving.{itself}
use Rattle.b2_access.specs.Sharing.{writes}
use Rattle.b2_access.specs.Store.{StoreState, AgreeOn, IsIn, content}
use Rattle.b2_access.specs.Touching.{touched, written_by}
use Rattle.b2_access.specs.declared.accesses.Access.{Access}
use Rattle.b2_access.specs.declared.accesses.Access.TheVariants as access
use Rattle.b2_access.specs.declared.accesses.Answer.{Answer}
use Rattle.b2_access.specs.declared.accesses.Answer.TheVariants as answer
use Rattle.b2_access.specs.declared.lending.At.{At}
use Rattle.b2_access.specs.declared.lending.At.TheVariants as at
use Rattle.b2_access.specs.declared.objects.Object.{Object}
use Rattle.b2_access.specs.declared.objects.Object.TheVariants as object
use Rattle.b2_access.specs.declared.private.Private.{Private}
use Rattle.b2_language.specs.Languages.{Ways}
use Rattle.b2_language.specs.Wanted.{wanted_at}
use Rattle.b2_machine.specs.Endings.{Ending, carries_on}
use Rattle.b2_machine.specs.Keys.{pressed}
use Rattle.b2_machine.specs.Readiness.{gives_back, halted, resets, without_halt}
use Rattle.b2_machine.specs.Statements.{begins, finish_by, finishes, leaves}
use Rattle.b2_machine.specs.Step.{StepEnd, asks_for, carries_out, executes_by, goes_through, lent_to_begin, line_read, reads_line, seen_by, step, steps_by, whose_by}
use Rattle.b2_machine.specs.Touched.{Told, access_asked, asking, asks_by, begin_touched, tells, tells_carrying, tells_executing, told, told_by}
use Rattle.b2_machine.specs.Typing.{inserts_literal, put_by, puts_numbered, shown_by, shows_output, typed_by_key}
use Rattle.b2_machine.specs.declared.statements.Progress.{Progress}
use Rattle.b2_machine.specs.declared.statements.Progress.TheVariants as progress
use Rattle.b2_machine.proofs.Lent.{begin_same, begun_store, lender_same, reached_same, same_text, seen_same, touches_same}
use Rattle.b2_machine.proofs.LocalSteps.{both_same}
use Rattle.b2_store.specs.DiskWork.{serves}
use Rattle.b2_sched.specs.Holding.{IsLent, is_globals}
use Rattle.b2_machine.specs.Due.{due}
use Rattle.b2_machine.specs.declared.rules.Rule.{Rule}
use Rattle.b2_machine.specs.declared.rules.Rule.TheVariants as rule

-- the store that an access leaves, where one is asked for
abbrev pub left_where : Option Access → ℕ → StoreState → StoreState
left_where None who s = s
left_where (Some a) who s = (serves s who a).after

-- ---- a step leaves what its access leaves, but for `@` variables

-- a step by what it asks for: the store in which it asks, and what is left of that
pub record Left (x : Option Access) (who : ℕ) (s after : StoreState) : Type 0 where
  pub before : StoreState
  pub lent : IsLent s before
  pub left : (o : Object) → is_globals o ≡ false → content after o ≡ content (left_where x who before) o

other_than : (p : ℕ) (o : Object) → is_globals o ≡ false → o ≡ object.Globals p → ⊥
other_than p o is e = true≢false (sym (ap is_globals e) ∙ is)

pub loan_stays : (home : ℕ) (whose : At) (left : Option VarsState) (s : StoreState) (o : Object) → is_globals o ≡ false → content (with_globals_at home whose s left) o ≡ content s o
loan_stays home whose left s o is = by (lender_at home whose s) left
  where
    by : (x : Option ℕ) (l : Option VarsState) → content (with_globals_of x l s) o ≡ content s o
    by None l = refl
    by (Some p) None = refl
    by (Some p) (Some w) = content_other (object.Globals p) o w s (other_than p o is)

pub begun_stays : (who home : ℕ) (whose : At) (left : Globals) (s : StoreState) (o : Object) → is_globals o ≡ false → content (lent_to_begin itself serves lends who home whose s left) o ≡ content s o
begun_stays who home whose left s o is =
    ap (λ (t : StoreState). content t o) (begun_store itself serves lends (λ who home whose m l. refl) who home whose s left) ∙ loan_stays home whose left.vars s o is

pub line_left : (x : Answer) (me : Private) (s : StoreState) → (line_read itself serves lends x me s).after ≡ s
line_left (answer.Line bytes) me s = refl
line_left (answer.Special n) me s = refl
line_left x me s = refl

module _ (ways : Ways) where
  by_rule : (x : Option Access) (who : ℕ) (s after : StoreState) → after ≡ left_where x who s → Left x who s after
  by_rule x who s after is = record { before = s; lent = λ o _. refl; left = λ o _. ap (λ (t : StoreState). content t o) is }

  carried_left : (who : ℕ) (c : Progress) (p : Place) (whose : At) (me : Private) (s : StoreState) (o : Object) → is_globals o ≡ false
      → content (carries_out ways itself serves lends who c p whose me s).after o ≡ content (left_where (access_asked c) who s) o
  carried_left who (progress.Ended e) p whose me s o is = refl
  carried_left who (progress.Asks a b w) p whose me s o is =
      let g = serves s who a in
      loan_stays p.home whose (finish_by ways b a g.answer me (seen_by who p.home whose g.after)).globals.vars g.after o is

  left_by : (r : Rule) (me : Private) (s : StoreState) → Left (asks_by ways r me s) me.part s (steps_by ways itself serves lends r me s).after
  left_by rule.Read me s =
      let g = serves s me.part (access.ReadLine me.term) in
      by_rule (Some (access.ReadLine me.term)) me.part s (line_read itself serves lends g.answer me g.after).after (line_left g.answer me g.after)
  left_by (rule.Execute p) me s =
      let whose = whose_by p me s in
      let seen = seen_by me.part p.home whose s in
      let left = leaves ways p me seen in
      let b = begins ways p me seen in
      let u = lent_to_begin itself serves lends me.part p.home whose s left in
      record {
        before = u;
        lent = λ o is. begun_stays me.part p.home whose left s o is;
        left = λ o is. carried_left me.part b.progress p whose b.me u o is;
      }
  left_by r me s = by_rule (asks_by ways r me s) me.part s _ refl

  pub step_left : (me : Private) (s : StoreState) → Left (asking ways me s) me.part s (step ways itself serves lends me s).after
  step_left me s = left_by (due me) (without_halt me) s

-- ---- from two stores

-- what a step sees of a store by itself: texts, `@` variables and names
abbrev pub is_seen : Object → Bool
is_seen (object.Text p) = true
is_seen (object.Globals p) = true
is_seen (object.Name n) = true
is_seen o = false

-- A likeness of stores: in both the same is seen; it stays over a loan; and an access of a partition is answered the same, and leaves alike stores.
pub record IsLikeness (who : ℕ) (R : StoreState → StoreState → Type 0) : Type 0 where
  pub sees : (s t : StoreState) → R s t → (o : Object) → is_seen o ≡ true → content s o ≡ content t o
  pub lent : (home : ℕ) (whose : At) (left : Globals) (s t : StoreState) → R s t → R (lends who home whose s left) (lends who home whose t left)
  pub served : (a : Access) (s t : StoreState) → R s t → ((serves s who a).answer ≡ (serves t who a).answer) × R (serves s who a).after (serves t who a).after

-- two steps by what they ask for and tell
pub record GoAlike (R : StoreState → StoreState → Type 0) (x y : Option Access) (t u : Told) (f g : StepEnd StoreState) : Type 0 where
  pub asks : x ≡ y
  pub tells : t ≡ u
  pub own : f.me ≡ g.me
  pub end : f.end ≡ g.end
  pub stores : R f.after g.after

globals_seen : (x : Option ℕ) (o : Object) → IsIn o (globals_objects x) → is_seen o ≡ true
globals_seen None o i = absurd i
globals_seen (Some p) o i = elim i [ inl e ↦ ap is_seen e | inr j ↦ absurd j ]

lender_seen : (home : ℕ) (whose : At) (s : StoreState) (o : Object) → IsIn o (name_objects whose ++ globals_objects (lender_at home whose s)) → is_seen o ≡ true
lender_seen home at.None s o i = absurd i
lender_seen home at.Home s o i = globals_seen (Some home) o i
lender_seen home (at.Named n) s o i = elim i [ inl e ↦ ap is_seen e | inr j ↦ globals_seen (holder_of s n) o j ]

pub loan_seen : (who home : ℕ) (whose : At) (s : StoreState) (o : Object) → IsIn o (loan_touched who home whose s) → is_seen o ≡ true
loan_seen who home whose s o i = elim i [ inl e ↦ ap is_seen e | inr j ↦ elim j [ inl e ↦ ap is_seen e | inr k ↦ lender_seen home whose s o k ] ]

both_told : (xs ys us vs : List Object) → xs ≡ us → ys ≡ vs → ◌≡◌ {A = Told} (record { touched = xs; written = ys }) (record { touched = us; written = vs })
both_told xs ys us vs e f = ap (λ (os : List Object). record { touched = os; written = ys }) e ∙ ap (λ (os : List Object). record { touched = us; written = os }) f

-- an access touches the same where the same names are held
same_holder : (name : Option (List ℕ)) (s t : StoreState) → ((n : List ℕ) → content s (object.Name n) ≡ content t (object.Name n)) → holder_entered name s ≡ holder_entered name t
same_holder None s t same = refl
same_holder (Some n) s t same = let held = same n in cc

same_touched : (who : ℕ) (a : Access) (s t : StoreState) → ((n : List ℕ) → content s (object.Name n) ≡ content t (object.Name n)) → touched s who a ≡ touched t who a
same_touched who a s t same = ap (λ (holder : Option ℕ). objects_reached who holder (reach a)) (same_holder (reach a).entered s t same)

module _ (ways : Ways) (R : StoreState → StoreState → Type 0) where
  module _ (who : ℕ) (is : IsLikeness who R) where
    names_seen : (s t : StoreState) → R s t → (n : List ℕ) → content s (object.Name n) ≡ content t (object.Name n)
    names_seen s t r n = is.sees s t r (object.Name n) refl

    of_loan : (home : ℕ) (whose : At) (s t : StoreState) → R s t → AgreeOn (loan_touched who home whose s) s t
    of_loan home whose s t r o i = is.sees s t r o (loan_seen who home whose s o i)

    begun_on : (home : ℕ) (whose : At) (left : Globals) (s t : StoreState) → R s t → R (lent_to_begin itself serves lends who home whose s left) (lent_to_begin itself serves lends who home whose t left)
    begun_on home at.None left s t r = is.lent home at.None (unreached None) s t r
    begun_on home at.Home left s t r = is.lent home at.Home left s t r
    begun_on home (at.Named n) left s t r = is.lent home (at.Named n) left s t r

    carried : (c : Progress) (p : Place) (whose : At) (me : Private) (s t : StoreState) → R s t
        → GoAlike R (access_asked c) (access_asked c) (tells_carrying ways itself serves lends who c p whose me s) (tells_carrying ways itself serves lends who c p whose me t)
        (carries_out ways itself serves lends who c p whose me s) (carries_out ways itself serves lends who c p whose me t)
    carried (progress.Ended e) p whose me s t r = record { asks = refl; tells = refl; own = refl; end = refl; stores = r }
    carried (progress.Asks a b w) p whose me s t r =
        let g = serves s who a in
        let h = serves t who a in
        let both = is.served a s t r in
        let loan = of_loan p.home whose g.after h.after both.1 in
        let seen : seen_by who p.home whose g.after ≡ seen_by who p.home whose h.after = seen_same who p.home whose g.after h.after loan in
        let lender = lender_same who p.home g.after h.after whose loan in
        let later = seen_by who p.home whose h.after in
        let first = (finish_by ways b a g.answer me (seen_by who p.home whose g.after)).globals in
        let left : first ≡ (finish_by ways b a h.answer me later).globals =
        ap (λ (x : SeenLent). (finish_by ways b a g.answer me x).globals) seen ∙ ap (λ (x : Answer). (finish_by ways b a x me later).globals) both.0 in
        record {
          asks = refl;
          tells = both_told _ _ _ _ (both_same (touched s who a) _ (touched t who a) _ (same_touched who a s t (names_seen s t r)) (touches_same who p.home g.after h.after whose loan))
              (both_same (writes itself serves s who a) _ (writes itself serves t who a) _ (ap (λ (x : Answer). written_by x who a) both.0) (reached_same _ _ p.home whose g.after h.after (ap (λ (x : Globals). x.reached) left) lender));
          own = ap (λ (x : SeenLent). (finishes ways b a g.answer w p me x).me) seen ∙ ap (λ (x : Answer). (finishes ways b a x w p me later).me) both.0;
          end = ap (λ (x : SeenLent). (finishes ways b a g.answer w p me x).end) seen ∙ ap (λ (x : Answer). (finishes ways b a x w p me later).end) both.0;
          stores = subst (λ (x : Globals). R (lends who p.home whose g.after first) (lends who p.home whose h.after x)) left (is.lent p.home whose first g.after h.after both.1);
        }

  by_itself : (part : ℕ) (e : Ending) (s t : StoreState) → R s t
      → GoAlike R None None (tells itself serves lends part None s) (tells itself serves lends part None t) (record { me = e.me; after = s; end = e.end }) (record { me = e.me; after = t; end = e.end })
  by_itself part e s t r = record { asks = refl; tells = refl; own = refl; end = refl; stores = r }

  module _ (me : Private) (is : IsLikeness me.part R) where
    -- by one of the first five rules
    told_same : (a : Access) (s t : StoreState) → R s t → (serves s me.part a).answer ≡ (serves t me.part a).answer → tells itself serves lends me.part (Some a) s ≡ tells itself serves lends me.part (Some a) t
    told_same a s t r same =
        both_told _ _ _ _ (ap (λ (os : List Object). object.Text me.part ∷ os) (same_touched me.part a s t (names_seen me.part is s t r))) (ap (λ (x : Answer). written_by x me.part a) same)

    by_answer : (a : Access) (ends : Answer → Ending) (s t : StoreState) → R s t
        → GoAlike R (Some a) (Some a) (tells itself serves lends me.part (Some a) s) (tells itself serves lends me.part (Some a) t) (asks_for itself serves lends a ends me s) (asks_for itself serves lends a ends me t)
    by_answer a ends s t r =
        let both = is.served a s t r in
        record {
          asks = refl;
          tells = told_same a s t r both.0;
          own = ap (λ (x : Answer). (ends x).me) both.0;
          end = ap (λ (x : Answer). (ends x).end) both.0;
          stores = both.1;
        }

    line_same : (x : Answer) (s t : StoreState) → R s t → ((line_read itself serves lends x me s).me ≡ (line_read itself serves lends x me t).me) × ((line_read itself serves lends x me s).end ≡ (line_read itself serves lends x me t).end)
    line_same (answer.Line bytes) s t r = (refl, refl)
    line_same (answer.Special n) s t r =
        let text = same_text me.part s t (is.sees s t r (object.Text me.part) refl) in (ap (λ (u : TextState). (carries_on (pressed n u.lines me)).me) text, refl)
    line_same x s t r = (refl, refl)

    by_line : (s t : StoreState) → R s t
        → GoAlike R (Some (access.ReadLine me.term)) (Some (access.ReadLine me.term)) (tells itself serves lends me.part (Some (access.ReadLine me.term)) s) (tells itself serves lends me.part (Some (access.ReadLine me.term)) t)
        (reads_line itself serves lends me s) (reads_line itself serves lends me t)
    by_line s t r =
        let a = access.ReadLine me.term in
        let g = serves s me.part a in
        let h = serves t me.part a in
        let both = is.served a s t r in
        let same = line_same g.answer g.after h.after both.1 in
        record {
          asks = refl;
          tells = told_same a s t r both.0;
          own = same.0 ∙ ap (λ (x : Answer). (line_read itself serves lends x me h.after).me) both.0;
          end = same.1 ∙ ap (λ (x : Answer). (line_read itself serves lends x me h.after).end) both.0;
          stores = subst (λ (u : StoreState). R u (line_read itself serves lends h.answer me h.after).after) (sym (line_left g.answer me g.after))
              (subst (λ (u : StoreState). R g.after u) (sym (line_left h.answer me h.after)) both.1);
        }

    -- by the sixth
    module _ (p : Place) (whose : At) where
      abbrev goes : SeenLent → StoreState → StepEnd StoreState
      goes x s = goes_through ways itself serves lends me.part (begins ways p me x) p whose (lent_to_begin itself serves lends me.part p.home whose s (leaves ways p me x))

      abbrev rest : SeenLent → StoreState → Told
      rest x s = tells_carrying ways itself serves lends me.part (begins ways p me x).progress p whose (begins ways p me x).me (lent_to_begin itself serves lends me.part p.home whose s (leaves ways p me x))

      abbrev says : SeenLent → StoreState → Told
      says x s = record {
        touched = begin_touched me.part p.home whose s ++ (rest x s).touched;
        written = reached_objects (leaves ways p me x).reached p.home whose s ++ (rest x s).written;
      }

      over : (x : SeenLent) (s t : StoreState) → R s t → GoAlike R (access_asked (begins ways p me x).progress) (access_asked (begins ways p me x).progress) (says x s) (says x t) (goes x s) (goes x t)
      over x s t r =
          let loan = of_loan me.part is p.home whose s t r in
          let b = begins ways p me x in
          let h = carried me.part is b.progress p whose b.me _ _ (begun_on me.part is p.home whose (leaves ways p me x) s t r) in
          let lender = lender_same me.part p.home s t whose loan in
          record {
            asks = refl;
            tells = both_told _ _ _ _ (both_same (begin_touched me.part p.home whose s) _ (begin_touched me.part p.home whose t) _ (begin_same me.part p.home whose s t loan) (ap (λ (u : Told). u.touched) h.tells))
                (both_same (reached_objects (leaves ways p me x).reached p.home whose s) _ (reached_objects (leaves ways p me x).reached p.home whose t) _ (reached_same _ _ p.home whose s t refl lender) (ap (λ (u : Told). u.written) h.tells));
            own = h.own;
            end = h.end;
            stores = h.stores;
          }

      executed : (s t : StoreState) → R s t
          → GoAlike R (access_asked (begins ways p me (seen_by me.part p.home whose s)).progress) (access_asked (begins ways p me (seen_by me.part p.home whose t)).progress)
          (tells_executing ways itself serves lends whose p me s) (tells_executing ways itself serves lends whose p me t) (executes_by ways itself serves lends whose p me s) (executes_by ways itself serves lends whose p me t)
      executed s t r =
          let x = seen_by me.part p.home whose s in
          let same = seen_same me.part p.home whose s t (of_loan me.part is p.home whose s t r) in
          subst (λ (y : SeenLent). GoAlike R (access_asked (begins ways p me x).progress) (access_asked (begins ways p me y).progress) (says x s) (says y t) (goes x s) (goes y t)) same (over x s t r)

    alike_by : (r : Rule) (s t : StoreState) → R s t
        → GoAlike R (asks_by ways r me s) (asks_by ways r me t) (told_by ways itself serves lends r me s) (told_by ways itself serves lends r me t) (steps_by ways itself serves lends r me s) (steps_by ways itself serves lends r me t)
    alike_by rule.Reset s t r = by_answer (gives_back me) (λ _. resets me) s t r
    alike_by rule.Halt s t r = by_itself me.part (halted me) s t r
    alike_by rule.Show s t r = let a = shows_output me in by_answer a (λ x. shown_by a x me) s t r
    alike_by rule.Insert s t r = by_answer (inserts_literal me) (λ a. typed_by_key a me) s t r
    alike_by rule.Read s t r = by_line s t r
    alike_by rule.Put s t r = by_answer (puts_numbered me) (λ a. put_by a me) s t r
    alike_by (rule.Execute p) s t r =
        let whose = whose_by p me s in
        let same : whose_by p me s ≡ whose_by p me t = ap (λ (u : TextState). wanted_at p me u.lines) (same_text p.home s t (is.sees s t r (object.Text p.home) refl)) in
        subst (λ (z : At). GoAlike R (access_asked (begins ways p me (seen_by me.part p.home whose s)).progress) (access_asked (begins ways p me (seen_by me.part p.home z t)).progress)
        (tells_executing ways itself serves lends whose p me s) (tells_executing ways itself serves lends z p me t) (executes_by ways itself serves lends whose p me s) (executes_by ways itself serves lends z p me t))
        same (executed p whose s t r)

  pub step_alike : (me : Private) → IsLikeness me.part R → (s t : StoreState) → R s t
      → GoAlike R (asking ways me s) (asking ways me t) (told ways itself serves lends me s) (told ways itself serves lends me t) (step ways itself serves lends me s) (step ways itself serves lends me t)
  step_alike me is s t r = alike_by (without_halt me) is (due me) s t r
