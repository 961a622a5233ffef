-- A step is local: from two meanings that agree on what it touches it goes alike, and what it doesn't write stays.
use Rattle.std.specs.Prelude.{◌≡◌, ◌⊎◌, ℕ, List, [], ◌∷◌, ◌++◌, Some, None, refl}
use Rattle.std.proofs.Common.{sym, ap, subst, ◌∙◌, inl, inr}
use Rattle.b2_flow.specs.declared.frame.Place.{Place}
use Rattle.b2_text.specs.Program.{TextState}
use Rattle.b2_vars.specs.Globals.{Globals}
use Rattle.b2_access.specs.Lending.{SeenLent}
use Rattle.b2_access.specs.Loans.{Loan, LoansGlobals, lender_at, loan_touched}
use Rattle.b2_access.specs.Objects.{Decided, same_object}
use Rattle.b2_access.specs.Planning.{Finishing}
use Rattle.b2_access.specs.Sharing.{Gives, IsLocal, ServesAlike, ServingOf, writes}
use Rattle.b2_access.specs.Store.{StoreState, AgreeOn, IsIn, content}
use Rattle.b2_access.specs.Touching.{touched}
use Rattle.b2_access.specs.declared.accesses.Access.{Access}
use Rattle.b2_access.specs.declared.accesses.Access.TheVariants as access
use Rattle.b2_access.specs.declared.accesses.Answer.{Answer}
use Rattle.b2_access.specs.declared.accesses.Answer.TheVariants as answer
use Rattle.b2_access.specs.declared.lending.At.{At}
use Rattle.b2_access.specs.declared.objects.Object.{Object}
use Rattle.b2_access.specs.declared.objects.Object.TheVariants as object
use Rattle.b2_access.specs.declared.private.Private.{Private}
use Rattle.b2_access.specs.Task.{in_left, in_right}
use Rattle.b2_language.specs.Languages.{AreLawful, Ways}
use Rattle.b2_language.specs.Wanted.{wanted_at}
use Rattle.b2_machine.specs.Endings.{Ending}
use Rattle.b2_machine.specs.Keys.{pressed}
use Rattle.b2_machine.specs.Readiness.{gives_back, halted, resets, without_halt}
use Rattle.b2_machine.specs.Statements.{Begun, begins, finish_by, finishes, leaves}
use Rattle.b2_machine.specs.Step.{StepEnd, carries_out, executes, executes_by, goes_through, lent_to_begin, line_read, reads_line, seen_by, steps_by, text_in, whose_by}
use Rattle.b2_machine.specs.Touched.{GoesAlike, GoesLocally, StepsAreLocal, Told, begin_touched, reached_objects, tells, tells_both, tells_carrying, tells_executing, told_by}
use Rattle.b2_machine.specs.Typing.{inserts_literal, put_by, puts_numbered, shown_by, shows_output, typed_by_key}
use Rattle.b2_machine.specs.declared.ends.Stepped.{Stepped}
use Rattle.b2_machine.specs.declared.moving.Onward.{Onward}
use Rattle.b2_machine.specs.declared.statements.Builder.{Builder}
use Rattle.b2_machine.specs.declared.statements.Progress.{Progress}
use Rattle.b2_machine.specs.declared.statements.Progress.TheVariants as progress
use Rattle.b2_machine.proofs.Lent.{begin_same, begun_store, home_in, in_begin, lender_same, loan_follows, loan_leaves, reached_same, reached_touched, same_text, seen_same, texts_same, touches_same}
use Rattle.b2_machine.proofs.Reached.{finishes_become, leaves_become}
use Rattle.b2_machine.specs.Due.{due}
use Rattle.b2_machine.specs.declared.rules.Rule.{Rule}
use Rattle.b2_machine.specs.declared.rules.Rule.TheVariants as rule

pub is_in : (o : Object) (os : List Object) → Decided (IsIn o os)
is_in o [] = inr (λ h. h)
is_in o (x ∷ xs) = by (same_object o x) (is_in o xs)
  where
    by : Decided (o ≡ x) → Decided (IsIn o xs) → Decided (IsIn o (x ∷ xs))
    by (inl e) rest = inl (inl e)
    by (inr apart) (inl h) = inl (inr h)
    by (inr apart) (inr out) = inr (λ h. elim h [ inl e ↦ apart e | inr i ↦ out i ])

pub split : (o : Object) (xs ys : List Object) → IsIn o (xs ++ ys) → IsIn o xs ⊎ IsIn o ys
split o [] ys i = inr i
split o (x ∷ xs) ys i = elim i [ inl e ↦ inl (inl e) | inr j ↦ elim (split o xs ys j) [ inl k ↦ inl (inr k) | inr k ↦ inr k ] ]

pub both_same : (ws xs ys zs : List Object) → ws ≡ ys → xs ≡ zs → ws ++ xs ≡ ys ++ zs
both_same ws xs ys zs e f = ap (λ (os : List Object). os ++ xs) e ∙ ap (λ (os : List Object). ys ++ os) f

module _ (ways : Ways) (lawful : AreLawful ways) {M : Type 0} (store : M → StoreState) (serving : ServingOf M) (lending : Loan M) (local : IsLocal store serving) (loans : LoansGlobals store lending) where
  abbrev Goes : (M → Told) → (M → StepEnd M) → Type 0
  Goes tells goes = GoesLocally store tells goes

  -- from two meanings to two others: what is alike in the first two is so in the others
  abbrev Follows : M → M → M → M → Type 0
  Follows m n u v = (o : Object) → content (store m) o ≡ content (store n) o → content (store u) o ≡ content (store v) o

  -- an access whose touched objects agree
  served_follows : (who : ℕ) (a : Access) (m n : M) → AgreeOn (touched (store m) who a) (store m) (store n) → Follows m n (serving m who a).after (serving n who a).after
  served_follows who a m n agree o same = by (is_in o (writes store serving m who a))
    where
      both : ServesAlike store serving who a m n
      both = local.alike who a m n agree

      by : Decided (IsIn o (writes store serving m who a)) → content (store (serving m who a).after) o ≡ content (store (serving n who a).after) o
      by (inl i) = both.contents o i
      by (inr out) = local.others who a m o out ∙ same ∙ sym (local.others who a n o (λ i. out (subst (λ (os : List Object). IsIn o os) (sym both.wrote) i)))

  -- and all that goes locally
  goes_follow : (tells : M → Told) (goes : M → StepEnd M) → Goes tells goes → (m n : M) → AgreeOn (tells m).touched (store m) (store n) → Follows m n (goes m).after (goes n).after
  goes_follow tells goes h m n agree o same = by (is_in o (tells m).written)
    where
      both : GoesAlike store tells goes m n
      both = h.alike m n agree

      by : Decided (IsIn o (tells m).written) → content (store (goes m).after) o ≡ content (store (goes n).after) o
      by (inl i) = both.contents o i
      by (inr out) = h.others m o out ∙ same ∙ sym (h.others n o (λ i. out (subst (λ (os : List Object). IsIn o os) (sym both.wrote) i)))

  -- a loan
  lent_follows : (who home : ℕ) (whose : At) (left more : Globals) (m n : M) → lender_at home whose (store m) ≡ lender_at home whose (store n) → left ≡ more → Follows m n (lending who home whose m left) (lending who home whose n more)
  lent_follows who home whose left more m n lender is o same =
      ap (λ (s : StoreState). content s o) (loans who home whose m left) ∙ loan_follows home whose left.vars more.vars (store m) (store n) lender (ap (λ (x : Globals). x.vars) is) o same
      ∙ sym (ap (λ (s : StoreState). content s o) (loans who home whose n more))

  begun_follows : (who home : ℕ) (whose : At) (left : Globals) (m n : M) → lender_at home whose (store m) ≡ lender_at home whose (store n)
      → Follows m n (lent_to_begin store serving lending who home whose m left) (lent_to_begin store serving lending who home whose n left)
  begun_follows who home whose left m n lender o same =
      ap (λ (s : StoreState). content s o) (begun_store store serving lending loans who home whose m left) ∙ loan_follows home whose left.vars left.vars (store m) (store n) lender refl o same
      ∙ sym (ap (λ (s : StoreState). content s o) (begun_store store serving lending loans who home whose n left))

  -- where nothing is asked for
  by_itself : (part : ℕ) (e : Ending) → Goes (λ m. tells store serving lending part None m) (λ m. record { me = e.me; after = m; end = e.end })
  by_itself part e = record {
    alike = λ m n agree. record { touches = refl; wrote = refl; own = refl; end = refl; contents = λ o i. absurd i };
    others = λ m o out. refl;
    within = λ m o i. absurd i;
  }

  -- where the answer alone says how the step ends
  by_answer : (me : Private) (a : Access) (ends : Answer → Ending)
      → Goes (λ m. tells store serving lending me.part (Some a) m) (λ m. record { me = (ends (serving m me.part a).answer).me; after = (serving m me.part a).after; end = (ends (serving m me.part a).answer).end })
  by_answer me a ends = record {
    alike = λ m n agree.
        let by = local.alike me.part a m n (λ o i. agree o (inr i)) in
        record {
          touches = ap (λ (os : List Object). object.Text me.part ∷ os) by.touches;
          wrote = by.wrote;
          own = ap (λ (x : Answer). (ends x).me) by.answers;
          end = ap (λ (x : Answer). (ends x).end) by.answers;
          contents = by.contents;
        };
    others = λ m o out. local.others me.part a m o out;
    within = λ m o i. inr (local.within me.part a m o i);
  }

  -- a line that was read
  read_after : (x : Answer) (me : Private) (m : M) (o : Object) → content (store (line_read store serving lending x me m).after) o ≡ content (store m) o
  read_after (answer.Line bytes) me m o = refl
  read_after (answer.Special n) me m o = ap (λ (s : StoreState). content s o) (texts_same store serving lending loans me.part me.part m)
  read_after x me m o = refl

  read_own : (x : Answer) (me : Private) (m n : M) → text_in (store m) me.part ≡ text_in (store n) me.part → (line_read store serving lending x me m).me ≡ (line_read store serving lending x me n).me
  read_own (answer.Line bytes) me m n e = refl
  read_own (answer.Special k) me m n e = ap (λ (t : TextState). pressed k t.lines me) e
  read_own x me m n e = refl

  read_end : (x : Answer) (me : Private) (m n : M) → (line_read store serving lending x me m).end ≡ (line_read store serving lending x me n).end
  read_end (answer.Line bytes) me m n = refl
  read_end (answer.Special k) me m n = refl
  read_end x me m n = refl

  by_line : (me : Private) → Goes (λ m. tells store serving lending me.part (Some (access.ReadLine me.term)) m) (λ m. reads_line store serving lending me m)
  by_line me = record {
    alike = λ m n agree.
        let a = access.ReadLine me.term in
        let apart : AgreeOn (touched (store m) me.part a) (store m) (store n) = λ o i. agree o (inr i) in
        let by = local.alike me.part a m n apart in
        let g = serving m me.part a in
        let h = serving n me.part a in
        let text = same_text me.part (store g.after) (store h.after) (served_follows me.part a m n apart (object.Text me.part) (agree (object.Text me.part) (inl refl))) in
        record {
          touches = ap (λ (os : List Object). object.Text me.part ∷ os) by.touches;
          wrote = by.wrote;
          own = read_own g.answer me g.after h.after text ∙ ap (λ (x : Answer). (line_read store serving lending x me h.after).me) by.answers;
          end = read_end g.answer me g.after h.after ∙ ap (λ (x : Answer). (line_read store serving lending x me h.after).end) by.answers;
          contents = λ o i. read_after g.answer me g.after o ∙ by.contents o i ∙ sym (read_after h.answer me h.after o);
        };
    others = λ m o out. read_after (serving m me.part (access.ReadLine me.term)).answer me (serving m me.part (access.ReadLine me.term)).after o ∙ local.others me.part (access.ReadLine me.term) m o out;
    within = λ m o i. inr (local.within me.part (access.ReadLine me.term) m o i);
  }

  -- a statement that began has ended, or it asks and is lent again
  module _ (who : ℕ) (p : Place) (whose : At) where
    ended : (e : Stepped) (me : Private) → Goes (λ m. tells_carrying ways store serving lending who (progress.Ended e) p whose me m) (λ m. carries_out ways store serving lending who (progress.Ended e) p whose me m)
    ended e me = record {
      alike = λ m n agree. record { touches = refl; wrote = refl; own = refl; end = refl; contents = λ o i. absurd i };
      others = λ m o out. refl;
      within = λ m o i. absurd i;
    }

    module _ (b : Builder) (a : Access) (w : Onward) (me : Private) where
      -- what it sees once it is answered, how it finishes, and what is written then
      abbrev seen_after : Gives M → SeenLent
      seen_after g = seen_by who p.home whose (store g.after)

      abbrev finishing : Gives M → Finishing
      finishing g = finish_by ways b a g.answer me (seen_after g)

      abbrev reached : Gives M → List Object
      reached g = reached_objects (finishing g).globals.reached p.home whose (store g.after)

      abbrev over : M → StepEnd M
      over m = carries_out ways store serving lending who (progress.Asks a b w) p whose me m

      abbrev says : M → Told
      says m = tells_carrying ways store serving lending who (progress.Asks a b w) p whose me m

      asked_within : (m : M) (o : Object) → IsIn o (says m).written → IsIn o (says m).touched
      asked_within m o i = by (split o (writes store serving m who a) (reached g) i)
        where
          g : Gives M
          g = serving m who a

          by : IsIn o (writes store serving m who a) ⊎ IsIn o (reached g) → IsIn o (says m).touched
          by (inl j) = in_left o (touched (store m) who a) (loan_touched who p.home whose (store g.after)) (local.within who a m o j)
          by (inr j) =
              in_right o (touched (store m) who a) (loan_touched who p.home whose (store g.after))
              (reached_touched (finishing g).globals.reached who p.home whose (store g.after) o j)

      asked_others : (m : M) (o : Object) → (IsIn o (says m).written → ⊥) → content (store (over m).after) o ≡ content (store m) o
      asked_others m o out =
          let g = serving m who a in
          let f = finishing g in
          ap (λ (s : StoreState). content s o) (loans who p.home whose g.after f.globals)
          ∙ loan_leaves f.globals.reached p.home whose f.globals.vars (store g.after) o (λ h. ap (λ (x : Globals). x.vars) ((finishes_become ways lawful b a g.answer me (seen_after g)).unreached h)) (λ i. out (in_right o (writes store serving m who a) (reached g) i))
          ∙ local.others who a m o (λ i. out (in_left o (writes store serving m who a) (reached g) i))

      asked_alike : (m n : M) → AgreeOn (says m).touched (store m) (store n) → GoesAlike store says over m n
      asked_alike m n agree =
          let g = serving m who a in
          let h = serving n who a in
          let front : AgreeOn (touched (store m) who a) (store m) (store n) = λ o i. agree o (in_left o (touched (store m) who a) (loan_touched who p.home whose (store g.after)) i) in
          let by = local.alike who a m n front in
          let follows = served_follows who a m n front in
          let back : AgreeOn (loan_touched who p.home whose (store g.after)) (store g.after) (store h.after) =
          λ o i. follows o (agree o (in_right o (touched (store m) who a) (loan_touched who p.home whose (store g.after)) i)) in
          let seen : seen_after g ≡ seen_after h = seen_same who p.home whose (store g.after) (store h.after) back in
          let lender = lender_same who p.home (store g.after) (store h.after) whose back in
          let left : (finishing g).globals ≡ (finishing h).globals =
          ap (λ (x : SeenLent). (finish_by ways b a g.answer me x).globals) seen ∙ ap (λ (x : Answer). (finish_by ways b a x me (seen_after h)).globals) by.answers in
          record {
            touches = both_same (touched (store m) who a) _ (touched (store n) who a) _ by.touches (touches_same who p.home (store g.after) (store h.after) whose back);
            wrote = both_same (writes store serving m who a) _ (writes store serving n who a) _ by.wrote (reached_same _ _ p.home whose (store g.after) (store h.after) (ap (λ (x : Globals). x.reached) left) lender);
            own = ap (λ (x : SeenLent). (finishes ways b a g.answer w p me x).me) seen ∙ ap (λ (x : Answer). (finishes ways b a x w p me (seen_after h)).me) by.answers;
            end = ap (λ (x : SeenLent). (finishes ways b a g.answer w p me x).end) seen ∙ ap (λ (x : Answer). (finishes ways b a x w p me (seen_after h)).end) by.answers;
            contents = λ o i. lent_follows who p.home whose (finishing g).globals (finishing h).globals g.after h.after lender left o (follows o (agree o (asked_within m o i)));
          }

      asked : Goes says over
      asked = record { alike = asked_alike; others = asked_others; within = asked_within }

    carried : (c : Progress) (me : Private) → Goes (λ m. tells_carrying ways store serving lending who c p whose me m) (λ m. carries_out ways store serving lending who c p whose me m)
    carried (progress.Ended e) me = ended e me
    carried (progress.Asks a b w) me = asked b a w me

  -- the statement at a place, over what it sees
  module _ (p : Place) (whose : At) (me : Private) where
    abbrev seen : M → SeenLent
    seen m = seen_by me.part p.home whose (store m)

    abbrev begun : SeenLent → Begun
    begun x = begins ways p me x

    abbrev lent : SeenLent → M → M
    lent x m = lent_to_begin store serving lending me.part p.home whose m (leaves ways p me x)

    abbrev goes : SeenLent → M → StepEnd M
    goes x m = goes_through ways store serving lending me.part (begun x) p whose (lent x m)

    abbrev rest : SeenLent → M → Told
    rest x m = tells_carrying ways store serving lending me.part (begun x).progress p whose (begun x).me (lent x m)

    abbrev first : SeenLent → M → List Object
    first x m = reached_objects (leaves ways p me x).reached p.home whose (store m)

    abbrev says_all : SeenLent → M → Told
    says_all x m = tells_both (begin_touched me.part p.home whose (store m)) (first x m) (rest x m)

    began_within : (x : SeenLent) (m : M) (o : Object) → IsIn o (says_all x m).written → IsIn o (says_all x m).touched
    began_within x m o i = by (split o (first x m) (rest x m).written i)
      where
        by : IsIn o (first x m) ⊎ IsIn o (rest x m).written → IsIn o (says_all x m).touched
        by (inl j) =
            in_left o (begin_touched me.part p.home whose (store m)) (rest x m).touched
            (in_begin me.part p.home whose (store m) o (reached_touched (leaves ways p me x).reached me.part p.home whose (store m) o j))
        by (inr j) = in_right o (begin_touched me.part p.home whose (store m)) (rest x m).touched ((carried me.part p whose (begun x).progress (begun x).me).within (lent x m) o j)

    began_others : (m : M) (o : Object) → (IsIn o (says_all (seen m) m).written → ⊥) → content (store (goes (seen m) m).after) o ≡ content (store m) o
    began_others m o out =
        let x = seen m in
        (carried me.part p whose (begun x).progress (begun x).me).others (lent x m) o (λ i. out (in_right o (first x m) (rest x m).written i))
        ∙ ap (λ (s : StoreState). content s o) (begun_store store serving lending loans me.part p.home whose m (leaves ways p me x))
        ∙ loan_leaves (leaves ways p me x).reached p.home whose (leaves ways p me x).vars (store m) o (λ h. ap (λ (y : Globals). y.vars) ((leaves_become ways lawful p me x).unreached h)) (λ i. out (in_left o (first x m) (rest x m).written i))

    began_alike : (x : SeenLent) (m n : M) → AgreeOn (says_all x m).touched (store m) (store n) → GoesAlike store (says_all x) (goes x) m n
    began_alike x m n agree =
        let front : AgreeOn (begin_touched me.part p.home whose (store m)) (store m) (store n) = λ o i. agree o (in_left o (begin_touched me.part p.home whose (store m)) (rest x m).touched i) in
        let loan : AgreeOn (loan_touched me.part p.home whose (store m)) (store m) (store n) = λ o i. front o (in_begin me.part p.home whose (store m) o i) in
        let lender = lender_same me.part p.home (store m) (store n) whose loan in
        let follows = begun_follows me.part p.home whose (leaves ways p me x) m n lender in
        let back : AgreeOn (rest x m).touched (store (lent x m)) (store (lent x n)) = λ o i. follows o (agree o (in_right o (begin_touched me.part p.home whose (store m)) (rest x m).touched i)) in
        let h = carried me.part p whose (begun x).progress (begun x).me in
        let by = h.alike (lent x m) (lent x n) back in
        record {
          touches = both_same (begin_touched me.part p.home whose (store m)) _ (begin_touched me.part p.home whose (store n)) _ (begin_same me.part p.home whose (store m) (store n) loan) by.touches;
          wrote = both_same (first x m) _ (first x n) _ (reached_same _ _ p.home whose (store m) (store n) refl lender) by.wrote;
          own = by.own;
          end = by.end;
          contents = λ o i. goes_follow _ _ h (lent x m) (lent x n) back o (follows o (agree o (began_within x m o i)));
        }

    home_touched : (m : M) → IsIn (object.Text p.home) (tells_executing ways store serving lending whose p me m).touched
    home_touched m = in_left (object.Text p.home) (begin_touched me.part p.home whose (store m)) (rest (seen m) m).touched (home_in me.part p.home whose (store m))

    began : Goes (λ m. tells_executing ways store serving lending whose p me m) (λ m. executes_by ways store serving lending whose p me m)
    began = record {
      alike = λ m n agree.
          let front : AgreeOn (loan_touched me.part p.home whose (store m)) (store m) (store n) =
          λ o i. agree o (in_left o (begin_touched me.part p.home whose (store m)) (rest (seen m) m).touched (in_begin me.part p.home whose (store m) o i)) in
          let same : seen m ≡ seen n = seen_same me.part p.home whose (store m) (store n) front in
          let by = began_alike (seen m) m n agree in
          record {
            touches = by.touches ∙ ap (λ (x : SeenLent). (says_all x n).touched) same;
            wrote = by.wrote ∙ ap (λ (x : SeenLent). (says_all x n).written) same;
            own = by.own ∙ ap (λ (x : SeenLent). (goes x n).me) same;
            end = by.end ∙ ap (λ (x : SeenLent). (goes x n).end) same;
            contents = λ o i. by.contents o i ∙ ap (λ (x : SeenLent). content (store (goes x n).after) o) same;
          };
      others = began_others;
      within = λ m o i. began_within (seen m) m o i;
    }

  by_statement : (p : Place) (me : Private) → Goes (λ m. told_by ways store serving lending (rule.Execute p) me m) (λ m. executes ways store serving lending p me m)
  by_statement p me = record {
    alike = λ m n agree.
        let whose = whose_by p me (store m) in
        let same : whose_by p me (store m) ≡ whose_by p me (store n) = ap (λ (t : TextState). wanted_at p me t.lines) (same_text p.home (store m) (store n) (agree (object.Text p.home) (home_touched p whose me m))) in
        let by = (began p whose me).alike m n agree in
        record {
          touches = by.touches ∙ ap (λ (x : At). (tells_executing ways store serving lending x p me n).touched) same;
          wrote = by.wrote ∙ ap (λ (x : At). (tells_executing ways store serving lending x p me n).written) same;
          own = by.own ∙ ap (λ (x : At). (executes_by ways store serving lending x p me n).me) same;
          end = by.end ∙ ap (λ (x : At). (executes_by ways store serving lending x p me n).end) same;
          contents = λ o i. by.contents o i ∙ ap (λ (x : At). content (store (executes_by ways store serving lending x p me n).after) o) same;
        };
    others = λ m o out. (began p (whose_by p me (store m)) me).others m o out;
    within = λ m o i. (began p (whose_by p me (store m)) me).within m o i;
  }

  -- the six rules
  by_rule : (r : Rule) (me : Private) → Goes (λ m. told_by ways store serving lending r me m) (λ m. steps_by ways store serving lending r me m)
  by_rule rule.Reset me = by_answer me (gives_back me) (λ _. resets me)
  by_rule rule.Halt me = by_itself me.part (halted me)
  by_rule rule.Show me = let a = shows_output me in by_answer me a (λ x. shown_by a x me)
  by_rule rule.Insert me = by_answer me (inserts_literal me) (λ x. typed_by_key x me)
  by_rule rule.Read me = by_line me
  by_rule rule.Put me = by_answer me (puts_numbered me) (λ x. put_by x me)
  by_rule (rule.Execute p) me = by_statement p me

  pub steps_are_local : StepsAreLocal ways store serving lending
  steps_are_local me = by_rule (due me) (without_halt me)
