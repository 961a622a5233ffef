-- A step leaves the list of devices of its partition as the access that it asks for and its answer say.
use Rattle.std.proofs.Common.{◌≡◌, ◌∙◌, refl, sym, ap, ℕ, Bool, true, false, if◌then◌else◌, List, [], ◌∷◌, ◌++◌, Option, Some, None, is_some, subst, inl, inr}
use Rattle.std.proofs.lemmas.List.{append-nil}
use Rattle.std.specs.Str.{bytes_eq}
use Rattle.b2_flow.specs.declared.frame.Place.{Place}
use Rattle.b2_syntax.specs.Reading.{reads}
use Rattle.b2_text.specs.Program.{Lines}
use Rattle.b2_text.specs.Spots.{first_opening, is_mark}
use Rattle.b2_access.specs.Lending.{SeenLent}
use Rattle.b2_access.specs.Loans.{lends}
use Rattle.b2_access.specs.KeyLiterals.{typed_by_mark}
use Rattle.b2_access.specs.Partition.{terminal_address}
use Rattle.b2_access.specs.Placed.{Statement, statement_placed}
use Rattle.b2_access.specs.Serving.{itself}
use Rattle.b2_access.specs.Reach.{device_objects, objects_held, to_free, to_take}
use Rattle.b2_access.specs.Store.{StoreState, IsIn, content}
use Rattle.b2_access.specs.declared.accesses.Access.{Access}
use Rattle.b2_access.specs.declared.accesses.Access.TheVariants as access
use Rattle.b2_access.specs.declared.accesses.Answer.{Answer}
use Rattle.b2_access.specs.declared.accesses.Answer.TheVariants as answer
use Rattle.b2_access.specs.declared.lending.At.{At}
use Rattle.b2_access.specs.declared.objects.Object.{Object}
use Rattle.b2_access.specs.declared.planned.Planned.{Planned}
use Rattle.b2_access.specs.declared.planned.Planned.TheVariants as planned
use Rattle.b2_access.specs.declared.private.Private.{Private}
use Rattle.b2_access.proofs.Choice.{either}
use Rattle.b2_access.proofs.Locality.{serves_is_local}
use Rattle.b2_language.specs.Languages.{Ways}
use Rattle.b2_machine.specs.Endings.{counts, repeats}
use Rattle.b2_machine.specs.Listed.{lists}
use Rattle.b2_machine.specs.Messages.{prints_text, shows_text}
use Rattle.b2_machine.specs.Statements.{Begun, begins, begins_where, begun_by, builder_of, finish_by, leaves, plan_by}
use Rattle.b2_machine.specs.Step.{StepEnd, carries_out, lent_to_begin, line_read, seen_by, step, steps_by, text_in, whose_by}
use Rattle.b2_machine.specs.Touched.{access_asked, asking, asks_by}
use Rattle.b2_machine.specs.Typing.{inserts_literal, on_own_line, output_pending, puts_numbered, shows_output, shows_pending}
use Rattle.b2_machine.specs.declared.statements.Builder.{Builder}
use Rattle.b2_machine.specs.declared.statements.Builder.TheVariants as builder
use Rattle.b2_machine.specs.declared.statements.Progress.{Progress}
use Rattle.b2_machine.specs.declared.statements.Progress.TheVariants as progress
use Rattle.b2_machine.proofs.OwnRules.{Own, ended_stays, line_stays, listed_stays, onward_stays, pressed_stays, put_stays, shown_stays, typed_stays}
use Rattle.b2_stmt_disk.specs.devices.Held.{held_after}
use Rattle.b2_store.specs.DiskWork.{disks, serves}
use Rattle.b2_audit.proofs.InParts.{freed_are_held, taken_are_held}
use Rattle.b2_sched.proofs.StepEnds.{begun_stays}
use Rattle.b2_sched.specs.Holding.{FinishesByAccess, IsLent, KeepTheList, held_where, is_globals}
use Rattle.b2_machine.specs.Due.{due}
use Rattle.b2_machine.specs.declared.rules.Rule.{Rule}
use Rattle.b2_machine.specs.declared.rules.Rule.TheVariants as rule
use Rattle.b2_machine.specs.Readiness.{without_halt}

-- what the machine's own rules leave has the same list
same_list : {x y : Own} → x ≡ y → x.held ≡ y.held
same_list is = ap (λ (o : Own). o.held) is

module _ (ways : Ways) (keep : KeepTheList ways) where
  listed_finishes : (from to : ℕ) (b : Bool) (range : ℕ × ℕ) (me : Private) (s : SeenLent) → FinishesByAccess (finish_by ways (builder.Listing from to)) (lists b range me s).planned
  listed_finishes from to true range me s = tt
  listed_finishes from to false range me s = λ a you t. refl

  planned_stays : (b : Builder) (p : Place) (me : Private) (s : SeenLent) → (plan_by ways b p me s).me.held ≡ me.held
  planned_stays (builder.Listing from to) p me s = same_list (listed_stays (is_some p.line) (from, to) me s)
  planned_stays (builder.Language r) p me s = keep.plans r me s
  planned_stays builder.Nobody p me s = refl

  planned_finishes : (b : Builder) (p : Place) (me : Private) (s : SeenLent) → FinishesByAccess (finish_by ways b) (plan_by ways b p me s).planned
  planned_finishes (builder.Listing from to) p me s = listed_finishes from to (is_some p.line) (from, to) me s
  planned_finishes (builder.Language r) p me s = keep.finishes r me s
  planned_finishes builder.Nobody p me s = tt

  -- one that has begun left the list, and finishes by its access
  abbrev FinishesIfItAsks : Progress → Type 0
  FinishesIfItAsks (progress.Ended e) = Unit {0}
  FinishesIfItAsks (progress.Asks x b w) = (a : Answer) (me : Private) (s : SeenLent) → (finish_by ways b x a me s).me.held ≡ held_after x a me.held

  record HasBegun (held : List (List ℕ)) (b : Begun) : Type 0 where
    pub same : b.me.held ≡ held
    pub goes : FinishesIfItAsks b.progress

  begun_goes : (held : List (List ℕ)) (x : Planned) (b : Builder) (p : Place) (me : Private) (home : Lines) → me.held ≡ held → FinishesByAccess (finish_by ways b) x → HasBegun held (begun_by x b p me home)
  begun_goes held (planned.Done o) b p me home is h = record { same = same_list (ended_stays counts o p me home) ∙ is; goes = tt }
  begun_goes held (planned.Ask x) b p me home is h = record { same = is; goes = h }

  begins_so : (u : Option Statement) (p : Place) (me : Private) (s : SeenLent) → HasBegun me.held (begins_where ways u p me s)
  begins_so None p me s = record { same = refl; goes = tt }
  begins_so (Some u) p me s =
      let b = builder_of ways u in
      let x = plan_by ways b p me s in
      begun_goes me.held x.planned b p x.me s.home.lines (planned_stays b p me s) (planned_finishes b p me s)

  -- ---- the rules of a step: none but a statement asks for devices to be taken or freed

  -- the list is as the access and its answer say, over whatever was lent
  abbrev SoLeft : List (List ℕ) → StepEnd StoreState → Option Access → ℕ → StoreState → Type 0
  SoLeft held e asks who s = e.me.held ≡ held_where asks who held s

  read_stays : (x : Answer) (me : Private) (s : StoreState) → (line_read itself serves lends x me s).me.held ≡ me.held
  read_stays (answer.Line bytes) me s = same_list (line_stays (reads bytes) (record me { term_column = 0 }))
  read_stays (answer.Special n) me s = let own = (text_in s me.part).lines in same_list (pressed_stays (typed_by_mark n own) (first_opening (is_mark n) own) me)
  read_stays x me s = refl

  -- what waits is shown at the terminal or at a printer
  pending_stays : (device text : List ℕ) (a : Answer) (me : Private) → held_after (shows_pending device text me) a me.held ≡ me.held
  pending_stays device text a me =
      either (λ (x : Access). held_after x a me.held ≡ me.held) (bytes_eq device terminal_address) (shows_text (on_own_line me.term_column text) me) (prints_text device text me) refl refl

  carried : (held : List (List ℕ)) (who : ℕ) (c : Progress) (p : Place) (whose : At) (me : Private) (s : StoreState) → me.held ≡ held → FinishesIfItAsks c
      → (carries_out ways itself serves lends who c p whose me s).me.held ≡ held_where (access_asked c) who held s
  carried held who (progress.Ended e) p whose me s is goes = is
  carried held who (progress.Asks x b w) p whose me s is goes =
      let g = serves s who x in
      let seen = seen_by who p.home whose g.after in
      let y = finish_by ways b x g.answer me seen in
      same_list (onward_stays (repeats g.answer) y.outcome w p y.me seen.home.lines) ∙ goes g.answer me seen ∙ ap (held_after x g.answer) is

  -- answers are the same over what is lent, where devices are taken or freed
  none_after : (o : Object) (xs : List Object) → IsIn o (xs ++ []) → IsIn o xs
  none_after o xs i = subst (IsIn o) (append-nil xs) i

  same_holders : (addrs : List (List ℕ)) (s u : StoreState) → IsLent s u → (o : Object) → IsIn o (objects_held addrs) → content u o ≡ content s o
  same_holders [] s u lent o i = absurd i
  same_holders (a ∷ addrs) s u lent o i = elim i [ inl e ↦ lent o (ap is_globals e) | inr j ↦ same_holders addrs s u lent o j ]

  pub lent_same : (x : Option Access) (who : ℕ) (held : List (List ℕ)) (s u : StoreState) → IsLent s u → held_where x who held u ≡ held_where x who held s
  lent_same None who held s u lent = refl
  lent_same (Some (access.OpenDevices addrs)) who held s u lent =
      ap (λ (y : Answer). held_after (access.OpenDevices addrs) y held)
      ((serves_is_local disks).alike who (access.OpenDevices addrs) u s (λ o i. same_holders addrs s u lent o (subst (IsIn o) (taken_are_held addrs) (none_after o (device_objects (to_take addrs).devices) i)))).answers
  lent_same (Some (access.CloseDevices addrs)) who held s u lent =
      ap (λ (y : Answer). held_after (access.CloseDevices addrs) y held)
      ((serves_is_local disks).alike who (access.CloseDevices addrs) u s (λ o i. same_holders addrs s u lent o (subst (IsIn o) (freed_are_held addrs) (none_after o (device_objects (to_free addrs).devices) i)))).answers
  lent_same (Some x) who held s u lent = refl

  by_rule : (r : Rule) (me : Private) (s : StoreState) → SoLeft me.held (steps_by ways itself serves lends r me s) (asks_by ways r me s) me.part s
  by_rule rule.Reset me s = refl
  by_rule rule.Halt me s = refl
  by_rule rule.Show me s =
      let x = shows_output me in
      let a = (serves s me.part x).answer in
      same_list (shown_stays x a me) ∙ sym (pending_stays (output_pending me).0 (output_pending me).1 a me)
  by_rule rule.Insert me s = same_list (typed_stays (serves s me.part (inserts_literal me)).answer me)
  by_rule rule.Read me s = let g = serves s me.part (access.ReadLine me.term) in read_stays g.answer me g.after
  by_rule rule.Put me s = same_list (put_stays (serves s me.part (puts_numbered me)).answer me)
  by_rule (rule.Execute p) me s =
      let whose = whose_by p me s in
      let seen = seen_by me.part p.home whose s in
      let left = leaves ways p me seen in
      let b = begins ways p me seen in
      let u = lent_to_begin itself serves lends me.part p.home whose s left in
      let so = begins_so (statement_placed p me.immediate seen.home.lines) p me seen in
      carried me.held me.part b.progress p whose b.me u so.same so.goes ∙ lent_same (access_asked b.progress) me.part me.held s u (λ o is. begun_stays me.part p.home whose left s o is)

  pub list_after : (me : Private) (s : StoreState) → SoLeft me.held (step ways itself serves lends me s) (asking ways me s) me.part s
  list_after me s = by_rule (due me) (without_halt me) s
