-- A group's own part has nothing of others: each terminal and each device of its boot, and each event of its log, is of a member that is
-- there; and what has nothing of others is its own part.
use Rattle.std.proofs.Common.{◌≡◌, ℕ, zero, suc, ◌+◌, ◌&&◌, Bool, true, false, cond, List, [], ◌∷◌, ◌++◌, refl, sym, ap, ◌∙◌}
use Rattle.std.specs.Prelude.{filter}
use Rattle.std.specs.List.{list_all}
use Rattle.std.proofs.lemmas.Bool.{and_from, and_parts, true≢false}
use Rattle.std.proofs.lemmas.List.Folds.{list_all-append}
use Rattle.b2_boot.specs.Alone.{alone, has_number, kept_if, may_be_used, own_boot, own_events, own_log, own_rounds, own_turns, stands_at}
use Rattle.b2_boot.specs.Boots.{BootState}
use Rattle.b2_boot.specs.Quotas.{quota_at, quotas_of}
use Rattle.b2_boot.specs.Laws.{PartsHaveNoLess, PartsHaveNoMore, is_own}
use Rattle.b2_boot.specs.declared.log.Event.{Event}
use Rattle.b2_boot.specs.declared.log.Event.TheVariants as event

all_kept : {A : Type 0} (k : A → Bool) (xs : List A) → list_all k (filter k xs) ≡ true
all_kept k [] = refl
all_kept k (x ∷ xs) = by (k x) refl (all_kept k xs)
  where
    by : (b : Bool) → k x ≡ b → list_all k (filter k xs) ≡ true → list_all k (cond b (x ∷ filter k xs) (filter k xs)) ≡ true
    by true is later = and_from (k x) (list_all k (filter k xs)) is later
    by false is later = later

module _ (b : BootState) where
  abbrev AreOwn : List Event → Type 0
  AreOwn es = list_all (is_own b) es ≡ true

  both_own : (xs ys : List Event) → AreOwn xs → AreOwn ys → AreOwn (xs ++ ys)
  both_own xs ys first second = list_all-append (is_own b) xs ys ∙ and_from (list_all (is_own b) xs) (list_all (is_own b) ys) first second

  own_if : (c : Bool) (e : Event) → (c ≡ true → is_own b e ≡ true) → AreOwn (kept_if c e)
  own_if true e own = and_from (is_own b e) true (own refl) refl
  own_if false e own = refl

  turns_own : (n p : ℕ) → AreOwn (own_turns b p n)
  turns_own zero p = refl
  turns_own (suc n) p =
      both_own (kept_if (has_number b.partitions p) (event.Turn p (quota_at p (quotas_of b)))) (own_turns b (p + 1) n) (own_if (has_number b.partitions p) (event.Turn p (quota_at p (quotas_of b))) (λ is. is)) (turns_own n (p + 1))

  rounds_own : (n : ℕ) → AreOwn (own_rounds b n)
  rounds_own zero = refl
  rounds_own (suc n) = both_own (own_turns b 1 16) (own_rounds b n) (turns_own 16 1) (rounds_own n)

  events_own : (e : Event) → AreOwn (own_events b e)
  events_own (event.Key t k) = own_if (stands_at b.partitions t) (event.Key t k) (λ is. is)
  events_own (event.Front t p) = own_if (stands_at b.partitions t) (event.Front t p) (λ is. is)
  events_own (event.Halt p) = own_if (has_number b.partitions p) (event.Halt p) (λ is. is)
  events_own (event.Reset p) = own_if (has_number b.partitions p) (event.Reset p) (λ is. is)
  events_own (event.Turn p n) = own_if (has_number b.partitions p) (event.Turn p n) (λ is. is)
  events_own (event.Rounds n) = rounds_own n

  log_own : (log : List Event) → AreOwn (own_log b log)
  log_own [] = refl
  log_own (e ∷ es) = both_own (own_events b e) (own_log b es) (events_own e) (log_own es)

pub parts_have_no_more : PartsHaveNoMore
parts_have_no_more group b log = record {
  members = all_kept (λ p. group p.number) b.partitions;
  terminals = all_kept (λ t. stands_at (alone group b).partitions t.number) b.terminals;
  platters = all_kept (λ d. may_be_used (alone group b).partitions d.only) b.platters;
  printers = all_kept (λ d. may_be_used (alone group b).partitions d.only) b.printers;
  events = log_own (alone group b) log;
}

-- those that all pass a test are all kept
kept_all : {A : Type 0} (k : A → Bool) (xs : List A) → list_all k xs ≡ true → filter k xs ≡ xs
kept_all k [] all = refl
kept_all {A = A} k (x ∷ xs) all =
    let (here, more) = and_parts (k x) (list_all k xs) all in
    ap (λ (b : Bool). cond b (x ∷ filter k xs) (filter k xs)) here ∙ ap (λ (ys : List A). x ∷ ys) (kept_all k xs more)

kept_event : (b : BootState) (e : Event) → is_own b e ≡ true → own_events b e ≡ e ∷ []
kept_event b (event.Key t k) own = ap (λ (c : Bool). kept_if c (event.Key t k)) own
kept_event b (event.Front t p) own = ap (λ (c : Bool). kept_if c (event.Front t p)) own
kept_event b (event.Halt p) own = ap (λ (c : Bool). kept_if c (event.Halt p)) own
kept_event b (event.Reset p) own = ap (λ (c : Bool). kept_if c (event.Reset p)) own
kept_event b (event.Turn p n) own = ap (λ (c : Bool). kept_if c (event.Turn p n)) own
kept_event b (event.Rounds n) own = absurd (true≢false (sym own))

kept_log : (b : BootState) (log : List Event) → list_all (is_own b) log ≡ true → own_log b log ≡ log
kept_log b [] own = refl
kept_log b (e ∷ es) own =
    let (here, more) = and_parts (is_own b e) (list_all (is_own b) es) own in
    ap (λ (xs : List Event). xs ++ own_log b es) (kept_event b e here) ∙ ap (λ (xs : List Event). e ∷ xs) (kept_log b es more)

pub parts_have_no_less : PartsHaveNoLess
parts_have_no_less group b log own =
    let terminals = kept_all (λ t. stands_at b.partitions t.number) b.terminals own.terminals in
    let platters = kept_all (λ d. may_be_used b.partitions d.only) b.platters own.platters in
    let printers = kept_all (λ d. may_be_used b.partitions d.only) b.printers own.printers in
    ((λ i. record b { terminals = terminals i; platters = platters i; printers = printers i }), kept_log b log own.events)
