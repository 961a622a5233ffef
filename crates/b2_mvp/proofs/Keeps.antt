-- Keeps one after another.
use Rattle.std.proofs.Common.{◌≡◌, ℕ, zero, suc, ◌+◌, ◌-◌, ◌≤◌, List, [], ◌∷◌, ◌++◌, map, Option, refl, sym, ap, subst, ◌∙◌, append_assoc, append-nil, arith}
use Rattle.b2_base.specs.Counts.{Rose}
use Rattle.b2_base.specs.Files.{Files, with_file, without_file}
use Rattle.b2_base.specs.Seen.{ShelfSeen}
use Rattle.b2_access.specs.declared.objects.Object.TheVariants as object
use Rattle.b2_access.specs.Store.{StoreState, content}
use Rattle.b2_mvp.specs.Outputs.{Output, kept_at, transcript, transcripts_to, with_files, FailsKeep, CannotKeep}
use Rattle.b2_status.specs.declared.status.Status.{Status}
use Rattle.b2_status.specs.declared.status.Status.TheVariants as status

-- a count that rose later rose from before
pub rose_later : (old mid new : ℕ) → old ≤ mid → Rose mid new → Rose old new
rose_later old mid new h r = omega arith

-- some keeps, and then others
pub with_files_append : (xs ys : List Output) (files : Option Files) → with_files (xs ++ ys) files ≡ with_files ys (with_files xs files)
with_files_append [] ys files = refl
with_files_append (x ∷ xs) ys files = with_files_append xs ys (with_file x.name x.bytes files)

-- one more transcript
pub kept_more : (out : List ℕ) (s : StoreState) (t n : ℕ) (first mid last : Option Files) → n ≡ suc t
    → mid ≡ with_files (transcripts_to out s t) first
    → last ≡ with_files (transcript out n (content s (object.Terminal n))) mid
    → last ≡ with_files (transcripts_to out s n) first
kept_more out s t n first mid last is so_far =
    subst (λ (k : ℕ). last ≡ with_files (transcript out k (content s (object.Terminal k))) mid → last ≡ with_files (transcripts_to out s k) first) (sym is)
    (λ more.
    more ∙ ap (with_files (transcript out (suc t) (content s (object.Terminal (suc t))))) so_far
    ∙ sym (with_files_append (transcripts_to out s t) (transcript out (suc t) (content s (object.Terminal (suc t)))) first))

-- the transcripts up to a terminal come first among those up to a later one
first_ones : (out : List ℕ) (s : StoreState) (t n m : ℕ) → m ≡ n + t → (rest : List Output) × (transcripts_to out s m ≡ transcripts_to out s t ++ rest)
first_ones out s t zero m is = let same : m ≡ t = omega arith in ([], ap (transcripts_to out s) same ∙ sym (append-nil (transcripts_to out s t)))
first_ones out s t (suc n) zero is = absurd (omega arith)
first_ones out s t (suc n) (suc m) is =
    let h = first_ones out s t n m (omega arith) in (
      h.0 ++ transcript out (suc m) (content s (object.Terminal (suc m))),
      ap (λ os. os ++ transcript out (suc m) (content s (object.Terminal (suc m)))) h.1 ∙ append_assoc (transcripts_to out s t) h.0 _,
    )

-- a keep that fails among more
fails_among : (done xs rest all : List Output) (at : List ℕ) (first mid last : Option Files) → all ≡ (done ++ xs) ++ rest → mid ≡ with_files done first
    → FailsKeep xs at mid last → FailsKeep all at first last
fails_among done xs rest all at first mid last is so_far h = record {
  done = done ++ h.done;
  bytes = h.bytes;
  left = h.left ++ rest;
  in_order =
      is ∙ ap (λ ys. (done ++ ys) ++ rest) h.in_order
      ∙ ap (λ ys. ys ++ rest) (sym (append_assoc done h.done (record { name = at; bytes = h.bytes } ∷ h.left)))
      ∙ append_assoc (done ++ h.done) (record { name = at; bytes = h.bytes } ∷ h.left) rest;
  files = h.files ∙ ap (without_file at) (ap (with_files h.done) so_far ∙ sym (with_files_append done h.done first));
}

-- the same with its status
among : (done xs rest all : List Output) (first mid last : ShelfSeen) (s : Status) → all ≡ (done ++ xs) ++ rest → mid.files ≡ with_files done first.files
    → first.faults ≤ mid.faults → CannotKeep xs mid last s → CannotKeep all first last s
among done xs rest all first mid last status.Ok is so_far later h = absurd h
among done xs rest all first mid last status.Usage is so_far later h = absurd h
among done xs rest all first mid last (status.Missing at) is so_far later h = absurd h
among done xs rest all first mid last (status.ReadFault at) is so_far later h = absurd h
among done xs rest all first mid last (status.TooLong at limit) is so_far later h = absurd h
among done xs rest all first mid last (status.BadBoot check) is so_far later h = absurd h
among done xs rest all first mid last (status.BadLog line check) is so_far later h = absurd h
among done xs rest all first mid last (status.BadImage address check) is so_far later h = absurd h
among done xs rest all first mid last (status.WriteFault at) is so_far later h =
    (fails_among done xs rest all at first.files mid.files last.files is so_far h.0, rose_later _ _ _ later h.1)
among done xs rest all first mid last status.NoMemory is so_far later h = absurd h
among done xs rest all first mid last (status.KeepNoMemory at) is so_far later h = fails_among done xs rest all at first.files mid.files last.files is so_far h

-- the transcript of a terminal fails among those of all
pub terminal_fails : (out : List ℕ) (s : StoreState) (t n m : ℕ) (first mid last : ShelfSeen) (st : Status) → n ≡ suc t → n ≤ m
    → mid.files ≡ with_files (transcripts_to out s t) first.files → first.faults ≤ mid.faults
    → CannotKeep (transcript out n (content s (object.Terminal n))) mid last st → CannotKeep (transcripts_to out s m) first last st
terminal_fails out s t n m first mid last st is within so_far later h =
    let rest = first_ones out s (suc t) (m - suc t) m (omega arith) in
    among (transcripts_to out s t) (transcript out (suc t) (content s (object.Terminal (suc t)))) rest.0 _ first mid last st rest.1 so_far later
    (subst (λ (k : ℕ). CannotKeep (transcript out k (content s (object.Terminal k))) mid last st) is h)

-- a keep of one file, by a name that is this one
pub one_fails : (spelled name bytes : List ℕ) (old new : Option Files) → spelled ≡ name → without_file spelled new ≡ without_file spelled old
    → FailsKeep (record { name = name; bytes = bytes } ∷ []) name old new
one_fails spelled name bytes old new is others =
    record { done = []; bytes = bytes; left = []; in_order = refl; files = subst (λ (n : List ℕ). without_file n new ≡ without_file n old) is others }

-- what is kept at the addresses of some devices, one after another
module _ {A : Type 0} (address : A → List ℕ) (here : List ℕ → List Output) where
  abbrev kept_of : List A → List Output
  kept_of ps = kept_at here (map address ps)

  kept_append : (ps qs : List A) → kept_of (ps ++ qs) ≡ kept_of ps ++ kept_of qs
  kept_append [] qs = refl
  kept_append (p ∷ ps) qs = ap (λ os. here (address p) ++ os) (kept_append ps qs) ∙ sym (append_assoc (here (address p)) (kept_of ps) (kept_of qs))

  -- one more
  pub device_more : (before : List A) (p : A) (first mid last : Option Files) → mid ≡ with_files (kept_of before) first → last ≡ with_files (here (address p)) mid
      → last ≡ with_files (kept_of (before ++ p ∷ [])) first
  device_more before p first mid last so_far more =
      more ∙ ap (with_files (here (address p))) so_far ∙ sym (with_files_append (kept_of before) (here (address p)) first)
      ∙ ap (λ os. with_files os first) (sym (kept_append before (p ∷ []) ∙ ap (λ os. kept_of before ++ os) (append-nil (here (address p)))))

  -- one that fails among all
  pub device_fails : (before after all : List A) (p : A) (first mid last : ShelfSeen) (st : Status) → all ≡ before ++ p ∷ after
      → mid.files ≡ with_files (kept_of before) first.files → first.faults ≤ mid.faults
      → CannotKeep (here (address p)) mid last st → CannotKeep (kept_of all) first last st
  device_fails before after all p first mid last st in_order so_far later h =
      among (kept_of before) (here (address p)) (kept_of after) (kept_of all) first mid last st
      (ap kept_of in_order ∙ kept_append before (p ∷ after) ∙ sym (append_assoc (kept_of before) (here (address p)) (kept_of after)))
      so_far later h

-- some keeps of which one fails, before others
pub first_fail : (xs ys : List Output) (first last : ShelfSeen) (st : Status) → CannotKeep xs first last st → CannotKeep (xs ++ ys) first last st
first_fail xs ys first last st h = among [] xs ys (xs ++ ys) first first last st refl refl (omega arith) h

-- and after others that were done
pub then_fail : (xs ys : List Output) (first mid last : ShelfSeen) (st : Status) → mid.files ≡ with_files xs first.files → first.faults ≤ mid.faults
    → CannotKeep ys mid last st → CannotKeep (xs ++ ys) first last st
then_fail xs ys first mid last st done later h = among xs ys [] (xs ++ ys) first mid last st (sym (append-nil (xs ++ ys))) done later h
