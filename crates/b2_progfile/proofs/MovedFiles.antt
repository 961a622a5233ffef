-- Files that are all moved: each is there, in its order, and no other.
use Rattle.std.proofs.Common.{◌≡◌, ℕ, zero, suc, ◌+◌, ◌-◌, ◌<◌, ◌≤◌, ◌⊎◌, Bool, true, false, cond, List, [], ◌∷◌, drop, get_or, Some, None, refl, sym, ap, ap₂, subst, ◌∙◌, inl, inr, arith}
use Rattle.std.specs.Str.{bytes_eq}
use Rattle.std.specs.Cmp.Lexicographic.{slice_cmp}
use Rattle.std.specs.Ordering.{nat_cmp}
use Rattle.std.specs.FinMap.{empty, get, get-empty, insert}
use Rattle.std.proofs.lemmas.Slice.Eq.{bytes_eq-Decides}
use Rattle.b2_platter.specs.Image.{index_of, sector, sectors_at}
use Rattle.b2_platter.specs.Checks.{IsGood}
use Rattle.b2_catalog.specs.declared.entry.Entry.{Entry}
use Rattle.b2_catalog.specs.Catalogue.{Catalogue, catalogue}
use Rattle.b2_catalog.proofs.DataSectors.{get-put}
use Rattle.b2_progfile.specs.Programs.{SpellsProgram}
use Rattle.b2_progfile.specs.Moving.{IsLiveFile, all_sectors, entry_from, own_sectors}
use Rattle.b2_progfile.specs.MovingAll.{AllLive, HasSectors, InOrder, IsAmong, MovedAll, with_more_files}
use Rattle.b2_progfile.specs.Laws.{FilesAreMoved, FilesKeepTheirOrder, NothingElseIsMoved, ProgramsAreMoved}
use Rattle.b2_catalog.proofs.MadeFiles.{get-other}
use Rattle.b2_progfile.proofs.Files.{AllOther, inside-of, other-kept, other-names}

-- ---- each is there

untouched : (files : List Entry) (next : ℕ) (m : Catalogue) (q : List ℕ) → AllOther q files → get (with_more_files next files m) q ≡ get m q
untouched [] next m q other = refl
untouched (f ∷ files) next m q other =
    untouched files (next + all_sectors f) (insert m f.name (entry_from next f)) q other.1 ∙ other-kept m f.name q (entry_from next f) (λ h. other.0 (sym h))

pub record Found (from new : List ℕ) (m : Catalogue) (next : ℕ) (e : Entry) : Type 0 where
  pub start : ℕ
  pub low : next ≤ start
  pub there : get m e.name ≡ Some (entry_from start e)
  pub kept : sectors_at new start (e.end - e.start) ≡ own_sectors from e

module _ (from new : List ℕ) (source : IsGood from) where
  pub found : (files : List Entry) (next least : ℕ) (m : Catalogue) (e : Entry) → AllLive from files → InOrder least files → HasSectors from new next files → IsAmong e files
      → Found from new (with_more_files next files m) next e
  found [] next least m e live ordered has among = absurd among
  found (f ∷ files) next least m e live ordered has among =
      elim among as (λ _. Found from new (with_more_files next (f ∷ files) m) next e) [
        | inl same ↦ (
            let inside = inside-of from source f live.0 in
            let others = other-names from source f (f.end + 1) files live.0 (omega (arith, inside.order)) live.1 ordered.1 in
            subst (λ (g : Entry). Found from new (with_more_files next (f ∷ files) m) next g) (sym same)
            (record {
              start = next;
              low = omega arith;
              there = untouched files (next + all_sectors f) (insert m f.name (entry_from next f)) f.name others ∙ get-put m f.name (entry_from next f);
              kept = has.0;
            })
            )
        | inr later ↦ (
            let rest = found files (next + all_sectors f) (f.end + 1) (insert m f.name (entry_from next f)) e live.1 ordered.1 has.1 later in
            record { start = rest.start; low = (let l = rest.low in omega (arith, l)); there = rest.there; kept = rest.kept }
            )
      ]

  starts-late : (files : List Entry) (least : ℕ) (e : Entry) → AllLive from files → InOrder least files → IsAmong e files → least ≤ e.start
  starts-late [] least e live ordered among = absurd among
  starts-late (f ∷ files) least e live ordered among =
      let inside = inside-of from source f live.0 in
      elim among as (λ _. least ≤ e.start) [
        | inl same ↦ subst (λ (g : Entry). least ≤ g.start) (sym same) ordered.0
        | inr later ↦ (let rest = starts-late files (f.end + 1) e live.1 ordered.1 later in omega (arith, rest, ordered.0, inside.order))
      ]

moved-at : (from to new : List ℕ) (e : Entry) (source : IsGood from) (a : MovedAll from to new) → IsLiveFile from e → Found from new (catalogue new) (index_of to) e
moved-at from to new e source a live =
    subst (λ (m : Catalogue). Found from new m (index_of to) e) (sym a.catalogued)
    (found from new source a.files (index_of to) 0 empty e a.are.live a.are.ordered a.kept (a.are.all e live))

pub files-moved : FilesAreMoved
files-moved from to new e source a live = let f = moved-at from to new e source a live in (f.start, f.there, f.kept)

-- ---- no other is there

abbrev pub IsOne : List ℕ → List Entry → List ℕ → Entry → Type 0
IsOne from files name n = (e : Entry) × IsLiveFile from e × (e.name ≡ name) × (n ≡ entry_from n.start e)

started : (n e : Entry) (next : ℕ) → n ≡ entry_from next e → n ≡ entry_from n.start e
started n e next h = let s : n.start ≡ next = ap (λ (f : Entry). f.start) h in h ∙ ap (λ (k : ℕ). entry_from k e) (sym s)

some-same : (e f : Entry) → Some e ≡ Some f → e ≡ f
some-same e f h = cc

own-or-before : (from : List ℕ) (files : List Entry) (m : Catalogue) (f n : Entry) (next : ℕ) (q : List ℕ) (b : Bool) → bytes_eq f.name q ≡ b → IsLiveFile from f → cond b (Some (entry_from next f)) (get m q) ≡ Some n
    → (get m q ≡ Some n) ⊎ IsOne from files q n
own-or-before from files m f n next q true is live h = inr (f, live, (bytes_eq-Decides f.name q).0 is, started n f next (sym (some-same (entry_from next f) n h)))
own-or-before from files m f n next q false is live h = inl h

traced : (from : List ℕ) (files : List Entry) (next : ℕ) (m : Catalogue) (q : List ℕ) (n : Entry) → AllLive from files → get (with_more_files next files m) q ≡ Some n → (get m q ≡ Some n) ⊎ IsOne from files q n
traced from [] next m q n live h = inl h
traced from (f ∷ files) next m q n live h =
    elim (traced from files (next + all_sectors f) (insert m f.name (entry_from next f)) q n live.1 h) as (λ _. (get m q ≡ Some n) ⊎ IsOne from (f ∷ files) q n) [
      | inl before ↦ own-or-before from (f ∷ files) m f n next q (bytes_eq f.name q) refl live.0 (sym (get-other m f.name q (entry_from next f)) ∙ before)
      | inr one ↦ inr one
    ]

none-some : (n : Entry) → None ≡ Some n → ⊥
none-some n h = cc

pub nothing-else : NothingElseIsMoved
nothing-else from to new name n a there =
    elim (traced from a.files (index_of to) empty name n a.are.live (ap (λ (m : Catalogue). get m name) (sym a.catalogued) ∙ there)) as (λ _. IsOne from a.files name n) [
      | inl none ↦ absurd (none-some n (sym (get-empty (slice_cmp nat_cmp) name) ∙ none))
      | inr one ↦ one
    ]

-- ---- their order

abbrev pub StartsBefore : Catalogue → Entry → Entry → Type 0
StartsBefore m e f = (k l : ℕ) → get m e.name ≡ Some (entry_from k e) → get m f.name ≡ Some (entry_from l f) → k < l

same-start : (m : Catalogue) (e : Entry) (k l : ℕ) → get m e.name ≡ Some (entry_from k e) → get m e.name ≡ Some (entry_from l e) → k ≡ l
same-start m e k l a b = ap (λ (f : Entry). f.start) (some-same (entry_from k e) (entry_from l e) (sym a ∙ b))

module _ (from new : List ℕ) (source : IsGood from) where
  in-order : (files : List Entry) (next least : ℕ) (m : Catalogue) (e f : Entry) → AllLive from files → InOrder least files → HasSectors from new next files → IsAmong e files → IsAmong f files → e.start < f.start
      → StartsBefore (with_more_files next files m) e f
  in-order [] next least m e f live ordered has a b h = absurd a
  in-order (g ∷ files) next least m e f live ordered has a b h =
      let inside = inside-of from source g live.0 in
      let all = with_more_files next (g ∷ files) m in
      let rest = insert m g.name (entry_from next g) in
      elim b as (λ _. StartsBefore all e f) [
        | inl same ↦ elim a as (λ _. StartsBefore all e f) [
          | inl first ↦ (let x = ap (λ (x : Entry). x.start) same in let y = ap (λ (x : Entry). x.start) first in absurd (omega (arith, x, y, h)))
          | inr later ↦ (let late = starts-late from new source files (g.end + 1) e live.1 ordered.1 later in let x = ap (λ (x : Entry). x.start) same in absurd (omega (arith, late, x, h, inside.order)))
        ]
        | inr second ↦ elim a as (λ _. StartsBefore all e f) [
          | inl first ↦ λ k l u v. (
              let own = found from new source (g ∷ files) next least m e live ordered has (inl first) in
              let others = other-names from source g (g.end + 1) files live.0 (omega (arith, inside.order)) live.1 ordered.1 in
              let there = untouched files (next + all_sectors g) rest g.name others ∙ get-put m g.name (entry_from next g) in
              let begin : k ≡ next = same-start all g k next (subst (λ (x : Entry). get all x.name ≡ Some (entry_from k x)) first u) there in
              let after = found from new source files (next + all_sectors g) (g.end + 1) rest f live.1 ordered.1 has.1 second in
              let end : l ≡ after.start = same-start all f l after.start v after.there in
              omega (arith, begin, end, after.low)
              )
          | inr later ↦ in-order files (next + all_sectors g) (g.end + 1) rest e f live.1 ordered.1 has.1 later second h
        ]
      ]

pub order-kept : FilesKeepTheirOrder
order-kept from to new e f m n source a live other first second h =
    let p = moved-at from to new e source a live in
    let q = moved-at from to new f source a other in
    let x : m.start ≡ p.start = ap (λ (x : Entry). x.start) (some-same m (entry_from p.start e) (sym first ∙ p.there)) in
    let y : n.start ≡ q.start = ap (λ (x : Entry). x.start) (some-same n (entry_from q.start f) (sym second ∙ q.there)) in
    let before = in-order from new source a.files (index_of to) 0 empty e f a.are.live a.are.ordered a.kept (a.are.all e live) (a.are.all f other) h p.start q.start
    (ap (λ (c : Catalogue). get c e.name) (sym a.catalogued) ∙ p.there) (ap (λ (c : Catalogue). get c f.name) (sym a.catalogued) ∙ q.there) in
    omega (arith, x, y, before)

-- ---- programs

front-same : (a b : List ℕ) (i j n m : ℕ) → m ≤ n → sectors_at a i n ≡ sectors_at b j n → sectors_at a i m ≡ sectors_at b j m
front-same a b i j n zero h e = refl
front-same a b i j zero (suc m) h e = absurd (omega (arith, h))
front-same a b i j (suc n) (suc m) h e =
    let first : sector a i ≡ sector b j = ap (λ (s : List (List ℕ)). get_or s 0 []) e in
    let rest : sectors_at a (i + 1) n ≡ sectors_at b (j + 1) n = ap (drop 1) e in
    ap₂ (λ (s : List ℕ) (ss : List (List ℕ)). s ∷ ss) first (front-same a b (i + 1) (j + 1) n m (omega (arith, h)) rest)

pub programs-moved : ProgramsAreMoved
programs-moved from to new e lines source a live is =
    let f = moved-at from to new e source a live in
    let inside = inside-of from source e live in
    let same = front-same new from f.start e.start (e.end - e.start) e.used inside.few f.kept in
    rw f.there (record { live = is.live; kind = is.kind; spelled = subst (SpellsProgram lines) (sym same) is.spelled })
