-- A program is told by its sectors, so that what is loaded is what was saved.
use Rattle.std.proofs.Common.{◌≡◌, ℕ, ◌+◌, ◌/◌, ◌<◌, Bool, true, false, cond, List, [], ◌∷◌, ◌++◌, get_or, Some, None, refl, sym, ap, ap₂, subst, ◌∙◌, inl, inr, arith, append_assoc}
use Rattle.std.specs.Prelude.{not}
use Rattle.b2_base.specs.declared.codes.TheConstants.{A01_TEXT_AREA, D82_NO_FILE, D89_OTHER_KIND}
use Rattle.b2_catalog.specs.declared.entry.Entry.{Entry}
use Rattle.b2_text.specs.Program.{Lines, TextState, size_of}
use Rattle.b2_progfile.specs.Programs.{Ascending, all_line_bytes, line_bytes}
use Rattle.b2_progfile.specs.Loading.{FileSpells, load_refusal, loaded, merged}
use Rattle.b2_progfile.specs.Laws.{FilesAreLoaded, FilesAreRefusedBySize, ProgramsAreTold}
use Rattle.b2_progfile.proofs.Merging.{merged-program}
use Rattle.b2_progfile.proofs.Parsing.{program-parts, same-line}

one-program : (least : ℕ) (a b : Lines) (y z : List ℕ) → Ascending least a → Ascending least b → all_line_bytes a ++ 255 ∷ 255 ∷ y ≡ all_line_bytes b ++ 255 ∷ 255 ∷ z → a ≡ b
one-program least [] [] y z h k e = refl
one-program least [] (m ∷ b) y z h k e = let bad : 255 ≡ m.0 / 256 = ap (λ (xs : List ℕ). get_or xs 0 0) e in absurd (omega (arith, bad, k.1))
one-program least (l ∷ a) [] y z h k e = let bad : l.0 / 256 ≡ 255 = ap (λ (xs : List ℕ). get_or xs 0 0) e in absurd (omega (arith, bad, h.1))
one-program least (l ∷ a) (m ∷ b) y z h k e =
    let s = same-line l m (all_line_bytes a ++ 255 ∷ 255 ∷ y) (all_line_bytes b ++ 255 ∷ 255 ∷ z)
    (sym (append_assoc (line_bytes l) (all_line_bytes a) (255 ∷ 255 ∷ y)) ∙ (e ∙ append_assoc (line_bytes m) (all_line_bytes b) (255 ∷ 255 ∷ z))) in
    let first : l ≡ m = ap₂ (λ (n : ℕ) (t : List ℕ). (n, t)) s.0 s.1 in
    let rest = one-program (l.0 + 1) a b y z h.3 (subst (λ (n : ℕ). Ascending (n + 1) b) (sym s.0) k.3) s.2 in
    ap₂ (λ (x : ℕ × List ℕ) (xs : Lines). x ∷ xs) first rest

pub programs-told : ProgramsAreTold
programs-told a b sectors p q =
    one-program 0 a b _ _ p.text.ascending q.text.ascending
    (sym (program-parts a _) ∙ (sym p.text.same ∙ (q.text.same ∙ program-parts b _)))

some-entry : (e f : Entry) → Some e ≡ Some f → e ≡ f
some-entry e f h = cc

none-both : (b : Bool) → cond {A = Lines} b [] [] ≡ []
none-both true = refl
none-both false = refl

alone : (replace : Bool) (lines : Lines) (old : TextState) → Ascending 0 lines → old.lines ≡ [] → loaded replace lines old.lines ≡ lines
alone replace lines old h none = ap (λ (ls : Lines). merged lines (cond replace [] ls)) none ∙ (ap (merged lines) (none-both replace) ∙ merged-program lines h)

pub files-loaded : FilesAreLoaded
files-loaded image name e lines replace old new there is none l =
    let same = some-entry l.e e (sym l.file ∙ there) in
    let one : l.lines ≡ lines = programs-told l.lines lines _ (subst (λ (g : Entry). FileSpells image g l.lines) same l.spelled) is.spelled in
    l.same ∙ ap (λ (ls : Lines). record old { lines = ls }) (ap (λ (ls : Lines). loaded replace ls old.lines) one ∙ alone replace lines old is.spelled.text.ascending none)

not-refused : (e : Entry) (code : ℕ) → e.live ≡ true → e.program ≡ true → load_refusal (Some e) ≡ Some code → ⊥
not-refused e code live kind h =
    let none : load_refusal (Some e) ≡ None = ap₂ (λ (l p : Bool). cond (not l) (Some D82_NO_FILE) (cond p None (Some D89_OTHER_KIND))) live kind in
    let bad : None ≡ Some code = sym none ∙ h in cc

pub files-refused : FilesAreRefusedBySize
files-refused image name e lines replace text code there is none h =
    elim h as (λ _. (code ≡ A01_TEXT_AREA) × (text.area < size_of lines)) [
      | inl refused ↦ absurd (not-refused e code is.live is.kind (sym (ap load_refusal there) ∙ refused))
      | inr f ↦ (
          let same = some-entry f.0 e (sym f.1 ∙ there) in
          elim f.3 as (λ _. (code ≡ A01_TEXT_AREA) × (text.area < size_of lines)) [
            | inl bad ↦ absurd (bad.1 lines (subst (λ (g : Entry). FileSpells image g lines) (sym same) is.spelled))
            | inr large ↦ (
                let one : large.0 ≡ lines = programs-told large.0 lines _ (subst (λ (g : Entry). FileSpells image g large.0) same large.1) is.spelled in
                let size = ap size_of (ap (λ (ls : Lines). loaded replace ls text.lines) one ∙ alone replace lines text is.spelled.text.ascending none) in
                (large.2, omega (arith, large.3, size))
                )
          ]
          )
    ]
