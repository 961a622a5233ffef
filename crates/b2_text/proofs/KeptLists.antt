-- The lists of numbers that a text keeps stay so: empty, with a line put in, and with lines taken out; and there is room for what
-- fits in its area.
use Rattle.std.proofs.Common.{◌≡◌, ℕ, ◌*◌, ◌/◌, ◌≤◌, Bool, true, false, cond, List, [], ◌∷◌, length, refl, sym, ap, ◌∙◌, arith, nat_cmp}
use Rattle.std.proofs.lemmas.List.{length-map}
use Rattle.std.specs.List.Sorted.{IsStrictlySortedBy}
use Rattle.std.specs.Map.{keys_of}
use Rattle.b2_atom.specs.Lines.{KeepsUnits, is_line}
use Rattle.b2_atom.specs.declared.spans.Span.{Span}
use Rattle.b2_text.specs.Program.{Lines, size_of, with_line, without}
use Rattle.b2_text.specs.Blocks.{IsKept, holds_data, is_opening, lines_laid}
use Rattle.b2_text.specs.Members.{IsListed, lines_where, numbers_where, with_member, without_members}
use Rattle.b2_text.specs.declared.block.LinePlace.{LinePlace}
use Rattle.b2_text.proofs.FewUnits.{AreLines}
use Rattle.b2_text.proofs.Keeping.{lines_kept, lines_with}
use Rattle.b2_text.proofs.Listing.{numbers_with, numbers_without}

-- a text of no lines
pub listed_none : (area : ℕ) (block : List ℕ) (places : List LinePlace) (openers datas : List ℕ) (for_openers_ for_datas_ : ℕ) → places ≡ [] → openers ≡ [] → datas ≡ []
    → area / 7 ≤ for_openers_ → area / 7 ≤ for_datas_ → IsListed area (lines_laid block places) openers datas for_openers_ for_datas_
listed_none area block places openers datas for_openers_ for_datas_ none no_openers no_datas room places_ = record {
  opening = no_openers ∙ sym (ap (λ (ps : List LinePlace). numbers_where is_opening (lines_laid block ps)) none);
  holding = no_datas ∙ sym (ap (λ (ps : List LinePlace). numbers_where holds_data (lines_laid block ps)) none);
  for_openers = room;
  for_datas = places_;
}

-- a line put in
pub listed_with : (area n : ℕ) (a : List ℕ) (ls new : Lines) (openers datas o d : List ℕ) (oc dc oc_ dc_ : ℕ) → IsListed area ls openers datas oc dc
    → IsStrictlySortedBy nat_cmp (keys_of ls) → new ≡ with_line n a ls → o ≡ with_member (is_opening a) n openers → d ≡ with_member (holds_data a) n datas → oc ≤ oc_ → dc ≤ dc_
    → IsListed area new o d oc_ dc_
listed_with area n a ls new openers datas o d oc dc oc_ dc_ listed ordered is opening holding more more_datas = record {
  opening = opening ∙ ap (with_member (is_opening a) n) listed.opening ∙ sym (numbers_with is_opening n a ls ordered) ∙ sym (ap (numbers_where is_opening) is);
  holding = holding ∙ ap (with_member (holds_data a) n) listed.holding ∙ sym (numbers_with holds_data n a ls ordered) ∙ sym (ap (numbers_where holds_data) is);
  for_openers = omega (arith, listed.for_openers, more);
  for_datas = omega (arith, listed.for_datas, more_datas);
}

-- lines taken out
pub listed_without : (area from to : ℕ) (ls new : Lines) (openers datas o d : List ℕ) (oc dc oc_ dc_ : ℕ) → IsListed area ls openers datas oc dc
    → new ≡ without from to ls → o ≡ without_members from to openers → d ≡ without_members from to datas → oc ≤ oc_ → dc ≤ dc_
    → IsListed area new o d oc_ dc_
listed_without area from to ls new openers datas o d oc dc oc_ dc_ listed is opening holding more more_datas = record {
  opening = opening ∙ ap (without_members from to) listed.opening ∙ sym (numbers_without is_opening from to ls) ∙ sym (ap (numbers_where is_opening) is);
  holding = holding ∙ ap (without_members from to) listed.holding ∙ sym (numbers_without holds_data from to ls) ∙ sym (ap (numbers_where holds_data) is);
  for_openers = omega (arith, listed.for_openers, more);
  for_datas = omega (arith, listed.for_datas, more_datas);
}

-- lines that have two bytes take at least seven
few_by : (b : Bool) (l : ℕ × List ℕ) (ls fs : Lines) → (b ≡ true → 2 ≤ length l.1) → 7 * length fs ≤ size_of ls → 7 * length (cond b (l ∷ fs) fs) ≤ size_of (l ∷ ls)
few_by true l ls fs long rest = let here = long refl in omega (arith, here, rest)
few_by false l ls fs long rest = omega (arith, rest)

few_listed : (test : List ℕ → Bool) → ((a : List ℕ) → is_line a ≡ true → test a ≡ true → 2 ≤ length a) → (ls : Lines) → AreLines ls → 7 * length (lines_where test ls) ≤ size_of ls
few_listed test long [] all = omega arith
few_listed test long (l ∷ ls) all = few_by (test l.1) l ls (lines_where test ls) (long l.1 all.0) (few_listed test long ls all.1)

pub room_listed : (test : List ℕ → Bool) → ((a : List ℕ) → is_line a ≡ true → test a ≡ true → 2 ≤ length a)
    → (area n : ℕ) (a : List ℕ) (spans : List Span) (block : List ℕ) (places : List LinePlace) (units : List Span) (ns : List ℕ) (room : ℕ)
    → IsKept area block places units → KeepsUnits a spans → size_of (with_line n a (lines_laid block places)) ≤ area → ns ≡ numbers_where test (lines_laid block places) → area / 7 ≤ room
    → length (with_member (test a) n ns) ≤ room
room_listed test long area n a spans block places units ns room kept line fits listed enough =
    let ls = lines_laid block places in
    let all = lines_with n a ls line.line_is (lines_kept ls units kept.spans) in
    let few = few_listed test long (with_line n a ls) all in
    let same = ap (λ (ms : List ℕ). length ms) (ap (with_member (test a) n) listed ∙ sym (numbers_with test n a ls kept.ordered)) in
    let count = length-map (lines_where test (with_line n a ls)) (λ (l : ℕ × List ℕ). l.0) in
    omega (arith, few, fits, same, count, enough)
