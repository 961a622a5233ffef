-- The partitions of a boot that are apart, one after another.
use Rattle.std.proofs.Common.{◌≡◌, ℕ, ◌+◌, ◌<◌, ◌++◌, Bool, true, false, List, ◌∷◌, length, drop, get_or, refl, sym, ap, ◌∙◌, append_assoc, if◌then◌else◌}
use Rattle.std.proofs.lemmas.List.{drop_more}
use Rattle.b2_audit.specs.Marks.{Marks, is_clean}
use Rattle.b2_boot.specs.declared.boot.BootPartition.{BootPartition}
use Rattle.b2_mvp.specs.Outputs.{apart_in, listed_where}

one_or_none : (b : Bool) (n : ℕ) (ns : List ℕ) → listed_where b n ++ ns ≡ (if b then n ∷ ns else ns)
one_or_none true n ns = refl
one_or_none false n ns = refl

-- one more is looked at
pub one_more_apart : (marks : Marks) (ps : List BootPartition) (i : ℕ) (p : BootPartition) (old new : List ℕ) → i < length ps → p ≡ get_or ps i p → new ≡ old ++ listed_where (is_clean p.number marks) p.number
    → new ++ apart_in marks (drop (i + 1) ps) ≡ old ++ apart_in marks (drop i ps)
one_more_apart marks ps i p old new within is grown =
    let here : drop i ps ≡ p ∷ drop (i + 1) ps = drop_more ps i p within ∙ ap (λ (q : BootPartition). q ∷ drop (i + 1) ps) (sym is) in
    let rest = apart_in marks (drop (i + 1) ps) in
    ap (λ (ns : List ℕ). ns ++ rest) grown
    ∙ append_assoc old (listed_where (is_clean p.number marks) p.number) rest
    ∙ ap (λ (ns : List ℕ). old ++ ns) (one_or_none (is_clean p.number marks) p.number rest)
    ∙ ap (λ (qs : List BootPartition). old ++ apart_in marks qs) (sym here)
