-- Names that are compared as words: the words of two are the same where their eight bytes are.
use Rattle.std.proofs.Common.{◌≡◌, ℕ, nat_eq, List, sym, ap, ◌∙◌}
use Rattle.std.specs.Int.{w64, from_be_bytes, to_be_bytes}
use Rattle.std.specs.Str.{bytes_eq}
use Rattle.std.proofs.lemmas.Bool.Decides.{Decides-eqb, Decides-like, same_from_decides}
use Rattle.std.proofs.lemmas.Nat.{be_bytes_8}
use Rattle.std.proofs.lemmas.Slice.Eq.{bytes_eq-Decides}
use Rattle.b2_store.specs.Names.{AreEight}

pub words_tell : (a b : List ℕ) (m n : ℕ) → AreEight a → AreEight b → m ≡ from_be_bytes w64 a → n ≡ from_be_bytes w64 b → nat_eq m n ≡ bytes_eq a b
words_tell a b m n whole_a whole_b is_m is_n =
    same_from_decides (nat_eq m n) (bytes_eq a b)
    (Decides-like (nat_eq m n)
    (λ same. sym (be_bytes_8 a m whole_a.eight whole_a.bytes is_m) ∙ ap (to_be_bytes w64) same ∙ be_bytes_8 b n whole_b.eight whole_b.bytes is_n)
    (λ same. is_m ∙ ap (from_be_bytes w64) same ∙ sym is_n)
    (Decides-eqb m n))
    (bytes_eq-Decides a b)
