-- A reading finds no key that ends the line exactly where none waits.
use Rattle.std.proofs.Common.{◌≡◌, ◌↔◌, ℕ, List, [], ◌∷◌, Bool, true, false, ◌||◌, ◌==◌, Result, Ok, Err, IfOk, if◌then◌else◌, refl, sym, ap, subst}
use Rattle.std.specs.List.{list_any}
use Rattle.b2_base.specs.declared.bytes.NoMemory.{NoMemory}
use Rattle.b2_term.specs.Terminal.{Typing, Reading, reading, ended, from_end, before_end, type_key, type_keys, ends_line}
use Rattle.b2_term.specs.declared.KeyItem.{KeyItem}
use Rattle.b2_term.specs.declared.KeyItem.TheVariants.{Byte, Special}
use Rattle.b2_term.specs.declared.Read.{Read}
use Rattle.b2_term.specs.declared.Read.TheVariants as read

by_test : (test : Bool) (b : ℕ) (ks : List KeyItem) (t : Typing)
    → ((ended (from_end ks) (type_keys (before_end ks) (type_key (Byte b) t))).answer ≡ read.NoKeys) ↔ (list_any ends_line ks ≡ false)
    → ((ended (if test then Byte b ∷ ks else from_end ks) (type_keys (if test then [] else Byte b ∷ before_end ks) t)).answer ≡ read.NoKeys) ↔ ((test || list_any ends_line ks) ≡ false)
by_test true b ks t h = (λ e. cc, λ e. cc)
by_test false b ks t h = h

no_keys : (ks : List KeyItem) (t : Typing) → ((reading ks t).answer ≡ read.NoKeys) ↔ (list_any ends_line ks ≡ false)
no_keys [] t = (λ e. refl, λ e. refl)
no_keys (Byte b ∷ ks) t = by_test (b == 13) b ks t (no_keys ks (type_key (Byte b) t))
no_keys (Special n ∷ ks) t = (λ e. cc, λ e. cc)

pub no_keys_told : (result : Result Read NoMemory) (queue ks : List KeyItem) (line transcript : List ℕ) (t : Typing)
    → IfOk result (λ r. record { answer = r; queue = queue; line = line; transcript = transcript } ≡ reading ks t)
    → IfOk result (λ r. (r ≡ read.NoKeys) ↔ (list_any ends_line ks ≡ false))
no_keys_told (Ok r) queue ks line transcript t h =
    subst (λ (x : Read). (x ≡ read.NoKeys) ↔ (list_any ends_line ks ≡ false)) (sym (ap (λ (x : Reading). x.answer) h)) (no_keys ks t)
no_keys_told (Err e) queue ks line transcript t h = tt
