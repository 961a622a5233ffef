-- What is read as a number is one as the machine has them.
use Rattle.std.proofs.Common.{◌≡◌, ℕ, ◌/◌, ◌%◌, ◌==◌, ◌&&◌, ◌||◌, not, nat_le, nat_lt, Bool, true, false, if◌then◌else◌, List, Option, Some, None, IfSome, Ok, Err, true≢false, ap₂, refl, sym}
use Rattle.std.specs.Str.{bytes_eq}
use Rattle.std.proofs.lemmas.Bool.{and_parts, eqb-true, leb-true, lt-leb, ltb-true}
use Rattle.b2_base.specs.Lexical.{first}
use Rattle.b2_dec.specs.Number.{Number, IsNumber, zero_number}
use Rattle.b2_dec.specs.Packing.{packed, pairs_value}
use Rattle.b2_dectext.specs.NumberText.{in_result, number_len, number_read, number_value}
use Rattle.b2_atom.specs.Words.{Text}
use Rattle.b2_pack.specs.PackedNumbers.{is_number, number_of_nibbles, unpacked}
use Rattle.b2_expr.specs.Answers.{Answer}
use Rattle.b2_stmt_file.specs.SavedNumbers.{GivesNumber}
use Rattle.b2_stmt_file.proofs.NumbersGiven.{parts_give}

-- one that a text begins with
result_is : (r : Answer) → GivesNumber r → IfSome (in_result r) IsNumber
result_is (Ok x) is = is
result_is (Err code) is = tt

none_or : (b : Bool) (o : Option Number) → IfSome o IsNumber → IfSome (if b then None else o) IsNumber
none_or true o h = tt
none_or false o h = h

pub read_is : (text : Text) → IfSome (number_read text) IsNumber
unfolding number_read
read_is text = none_or (number_len text == 0) (in_result (number_value text)) (result_is (number_value text) (parts_give text))

-- one that is packed in eight bytes
other_of : (a b : Bool) → (a || b) ≡ true → a ≡ false → b ≡ true
other_of true b either none = absurd (true≢false none)
other_of false b either none = either

spelled_zero : (neg : Bool) (coef place : ℕ) → ((coef == 0) && (place == 99) && not neg) ≡ true → let x : Number = record { neg = neg; coef = coef; place = place } in x ≡ zero_number
spelled_zero true coef place is = absurd (true≢false (sym (and_parts ((coef == 0) && (place == 99)) false is).1))
spelled_zero false coef place is =
    let both = and_parts (coef == 0) (place == 99) (and_parts ((coef == 0) && (place == 99)) true is).0 in
    ap₂ (λ (c p : ℕ). let x : Number = record { neg = false; coef = c; place = p } in x) (eqb-true coef 0 both.0) (eqb-true place 99 both.1)

pub tested_is : (x : Number) → is_number x ≡ true → IsNumber x
tested_is x is =
    let outer = and_parts (nat_lt x.coef 10000000000000 && nat_le x.place 198) (nat_le 1000000000000 x.coef || ((x.coef == 0) && (x.place == 99) && not x.neg)) is in
    let inner = and_parts (nat_lt x.coef 10000000000000) (nat_le x.place 198) outer.0 in
    record {
      digits = ltb-true x.coef 10000000000000 inner.0;
      highest = leb-true x.place 198 inner.1;
      spelling = λ few. spelled_zero x.neg x.coef x.place (other_of (nat_le 1000000000000 x.coef) ((x.coef == 0) && (x.place == 99) && not x.neg) outer.1 (lt-leb 1000000000000 x.coef few));
    }

some_where : (b : Bool) (x : Number) → (b ≡ true → IsNumber x) → IfSome (if b then Some x else None) IsNumber
some_where true x h = h refl
some_where false x h = tt

pub unpacked_is : (bytes : List ℕ) → IfSome (unpacked bytes) IsNumber
unfolding unpacked
unpacked_is bytes =
    let x : Number = number_of_nibbles (first bytes / 16) (pairs_value 0 bytes % 1000000000000000) in
    some_where (is_number x && bytes_eq (packed x) bytes) x (λ passed. tested_is x (and_parts (is_number x) (bytes_eq (packed x) bytes) passed).0)
