-- The laws of receivers: what STR names, and when a receiver is reached.
use Rattle.std.proofs.Common.{◌≡◌, ℕ, ◌-◌, ◌==◌, Bool, true, false, if◌then◌else◌, List, [], ◌∷◌, length, take, drop, length-drop, refl, sym, ap, ◌∙◌, Ok, Err, Result, Option, Some, None, true≢false}
use Rattle.b2_base.specs.declared.codes.Fault.TheVariants as fault
use Rattle.b2_base.specs.declared.codes.TheConstants.{A02_DATA_AREA, P34_RANGE, P57_SUBSCRIPT, P59_NO_ARRAY, X75_NOT_DECIMAL}
use Rattle.b2_dec.specs.Number.{Number}
use Rattle.b2_vars.specs.Answers.{code_if, first_of}
use Rattle.b2_vars.specs.Tables.{VarsState}
use Rattle.b2_alpha.specs.Sums.{are_decimal, decimal_difference, decimal_sum}
use Rattle.b2_expr.specs.Answers.{TextAnswer, ◌>>=◌}
use Rattle.b2_vars.specs.Assigned.{Assigned}
use Rattle.b2_receiver.specs.Assigning.{unless_refused, receiver_code, with_made, reached_by, portion_in}
use Rattle.b2_expr.specs.Functions.{whole_between}
use Rattle.b2_receiver.specs.Receivers.{portion_count}
use Rattle.b2_receiver.specs.ReceiverLaws.{EachPartIsAPortion, SameWhereNotReached, NoCodeWhereReached}
use Rattle.b2_receiver.specs.RightSide.{SideResult, side_made, made_by, made_then, operated}
use Rattle.b2_expr.specs.Value.{counted_bytes}
use Rattle.b2_receiver.specs.declared.operations.AlphaOperator.{AlphaOperator}
use Rattle.b2_receiver.specs.declared.operations.AlphaOperator.TheVariants as op
use Rattle.b2_receiver.specs.declared.operations.Operation.{Operation}
use Rattle.b2_receiver.specs.declared.receiver.Portion.{Portion}

-- STR names the bytes that it gives
all_taken : (xs : List ℕ) → take (length xs) xs ≡ xs
all_taken [] = refl
all_taken (x ∷ xs) = ap (λ (t : List ℕ). x ∷ t) (all_taken xs)

counted_by : (bytes : List ℕ) (from : ℕ) (r : Result ℕ ℕ)
    → (r >>= (λ n. Ok (take n (drop from bytes)))) ≡ (r >>= (λ k. Ok (record { from = from; count = k })) >>= (λ (p : Portion). Ok (take p.count (drop p.from bytes))))
counted_by bytes from (Ok n) = refl
counted_by bytes from (Err code) = refl

part_by : (bytes : List ℕ) (y : Option Number) (r : Result ℕ ℕ)
    → (r >>= (λ s. counted_bytes (drop (s - 1) bytes) y)) ≡ (r >>= (λ s. portion_count (length bytes - (s - 1)) y >>= (λ k. Ok (record { from = s - 1; count = k }))) >>= (λ (p : Portion). Ok (take p.count (drop p.from bytes))))
part_by bytes y (Err code) = refl
part_by bytes None (Ok s) = ap Ok (sym (ap (λ (n : ℕ). take n (drop (s - 1) bytes)) (sym (length-drop (s - 1) bytes)) ∙ all_taken (drop (s - 1) bytes)))
part_by bytes (Some y) (Ok s) =
    ap (λ (n : ℕ). whole_between 1 n y >>= (λ k. Ok (take k (drop (s - 1) bytes)))) (length-drop (s - 1) bytes)
    ∙ counted_by bytes (s - 1) (whole_between 1 (length bytes - (s - 1)) y)

pub each_part_is_a_portion : EachPartIsAPortion
each_part_is_a_portion bytes x y = part_by bytes y (whole_between 1 (length bytes) x)

-- an operation refuses with X75 alone
decimal_code : (b : Bool) (bytes : List ℕ) (c : ℕ) → ◌≡◌ {A = TextAnswer} (if b then Ok bytes else Err X75_NOT_DECIMAL) (Err c) → c ≡ X75_NOT_DECIMAL
decimal_code true bytes c h = cc
decimal_code false bytes c h = cc

operation_code : (o : AlphaOperator) (to operand : List ℕ) (c : ℕ) → operated o to operand ≡ Err c → c ≡ X75_NOT_DECIMAL
operation_code (op.Bool d) to operand c h = cc
operation_code op.Add to operand c h = cc
operation_code op.Addc to operand c h = cc
operation_code op.Sub to operand c h = cc
operation_code op.Subc to operand c h = cc
operation_code op.Dac to operand c h = decimal_code (are_decimal to operand) (decimal_sum to operand) c h
operation_code op.Dsc to operand c h = decimal_code (are_decimal to operand) (decimal_difference to operand) c h

made_code_by : (x : TextAnswer) (to : List ℕ) (next : List ℕ → SideResult) (c : ℕ) → ((d : ℕ) → x ≡ Err d → d ≡ X75_NOT_DECIMAL) → ((new : List ℕ) → (next new).code ≡ Some c → c ≡ X75_NOT_DECIMAL)
    → (made_then to x next).code ≡ Some c → c ≡ X75_NOT_DECIMAL
made_code_by (Ok new) to next c here later h = later new h
made_code_by (Err d) to next c here later h = same d c h ∙ here d refl
  where
    same : (d c : ℕ) → ◌≡◌ {A = Option ℕ} (Some d) (Some c) → c ≡ d
    same d c h = cc

pub made_code : (os : List Operation) (to : List ℕ) (c : ℕ) → (made_by os to).code ≡ Some c → c ≡ X75_NOT_DECIMAL
made_code [] to c h = cc
made_code (o ∷ os) to c h =
    made_code_by (operated o.operator to o.operand) to (made_by os) c (λ d is. operation_code o.operator to o.operand d is) (λ new is. made_code os new c is) h

-- where nothing is reached nothing changes
not_decimal : (c : ℕ) → c ≡ X75_NOT_DECIMAL → (c == X75_NOT_DECIMAL) ≡ false → ⊥
not_decimal c is missed = true≢false (sym (ap (λ (n : ℕ). n == X75_NOT_DECIMAL) is) ∙ missed)

same_by : (code : Option ℕ) (old new : VarsState) (a : Assigned) (c : ℕ) → ((d : ℕ) → a.code ≡ Some d → d ≡ X75_NOT_DECIMAL) → (unless_refused code old a).code ≡ Some c → new ≡ (unless_refused code old a).vars
    → (c == X75_NOT_DECIMAL) ≡ false → new ≡ old
same_by None old new a c x75 is left missed = absurd (not_decimal c (x75 c is) missed)
same_by (Some d) old new a c x75 is left missed = left

pub same_where_not_reached : SameWhereNotReached
same_where_not_reached to side old new (Ok done) ends missed = absurd (true≢false missed)
same_where_not_reached to side old new (Err fault.NoMemory) ends missed = ends
same_where_not_reached to side old new (Err (fault.Code c)) ends missed =
    same_by (receiver_code to old) old new (with_made to (reached_by to old) (side_made side (portion_in to (reached_by to old)))) c
    (λ d is. made_code side.operations _ d is) ends.0 ends.1 missed

-- a code of a receiver isn't X75
none_by : (a b c d : Bool) (n : ℕ) → first_of (code_if a P59_NO_ARRAY ∷ code_if b P57_SUBSCRIPT ∷ code_if c P34_RANGE ∷ code_if d A02_DATA_AREA ∷ []) ≡ Some n → (n == X75_NOT_DECIMAL) ≡ false
none_by true b c d n h = let e : n ≡ P59_NO_ARRAY = cc in ap (λ (k : ℕ). k == X75_NOT_DECIMAL) e
none_by false true c d n h = let e : n ≡ P57_SUBSCRIPT = cc in ap (λ (k : ℕ). k == X75_NOT_DECIMAL) e
none_by false false true d n h = let e : n ≡ P34_RANGE = cc in ap (λ (k : ℕ). k == X75_NOT_DECIMAL) e
none_by false false false true n h = let e : n ≡ A02_DATA_AREA = cc in ap (λ (k : ℕ). k == X75_NOT_DECIMAL) e
none_by false false false false n h = cc

reached_by_code : (code : Option ℕ) (old : VarsState) (a : Assigned) (c : ℕ) → ((n : ℕ) → code ≡ Some n → (n == X75_NOT_DECIMAL) ≡ false) → (unless_refused code old a).code ≡ Some c
    → (c == X75_NOT_DECIMAL) ≡ true → code ≡ None
reached_by_code None old a c other is reached = refl
reached_by_code (Some d) old a c other is reached = absurd (true≢false (sym reached ∙ sym (ap (λ (k : ℕ). k == X75_NOT_DECIMAL) (same d c is)) ∙ other d refl))
  where
    same : (d c : ℕ) → ◌≡◌ {A = Option ℕ} (Some d) (Some c) → d ≡ c
    same d c h = cc

well_by : (code : Option ℕ) (old : VarsState) (a : Assigned) → (unless_refused code old a).code ≡ None → code ≡ None
well_by None old a is = refl
well_by (Some d) old a is = is

pub no_code_where_reached : NoCodeWhereReached
no_code_where_reached to side old new (Ok done) ends reached = well_by (receiver_code to old) old _ ends.0
no_code_where_reached to side old new (Err fault.NoMemory) ends reached = absurd (true≢false (sym reached))
no_code_where_reached to side old new (Err (fault.Code c)) ends reached =
    reached_by_code (receiver_code to old) old (with_made to (reached_by to old) (side_made side (portion_in to (reached_by to old)))) c
    (λ n is. none_by _ _ _ _ n is) ends.0 reached
